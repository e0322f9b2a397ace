-- The tables after each statement of the move from version 1, for clauses of private functions
-- alone.
use Rattle.std.specs.Prelude.{◌≤◌, ◌++◌, [], ◌∷◌, ℤ, Bool, cond, filter, length, List, map}
use Rattle.sqlite.specs.Effect.{Database}
use Rattle.sqlite.specs.Order.{Row, column}
use Rattle.sqlite.specs.Cast.{cast_all}
use Rattle.sqlite.specs.declared.types.Value.TheVariants.{Int}
use Rattle.bor_store_sql.specs.Texts.Changes.{equals_number}
use Rattle.bor_store_sql.specs.Texts.Tables.{register_table}
use Rattle.bor_store_sql.specs.Changing.{row_passes}
use Rattle.bor_store_sql.specs.Rows.Encoding.{Contents, period_columns, tables_version}
use Rattle.bor_store_sql.specs.Shown.{Has, HasFirst}
use Rattle.bor_store_sql.specs.declared.rows.typed.PeriodRow.{PeriodRow}

-- the row is the register's: its first column is 1
abbrev pub is_the_row : ℤ → Row → Bool
is_the_row version = row_passes (equals_number 1 1 ∷ []) (Int version ∷ [])

-- the register's row, once it is of this version
abbrev pub versioned : ℤ → Row → Row
versioned version x =
    cast_all register_table.columns (column x 0 ∷ Int version ∷ column x 2 ∷ column x 3 ∷ [])

abbrev pub with_version : ℤ → Contents → Contents
with_version version t =
    record t
    { register = map (λ x. cond (is_the_row version x) (versioned version x) x) t.register }

-- the table register has at most one such row
abbrev pub IsOneVersion : ℤ → Contents → Type 0
IsOneVersion version t = length (filter (is_the_row version) t.register) ≤ 1

-- the table `period` is there, without rows
abbrev pub MakesPeriod : Database → Database → Type 0
MakesPeriod old new = (t : Contents) → HasFirst t old → Has (record t { periods = [] }) new

-- these periods are added
abbrev pub PutsPeriods : List PeriodRow → Database → Database → Type 0
PutsPeriods ps old new =
    (t : Contents) → Has t old → Has (record t { periods = t.periods ++ map period_columns ps }) new

-- the version is set
abbrev pub SetsVersion : Database → Database → Type 0
SetsVersion old new =
    (t : Contents) → IsOneVersion tables_version t → Has t old
    → Has (with_version tables_version t) new

-- the table is there with these rows, and the version is set
abbrev pub MovesRows : List PeriodRow → Database → Database → Type 0
MovesRows ps old new =
    (t : Contents) → IsOneVersion tables_version t → HasFirst t old
    → Has (with_version tables_version (record t { periods = map period_columns ps })) new
