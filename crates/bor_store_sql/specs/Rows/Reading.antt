-- Reading a row of a table.
use Rattle.std.specs.Prelude.{◌≡◌, ℕ, ◌+◌, Result, MatchResult}
use Rattle.sqlite.specs.declared.types.Value.{Value}
use Rattle.sqlite.specs.declared.types.Value.TheVariants.{Null}
use Rattle.sqlite.specs.Order.{Row, column}
use Rattle.bor_store_sql.specs.declared.rows.fault.RowFault.{RowFault}
use Rattle.bor_store_sql.specs.declared.rows.fault.RowFault.TheVariants as faults

-- the value is read, or memory is wanting
abbrev pub IsRead : {X : Type 0} → Result X RowFault → X → Type 0
IsRead result x = MatchResult result (λ y. y ≡ x) (λ fault. fault ≡ faults.Memory)

-- from this column on, a row has these four
abbrev pub HasFour : Row → ℕ → Row → Type 0
HasFour row at four =
    (column row at ≡ column four 0) × (column row (at + 1) ≡ column four 1)
    × (column row (at + 2) ≡ column four 2)
    × (column row (at + 3) ≡ column four 3)

-- both values are null
abbrev pub AreNull : Value → Value → Type 0
AreNull first second = (first ≡ Null) × (second ≡ Null)
