-- The rows of a register that are open on a day. A series is the statements of one record of an
-- agent's declaration.
use Rattle.std.specs.Prelude.{ℤ, List, [], ◌∷◌, Bool, not, ◌&&◌, if◌then◌else◌}
use Rattle.std.specs.List.{list_any}
use Rattle.bor_terms.specs.Texts.{is_same}
use Rattle.bor_records.specs.declared.row.Row.{Row}
use Rattle.bor_records.specs.Admission.{is_closed}
use Rattle.bor_records.specs.Snapshot.{is_dated}

-- a row is of the same series as this one
abbrev pub is_beside : Row → Row → Bool
is_beside r x =
    is_same x.agent r.agent
    && (is_same x.statement.declaration r.statement.declaration
    && is_same x.statement.rec r.statement.rec)

-- `later` are the rows behind r, in order of acceptance. r is open where it is dated by the day,
-- closes nothing, and no row of its record that is dated by the day stands behind it.
abbrev pub is_open_before : ℤ → Row → List Row → Bool
is_open_before day r later =
    is_dated day r && not (is_closed r.status)
    && not (list_any (λ x. is_beside r x && is_dated day x) later)

-- the latest statements of the open series, in the order of the rows
abbrev pub open_rows : ℤ → List Row → List Row
open_rows day [] = []
open_rows day (r ∷ rows) =
    if is_open_before day r rows then r ∷ open_rows day rows else open_rows day rows
