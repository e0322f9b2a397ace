-- The withdrawal of a filing, and the filings that stand on another (this register's own rules).
use Rattle.std.specs.Prelude.{ℕ, List, [], ◌∷◌, ◌==◌, Bool, true, false, if◌then◌else◌}
use Rattle.std.specs.List.{list_any}
use Rattle.bor_records.specs.Admission.{is_of}
use Rattle.bor_register.specs.declared.filing.AcceptedFiling.{AcceptedFiling}

-- the other filing has a live statement of one of this filing's records; a withdrawn filing has no
-- statements
abbrev pub shares_record : AcceptedFiling → AcceptedFiling → Bool
shares_record f other =
    list_any (λ s. list_any (λ t. is_of s.declaration s.rec t) other.statements) f.statements

-- whether a filing that was accepted later has a live statement of one of the records of the filing
-- with this number
abbrev pub has_successor : ℕ → List AcceptedFiling → Bool
has_successor number [] = false
has_successor number (f ∷ fs) =
    if f.number == number then list_any (shares_record f) fs else has_successor number fs

-- the filing once it is withdrawn: its statements are gone; its number, key, due day and bytes stay
abbrev pub as_withdrawn : AcceptedFiling → AcceptedFiling
as_withdrawn f = record f { withdrawn = true; statements = [] }

-- the agent's filings once the one with this number is withdrawn
abbrev pub with_withdrawn : ℕ → List AcceptedFiling → List AcceptedFiling
with_withdrawn number [] = []
with_withdrawn number (f ∷ fs) =
    if f.number == number then as_withdrawn f ∷ fs else f ∷ with_withdrawn number fs
