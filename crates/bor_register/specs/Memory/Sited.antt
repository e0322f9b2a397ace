-- An agent's live statements with where they stand; for clauses of private functions alone.
use Rattle.std.specs.Prelude.{◌≡◌, ◌<◌, ◌+◌, ◌++◌, ◌&&◌, ℕ, ℤ, int_le, List, [], ◌∷◌, length, Bool}
use Rattle.std.specs.Prelude.{false, filter, Option, None, Some, option_map, option_and_then}
use Rattle.std.specs.Prelude.{slice_get, if◌then◌else◌}
use Rattle.std.specs.List.{filter_map, AllByRecursion}
use Rattle.bods_read.specs.declared.statement.Statement.{Statement}
use Rattle.bor_register.specs.declared.filing.AcceptedFiling.{AcceptedFiling}
use Rattle.bor_register.specs.declared.memory.index.Place.{Place}
use Rattle.bor_records.specs.declared.row.Row.{Row}
use Rattle.bor_register.specs.Rows.{is_visible, row_of}

-- a live statement, with its filing and where it stands: at which place there, and which filing
-- that is, both from 0
pub record Sited : Type 0 where
  pub filing : AcceptedFiling
  pub place : Place
  pub statement : Statement

-- the statements of the filing at an index, from a place on
abbrev pub sited_from : ℕ → AcceptedFiling → ℕ → List Statement → List Sited
sited_from i f j [] = []
sited_from i f j (s ∷ ss) =
    record { filing = f; place = record { filing = i; statement = j }; statement = s }
    ∷ sited_from i f (j + 1) ss

-- the live statements of an agent's filings, of which the first has this index, in order of
-- acceptance and of place
abbrev pub sited_in : ℕ → List AcceptedFiling → List Sited
sited_in i [] = []
sited_in i (f ∷ fs) = sited_from i f 0 f.statements ++ sited_in (i + 1) fs

-- the statement of a filing at a place
abbrev pub sited_of : Place → AcceptedFiling → Option Sited
sited_of p f =
    option_map (λ s. let x : Sited = record { filing = f; place = p; statement = s } in x)
    (slice_get f.statements p.statement)

-- the live statement at a place
abbrev pub sited_at : List AcceptedFiling → Place → Option Sited
sited_at fs p = option_and_then (sited_of p) (slice_get fs p.filing)

-- there is such a statement, and it passes
abbrev pub passes : (Sited → Bool) → Option Sited → Bool
passes test None = false
passes test (Some x) = test x

-- the viewer sees a statement of the agent on the register's day, and it is dated at or before the
-- day
abbrev pub is_told : List ℕ → ℤ → ℤ → List ℕ → Sited → Bool
is_told viewer today day agent x =
    is_visible viewer today agent x.filing && int_le x.statement.day day

-- the row of an agent's statement, by where it stands
abbrev pub row_sited : List ℕ → Sited → Row
row_sited agent x = row_of agent x.filing.number (x.place.statement + 1) x.statement

-- the places of those of a filing's statements that pass, from a place on
abbrev pub places_from : (Statement → Bool) → ℕ → ℕ → List Statement → List Place
places_from test i j [] = []
places_from test i j (s ∷ ss) =
    if test s then record { filing = i; statement = j } ∷ places_from test i (j + 1) ss
    else places_from test i (j + 1) ss

-- The places, in order, of the live statements that pass. A place may have lost its statement, and
-- none is beyond the filings.
pub record ArePlacesOf (fs : List AcceptedFiling) (test : Statement → Bool)
    (places : List Place) : Type 0 where
  pub told : filter_map (sited_at fs) places ≡ filter (λ x. test x.statement) (sited_in 0 fs)
  pub within : AllByRecursion (λ p. p.filing < length fs) places
