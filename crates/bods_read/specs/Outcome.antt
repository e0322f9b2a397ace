-- The outcome of reading: the value where no line of the table of faults fails, and otherwise the
-- first line that does.
use Rattle.std.specs.Prelude.{◌≡◌, ◌+◌, ℕ, List, [], ◌∷◌, ◌++◌, Result, Ok, Err, Bool}
use Rattle.std.specs.Prelude.{if◌then◌else◌}
pub use Rattle.bor_terms.specs.Tables.{outcome, table}
use Rattle.bods_read.specs.declared.fault.Fault.{Fault}
use Rattle.bods_read.specs.declared.trouble.Trouble.{Trouble}
use Rattle.bods_read.specs.declared.trouble.Trouble.TheVariants as troubles

-- a line of the table: it fails with this fault unless the test holds
abbrev pub unless : Bool → Fault → List Fault
unless holds fault = if holds then [] else fault ∷ []

-- the lines about each item, with its place, from this place on
abbrev pub lines_from : {F D : Type 0} → (ℕ → D → List F) → ℕ → List D → List F
lines_from lines place [] = []
lines_from lines place (d ∷ ds) = lines place d ++ lines_from lines (place + 1) ds

-- ---- for clauses of private functions alone

-- a fault that a part of the reader returned is the outcome; of want of memory nothing is said
abbrev pub Fails : {Y : Type 0} → Trouble → Result Y Fault → Type 0
Fails troubles.Memory read = Unit {0}
Fails (troubles.Fault fault) read = read ≡ Err fault

-- the value that a part of the reader returned, seen by view, is the outcome
abbrev pub Gives : {X Y : Type 0} → (X → Y) → Result X Trouble → Result Y Fault → Type 0
Gives view (Ok x) read = read ≡ Ok (view x)
Gives view (Err trouble) read = Fails trouble read
