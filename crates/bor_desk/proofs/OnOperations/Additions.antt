-- What follows where the statements of a file are settled; and that they may be added.
use Rattle.std.proofs.Common.{◌≡◌, ℕ, ℤ, ◌+◌, List, [], ◌∷◌, ◌++◌, Result, Ok, Err, refl, ◌∙◌, sym, arith, false, Bool}
use Rattle.std.specs.Prelude.{if◌then◌else◌}
use Rattle.bods_read.specs.declared.statement.Statement.{Statement}
use Rattle.bods_read.specs.declared.statement.Status.{Status}
use Rattle.bor_records.specs.declared.fault.RecordFault.{RecordFault}
use Rattle.bor_records.specs.Admission.{Live, admitted}
use Rattle.bor_records.specs.Settling.{Refusal, PlacedRefusal, statement_twice, has_id, verdict, as_settled, as_live, ahead, settled_then, settled_from, settled}
use Rattle.bor_records.proofs.Settled.{of_rules, verdict_is}
use Rattle.bor_desk.specs.Operations.Lodging.{told_settled, settled_reading, addition}
use Rattle.bods_read.specs.declared.fault.FileFault.{FileFault}
use Rattle.bods_read.specs.File.{reading}
use Rattle.bor_register.specs.Live.{live_of, accepted, AreNew}
use Rattle.bor_register.proofs.Additions.{settled_are_new}
use Rattle.bor_desk.specs.Operations.Sight.{Sight}
use Rattle.bor_desk.proofs.OnOperations.Lodgings.{addition_is}

pub told_is : (told : Result (List Statement) PlacedRefusal) (ss : List Statement) → told_settled told ≡ Ok ss → told ≡ Ok ss
told_is told ss h = grind arith

-- a statement that is settled: its identifier is free and its record's rules admit it
pub verdict_gives : (live : List Live) (s : Statement) (due : ℤ) (status : Status) → verdict live s due ≡ Ok status → (has_id s.id live ≡ false) × (admitted live s due ≡ Ok status)
verdict_gives live s due status h = by_tests (has_id s.id live) (admitted live s due) (sym (verdict_is live s due) ∙ h)
  where
    by_tests : (taken : Bool) (r : Result Status RecordFault) → (if taken then Err statement_twice else of_rules r) ≡ Ok status → (taken ≡ false) × (r ≡ Ok status)
    by_tests taken r e = grind arith

-- The settled status of the first statement of a file, and those after it.
pub record IsFirstSettled (place : ℕ) (live : List Live) (due : ℤ) (s : Statement) (ss out : List Statement) : Type 0 where
  pub status : Status
  pub others : List Statement
  pub first : verdict live s due ≡ Ok status
  pub later : settled_from (place + 1) (live ++ as_live due (as_settled status s) ∷ []) due ss ≡ Ok others
  pub all : as_settled status s ∷ others ≡ out

pub first_settled : (place : ℕ) (live : List Live) (due : ℤ) (s : Statement) (ss out : List Statement) → settled_from place live due (s ∷ ss) ≡ Ok out → IsFirstSettled place live due s ss out
first_settled place live due s ss out h = by_verdict (verdict live s due) refl h
  where
    rest : Statement → Result (List Statement) PlacedRefusal
    rest t = settled_from (place + 1) (live ++ as_live due t ∷ []) due ss

    by_rest : (status : Status) (r : Result (List Statement) PlacedRefusal) → verdict live s due ≡ Ok status → rest (as_settled status s) ≡ r → ahead (as_settled status s) r ≡ Ok out → IsFirstSettled place live due s ss out
    by_rest status (Err why) v e is = absurd cc
    by_rest status (Ok ts) v e is = record { status = status; others = ts; first = v; later = e; all = cc }

    by_verdict : (v : Result Status Refusal) → verdict live s due ≡ v → settled_then place s v rest ≡ Ok out → IsFirstSettled place live due s ss out
    by_verdict (Err why) e is = absurd cc
    by_verdict (Ok status) e is = by_rest status (rest (as_settled status s)) e refl is

pub read_are_new : (live : List Live) (due : ℤ) (file : Result (List Statement) FileFault) (ss : List Statement) → settled_reading live due file ≡ Ok ss → AreNew live ss
read_are_new live due (Ok statements) ss h = settled_are_new live due statements ss (told_is (settled live due statements) ss h)
read_are_new live due (Err fault) ss h = absurd cc

-- the statements of the filing that a lodging adds may be added
pub addition_new : (s : Sight) (key : List ℕ) (due : ℤ) (bytes : List ℕ) (ss : List Statement) → addition s key due bytes ≡ Ok (accepted s.own key due bytes ss) → AreNew (live_of s.own) ss
addition_new s key due bytes ss h = read_are_new (live_of s.own) due (reading bytes) ss (addition_is s key due bytes (accepted s.own key due bytes ss) h).0
