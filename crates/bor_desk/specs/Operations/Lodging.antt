-- The answer to a lodging, and the register after it, by what its agent can see (this register's
-- own rules, over statements of BODS 0.4).
use Rattle.std.specs.Prelude.{ℕ, ℤ, int_lt, nat_le, List, [], ◌∷◌, ◌++◌, length, Bool, ◌&&◌, true}
use Rattle.std.specs.Prelude.{false, Option, Some, None, Result, Ok, Err, if◌then◌else◌}
use Rattle.std.specs.Ordering.{int_eq}
use Rattle.bor_terms.specs.Texts.{is_same}
use Rattle.bods_read.specs.declared.statement.Statement.{Statement}
use Rattle.bods_read.specs.declared.statement.Status.{Status}
use Rattle.bods_read.specs.declared.fault.FileFault.{FileFault}
use Rattle.bods_read.specs.File.{reading}
use Rattle.bor_records.specs.Admission.{Live}
use Rattle.bor_records.specs.Settling.{Refusal, statement_twice, by_record, PlacedRefusal, settled}
use Rattle.bor_register.specs.declared.filing.AcceptedFiling.{AcceptedFiling}
use Rattle.bor_register.specs.Register.{Register, filing_keyed, with_filings}
use Rattle.bor_register.specs.Publication.{state_of}
use Rattle.bor_register.specs.Live.{live_of, accepted}
use Rattle.bor_desk.specs.declared.operations.fault.LodgeFault.{LodgeFault}
use Rattle.bor_desk.specs.declared.operations.fault.LodgeFault.TheVariants.{KeyReused, FilingsFull}
use Rattle.bor_desk.specs.declared.operations.fault.LodgeFault.TheVariants.{DuePast, Read}
use Rattle.bor_desk.specs.declared.operations.fault.LodgeFault.TheVariants.{StatementTwice, Record}
use Rattle.bor_desk.specs.declared.operations.lodging.Lodged.{Lodged}
use Rattle.bor_register.specs.Limits.{filings_limit}
use Rattle.bor_desk.specs.Operations.Sight.{Sight, sight_of, Outcome}

-- ---- the statements of a file

-- the fault that answers a statement that is refused
abbrev pub lodge_fault_at : ℕ → Refusal → LodgeFault
lodge_fault_at place statement_twice = StatementTwice place
lodge_fault_at place (by_record fault) = Record place fault

abbrev pub told_settled : Result (List Statement) PlacedRefusal → Result (List Statement) LodgeFault
told_settled (Ok statements) = Ok statements
told_settled (Err refusal) = Err (lodge_fault_at refusal.place refusal.why)

-- the statements that a file is read to, their statuses settled after the agent's live statements;
-- or the first fault of the file, or the first place that is refused
abbrev pub settled_reading : List Live → ℤ → Result (List Statement) FileFault
    → Result (List Statement) LodgeFault
settled_reading live due (Ok statements) = told_settled (settled live due statements)
settled_reading live due (Err fault) = Err (Read fault)

-- ---- a key that is there

-- the answer to the agent on a filing on a day
abbrev pub told_of : Bool → ℤ → AcceptedFiling → Lodged
told_of fresh day f =
    record { number = f.number; due = f.due; state = state_of day f; fresh = fresh }

-- With the same due day and bytes the answer is the filing that is there, with its state now;
-- anything else is refused.
abbrev pub repeated : ℤ → ℤ → List ℕ → AcceptedFiling → Result Lodged LodgeFault
repeated day due bytes f =
    if int_eq f.due due && is_same f.bytes bytes then Ok (told_of false day f) else Err KeyReused

-- ---- a key that is new

abbrev pub filing_of : List AcceptedFiling → List ℕ → ℤ → List ℕ
    → Result (List Statement) LodgeFault → Result AcceptedFiling LodgeFault
filing_of own key due bytes (Ok statements) = Ok (accepted own key due bytes statements)
filing_of own key due bytes (Err fault) = Err fault

-- The filing that is added, or why it is refused: the agent has as many filings as one may have,
-- withdrawn ones included; the due day is before the register's; the file's first fault; the first
-- place that is refused.
abbrev pub addition : Sight → List ℕ → ℤ → List ℕ → Result AcceptedFiling LodgeFault
addition sight key due bytes =
    if nat_le filings_limit (length sight.own) then Err FilingsFull
    else (if int_lt due sight.day then Err DuePast
    else filing_of sight.own key due bytes
    (settled_reading (live_of sight.own) due (reading bytes)))

abbrev pub told_added : ℤ → Result AcceptedFiling LodgeFault → Result Lodged LodgeFault
told_added day (Ok f) = Ok (told_of true day f)
told_added day (Err fault) = Err fault

abbrev pub own_added : List AcceptedFiling → Result AcceptedFiling LodgeFault → List AcceptedFiling
own_added own (Ok f) = own ++ f ∷ []
own_added own (Err fault) = own

-- ---- the lodging

abbrev pub lodging_at : Sight → List ℕ → ℤ → List ℕ → Option AcceptedFiling
    → Result Lodged LodgeFault
lodging_at sight key due bytes (Some f) = repeated sight.day due bytes f
lodging_at sight key due bytes None = told_added sight.day (addition sight key due bytes)

abbrev pub own_lodged_at : Sight → List ℕ → ℤ → List ℕ → Option AcceptedFiling → List AcceptedFiling
own_lodged_at sight key due bytes (Some f) = sight.own
own_lodged_at sight key due bytes None = own_added sight.own (addition sight key due bytes)

-- the answer to the agent, by what it can see
abbrev pub lodging : Sight → List ℕ → ℤ → List ℕ → Result Lodged LodgeFault
lodging sight key due bytes = lodging_at sight key due bytes (filing_keyed key sight.own)

-- the agent's filings after it
abbrev pub own_lodged : Sight → List ℕ → ℤ → List ℕ → List AcceptedFiling
own_lodged sight key due bytes = own_lodged_at sight key due bytes (filing_keyed key sight.own)

-- the lodging of a file by an agent
abbrev pub lodge_step : Register → List ℕ → List ℕ → ℤ → List ℕ → Outcome (Result Lodged LodgeFault)
lodge_step r name key due bytes =
    let sight = sight_of name r in
    record {
      answer = lodging sight key due bytes;
      register = record r
          { members = with_filings name (own_lodged sight key due bytes) r.members };
    }

-- ---- for clauses of private functions alone

-- the status that a statement is settled as, or the fault that answers its refusal
abbrev pub told_verdict : ℕ → Result Status Refusal → Result Status LodgeFault
told_verdict place (Ok status) = Ok status
told_verdict place (Err why) = Err (lodge_fault_at place why)

-- the answer to a lodging, by the reading of its file
abbrev pub as_read : Result (List Statement) FileFault → Result (List Statement) LodgeFault
as_read (Ok statements) = Ok statements
as_read (Err fault) = Err (Read fault)
