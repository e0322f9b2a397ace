-- A refusal leaves the register as it was, and so does what is told again; and the register after a withdrawal, by the line that a keep returns of the filing.
use Rattle.std.proofs.Common.{◌≡◌, ℕ, ℤ, List, true, false, Ok, Err, refl, sym, ap, ◌∙◌, arith}
use Rattle.std.specs.Prelude.{Option, Some, None, ◌≢◌, option_map}
use Rattle.bor_register.specs.declared.filing.AcceptedFiling.{AcceptedFiling}
use Rattle.bor_register.specs.declared.filing.FilingLine.{FilingLine}
use Rattle.bor_register.specs.Register.{Register, filings_of, filing_keyed, with_filings}
use Rattle.bor_register.proofs.Members.{with_filings_same}
use Rattle.bor_desk.specs.declared.operations.fault.LodgeFault.{LodgeFault}
use Rattle.bor_desk.specs.declared.operations.fault.WithdrawFault.{WithdrawFault}
use Rattle.bor_desk.specs.declared.operations.fault.AdvanceFault.{AdvanceFault}
use Rattle.bor_desk.specs.declared.operations.fault.EnrolFault.{EnrolFault}
use Rattle.bor_desk.specs.declared.operations.lodging.Lodged.{Lodged}
use Rattle.bor_desk.specs.Operations.Sight.{Sight, sight_of}
use Rattle.bor_desk.specs.Operations.Lodging.{told_added, addition, lodging_at, own_lodged_at, lodging, own_lodged, lodge_step}
use Rattle.bor_desk.specs.Operations.Withdrawing.{withdrawal_at, own_withdrawn_at, withdrawal, own_withdrawn, withdraw_step}
use Rattle.bor_desk.specs.Operations.Registrar.{advance_step, enrol_step}
use Rattle.bor_desk.specs.Operations.Outcomes.{of_lodging, of_withdrawal, IsOutcome, Refuses}
use Rattle.bor_desk.proofs.OnOperations.Changes.{by_advance, by_enrolment}
use Rattle.bor_desk.proofs.OnOperations.Outcomes.{unless_store, refused}
use Rattle.bor_register.specs.declared.filing.State.TheVariants.{Withdrawn}
use Rattle.bor_register.specs.Publication.{state_of, line_of}
use Rattle.bor_register.specs.Withdrawal.{with_withdrawn}
use Rattle.bor_desk.proofs.OnOperations.Keyed.{keyed_some}

-- to write an agent's filings back changes nothing
pub written_back : (r : Register) (name : List ℕ) (own : List AcceptedFiling) → own ≡ filings_of name r.members → record r { members = with_filings name own r.members } ≡ r
written_back r name own same = ap (λ fs. record r { members = with_filings name fs r.members }) same ∙ ap (λ ms. record r { members = ms }) (with_filings_same name r.members)

-- ---- a lodging

own-refused_lodging : (s : Sight) (key : List ℕ) (due : ℤ) (bytes : List ℕ) (fault : LodgeFault) (at : Option AcceptedFiling) → lodging_at s key due bytes at ≡ Err fault → own_lodged_at s key due bytes at ≡ s.own
own-refused_lodging s key due bytes fault at h = grind arith

pub refused_lodging : (r : Register) (name key : List ℕ) (due : ℤ) (bytes : List ℕ) (fault : LodgeFault) → (lodge_step r name key due bytes).answer ≡ Err fault → (lodge_step r name key due bytes).register ≡ r
refused_lodging r name key due bytes fault h =
    let s = sight_of name r in
    written_back r name (own_lodged s key due bytes) (own-refused_lodging s key due bytes fault (filing_keyed key s.own) h)

-- an error that refuses the lodging is its outcome
pub refused_lodging-outcome : (shown : Register → Type 0) (r : Register) (name key : List ℕ) (due : ℤ) (bytes : List ℕ) (fault : LodgeFault) → Refuses of_lodging fault (lodging (sight_of name r) key due bytes) → shown r →
    IsOutcome {A = Lodged} of_lodging (Err fault) shown r (lodge_step r name key due bytes)
refused_lodging-outcome shown r name key due bytes fault h is =
    refused of_lodging fault shown r (lodge_step r name key due bytes) (unless_store (of_lodging fault) _ _ (λ told. (told, refused_lodging r name key due bytes fault told)) h) is

-- a file that may not be added refuses the lodging under a new key
pub refuses_new : (s : Sight) (key : List ℕ) (due : ℤ) (bytes : List ℕ) (fault : LodgeFault) → filing_keyed key s.own ≡ None → Refuses of_lodging fault (addition s key due bytes) → Refuses of_lodging fault (lodging s key due bytes)
refuses_new s key due bytes fault new h =
    unless_store (of_lodging fault) _ _ (λ told. ap (lodging_at s key due bytes) new ∙ ap (told_added s.day) told) h

-- ---- a withdrawal

own-refused_withdrawal : (s : Sight) (fault : WithdrawFault) (at : Option AcceptedFiling) → withdrawal_at s at ≡ Err fault → own_withdrawn_at s at ≡ s.own
own-refused_withdrawal s fault at h = grind arith

pub refused_withdrawal : (r : Register) (name key : List ℕ) (fault : WithdrawFault) → (withdraw_step r name key).answer ≡ Err fault → (withdraw_step r name key).register ≡ r
refused_withdrawal r name key fault h =
    let s = sight_of name r in
    written_back r name (own_withdrawn s key) (own-refused_withdrawal s fault (filing_keyed key s.own) h)

pub refused_withdrawal-outcome : (shown : Register → Type 0) (r : Register) (name key : List ℕ) (fault : WithdrawFault) → Refuses of_withdrawal fault (withdrawal (sight_of name r) key) → shown r →
    IsOutcome {A = FilingLine} of_withdrawal (Err fault) shown r (withdraw_step r name key)
refused_withdrawal-outcome shown r name key fault h is =
    refused of_withdrawal fault shown r (withdraw_step r name key) (unless_store (of_withdrawal fault) _ _ (λ told. (told, refused_withdrawal r name key fault told)) h) is

-- ---- what is told again

own-repeated : (s : Sight) (key : List ℕ) (due : ℤ) (bytes : List ℕ) (told : Lodged) (at : Option AcceptedFiling) → lodging_at s key due bytes at ≡ Ok told → told.fresh ≡ false → own_lodged_at s key due bytes at ≡ s.own
own-repeated s key due bytes told at h old = grind arith

pub repeated_lodging : (r : Register) (name key : List ℕ) (due : ℤ) (bytes : List ℕ) (told : Lodged) → (lodge_step r name key due bytes).answer ≡ Ok told → told.fresh ≡ false → (lodge_step r name key due bytes).register ≡ r
repeated_lodging r name key due bytes told h old =
    let s = sight_of name r in
    written_back r name (own_lodged s key due bytes) (own-repeated s key due bytes told (filing_keyed key s.own) h old)

pub repeated_withdrawal : (r : Register) (name key : List ℕ) (f : AcceptedFiling) → filing_keyed key (filings_of name r.members) ≡ Some f → f.withdrawn ≡ true → (withdraw_step r name key).register ≡ r
repeated_withdrawal r name key f found gone =
    let s = sight_of name r in
    written_back r name (own_withdrawn s key) (ap (own_withdrawn_at s) found ∙ rw gone refl)

-- ---- the registrar

pub refused_advance : (r : Register) (day : ℤ) (fault : AdvanceFault) → (advance_step r day).answer ≡ Err fault → (advance_step r day).register ≡ r
refused_advance r day fault = by_advance r day (λ o. o.answer ≡ Err fault → o.register ≡ r) (λ h. refl) (λ later h. absurd cc)

pub refused_enrolment : (r : Register) (name token : List ℕ) (fault : EnrolFault) → (enrol_step r name token).answer ≡ Err fault → (enrol_step r name token).register ≡ r
refused_enrolment r name token fault = by_enrolment r name token (λ o. o.answer ≡ Err fault → o.register ≡ r) (λ f h. refl) (λ fresh free h. absurd cc)

-- ---- a withdrawal, by the line that a keep returns of the filing

-- this is the line of the agent's filing under the key
abbrev pub IsLine : Sight → List ℕ → FilingLine → Type 0
IsLine s key line = Some line ≡ option_map (line_of s.day) (filing_keyed key s.own)

withdrawn_left : (s : Sight) (f : AcceptedFiling) → state_of s.day f ≡ Withdrawn → own_withdrawn_at s (Some f) ≡ s.own
withdrawn_left s f is = grind arith

draft_left : (s : Sight) (f : AcceptedFiling) (told : FilingLine) → state_of s.day f ≢ Withdrawn → withdrawal_at s (Some f) ≡ Ok told → own_withdrawn_at s (Some f) ≡ with_withdrawn f.number s.own
draft_left s f told is h = grind arith

-- a filing that is withdrawn already leaves the register
pub again_left : (r : Register) (name key : List ℕ) (line : FilingLine) → IsLine (sight_of name r) key line → line.state ≡ Withdrawn → (withdraw_step r name key).register ≡ r
again_left r name key line found is =
    let s = sight_of name r in
    let p = keyed_some (line_of s.day) (filing_keyed key s.own) line found in
    written_back r name (own_withdrawn s key) (ap (own_withdrawn_at s) p.1 ∙ withdrawn_left s p.0 (sym (ap (λ (l : FilingLine). l.state) p.2) ∙ is))

-- any other that may be withdrawn is left withdrawn
pub draft-left : (r : Register) (name key : List ℕ) (line told : FilingLine) → IsLine (sight_of name r) key line → line.state ≢ Withdrawn → withdrawal (sight_of name r) key ≡ Ok told →
    (withdraw_step r name key).register ≡ record r { members = with_filings name (with_withdrawn line.number (filings_of name r.members)) r.members }
draft-left r name key line told found other h =
    let s = sight_of name r in
    let p = keyed_some (line_of s.day) (filing_keyed key s.own) line found in
    let state : state_of s.day p.0 ≢ Withdrawn = λ e. other (ap (λ (l : FilingLine). l.state) p.2 ∙ e) in
    let left = draft_left s p.0 told state (sym (ap (withdrawal_at s) p.1) ∙ h) in
    ap (λ own. record r { members = with_filings name own r.members }) (ap (own_withdrawn_at s) p.1 ∙ left ∙ sym (ap (λ (l : FilingLine). with_withdrawn l.number s.own) p.2))
