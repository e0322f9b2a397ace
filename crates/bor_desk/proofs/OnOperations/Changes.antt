-- What holds before an operation, and of what it changes, holds after it.
use Rattle.std.proofs.Common.{◌≡◌, ℕ, ℤ, ◌<◌, List, [], ◌∷◌, ◌++◌, length, true, false, Option, Some, None, Result, Ok, Err, refl, ◌∙◌, sym, ap, subst}
use Rattle.std.specs.Prelude.{int_lt, int_le}
use Rattle.std.proofs.lemmas.Bool.{cond_both}
use Rattle.bor_terms.specs.Texts.{is_same}
use Rattle.bor_terms.proofs.Texts.{same_is}
use Rattle.bods_read.specs.declared.statement.Statement.{Statement}
use Rattle.bods_read.specs.File.{reading}
use Rattle.bor_register.specs.declared.caller.Caller.{Caller}
use Rattle.bor_register.specs.declared.caller.Caller.TheVariants.{Registrar, Agent}
use Rattle.bor_register.specs.declared.filing.AcceptedFiling.{AcceptedFiling}
use Rattle.bor_register.specs.Additions.{with_renewal}
use Rattle.bor_register.specs.Limits.{filings_limit}
use Rattle.bor_register.specs.Live.{accepted, live_of}
use Rattle.bor_register.specs.Register.{Register, caller_of, filing_keyed, is_enrolled, is_taken, new_member, with_member}
use Rattle.bor_register.specs.Withdrawal.{has_successor, with_withdrawn}
use Rattle.bor_desk.specs.declared.operations.fault.AdvanceFault.{AdvanceFault}
use Rattle.bor_desk.specs.declared.operations.fault.AdvanceFault.TheVariants.{DayBack}
use Rattle.bor_desk.specs.declared.operations.fault.EnrolFault.{EnrolFault}
use Rattle.bor_desk.specs.declared.operations.fault.EnrolFault.TheVariants as enrols
use Rattle.bor_desk.specs.declared.operations.fault.LodgeFault.{LodgeFault}
use Rattle.bor_desk.specs.declared.operations.fault.RenewFault.{RenewFault}
use Rattle.bor_desk.specs.declared.operations.fault.RenewFault.TheVariants as renews
use Rattle.bor_desk.specs.Operations.Sight.{Outcome, Sight}
use Rattle.bor_desk.specs.Operations.Lodging.{addition, own_added, own_lodged, own_lodged_at, settled_reading}
use Rattle.bor_desk.specs.Operations.Withdrawing.{own_withdrawn, own_withdrawn_at}
use Rattle.bor_desk.specs.Operations.Registrar.{advance_step, enrol_step, renew_step, renewal}
use Rattle.bor_desk.proofs.OnOperations.Lodgings.{addition_is, addition_room}

-- ---- an agent's filings

pub by_lodging : (s : Sight) (key : List ℕ) (due : ℤ) (bytes : List ℕ) (P : List AcceptedFiling → Type 0) → P s.own
    → ((ss : List Statement) → filing_keyed key s.own ≡ None → length s.own < filings_limit → settled_reading (live_of s.own) due (reading bytes) ≡ Ok ss → P (s.own ++ accepted s.own key due bytes ss ∷ []))
    → P (own_lodged s key due bytes)
by_lodging s key due bytes P was more = at (filing_keyed key s.own) refl
  where
    added : filing_keyed key s.own ≡ None → (a : Result AcceptedFiling LodgeFault) → addition s key due bytes ≡ a → P (own_added s.own a)
    added new (Err fault) e = was
    added new (Ok f) e =
        let is = addition_is s key due bytes f e in
        subst (λ (g : AcceptedFiling). P (s.own ++ g ∷ [])) (sym is.1) (more f.statements new (addition_room s key due bytes f e) is.0)

    at : (o : Option AcceptedFiling) → filing_keyed key s.own ≡ o → P (own_lodged_at s key due bytes o)
    at (Some f) e = was
    at None e = added e (addition s key due bytes) refl

pub by_withdrawal : (s : Sight) (key : List ℕ) (P : List AcceptedFiling → Type 0) → P s.own
    → ((f : AcceptedFiling) → filing_keyed key s.own ≡ Some f → f.withdrawn ≡ false → int_le f.due s.day ≡ false → has_successor f.number s.own ≡ false → P (with_withdrawn f.number s.own))
    → P (own_withdrawn s key)
by_withdrawal s key P was less = at (filing_keyed key s.own) refl
  where
    at : (o : Option AcceptedFiling) → filing_keyed key s.own ≡ o → P (own_withdrawn_at s o)
    at None e = was
    at (Some f) e =
        cond_both f.withdrawn _ _ P (λ gone. was) (λ live. cond_both (int_le f.due s.day) _ _ P (λ published. was)
        (λ draft. cond_both (has_successor f.number s.own) _ _ P (λ succeeded. was) (λ alone. less f e live draft alone)))

-- ---- the register, by the registrar

pub by_advance : (r : Register) (day : ℤ) (P : Outcome (Result ℤ AdvanceFault) → Type 0) → P (record { answer = Err DayBack; register = r })
    → (int_lt day r.day ≡ false → P (record { answer = Ok day; register = record r { day = day } })) → P (advance_step r day)
by_advance r day P refused on = cond_both (int_lt day r.day) _ _ P (λ back. refused) on

pub by_enrolment : (r : Register) (name token : List ℕ) (P : Outcome (Result (List ℕ) EnrolFault) → Type 0) → ((fault : EnrolFault) → P (record { answer = Err fault; register = r }))
    → (is_enrolled name r.members ≡ false → is_taken token r ≡ false → P (record { answer = Ok name; register = record r { members = with_member (new_member name token) r.members } }))
    → P (enrol_step r name token)
by_enrolment r name token P refused new =
    cond_both (is_enrolled name r.members) _ _ P (λ named. refused enrols.NameTaken) (λ fresh. cond_both (is_taken token r) _ _ P (λ taken. refused enrols.TokenTaken) (new fresh))

pub by_renewal : (r : Register) (name token : List ℕ) (P : Outcome (Result (List ℕ) RenewFault) → Type 0) → ((fault : RenewFault) → P (record { answer = Err fault; register = r }))
    → (caller_of token r ≡ Some (Agent name) → P (record { answer = Ok name; register = r }))
    → (is_enrolled name r.members ≡ true → caller_of token r ≡ None → P (record { answer = Ok name; register = with_renewal name token r })) → P (renew_step r name token)
by_renewal r name token P refused own new = cond_both (is_enrolled name r.members) _ _ P (λ on. known on (caller_of token r) refl) (λ absent. refused renews.NoSuchAgent)
  where
    known : is_enrolled name r.members ≡ true → (c : Option Caller) → caller_of token r ≡ c → P (renewal r name token c)
    known on None e = new on e
    known on (Some Registrar) e = refused renews.TokenTaken
    known on (Some (Agent owner)) e =
        cond_both (is_same owner name) _ _ P (λ same. own (e ∙ ap (λ (n : List ℕ). Some (Agent n)) (same_is owner name same))) (λ another. refused renews.TokenTaken)
