-- Each operation keeps the forms of a register's values.
use Rattle.std.proofs.Common.{◌≡◌, ℕ, ℤ, ◌+◌, ◌<◌, List, [], ◌∷◌, Result, Ok, Err, true, subst}
use Rattle.std.specs.Prelude.{All, IfOk}
use Rattle.std.proofs.lemmas.List.Elements.{All-cons, All-head, All-tail}
use Rattle.bor_terms.specs.Day.{IsDay}
use Rattle.bor_terms.specs.Texts.{is_agent_name, is_lodge_key, is_token}
use Rattle.bods_read.specs.declared.statement.Statement.{Statement}
use Rattle.bods_read.specs.declared.statement.Status.{Status}
use Rattle.bods_read.specs.declared.fault.FileFault.{FileFault}
use Rattle.bods_read.specs.File.{reading}
use Rattle.bods_read.specs.Forms.{IsFormedStatement}
use Rattle.bods_read.proofs.FormsRead.{reading_formed}
use Rattle.bor_records.specs.Admission.{Live}
use Rattle.bor_records.specs.Settling.{as_settled, settled_from, settled}
use Rattle.bor_register.specs.declared.filing.AcceptedFiling.{AcceptedFiling}
use Rattle.bor_register.specs.Register.{Register, with_filings, new_member}
use Rattle.bor_register.specs.Live.{live_of, accepted}
use Rattle.bor_register.specs.Forms.{IsFormedFiling, IsFormed}
use Rattle.bor_register.proofs.Forms.{formed-empty_register, formed-filings_of, formed-accepted, formed-added, formed-with_withdrawn, formed-with_filings, formed-new_member, formed-with_member}
use Rattle.bor_desk.specs.Operations.Sight.{sight_of}
use Rattle.bor_desk.specs.Operations.Lodging.{settled_reading, own_lodged, lodge_step}
use Rattle.bor_desk.specs.Operations.Withdrawing.{own_withdrawn, withdraw_step}
use Rattle.bor_desk.specs.Operations.Registrar.{advance_step, enrol_step}
use Rattle.bor_desk.proofs.OnOperations.Changes.{by_advance, by_enrolment, by_lodging, by_withdrawal}
use Rattle.bor_desk.proofs.OnOperations.Renewals.{formed-by_renewal}
use Rattle.bor_desk.proofs.OnOperations.Additions.{first_settled, told_is}
use Rattle.bor_desk.specs.Operations.Forms.{StaysFormed}

-- ---- the settled statements of a file

formed-as_settled : (status : Status) (s : Statement) → IsFormedStatement s → IsFormedStatement (as_settled status s)
formed-as_settled status s h = record { id = h.id; day = h.day; declaration = h.declaration; rec = h.rec; details = h.details }

formed-settled : (place : ℕ) (live : List Live) (due : ℤ) (file ss : List Statement) → All IsFormedStatement file → settled_from place live due file ≡ Ok ss → All IsFormedStatement ss
formed-settled place live due [] ss formed h = subst (All IsFormedStatement) (let same : [] ≡ ss = cc in same) formed
formed-settled place live due (s ∷ file) ss formed h =
    let f = first_settled place live due s file ss h in
    subst (All IsFormedStatement) f.all (All-cons IsFormedStatement (as_settled f.status s) f.others (formed-as_settled f.status s (All-head IsFormedStatement s file formed))
    (formed-settled (place + 1) _ due file f.others (All-tail IsFormedStatement s file formed) f.later))

formed-read : (live : List Live) (due : ℤ) (file : Result (List Statement) FileFault) (ss : List Statement) → IfOk file (All IsFormedStatement) → settled_reading live due file ≡ Ok ss → All IsFormedStatement ss
formed-read live due (Ok statements) ss formed h = formed-settled 1 live due statements ss formed (told_is (settled live due statements) ss h)
formed-read live due (Err fault) ss formed h = absurd cc

-- ---- a lodging

-- a register once an agent's filings are these
formed-own : (r : Register) (name : List ℕ) (fs : List AcceptedFiling) → IsFormed r → All IsFormedFiling fs → IsFormed (record r { members = with_filings name fs r.members })
formed-own r name fs h own = record { day = h.day; registrar = h.registrar; members = formed-with_filings name fs r.members own h.members }

formed-by_lodging : (r : Register) (name key : List ℕ) (due : ℤ) (bytes : List ℕ) → IsFormed r → is_lodge_key key ≡ true → IsDay due → All (λ b. b < 256) bytes → IsFormed (lodge_step r name key due bytes).register
formed-by_lodging r name key due bytes h is_key is_due are_bytes =
    let s = sight_of name r in
    let own = formed-filings_of name r.members h.members in
    formed-own r name (own_lodged s key due bytes) h (by_lodging s key due bytes (All IsFormedFiling) own (λ ss fresh room read.
    let statements = formed-read (live_of s.own) due (reading bytes) ss (reading_formed bytes) read in
    formed-added s.own (accepted s.own key due bytes ss) own (formed-accepted s.own key due bytes ss room is_key is_due are_bytes statements)))

-- ---- a withdrawal

formed-by_withdrawal : (r : Register) (name key : List ℕ) → IsFormed r → IsFormed (withdraw_step r name key).register
formed-by_withdrawal r name key h =
    let s = sight_of name r in
    let own = formed-filings_of name r.members h.members in
    formed-own r name (own_withdrawn s key) h (by_withdrawal s key (All IsFormedFiling) own (λ f found live draft alone. formed-with_withdrawn f.number s.own own))

-- ---- the registrar

formed-by_advance : (r : Register) (day : ℤ) → IsFormed r → IsDay day → IsFormed (advance_step r day).register
formed-by_advance r day h is = by_advance r day (λ o. IsFormed o.register) h (λ later. record { day = is; registrar = h.registrar; members = h.members })

formed-by_enrolment : (r : Register) (name token : List ℕ) → IsFormed r → is_agent_name name ≡ true → is_token token ≡ true → IsFormed (enrol_step r name token).register
formed-by_enrolment r name token h is_name is_tok = by_enrolment r name token (λ o. IsFormed o.register) (λ fault. h)
    (λ fresh free. record { day = h.day; registrar = h.registrar; members = formed-with_member (new_member name token) r.members (formed-new_member name token is_name is_tok) h.members })

pub stays_formed : StaysFormed
stays_formed = record {
  at_first = formed-empty_register;
  by_lodging = formed-by_lodging;
  by_withdrawal = formed-by_withdrawal;
  by_advance = formed-by_advance;
  by_enrolment = formed-by_enrolment;
  by_renewal = formed-by_renewal;
}
