-- A change of a register keeps the forms of its values.
use Rattle.std.proofs.Common.{◌≡◌, ℕ, ℤ, ◌<◌, List, [], ◌∷◌, ◌++◌, length, true, arith}
use Rattle.std.specs.Prelude.{All, ◌==◌}
use Rattle.std.proofs.lemmas.List.Elements.{All-nil, All-cons, All-head, All-tail, All-push}
use Rattle.std.proofs.lemmas.Bool.{cond_both}
use Rattle.bor_terms.specs.Day.{IsDay}
use Rattle.bor_terms.specs.Texts.{is_same, is_below, is_agent_name, is_lodge_key, is_token}
use Rattle.bods_read.specs.declared.statement.Statement.{Statement}
use Rattle.bods_read.specs.Forms.{IsFormedStatement}
use Rattle.bor_register.specs.declared.member.Member.{Member}
use Rattle.bor_register.specs.declared.filing.AcceptedFiling.{AcceptedFiling}
use Rattle.bor_register.specs.Register.{empty_register, filings_of, with_filings, new_member, with_member}
use Rattle.bor_register.specs.Live.{accepted}
use Rattle.bor_register.specs.Withdrawal.{as_withdrawn, with_withdrawn}
use Rattle.bor_register.specs.Limits.{filings_limit}
use Rattle.bor_register.specs.Forms.{IsFormedFiling, IsFormedMember, IsFormed}

pub formed-empty_register : (registrar : List ℕ) (day : ℤ) → is_token registrar ≡ true → IsDay day → IsFormed (empty_register registrar day)
formed-empty_register registrar day token is = record { day = is; registrar = token; members = All-nil IsFormedMember }

-- ---- an agent's filings

pub formed-filings_of : (name : List ℕ) (ms : List Member) → All IsFormedMember ms → All IsFormedFiling (filings_of name ms)
formed-filings_of name [] h = All-nil IsFormedFiling
formed-filings_of name (m ∷ ms) h = cond_both (is_same m.name name) _ _ (All IsFormedFiling) (λ e. (All-head IsFormedMember m ms h).filings) (λ e. formed-filings_of name ms (All-tail IsFormedMember m ms h))

pub formed-accepted : (own : List AcceptedFiling) (key : List ℕ) (due : ℤ) (bytes : List ℕ) (ss : List Statement) → length own < filings_limit → is_lodge_key key ≡ true → IsDay due → All (λ b. b < 256) bytes →
    All IsFormedStatement ss → IsFormedFiling (accepted own key due bytes ss)
formed-accepted own key due bytes ss room is_key is_due are_bytes formed = record { number = omega arith; key = is_key; due = is_due; bytes = are_bytes; statements = formed }

pub formed-added : (own : List AcceptedFiling) (f : AcceptedFiling) → All IsFormedFiling own → IsFormedFiling f → All IsFormedFiling (own ++ f ∷ [])
formed-added own f h formed = All-push IsFormedFiling own f h formed

formed-as_withdrawn : (f : AcceptedFiling) → IsFormedFiling f → IsFormedFiling (as_withdrawn f)
formed-as_withdrawn f h = record { number = h.number; key = h.key; due = h.due; bytes = h.bytes; statements = All-nil IsFormedStatement }

pub formed-with_withdrawn : (number : ℕ) (fs : List AcceptedFiling) → All IsFormedFiling fs → All IsFormedFiling (with_withdrawn number fs)
formed-with_withdrawn number [] h = h
formed-with_withdrawn number (f ∷ fs) h =
    let here = All-head IsFormedFiling f fs h in
    let rest = All-tail IsFormedFiling f fs h in
    cond_both (f.number == number) _ _ (All IsFormedFiling)
    (λ e. All-cons IsFormedFiling (as_withdrawn f) fs (formed-as_withdrawn f here) rest)
    (λ e. All-cons IsFormedFiling f (with_withdrawn number fs) here (formed-with_withdrawn number fs rest))

-- ---- the members

pub formed-with_filings : (name : List ℕ) (fs : List AcceptedFiling) (ms : List Member) → All IsFormedFiling fs → All IsFormedMember ms → All IsFormedMember (with_filings name fs ms)
formed-with_filings name fs [] own h = h
formed-with_filings name fs (m ∷ ms) own h =
    let here = All-head IsFormedMember m ms h in
    let rest = All-tail IsFormedMember m ms h in
    cond_both (is_same m.name name) _ _ (All IsFormedMember)
    (λ e. All-cons IsFormedMember (record m { filings = fs }) ms (record { name = here.name; token = here.token; filings = own }) rest)
    (λ e. All-cons IsFormedMember m (with_filings name fs ms) here (formed-with_filings name fs ms own rest))

pub formed-new_member : (name token : List ℕ) → is_agent_name name ≡ true → is_token token ≡ true → IsFormedMember (new_member name token)
formed-new_member name token is_name is_token = record { name = is_name; token = is_token; filings = All-nil IsFormedFiling }

pub formed-with_member : (new : Member) (ms : List Member) → IsFormedMember new → All IsFormedMember ms → All IsFormedMember (with_member new ms)
formed-with_member new [] formed h = All-cons IsFormedMember new [] formed h
formed-with_member new (m ∷ ms) formed h = cond_both (is_below m.name new.name) _ _ (All IsFormedMember)
    (λ e. All-cons IsFormedMember m (with_member new ms) (All-head IsFormedMember m ms h) (formed-with_member new ms formed (All-tail IsFormedMember m ms h)))
    (λ e. All-cons IsFormedMember new (m ∷ ms) formed h)
