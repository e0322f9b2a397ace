-- Stored members stay in order, numbered, formed and counted.
use Rattle.std.proofs.Common.{◌≡◌, ℕ, ℤ, ◌+◌, ◌<◌, true, false, List, [], ◌∷◌, ◌++◌, length, arith, if◌then◌else◌, All, rules}
use Rattle.std.proofs.lemmas.List.Elements.{All-nil, All-cons, All-head, All-tail, All-push}
use Rattle.bor_terms.specs.Day.{IsDay}
use Rattle.bor_terms.specs.Texts.{is_same, is_below, is_agent_name, is_lodge_key, is_token}
use Rattle.bods_read.specs.Forms.{IsFormedStatement}
use Rattle.bods_read.specs.declared.statement.Statement.{Statement}
use Rattle.bor_register.specs.Limits.{filings_limit}
use Rattle.bor_register.specs.Live.{accepted}
use Rattle.bor_register.specs.declared.filing.AcceptedFiling.{AcceptedFiling}
use Rattle.bor_register.specs.declared.member.Member.{Member}
use Rattle.bor_register.specs.Forms.{IsFormedMember}
use Rattle.bor_register.specs.Register.{IsOrdered, Register, is_enrolled, with_filings, filings_of, new_member, with_member}
use Rattle.bor_register.proofs.Forms.{formed-filings_of, formed-accepted, formed-added, formed-with_filings, formed-new_member, formed-with_member}
use Rattle.bor_register.proofs.Names.{ordered-with_filings, ordered-with_member}
use Rattle.bor_store_sql.specs.Rows.Stored.{AreNumbered, AllNumbered, AreCounted, IsStored}
use Rattle.bor_store_sql.specs.Changing.{added, enrolled}

module _ (agent : List ℕ) where
  pub numbered_with : (new : List AcceptedFiling) (ms : List Member) → AreNumbered 1 new → AllNumbered ms → AllNumbered (with_filings agent new ms)
  numbered_with new [] one all = tt
  numbered_with new (m ∷ ms) one all = search (rules, numbered_with new ms one)

  pub numbered_of : (ms : List Member) → AllNumbered ms → AreNumbered 1 (filings_of agent ms)
  numbered_of [] all = tt
  numbered_of (m ∷ ms) all = search (rules, numbered_of ms)

  abbrev pub AllCounted : List AcceptedFiling → Type 0
  AllCounted fs = All (λ (f : AcceptedFiling). AreCounted f.statements) fs

  pub counted_of : (ms : List Member) → All (λ (m : Member). AllCounted m.filings) ms → AllCounted (filings_of agent ms)
  counted_of [] all = All-nil (λ (f : AcceptedFiling). AreCounted f.statements)
  counted_of (m ∷ ms) all = elim (is_same m.name agent) as (λ b. AllCounted (if b then m.filings else filings_of agent ms)) [
    | true ↦ All-head (λ (m : Member). AllCounted m.filings) m ms all
    | false ↦ counted_of ms (All-tail (λ (m : Member). AllCounted m.filings) m ms all)
  ]

  pub counted_with : (new : List AcceptedFiling) (ms : List Member) → AllCounted new → All (λ (m : Member). AllCounted m.filings) ms → All (λ (m : Member). AllCounted m.filings) (with_filings agent new ms)
  counted_with new [] own all = all
  counted_with new (m ∷ ms) own all = elim (is_same m.name agent) as (λ b. All (λ (m : Member). AllCounted m.filings) (if b then record m { filings = new } ∷ ms else m ∷ with_filings agent new ms)) [
    | true ↦ All-cons (λ (m : Member). AllCounted m.filings) (record m { filings = new }) ms own (All-tail (λ (m : Member). AllCounted m.filings) m ms all)
    | false ↦ All-cons (λ (m : Member). AllCounted m.filings) m (with_filings agent new ms) (All-head (λ (m : Member). AllCounted m.filings) m ms all) (counted_with new ms own (All-tail (λ (m : Member). AllCounted m.filings) m ms all))
  ]

-- a stored register with other members
pub stored_with : (ms : List Member) (r : Register) → IsStored r → IsOrdered ms → AllNumbered ms → All IsFormedMember ms → All (λ (m : Member). All (λ (f : AcceptedFiling). AreCounted f.statements) m.filings) ms → IsStored (record r { members = ms })
stored_with ms r s ordered numbered formed counted = record { ordered = ordered; numbered = numbered; formed = record { day = s.formed.day; registrar = s.formed.registrar; members = formed }; counted = counted }

-- ---- a filing is added

numbered_push : (n : ℕ) (fs : List AcceptedFiling) (f : AcceptedFiling) → AreNumbered n fs → f.number ≡ n + length fs → AreNumbered n (fs ++ f ∷ [])
numbered_push n [] f up e = (omega (arith, e), tt)
numbered_push n (g ∷ fs) f up e = (up.0, numbered_push (n + 1) fs f up.1 (omega (arith, e)))

pub added_stored : (agent key : List ℕ) (due : ℤ) (bytes : List ℕ) (ss : List Statement) (r : Register) → IsStored r → length (filings_of agent r.members) < filings_limit → is_lodge_key key ≡ true → IsDay due
    → All (λ b. b < 256) bytes → All IsFormedStatement ss → AreCounted ss → IsStored (added agent key due bytes ss r)
added_stored agent key due bytes ss r s room is_key is_due are_bytes formed counted =
    let own = filings_of agent r.members in
    let f = accepted own key due bytes ss in
    let owned = formed-filings_of agent r.members s.formed.members in
    stored_with (with_filings agent (own ++ f ∷ []) r.members) r s (ordered-with_filings agent (own ++ f ∷ []) r.members s.ordered)
    (numbered_with agent (own ++ f ∷ []) r.members (numbered_push 1 own f (numbered_of agent r.members s.numbered) (omega arith)) s.numbered)
    (formed-with_filings agent (own ++ f ∷ []) r.members (formed-added own f owned (formed-accepted own key due bytes ss room is_key is_due are_bytes formed)) s.formed.members)
    (counted_with agent (own ++ f ∷ []) r.members (All-push (λ (g : AcceptedFiling). AreCounted g.statements) own f (counted_of agent r.members s.counted) counted) s.counted)

-- ---- an agent is added

numbered_new : (new : Member) (ms : List Member) → AreNumbered 1 new.filings → AllNumbered ms → AllNumbered (with_member new ms)
numbered_new new [] one all = (one, tt)
numbered_new new (m ∷ ms) one all = search (rules, numbered_new new ms one)

abbrev IsCountedMember : Member → Type 0
IsCountedMember m = All (λ (f : AcceptedFiling). AreCounted f.statements) m.filings

counted_new : (new : Member) (ms : List Member) → IsCountedMember new → All IsCountedMember ms → All IsCountedMember (with_member new ms)
counted_new new [] one all = All-cons IsCountedMember new [] one all
counted_new new (m ∷ ms) one all = elim (is_below m.name new.name) as (λ b. All IsCountedMember (if b then m ∷ with_member new ms else new ∷ m ∷ ms)) [
  | true ↦ All-cons IsCountedMember m (with_member new ms) (All-head IsCountedMember m ms all) (counted_new new ms one (All-tail IsCountedMember m ms all))
  | false ↦ All-cons IsCountedMember new (m ∷ ms) one all
]

pub enrolled_stored : (agent token : List ℕ) (r : Register) → IsStored r → is_enrolled agent r.members ≡ false → is_agent_name agent ≡ true → is_token token ≡ true → IsStored (enrolled agent token r)
enrolled_stored agent token r s fresh is_name is_its =
    let new = new_member agent token in
    stored_with (with_member new r.members) r s (ordered-with_member new r.members fresh s.ordered) (numbered_new new r.members tt s.numbered)
    (formed-with_member new r.members (formed-new_member agent token is_name is_its) s.formed.members) (counted_new new r.members (All-nil (λ (f : AcceptedFiling). AreCounted f.statements)) s.counted)
