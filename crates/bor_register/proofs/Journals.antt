-- A journal and its register.
use Rattle.std.proofs.Common.{◌≡◌, ℕ, List, [], ◌∷◌, Option, Some, None, refl, ◌∙◌, sym, ap, arith, true, false, option_map}
use Rattle.std.specs.Prelude.{if◌then◌else◌, ◌↔◌}
use Rattle.bor_terms.specs.Texts.{is_same, is_below}
use Rattle.bor_terms.proofs.Texts.{same_is, same_refl, same_sym, below_trans, below_differs, below_irrefl, above}
use Rattle.bor_register.specs.declared.member.Member.{Member}
use Rattle.bor_register.specs.declared.filing.AcceptedFiling.{AcceptedFiling}
use Rattle.bor_register.specs.Register.{Register, filings_of, with_member, is_enrolled, AllAbove, IsOrdered}
use Rattle.bor_register.specs.Journal.{Agent, JournalEntry, Journal, token_of, entries_of, members_from, register_of, AreNamedOnce, AreOfAgents, IsInOrder, AreAlike}
use Rattle.bor_register.proofs.Names.{ordered-with_member}

abbrev member_at : List ℕ → List Member → Option Member
member_at name [] = None
member_at name (m ∷ ms) = if is_same m.name name then Some m else member_at name ms

abbrev member_with : List ℕ → List JournalEntry → Option (List ℕ) → Option Member
member_with name entries None = None
member_with name entries (Some token) = Some (record { name = name; token = token; filings = entries_of name entries })

-- ---- the member at a name

at-with_member : (name : List ℕ) (new : Member) (ms : List Member) → member_at name (with_member new ms) ≡ (if is_same new.name name then Some new else member_at name ms)
at-with_member name new [] = refl
at-with_member name new (m ∷ ms) = grind (arith, same_is m.name name, same_is new.name name, below_irrefl name, at-with_member name new ms)

at-above : (name : List ℕ) (ms : List Member) → AllAbove name ms → member_at name ms ≡ None
at-above name [] h = refl
at-above name (m ∷ ms) h = rw (same_sym m.name name, below_differs name m.name h.0) (at-above name ms h.1)

at-below : (low name : List ℕ) (ms : List Member) → is_below low name ≡ true → AllAbove name ms → member_at low ms ≡ None
at-below low name [] lt h = refl
at-below low name (m ∷ ms) lt h = rw (same_sym m.name low, below_differs low m.name (below_trans low name m.name lt h.0)) (at-below low name ms lt h.1)

at-none : (name : List ℕ) (ms : List Member) → member_at name ms ≡ None → is_enrolled name ms ≡ false
at-none name [] h = refl
at-none name (m ∷ ms) h = grind (arith, at-none name ms)

abbrev filings_in : Option Member → List AcceptedFiling
filings_in None = []
filings_in (Some m) = m.filings

filings_of-at : (name : List ℕ) (ms : List Member) → filings_of name ms ≡ filings_in (member_at name ms)
filings_of-at name [] = refl
filings_of-at name (m ∷ ms) = grind (arith, filings_of-at name ms)

-- ---- the members of a journal

at-members_from : (name : List ℕ) (agents : List Agent) (entries : List JournalEntry) → member_at name (members_from agents entries) ≡ member_with name entries (token_of name agents)
at-members_from name [] entries = refl
at-members_from name (a ∷ rest) entries =
    grind (arith, at-with_member name (record { name = a.name; token = a.token; filings = entries_of a.name entries }) (members_from rest entries), at-members_from name rest entries, same_is a.name name)

ordered-members_from : (agents : List Agent) (entries : List JournalEntry) → AreNamedOnce agents → IsOrdered (members_from agents entries)
ordered-members_from [] entries h = tt
ordered-members_from (a ∷ rest) entries h =
    ordered-with_member (record { name = a.name; token = a.token; filings = entries_of a.name entries }) (members_from rest entries)
    (at-none a.name (members_from rest entries) (at-members_from a.name rest entries ∙ ap (member_with a.name entries) h.0)) (ordered-members_from rest entries h.1)

-- ---- two ordered lists that agree at each name are one

heads : (m n : Member) (ms ns : List Member) → IsOrdered (m ∷ ms) → IsOrdered (n ∷ ns) → ((name : List ℕ) → member_at name (m ∷ ms) ≡ member_at name (n ∷ ns)) → m ≡ n
heads m n ms ns p q h =
    let one = h m.name in
    let two = h n.name in
    let left = λ (lt : is_below m.name n.name ≡ true). at-below m.name n.name ns lt q.0 in
    let right = λ (lt : is_below n.name m.name ≡ true). at-below n.name m.name ms lt p.0 in
    grind (arith, one, two, left, right, same_refl m.name, same_refl n.name, same_sym n.name m.name, above m.name n.name)

tails : (m n : Member) (ms ns : List Member) → m ≡ n → IsOrdered (m ∷ ms) → IsOrdered (n ∷ ns) → ((name : List ℕ) → member_at name (m ∷ ms) ≡ member_at name (n ∷ ns)) → (name : List ℕ) → member_at name ms ≡ member_at name ns
tails m n ms ns e p q h name = let k = h name in grind (arith, k, e, at-above m.name ms p.0, at-above n.name ns q.0, same_is m.name name)

same-members : (ms ns : List Member) → IsOrdered ms → IsOrdered ns → ((name : List ℕ) → member_at name ms ≡ member_at name ns) → ms ≡ ns
same-members [] [] p q h = refl
same-members [] (n ∷ ns) p q h = let at = h n.name in let me = same_refl n.name in absurd (grind (arith, at, me))
same-members (m ∷ ms) [] p q h = let at = h m.name in let me = same_refl m.name in absurd (grind (arith, at, me))
same-members (m ∷ ms) (n ∷ ns) p q h =
    let head = heads m n ms ns p q h in
    ap (λ g. g ∷ ms) head ∙ ap (λ gs. n ∷ gs) (same-members ms ns p.1 q.1 (tails m n ms ns head p q h))

-- ---- alike journals

member_with-same : (name : List ℕ) (a b : List JournalEntry) (token : Option (List ℕ)) → entries_of name a ≡ entries_of name b → member_with name a token ≡ member_with name b token
member_with-same name a b token e = grind (arith, e)

one_register : (j k : Journal) → IsInOrder j → IsInOrder k → AreAlike j k → register_of j ≡ register_of k
one_register j k p q same =
    let members = same-members (members_from j.agents j.entries) (members_from k.agents k.entries) (ordered-members_from j.agents j.entries p.named) (ordered-members_from k.agents k.entries q.named)
    (λ name. at-members_from name j.agents j.entries ∙ (rw (same.tokens name) (member_with-same name j.entries k.entries (token_of name k.agents) (same.filings name))) ∙ sym (at-members_from name k.agents k.entries)) in
    rw (same.day, same.registrar, members) refl

-- ---- one register

abbrev token_in : Option Member → Option (List ℕ)
token_in o = option_map (λ (m : Member). m.token) o

none_of : (name : List ℕ) (agents : List Agent) (entries : List JournalEntry) → AreOfAgents agents entries → token_of name agents ≡ None → entries_of name entries ≡ []
none_of name agents [] h none = refl
none_of name agents (e ∷ rest) h none = grind (arith, h.0, none, same_is e.agent name, none_of name agents rest h.1 none)

filings_in-with : (name : List ℕ) (agents : List Agent) (entries : List JournalEntry) (token : Option (List ℕ)) → AreOfAgents agents entries → token_of name agents ≡ token → filings_in (member_with name entries token) ≡ entries_of name entries
filings_in-with name agents entries None h is = sym (none_of name agents entries h is)
filings_in-with name agents entries (Some token) h is = refl

-- a register has each agent's filings of its journal
pub filings_stay : (j : Journal) → IsInOrder j → (name : List ℕ) → filings_of name (register_of j).members ≡ entries_of name j.entries
filings_stay j p name =
    filings_of-at name (members_from j.agents j.entries) ∙ ap filings_in (at-members_from name j.agents j.entries)
    ∙ filings_in-with name j.agents j.entries (token_of name j.agents) p.enrolled refl

tokens_stay : (j : Journal) (name : List ℕ) → token_in (member_at name (register_of j).members) ≡ token_of name j.agents
tokens_stay j name = grind (arith, at-members_from name j.agents j.entries)

alike : (j k : Journal) → IsInOrder j → IsInOrder k → register_of j ≡ register_of k → AreAlike j k
alike j k p q e = record {
  day = ap (λ (r : Register). r.day) e;
  registrar = ap (λ (r : Register). r.registrar) e;
  tokens = λ name. sym (tokens_stay j name) ∙ ap (λ (r : Register). token_in (member_at name r.members)) e ∙ tokens_stay k name;
  filings = λ name. sym (filings_stay j p name) ∙ ap (λ (r : Register). filings_of name r.members) e ∙ filings_stay k q name;
}

pub order_is_forgotten : (j k : Journal) → IsInOrder j → IsInOrder k → (register_of j ≡ register_of k) ↔ AreAlike j k
order_is_forgotten j k p q = (alike j k p q, one_register j k p q)
