-- A lodging that adds a filing adds the journal's next entry.
use Rattle.std.proofs.Common.{◌≡◌, ℕ, ℤ, List, [], ◌∷◌, ◌++◌, Bool, true, false, Result, Ok, Err, refl, ◌∙◌, ap, subst, arith}
use Rattle.std.specs.Prelude.{Option, Some, None, IsSome, if◌then◌else◌}
use Rattle.bor_terms.specs.Texts.{is_same}
use Rattle.bor_terms.proofs.Texts.{same_is, same_refl, same_sym, below_differs}
use Rattle.bor_register.specs.declared.member.Member.{Member}
use Rattle.bor_register.specs.declared.filing.AcceptedFiling.{AcceptedFiling}
use Rattle.bor_register.specs.Register.{filing_keyed, with_filings, with_member}
use Rattle.bor_register.specs.Live.{live_of, accepted}
use Rattle.bor_register.specs.Journal.{Agent, JournalEntry, Journal, token_of, entries_of, members_from, register_of, AreNamedOnce, AreOfAgents, IsInOrder}
use Rattle.bor_register.proofs.Journals.{filings_stay}
use Rattle.bor_desk.specs.declared.operations.fault.LodgeFault.{LodgeFault}
use Rattle.bor_desk.specs.declared.operations.lodging.Lodged.{Lodged}
use Rattle.bor_desk.specs.Operations.Sight.{Sight, sight_of}
use Rattle.bor_desk.specs.Operations.Lodging.{repeated, told_of, told_added, addition, lodging_at, own_lodged_at, settled_reading, lodge_step}
use Rattle.bods_read.specs.File.{reading}
use Rattle.bor_desk.specs.Operations.Laws.{IsNextEntry}
use Rattle.bor_desk.proofs.OnOperations.Lodgings.{addition_is}

-- ---- a lodging that is told as fresh

-- what it adds, as it is told, and that it stands behind the agent's filings
record IsAdded (s : Sight) (key : List ℕ) (due : ℤ) (bytes : List ℕ) (told : Lodged) (own : List AcceptedFiling) (f : AcceptedFiling) : Type 0 where
  added : addition s key due bytes ≡ Ok f
  is_told : told_of true s.day f ≡ told
  behind : own ≡ s.own ++ f ∷ []

not_repeated : (day due : ℤ) (bytes : List ℕ) (f : AcceptedFiling) (told : Lodged) → repeated day due bytes f ≡ Ok told → told.fresh ≡ false
not_repeated day due bytes f told h = grind arith

added_by : (s : Sight) (key : List ℕ) (due : ℤ) (bytes : List ℕ) (told : Lodged) (at : Option AcceptedFiling) → lodging_at s key due bytes at ≡ Ok told → told.fresh ≡ true →
    (f : AcceptedFiling) × IsAdded s key due bytes told (own_lodged_at s key due bytes at) f
added_by s key due bytes told (Some f) h new =
    let old = not_repeated s.day due bytes f told h in
    absurd cc
added_by s key due bytes told None h new = by_addition (addition s key due bytes) refl h
  where
    by_addition : (added : Result AcceptedFiling LodgeFault) → addition s key due bytes ≡ added → told_added s.day added ≡ Ok told →
        (f : AcceptedFiling) × IsAdded s key due bytes told (own_lodged_at s key due bytes None) f
    by_addition (Err fault) e is = absurd cc
    by_addition (Ok f) e is = (f, record { added = e; is_told = cc; behind = rw e refl })

-- ---- the entries of a journal with one more

entries_of-push : (name other : List ℕ) (f : AcceptedFiling) (entries : List JournalEntry) (b : Bool) → is_same name other ≡ b →
    entries_of other (entries ++ record { agent = name; filing = f } ∷ []) ≡ (if b then entries_of other entries ++ f ∷ [] else entries_of other entries)
entries_of-push name other f [] b e = grind arith
entries_of-push name other f (x ∷ xs) b e = grind (arith, entries_of-push name other f xs b e)

of_agents-push : (name : List ℕ) (f : AcceptedFiling) (agents : List Agent) (entries : List JournalEntry) → IsSome (token_of name agents) → AreOfAgents agents entries →
    AreOfAgents agents (entries ++ record { agent = name; filing = f } ∷ [])
of_agents-push name f agents [] enrolled h = (enrolled, tt)
of_agents-push name f agents (x ∷ xs) enrolled h = (h.0, of_agents-push name f agents xs enrolled h.1)

-- ---- an agent's filings, before or after it takes its place

with_filings-own : (new : Member) (fs : List AcceptedFiling) (ms : List Member) → with_filings new.name fs (with_member new ms) ≡ with_member (record new { filings = fs }) ms
with_filings-own new fs [] = rw (same_refl new.name) refl
with_filings-own new fs (m ∷ ms) = grind (arith, below_differs m.name new.name, same_refl new.name, with_filings-own new fs ms)

with_filings-other : (new : Member) (name : List ℕ) (fs : List AcceptedFiling) (ms : List Member) → is_same new.name name ≡ false →
    with_filings name fs (with_member new ms) ≡ with_member new (with_filings name fs ms)
with_filings-other new name fs [] other = rw other refl
with_filings-other new name fs (m ∷ ms) other = grind (arith, with_filings-other new name fs ms other)

-- ---- the members of a journal with one more entry

absent : (name : List ℕ) (a : Agent) (rest : List Agent) → token_of name (a ∷ rest) ≡ None → (is_same a.name name ≡ false) × (token_of name rest ≡ None)
absent name a rest h = grind arith

-- the agent's next filing is no other agent's
members-others : (name : List ℕ) (f : AcceptedFiling) (agents : List Agent) (entries : List JournalEntry) → token_of name agents ≡ None →
    members_from agents (entries ++ record { agent = name; filing = f } ∷ []) ≡ members_from agents entries
members-others name f [] entries none = refl
members-others name f (a ∷ rest) entries none =
    let other = absent name a rest none in
    rw (entries_of-push name a.name f entries false (same_sym name a.name ∙ other.0), members-others name f rest entries other.1) refl

members-own : (f : AcceptedFiling) (a : Agent) (rest : List Agent) (entries : List JournalEntry) → token_of a.name rest ≡ None →
    with_filings a.name (entries_of a.name entries ++ f ∷ []) (members_from (a ∷ rest) entries) ≡ members_from (a ∷ rest) (entries ++ record { agent = a.name; filing = f } ∷ [])
members-own f a rest entries none =
    with_filings-own (record { name = a.name; token = a.token; filings = entries_of a.name entries }) (entries_of a.name entries ++ f ∷ []) (members_from rest entries)
    ∙ rw (entries_of-push a.name a.name f entries true (same_refl a.name), members-others a.name f rest entries none) refl

members-push : (name : List ℕ) (f : AcceptedFiling) (agents : List Agent) (entries : List JournalEntry) → AreNamedOnce agents →
    with_filings name (entries_of name entries ++ f ∷ []) (members_from agents entries) ≡ members_from agents (entries ++ record { agent = name; filing = f } ∷ [])
members-push name f [] entries once = refl
members-push name f (a ∷ rest) entries once =
    let other = with_filings-other (record { name = a.name; token = a.token; filings = entries_of a.name entries }) name (entries_of name entries ++ f ∷ []) (members_from rest entries) in
    let entry = entries_of-push name a.name f entries false in
    grind (arith, same_is a.name name, same_sym name a.name, members-own f a rest entries once.0, other, entry, members-push name f rest entries once.1)

-- ---- the law

pub next_entry : (j : Journal) (name key : List ℕ) (due : ℤ) (bytes : List ℕ) (told : Lodged) → IsInOrder j → IsSome (token_of name j.agents) →
    (lodge_step (register_of j) name key due bytes).answer ≡ Ok told → told.fresh ≡ true →
    (f : AcceptedFiling) × IsNextEntry j name key due bytes told (lodge_step (register_of j) name key due bytes).register f
next_entry j name key due bytes told order enrolled h new =
    let s = sight_of name (register_of j) in
    let p = added_by s key due bytes told (filing_keyed key s.own) h new in
    let own : s.own ≡ entries_of name j.entries = filings_stay j order name in
    let is = addition_is s key due bytes p.0 p.1.added in (
      p.0,
      record {
        number = ap (λ (l : Lodged). l.number) p.1.is_told;
        filing = is.1 ∙ ap (λ fs. accepted fs key due bytes p.0.statements) own;
        read = subst (λ fs. settled_reading (live_of fs) due (reading bytes) ≡ Ok p.0.statements) own is.0;
        in_order = record { named = order.named; enrolled = of_agents-push name p.0 j.agents j.entries enrolled order.enrolled };
        register = ap (λ fs. record (register_of j) { members = with_filings name fs (register_of j).members }) (p.1.behind ∙ ap (λ fs. fs ++ p.0 ∷ []) own)
            ∙ ap (λ ms. record (register_of j) { members = ms }) (members-push name p.0 j.agents j.entries order.named);
      },
    )
