-- What is published stays.
use Rattle.std.proofs.Common.{◌≡◌, ℕ, ℤ, ◌+◌, ◌++◌, ◌≤◌, Bool, true, false, not, List, [], ◌∷◌, Option, Some, refl, sym, ap, ◌∙◌, subst, inl, inr, append_assoc, append-nil, arith}
use Rattle.std.specs.Prelude.{int_le, filter}
use Rattle.std.proofs.lemmas.Bool.{and_parts, cond_both}
use Rattle.std.proofs.lemmas.Int.{ints}
use Rattle.std.proofs.lemmas.List.Elements.{filter-append}
use Rattle.bor_records.specs.Admission.{Live, is_of}
use Rattle.bor_register.specs.declared.caller.Caller.{Caller}
use Rattle.bor_register.specs.declared.caller.Caller.TheVariants.{Registrar, Agent}
use Rattle.bor_register.specs.declared.filing.AcceptedFiling.{AcceptedFiling}
use Rattle.bor_register.specs.Live.{accepted, live_of}
use Rattle.bor_register.specs.Publication.{is_published}
use Rattle.bor_register.specs.Register.{Register, caller_of, filing_keyed, filings_of}
use Rattle.bor_register.specs.Withdrawal.{with_withdrawn}
use Rattle.bor_register.proofs.LiveStatements.{live_of-append}
use Rattle.bor_desk.specs.declared.request.Request.{Request}
use Rattle.bor_desk.specs.declared.request.Request.TheVariants as of
use Rattle.bor_desk.specs.declared.request.AgentRequest.{AgentRequest}
use Rattle.bor_desk.specs.declared.request.AgentRequest.TheVariants as ask
use Rattle.bor_desk.specs.declared.request.RegistrarRequest.{RegistrarRequest}
use Rattle.bor_desk.specs.declared.request.RegistrarRequest.TheVariants as office
use Rattle.bor_desk.specs.Operations.Laws.{IsPrefix, live_series}
use Rattle.bor_desk.specs.Operations.Legality.{AreLegal, AreRead, IsLegal, IsNumberedFrom}
use Rattle.bor_desk.specs.Operations.Registrar.{advance_step}
use Rattle.bor_desk.specs.Operations.Sight.{Sight, sight_of}
use Rattle.bor_desk.specs.Runs.{exchange, register_after}
use Rattle.bor_desk.specs.Step.{agent_step, own_after, registrar_step, step}
use Rattle.bor_desk.specs.Standing.{IsSublist, IsStanding, PublishedStays, published_by}
use Rattle.bor_register.proofs.OnMemory.Indexed.{changed}
use Rattle.bor_desk.proofs.OnOperations.Changes.{by_advance, by_enrolment, by_lodging, by_withdrawal}
use Rattle.bor_desk.proofs.OnOperations.Legality.{own_legal}
use Rattle.bor_desk.proofs.OnOperations.LeftOut.{front_by, published_read}
use Rattle.bor_desk.proofs.OnOperations.Renewals.{renewal-renews_token}
use Rattle.bor_desk.proofs.Isolation.{registrar-filings}
use Rattle.bor_desk.proofs.SeenSnapshots.{filter-wider}
use Rattle.bor_desk.proofs.Steps.{step-stays_legal}

-- ---- lists

sublist_itself : {X : Type 0} (xs : List X) → IsSublist xs xs
sublist_itself [] = tt
sublist_itself (x ∷ xs) = inl (refl, sublist_itself xs)

sublist-filter : {X : Type 0} (p : X → Bool) (xs : List X) → IsSublist (filter p xs) xs
sublist-filter p [] = tt
sublist-filter {X} p (x ∷ xs) = cond_both (p x) (x ∷ filter p xs) (filter p xs) (λ ys. IsSublist ys (x ∷ xs)) (λ passes. inl (refl, sublist-filter p xs))
    (λ fails. behind (filter p xs) (sublist-filter p xs))
  where
    behind : (ys : List X) → IsSublist ys xs → IsSublist ys (x ∷ xs)
    behind [] h = tt
    behind (y ∷ ys) h = inr h

sublist-left : {X : Type 0} (xs more : List X) → IsSublist xs (xs ++ more)
sublist-left [] more = tt
sublist-left (x ∷ xs) more = inl (refl, sublist-left xs more)

sublist-trans : {X : Type 0} (xs ys zs : List X) → IsSublist xs ys → IsSublist ys zs → IsSublist xs zs
sublist-trans [] ys zs h k = tt
sublist-trans (x ∷ xs) [] zs h k = absurd h
sublist-trans (x ∷ xs) (y ∷ ys) [] h k = absurd k
sublist-trans (x ∷ xs) (y ∷ ys) (z ∷ zs) h (inr k) = inr (sublist-trans (x ∷ xs) (y ∷ ys) zs h k)
sublist-trans (x ∷ xs) (y ∷ ys) (z ∷ zs) (inl h) (inl k) = inl (h.0 ∙ k.0, sublist-trans xs ys zs h.1 k.1)
sublist-trans (x ∷ xs) (y ∷ ys) (z ∷ zs) (inr h) (inl k) = inr (sublist-trans (x ∷ xs) ys zs h k.1)

prefix-trans : {X : Type 0} (xs ys zs : List X) → IsPrefix xs ys → IsPrefix ys zs → IsPrefix xs zs
prefix-trans xs ys zs h k = (h.0 ++ k.0, k.1 ∙ ap (λ front. front ++ k.0) h.1 ∙ append_assoc xs h.0 k.0)

-- ---- an agent's filings

-- What is published of the one list stays in the other.
record Stands (day : ℤ) (fs : List AcceptedFiling) (later : ℤ) (gs : List AcceptedFiling) : Type 0 where
  filings : IsSublist (filter (is_published day) fs) (filter (is_published later) gs)
  records : (declaration rec : List ℕ) → IsPrefix (live_series declaration rec (live_of (filter (is_published day) fs))) (live_series declaration rec (live_of (filter (is_published later) gs)))

-- one more filing
stands_before : (day : ℤ) (fs : List AcceptedFiling) (f : AcceptedFiling) → Stands day fs day (fs ++ f ∷ [])
stands_before day fs f =
    let p = is_published day in
    let more = filter p (f ∷ []) in
    let both : filter p (fs ++ f ∷ []) ≡ filter p fs ++ more = filter-append p fs (f ∷ []) in
    record {
      filings = subst (IsSublist (filter p fs)) (sym both) (sublist-left (filter p fs) more);
      records = λ declaration rec. (
        live_series declaration rec (live_of more),
        ap (λ (gs : List AcceptedFiling). live_series declaration rec (live_of gs)) both ∙ ap (live_series declaration rec) (live_of-append (filter p fs) more)
            ∙ filter-append (λ (l : Live). is_of declaration rec l.statement) (live_of (filter p fs)) (live_of more),
      );
    }

-- what has one and the same published filings
stands_same : (day : ℤ) (fs gs : List AcceptedFiling) → filter (is_published day) gs ≡ filter (is_published day) fs → Stands day fs day gs
stands_same day fs gs same = record {
  filings = subst (IsSublist (filter (is_published day) fs)) (sym same) (sublist_itself (filter (is_published day) fs));
  records = λ declaration rec. ([], ap (λ (ps : List AcceptedFiling). live_series declaration rec (live_of ps)) same ∙ sym (append-nil (live_series declaration rec (live_of (filter (is_published day) fs)))));
}

stands_still : (day : ℤ) (fs : List AcceptedFiling) → Stands day fs day fs
stands_still day fs = stands_same day fs fs refl

-- ---- a draft is withdrawn

number_from : (n : ℕ) (key : List ℕ) (fs : List AcceptedFiling) (f : AcceptedFiling) → IsNumberedFrom n fs → filing_keyed key fs ≡ Some f → n ≤ f.number
number_from n key [] f h found = absurd cc
number_from n key (g ∷ gs) f h found = grind (arith, number_from (n + 1) key gs f h.1, h.0)

withdrawn-published : (day : ℤ) (n : ℕ) (key : List ℕ) (fs : List AcceptedFiling) (f : AcceptedFiling) → IsNumberedFrom n fs → filing_keyed key fs ≡ Some f → is_published day f ≡ false →
    filter (is_published day) (with_withdrawn f.number fs) ≡ filter (is_published day) fs
withdrawn-published day n key [] f h found draft = refl
withdrawn-published day n key (g ∷ gs) f h found draft = grind (arith, withdrawn-published day (n + 1) key gs f h.1, number_from (n + 1) key gs f h.1, h.0)

-- ---- an agent's request

stands_own : (s : Sight) (request : AgentRequest) → AreLegal s.own → Stands s.day s.own s.day (own_after s request)
stands_own s (ask.Lodge key due file) legal = by_lodging s key due file (Stands s.day s.own s.day) (stands_still s.day s.own)
    (λ ss fresh room read. stands_before s.day s.own (accepted s.own key due file ss))
stands_own s (ask.Withdraw key) legal = by_withdrawal s key (Stands s.day s.own s.day) (stands_still s.day s.own)
    (λ f found live draft alone. stands_same s.day s.own (with_withdrawn f.number s.own) (withdrawn-published s.day 1 key s.own f legal.numbered found (rw (live, draft) refl)))
stands_own s request legal = stands_still s.day s.own

-- ---- a later day

due_later : (due day later : ℤ) → int_le day later ≡ true → int_le due day ≡ true → int_le due later ≡ true
due_later due day later h k = grind (arith, ints)

published_later : (day later : ℤ) (f : AcceptedFiling) → int_le day later ≡ true → is_published day f ≡ true → is_published later f ≡ true
published_later day later f up is = let both = and_parts (not f.withdrawn) (int_le f.due day) is in rw (both.0, due_later f.due day later up both.1) refl

module _ (day later : ℤ) (up : int_le day later ≡ true) where
  filter_twice : (fs : List AcceptedFiling) → filter (is_published day) (filter (is_published later) fs) ≡ filter (is_published day) fs
  filter_twice = filter-wider (is_published day) (is_published later) (λ f. published_later day later f up)

  stands_later : (fs : List AcceptedFiling) → AreRead [] fs → Stands day fs later fs
  stands_later fs read = record {
    filings = subst (λ (ps : List AcceptedFiling). IsSublist ps (filter (is_published later) fs)) (filter_twice fs) (sublist-filter (is_published day) (filter (is_published later) fs));
    records = λ declaration rec.
        subst (λ (ps : List AcceptedFiling). IsPrefix (live_series declaration rec (live_of ps)) (live_series declaration rec (live_of (filter (is_published later) fs)))) (filter_twice fs)
        (front_by day (filter (is_published later) fs) declaration rec (published_read later fs read));
  }

-- ---- a step

same_day : (day : ℤ) → int_le day day ≡ true
same_day day = grind (arith, ints)

standing : (r q : Register) → int_le r.day q.day ≡ true → ((name : List ℕ) → Stands r.day (filings_of name r.members) q.day (filings_of name q.members)) → IsStanding r q
standing r q up stands = record { day = up; filings = λ name. (stands name).filings; records = λ name. (stands name).records }

standing_still : (r : Register) → IsStanding r r
standing_still r = standing r r (same_day r.day) (λ name. stands_still r.day (filings_of name r.members))

-- the day and each agent's filings are as they were
standing_same : (r q : Register) → q.day ≡ r.day → ((name : List ℕ) → filings_of name q.members ≡ filings_of name r.members) → IsStanding r q
standing_same r q day same = standing r q (subst (λ d. int_le r.day d ≡ true) (sym day) (same_day r.day)) (λ name.
    subst (λ d. Stands r.day (filings_of name r.members) d (filings_of name q.members)) (sym day)
    (subst (Stands r.day (filings_of name r.members) r.day) (sym (same name)) (stands_still r.day (filings_of name r.members))))

standing_agent : (r : Register) (name : List ℕ) (request : AgentRequest) → IsLegal r → IsStanding r (agent_step r name request).register
standing_agent r name request legal =
    let own = own_after (sight_of name r) request in
    standing r (agent_step r name request).register (same_day r.day) (λ other.
    changed (λ fs. Stands r.day (filings_of other r.members) r.day fs) other name own r.members (stands_still r.day (filings_of other r.members))
    (λ same. subst (λ n. Stands r.day (filings_of n r.members) r.day own) same (stands_own (sight_of name r) request (own_legal name r.members legal.own))))

standing_advance : (r : Register) (date : ℤ) → IsLegal r → IsStanding r (advance_step r date).register
standing_advance r date legal = by_advance r date (λ o. IsStanding r o.register) (standing_still r) (λ later.
    let up : int_le r.day date ≡ true = grind (arith, ints) in
    standing r (record r { day = date }) up (λ name. stands_later r.day date up (filings_of name r.members) (own_legal name r.members legal.own).read))

standing_registrar : (r : Register) (request : RegistrarRequest) → IsLegal r → IsStanding r (registrar_step r request).register
standing_registrar r (office.Day date) legal = standing_advance r date legal
standing_registrar r (office.Enrol name token) legal =
    standing_same r _ (by_enrolment r name token (λ o. o.register.day ≡ r.day) (λ fault. refl) (λ fresh free. refl)) (registrar-filings r (office.Enrol name token))
standing_registrar r (office.Renew name token) legal = standing_same r _ (renewal-renews_token r name token).day (registrar-filings r (office.Renew name token))
standing_registrar r office.Register legal = standing_still r

standing_step : (r : Register) (caller : Option Caller) (request : Request) → IsLegal r → IsStanding r (step r caller request).register
standing_step r (Some Registrar) (of.Registrar request) legal = standing_registrar r request legal
standing_step r (Some (Agent name)) (of.Agent request) legal = standing_agent r name request legal
standing_step r caller request legal = standing_still r

standing-trans : (r q s : Register) → IsStanding r q → IsStanding q s → IsStanding r s
standing-trans r q s h k = record {
  day = due_later r.day q.day s.day k.day h.day;
  filings = λ name. sublist-trans (published_by name r) (published_by name q) (published_by name s) (h.filings name) (k.filings name);
  records = λ name declaration rec. prefix-trans _ _ _ (h.records name declaration rec) (k.records name declaration rec);
}

pub published_stays : PublishedStays
published_stays r [] legal = standing_still r
published_stays r (a ∷ rest) legal =
    let caller = caller_of a.token r in
    let next = (exchange r a).register in
    standing-trans r next (register_after next rest) (standing_step r caller a.request legal) (published_stays next rest (step-stays_legal r caller a.request legal))
