-- The rows of the members, and those of one agent.
use Rattle.std.proofs.Common.{◌≡◌, ℕ, Bool, true, false, List, [], ◌∷◌, ◌++◌, filter, append-nil, true≢false, refl, sym, ap, ap₂, subst, subst₂, ◌∙◌, IsPermutation, append_assoc, if◌then◌else◌, ◌||◌, rules}
use Rattle.std.specs.List.{AllByRecursion}
use Rattle.std.proofs.lemmas.List.Sorted.{IsPermutation-append_comm, IsPermutation-append_right, IsPermutation-cons, IsPermutation-refl}
use Rattle.std.proofs.lemmas.List.Elements.{filter-append}
use Rattle.sqlite_keyed.proofs.ListLemmas.{all_weaker, filter_all, filter_none}
use Rattle.bor_terms.specs.Texts.{is_same, is_below}
use Rattle.bor_terms.proofs.Texts.{same_is, same_sym, below_differs}
use Rattle.bor_register.specs.declared.filing.AcceptedFiling.{AcceptedFiling}
use Rattle.bor_register.specs.declared.member.Member.{Member}
use Rattle.bor_register.specs.Register.{IsOrdered, AllAbove, is_enrolled, filings_of, with_filings, with_member}

-- where one agent has the name, the others have other names
pub apart_names : (agent name : List ℕ) (ms : List Member) → is_same name agent ≡ true → AllAbove name ms → AllByRecursion (λ (m : Member). is_same m.name agent ≡ false) ms
apart_names agent name [] same up = tt
apart_names agent name (m ∷ ms) same up =
    (same_sym m.name agent ∙ subst (λ a. is_same a m.name ≡ false) (same_is name agent same) (below_differs name m.name up.0), apart_names agent name ms same up.1)

-- what a list has of each agent's filings, agent by agent
module _ {X : Type 0} (own : List ℕ → List AcceptedFiling → List X) (all : List Member → List X) (none : all [] ≡ []) (some : (m : Member) (ms : List Member) → all (m ∷ ms) ≡ own m.name m.filings ++ all ms) where
  -- a filing is added to an agent's
  module _ (agent : List ℕ) (f : AcceptedFiling) (new : List X) (added : (fs : List AcceptedFiling) → own agent (fs ++ f ∷ []) ≡ own agent fs ++ new) where
    abbrev added_by : Member → List Member → Bool → List Member
    added_by m ms b =
        if b then record m { filings = (if b then m.filings else filings_of agent ms) ++ f ∷ [] } ∷ ms
        else m ∷ with_filings agent ((if b then m.filings else filings_of agent ms) ++ f ∷ []) ms

    turn : (xs ys zs : List X) → IsPermutation ((xs ++ ys) ++ zs) ((xs ++ zs) ++ ys)
    turn xs ys zs =
        subst₂ IsPermutation (sym (append_assoc xs ys zs)) (sym (append_assoc xs zs ys)) (IsPermutation-append_right xs (ys ++ zs) (zs ++ ys) (IsPermutation-append_comm ys zs))

    pub with_one_more : (ms : List Member) → is_enrolled agent ms ≡ true → IsPermutation (all ms ++ new) (all (with_filings agent (filings_of agent ms ++ f ∷ []) ms))
    with_one_more [] enrolled = absurd (true≢false (sym enrolled))
    with_one_more (m ∷ ms) enrolled = go (is_same m.name agent) refl enrolled (with_one_more ms)
      where
        go : (b : Bool) → is_same m.name agent ≡ b → (b || is_enrolled agent ms) ≡ true → (is_enrolled agent ms ≡ true → IsPermutation (all ms ++ new) (all (with_filings agent (filings_of agent ms ++ f ∷ []) ms)))
            → IsPermutation (all (m ∷ ms) ++ new) (all (added_by m ms b))
        go true e h more =
            let name : m.name ≡ agent = same_is m.name agent e in
            let here : own m.name (m.filings ++ f ∷ []) ≡ own m.name m.filings ++ new = subst (λ n. own n (m.filings ++ f ∷ []) ≡ own n m.filings ++ new) (sym name) (added m.filings) in
            subst₂ IsPermutation (ap (λ l. l ++ new) (sym (some m ms))) (sym (some (record m { filings = m.filings ++ f ∷ [] }) ms ∙ ap (λ l. l ++ all ms) here)) (turn (own m.name m.filings) (all ms) new)
        go false e h more =
            let after = with_filings agent (filings_of agent ms ++ f ∷ []) ms in
            subst₂ IsPermutation (sym (append_assoc (own m.name m.filings) (all ms) new) ∙ ap (λ l. l ++ new) (sym (some m ms))) (sym (some m after)) (IsPermutation-append_right (own m.name m.filings) (all ms ++ new) (all after) (more h))

  -- an agent without filings is added
  module _ (new : Member) (nothing : own new.name new.filings ≡ []) where
    pub with_new_agent : (ms : List Member) → all (with_member new ms) ≡ all ms
    with_new_agent [] = some new [] ∙ ap₂ (λ x y. x ++ y) nothing none ∙ sym none
    with_new_agent (m ∷ ms) = search (rules, with_new_agent ms)

  -- a change of the elements that leaves those of other agents
  module _ (change : List X → List X) (nothing : change [] ≡ []) (apart : (xs ys : List X) → change (xs ++ ys) ≡ change xs ++ change ys) (agent : List ℕ)
      (stay : (name : List ℕ) (fs : List AcceptedFiling) → is_same name agent ≡ false → change (own name fs) ≡ own name fs) where
    all_stay : (ms : List Member) → AllByRecursion (λ (m : Member). is_same m.name agent ≡ false) ms → change (all ms) ≡ all ms
    all_stay [] h = rw none nothing
    all_stay (m ∷ ms) h = rw (some m ms) (apart (own m.name m.filings) (all ms) ∙ ap₂ (λ x y. x ++ y) (stay m.name m.filings h.0) (all_stay ms h.1))

    pub own_changed : (new : List AcceptedFiling) (ms : List Member) → IsOrdered ms → change (own agent (filings_of agent ms)) ≡ own agent new → change (all ms) ≡ all (with_filings agent new ms)
    own_changed new [] up is = rw none nothing
    own_changed new (m ∷ ms) up is = search (rules, same_is, all_stay, apart_names, own_changed new ms)

  -- those of one agent
  module _ (owner : X → List ℕ) (owned : (name : List ℕ) (fs : List AcceptedFiling) → AllByRecursion (λ x. owner x ≡ name) (own name fs)) (without : (name : List ℕ) → own name [] ≡ []) (agent : List ℕ) where
    abbrev is_own : X → Bool
    is_own x = is_same (owner x) agent

    tested : (name : List ℕ) (fs : List AcceptedFiling) (b : Bool) → is_same name agent ≡ b → AllByRecursion (λ x. is_own x ≡ b) (own name fs)
    tested name fs b e = all_weaker (λ x. owner x ≡ name) (λ x. is_own x ≡ b) (λ x is. ap (λ a. is_same a agent) is ∙ e) (own name fs) (owned name fs)

    others_pass_not : (ms : List Member) → AllByRecursion (λ (m : Member). is_same m.name agent ≡ false) ms → filter is_own (all ms) ≡ []
    others_pass_not [] h = ap (filter is_own) none
    others_pass_not (m ∷ ms) h =
        ap (filter is_own) (some m ms) ∙ filter-append is_own (own m.name m.filings) (all ms)
        ∙ ap₂ (λ x y. x ++ y) (filter_none is_own (own m.name m.filings) (tested m.name m.filings false h.0)) (others_pass_not ms h.1)

    pub own_alone : (ms : List Member) → IsOrdered ms → filter is_own (all ms) ≡ own agent (filings_of agent ms)
    own_alone [] up = ap (filter is_own) none ∙ sym (without agent)
    own_alone (m ∷ ms) up = ap (filter is_own) (some m ms) ∙ filter-append is_own (own m.name m.filings) (all ms) ∙ go (is_same m.name agent) refl (own_alone ms up.1)
      where
        go : (b : Bool) → is_same m.name agent ≡ b → filter is_own (all ms) ≡ own agent (filings_of agent ms)
            → filter is_own (own m.name m.filings) ++ filter is_own (all ms) ≡ own agent (if b then m.filings else filings_of agent ms)
        go true e more =
            ap₂ (λ x y. x ++ y) (filter_all is_own (own m.name m.filings) (tested m.name m.filings true e)) (others_pass_not ms (apart_names agent m.name ms e up.0))
            ∙ append-nil (own m.name m.filings) ∙ ap (λ n. own n m.filings) (same_is m.name agent e)
        go false e more = ap₂ (λ x y. x ++ y) (filter_none is_own (own m.name m.filings) (tested m.name m.filings false e)) more

-- the members with one more are the members and that one
pub member_added : (new : Member) (ms : List Member) → IsPermutation (ms ++ new ∷ []) (with_member new ms)
member_added new [] = IsPermutation-refl (new ∷ [])
member_added new (m ∷ ms) = elim (is_below m.name new.name) as (λ b. IsPermutation (m ∷ ms ++ new ∷ []) (if b then m ∷ with_member new ms else new ∷ m ∷ ms)) [
  | true ↦ IsPermutation-cons m (ms ++ new ∷ []) (with_member new ms) (member_added new ms)
  | false ↦ IsPermutation-append_comm (m ∷ ms) (new ∷ [])
]
