-- The rows of an agent that a viewer sees are those that it sees statement by statement.
use Rattle.std.proofs.Common.{◌≡◌, ℕ, ℤ, ◌+◌, ◌<◌, ◌==◌, Bool, true, false, ◌&&◌, List, [], ◌∷◌, ◌++◌, map, refl, sym, ap, ap₂, ◌∙◌, arith, if◌then◌else◌, filter, rules}
use Rattle.std.specs.List.{AllByRecursion, list_any}
use Rattle.std.proofs.Math.Bool.{or-false}
use Rattle.std.proofs.lemmas.List.{map-append}
use Rattle.std.proofs.lemmas.List.Elements.{filter-append}
use Rattle.sqlite_keyed.proofs.ListLemmas.{filter-map, filter_all, filter_none}
pub use Rattle.sqlite_trees.proofs.ListLemmas.{filter_same}
pub use Rattle.bor_register.proofs.OnMemory.Lists.{filters_swap}
use Rattle.bods_read.specs.declared.statement.Statement.{Statement}
use Rattle.bor_register.specs.Rows.{row_of, rows_from, rows_in, rows_of, is_visible}
use Rattle.bor_register.specs.declared.filing.AcceptedFiling.{AcceptedFiling}
use Rattle.bor_store_sql.specs.declared.rows.typed.Placed.{Placed}
use Rattle.bor_store_sql.specs.Rows.Placed.{placed_from, placed_by}
use Rattle.bor_store_sql.specs.Rows.Seen.{row_placed, is_of_declaration, is_seen}
use Rattle.bor_store_sql.specs.Rows.Stored.{AreNumbered}
use Rattle.bor_store_sql.proofs.OnRows.Numbers.{same_number, other_number, before_number}
use Rattle.bor_store_sql.proofs.OnRows.Each.{each_by, each_from}

rows_from-placed : (agent : List ℕ) (number place : ℕ) (ss : List Statement) → rows_from agent number place ss ≡ map row_placed (placed_from agent number place ss)
rows_from-placed agent number place [] = refl
rows_from-placed agent number place (s ∷ ss) = ap (λ l. row_of agent number place s ∷ l) (rows_from-placed agent number (place + 1) ss)

pub rows_in-placed : (agent : List ℕ) (fs : List AcceptedFiling) → rows_in agent fs ≡ map row_placed (placed_by agent fs)
rows_in-placed agent [] = refl
rows_in-placed agent (f ∷ fs) = search (rules, rows_from-placed, map-append, rows_in-placed agent fs)

module _ (viewer : List ℕ) (day : ℤ) (agent : List ℕ) where
  -- no later filing has the number
  none_later : (number n : ℕ) (fs : List AcceptedFiling) → number < n → AreNumbered n fs → list_any (λ f. f.number == number && is_visible viewer day agent f) fs ≡ false
  none_later number n [] low numbered = refl
  none_later number n (f ∷ fs) low numbered =
      rw (other_number number f.number (let is = numbered.0 in omega (arith, is))) (none_later number (n + 1) fs (omega arith) numbered.1)

  own_seen : (f : AcceptedFiling) (fs : List AcceptedFiling) (n place : ℕ) → f.number < n → AreNumbered n fs → (ss : List Statement)
      → AllByRecursion (λ (p : Placed). is_seen viewer day agent (f ∷ fs) p ≡ is_visible viewer day agent f) (placed_from agent f.number place ss)
  own_seen f fs n place low numbered ss =
      each_from (λ p. is_seen viewer day agent (f ∷ fs) p ≡ is_visible viewer day agent f) agent f.number place ss
      (λ k s from. rw (same_number f.number, none_later f.number n fs low numbered) (or-false (is_visible viewer day agent f)))

  later_by : (f : AcceptedFiling) (fs : List AcceptedFiling) (n : ℕ) (gs : List AcceptedFiling) → f.number < n → AreNumbered n gs
      → AllByRecursion (λ (p : Placed). is_seen viewer day agent (f ∷ fs) p ≡ is_seen viewer day agent fs p) (placed_by agent gs)
  later_by f fs n gs low numbered =
      each_by (λ p. is_seen viewer day agent (f ∷ fs) p ≡ is_seen viewer day agent fs p) agent n gs numbered (λ filing place s from. rw (before_number f.number filing (omega (arith, from))) refl)

  all_own : (b : Bool) (q : Placed → Bool) (ps : List Placed) → AllByRecursion (λ p. q p ≡ b) ps → filter q ps ≡ (if b then ps else [])
  all_own true q ps h = filter_all q ps h
  all_own false q ps h = filter_none q ps h

  pub visible_placed : (n : ℕ) (fs : List AcceptedFiling) → AreNumbered n fs → placed_by agent (filter (is_visible viewer day agent) fs) ≡ filter (is_seen viewer day agent fs) (placed_by agent fs)
  visible_placed n [] numbered = refl
  visible_placed n (f ∷ fs) numbered =
      let low : f.number < n + 1 = let is = numbered.0 in omega (arith, is) in
      let own = all_own (is_visible viewer day agent f) (is_seen viewer day agent (f ∷ fs)) (placed_from agent f.number 1 f.statements) (own_seen f fs (n + 1) 1 low numbered.1 f.statements) in
      let rest = filter_same (is_seen viewer day agent (f ∷ fs)) (is_seen viewer day agent fs) (placed_by agent fs) (later_by f fs (n + 1) fs low numbered.1) ∙ sym (visible_placed (n + 1) fs numbered.1) in
      first_case (is_visible viewer day agent f) f (filter (is_visible viewer day agent) fs)
      ∙ sym (filter-append (is_seen viewer day agent (f ∷ fs)) (placed_from agent f.number 1 f.statements) (placed_by agent fs) ∙ ap₂ (λ xs ys. xs ++ ys) own rest)
    where
      first_case : (b : Bool) (g : AcceptedFiling) (gs : List AcceptedFiling) → placed_by agent (if b then g ∷ gs else gs) ≡ (if b then placed_from agent g.number 1 g.statements else []) ++ placed_by agent gs
      first_case true g gs = refl
      first_case false g gs = refl

  -- the rows of a declaration that the viewer sees, from the declaration's statements
  pub rows_of-placed : (declaration : List ℕ) (n : ℕ) (fs : List AcceptedFiling) → AreNumbered n fs
      → rows_of viewer day agent declaration fs ≡ map row_placed (filter (is_seen viewer day agent fs) (filter (is_of_declaration declaration) (placed_by agent fs)))
  rows_of-placed declaration n fs numbered = search (rules, rows_in-placed, visible_placed, filter-map, filters_swap)
