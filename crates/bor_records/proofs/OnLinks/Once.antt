-- What distinct items make has distinct records, and is found where they are.
use Rattle.std.proofs.Common.{◌≡◌, ◌∙◌, Bool, true, false, Option, Some, None, option_and_then, List, [], ◌∷◌, Contains, map, refl, subst, inl, inr, arith}
use Rattle.std.specs.List.{IsDistinct, AllByRecursion, filter, filter_map, find, cons_option}
use Rattle.std.proofs.lemmas.Bool.{cond-false, cond-true}
use Rattle.std.proofs.lemmas.List.Elements.{All-contains, All-from_recursion}
use Rattle.bor_records.specs.declared.links.node.Node.{Node}
use Rattle.bor_records.specs.Links.Nodes.{same_node}
use Rattle.bor_records.specs.Links.Orders.{node_equiv}
use Rattle.bor_records.proofs.OnLinks.Found.{cases, none}
use Rattle.bor_records.proofs.OnLinks.SameNode.{same_node_is}

abbrev AreApart : {Y : Type 0} → (Y → Node) → Node → List Y → Type 0
AreApart of m ys = AllByRecursion (λ n. same_node m n ≡ false) (map of ys)

-- what one item makes is apart from what the others make
made_apart : {X Y : Type 0} (same : X → X → Bool) (of : Y → Node) (f : X → Option Y) (x : X) (m : Node) → ((z : X) (w : Y) → f z ≡ Some w → same x z ≡ false → same_node m (of w) ≡ false)
    → (zs : List X) → AllByRecursion (λ z. same x z ≡ false) zs → AreApart of m (filter_map f zs)
made_apart same of f x m far [] h = tt
made_apart same of f x m far (z ∷ zs) h = grind (arith, far z, h.0, made_apart same of f x m far zs h.1)

-- where what two distinct items make has two records
pub made_distinct : {X Y : Type 0} (same : X → X → Bool) (of : Y → Node) (f : X → Option Y)
    → ((x z : X) (y w : Y) → f x ≡ Some y → f z ≡ Some w → same x z ≡ false → same_node (of y) (of w) ≡ false)
    → (xs : List X) → IsDistinct same xs → IsDistinct same_node (map of (filter_map f xs))
unfolding IsDistinct
made_distinct same of f far [] d = tt
made_distinct {X} {Y} same of f far (x ∷ xs) d =
    let apart = λ (y : Y) (e : f x ≡ Some y). made_apart same of f x (of y) (λ z w q. far x z y w e q) xs d.0 in
    grind (arith, apart, made_distinct same of f far xs d.1)

-- ---- items of which no two have one node

module _ {X : Type 0} (key : X → Node) where
  abbrev AreOnce : List X → Type 0
  AreOnce xs = IsDistinct (λ x z. same_node (key x) (key z)) xs

  -- each is what is found of its node
  pub found_once : (xs : List X) (y : X) → AreOnce xs → Contains xs y → find (λ x. same_node (key x) (key y)) xs ≡ Some y
  unfolding IsDistinct
  found_once [] y d on = absurd (none y on)
  found_once (x ∷ xs) y d on = elim (cases x xs y on) [
    | inl e ↦ subst (λ (z : X). find (λ w. same_node (key w) (key z)) (x ∷ xs) ≡ Some z) e (cond-true (same_node (key x) (key x)) (Some x) _ (node_equiv.refl (key x)))
    | inr k ↦
        let differs = All-contains (λ z. same_node (key x) (key z) ≡ false) xs y (All-from_recursion (λ z. same_node (key x) (key z) ≡ false) xs d.0) k in
        cond-false (same_node (key x) (key y)) (Some x) _ differs ∙ found_once xs y d.1 k
  ]

  -- behind an item none has its node
  none_behind : (n : Node) (x : X) → same_node (key x) n ≡ true → (xs : List X) → AllByRecursion (λ z. same_node (key x) (key z) ≡ false) xs → find (λ z. same_node (key z) n) xs ≡ None
  none_behind n x e [] h = refl
  none_behind n x e (z ∷ zs) h = grind (arith, node_equiv.symm (key z) n, same_node_is (key x) n e, h.0, none_behind n x e zs h.1)

  -- so one at most is kept of a node
  pub one_kept : (n : Node) (xs : List X) → AreOnce xs → filter (λ x. same_node (key x) n) xs ≡ cons_option (find (λ x. same_node (key x) n) xs) []
  unfolding IsDistinct
  one_kept n [] d = refl
  one_kept n (x ∷ xs) d =
      let behind = λ (e : same_node (key x) n ≡ true). none_behind n x e xs d.0 in
      grind (arith, behind, one_kept n xs d.1)

  -- and what is made of them is found where they are
  pub made_found : {Y : Type 0} (of : Y → Node) (f : X → Option Y) → ((x : X) (y : Y) → f x ≡ Some y → of y ≡ key x) → (n : Node) (xs : List X) → AreOnce xs
      → find (λ y. same_node (of y) n) (filter_map f xs) ≡ option_and_then f (find (λ x. same_node (key x) n) xs)
  unfolding IsDistinct
  made_found of f is n [] d = refl
  made_found of f is n (x ∷ xs) d =
      let behind = λ (e : same_node (key x) n ≡ true). none_behind n x e xs d.0 in
      grind (arith, behind, is x, made_found of f is n xs d.1)
