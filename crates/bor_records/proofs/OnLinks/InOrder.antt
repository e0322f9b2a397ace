-- Nodes in order, each once, and all but one.
use Rattle.std.proofs.Common.{◌≡◌, ◌≢◌, ◌↔◌, ◌++◌, ◌∷◌, not, Bool, false, drop, List, [], Contains, sym, ap, ◌∙◌, subst}
use Rattle.std.specs.List.{dedup, filter, list_any, IsDistinct}
use Rattle.std.specs.List.Retain.{IsFiltered, DiffersFromLast}
use Rattle.std.specs.List.Sorted.{IsSorted, IsPermutation}
use Rattle.std.proofs.lemmas.Bool.{both_ways, cond_both, false_from_ne_true, not-true, not_from_false}
use Rattle.std.proofs.lemmas.List.Elements.{All-filter, All-from_recursion, recursion_from_All}
use Rattle.std.proofs.lemmas.List.Filters.{dedup_is}
use Rattle.std.proofs.lemmas.List.Kept.{IsStrictlySortedBy-dedup, Any-dedup, Contains-from_dedup}
use Rattle.std.proofs.lemmas.List.Sorted.{Contains-permutation, IsPermutation-sym}
use Rattle.std.proofs.lemmas.Map.Keys.{IsDistinct-from_sorted, IsDistinct-push}
use Rattle.bor_records.specs.declared.links.node.Node.{Node}
use Rattle.bor_records.specs.Links.Nodes.{same_node, node_cmp}
use Rattle.bor_records.specs.Links.Growth.{AreGiven}
use Rattle.bor_records.specs.Links.Orders.{node_equiv, node_total, node_ties}
use Rattle.bor_records.proofs.OnLinks.Found.{Contains-filter, Contains-from_filter}
use Rattle.bor_records.proofs.OnLinks.SameNode.{same_node_is}
use Rattle.bor_records.proofs.OnLinks.Signs.{same_any}

pub once_same : (xs ys zs : List Node) → IsPermutation xs ys → IsFiltered (DiffersFromLast same_node) [] ys zs → (n : Node) → Contains zs n ↔ Contains xs n
once_same xs ys zs p f n = subst (λ (ls : List Node). Contains ls n ↔ Contains xs n) (sym (dedup_is same_node ys zs f)) (
  (λ h. Contains-permutation ys xs n (IsPermutation-sym xs ys p) (Contains-from_dedup same_node ys n h)),
  (λ h.
      let a = Any-dedup node_equiv ys n (Contains-permutation xs ys n p h) in
      subst (λ (m : Node). Contains (dedup same_node ys) m) (sym (same_node_is n a.1 a.4)) (a.0, a.2, a.3)),
)

pub once_distinct : (ys zs : List Node) → IsSorted node_cmp ys → IsFiltered (DiffersFromLast same_node) [] ys zs → IsDistinct same_node zs
once_distinct ys zs s f =
    subst (λ (ls : List Node). IsDistinct same_node ls) (sym (dedup_is same_node ys zs f))
    (subst (λ (same : Node → Node → Bool). IsDistinct same (dedup same_node ys)) (λ i a b. sym (node_ties a b) i)
    (IsDistinct-from_sorted node_cmp (dedup same_node ys) (IsStrictlySortedBy-dedup node_total node_ties ys s)))

-- a node that isn't there
absent : (nodes : List Node) (n : Node) → (Contains nodes n → ⊥) → list_any (same_node n) nodes ≡ false
absent nodes n gone = false_from_ne_true (list_any (same_node n) nodes) (λ e. let m = same_any (same_node n) nodes e in gone (subst (λ (x : Node). Contains nodes x) (sym (same_node_is n m.0 m.2)) m.1))

-- a node more
pub distinct_more : (nodes : List Node) (n : Node) → IsDistinct same_node nodes → (Contains nodes n → ⊥) → IsDistinct same_node (nodes ++ n ∷ [])
distinct_more nodes n once gone = IsDistinct-push node_equiv nodes n once (absent nodes n gone)

-- no node
pub none_once : (order given : List Node) → order ≡ [] → given ≡ [] → AreGiven (drop 1 order) given × IsDistinct same_node order
unfolding IsDistinct
none_once order given e f = rw (e, f) ((λ n. ((λ h. h), (λ h. h))), tt)

-- ---- all but one

filter_distinct : (p : Node → Bool) (nodes : List Node) → IsDistinct same_node nodes → IsDistinct same_node (filter p nodes)
unfolding IsDistinct
filter_distinct p [] d = tt
filter_distinct p (n ∷ nodes) d =
    let differs = λ (m : Node). same_node n m ≡ false in
    let rest = filter_distinct p nodes d.1 in
    cond_both (p n) (n ∷ filter p nodes) (filter p nodes) (IsDistinct same_node) (λ kept. (recursion_from_All differs _ (All-filter p differs nodes (All-from_recursion differs nodes d.0)), rest)) (λ left. rest)

module _ (nodes others : List Node) (node : Node) (is : others ≡ filter (λ n. not (same_node n node)) nodes) where
  pub others_are : (n : Node) → Contains others n ↔ Contains nodes n × (n ≢ node)
  others_are n = subst (λ (ns : List Node). Contains ns n ↔ Contains nodes n × (n ≢ node)) (sym is) (
    (λ h.
        let m = Contains-from_filter (λ n. not (same_node n node)) nodes n h in
        (m.0, λ e. both_ways (same_node n node) (not-true (same_node n node) m.1) (ap (λ (x : Node). same_node x node) e ∙ node_equiv.refl node))),
    (λ h. Contains-filter (λ n. not (same_node n node)) nodes n h.0 (not_from_false (same_node n node) (false_from_ne_true (same_node n node) (λ e. h.1 (same_node_is n node e))))),
  )

  pub others_distinct : IsDistinct same_node nodes → IsDistinct same_node others
  others_distinct d = subst (λ (ns : List Node). IsDistinct same_node ns) (sym is) (filter_distinct (λ n. not (same_node n node)) nodes d)
