-- The open node that is listed for a node.
use Rattle.std.proofs.Common.{◌≡◌, false, Some, List, [], ◌∷◌, Contains, map, ◌∙◌, subst, inl, inr}
use Rattle.std.specs.List.{IsDistinct}
use Rattle.std.proofs.lemmas.Bool.{cond-false, cond-true}
use Rattle.std.proofs.lemmas.List.Elements.{All-contains, All-from_recursion}
use Rattle.bor_records.specs.declared.links.node.Node.{Node}
use Rattle.bor_records.specs.declared.links.node.OpenNode.{OpenNode}
use Rattle.bor_records.specs.Links.Answers.{AreDistinct}
use Rattle.bor_records.specs.Links.Nodes.{same_node}
use Rattle.bor_records.specs.Links.Orders.{node_equiv}
use Rattle.bor_records.specs.Links.Shown.{listed_at}
use Rattle.bor_records.proofs.OnLinks.Found.{cases, found, none, Contains-map}
use Rattle.bor_records.proofs.OnLinks.SameNode.{same_node_is}

-- what is listed of a node is in the list, and of that node
pub found_is : (nodes : List OpenNode) (b : Node) (y : OpenNode) → listed_at nodes b ≡ Some y → Contains nodes y × (y.node ≡ b)
found_is nodes b y h = let m = found (λ x. same_node x.node b) nodes y h in (m.0, same_node_is y.node b m.1)

-- of distinct nodes each is what is listed of it
pub listed_is : (nodes : List OpenNode) (y : OpenNode) → AreDistinct nodes → Contains nodes y → listed_at nodes y.node ≡ Some y
unfolding IsDistinct
listed_is [] y d on = absurd (none y on)
listed_is (x ∷ xs) y d on = elim (cases x xs y on) [
  | inl e ↦ subst (λ (z : OpenNode). listed_at (x ∷ xs) z.node ≡ Some z) e (cond-true (same_node x.node x.node) (Some x) (listed_at xs x.node) (node_equiv.refl x.node))
  | inr k ↦
      let nodes = map (λ (z : OpenNode). z.node) xs in
      let differs = All-contains (λ n. same_node x.node n ≡ false) nodes y.node (All-from_recursion (λ n. same_node x.node n ≡ false) nodes d.0) (Contains-map (λ (z : OpenNode). z.node) xs y k) in
      cond-false (same_node x.node y.node) (Some x) (listed_at xs y.node) differs ∙ listed_is xs y d.1 k
]
