-- Laws of the order of nodes.
use Rattle.std.specs.Prelude.{◌≡◌, ◌&&◌, Bool, true, false, Some, refl}
use Rattle.std.specs.Ordering.{ordering_then, is_eq, eq_by_cmp}
use Rattle.std.specs.declared.cmp.Ordering.{Ordering}
use Rattle.std.specs.declared.cmp.Ordering.TheVariants.{Less, Equal, Greater}
use Rattle.std.specs.Cmp.{IsTotalOrder, IsEquivalence, IsPartialOrder, partial_order_from_total}
use Rattle.std.specs.Cmp.{on_total, then_total, and_equiv, on_equiv}
use Rattle.std.specs.Cmp.Lexicographic.{nat_list_eq_equiv, nat_list_cmp_total, texts_ties}
use Rattle.std.proofs.Common.{◌∙◌, ap, sym, subst}
use Rattle.bor_records.specs.declared.links.node.Node.{Node}
use Rattle.bor_records.specs.Links.Nodes.{same_node, node_cmp, text_cmp}

pub node_equiv : IsEquivalence same_node
node_equiv =
    and_equiv (on_equiv (λ (n : Node). n.agent) nat_list_eq_equiv)
    (and_equiv (on_equiv (λ (n : Node). n.declaration) nat_list_eq_equiv)
    (on_equiv (λ (n : Node). n.rec) nat_list_eq_equiv))

pub node_total : IsTotalOrder node_cmp
node_total =
    then_total (on_total (λ (n : Node). n.rec) nat_list_cmp_total)
    (then_total (on_total (λ (n : Node). n.declaration) nat_list_cmp_total)
    (on_total (λ (n : Node). n.agent) nat_list_cmp_total))

no : (b : Bool) → (b && false) ≡ false
no true = refl
no false = refl

yes : (b : Bool) → (b && true) ≡ b
yes true = refl
yes false = refl

three : (a d r : Ordering)
    → (is_eq a && (is_eq d && is_eq r)) ≡ is_eq (ordering_then r (ordering_then d a))
three a d Less = ap (λ (b : Bool). is_eq a && b) (no (is_eq d)) ∙ no (is_eq a)
three a d Greater = ap (λ (b : Bool). is_eq a && b) (no (is_eq d)) ∙ no (is_eq a)
three a Less Equal = no (is_eq a)
three a Greater Equal = no (is_eq a)
three a Equal Equal = yes (is_eq a)

pub all_three : (a b c e f g : Bool) → a ≡ e → b ≡ f → c ≡ g → (a && (b && c)) ≡ (e && (f && g))
all_three a b c e f g p q r =
    ap (λ (x : Bool). x && (b && c)) p ∙ ap (λ (x : Bool). e && (x && c)) q ∙ ap
    (λ (x : Bool). e && (f && x)) r

pub node_ties : (a b : Node) → same_node a b ≡ eq_by_cmp node_cmp a b
node_ties a b =
    all_three _ _ _ _ _ _ (texts_ties a.agent b.agent) (texts_ties a.declaration b.declaration)
    (texts_ties a.rec b.rec)
    ∙ three (text_cmp a.agent b.agent) (text_cmp a.declaration b.declaration) (text_cmp a.rec b.rec)

pub node_po : IsPartialOrder same_node (λ x y. Some (node_cmp x y))
node_po =
    subst (λ (same : Node → Node → Bool). IsPartialOrder same (λ x y. Some (node_cmp x y)))
    (λ i x y. sym (node_ties x y) i) (partial_order_from_total node_total)
