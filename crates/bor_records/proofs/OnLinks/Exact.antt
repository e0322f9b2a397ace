-- Nodes that compare alike are one, and so are signs and links.
use Rattle.std.proofs.Common.{◌≡◌, Bool, arith}
use Rattle.std.specs.declared.cmp.Ordering.{Ordering}
use Rattle.std.specs.declared.cmp.Ordering.TheVariants.{Equal}
use Rattle.std.specs.Ordering.{ordering_then, bool_cmp}
use Rattle.std.proofs.lemmas.Map.Lookups.{CmpEqualImpliesEq, exact_bytes}
use Rattle.bor_records.specs.declared.links.node.Link.{Link}
use Rattle.bor_records.specs.declared.links.sign.Sign.{Sign}
use Rattle.bor_records.specs.Links.Nodes.{text_cmp, node_cmp, link_cmp}
use Rattle.bor_records.specs.Links.Signs.{sign_cmp}

pub parts : (p q : Ordering) → ordering_then p q ≡ Equal → (p ≡ Equal) × (q ≡ Equal)
parts p q h = grind arith

pub exact_node : CmpEqualImpliesEq node_cmp
exact_node a b h =
    let one = parts (text_cmp a.rec b.rec) (ordering_then (text_cmp a.declaration b.declaration) (text_cmp a.agent b.agent)) h in
    let two = parts (text_cmp a.declaration b.declaration) (text_cmp a.agent b.agent) one.1 in
    λ i. record { agent = exact_bytes a.agent b.agent two.1 i; declaration = exact_bytes a.declaration b.declaration two.0 i; rec = exact_bytes a.rec b.rec one.0 i }

pub sign_is : (a b : Sign) → a.of_record ≡ b.of_record → a.group ≡ b.group → a.name ≡ b.name → a ≡ b
sign_is a b d e f = λ i. record { of_record = d i; group = e i; name = f i }

exact_bool : (x y : Bool) → bool_cmp x y ≡ Equal → x ≡ y
exact_bool x y h = grind arith

pub exact_sign : CmpEqualImpliesEq sign_cmp
exact_sign a b h =
    let one = parts (text_cmp a.name b.name) (ordering_then (text_cmp a.group b.group) (bool_cmp a.of_record b.of_record)) h in
    let two = parts (text_cmp a.group b.group) (bool_cmp a.of_record b.of_record) one.1 in
    sign_is a b (exact_bool a.of_record b.of_record two.1) (exact_bytes a.group b.group two.0) (exact_bytes a.name b.name one.0)

link_is : (a b : Link) → a.rec ≡ b.rec → a.subject ≡ b.subject → a.party ≡ b.party → a.stake ≡ b.stake → a.holding ≡ b.holding → a ≡ b
link_is a b d e f g h = λ i. record { rec = d i; subject = e i; party = f i; stake = g i; holding = h i }

pub exact_link : CmpEqualImpliesEq link_cmp
exact_link a b h =
    let one = parts (text_cmp a.rec b.rec) _ h in
    let two = parts (node_cmp a.subject b.subject) _ one.1 in
    let three = parts (node_cmp a.party b.party) _ two.1 in
    let four = parts (bool_cmp a.stake b.stake) (bool_cmp a.holding b.holding) three.1 in
    link_is a b (exact_bytes a.rec b.rec one.0) (exact_node a.subject b.subject two.0) (exact_node a.party b.party three.0) (exact_bool a.stake b.stake four.0) (exact_bool a.holding b.holding four.1)
