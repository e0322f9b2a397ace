-- Nodes that compare alike are one.
use Rattle.std.proofs.Common.{◌≡◌, ◌&&◌, true}
use Rattle.std.proofs.lemmas.Bool.{and_parts}
use Rattle.bor_terms.specs.Texts.{is_same}
use Rattle.bor_terms.proofs.Texts.{same_is}
use Rattle.bor_records.specs.declared.links.node.Node.{Node}
use Rattle.bor_records.specs.Links.Nodes.{same_node}

pub same_node_is : (a b : Node) → same_node a b ≡ true → a ≡ b
same_node_is a b h =
    let first = and_parts (is_same a.agent b.agent) (is_same a.declaration b.declaration && is_same a.rec b.rec) h in
    let others = and_parts (is_same a.declaration b.declaration) (is_same a.rec b.rec) first.1 in
    λ i. record { agent = same_is a.agent b.agent first.0 i; declaration = same_is a.declaration b.declaration others.0 i; rec = same_is a.rec b.rec others.1 i }
