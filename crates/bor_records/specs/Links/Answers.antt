-- The answers on a node.
use Rattle.std.specs.Prelude.{◌≡◌, ◌↔◌, List, Contains, IsTrue, Option, None, Some, map}
use Rattle.std.specs.Prelude.{if◌then◌else◌}
use Rattle.std.specs.List.{IsDistinct}
use Rattle.bods_read.specs.declared.details.Identifier.{Identifier}
use Rattle.bor_records.specs.declared.links.node.Node.{Node}
use Rattle.bor_records.specs.declared.links.node.OpenNode.{OpenNode}
use Rattle.bor_records.specs.declared.links.sign.Sign.{Sign}
use Rattle.bor_records.specs.declared.links.node.Link.{Link}
use Rattle.bor_records.specs.Links.Nodes.{same_node, link_record}
use Rattle.bor_records.specs.Links.Shown.{Shown, has_identifier, listed_at}
use Rattle.bor_records.specs.Links.Signs.{HasSign}
use Rattle.bor_records.specs.Links.Aliases.{Alias, Same}

-- exactly the nodes one alias away, each once
pub record AreAliases (s : Shown) (a : Node) (nodes : List Node) : Type 0 where
  pub each : (b : Node) → Contains nodes b ↔ Alias s a b
  pub once : IsDistinct same_node nodes

-- exactly the nodes that stand for one entity with it, each once; it is one of them, listed or not
pub record AreSame (s : Shown) (a : Node) (nodes : List Node) : Type 0 where
  pub each : (b : Node) → Contains nodes b ↔ Same s a b
  pub once : IsDistinct same_node nodes

-- the node is an open entity that has the identifier
abbrev pub Identified : Shown → Identifier → Node → Type 0
Identified s i n =
    (x : OpenNode) × Contains s.nodes x × (x.node ≡ n) × IsTrue (has_identifier i x)

-- exactly the open entities that have the identifier, each once
pub record AreIdentified (s : Shown) (i : Identifier) (nodes : List Node) : Type 0 where
  pub each : (n : Node) → Contains nodes n ↔ Identified s i n
  pub once : IsDistinct same_node nodes

-- among the nodes is each open entity that has the sign
abbrev pub HaveSigned : Shown → Sign → List Node → Type 0
HaveSigned s k nodes =
    (x : OpenNode) → listed_at s.nodes x.node ≡ Some x → HasSign x k → Contains nodes x.node

-- exactly the links with this subject, and no two of one record, so each once
pub record AreLinksInto (s : Shown) (n : Node) (links : List Link) : Type 0 where
  pub each : (l : Link) → Contains links l ↔ (Contains s.links l × (l.subject ≡ n))
  pub once : IsDistinct same_node (map link_record links)

-- no node is listed twice
abbrev pub AreDistinct : List OpenNode → Type 0
AreDistinct nodes = IsDistinct same_node (map (λ x. x.node) nodes)

-- ---- of one link

-- a link, where it is into the node
abbrev pub only_into : Node → Option Link → Option Link
only_into n None = None
only_into n (Some l) = if same_node l.subject n then Some l else None
