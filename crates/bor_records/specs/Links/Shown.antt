-- The open entities and persons that a source shows, and the links between them.
use Rattle.std.specs.Prelude.{◌≡◌, List, Bool, true, false, ◌&&◌, ◌||◌, not, Option, None, Some}
use Rattle.std.specs.Prelude.{find, option_map, option_and_then, if◌then◌else◌}
use Rattle.std.specs.List.{list_any}
use Rattle.bor_terms.specs.Texts.{is_same}
use Rattle.bods_read.specs.declared.details.Identifier.{Identifier}
use Rattle.bor_records.specs.declared.links.node.Node.{Node}
use Rattle.bor_records.specs.declared.links.node.NodeInfo.{NodeInfo}
use Rattle.bor_records.specs.declared.links.node.NodeInfo.TheVariants.{Entity, Person}
use Rattle.bor_records.specs.declared.links.node.OpenNode.{OpenNode}
use Rattle.bor_records.specs.declared.links.node.PersonInfo.{PersonInfo}
use Rattle.bor_records.specs.declared.links.node.Link.{Link}
use Rattle.bor_records.specs.Links.Nodes.{same_node}

-- two finite lists, of open nodes and of links; those of rows have each node once
-- (`NodesAreDistinct`), and no two links of one record (`LinksAreDistinct`)
pub record Shown : Type 0 where
  pub nodes : List OpenNode
  pub links : List Link

-- the open node that is listed for a node
abbrev pub listed_at : List OpenNode → Node → Option OpenNode
listed_at nodes n = find (λ x. same_node x.node n) nodes

abbrev pub info_in : List OpenNode → Node → Option NodeInfo
info_in nodes n = option_map (λ x. x.info) (listed_at nodes n)

abbrev pub info_of : Shown → Node → Option NodeInfo
info_of s n = info_in s.nodes n

abbrev pub is_entity : NodeInfo → Bool
is_entity (Entity legal) = true
is_entity (Person info) = false

-- the node is an open entity, of whatever kind
abbrev pub IsEntity : Shown → Node → Type 0
IsEntity s n = (legal : Bool) × (info_of s n ≡ Some (Entity legal))

-- a registered entity or a legal entity
abbrev pub IsLegalEntity : Shown → Node → Type 0
IsLegalEntity s n = info_of s n ≡ Some (Entity true)

-- an open person, with what a report's line shows of it
abbrev pub IsPerson : Shown → Node → PersonInfo → Type 0
IsPerson s n info = info_of s n ≡ Some (Person info)

-- equal scheme and equal id, byte for byte
abbrev pub same_identifier : Identifier → Identifier → Bool
same_identifier i j = is_same i.scheme j.scheme && is_same i.id j.id

abbrev pub share_identifier : List Identifier → List Identifier → Bool
share_identifier xs ys = list_any (λ i. list_any (λ j. same_identifier i j) ys) xs

-- an entity that has the identifier
abbrev pub has_identifier : Identifier → OpenNode → Bool
has_identifier i x = is_entity x.info && list_any (same_identifier i) x.identifiers

-- equal record of one agent in different declarations
abbrev pub same_record : Node → Node → Bool
same_record a b =
    is_same a.agent b.agent && (is_same a.rec b.rec && not (is_same a.declaration b.declaration))

-- one step between two open nodes that stand for one entity
abbrev pub are_alike : OpenNode → OpenNode → Bool
are_alike a b =
    is_entity a.info && is_entity b.info
    && (same_record a.node b.node
    || share_identifier a.identifiers b.identifiers && not (same_node a.node b.node))

-- an entity's identifiers
abbrev pub entity_identifiers : OpenNode → Option (List Identifier)
entity_identifiers x = if is_entity x.info then Some x.identifiers else None

-- those of the node, where it is listed as an entity
abbrev pub identifiers_in : List OpenNode → Node → Option (List Identifier)
identifiers_in nodes n = option_and_then entity_identifiers (listed_at nodes n)
