-- The nodes and links of the rows of a register on a day.
use Rattle.std.specs.Prelude.{ℕ, ℤ, List, [], Bool, true, false, ◌&&◌, Option, Some, None}
use Rattle.std.specs.Prelude.{if◌then◌else◌}
use Rattle.std.specs.List.{filter_map}
use Rattle.bods_read.specs.declared.details.Details.{Details}
use Rattle.bods_read.specs.declared.details.Details.TheVariants as details
use Rattle.bods_read.specs.declared.details.EntityKind.{EntityKind}
use Rattle.bods_read.specs.declared.details.EntityKind.TheVariants as kinds
use Rattle.bor_records.specs.declared.row.Row.{Row}
use Rattle.bor_records.specs.declared.links.node.Node.{Node}
use Rattle.bor_records.specs.declared.links.node.NodeInfo.{NodeInfo}
use Rattle.bor_records.specs.declared.links.node.NodeInfo.TheVariants.{Entity, Person}
use Rattle.bor_records.specs.declared.links.node.OpenNode.{OpenNode}
use Rattle.bor_records.specs.declared.links.node.PersonInfo.{PersonInfo}
use Rattle.bor_records.specs.declared.links.node.Link.{Link}
use Rattle.bor_records.specs.OpenRows.{open_rows}
use Rattle.bor_records.specs.Links.Series.{series_of, stated}
use Rattle.bor_records.specs.Links.Shown.{Shown, info_in, is_entity}
use Rattle.bor_records.specs.Links.Stakes.{is_stake, is_holding}

-- a legal entity: a registered entity or a legal entity (BODS 0.4), and nothing else
abbrev pub is_legal_kind : EntityKind → Bool
is_legal_kind kinds.RegisteredEntity = true
is_legal_kind kinds.LegalEntity = true
is_legal_kind kinds.Arrangement = false
is_legal_kind kinds.AnonymousEntity = false
is_legal_kind kinds.UnknownEntity = false
is_legal_kind kinds.State = false
is_legal_kind kinds.StateBody = false
is_legal_kind kinds.Other = false

-- what a report's line shows of a person with this name
abbrev pub person_named : Option (List ℕ) → PersonInfo
person_named name = record { name = name }

-- the open node that the details of an entity or a person make
abbrev pub node_with : Node → Details → Option OpenNode
node_with n (details.Entity kind name identifiers) =
    Some (record { node = n; info = Entity (is_legal_kind kind); identifiers = identifiers })
node_with n (details.Person kind name) =
    Some (record { node = n; info = Person (person_named name); identifiers = [] })
node_with n (details.Relationship subject party interests) = None

-- the node that a row's statement makes
abbrev pub node_in : Row → Option OpenNode
node_in r = node_with (stated r.agent r.statement) r.statement.details

-- the data that a chain needs of it
abbrev pub info_stated : Details → Option NodeInfo
info_stated (details.Entity kind name identifiers) = Some (Entity (is_legal_kind kind))
info_stated (details.Person kind name) = Some (Person (person_named name))
info_stated (details.Relationship subject party interests) = None

-- the open entities and persons
abbrev pub nodes_of : ℤ → List Row → List OpenNode
nodes_of day rows = filter_map node_in (open_rows day rows)

abbrev pub is_entity_info : Option NodeInfo → Bool
is_entity_info None = false
is_entity_info (Some info) = is_entity info

abbrev pub is_some_info : Option NodeInfo → Bool
is_some_info None = false
is_some_info (Some info) = true

-- another record of a record's declaration
abbrev pub named_by : Node → List ℕ → Node
named_by n rec = record { agent = n.agent; declaration = n.declaration; rec = rec }

-- the link that the details of a record's statement state on a day, whatever its ends are; an end
-- that names no record states none
abbrev pub link_stated : ℤ → Node → Details → Option Link
link_stated day n (details.Entity kind name identifiers) = None
link_stated day n (details.Person kind name) = None
link_stated day n (details.Relationship None party interests) = None
link_stated day n (details.Relationship (Some subject) None interests) = None
link_stated day n (details.Relationship (Some subject) (Some party) interests) =
    Some (record {
      rec = n.rec;
      party = named_by n party;
      subject = named_by n subject;
      stake = is_stake day interests;
      holding = is_holding day interests;
    })

-- the link, where its subject is an open entity and its party an open entity or person
abbrev pub between_open : List OpenNode → Option Link → Option Link
between_open nodes None = None
between_open nodes (Some l) =
    if is_entity_info (info_in nodes l.subject) && is_some_info (info_in nodes l.party)
    then Some l else None

-- the link that a row's details make
abbrev pub link_with : ℤ → List OpenNode → Row → Details → Option Link
link_with day nodes r d = between_open nodes (link_stated day (series_of r) d)

abbrev pub link_in : ℤ → List OpenNode → Row → Option Link
link_in day nodes r = link_with day nodes r r.statement.details

-- the open relationships between two of them, of one declaration
abbrev pub links_of : ℤ → List Row → List Link
links_of day rows = filter_map (link_in day (nodes_of day rows)) (open_rows day rows)

-- the nodes and links of the rows on the day
abbrev pub shown_of : ℤ → List Row → Shown
shown_of day rows = record { nodes = nodes_of day rows; links = links_of day rows }
