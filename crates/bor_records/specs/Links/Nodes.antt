-- Nodes and links: when two nodes are one, the order of nodes and that of links.
use Rattle.std.specs.Prelude.{ℕ, List, Bool, ◌&&◌}
use Rattle.std.specs.Ordering.{nat_cmp, bool_cmp, ordering_then}
use Rattle.std.specs.declared.cmp.Ordering.{Ordering}
use Rattle.std.specs.Cmp.Lexicographic.{slice_cmp}
use Rattle.bor_terms.specs.Texts.{is_same}
use Rattle.bor_records.specs.declared.links.node.Node.{Node}
use Rattle.bor_records.specs.declared.links.node.Link.{Link}

-- one agent, one declaration, one record
abbrev pub same_node : Node → Node → Bool
same_node a b =
    is_same a.agent b.agent && (is_same a.declaration b.declaration && is_same a.rec b.rec)

-- texts are ordered by their bytes
abbrev pub text_cmp : List ℕ → List ℕ → Ordering
text_cmp a b = slice_cmp nat_cmp a b

-- by record, then declaration, then agent
abbrev pub node_cmp : Node → Node → Ordering
node_cmp a b =
    ordering_then (text_cmp a.rec b.rec)
    (ordering_then (text_cmp a.declaration b.declaration) (text_cmp a.agent b.agent))

-- the record of the relationship that a link is made of
abbrev pub link_record : Link → Node
link_record l = record { agent = l.subject.agent; declaration = l.subject.declaration; rec = l.rec }

-- by record, then by subject, then by party, then by what it is
abbrev pub link_cmp : Link → Link → Ordering
link_cmp a b =
    ordering_then (text_cmp a.rec b.rec)
    (ordering_then (node_cmp a.subject b.subject) (ordering_then (node_cmp a.party b.party)
    (ordering_then (bool_cmp a.stake b.stake) (bool_cmp a.holding b.holding))))
