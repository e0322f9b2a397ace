-- A link of rows is known by its record.
use Rattle.std.proofs.Common.{◌≡◌, ℤ, Bool, Some, Option, List, map, refl, sym, ap, ◌∙◌, arith}
use Rattle.std.specs.List.{IsDistinct, filter_map}
use Rattle.bods_read.specs.declared.details.Details.{Details}
use Rattle.bor_records.specs.declared.row.Row.{Row}
use Rattle.bor_records.specs.OpenRows.{open_rows}
use Rattle.bor_records.specs.declared.links.node.Node.{Node}
use Rattle.bor_records.specs.declared.links.node.OpenNode.{OpenNode}
use Rattle.bor_records.specs.declared.links.node.Link.{Link}
use Rattle.bor_records.specs.Links.Nodes.{same_node, link_record}
use Rattle.bor_records.specs.Links.Series.{series_of}
use Rattle.bor_records.specs.Links.Rows.{link_in, link_with, nodes_of}
use Rattle.bor_records.specs.Links.Laws.{LinksAreOfRows, LinksAreKnownByRecord, LinksAreDistinct}
use Rattle.bor_records.proofs.OnLinks.Found.{Contains-from_filter_map}
use Rattle.bor_records.proofs.OnLinks.ByKey.{open_row_at}
use Rattle.bor_records.proofs.OnLinks.Once.{made_distinct}
use Rattle.bor_records.proofs.OnLinks.Series.{same_series, rows_distinct}

-- the ends of a link and its record are beside the row
record IsBeside (r : Row) (l : Link) : Type 0 where
  of_record : series_of r ≡ link_record l
  agent : l.party.agent ≡ l.subject.agent
  declaration : l.party.declaration ≡ l.subject.declaration

made_beside : (day : ℤ) (nodes : List OpenNode) (r : Row) (d : Details) (l : Link) → link_with day nodes r d ≡ Some l → IsBeside r l
made_beside day nodes r d l h = grind arith

pub links_of_rows : LinksAreOfRows
links_of_rows day rows l h =
    let m = Contains-from_filter_map (link_in day (nodes_of day rows)) (open_rows day rows) l h in
    let is = made_beside day (nodes_of day rows) m.0 (m.0).statement.details l m.2 in
    record { row = m.0; is_open = m.1; made = m.2; of_record = is.of_record; agent = is.agent; declaration = is.declaration }

-- the link that a row makes is of its record
pub link_of_row : (day : ℤ) (nodes : List OpenNode) (r : Row) (l : Link) → link_in day nodes r ≡ Some l → series_of r ≡ link_record l
link_of_row day nodes r l h = (made_beside day nodes r r.statement.details l h).of_record

-- distinct items whose links are of them make links of distinct records
pub links_once : {X : Type 0} (same : X → X → Bool) (of : X → Node) (f : X → Option Link) → ((x z : X) → same x z ≡ same_node (of x) (of z)) → ((x : X) (l : Link) → f x ≡ Some l → of x ≡ link_record l)
    → (xs : List X) → IsDistinct same xs → IsDistinct same_node (map link_record (filter_map f xs))
links_once same of f is made xs d = made_distinct same link_record f
    (λ x z l k e q differ. ap (λ (n : Node). same_node n (link_record k)) (sym (made x l e)) ∙ ap (λ (n : Node). same_node (of x) n) (sym (made z k q)) ∙ sym (is x z) ∙ differ) xs d

pub links_distinct : LinksAreDistinct
links_distinct day rows = links_once same_series series_of (link_in day (nodes_of day rows)) (λ r x. refl) (link_of_row day (nodes_of day rows)) (open_rows day rows) (rows_distinct day rows)

pub links_by_record : LinksAreKnownByRecord
links_by_record day rows l k h j same =
    let a = links_of_rows day rows l h in
    let b = links_of_rows day rows k j in
    let one = open_row_at day rows a.row a.is_open in
    let two = open_row_at day rows b.row b.is_open in
    grind (arith, one, two, same, a.of_record, b.of_record, a.made, b.made)
