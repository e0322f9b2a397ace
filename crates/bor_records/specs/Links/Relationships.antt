-- Relationships that are read by key.
use Rattle.std.specs.Prelude.{◌≡◌, ◌&&◌, ℤ, List, Contains, Option, None, Some, find}
use Rattle.std.specs.Prelude.{if◌then◌else◌}
use Rattle.bor_records.specs.declared.row.Row.{Row}
use Rattle.bor_records.specs.declared.links.node.Node.{Node}
use Rattle.bor_records.specs.declared.links.node.Link.{Link}
use Rattle.bor_records.specs.Links.Nodes.{same_node, link_record}
use Rattle.bor_records.specs.Links.Rows.{is_some_info, shown_of}
use Rattle.bor_records.specs.Links.Shown.{Shown, info_of}

-- rows, as they stand on a day
pub record RowsOn : Type 0 where
  pub day : ℤ
  pub rows : List Row

abbrev pub shown_on : RowsOn → Shown
shown_on x = shown_of x.day x.rows

-- the nodes and links of some rows on a day
abbrev pub IsOfRows : Shown → Type 0
IsOfRows s = (x : RowsOn) × (s ≡ shown_on x)

-- the first link into a node that is listed of a record
abbrev pub link_of : Shown → Node → Node → Option Link
link_of s n k = find (λ l. same_node l.subject n && same_node (link_record l) k) s.links

-- a link, where its party is open
abbrev pub with_open_party : Shown → Option Link → Option Link
with_open_party s None = None
with_open_party s (Some l) = if is_some_info (info_of s l.party) then Some l else None

-- among the nodes is the record of each link into this one
abbrev pub HaveNaming : Shown → Node → List Node → Type 0
HaveNaming s n nodes =
    (l : Link) → Contains s.links l → l.subject ≡ n → Contains nodes (link_record l)
