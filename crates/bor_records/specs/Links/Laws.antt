-- Laws of the definitions.
use Rattle.std.specs.Prelude.{◌≡◌, ◌↔◌, ℤ, List, [], Contains, Some, map, true}
use Rattle.std.specs.List.{IsDistinct, AllByRecursion, filter, cons_option}
use Rattle.bods_read.specs.declared.interest.Interest.{Interest}
use Rattle.bor_records.specs.declared.row.Row.{Row}
use Rattle.bor_records.specs.Snapshot.{open_row}
use Rattle.bor_records.specs.declared.links.node.Node.{Node}
use Rattle.bor_records.specs.declared.links.node.Link.{Link}
use Rattle.bor_records.specs.declared.links.node.OpenNode.{OpenNode}
use Rattle.bor_records.specs.Links.Nodes.{same_node, link_record}
use Rattle.bor_records.specs.Links.Stakes.{HasPointsOfShare, is_stake, is_holding}
use Rattle.bor_records.specs.OpenRows.{open_rows}
use Rattle.bor_records.specs.Links.Series.{series_of, is_of, open_at}
use Rattle.bor_records.specs.Links.Shown.{listed_at}
use Rattle.bor_records.specs.Links.Aliases.{Alias}
use Rattle.bor_records.specs.Links.Rows.{link_in, links_of, nodes_of, shown_of}
use Rattle.bor_records.specs.Links.Answers.{AreAliases, AreLinksInto}
use Rattle.bor_records.specs.Links.ByKey.{rows_by, node_at, AreAlikeAt, IsMade, CoverLinks}
use Rattle.bor_records.specs.Links.ByKey.{CoverAliases}

-- the open rows of a series are its latest statement where it is open, and no others
abbrev pub OpenRowsAreTheLatest : Type 0
OpenRowsAreTheLatest =
    (day : ℤ) (n : Node) (rows : List Row)
    → filter (is_of n) (open_rows day rows) ≡ cons_option (open_at day n rows) []

-- a series is open with a row exactly where the row is one of the open rows, and of the series
abbrev pub OpenRowsAreReadByKey : Type 0
OpenRowsAreReadByKey =
    (day : ℤ) (n : Node) (rows : List Row) (r : Row)
    → (open_at day n rows ≡ Some r) ↔ (Contains (open_rows day rows) r × (series_of r ≡ n))

-- a record is open for chains exactly where a snapshot of its agent's rows shows it, with that row
abbrev pub SnapshotsShowTheOpenRows : Type 0
SnapshotsShowTheOpenRows =
    (day : ℤ) (n : Node) (rows : List Row)
    → open_row n.declaration day (rows_by n.agent rows) n.rec ≡ open_at day n rows

-- a node is what the latest statement of its series says
abbrev pub NodesAreReadByKey : Type 0
NodesAreReadByKey =
    (day : ℤ) (n : Node) (rows : List Row) → listed_at (nodes_of day rows) n ≡ node_at day n rows

-- and its aliases are those that are alike by the latest statements
abbrev pub AliasesAreReadByKey : Type 0
AliasesAreReadByKey =
    (day : ℤ) (rows : List Row) (a b : Node)
    → Alias (shown_of day rows) a b ↔ AreAlikeAt day rows a b

-- where the candidates have the series of each row that may be alike, they are the candidates that
-- are
abbrev pub AliasesAreReadByCandidates : Type 0
AliasesAreReadByCandidates =
    (day : ℤ) (rows : List Row) (candidates : List Node) (a : Node) (one : OpenNode)
    (nodes : List Node)
    → node_at day a rows ≡ Some one → CoverAliases rows candidates one
    → ((b : Node) → Contains nodes b ↔ (Contains candidates b × AreAlikeAt day rows a b))
    → IsDistinct same_node nodes → AreAliases (shown_of day rows) a nodes

-- the links into a node are those that candidates make, where the candidates have the series of
-- each row that may make one
abbrev pub LinksAreReadByCandidates : Type 0
LinksAreReadByCandidates =
    (day : ℤ) (rows : List Row) (candidates : List Node) (n : Node) (links : List Link)
    → CoverLinks rows candidates n
    → ((l : Link) → Contains links l ↔ (IsMade day rows candidates l × (l.subject ≡ n)))
    → IsDistinct same_node (map link_record links) → AreLinksInto (shown_of day rows) n links

-- A link is made of an open row, of the record that the link names, whose agent and declaration are
-- those of both ends.
pub record IsOfRow (day : ℤ) (rows : List Row) (l : Link) : Type 0 where
  pub row : Row
  pub is_open : Contains (open_rows day rows) row
  pub made : link_in day (nodes_of day rows) row ≡ Some l
  pub of_record : series_of row ≡ link_record l
  pub agent : l.party.agent ≡ l.subject.agent
  pub declaration : l.party.declaration ≡ l.subject.declaration

abbrev pub LinksAreOfRows : Type 0
LinksAreOfRows =
    (day : ℤ) (rows : List Row) (l : Link) → Contains (links_of day rows) l → IsOfRow day rows l

-- two links of one record are one
abbrev pub LinksAreKnownByRecord : Type 0
LinksAreKnownByRecord =
    (day : ℤ) (rows : List Row) (l k : Link) → Contains (links_of day rows) l
    → Contains (links_of day rows) k → link_record l ≡ link_record k → l ≡ k

-- no record makes two links
abbrev pub LinksAreDistinct : Type 0
LinksAreDistinct =
    (day : ℤ) (rows : List Row) → IsDistinct same_node (map link_record (links_of day rows))

-- no node is listed twice
abbrev pub NodesAreDistinct : Type 0
NodesAreDistinct =
    (day : ℤ) (rows : List Row) → IsDistinct same_node (map (λ x. x.node) (nodes_of day rows))

-- the interests of a majority stake are a holding
abbrev pub EveryStakeIsAHolding : Type 0
EveryStakeIsAHolding =
    (day : ℤ) (interests : List Interest) → AllByRecursion HasPointsOfShare interests
    → is_stake day interests ≡ true → is_holding day interests ≡ true
