-- Nodes and links read by their keys: those that the latest statement of a series makes, with no
-- list of all open rows.
use Rattle.std.specs.Prelude.{◌≡◌, ℕ, ℤ, List, Contains, IsTrue, Option, Some, option_and_then}
use Rattle.std.specs.List.{filter}
use Rattle.bor_terms.specs.Texts.{is_same}
use Rattle.bor_records.specs.declared.row.Row.{Row}
use Rattle.bor_records.specs.declared.links.node.Node.{Node}
use Rattle.bor_records.specs.declared.links.node.OpenNode.{OpenNode}
use Rattle.bor_records.specs.declared.links.node.Link.{Link}
use Rattle.bor_records.specs.Links.Series.{series_of, open_at}
use Rattle.bor_records.specs.Links.Shown.{are_alike}
use Rattle.bor_records.specs.Links.Rows.{node_in, nodes_of, link_in}

-- the rows of one agent
abbrev pub rows_by : List ℕ → List Row → List Row
rows_by agent rows = filter (λ r. is_same r.agent agent) rows

-- the node that the latest statement of a series makes, where the series is open
abbrev pub node_at : ℤ → Node → List Row → Option OpenNode
node_at day n rows = option_and_then node_in (open_at day n rows)

-- Two nodes are alike by the latest statements of their series.
pub record AreAlikeAt (day : ℤ) (rows : List Row) (a b : Node) : Type 0 where
  pub one : OpenNode
  pub two : OpenNode
  pub one_is : node_at day a rows ≡ Some one
  pub two_is : node_at day b rows ≡ Some two
  pub alike : IsTrue (are_alike one two)

-- The latest statement of a candidate makes the link.
pub record IsMade (day : ℤ) (rows : List Row) (candidates : List Node) (l : Link) : Type 0 where
  pub key : Node
  pub row : Row
  pub candidate : Contains candidates key
  pub latest : open_at day key rows ≡ Some row
  pub made : link_in day (nodes_of day rows) row ≡ Some l

-- the candidates have the series of each row that, were it the latest, would make a link into the
-- node on some day
abbrev pub CoverLinks : List Row → List Node → Node → Type 0
CoverLinks rows candidates n =
    (day : ℤ) (r : Row) (nodes : List OpenNode) (l : Link) → Contains rows r
    → link_in day nodes r ≡ Some l → l.subject ≡ n → Contains candidates (series_of r)

-- the candidates have the series of each row that, were it the latest, would be alike
abbrev pub CoverAliases : List Row → List Node → OpenNode → Type 0
CoverAliases rows candidates one =
    (r : Row) (two : OpenNode) → Contains rows r → node_in r ≡ Some two → IsTrue (are_alike one two)
    → Contains candidates (series_of r)
