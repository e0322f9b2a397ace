-- The node that a record shows, by the statement that it shows.
use Rattle.std.proofs.Common.{◌≡◌, ℤ, Option, Some, None, option_map, option_and_then, List, ap, arith}
use Rattle.bods_read.specs.declared.details.Details.{Details}
use Rattle.bods_read.specs.declared.statement.Statement.{Statement}
use Rattle.bor_records.specs.declared.row.Row.{Row}
use Rattle.bor_records.specs.declared.links.node.Node.{Node}
use Rattle.bor_records.specs.declared.links.node.OpenNode.{OpenNode}
use Rattle.bor_records.specs.Links.ByKey.{node_at}
use Rattle.bor_records.specs.Links.Rows.{info_stated, node_with, shown_of}
use Rattle.bor_records.specs.Links.Series.{open_at}
use Rattle.bor_records.specs.Links.Shown.{info_of}
use Rattle.bor_records.proofs.OnLinks.ByKey.{listed_by_key, open_at_in}

info_made : (n : Node) (d : Details) → option_map (λ (x : OpenNode). x.info) (node_with n d) ≡ info_stated d
info_made n d = grind arith

module _ (day : ℤ) (rows : List Row) (n : Node) where
  -- a node is what the statement says that its record shows
  pub node_open : (t : Option Statement) → t ≡ option_map (λ (r : Row). r.statement) (open_at day n rows) → option_and_then (λ (s : Statement). node_with n s.details) t ≡ node_at day n rows
  node_open t is = grind (arith, is, open_at_in day n rows)

  pub info_open : (t : Option Statement) → t ≡ option_map (λ (r : Row). r.statement) (open_at day n rows) → option_and_then (λ (s : Statement). info_stated s.details) t ≡ info_of (shown_of day rows) n
  info_open t is = grind (arith, info_made n, node_open t is, listed_by_key day n rows)

  -- the same, by its row
  pub row_open : (row : Row) → Some row ≡ open_at day n rows → info_stated row.statement.details ≡ info_of (shown_of day rows) n
  row_open row is = info_open (Some row.statement) (ap (λ (o : Option Row). option_map (λ (r : Row). r.statement) o) is)

  pub row_closed : None ≡ open_at day n rows → None ≡ info_of (shown_of day rows) n
  row_closed is = info_open None (ap (λ (o : Option Row). option_map (λ (r : Row). r.statement) o) is)
