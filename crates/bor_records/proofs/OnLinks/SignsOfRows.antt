-- The records that have a sign, by the rows that make them.
use Rattle.std.proofs.Common.{◌≡◌, ◌∙◌, ℤ, Some, List, Contains, sym, subst}
use Rattle.std.proofs.lemmas.Option.{option_and_then_some}
use Rattle.bor_records.specs.declared.row.Row.{Row}
use Rattle.bor_records.specs.declared.links.node.Node.{Node}
use Rattle.bor_records.specs.declared.links.node.OpenNode.{OpenNode}
use Rattle.bor_records.specs.declared.links.sign.Sign.{Sign}
use Rattle.bor_records.specs.Links.Alike.{CoverSign}
use Rattle.bor_records.specs.Links.Answers.{HaveSigned}
use Rattle.bor_records.specs.Links.ByKey.{node_at}
use Rattle.bor_records.specs.Links.Rows.{node_in, shown_of}
use Rattle.bor_records.specs.Links.Series.{open_at, series_of}
use Rattle.bor_records.proofs.OnLinks.ByKey.{listed_by_key, open_at_in, open_row_is}
pub use Rattle.bor_records.proofs.OnLinks.Series.{node_of}

-- an open node is made by a row of its series
pub opened_node : (day : ℤ) (rows : List Row) (n : Node) (x : OpenNode) → node_at day n rows ≡ Some x → (row : Row) × Contains rows row × (node_in row ≡ Some x) × (series_of row ≡ n)
opened_node day rows n x e = option_and_then_some node_in (open_at day n rows) x e (λ row is made. let m = open_at_in day n rows row is in (row, (open_row_is day rows row m.0).0, made, m.1))

-- where the nodes cover all rows that have a sign, the open entities that have it are among them
pub rows_signed : (day : ℤ) (rows : List Row) (k : Sign) (nodes : List Node) → CoverSign rows k nodes → HaveSigned (shown_of day rows) k nodes
rows_signed day rows k nodes cover x at has =
    let o = opened_node day rows x.node x (sym (listed_by_key day x.node rows) ∙ at) in
    subst (λ (m : Node). Contains nodes m) o.3 (cover o.0 x o.1 o.2 has.0 has.1)
