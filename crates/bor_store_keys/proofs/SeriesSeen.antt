-- The rows of a series that a viewer sees, from the statements of the series.
use Rattle.std.proofs.Common.{◌≡◌, ℕ, ◌+◌, ℤ, List, [], ◌∷◌, map, Bool, Contains, sym, ap, ◌∙◌, subst, ◌&&◌, filter}
use Rattle.std.specs.List.{AllByRecursion}
use Rattle.std.proofs.lemmas.List.Elements.{All-contains}
use Rattle.sqlite_keyed.proofs.ListLemmas.{all-append, filter-map}
use Rattle.bor_terms.specs.Texts.{is_same}
use Rattle.bor_terms.proofs.Texts.{same_refl}
use Rattle.bods_read.specs.declared.statement.Statement.{Statement}
use Rattle.bor_records.specs.declared.row.Row.{Row}
use Rattle.bor_records.specs.declared.links.node.Node.{Node}
use Rattle.bor_records.specs.Links.Orders.{node_equiv}
use Rattle.bor_records.specs.Links.Series.{series, series_of, is_of}
use Rattle.bor_records.proofs.OnLinks.Found.{Contains-filter, Contains-from_filter, Contains-from_map}
use Rattle.bor_register.specs.declared.filing.AcceptedFiling.{AcceptedFiling}
use Rattle.bor_register.specs.declared.member.Member.{Member}
use Rattle.bor_register.specs.Register.{Register, IsOrdered, filings_of}
use Rattle.bor_register.specs.Rows.{is_visible, visible}
use Rattle.bor_store_sql.specs.declared.rows.typed.Placed.{Placed}
use Rattle.bor_store_sql.specs.Rows.Placed.{placed, placed_by, placed_from}
use Rattle.bor_store_sql.specs.Rows.Seen.{is_seen, row_placed}
use Rattle.bor_store_sql.specs.Rows.Stored.{AllNumbered, IsStored}
use Rattle.bor_store_sql.proofs.OnRows.SeenPlaced.{rows_in-placed, visible_placed, filter_same, filters_swap}
use Rattle.bor_store_sql.specs.Selected.{in_series, placed_of}
use Rattle.bor_store_reads.proofs.FoundFilings.{own_numbered}
use Rattle.bor_store_sql.proofs.Alone.{IsAlone, own_alone_at}
use Rattle.bor_register.proofs.OneAgent.{one_agent}

-- ---- an agent's own statements

module _ (n : Node) where
  abbrev of_series : Placed → Bool
  of_series p = is_same p.statement.declaration n.declaration && is_same p.statement.rec n.rec

  own_from : (number place : ℕ) (ss : List Statement) → AllByRecursion (λ (p : Placed). is_of n (row_placed p) ≡ of_series p) (placed_from n.agent number place ss)
  own_from number place [] = tt
  own_from number place (s ∷ ss) = (ap (λ (b : Bool). b && (is_same s.declaration n.declaration && is_same s.rec n.rec)) (same_refl n.agent), own_from number (place + 1) ss)

  own_by : (fs : List AcceptedFiling) → AllByRecursion (λ (p : Placed). is_of n (row_placed p) ≡ of_series p) (placed_by n.agent fs)
  own_by [] = tt
  own_by (f ∷ fs) = all-append (λ (p : Placed). is_of n (row_placed p) ≡ of_series p) (placed_from n.agent f.number 1 f.statements) (placed_by n.agent fs) (own_from f.number 1 f.statements) (own_by fs)

-- the rows of a series are those of its statements that are seen
pub series_seen : (viewer : List ℕ) (today : ℤ) (n : Node) (ms : List Member) → IsOrdered ms → AllNumbered ms
    → series n (visible viewer today ms) ≡ map row_placed (filter (is_seen viewer today n.agent (filings_of n.agent ms)) (in_series n.declaration n.rec (placed_by n.agent (filings_of n.agent ms))))
series_seen viewer today n ms ordered numbered =
    let fs : List AcceptedFiling = filings_of n.agent ms in
    one_agent viewer today n ms ordered
    ∙ ap (series n) (rows_in-placed n.agent (filter (is_visible viewer today n.agent) fs) ∙ ap (map row_placed) (visible_placed viewer today n.agent 1 fs (own_numbered n.agent ms numbered)))
    ∙ filter-map (is_of n) row_placed (filter (is_seen viewer today n.agent fs) (placed_by n.agent fs))
    ∙ ap (map row_placed) (filters_swap (λ p. is_of n (row_placed p)) (is_seen viewer today n.agent fs) (placed_by n.agent fs)
    ∙ ap (filter (is_seen viewer today n.agent fs)) (filter_same (λ p. is_of n (row_placed p)) (of_series n) (placed_by n.agent fs) (own_by n fs)))

-- ---- where a row that is seen stands

pub record Stands (r : Register) (row : Row) : Type 0 where
  pub at : Placed
  pub is : row ≡ row_placed at
  pub own : Contains (in_series row.statement.declaration row.statement.rec (placed_of row.agent r)) at
  pub alone : IsAlone (placed r.members) at

pub stands : (viewer : List ℕ) (today : ℤ) (r : Register) → IsStored r → (row : Row) → Contains (visible viewer today r.members) row → Stands r row
stands viewer today r stored row h =
    let n : Node = series_of row in
    let ps : List Placed = in_series n.declaration n.rec (placed_of n.agent r) in
    let of_n = Contains-filter (is_of n) (visible viewer today r.members) row h (node_equiv.refl n) in
    let m = Contains-from_map row_placed (filter (is_seen viewer today n.agent (filings_of n.agent r.members)) ps) row (subst (λ (rows : List Row). Contains rows row) (series_seen viewer today n r.members stored.ordered stored.numbered) of_n) in
    let own = (Contains-from_filter (is_seen viewer today n.agent (filings_of n.agent r.members)) ps m.0 m.1).0 in
    let there = (Contains-from_filter (of_series n) (placed_of n.agent r) m.0 own).0 in
    record {
      at = m.0;
      is = sym m.2;
      own = own;
      alone = All-contains (IsAlone (placed r.members)) (placed_of n.agent r) m.0 (own_alone_at n.agent r stored) there;
    }
