-- The nodes and links of all rows, by the latest statement of a series: an open record and an alias
-- are read by their keys, and a link by candidates that cover those which may make it.
use Rattle.std.proofs.Common.{◌≡◌, ◌&&◌, ℤ, true, Option, Some, option_and_then, List, [], ◌∷◌, Contains, sym, ap, ◌∙◌, subst, inl, inr}
use Rattle.std.specs.List.{cons_option}
use Rattle.std.proofs.lemmas.Bool.{cond_both}
use Rattle.std.proofs.lemmas.Option.{option_and_then_some, same_Some}
use Rattle.bor_terms.specs.Texts.{is_same}
use Rattle.bor_records.specs.declared.row.Row.{Row}
use Rattle.bor_records.specs.Snapshot.{is_dated, latest, unless_closed}
use Rattle.bor_records.specs.OpenRows.{is_open_before, open_rows}
use Rattle.bor_records.specs.declared.links.node.Node.{Node}
use Rattle.bor_records.specs.declared.links.node.OpenNode.{OpenNode}
use Rattle.bor_records.specs.declared.links.node.Link.{Link}
use Rattle.bor_records.specs.Links.Series.{series_of, is_of, open_at}
use Rattle.bor_records.specs.Links.Shown.{are_alike}
use Rattle.bor_records.specs.Links.Rows.{node_in, nodes_of, link_in, links_of}
use Rattle.bor_records.specs.Links.ByKey.{node_at, AreAlikeAt, CoverAliases}
use Rattle.bor_records.specs.Links.Laws.{OpenRowsAreTheLatest, OpenRowsAreReadByKey, SnapshotsShowTheOpenRows, NodesAreReadByKey, AliasesAreReadByKey, AliasesAreReadByCandidates, LinksAreReadByCandidates}
use Rattle.bor_records.proofs.OnLinks.SameNode.{same_node_is}
use Rattle.bor_records.proofs.OnLinks.Found.{Contains-from_filter_map, Contains-filter_map, none, here, there, cases, found}
use Rattle.bor_records.proofs.OnLinks.Once.{found_once, made_found, one_kept}
use Rattle.bor_records.proofs.OnLinks.Series.{both_tests, node_of, open_are_latest, opened, rows_distinct}

-- an open row is one of the rows, and dated
pub open_row_is : (day : ℤ) (rows : List Row) (r : Row) → Contains (open_rows day rows) r → Contains rows r × (is_dated day r ≡ true)
open_row_is day [] r h = absurd (none r h)
open_row_is day (x ∷ xs) r h =
    cond_both (is_open_before day x xs) (x ∷ open_rows day xs) (open_rows day xs) (λ rows. Contains rows r → Contains (x ∷ xs) r × (is_dated day r ≡ true))
    (λ is k. elim (cases x (open_rows day xs) r k) [
      | inl q ↦ subst (λ (z : Row). Contains (x ∷ xs) z × (is_dated day z ≡ true)) q (here x xs, (opened day x xs is).0)
      | inr q ↦ let m = open_row_is day xs r q in (there x xs r m.0, m.1)
    ])
    (λ shut k. let m = open_row_is day xs r k in (there x xs r m.0, m.1)) h

-- an open row is the latest visible statement of its series
pub open_row_at : (day : ℤ) (rows : List Row) (r : Row) → Contains (open_rows day rows) r → open_at day (series_of r) rows ≡ Some r
open_row_at day rows r h = sym (open_are_latest day (series_of r) rows) ∙ found_once series_of (open_rows day rows) r (rows_distinct day rows) h

-- what is found is there, and of the series
pub open_at_in : (day : ℤ) (n : Node) (rows : List Row) (r : Row) → open_at day n rows ≡ Some r → Contains (open_rows day rows) r × (series_of r ≡ n)
open_at_in day n rows r h = let m = found (is_of n) (open_rows day rows) r (open_are_latest day n rows ∙ h) in (m.0, same_node_is (series_of r) n m.1)

pub open_by_key : OpenRowsAreReadByKey
open_by_key day n rows r = (open_at_in day n rows r, λ h. subst (λ (m : Node). open_at day m rows ≡ Some r) h.1 (open_row_at day rows r h.0))

pub shown_by_snapshots : SnapshotsShowTheOpenRows
shown_by_snapshots day n rows =
    ap (λ (rs : List Row). option_and_then unless_closed (latest day rs))
    (both_tests (λ r. is_same r.statement.declaration n.declaration && is_same r.statement.rec n.rec) (λ r. is_same r.agent n.agent) rows)

-- ---- nodes by key

pub latest_alone : OpenRowsAreTheLatest
latest_alone day n rows = one_kept series_of n (open_rows day rows) (rows_distinct day rows) ∙ ap (λ (o : Option Row). cons_option o []) (open_are_latest day n rows)

-- what is listed of a node is what its series' latest statement says
pub listed_by_key : NodesAreReadByKey
listed_by_key day n rows =
    made_found series_of (λ (x : OpenNode). x.node) node_in node_of n (open_rows day rows) (rows_distinct day rows) ∙ ap (λ (o : Option Row). option_and_then node_in o) (open_are_latest day n rows)

-- ---- links by candidates

-- a link is made by the latest statement of an open series
pub link_found : (day : ℤ) (rows : List Row) (l : Link) → Contains (links_of day rows) l
    → (r : Row) × Contains rows r × (open_at day (series_of r) rows ≡ Some r) × (link_in day (nodes_of day rows) r ≡ Some l)
link_found day rows l h =
    let m = Contains-from_filter_map (link_in day (nodes_of day rows)) (open_rows day rows) l h in
    (m.0, (open_row_is day rows m.0 m.1).0, open_row_at day rows m.0 m.1, m.2)

pub link_made : (day : ℤ) (n : Node) (rows : List Row) (r : Row) (l : Link) → open_at day n rows ≡ Some r → link_in day (nodes_of day rows) r ≡ Some l → Contains (links_of day rows) l
link_made day n rows r l at made = Contains-filter_map (link_in day (nodes_of day rows)) (open_rows day rows) r l (open_at_in day n rows r at).0 made

pub links_by_candidates : LinksAreReadByCandidates
links_by_candidates day rows candidates n links cover told once = record {
  each = λ l. (
    (λ h. let m = (told l).0 h in (link_made day (m.0).key rows (m.0).row l (m.0).latest (m.0).made, m.1)),
    (λ h.
        let f = link_found day rows l h.0 in
        (told l).1 (record { key = series_of f.0; row = f.0; candidate = cover day f.0 (nodes_of day rows) l f.1 f.3 h.1; latest = f.2; made = f.3 }, h.1)),
  );
  once = once;
}

-- ---- aliases by key

pub alias_by_key : AliasesAreReadByKey
alias_by_key day rows a b = (
  (λ h. record { one = h.one; two = h.two; one_is = sym (listed_by_key day a rows) ∙ h.one_is; two_is = sym (listed_by_key day b rows) ∙ h.two_is; alike = h.alike }),
  (λ h. record { one = h.one; two = h.two; one_is = listed_by_key day a rows ∙ h.one_is; two_is = listed_by_key day b rows ∙ h.two_is; alike = h.alike }),
)

-- ---- aliases by candidates

-- a node that is alike is among candidates that cover those that may be
pub alike_covered : (day : ℤ) (rows : List Row) (candidates : List Node) (a b : Node) (one : OpenNode) → node_at day a rows ≡ Some one → CoverAliases rows candidates one → AreAlikeAt day rows a b → Contains candidates b
alike_covered day rows candidates a b one here cover h =
    option_and_then_some node_in (open_at day b rows) h.two h.two_is
    (λ r is made.
    let m = open_at_in day b rows r is in
    let alike = ap (λ (x : OpenNode). are_alike x h.two) (same_Some one h.one (sym here ∙ h.one_is)) ∙ h.alike in
    subst (λ (n : Node). Contains candidates n) m.1 (cover r h.two (open_row_is day rows r m.0).0 made alike))

pub aliases_by_candidates : AliasesAreReadByCandidates
aliases_by_candidates day rows candidates a one nodes here cover told once = record {
  each = λ b. (
    (λ h. (alias_by_key day rows a b).1 ((told b).0 h).1),
    (λ h. let k = (alias_by_key day rows a b).0 h in (told b).1 (alike_covered day rows candidates a b one here cover k, k)),
  );
  once = once;
}
