-- The open rows are, of each series, its latest statement where it is open; each series once.
use Rattle.std.proofs.Common.{◌≡◌, ◌&&◌, ℤ, Bool, true, false, Option, Some, None, option_and_then, List, [], ◌∷◌, map, sym, refl, ap, ◌∙◌, arith}
use Rattle.std.specs.List.{filter, find, list_any, last_or, IsDistinct, AllByRecursion}
use Rattle.std.proofs.lemmas.Bool.{cond_both}
use Rattle.bor_records.specs.declared.row.Row.{Row}
use Rattle.bor_records.specs.declared.links.node.Node.{Node}
use Rattle.bor_records.specs.declared.links.node.OpenNode.{OpenNode}
use Rattle.bor_records.specs.Links.Nodes.{same_node}
use Rattle.bor_records.specs.Links.Orders.{node_equiv}
use Rattle.bor_records.specs.Admission.{is_closed}
use Rattle.bor_records.specs.Snapshot.{is_dated, unless_closed}
use Rattle.bor_records.specs.OpenRows.{is_open_before, open_rows}
use Rattle.bor_records.specs.Links.Series.{series_of, is_of, open_at}
use Rattle.bor_records.specs.Links.Rows.{node_in, nodes_of}
use Rattle.bor_records.proofs.Lists.{none_pass}
use Rattle.bor_records.proofs.OnLinks.Once.{made_distinct}
use Rattle.bor_records.proofs.OnLinks.SameNode.{same_node_is}

-- whether a row that is dated is of a series
abbrev pub has_dated : ℤ → Node → List Row → Bool
has_dated day n rows = list_any (λ x. is_of n x && is_dated day x) rows

-- what an open row is: dated and not closed, and no later one is of its series
pub opened : (day : ℤ) (r : Row) (rows : List Row) → is_open_before day r rows ≡ true → (is_dated day r ≡ true) × (is_closed r.status ≡ false) × (has_dated day (series_of r) rows ≡ false)
opened day r rows e = grind arith

-- both tests at once
abbrev latest_of : ℤ → Node → List Row → Option Row
latest_of day n rows = last_or None (filter (λ r. is_of n r && is_dated day r) rows)

abbrev open_of : ℤ → Node → List Row → Option Row
open_of day n rows = option_and_then unless_closed (latest_of day n rows)

pub both_tests : (p q : Row → Bool) (rows : List Row) → filter p (filter q rows) ≡ filter (λ r. q r && p r) rows
both_tests p q [] = refl
both_tests p q (r ∷ rows) = grind (arith, both_tests p q rows)

-- the last of some rows, where there is one, whatever stands for none
last_some : (o : Option Row) (p : Row → Bool) (rows : List Row) → list_any p rows ≡ true → last_or o (filter p rows) ≡ last_or None (filter p rows)
last_some o p [] h = absurd cc
last_some o p (r ∷ rows) h = cond_both (p r) (r ∷ filter p rows) (filter p rows) (λ rs. last_or o rs ≡ last_or None rs) (λ yes. refl) (λ no. last_some o p rows (rw no at h))

-- a row before others
step : (day : ℤ) (n : Node) (r : Row) (rows : List Row) → find (is_of n) (open_rows day rows) ≡ open_of day n rows → find (is_of n) (open_rows day (r ∷ rows)) ≡ open_of day n (r ∷ rows)
step day n r rows more =
    let alike = λ (own : is_of n r ≡ true). ap (λ (m : Node). has_dated day m rows) (same_node_is (series_of r) n own) in
    grind (arith, alike, none_pass (λ x. is_of n x && is_dated day x) rows, last_some (Some r) (λ x. is_of n x && is_dated day x) rows)

open_are : (day : ℤ) (n : Node) (rows : List Row) → find (is_of n) (open_rows day rows) ≡ open_of day n rows
open_are day n [] = refl
open_are day n (r ∷ rows) = step day n r rows (open_are day n rows)

pub open_are_latest : (day : ℤ) (n : Node) (rows : List Row) → find (is_of n) (open_rows day rows) ≡ open_at day n rows
open_are_latest day n rows = open_are day n rows ∙ ap (λ (xs : List Row). option_and_then unless_closed (last_or None xs)) (sym (both_tests (is_dated day) (is_of n) rows))

-- ---- distinct

-- rows of one series
abbrev pub same_series : Row → Row → Bool
same_series r x = same_node (series_of r) (series_of x)

abbrev AreApart : Node → List Row → Type 0
AreApart m rows = AllByRecursion (λ x. same_node m (series_of x) ≡ false) rows

-- where no later dated row is of a series, no open one is
apart : (day : ℤ) (m : Node) (rows : List Row) → has_dated day m rows ≡ false → AreApart m (open_rows day rows)
apart day m [] h = tt
apart day m (r ∷ rows) h = grind (arith, node_equiv.symm m (series_of r), apart day m rows)

pub rows_distinct : (day : ℤ) (rows : List Row) → IsDistinct same_series (open_rows day rows)
unfolding IsDistinct
rows_distinct day [] = tt
rows_distinct day (r ∷ rows) = grind (arith, apart day (series_of r) rows, rows_distinct day rows)

-- the node that a row makes is of its series
pub node_of : (r : Row) (x : OpenNode) → node_in r ≡ Some x → x.node ≡ series_of r
node_of r x h = grind arith

pub nodes_distinct : (day : ℤ) (rows : List Row) → IsDistinct same_node (map (λ x. x.node) (nodes_of day rows))
nodes_distinct day rows = made_distinct same_series (λ x. x.node) node_in
    (λ r q x y is was differ. ap (λ (n : Node). same_node n y.node) (node_of r x is) ∙ ap (λ (n : Node). same_node (series_of r) n) (node_of q y was) ∙ differ) (open_rows day rows) (rows_distinct day rows)
