-- The order of marked nodes, in which the last node comes first, with its laws; for clauses of
-- private functions alone.
use Rattle.std.specs.Prelude.{Bool, Some}
use Rattle.std.specs.Ordering.{ordering_then, eq_by_cmp, nat_cmp}
use Rattle.std.specs.declared.cmp.Ordering.{Ordering}
use Rattle.std.specs.Cmp.{IsTotalOrder, IsEquivalence, IsPartialOrder, partial_order_from_total}
use Rattle.std.specs.Cmp.{on_total, then_total, back_total}
use Rattle.std.proofs.lemmas.Cmp.{eq_by_cmp_equiv, nat_cmp_total}
use Rattle.bor_records.specs.Links.Nodes.{node_cmp}
use Rattle.bor_records.specs.Links.Orders.{node_total}
use Rattle.bor_chains.specs.declared.marks.Marked.{Marked}
use Rattle.bor_chains.specs.Marks.{mark_place}

-- by node, the last one first, then by mark
abbrev pub marked_cmp : Marked → Marked → Ordering
marked_cmp a b =
    ordering_then (node_cmp b.node a.node) (nat_cmp (mark_place a.mark) (mark_place b.mark))

abbrev pub same_marked : Marked → Marked → Bool
same_marked a b = eq_by_cmp marked_cmp a b

pub marked_total : IsTotalOrder marked_cmp
marked_total =
    then_total (on_total (λ (m : Marked). m.node) (back_total node_total))
    (on_total (λ (m : Marked). mark_place m.mark) nat_cmp_total)

pub marked_equiv : IsEquivalence same_marked
marked_equiv = eq_by_cmp_equiv marked_total

pub marked_po : IsPartialOrder same_marked (λ x y. Some (marked_cmp x y))
marked_po = partial_order_from_total marked_total
