use Rattle.std.proofs.Common.{◌≡◌, ◌∙◌, List, map, ap, arith, Bor, length}
use Rattle.std.specs.List.{filter_map}
use Rattle.std.specs.BTreeMap.{get}
use Rattle.bor_records.specs.declared.row.Row.{Row}
use Rattle.bor_records.specs.declared.links.node.OpenNode.{OpenNode}
use Rattle.bor_records.specs.Links.Nodes.{node_cmp}
use Rattle.bor_records.specs.Links.Rows.{nodes_of, node_in, link_in, links_of}
use Rattle.bor_records.proofs.OnLinks.OfRows.{links_distinct}
use Rattle.bor_records.proofs.OnLinks.Series.{nodes_distinct}
use Rattle.bor_chains.proofs.Beside.{subject_placed}
use Rattle.bor_chains.proofs.list_source.ListSource.from_rows.Goals as goal

pub by_subject-requires : goal.by_subject-requires
by_subject-requires c = λ l h.
    let are = rw c.deref-2.ensures.value at c.in_ok-places.ensures in
    let made : c.deref-5.result.now ≡ filter_map (link_in c.args.day c.in_ok-nodes.nodes.items) (map (λ x. x.now) c.deref-4.result.now) =
    c.deref-5.ensures.value ∙ c.in_ok-links.ensures ∙ ap (λ (xs : List OpenNode). filter_map (link_in c.args.day xs) (map (λ x. x.now) c.deref-4.result.now)) c.deref-3.ensures.value in
    let count : length c.in_ok-nodes.nodes.items ≡ c.len.result = omega arith in
    rw count at (subject_placed c.args.day c.in_ok-nodes.nodes.items (map (λ x. x.now) c.deref-4.result.now) (λ n. get node_cmp c.in_ok-places.places n) are l (rw made at h))

pub invariant_of-result : goal.invariant_of-result
invariant_of-result c =
    let are : c.in_ok-nodes.nodes.items ≡ nodes_of c.args.day c.args.rows.now =
    c.in_ok-nodes.ensures ∙ ap (λ (rs : List (Bor Row)). filter_map node_in (map (λ x. x.now) rs)) c.deref.ensures.value ∙ ap (λ (rs : List Row). filter_map node_in rs) c.in_ok-latest.ensures in
    let made : c.in_ok-links.links.items ≡ links_of c.args.day c.args.rows.now =
    c.in_ok-links.ensures ∙ ap (λ (xs : List OpenNode). filter_map (link_in c.args.day xs) (map (λ x. x.now) c.deref-4.result.now)) (c.deref-3.ensures.value ∙ are)
    ∙ ap (λ (rs : List Row). filter_map (link_in c.args.day (nodes_of c.args.day c.args.rows.now)) rs) (ap (λ (rs : List (Bor Row)). map (λ x. x.now) rs) c.deref-4.ensures.value ∙ c.in_ok-latest.ensures) in (
      rw are (nodes_distinct c.args.day c.args.rows.now),
      rw c.deref-2.ensures.value at c.in_ok-places.ensures,
      rw c.deref-5.ensures.value at c.in_ok-into.ensures,
      rw c.deref-6.ensures.value at c.in_ok-signed.ensures,
      rw made (links_distinct c.args.day c.args.rows.now),
    )
