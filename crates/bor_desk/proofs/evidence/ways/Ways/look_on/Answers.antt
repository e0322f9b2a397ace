use Rattle.std.proofs.Common.{◌∙◌, ◌-◌, length, sym, ap, subst, Option, List, Vec, Global, BTreeMap}
use Rattle.std.specs.Prelude.{IsSome}
use Rattle.std.specs.BTreeMap.{get}
use Rattle.std.specs.List.{slice_get}
use Rattle.bor_records.specs.declared.links.node.Node.{Node}
use Rattle.bor_records.specs.Links.Nodes.{node_cmp}
use Rattle.bor_desk.specs.Kin.{IsKinOf}
use Rattle.bor_desk.specs.Ways.{AreFoundFrom, AreOfClass}
use Rattle.bor_desk.proofs.OnEvidence.Ways.{level_known, ways_more}
use Rattle.bor_desk.proofs.evidence.ways.Ways.look_on.Goals as goal

pub returns-clause-answer : goal.returns-clause-answer
returns-clause-answer c = λ s target known of.
    let was = c.args.self.now in
    let level = c.in-Some.level.now in
    let found = c.in_ok-found.found.items in
    let last = ap (λ (xs : List (Vec Node Global)). slice_get xs (length xs - 1)) (sym c.deref.ensures.value) ∙ sym c.in-Some.ensures.value in
    let from = c.in_ok-found.ensures s target (subst (λ (xs : List Node). AreOfClass s target xs (λ x. get node_cmp was.after x)) (sym c.deref-2.ensures.value) (level_known s target was level known last)) of in (
      ways_more s target was c.add_level.new.self level c.in_order.result found last
          (subst (λ (m : BTreeMap Node (Option Node)). AreFoundFrom s level.items (length level.items) (λ x. get node_cmp was.after x) (λ x. get node_cmp m x) found) (sym c.in_ok-add_level.ensures.after)
          (subst (λ (xs : List Node). AreFoundFrom s xs (length xs) (λ x. get node_cmp was.after x) (λ x. get node_cmp c.found_from.new.after x) found) c.deref-2.ensures.value from.0))
          c.in_order.ensures.same c.in_order.ensures.sorted c.in_ok-add_level.ensures.levels c.in_ok-add_level.ensures.kin known,
      subst (λ (m : BTreeMap Node (Option Node)). IsKinOf s target (λ x. IsSome (get node_cmp m x)) c.found_from.new.kin) (sym c.in_ok-add_level.ensures.after) from.1,
    )
