use Rattle.std.proofs.Common.{◌++◌, ◌∷◌, [], List, ap, sym, subst, ◌∙◌}
use Rattle.std.specs.BTreeMap.{get}
use Rattle.bor_records.specs.declared.links.node.Node.{Node}
use Rattle.bor_records.specs.Links.Nodes.{node_cmp}
use Rattle.bor_desk.proofs.OnEvidence.Ways.{IsOnWay, follows_known, followed, unfollowed, way_ends, way_goes_on}
use Rattle.bor_desk.proofs.evidence.ways.Ways.way_from.Goals as goal

pub loop-next-preserved : goal.loop-next-preserved
loop-next-preserved c = λ s target known there.
    let on = c.loop-next.invariant s target known there in
    let way = c.loop-next.way.items in
    let next = c.in-Some.next.now in
    let more = follows_known s target known.depth (λ x. get node_cmp c.args.self.now.after x) (known.level).items known.known c.loop-next.at.now next (followed _ next c.in-Some.ensures) in (
      subst (λ (xs : List Node). IsOnWay s target c.args.node.now next xs) (sym (c.in_ok-push-2.ensures.items ∙ ap (λ (n : Node). way ++ n ∷ []) c.in_ok-copy-2.ensures))
          (way_goes_on s target c.args.node.now c.loop-next.at.now next way more.0 on.0),
      more.1,
    )

pub returns : goal.returns
returns c = λ s target known there.
    let on = c.loop-next.invariant s target known there in
    way_ends s target c.args.node.now c.loop-next.at.now c.loop-next.way.items ((known.known).goal_alone c.loop-next.at.now (unfollowed _ on.1 c.in_default.ensures)) on.0
