use Rattle.std.proofs.Common.{refl}
use Rattle.std.specs.Prelude.{IsSome, Some}
use Rattle.std.specs.BTreeMap.{get}
use Rattle.bor_records.specs.Links.Nodes.{node_cmp}
use Rattle.bor_register.specs.Seen.{seen_at}
use Rattle.bor_desk.specs.declared.evidence.ways.Ways.{Ways}
use Rattle.bor_desk.proofs.OnEvidence.Ways.{kin_in}
use Rattle.bor_desk.proofs.evidence.ways.Ways.look_for.Goals as goal
use Rattle.bor_desk.proofs.evidence.ways.Ways.look_for.Goals.{then-loop-self-test+else-goes_on, else-loop-self-test}

pub loop-self-preserved : goal.loop-self-preserved
loop-self-preserved g c = λ s target ways of.
    let was = c.loop-self.invariant s target ways of in
    c.in_ok-look_on.ensures.answer s target was.0 was.1

pub returns-clause-answer : goal.returns-clause-answer
returns-clause-answer g c = λ r is clean known same.
    let s = seen_at c.args.viewer.now c.args.day r in
    let target = c.args.goal.now in
    let began = c.in_ok-kin.ensures.kept.began clean in
    let near = c.in_ok-look_near.ensures.answer r is began known in
    let taken = c.in_ok-kin.ensures.answer r ((c.in_ok-look_near.ensures.kept.same began r).0 is) clean near in
    let all = c.loop-self.invariant s target taken.0 taken.1 in
    let last = c.loop-self.self in
    let now : Ways = record { after = last.after; levels = last.levels; kin = Some c.loop-self.kin } in
    let found : IsSome (get node_cmp last.after c.args.node.now) =
    elim c.loop-self-test.branch [
      | then-loop-self-test+else-goes_on w ↦ w.goes_on.ensures.all s target all.0 w.if-goes_on.false c.args.node.now same
      | else-loop-self-test w ↦ c.has-in-loop-self.ensures.0 w.loop-self-test.false
    ] in
    (kin_in s target last now c.loop-self.kin refl refl refl all.1 all.0, found)
