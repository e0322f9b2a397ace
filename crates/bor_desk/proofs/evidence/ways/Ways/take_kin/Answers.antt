use Rattle.std.proofs.Common.{Option, refl, subst, sym, ◌∙◌}
use Rattle.std.specs.Prelude.{IfSome, IsSome}
use Rattle.std.specs.BTreeMap.{get}
use Rattle.bor_records.specs.declared.links.node.Node.{Node}
use Rattle.bor_records.specs.Links.Nodes.{node_cmp}
use Rattle.bor_register.specs.Seen.{seen_at}
use Rattle.bor_desk.specs.declared.evidence.kin.Kin.{Kin}
use Rattle.bor_desk.specs.declared.evidence.ways.Ways.{Ways}
use Rattle.bor_desk.specs.Kin.{IsKinOf, NoneFound}
use Rattle.bor_desk.specs.Ways.{AreWaysTo}
use Rattle.bor_desk.proofs.OnEvidence.Kin.{kin_then}
use Rattle.bor_desk.proofs.OnEvidence.Ways.{kin_out}
use Rattle.bor_register.proofs.OnMemory.Told.{told_then}
use Rattle.bor_desk.proofs.evidence.ways.Ways.take_kin.Goals as goal

pub returns-in-Some-clause-answer : goal.returns-in-Some-clause-answer
returns-in-Some-clause-answer g c = λ r is clean known.
    let s = seen_at c.args.viewer.now c.args.day r in
    let target = c.args.goal.now in
    let was = c.args.self.now in
    let now : Ways = record { after = was.after; levels = was.levels; kin = c.take.new.self } in (
      kin_out s target was now refl refl c.take.ensures.after known,
      subst (λ (o : Option Kin). IfSome o (IsKinOf s target (λ x. IsSome (get node_cmp was.after x)))) (sym c.take.ensures.value ∙ c.in-Some.is) known.kin,
    )

pub returns-in-None-clause-answer : goal.returns-in-None-clause-answer
returns-in-None-clause-answer g c = λ r is clean.
    let s = seen_at c.args.viewer.now c.args.day r in
    let target = c.args.goal.now in
    let was = c.args.self.now in
    let now : Ways = record { after = was.after; levels = was.levels; kin = c.take.new.self } in
    let Found = λ (x : Node). IsSome (get node_cmp was.after x) in
    told_then c.of.result (λ (kin : Kin). IsKinOf s target NoneFound kin) (λ (kin : Kin). AreWaysTo s target was → AreWaysTo s target now × IsKinOf s target Found kin)
    (λ kin of known. (kin_out s target was now refl refl c.take.ensures.after known, kin_then s target NoneFound Found kin (λ x never. absurd never) of)) (c.of.ensures.answer r is clean)
