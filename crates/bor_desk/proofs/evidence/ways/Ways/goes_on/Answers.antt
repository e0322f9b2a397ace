use Rattle.std.proofs.Common.{◌∙◌, ◌-◌, length, sym, ap, List, Vec, Global}
use Rattle.std.specs.List.{slice_get}
use Rattle.std.proofs.lemmas.Bool.{not-false}
use Rattle.bor_records.specs.declared.links.node.Node.{Node}
use Rattle.bor_desk.proofs.OnEvidence.Ways.{no_items, ways_all}
use Rattle.bor_desk.proofs.evidence.ways.Ways.goes_on.Goals as goal

pub returns-in-Some-clause-all : goal.returns-in-Some-clause-all
returns-in-Some-clause-all c = λ s target known stops x same.
    let last = ap (λ (xs : List (Vec Node Global)). slice_get xs (length xs - 1)) (sym c.deref.ensures.value) ∙ sym c.in-Some.ensures.value in
    ways_all s target c.args.self.now c.in-Some.level.now known last (no_items c.in-Some.level.now (sym c.is_empty.ensures ∙ not-false c.is_empty.result stops)) x same
