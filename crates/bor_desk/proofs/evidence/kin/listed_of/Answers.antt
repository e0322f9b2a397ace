use Rattle.std.proofs.Common.{◌∙◌, None, Some, refl, sym}
use Rattle.bor_register.specs.Rows.{visible}
use Rattle.bor_desk.proofs.OnEvidence.Kin.{listed_of}
use Rattle.bor_desk.proofs.evidence.kin.listed_of.Goals as goal

pub returns-in_ok-node_in-in-Some-clause-answer : goal.returns-in_ok-node_in-in-Some-clause-answer
returns-in_ok-node_in-in-Some-clause-answer g c = λ r is clean.
    listed_of c.args.day (visible c.args.viewer.now r.day r.members) c.args.node.now (Some c.in-Some.row) c.in_ok-node_in-in-Some.field-0 (sym c.in-Some.is ∙ c.in_ok-row.ensures.answer r is clean) c.in_ok-node_in-in-Some.ensures

pub returns-in-None-clause-answer : goal.returns-in-None-clause-answer
returns-in-None-clause-answer g c = λ r is clean.
    listed_of c.args.day (visible c.args.viewer.now r.day r.members) c.args.node.now None None (sym c.in-None.is ∙ c.in_ok-row.ensures.answer r is clean) refl
