use Rattle.std.proofs.lemmas.Result.{on_ok_weaker}
use Rattle.bor_desk.specs.Mentioned.{nodes_in}
use Rattle.bor_desk.proofs.OnEvidence.Keyed.{gained_link}
use Rattle.bor_desk.proofs.evidence.keys.add_link.Goals as goal

pub returns : goal.returns
returns c =
    on_ok_weaker c.add_copy-2.result
    (gained_link c.args.line.now c.in_ok-record_of.field-0 (nodes_in c.args.keys.now) (nodes_in c.add.new.keys) (nodes_in c.add_copy.new.keys) (nodes_in c.add_copy-2.new.keys) c.in_ok-record_of.ensures c.in_ok-add.ensures c.in_ok-add_copy.ensures)
    c.add_copy-2.ensures
