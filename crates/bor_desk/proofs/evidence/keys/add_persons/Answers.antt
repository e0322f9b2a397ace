use Rattle.std.proofs.Common.{◌≡◌, arith}
use Rattle.bor_desk.specs.Mentioned.{nodes_in}
use Rattle.bor_desk.proofs.OnEvidence.Keyed.{gained_more}
use Rattle.bor_desk.proofs.evidence.keys.add_persons.Goals as goal

pub loop-person-preserved : goal.loop-person-preserved
loop-person-preserved c =
    gained_more c.args.persons.now (λ person n. n ≡ person.node) c.loop-person.person-index c.person-item.result (nodes_in c.args.keys.now) (nodes_in c.loop-person.keys) (nodes_in c.add_copy.new.keys) (omega arith) c.person-item.is c.loop-person.invariant
    c.in_ok-add_copy.ensures
