use Rattle.std.proofs.Common.{◌≡◌, subst}
use Rattle.std.specs.Prelude.{OnOk}
use Rattle.bor_records.specs.declared.links.node.Node.{Node}
use Rattle.bor_desk.specs.Mentioned.{IsGained, nodes_in}
use Rattle.bor_desk.proofs.evidence.keys.add_copy.Goals as goal

pub returns : goal.returns
returns c = subst (λ (m : Node). OnOk c.add.result (IsGained (λ n. n ≡ m) (nodes_in c.args.keys.now) (nodes_in c.add.new.keys))) c.in_ok-copy.ensures c.add.ensures
