use Rattle.bor_records.proofs.OnLinks.Signed.{record_has}
use Rattle.bor_records.proofs.OnLinks.Signs.{identifiers_have}
use Rattle.bor_records.proofs.links.sign.Sign.is_of.Goals as goal

pub returns-then-self : goal.returns-then-self
returns-then-self c = record_has c.args.self.now c.args.node.now c.args.identifiers.now c.names_record.result c.if-self.true c.names_record.ensures

pub returns-else-self : goal.returns-else-self
returns-else-self c = identifiers_have c.args.self.now c.args.node.now c.args.identifiers.now c.names_one.result c.if-self.false c.names_one.ensures
