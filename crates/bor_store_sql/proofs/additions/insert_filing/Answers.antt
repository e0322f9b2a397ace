use Rattle.bor_store_sql.proofs.Changes.{filing_put, moves_by}
use Rattle.bor_store_sql.proofs.additions.insert_filing.Goals as goal

pub returns-clause-steps : goal.returns-clause-steps
returns-clause-steps g c = moves_by c.run.ensures.ran c.filing_values.ensures (filing_put c.args.filing.now.agent c.args.filing.now.number c.args.key.now c.args.due c.args.bytes.now)
