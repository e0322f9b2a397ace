use Rattle.bor_store_sql.proofs.Selecting.{statements_of_declaration_found, finds}
use Rattle.bor_store_sql.proofs.keyed.statements_of_declaration.Goals as goal

pub returns : goal.returns
returns g c = finds c.query.ensures c.two_texts.ensures (statements_of_declaration_found c.args.agent.now c.args.declaration.now)
