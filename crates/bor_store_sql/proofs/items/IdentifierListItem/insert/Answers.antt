use Rattle.bor_store_sql.proofs.Changes.{identifier_put, moves_by}
use Rattle.bor_store_sql.proofs.items.IdentifierListItem.insert.Goals as goal

pub returns-clause-steps : goal.returns-clause-steps
returns-clause-steps g c = moves_by c.run.ensures.ran c.identifier_values.ensures (identifier_put (record { at = c.args.at.now; item = c.args.number; identifier = c.args.self.now }))
