use Rattle.bor_program.proofs.connections.service.Service.asking_in.Goals as goal

pub returns-clause-spells : goal.returns-clause-spells
returns-clause-spells c = c.spelled-asking.ensures.spells c.args.received.items (rw c.deref-2.ensures.value at c.message.ensures)
