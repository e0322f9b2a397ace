use Rattle.bor_program.specs.declared.failure.Failure.TheVariants.{Memory}
use Rattle.bor_program.proofs.Ends.{keeps_same}
use Rattle.bor_program.proofs.program.answer.Goals as goal

pub returns-in-OutOfMemory-clause-told : goal.returns-in-OutOfMemory-clause-told
returns-in-OutOfMemory-clause-told g c failed = (Memory, record { cause = tt; output = keeps_same _ }, c.tell.ensures.line)
