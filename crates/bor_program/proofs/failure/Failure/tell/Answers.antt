use Rattle.std.proofs.Common.{subst}
use Rattle.bor_program.specs.Streams.{AppendsPart}
use Rattle.bor_program.proofs.failure.Failure.tell.Goals as goal

pub returns-in-NoRegister-clause-line : goal.returns-in-NoRegister-clause-line
returns-in-NoRegister-clause-line g c = rw c.in-NoRegister.is c.write_named-in-NoRegister.ensures

pub returns-in-Taken-clause-line : goal.returns-in-Taken-clause-line
returns-in-Taken-clause-line g c = rw c.in-Taken.is c.write_named-in-Taken.ensures

pub returns-in-Registered-clause-line : goal.returns-in-Registered-clause-line
returns-in-Registered-clause-line g c = rw c.in-Registered.is c.write_named-in-Registered.ensures

pub returns-in-NoToken-clause-line : goal.returns-in-NoToken-clause-line
returns-in-NoToken-clause-line g c = rw c.in-NoToken.is c.write_named-in-NoToken.ensures

pub returns-in-Memory-clause-line : goal.returns-in-Memory-clause-line
returns-in-Memory-clause-line g c = rw c.in-Memory.is (subst (AppendsPart _ _) c.as_bytes.ensures.value c.write_part.ensures.part)

pub returns-in-Store-clause-line : goal.returns-in-Store-clause-line
returns-in-Store-clause-line g c = rw c.in-Store.is (subst (AppendsPart _ _) c.as_bytes-in-Store.ensures.value c.write_part-in-Store.ensures.part)

pub returns-in-Unlistening-clause-line : goal.returns-in-Unlistening-clause-line
returns-in-Unlistening-clause-line g c = rw c.in-Unlistening.is (subst (AppendsPart _ _) c.as_bytes-in-Unlistening.ensures.value c.write_part-in-Unlistening.ensures.part)
