use Rattle.bor_store_reads.proofs.Reading.{read_after, read_fails}
use Rattle.bor_store_reads.proofs.agents.read_who.Goals as goal

pub returns-in_err-agent-clause-reads : goal.returns-in_err-agent-clause-reads
returns-in_err-agent-clause-reads g c =
    read_fails c.from_residual-in_err-agent.ensures.1
    (read_after c.in_ok-read_register.ensures.reads.reads c.in_ok-read_register.ensures.reads.up c.in_err-agent.ensures)
