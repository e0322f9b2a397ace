use Rattle.std.proofs.Common.{map, ap, ◌∙◌}
use Rattle.bor_register.specs.Publication.{agent_line}
use Rattle.bor_store_reads.proofs.Reading.{read_next, read_so}
use Rattle.bor_store_reads.proofs.agents.read_agents.Goals as goal

pub returns : goal.returns
returns g c = read_so (read_next c.in_ok-day.ensures (read_next c.in_ok-agents.ensures c.in_ok-filings.ensures))
    (λ r stored is. c.in_ok-agent_lines.ensures r.members stored.ordered (c.as_slice.ensures.value ∙ is.1.0) (c.as_slice-2.ensures.value ∙ is.1.1) ∙ ap (λ day. map (agent_line day) r.members) is.0)
