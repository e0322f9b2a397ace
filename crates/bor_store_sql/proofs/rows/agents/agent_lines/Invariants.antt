use Rattle.std.proofs.Common.{◌≡◌, List, map, drop}
use Rattle.bor_register.specs.Register.{IsOrdered}
use Rattle.bor_register.specs.declared.member.Member.{Member}
use Rattle.bor_store_sql.specs.Rows.Placed.{agent_row, filing_lines}
use Rattle.bor_store_sql.proofs.OnRows.Rebuilt.{LinesLeft}
use Rattle.bor_store_sql.proofs.rows.agents.agent_lines.Given as goal

-- the rows that are left are those of the members that are left
abbrev pub invariant-loop-agent : goal.invariant-loop-agent
invariant-loop-agent l =
    (ms : List Member) → IsOrdered ms → l.agents ≡ map agent_row ms → l.filings ≡ filing_lines ms
    → LinesLeft l.day ms l.lines.items (drop l.agent-index l.agents) l.filings_left
