use Rattle.std.proofs.Common.{◌≡◌, List, map, drop}
use Rattle.bor_register.specs.Register.{IsOrdered}
use Rattle.bor_register.specs.declared.member.Member.{Member}
use Rattle.bor_store_sql.specs.Rows.Placed.{agent_row, filing_lines, placed}
use Rattle.bor_store_sql.specs.Rows.Stored.{AllNumbered}
use Rattle.bor_store_sql.proofs.OnRows.Rebuilt.{MembersLeft}
use Rattle.bor_store_sql.proofs.rows.members.members_of.Given as goal

-- the rows that are left are those of the members that are left
abbrev pub invariant-loop-agent : goal.invariant-loop-agent
invariant-loop-agent l =
    (ms : List Member) → IsOrdered ms → AllNumbered ms → l.agents ≡ map agent_row ms → l.filings ≡ filing_lines ms → l.statements ≡ placed ms
    → MembersLeft ms l.members.items (drop l.agent-index l.agents) l.filings_left l.statements_left
