use Rattle.std.proofs.Common.{rules}
use Rattle.std.proofs.lemmas.List.{drop_all}
use Rattle.bor_store_sql.proofs.OnRows.Lists.{next_row}
use Rattle.bor_store_sql.proofs.OnRows.Rebuilt.{one_line, all_lines}
use Rattle.bor_store_sql.proofs.rows.agents.agent_lines.Goals as goal

pub loop-agent-preserved : goal.loop-agent-preserved
loop-agent-preserved c ms ordered rows filings = search (rules, next_row, one_line)

pub returns : goal.returns
returns c ms ordered rows filings =
    all_lines c.args.day ms c.loop-agent.lines.items _ (rw (drop_all c.loop-agent.agent-index c.args.agents.now c.loop-agent-test.false) at (c.loop-agent.invariant ms ordered rows filings))
