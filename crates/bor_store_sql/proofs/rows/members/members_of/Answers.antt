use Rattle.std.proofs.Common.{◌≡◌, ◌∷◌, ◌+◌, drop, sym}
use Rattle.std.proofs.lemmas.List.{drop_all}
use Rattle.bor_store_sql.proofs.OnRows.Lists.{next_row}
use Rattle.bor_store_sql.proofs.OnRows.Rebuilt.{one_member, all_members}
use Rattle.bor_store_sql.proofs.rows.members.members_of.Goals as goal

pub loop-agent-preserved : goal.loop-agent-preserved
loop-agent-preserved c ms ordered numbered rows filings statements =
    let step : drop c.loop-agent.agent-index c.args.agents.now ≡ c.agent-item.result ∷ drop (c.loop-agent.agent-index + 1) c.args.agents.now = next_row c.args.agents.now c.loop-agent.agent-index c.agent-item.result _ c.loop-agent-test.true (sym c.agent-item.is) in
    rw c.in_ok-push.ensures.items (one_member ms c.loop-agent.members.items c.agent-item.result _ _ c.split_filings.result.0.now _ _ c.split_agent.result.0.now _ c.in_ok-made.made
    (rw step at (c.loop-agent.invariant ms ordered numbered rows filings statements)) c.split_filings.ensures c.split_agent.ensures c.in_ok-made.ensures)

pub returns : goal.returns
returns c ms ordered numbered rows filings statements =
    all_members ms c.loop-agent.members.items _ _ (rw (drop_all c.loop-agent.agent-index c.args.agents.now c.loop-agent-test.false) at (c.loop-agent.invariant ms ordered numbered rows filings statements))
