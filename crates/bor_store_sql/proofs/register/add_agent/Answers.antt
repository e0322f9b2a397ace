use Rattle.std.proofs.Common.{subst₂, rules}
use Rattle.bor_register.specs.Register.{new_member}
use Rattle.bor_store_sql.specs.Rows.Encoding.{agent_columns, contents}
use Rattle.bor_store_sql.specs.Changing.{Any, with_agent_row}
use Rattle.bor_store_sql.specs.Shown.{StepsTo}
use Rattle.bor_store_sql.proofs.Contents.{enrolled_has}
use Rattle.bor_store_sql.proofs.StoredMembers.{enrolled_stored}
use Rattle.bor_store_sql.proofs.Ending.{alters, ended, state}
use Rattle.bor_store_sql.proofs.register.add_agent.Goals as goal

pub returns : goal.returns
returns g c =
    let steps = subst₂ (λ n t. StepsTo Any (with_agent_row (agent_columns (new_member n t))) (state g.S.Store c.transaction-tx.result.conn.now) (state g.S.Store c.insert_agent-done.new.tx.conn.now) c.insert_agent-done.result)
    c.as_str-name.ensures.value c.as_str-secret.ensures.value c.insert_agent-done.ensures.steps in
    alters (ended g.S.Store c.args.conn.now c.finish.new.tx.0 c.conn-1.given.0 c.transaction-tx.ensures.begun steps c.insert_agent-done.ensures.ran_open c.finish.ensures.ends c.finish.ensures.mode (c.is_autocommit.ensures.settled (search rules)) (search rules) (search rules))
    (λ r shows fresh db makes. (enrolled_has c.args.agent.now c.args.token.now r db (makes (contents r) shows.has (tt {0})), enrolled_stored c.args.agent.now c.args.token.now r shows.stored fresh c.as_str-name.ensures.form c.as_str-secret.ensures.form))
