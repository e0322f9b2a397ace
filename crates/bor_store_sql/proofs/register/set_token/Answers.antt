use Rattle.std.proofs.Common.{subst₂, rules}
use Rattle.bor_store_sql.specs.Rows.Encoding.{contents}
use Rattle.bor_store_sql.specs.Changing.{IsOneAgent, with_token_row}
use Rattle.bor_store_sql.specs.Shown.{StepsTo}
use Rattle.bor_store_sql.proofs.Changes.{one_agent, renewed_has, renewed_stored}
use Rattle.bor_store_sql.proofs.Ending.{alters, ended, state}
use Rattle.bor_store_sql.proofs.register.set_token.Goals as goal

pub returns : goal.returns
returns g c =
    let name = c.args.agent.now in
    let token = c.args.token.now in
    let steps = subst₂ (λ n t. StepsTo (IsOneAgent n) (with_token_row n t) (state g.S.Store c.transaction-tx.result.conn.now) (state g.S.Store c.update_token-done.new.tx.conn.now) c.update_token-done.result)
    c.as_str-name.ensures.value c.as_str-secret.ensures.value c.update_token-done.ensures.steps in
    alters (ended g.S.Store c.args.conn.now c.finish.new.tx.0 c.conn-1.given.0 c.transaction-tx.ensures.begun steps c.update_token-done.ensures.ran_open c.finish.ensures.ends c.finish.ensures.mode (c.is_autocommit.ensures.settled (search rules)) (search rules) (search rules))
    (λ r shows fits db makes. (renewed_has name token r db shows.stored.ordered (makes (contents r) shows.has (one_agent name r.members shows.stored.ordered)), renewed_stored name token r shows.stored c.as_str-secret.ensures.form))
