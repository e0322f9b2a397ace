use Rattle.std.proofs.Common.{rules}
use Rattle.bor_terms.specs.Texts.{is_same}
use Rattle.bor_store_sql.proofs.rows.members.split_agent.Goals as goal

pub returns : goal.returns
returns c = c.split_own.ensures (λ row. is_same row.at.agent c.args.agent.now) (λ x r h. search rules)
