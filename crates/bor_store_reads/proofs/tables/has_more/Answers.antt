use Rattle.std.proofs.Common.{pos, [], ◌∷◌}
use Rattle.sqlite.specs.declared.types.Value.TheVariants.{Int}
use Rattle.bor_store_sql.specs.Rows.Placed.{placed}
use Rattle.bor_store_reads.proofs.Found.{told_any, any_after, made_up}
use Rattle.bor_store_reads.proofs.tables.has_more.Goals as goal

pub returns-clause-reads : goal.returns-clause-reads
returns-clause-reads g c = told_any c.more_statements.ensures (λ r. any_after (λ p. Int (pos 1) ∷ []) c.args.most (placed r.members)) c.any.ensures.any c.any.ensures.found

pub returns-clause-up : goal.returns-clause-up
returns-clause-up g c = made_up _ c.any.result c.more_statements.ensures c.any.ensures.found
