use Rattle.std.proofs.Common.{◌==◌, refl}
use Rattle.bor_store_sql.proofs.Finding.{finds_now}
use Rattle.bor_store_reads.proofs.FoundStatements.{own_told}
use Rattle.bor_store_reads.proofs.successors.found_statements.Goals as goal

pub returns : goal.returns
returns g c =
    own_told c.args.agent.now (λ p. p.at.filing == c.args.number) (finds_now c.statements_of_filing.ensures) (λ r. rw c.as_str.ensures.value refl) c.all_values.ensures.values c.all_values.ensures.found
