use Rattle.bor_store_reads.proofs.Reading.{read_next, read_so}
use Rattle.std.proofs.Common.{Some, ap, sym, ◌∙◌}
use Rattle.bor_register.specs.Register.{filing_keyed, filings_of}
use Rattle.bor_store_reads.proofs.FoundFilings.{line_found}
use Rattle.bor_store_sql.specs.Rows.Seen.{line_shown}
use Rattle.bor_store_reads.proofs.filings.read_line.Goals as goal

pub returns-in-Some : goal.returns-in-Some
returns-in-Some g c = read_so (read_next c.in_ok-day.ensures c.in_ok-row.ensures) (λ r stored is. ap Some c.into_line.ensures ∙ ap (λ d. Some (line_shown d c.in-Some.row)) is.0 ∙ line_found c.args.agent.now r.day c.in-Some.row (filing_keyed c.args.key.now (filings_of c.args.agent.now r.members)) (sym c.in-Some.is ∙ is.1))
