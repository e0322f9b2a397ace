use Rattle.bor_store_reads.proofs.Reading.{read_next, read_so}
use Rattle.std.proofs.Common.{ap, map, ◌∙◌}
use Rattle.bor_register.specs.Register.{filings_of}
use Rattle.bor_store_sql.specs.Rows.Seen.{line_shown}
use Rattle.bor_store_reads.proofs.FoundFilings.{lines_found}
use Rattle.bor_store_reads.proofs.filings.read_filings.Goals as goal

pub returns : goal.returns
returns g c = read_so (read_next c.in_ok-day.ensures c.in_ok-rows.ensures) (λ r stored is. c.in_ok-lines_of.ensures ∙ ap (λ d. map (line_shown d) c.in_ok-rows.rows.items) is.0 ∙ lines_found c.args.agent.now r.day c.in_ok-rows.rows.items (filings_of c.args.agent.now r.members) is.1)
