use Rattle.std.proofs.Common.{◌∙◌, Some, ap, slice_get, sym}
use Rattle.bor_store_sql.specs.Selected.{standing_at}
use Rattle.bor_store_reads.proofs.Reading.{read_so}
use Rattle.bor_store_keys.proofs.Recording.{standing_found, standing_none}
use Rattle.bor_store_keys.proofs.records.record_read.Goals as goal

pub returns-in-Some : goal.returns-in-Some
returns-in-Some g c = read_so c.in_ok-row.ensures (λ r stored is. ap Some c.record_at.ensures ∙ standing_found (slice_get (standing_at c.args.at.now r.members) 0) c.in-Some.row (sym c.in-Some.is ∙ is))

pub returns-in-None : goal.returns-in-None
returns-in-None g c = read_so c.in_ok-row.ensures (λ r stored is. standing_none (slice_get (standing_at c.args.at.now r.members) 0) (sym c.in-None.is ∙ is))
