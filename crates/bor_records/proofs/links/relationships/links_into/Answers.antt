use Rattle.std.proofs.Common.{◌∙◌}
use Rattle.bor_records.proofs.OnLinks.ByRecord.{entity_told, no_links_told}
use Rattle.bor_records.proofs.ReadingLaws.{read_as, read_fails, read_next, read_so}
use Rattle.bor_records.proofs.links.relationships.links_into.Goals as goal

pub returns-then-is_none : goal.returns-then-is_none
returns-then-is_none g c = read_so c.in_ok-identifiers.ensures
    (λ m told. no_links_told (g.R.Records.shown m) (g.met.R.Relationships.of_rows m) c.args.node.now c.new.result.items c.new.ensures.items
    (entity_told g.R.Identifiers.AsSlice.items (g.R.Records.shown m) c.args.node.now c.in_ok-identifiers.field-0 told ∙ c.if-is_none.ensures))

pub returns-in_err-naming : goal.returns-in_err-naming
returns-in_err-naming g c = read_fails c.from_residual-in_err-naming.ensures.1 (read_next g.met.R.Records.goes_on c.in_ok-identifiers.ensures c.in_err-naming.ensures)

pub returns : goal.returns
returns g c = read_as (read_next g.met.R.Records.goes_on c.in_ok-identifiers.ensures (read_next g.met.R.Records.goes_on c.in_ok-naming.ensures c.links_named.ensures))
    (λ m links is. is.1.1 (entity_told g.R.Identifiers.AsSlice.items (g.R.Records.shown m) c.args.node.now c.in_ok-identifiers.field-0 is.0 ∙ c.if-is_none.ensures)
    (rw (← c.as_slice.ensures) at is.1.0))
