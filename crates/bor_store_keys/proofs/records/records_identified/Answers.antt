use Rattle.std.proofs.Common.{List, ap, ◌∙◌, filter_map}
use Rattle.bor_store_sql.specs.declared.rows.typed.IdentifierRow.{IdentifierRow}
use Rattle.bor_store_reads.proofs.Reading.{read_next, read_so}
use Rattle.bor_store_keys.specs.Signed.{record_standing}
use Rattle.bor_store_keys.proofs.Recording.{identified_cover}
use Rattle.bor_store_keys.proofs.records.records_identified.Goals as goal

pub returns : goal.returns
returns g c = read_so (read_next c.in_ok-rows.ensures c.in_ok-records.ensures)
    (λ r stored is. identified_cover r stored c.args.scheme.now c.args.id.now c.in_ok-rows.rows.items c.in_ok-records.records.items c.in_ok-once.field-0.items is.0
    (is.1 ∙ ap (λ (rows : List IdentifierRow). filter_map (λ (row : IdentifierRow). record_standing r.members row.at) rows) c.deref.ensures.value) c.in_ok-once.ensures.same)
