use Rattle.std.proofs.Common.{refl, ◌&&◌, flat_map}
use Rattle.std.proofs.lemmas.List.Elements.{All-filter}
use Rattle.bor_terms.specs.Texts.{is_same}
use Rattle.bor_store_sql.specs.declared.rows.typed.IdentifierRow.{IdentifierRow}
use Rattle.bor_store_sql.specs.Rows.Placed.{placed, identifier_rows}
use Rattle.bor_store_sql.specs.Rows.Encoding.{identifier_columns}
use Rattle.bor_store_sql.specs.Rows.RowForms.{IsFormedIdentifierRow}
use Rattle.bor_store_sql.proofs.OnRows.Formed.{placed_formed, all_identifiers_formed}
use Rattle.bor_store_reads.proofs.Found.{all_told}
use Rattle.bor_store_reads.proofs.records.read_identified.Goals as goal

pub returns : goal.returns
returns g c =
    all_told c.identifiers_by_id.ensures identifier_columns IsFormedIdentifierRow (λ r. refl)
    (λ r stored. All-filter (λ (i : IdentifierRow). is_same i.identifier.scheme c.args.scheme.now && is_same i.identifier.id c.args.id.now) IsFormedIdentifierRow (flat_map identifier_rows (placed r.members)) (all_identifiers_formed (placed r.members) (placed_formed r stored)))
    c.all_values.ensures.values c.all_values.ensures.found
