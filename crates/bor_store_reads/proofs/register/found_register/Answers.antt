use Rattle.std.proofs.Common.{[], ◌∷◌, refl}
use Rattle.std.proofs.lemmas.List.Elements.{All-nil, All-cons}
use Rattle.bor_store_sql.specs.Rows.Placed.{register_row}
use Rattle.bor_store_sql.specs.Rows.Encoding.{register_row_columns}
use Rattle.bor_store_sql.specs.Rows.RowForms.{IsFormedRegisterRow}
use Rattle.bor_store_sql.proofs.OnRows.Formed.{register_formed}
use Rattle.bor_store_reads.proofs.Found.{first_told, made_up}
use Rattle.bor_store_reads.proofs.register.found_register.Goals as goal

pub returns-clause-reads : goal.returns-clause-reads
returns-clause-reads g c =
    first_told c.all_register.ensures register_row_columns IsFormedRegisterRow (λ r. register_row r ∷ []) (λ r. refl)
    (λ r stored. All-cons IsFormedRegisterRow (register_row r) [] (register_formed r stored.formed) (All-nil IsFormedRegisterRow)) c.first_value.ensures.value c.first_value.ensures.found

pub returns-clause-up : goal.returns-clause-up
returns-clause-up g c = made_up _ c.first_value.result c.all_register.ensures c.first_value.ensures.found
