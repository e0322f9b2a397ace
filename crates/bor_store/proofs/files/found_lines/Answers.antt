use Rattle.std.proofs.Common.{◌≡◌, refl}
use Rattle.bor_store_sql.specs.Rows.Placed.{filing_lines}
use Rattle.bor_store_sql.specs.Rows.Encoding.{line_columns}
use Rattle.bor_store_sql.specs.Rows.RowForms.{IsFormedFilingRow}
use Rattle.bor_store_sql.proofs.OnRows.Formed.{lines_formed}
use Rattle.bor_store.proofs.Either.{told_either}
use Rattle.bor_store.proofs.files.found_lines.Goals as goal

pub returns-clause-answer : goal.returns-clause-answer
returns-clause-answer g c =
    told_either line_columns IsFormedFilingRow c.all_values.result (λ xs values. values.items ≡ xs) (λ r. filing_lines r.members) c.all_filings.ensures (λ r. refl) (λ r stored. lines_formed r.members stored.formed.members) c.all_values.ensures.values
