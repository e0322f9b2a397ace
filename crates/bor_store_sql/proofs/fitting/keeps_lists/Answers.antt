use Rattle.std.proofs.Common.{◌≡◌, List, map, rules}
use Rattle.bods_read.specs.declared.details.Identifier.{Identifier}
use Rattle.bods_read.specs.declared.interest.Interest.{Interest}
use Rattle.bor_register.specs.Register.{Register}
use Rattle.bor_store_sql.specs.Rows.Encoding.{identifier_columns, interest_columns}
use Rattle.bor_store_sql.specs.Rows.Placed.{identifiers_from, interests_from}
use Rattle.bor_store_sql.specs.declared.rows.places.At.{At}
use Rattle.bor_store_sql.specs.Selected.{identifiers_at, interests_at}
use Rattle.bor_store_sql.proofs.Fits.{told_after}
use Rattle.bor_store_sql.proofs.fitting.keeps_lists.Goals as goal

abbrev HasInterests : At → Register → List Interest → Type 0
HasInterests at r xs = map interest_columns (interests_from at 1 xs) ≡ map interest_columns (interests_at at r.members)

abbrev HasIdentifiers : At → Register → List Identifier → Type 0
HasIdentifiers at r xs = map identifier_columns (identifiers_from at 1 xs) ≡ map identifier_columns (identifiers_at at r.members)

pub returns : goal.returns
returns g c = search (rules, told_after)
