-- The questions for the statements of a declaration, row by row.
use Rattle.std.specs.Prelude.{◌≡◌, ℕ, ℤ, Bool, List, [], ◌==◌, ◌&&◌}
use Rattle.std.specs.List.{list_any}
use Rattle.bor_register.specs.Rows.{is_visible}
use Rattle.bor_register.specs.declared.filing.AcceptedFiling.{AcceptedFiling}
use Rattle.bor_register.specs.declared.member.Member.{Member}
use Rattle.bor_store_sql.specs.declared.rows.places.At.{At}
use Rattle.bor_store_sql.specs.declared.rows.typed.IdentifierRow.{IdentifierRow}
use Rattle.bor_store_sql.specs.declared.rows.typed.InterestRow.{InterestRow}
use Rattle.bor_store_sql.specs.declared.rows.typed.Part.{Part}
use Rattle.bor_store_sql.specs.declared.rows.typed.Part.TheVariants as part
use Rattle.bor_store_sql.specs.Selected.{identifiers_at, interests_at}
use Rattle.bor_store_reads.specs.declared.known.Known.{Known}

-- the viewer sees the filing with this number among these of the agent
abbrev pub is_number_seen : List ℕ → ℤ → List ℕ → List AcceptedFiling → ℕ → Bool
is_number_seen viewer day agent filings number =
    list_any (λ f. f.number == number && is_visible viewer day agent f) filings

-- ---- for clauses of private functions alone

-- the data that is known of a filing is right
abbrev pub IsKnown : List ℕ → ℤ → List ℕ → List AcceptedFiling → Known → Type 0
IsKnown viewer day agent filings known =
    known.seen ≡ is_number_seen viewer day agent filings known.number

-- the interests of a statement of this part at this place: a relationship alone has any
abbrev pub part_interests : Part → At → List Member → List InterestRow
part_interests (part.Entity kind name) at ms = []
part_interests (part.Person kind name) at ms = []
part_interests (part.Relationship subject party) at ms = interests_at at ms

-- its identifiers: an entity alone has any
abbrev pub part_identifiers : Part → At → List Member → List IdentifierRow
part_identifiers (part.Entity kind name) at ms = identifiers_at at ms
part_identifiers (part.Person kind name) at ms = []
part_identifiers (part.Relationship subject party) at ms = []
