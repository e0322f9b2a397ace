-- The parts of a register that are asked for by key.
use Rattle.std.specs.Prelude.{ℕ, pos, List, [], ◌∷◌, take, reverse, filter, ◌==◌, ◌&&◌, Bool, false}
use Rattle.std.specs.Prelude.{Some, None}
use Rattle.std.specs.List.{flat_map}
use Rattle.sqlite.specs.declared.types.Value.TheVariants.{Int}
use Rattle.sqlite.specs.Order.{Row}
use Rattle.bor_terms.specs.Texts.{is_same}
use Rattle.bods_read.specs.declared.details.Details.{Details}
use Rattle.bods_read.specs.declared.details.Details.TheVariants as details
use Rattle.bor_register.specs.declared.filing.AcceptedFiling.{AcceptedFiling}
use Rattle.bor_register.specs.declared.member.Member.{Member}
use Rattle.bor_register.specs.Register.{Register, filings_of}
use Rattle.bor_store_sql.specs.declared.rows.places.At.{At}
use Rattle.bor_store_sql.specs.declared.rows.typed.Placed.{Placed}
use Rattle.bor_store_sql.specs.declared.rows.typed.InterestRow.{InterestRow}
use Rattle.bor_store_sql.specs.declared.rows.typed.IdentifierRow.{IdentifierRow}
use Rattle.bor_store_sql.specs.Rows.Placed.{same_place, placed, placed_by, interest_rows}
use Rattle.bor_store_sql.specs.Rows.Placed.{identifier_rows}

-- the agents of this name: at most one
abbrev pub members_named : List ℕ → List Member → List Member
members_named name ms = filter (λ m. is_same m.name name) ms

-- the agents that have the token
abbrev pub members_having : List ℕ → List Member → List Member
members_having token ms = filter (λ m. is_same m.token token) ms

-- of these filings those under a key; the first is the one that the register means
abbrev pub keyed : List ℕ → List AcceptedFiling → List AcceptedFiling
keyed key fs = filter (λ f. is_same f.key key) fs

abbrev pub numbered : ℕ → List AcceptedFiling → List AcceptedFiling
numbered number fs = filter (λ f. f.number == number) fs

-- the last of a list, or none
abbrev pub last : {X : Type 0} → List X → List X
last xs = take 1 (reverse xs)

-- an agent's live statements, each where it stands
abbrev pub placed_of : List ℕ → Register → List Placed
placed_of agent r = placed_by agent (filings_of agent r.members)

-- of these statements those of a filing
abbrev pub in_filing : ℕ → List Placed → List Placed
in_filing number ps = filter (λ p. p.at.filing == number) ps

-- those of a declaration
abbrev pub in_declaration : List ℕ → List Placed → List Placed
in_declaration declaration ps = filter (λ p. is_same p.statement.declaration declaration) ps

-- those of a record of a declaration
abbrev pub in_series : List ℕ → List ℕ → List Placed → List Placed
in_series declaration rec ps =
    filter (λ p. is_same p.statement.declaration declaration && is_same p.statement.rec rec) ps

-- those of the records with this identifier, of whatever declaration
abbrev pub in_record : List ℕ → List Placed → List Placed
in_record rec ps = filter (λ p. is_same p.statement.rec rec) ps

-- a relationship that names this record as its subject
abbrev pub names_subject : List ℕ → Details → Bool
names_subject rec (details.Entity kind name identifiers) = false
names_subject rec (details.Person kind name) = false
names_subject rec (details.Relationship None party interests) = false
names_subject rec (details.Relationship (Some subject) party interests) = is_same subject rec

-- those of a declaration that name this record as their subject
abbrev pub with_subject : List ℕ → List ℕ → List Placed → List Placed
with_subject declaration rec ps =
    filter
    (λ p. is_same p.statement.declaration declaration && names_subject rec p.statement.details) ps

-- those under an identifier
abbrev pub identified : List ℕ → List Placed → List Placed
identified id ps = filter (λ p. is_same p.statement.id id) ps

-- ---- the lists of a statement

-- the interests of the statement at this place
abbrev pub interests_at : At → List Member → List InterestRow
interests_at at ms = flat_map interest_rows (filter (λ p. same_place p.at at) (placed ms))

-- the identifiers of the statement at this place
abbrev pub identifiers_at : At → List Member → List IdentifierRow
identifiers_at at ms = flat_map identifier_rows (filter (λ p. same_place p.at at) (placed ms))

-- ---- over all agents

-- the live statement at this place, where there is one
abbrev pub standing_at : At → List Member → List Placed
standing_at at ms = filter (λ p. same_place p.at at) (placed ms)

-- the rows of the identifiers that have this scheme and this identifier
abbrev pub identified_by : List ℕ → List ℕ → List Member → List IdentifierRow
identified_by scheme id ms =
    filter (λ i. is_same i.identifier.scheme scheme && is_same i.identifier.id id)
    (flat_map identifier_rows (placed ms))

-- ---- other rows that are shown

-- where a statement stands in its agent's filings: filing, place
abbrev pub place_columns : Placed → Row
place_columns p = Int (pos p.at.filing) ∷ Int (pos p.at.place) ∷ []
