-- The details of a statement's record: of an entity, a person or a relationship (BODS 0.4,
-- recordDetails; this register's profile).
use Rattle.std.specs.Prelude.{ℕ, List, [], ◌∷◌, Option, Some, None, option_and_then, option_map}
use Rattle.std.specs.Prelude.{filter_map, slice_get, codes}
use Rattle.serde_json.specs.Data.{Data}
use Rattle.bods_read.specs.declared.fault.Field.TheVariants as fields
use Rattle.bods_read.specs.declared.fault.Fault.{Fault}
use Rattle.bods_read.specs.declared.statement.RecordType.{RecordType}
use Rattle.bods_read.specs.declared.statement.RecordType.TheVariants as types
use Rattle.bods_read.specs.declared.details.EntityKind.{EntityKind}
use Rattle.bods_read.specs.declared.details.PersonKind.{PersonKind}
use Rattle.bods_read.specs.declared.details.Identifier.{Identifier}
use Rattle.bods_read.specs.declared.details.Details.{Details}
use Rattle.bods_read.specs.declared.details.Details.TheVariants as details
use Rattle.bods_read.specs.Words.{entity_worded, person_worded}
use Rattle.bods_read.specs.Outcome.{table}
use Rattle.bods_read.specs.Member.{member, required, required_value, end_in, member_text, items_in}
use Rattle.bods_read.specs.Member.{array, array_items}
use Rattle.bods_read.specs.Interests.{interests_lines, interests_of}

-- ---- identifiers

-- a text that is not empty
abbrev pub filled : List ℕ → Option (List ℕ)
filled [] = None
filled (byte ∷ bytes) = Some (byte ∷ bytes)

-- the text of a member, where it is one and not empty
abbrev pub filled_at : List ℕ → Data → Option (List ℕ)
filled_at name d = option_and_then filled (member_text name d)

-- an identifier of these texts
abbrev pub identifier : List ℕ → List ℕ → Identifier
identifier scheme id = record { scheme = scheme; id = id }

-- an item that has both texts; another item is passed over (BODS 0.4, scheme, id; this register's
-- profile)
unfoldable pub identifier_in : Data → Option Identifier
identifier_in d =
    option_and_then (λ scheme. option_map (λ id. identifier scheme id) (filled_at (codes "id") d))
    (filled_at (codes "scheme") d)

-- the identifiers, in order
unfoldable pub identifiers_of : Data → List Identifier
identifiers_of d = filter_map identifier_in (array_items fields.Identifiers d)

-- ---- entities

-- the kind is the type of its entityType
abbrev pub entity_kind : Data → EntityKind
entity_kind d =
    entity_worded (option_and_then (member_text (codes "type")) (member (codes "entityType") d))

-- the line about an entity's identifiers
unfoldable pub entity_lines : Data → List Fault
entity_lines d = table (array fields.Identifiers d ∷ [])

-- an entity: its kind, its name, where that is a text, and its identifiers (BODS 0.4, entityType,
-- name, identifiers)
unfoldable pub entity_of : Data → Details
entity_of d = details.Entity (entity_kind d) (member_text (codes "name") d) (identifiers_of d)

-- ---- persons

-- the kind is the personType (BODS 0.4)
abbrev pub person_kind : Data → PersonKind
person_kind d = person_worded (member_text (codes "personType") d)

-- the first item of names
abbrev pub first_name : Data → Option Data
first_name d =
    option_and_then (λ ds. slice_get ds 0) (option_and_then items_in (member (codes "names") d))

-- the name shown is the full name of the first item of names
unfoldable pub person_of : Data → Details
person_of d =
    details.Person (person_kind d) (option_and_then (member_text (codes "fullName")) (first_name d))

-- ---- relationships

-- the lines about a relationship: the entity, the holder, the interests (BODS 0.4)
unfoldable pub relationship_lines : Data → List Fault
relationship_lines d =
    table (required fields.Subject end_in d ∷ required fields.InterestedParty end_in d
    ∷ interests_lines d ∷ [])

-- a relationship: the record of the entity, the record of the holder, the interests (BODS 0.4,
-- subject, interestedParty, interests)
unfoldable pub relationship_of : Data → Details
relationship_of d =
    details.Relationship (required_value fields.Subject end_in None d)
    (required_value fields.InterestedParty end_in None d) (interests_of d)

-- ---- details of a type

-- the lines about details, by what the record is of; about persons there is none
abbrev pub details_lines : RecordType → Data → List Fault
details_lines types.Entity d = entity_lines d
details_lines types.Person d = []
details_lines types.Relationship d = relationship_lines d

-- the details, by the kind of the record
abbrev pub details_of : RecordType → Data → Details
details_of types.Entity d = entity_of d
details_of types.Person d = person_of d
details_of types.Relationship d = relationship_of d
