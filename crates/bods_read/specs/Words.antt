-- The words of BODS 0.4: for what a record is of, what a statement does to it, kinds and members.
use Rattle.std.specs.Prelude.{ℕ, List, [], ◌∷◌, Option, Some, None, option_and_then, unwrap_or}
use Rattle.std.specs.Prelude.{codes, if◌then◌else◌}
use Rattle.std.specs.Str.{bytes_eq}
use Rattle.bods_read.specs.declared.statement.RecordType.{RecordType}
use Rattle.bods_read.specs.declared.statement.RecordType.TheVariants as types
use Rattle.bods_read.specs.declared.statement.Status.{Status}
use Rattle.bods_read.specs.declared.statement.Status.TheVariants as statuses
use Rattle.bods_read.specs.declared.details.Details.{Details}
use Rattle.bods_read.specs.declared.details.Details.TheVariants as details
use Rattle.bods_read.specs.declared.details.EntityKind.{EntityKind}
use Rattle.bods_read.specs.declared.details.EntityKind.TheVariants as entities
use Rattle.bods_read.specs.declared.details.PersonKind.{PersonKind}
use Rattle.bods_read.specs.declared.details.PersonKind.TheVariants as persons
use Rattle.bods_read.specs.declared.interest.InterestKind.{InterestKind}
use Rattle.bods_read.specs.declared.interest.InterestKind.TheVariants as interests
use Rattle.bods_read.specs.declared.interest.Directness.{Directness}
use Rattle.bods_read.specs.declared.interest.Directness.TheVariants as directness
use Rattle.bods_read.specs.declared.fault.Field.{Field}
use Rattle.bods_read.specs.declared.fault.Field.TheVariants as fields

-- the one of these values whose word a text is
abbrev pub worded : {X : Type 0} → (X → List ℕ) → List X → List ℕ → Option X
worded word [] text = None
worded word (x ∷ xs) text = if bytes_eq text (word x) then Some x else worded word xs text

-- ---- types and statuses

-- recordType (BODS 0.4)
unfoldable pub type_word : RecordType → List ℕ
type_word types.Entity = codes "entity"
type_word types.Person = codes "person"
type_word types.Relationship = codes "relationship"

-- the type whose word a text is
unfoldable pub type_worded : List ℕ → Option RecordType
type_worded text = worded type_word (types.Entity ∷ types.Person ∷ types.Relationship ∷ []) text

-- recordStatus (BODS 0.4)
unfoldable pub status_word : Status → List ℕ
status_word statuses.New = codes "new"
status_word statuses.Updated = codes "updated"
status_word statuses.Closed = codes "closed"

-- the status whose word a text is
unfoldable pub status_worded : List ℕ → Option Status
status_worded text =
    worded status_word (statuses.New ∷ statuses.Updated ∷ statuses.Closed ∷ []) text

-- the kind of a record, by its details
abbrev pub type_of : Details → RecordType
type_of (details.Entity kind name identifiers) = types.Entity
type_of (details.Person kind name) = types.Person
type_of (details.Relationship subject party interests) = types.Relationship

-- ---- kinds

-- entityType.type (BODS 0.4); every other kind is shown as other (this register's profile)
unfoldable pub entity_word : EntityKind → List ℕ
entity_word entities.RegisteredEntity = codes "registeredEntity"
entity_word entities.LegalEntity = codes "legalEntity"
entity_word entities.Arrangement = codes "arrangement"
entity_word entities.AnonymousEntity = codes "anonymousEntity"
entity_word entities.UnknownEntity = codes "unknownEntity"
entity_word entities.State = codes "state"
entity_word entities.StateBody = codes "stateBody"
entity_word entities.Other = codes "other"

-- the kind whose word a text is
unfoldable pub entity_kind_of : List ℕ → Option EntityKind
entity_kind_of text =
    worded entity_word (entities.RegisteredEntity ∷ entities.LegalEntity ∷ entities.Arrangement
    ∷ entities.AnonymousEntity ∷ entities.UnknownEntity ∷ entities.State ∷ entities.StateBody
    ∷ entities.Other ∷ []) text

-- the same in a file; other for another text and for none (this register's profile)
unfoldable pub entity_worded : Option (List ℕ) → EntityKind
entity_worded text = unwrap_or (option_and_then entity_kind_of text) entities.Other

-- personType (BODS 0.4); every other kind is shown as other (this register's profile)
unfoldable pub person_word : PersonKind → List ℕ
person_word persons.KnownPerson = codes "knownPerson"
person_word persons.AnonymousPerson = codes "anonymousPerson"
person_word persons.UnknownPerson = codes "unknownPerson"
person_word persons.Other = codes "other"

-- the kind whose word a text is
unfoldable pub person_kind_of : List ℕ → Option PersonKind
person_kind_of text =
    worded person_word (persons.KnownPerson ∷ persons.AnonymousPerson ∷ persons.UnknownPerson
    ∷ persons.Other ∷ []) text

-- the same in a file; other for another text and for none (this register's profile)
unfoldable pub person_worded : Option (List ℕ) → PersonKind
person_worded text = unwrap_or (option_and_then person_kind_of text) persons.Other

-- the three types of interest that play a part in a chain (BODS 0.4, interest type); every other is
-- shown as other (this register's profile)
unfoldable pub interest_word : InterestKind → List ℕ
interest_word interests.Shareholding = codes "shareholding"
interest_word interests.VotingRights = codes "votingRights"
interest_word interests.AppointmentOfBoard = codes "appointmentOfBoard"
interest_word interests.Other = codes "other"

-- the kind whose word a text is
unfoldable pub interest_kind_of : List ℕ → Option InterestKind
interest_kind_of text =
    worded interest_word
    (interests.Shareholding ∷ interests.VotingRights ∷ interests.AppointmentOfBoard
    ∷ interests.Other ∷ []) text

-- the same in a file; other for another text and for none (this register's profile)
unfoldable pub interest_worded : Option (List ℕ) → InterestKind
interest_worded text = unwrap_or (option_and_then interest_kind_of text) interests.Other

-- directOrIndirect (BODS 0.4); every other word, and none, is unknown
unfoldable pub directness_word : Directness → List ℕ
directness_word directness.Direct = codes "direct"
directness_word directness.Indirect = codes "indirect"
directness_word directness.Unknown = codes "unknown"

-- the directness whose word a text is
unfoldable pub directness_named : List ℕ → Option Directness
directness_named text =
    worded directness_word (directness.Direct ∷ directness.Indirect ∷ directness.Unknown ∷ []) text

-- the same in a file; unknown for another text and for none (this register's profile)
unfoldable pub directness_worded : Option (List ℕ) → Directness
directness_worded text = unwrap_or (option_and_then directness_named text) directness.Unknown

-- ---- members

-- a member's name (BODS 0.4); statement stands for the statement itself
unfoldable pub field_word : Field → List ℕ
field_word fields.Statement = codes "statement"
field_word fields.StatementId = codes "statementId"
field_word fields.StatementDate = codes "statementDate"
field_word fields.DeclarationSubject = codes "declarationSubject"
field_word fields.RecordId = codes "recordId"
field_word fields.RecordType = codes "recordType"
field_word fields.RecordStatus = codes "recordStatus"
field_word fields.RecordDetails = codes "recordDetails"
field_word fields.Identifiers = codes "identifiers"
field_word fields.Subject = codes "subject"
field_word fields.InterestedParty = codes "interestedParty"
field_word fields.Interests = codes "interests"
field_word fields.Share = codes "share"
field_word fields.Exact = codes "exact"
field_word fields.Minimum = codes "minimum"
field_word fields.Maximum = codes "maximum"
field_word fields.ExclusiveMinimum = codes "exclusiveMinimum"
field_word fields.ExclusiveMaximum = codes "exclusiveMaximum"
