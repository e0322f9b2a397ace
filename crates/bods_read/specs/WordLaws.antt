-- Each word is UTF-8, and is read back as its value.
use Rattle.std.proofs.Common.{◌≡◌, Some, refl}
use Rattle.std.specs.Str.{IsUtf8, is_utf8, chars}
use lib.Utf8.{encode}
use Rattle.std.proofs.lemmas.Str.{IsUtf8-from_is_utf8}
use Rattle.bods_read.specs.Words.{type_word, type_worded, status_word, status_worded, entity_word}
use Rattle.bods_read.specs.Words.{person_word, interest_word, directness_word}
use Rattle.bods_read.specs.Words.{entity_kind_of, person_kind_of, interest_kind_of}
use Rattle.bods_read.specs.Words.{directness_named}
use Rattle.bods_read.specs.declared.statement.RecordType.{RecordType}
use Rattle.bods_read.specs.declared.statement.RecordType.TheVariants as types
use Rattle.bods_read.specs.declared.statement.Status.{Status}
use Rattle.bods_read.specs.declared.statement.Status.TheVariants as statuses
use Rattle.bods_read.specs.declared.details.EntityKind.{EntityKind}
use Rattle.bods_read.specs.declared.details.EntityKind.TheVariants as entities
use Rattle.bods_read.specs.declared.details.PersonKind.{PersonKind}
use Rattle.bods_read.specs.declared.details.PersonKind.TheVariants as persons
use Rattle.bods_read.specs.declared.interest.InterestKind.{InterestKind}
use Rattle.bods_read.specs.declared.interest.InterestKind.TheVariants as interests
use Rattle.bods_read.specs.declared.interest.Directness.{Directness}
use Rattle.bods_read.specs.declared.interest.Directness.TheVariants as directness

pub type_back : (x : RecordType) → type_worded (type_word x) ≡ Some x
unfolding type_worded type_word
type_back types.Entity = refl
type_back types.Person = refl
type_back types.Relationship = refl

pub type_utf8 : (x : RecordType) → IsUtf8 (type_word x)
unfolding type_word is_utf8 chars encode
type_utf8 types.Entity = IsUtf8-from_is_utf8 (type_word types.Entity) refl
type_utf8 types.Person = IsUtf8-from_is_utf8 (type_word types.Person) refl
type_utf8 types.Relationship = IsUtf8-from_is_utf8 (type_word types.Relationship) refl

pub status_back : (x : Status) → status_worded (status_word x) ≡ Some x
unfolding status_worded status_word
status_back statuses.New = refl
status_back statuses.Updated = refl
status_back statuses.Closed = refl

pub status_utf8 : (x : Status) → IsUtf8 (status_word x)
unfolding status_word is_utf8 chars encode
status_utf8 statuses.New = IsUtf8-from_is_utf8 (status_word statuses.New) refl
status_utf8 statuses.Updated = IsUtf8-from_is_utf8 (status_word statuses.Updated) refl
status_utf8 statuses.Closed = IsUtf8-from_is_utf8 (status_word statuses.Closed) refl

pub entity_back : (x : EntityKind) → entity_kind_of (entity_word x) ≡ Some x
unfolding entity_kind_of entity_word
entity_back entities.RegisteredEntity = refl
entity_back entities.LegalEntity = refl
entity_back entities.Arrangement = refl
entity_back entities.AnonymousEntity = refl
entity_back entities.UnknownEntity = refl
entity_back entities.State = refl
entity_back entities.StateBody = refl
entity_back entities.Other = refl

pub entity_utf8 : (x : EntityKind) → IsUtf8 (entity_word x)
unfolding entity_word is_utf8 chars encode
entity_utf8 entities.RegisteredEntity =
    IsUtf8-from_is_utf8 (entity_word entities.RegisteredEntity) refl
entity_utf8 entities.LegalEntity = IsUtf8-from_is_utf8 (entity_word entities.LegalEntity) refl
entity_utf8 entities.Arrangement = IsUtf8-from_is_utf8 (entity_word entities.Arrangement) refl
entity_utf8 entities.AnonymousEntity =
    IsUtf8-from_is_utf8 (entity_word entities.AnonymousEntity) refl
entity_utf8 entities.UnknownEntity = IsUtf8-from_is_utf8 (entity_word entities.UnknownEntity) refl
entity_utf8 entities.State = IsUtf8-from_is_utf8 (entity_word entities.State) refl
entity_utf8 entities.StateBody = IsUtf8-from_is_utf8 (entity_word entities.StateBody) refl
entity_utf8 entities.Other = IsUtf8-from_is_utf8 (entity_word entities.Other) refl

pub person_back : (x : PersonKind) → person_kind_of (person_word x) ≡ Some x
unfolding person_kind_of person_word
person_back persons.KnownPerson = refl
person_back persons.AnonymousPerson = refl
person_back persons.UnknownPerson = refl
person_back persons.Other = refl

pub person_utf8 : (x : PersonKind) → IsUtf8 (person_word x)
unfolding person_word is_utf8 chars encode
person_utf8 persons.KnownPerson = IsUtf8-from_is_utf8 (person_word persons.KnownPerson) refl
person_utf8 persons.AnonymousPerson = IsUtf8-from_is_utf8 (person_word persons.AnonymousPerson) refl
person_utf8 persons.UnknownPerson = IsUtf8-from_is_utf8 (person_word persons.UnknownPerson) refl
person_utf8 persons.Other = IsUtf8-from_is_utf8 (person_word persons.Other) refl

pub interest_back : (x : InterestKind) → interest_kind_of (interest_word x) ≡ Some x
unfolding interest_kind_of interest_word
interest_back interests.Shareholding = refl
interest_back interests.VotingRights = refl
interest_back interests.AppointmentOfBoard = refl
interest_back interests.Other = refl

pub interest_utf8 : (x : InterestKind) → IsUtf8 (interest_word x)
unfolding interest_word is_utf8 chars encode
interest_utf8 interests.Shareholding =
    IsUtf8-from_is_utf8 (interest_word interests.Shareholding) refl
interest_utf8 interests.VotingRights =
    IsUtf8-from_is_utf8 (interest_word interests.VotingRights) refl
interest_utf8 interests.AppointmentOfBoard =
    IsUtf8-from_is_utf8 (interest_word interests.AppointmentOfBoard) refl
interest_utf8 interests.Other = IsUtf8-from_is_utf8 (interest_word interests.Other) refl

pub directness_back : (x : Directness) → directness_named (directness_word x) ≡ Some x
unfolding directness_named directness_word
directness_back directness.Direct = refl
directness_back directness.Indirect = refl
directness_back directness.Unknown = refl

pub directness_utf8 : (x : Directness) → IsUtf8 (directness_word x)
unfolding directness_word is_utf8 chars encode
directness_utf8 directness.Direct = IsUtf8-from_is_utf8 (directness_word directness.Direct) refl
directness_utf8 directness.Indirect = IsUtf8-from_is_utf8 (directness_word directness.Indirect) refl
directness_utf8 directness.Unknown = IsUtf8-from_is_utf8 (directness_word directness.Unknown) refl
