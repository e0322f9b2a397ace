-- Files beside what the definitions make of them: all of their faults, in order, or what they read as.
-- Each line of the table of faults fails alone in some file, and each fails together with the next.
use Rattle.std.proofs.Common.{◌≡◌, ℕ, zero, suc, List, [], ◌∷◌, ◌++◌, Option, Some, None, Ok, Err, map, option_map, codes, refl, pos, true, false}
use Rattle.std.specs.Prelude.{ℤ, Result, unwrap_or, ⊤}
use Rattle.std.specs.Str.{is_utf8, chars}
use lib.Utf8.{encode}
use Rattle.bor_terms.specs.Texts.{is_ident}
use Rattle.bor_terms.specs.Day.{pair_at, number_of, has_marks, digits_day, day_of}
use Rattle.bor_terms.specs.Points.{points}
use Rattle.bor_terms.specs.Shown.{shown}
use Rattle.bor_terms.specs.Span.{Range, range}
use Rattle.serde_json.proofs.OnLiterals.{serde_json_on_literals}
use Rattle.bods_read.specs.declared.statement.Statement.{Statement}
use Rattle.bods_read.specs.declared.details.Details.{Details}
use Rattle.bods_read.specs.declared.details.Details.TheVariants.{Entity, Person, Relationship}
use Rattle.bods_read.specs.declared.statement.RecordType.TheVariants as types
use Rattle.bods_read.specs.declared.statement.Status.TheVariants as statuses
use Rattle.bods_read.specs.declared.details.EntityKind.TheVariants as entities
use Rattle.bods_read.specs.declared.details.PersonKind.TheVariants as persons
use Rattle.bods_read.specs.declared.interest.InterestKind.TheVariants as interests
use Rattle.bods_read.specs.declared.interest.Directness.TheVariants as directness
use Rattle.bods_read.specs.declared.fault.Field.TheVariants as fields
use Rattle.bods_read.specs.declared.fault.Fault.{Fault}
use Rattle.bods_read.specs.declared.fault.Fault.TheVariants.{Missing, Bad, Fraction, ShareRange, EmptyShare, TooLong}
use Rattle.bods_read.specs.declared.fault.FileFault.{FileFault}
use Rattle.bods_read.specs.declared.fault.FileFault.TheVariants.{NotJson, NotAList, NoStatements, TooMany, At}
use Rattle.bods_read.specs.declared.file.TheConstants.{STATEMENTS_LIMIT}
use Rattle.bods_read.specs.declared.member.TheConstants.{ITEMS_LIMIT}
use Rattle.bods_read.specs.Limits.{statements_limit, items_limit}
use Rattle.bods_read.specs.Faults.{fault_word, file_fault_word}
use Rattle.bods_read.specs.Words.{type_word, type_worded, status_word, status_worded, entity_word, entity_kind_of, entity_worded, person_word, person_kind_of, person_worded, interest_word, interest_kind_of, interest_worded, directness_word, directness_named, directness_worded, field_word}
use Rattle.bods_read.specs.Member.{member, ident_in, day_in, type_in, status_in, object_in, end_in, items_in}
use Rattle.bods_read.specs.Share.{percent_lines, percent_in, percent_lines_at, percent_at, exclusive_lines_at, exclusive_at, share_bounds, members_of, member_lines, range_lines, range_of}
use Rattle.bor_terms.specs.Period.{end_of, is_month, month_end, month_start, start_of, year_end, year_of, year_start}
use Rattle.bods_read.specs.Interests.{share_lines, share_of, interest_object_lines, interest_lines, interest_of, interests_lines, interests_of}
use Rattle.bods_read.specs.Details.{identifier, identifier_in, identifiers_of, entity_lines, entity_of, person_of, relationship_lines, relationship_of}
use Rattle.bods_read.specs.Statement.{statement_object_lines, statement_lines, statement_of}
use Rattle.bods_read.specs.File.{reading, value_of, reading_of, faults, statements}

-- what is opened to compute a reading
unfoldable pub reader : ⊤
unfolding is_utf8 chars encode serde_json_on_literals is_ident pair_at number_of has_marks digits_day day_of points shown type_word type_worded status_word status_worded entity_word entity_kind_of entity_worded person_word person_kind_of person_worded interest_word interest_kind_of interest_worded directness_word directness_named directness_worded field_word member ident_in day_in type_in status_in object_in end_in items_in percent_lines percent_in percent_lines_at percent_at exclusive_lines_at exclusive_at share_bounds members_of member_lines range_lines range_of share_lines share_of interest_object_lines interest_lines interest_of interests_lines interests_of start_of end_of is_month month_start month_end year_start year_end year_of identifier_in identifiers_of entity_lines entity_of person_of relationship_lines relationship_of statement_object_lines statement_lines statement_of reading value_of reading_of faults statements
reader = tt

-- ---- words and limits

-- the ten names of faults
fault_names : map file_fault_word (NotJson ∷ NotAList ∷ NoStatements ∷ TooMany
    ∷ map (At 1) (Missing fields.Share ∷ Bad fields.Share ∷ Fraction ∷ ShareRange ∷ EmptyShare ∷ TooLong fields.Share ∷ []))
    ≡ codes "NotJson" ∷ codes "NotAList" ∷ codes "NoStatements" ∷ codes "TooMany" ∷ codes "Missing" ∷ codes "Bad" ∷ codes "Fraction" ∷ codes "ShareRange" ∷ codes "EmptyShare" ∷ codes "TooLong" ∷ []
unfolding file_fault_word fault_word
fault_names = refl

-- the numbers of the code are those of the definitions
statements_limit-code : STATEMENTS_LIMIT ≡ statements_limit
statements_limit-code = refl

items_limit-code : ITEMS_LIMIT ≡ items_limit
items_limit-code = refl

-- ---- files beside the fault that refuses them

-- a list of so many empty objects and one more
abbrev further : ℕ → List ℕ
further zero = codes "{}]"
further (suc n) = codes "{}," ++ further n

abbrev AreRefused : List (List ℕ × FileFault) → Type 0
AreRefused cases = map (λ c. reading c.0) cases ≡ map (λ c. Err c.1) cases

-- the first two are no JSON, and no UTF-8; the last have 1001 statements, and 1000
refused : AreRefused (
    (codes "[{\"statementId\":\"s1\"", NotJson)
    ∷ (91 ∷ 34 ∷ 255 ∷ 34 ∷ 93 ∷ [], NotJson)
    ∷ (codes "{}", NotAList)
    ∷ (codes "[]", NoStatements)
    ∷ (codes "[{}]", At 1 (Missing fields.StatementId))
    ∷ (codes "[7]", At 1 (Bad fields.Statement))
    ∷ (codes "[" ++ further 1000, TooMany)
    ∷ (codes "[" ++ further 999, At 1 (Missing fields.StatementId))
    ∷ [])
unfolding reader
refused = refl

-- ---- all faults of a file

abbrev all_faults : List ℕ → Option (List FileFault)
all_faults text = option_map faults (value_of text)

-- files beside their faults, all of which are at place 1
abbrev Cases : Type 0
Cases = List (List ℕ × List Fault)

abbrev AreFound : Cases → Type 0
AreFound cases = map (λ c. all_faults c.0) cases ≡ map (λ c. Some (map (At 1) c.1)) cases

-- every line about an absent member, and every line about a member that is not as stated
every_line : AreFound (
    (codes "[{}]", Missing fields.StatementId ∷ Missing fields.StatementDate ∷ Missing fields.DeclarationSubject ∷ Missing fields.RecordId ∷ Missing fields.RecordType ∷ Missing fields.RecordDetails ∷ [])
    ∷ (
      codes "[{\"statementId\":7,\"statementDate\":7,\"declarationSubject\":7,\"recordId\":7,\"recordType\":7,\"recordStatus\":7,\"recordDetails\":7}]",
      Bad fields.StatementId ∷ Bad fields.StatementDate ∷ Bad fields.DeclarationSubject ∷ Bad fields.RecordId ∷ Bad fields.RecordType ∷ Bad fields.RecordStatus ∷ Bad fields.RecordDetails ∷ [],
    )
    ∷ [])
unfolding reader
every_line = refl

-- ---- one line, and two neighbours

-- an entity statement and what follows it; of a member that comes twice the last counts
abbrev entity_and : List ℕ → List ℕ
entity_and more =
    codes "[{\"statementId\":\"s1\",\"statementDate\":\"2024-01-10\",\"declarationSubject\":\"c1\",\"recordId\":\"e1\",\"recordType\":\"entity\",\"recordDetails\":{\"entityType\":{\"type\":\"registeredEntity\"}}" ++ more ++ codes "}]"

-- no line, and each line alone; null counts as absent
single : AreFound (
    (entity_and (codes ""), [])
    ∷ (entity_and (codes ",\"statementId\":\"\""), Bad fields.StatementId ∷ [])
    ∷ (entity_and (codes ",\"statementDate\":\"2023-02-29\""), Bad fields.StatementDate ∷ [])
    ∷ (entity_and (codes ",\"declarationSubject\":\"\\u007f\""), Bad fields.DeclarationSubject ∷ [])
    ∷ (entity_and (codes ",\"recordId\":{}"), Bad fields.RecordId ∷ [])
    ∷ (entity_and (codes ",\"recordType\":\"company\""), Bad fields.RecordType ∷ [])
    ∷ (entity_and (codes ",\"recordStatus\":\"changed\""), Bad fields.RecordStatus ∷ [])
    ∷ (entity_and (codes ",\"recordDetails\":[]"), Bad fields.RecordDetails ∷ [])
    ∷ (entity_and (codes ",\"statementId\":null"), Missing fields.StatementId ∷ [])
    ∷ (entity_and (codes ",\"statementDate\":null"), Missing fields.StatementDate ∷ [])
    ∷ (entity_and (codes ",\"declarationSubject\":null"), Missing fields.DeclarationSubject ∷ [])
    ∷ (entity_and (codes ",\"recordId\":null"), Missing fields.RecordId ∷ [])
    ∷ (entity_and (codes ",\"recordType\":null"), Missing fields.RecordType ∷ [])
    ∷ (entity_and (codes ",\"recordStatus\":null"), [])
    ∷ (entity_and (codes ",\"recordDetails\":null"), Missing fields.RecordDetails ∷ [])
    ∷ (entity_and (codes ",\"recordDetails\":{\"identifiers\":{}}"), Bad fields.Identifiers ∷ [])
    ∷ (entity_and (codes ",\"recordDetails\":{\"identifiers\":[]}"), [])
    ∷ (entity_and (codes ",\"recordDetails\":{\"identifiers\":null}"), [])
    ∷ [])
unfolding reader
single = refl

-- each line with the next; nothing is asked of the details of no known type
neighbours : AreFound (
    (entity_and (codes ",\"statementId\":\"\",\"statementDate\":\"2023-02-29\""), Bad fields.StatementId ∷ Bad fields.StatementDate ∷ [])
    ∷ (entity_and (codes ",\"statementDate\":\"2023-02-29\",\"declarationSubject\":\"\\u007f\""), Bad fields.StatementDate ∷ Bad fields.DeclarationSubject ∷ [])
    ∷ (entity_and (codes ",\"declarationSubject\":\"\\u007f\",\"recordId\":{}"), Bad fields.DeclarationSubject ∷ Bad fields.RecordId ∷ [])
    ∷ (entity_and (codes ",\"recordId\":{},\"recordType\":\"company\""), Bad fields.RecordId ∷ Bad fields.RecordType ∷ [])
    ∷ (entity_and (codes ",\"recordType\":\"company\",\"recordStatus\":\"changed\""), Bad fields.RecordType ∷ Bad fields.RecordStatus ∷ [])
    ∷ (entity_and (codes ",\"recordStatus\":\"changed\",\"recordDetails\":[]"), Bad fields.RecordStatus ∷ Bad fields.RecordDetails ∷ [])
    ∷ (entity_and (codes ",\"statementId\":null,\"statementDate\":null"), Missing fields.StatementId ∷ Missing fields.StatementDate ∷ [])
    ∷ (entity_and (codes ",\"statementDate\":null,\"declarationSubject\":null"), Missing fields.StatementDate ∷ Missing fields.DeclarationSubject ∷ [])
    ∷ (entity_and (codes ",\"declarationSubject\":null,\"recordId\":null"), Missing fields.DeclarationSubject ∷ Missing fields.RecordId ∷ [])
    ∷ (entity_and (codes ",\"recordId\":null,\"recordType\":null"), Missing fields.RecordId ∷ Missing fields.RecordType ∷ [])
    ∷ (entity_and (codes ",\"recordType\":null,\"recordDetails\":null"), Missing fields.RecordType ∷ Missing fields.RecordDetails ∷ [])
    ∷ (entity_and (codes ",\"recordStatus\":\"changed\",\"recordDetails\":{\"identifiers\":7}"), Bad fields.RecordStatus ∷ Bad fields.Identifiers ∷ [])
    ∷ (entity_and (codes ",\"recordType\":\"company\",\"recordDetails\":{\"identifiers\":7}"), Bad fields.RecordType ∷ [])
    ∷ (entity_and (codes ",\"recordType\":\"person\",\"recordDetails\":{\"identifiers\":7,\"names\":7,\"personType\":7}"), [])
    ∷ (entity_and (codes ",\"recordType\":\"relationship\",\"recordStatus\":\"changed\",\"recordDetails\":{\"interestedParty\":\"p1\"}"), Bad fields.RecordStatus ∷ Missing fields.Subject ∷ [])
    ∷ [])
unfolding reader
neighbours = refl

-- ---- arrays of up to 100 items

-- so many items, and one more
abbrev many : List ℕ → ℕ → List ℕ
many text zero = text
many text (suc n) = text ++ codes "," ++ many text n

abbrev identifiers_as : List ℕ → List ℕ
identifiers_as items = entity_and (codes ",\"recordDetails\":{\"identifiers\":[" ++ items ++ codes "]}")

abbrev interests_as : List ℕ → List ℕ
interests_as items =
    entity_and (codes ",\"recordType\":\"relationship\",\"recordDetails\":{\"subject\":\"e1\",\"interestedParty\":\"p1\",\"interests\":[" ++ items ++ codes "]}")

-- of 101 items none is looked at; an identifier that is none is passed over; the length comes in its place
lengths : AreFound (
    (identifiers_as (many (codes "7") 99), [])
    ∷ (identifiers_as (many (codes "7") 100), TooLong fields.Identifiers ∷ [])
    ∷ (interests_as (many (codes "{}") 99), [])
    ∷ (interests_as (many (codes "{}") 100), TooLong fields.Interests ∷ [])
    ∷ (interests_as (many (codes "7") 100), TooLong fields.Interests ∷ [])
    ∷ (entity_and (codes ",\"recordStatus\":7,\"recordDetails\":{\"identifiers\":[" ++ many (codes "7") 100 ++ codes "]}"), Bad fields.RecordStatus ∷ TooLong fields.Identifiers ∷ [])
    ∷ (entity_and (codes ",\"recordType\":\"relationship\",\"recordDetails\":{\"subject\":\"e1\",\"interests\":[" ++ many (codes "7") 100 ++ codes "]}"), Missing fields.InterestedParty ∷ TooLong fields.Interests ∷ [])
    ∷ [])
unfolding reader
lengths = refl

-- ---- relationships

abbrev relationship_with : List ℕ → List ℕ
relationship_with details =
    codes "[{\"statementId\":\"s1\",\"statementDate\":\"2024-01-10\",\"declarationSubject\":\"c1\",\"recordId\":\"r1\",\"recordType\":\"relationship\",\"recordDetails\":{" ++ details ++ codes "}}]"

-- the ends with these interests
abbrev interests_of_file : List ℕ → List ℕ
interests_of_file interests =
    relationship_with (codes "\"subject\":\"e1\",\"interestedParty\":\"p1\",\"interests\":" ++ interests)

-- one interest of voting rights with this share
abbrev with_share : List ℕ → List ℕ
with_share share = interests_of_file (codes "[{\"type\":\"votingRights\",\"share\":" ++ share ++ codes "}]")

-- the ends and the array, each alone and each with its neighbours
end_lines : AreFound (
    (relationship_with (codes "\"subject\":\"e1\",\"interestedParty\":\"p1\""), [])
    ∷ (relationship_with (codes "\"subject\":\"e1\",\"interestedParty\":\"p1\",\"interests\":null"), [])
    ∷ (relationship_with (codes "\"subject\":\"e1\",\"interestedParty\":\"p1\",\"interests\":[]"), [])
    ∷ (relationship_with (codes "\"subject\":{},\"interestedParty\":{\"reason\":\"noBeneficialOwners\"}"), [])
    ∷ (relationship_with (codes "\"interestedParty\":\"p1\""), Missing fields.Subject ∷ [])
    ∷ (relationship_with (codes "\"subject\":null,\"interestedParty\":\"p1\""), Missing fields.Subject ∷ [])
    ∷ (relationship_with (codes "\"subject\":\"\",\"interestedParty\":\"p1\""), Bad fields.Subject ∷ [])
    ∷ (relationship_with (codes "\"subject\":[\"e1\"],\"interestedParty\":\"p1\""), Bad fields.Subject ∷ [])
    ∷ (relationship_with (codes "\"subject\":\"e1\""), Missing fields.InterestedParty ∷ [])
    ∷ (relationship_with (codes "\"subject\":\"e1\",\"interestedParty\":null"), Missing fields.InterestedParty ∷ [])
    ∷ (relationship_with (codes "\"subject\":\"e1\",\"interestedParty\":7"), Bad fields.InterestedParty ∷ [])
    ∷ (relationship_with (codes "\"subject\":\"e1\",\"interestedParty\":\"p1\",\"interests\":{}"), Bad fields.Interests ∷ [])
    ∷ (relationship_with (codes "\"subject\":\"e1\",\"interestedParty\":\"p1\",\"interests\":[7]"), Bad fields.Interests ∷ [])
    ∷ (relationship_with (codes ""), Missing fields.Subject ∷ Missing fields.InterestedParty ∷ [])
    ∷ (relationship_with (codes "\"subject\":7,\"interestedParty\":[]"), Bad fields.Subject ∷ Bad fields.InterestedParty ∷ [])
    ∷ (relationship_with (codes "\"subject\":\"e1\",\"interestedParty\":true,\"interests\":7"), Bad fields.InterestedParty ∷ Bad fields.Interests ∷ [])
    ∷ (relationship_with (codes "\"subject\":\"e1\",\"interests\":[7]"), Missing fields.InterestedParty ∷ Bad fields.Interests ∷ [])
    ∷ (relationship_with (codes "\"subject\":\"e1\",\"interestedParty\":\"\",\"interests\":[{\"type\":\"votingRights\",\"share\":7}]"), Bad fields.InterestedParty ∷ Bad fields.Share ∷ [])
    ∷ [])
unfolding reader
end_lines = refl

-- the interests one after the other; the share is looked at where the type is one of three
each_interest : AreFound (
    (interests_of_file (codes "[{},{\"type\":null},{\"type\":\"votingRights\"},{\"type\":\"votingRights\",\"share\":null},{\"type\":\"votingRights\",\"share\":{}}]"), [])
    ∷ (interests_of_file (codes "[{\"type\":\"seniorManagingOfficial\",\"share\":{\"exact\":25.5}},{\"type\":7,\"share\":7},{\"share\":[]}]"), [])
    ∷ (interests_of_file (codes "[{\"type\":\"shareholding\",\"share\":7}]"), Bad fields.Share ∷ [])
    ∷ (interests_of_file (codes "[{\"type\":\"votingRights\",\"share\":[]}]"), Bad fields.Share ∷ [])
    ∷ (interests_of_file (codes "[{\"type\":\"appointmentOfBoard\",\"share\":\"25\"}]"), Bad fields.Share ∷ [])
    ∷ (interests_of_file (codes "[{\"type\":\"shareholding\",\"share\":[]},7]"), Bad fields.Share ∷ Bad fields.Interests ∷ [])
    ∷ (interests_of_file (codes "[null,{\"type\":\"votingRights\",\"share\":{\"exact\":25.0}}]"), Bad fields.Interests ∷ Fraction ∷ [])
    ∷ (interests_of_file (codes "[{\"type\":\"votingRights\",\"share\":{\"minimum\":2,\"maximum\":1}},{\"type\":\"shareholding\",\"share\":{\"exact\":101}}]"), EmptyShare ∷ ShareRange ∷ [])
    ∷ [])
unfolding reader
each_interest = refl

-- each line about each member of a share
members : AreFound (
    (with_share (codes "{\"exact\":25.0}"), Fraction ∷ [])
    ∷ (with_share (codes "{\"exact\":101}"), ShareRange ∷ [])
    ∷ (with_share (codes "{\"exact\":\"25\"}"), Bad fields.Exact ∷ [])
    ∷ (with_share (codes "{\"exact\":null}"), [])
    ∷ (with_share (codes "{\"exact\":true}"), Bad fields.Exact ∷ [])
    ∷ (with_share (codes "{\"exact\":false}"), Bad fields.Exact ∷ [])
    ∷ (with_share (codes "{\"minimum\":25.0}"), Fraction ∷ [])
    ∷ (with_share (codes "{\"minimum\":101}"), ShareRange ∷ [])
    ∷ (with_share (codes "{\"minimum\":\"25\"}"), Bad fields.Minimum ∷ [])
    ∷ (with_share (codes "{\"minimum\":null}"), [])
    ∷ (with_share (codes "{\"minimum\":true}"), Bad fields.Minimum ∷ [])
    ∷ (with_share (codes "{\"minimum\":false}"), Bad fields.Minimum ∷ [])
    ∷ (with_share (codes "{\"maximum\":25.0}"), Fraction ∷ [])
    ∷ (with_share (codes "{\"maximum\":101}"), ShareRange ∷ [])
    ∷ (with_share (codes "{\"maximum\":\"25\"}"), Bad fields.Maximum ∷ [])
    ∷ (with_share (codes "{\"maximum\":null}"), [])
    ∷ (with_share (codes "{\"maximum\":true}"), Bad fields.Maximum ∷ [])
    ∷ (with_share (codes "{\"maximum\":false}"), Bad fields.Maximum ∷ [])
    ∷ (with_share (codes "{\"exclusiveMinimum\":25.0}"), Fraction ∷ [])
    ∷ (with_share (codes "{\"exclusiveMinimum\":101}"), ShareRange ∷ [])
    ∷ (with_share (codes "{\"exclusiveMinimum\":\"25\"}"), Bad fields.ExclusiveMinimum ∷ [])
    ∷ (with_share (codes "{\"exclusiveMinimum\":null}"), [])
    ∷ (with_share (codes "{\"exclusiveMinimum\":true}"), [])
    ∷ (with_share (codes "{\"exclusiveMinimum\":false}"), [])
    ∷ (with_share (codes "{\"exclusiveMaximum\":25.0}"), Fraction ∷ [])
    ∷ (with_share (codes "{\"exclusiveMaximum\":101}"), ShareRange ∷ [])
    ∷ (with_share (codes "{\"exclusiveMaximum\":\"25\"}"), Bad fields.ExclusiveMaximum ∷ [])
    ∷ (with_share (codes "{\"exclusiveMaximum\":null}"), [])
    ∷ (with_share (codes "{\"exclusiveMaximum\":true}"), [])
    ∷ (with_share (codes "{\"exclusiveMaximum\":false}"), [])
    ∷ [])
unfolding reader
members = refl

-- each with the next; of no points where a member fails nothing is said
member_pairs : AreFound (
    (with_share (codes "{\"minimum\":\"\",\"exact\":{}}"), Bad fields.Exact ∷ Bad fields.Minimum ∷ [])
    ∷ (with_share (codes "{\"maximum\":\"\",\"minimum\":{}}"), Bad fields.Minimum ∷ Bad fields.Maximum ∷ [])
    ∷ (with_share (codes "{\"exclusiveMinimum\":\"\",\"maximum\":{}}"), Bad fields.Maximum ∷ Bad fields.ExclusiveMinimum ∷ [])
    ∷ (with_share (codes "{\"exclusiveMaximum\":\"\",\"exclusiveMinimum\":{}}"), Bad fields.ExclusiveMinimum ∷ Bad fields.ExclusiveMaximum ∷ [])
    ∷ (with_share (codes "{\"exact\":1e2,\"minimum\":101}"), Fraction ∷ ShareRange ∷ [])
    ∷ (with_share (codes "{\"minimum\":-1,\"maximum\":0.5}"), ShareRange ∷ Fraction ∷ [])
    ∷ (with_share (codes "{\"maximum\":1.5,\"exclusiveMinimum\":200}"), Fraction ∷ ShareRange ∷ [])
    ∷ (with_share (codes "{\"exclusiveMinimum\":200,\"exclusiveMaximum\":1.5}"), ShareRange ∷ Fraction ∷ [])
    ∷ (with_share (codes "{\"exclusiveMinimum\":100}"), EmptyShare ∷ [])
    ∷ (with_share (codes "{\"exclusiveMinimum\":100,\"exclusiveMaximum\":7.5}"), Fraction ∷ [])
    ∷ (with_share (codes "{\"minimum\":101,\"exclusiveMinimum\":100}"), ShareRange ∷ [])
    ∷ (with_share (codes "{\"exact\":10,\"minimum\":200,\"maximum\":[],\"exclusiveMinimum\":100}"), ShareRange ∷ Bad fields.Maximum ∷ [])
    ∷ [])
unfolding reader
member_pairs = refl

-- numerals at their edges
numerals : AreFound (
    (with_share (codes "{\"exact\":0}"), [])
    ∷ (with_share (codes "{\"exact\":100}"), [])
    ∷ (with_share (codes "{\"exact\":1e2}"), Fraction ∷ [])
    ∷ (with_share (codes "{\"exact\":25.5}"), Fraction ∷ [])
    ∷ (with_share (codes "{\"exact\":-0}"), Fraction ∷ [])
    ∷ (with_share (codes "{\"exact\":18446744073709551616}"), Fraction ∷ [])
    ∷ (with_share (codes "{\"exact\":-9223372036854775809}"), Fraction ∷ [])
    ∷ (with_share (codes "{\"exact\":18446744073709551615}"), ShareRange ∷ [])
    ∷ (with_share (codes "{\"exact\":-9223372036854775808}"), ShareRange ∷ [])
    ∷ (with_share (codes "{\"exact\":-1}"), ShareRange ∷ [])
    ∷ [])
unfolding reader
numerals = refl

-- ---- what shares read as

-- the ranges of the interests of a relationship
abbrev ranges_of : Details → List (Option Range)
ranges_of (Entity kind name identifiers) = []
ranges_of (Person kind name) = []
ranges_of (Relationship subject party interests) = map (λ i. i.share) interests

abbrev ranges_in : List Statement → List (Option Range)
ranges_in [] = []
ranges_in (s ∷ ss) = ranges_of s.details

abbrev ranges_read : Result (List Statement) FileFault → Result (List (Option Range)) FileFault
ranges_read (Ok statements) = Ok (ranges_in statements)
ranges_read (Err fault) = Err fault

-- both spellings of open ends, alone, beside a bound, and beside an exact share
abbrev shares : List (List ℕ × Result (List (Option Range)) FileFault)
shares =
    (with_share (codes "{\"minimum\":50,\"exclusiveMinimum\":50}"), Ok (Some (range 50 true 100 false) ∷ []))
    ∷ (with_share (codes "{\"minimum\":60,\"exclusiveMinimum\":50}"), Ok (Some (range 60 false 100 false) ∷ []))
    ∷ (with_share (codes "{\"minimum\":40,\"exclusiveMinimum\":50,\"maximum\":51,\"exclusiveMaximum\":true}"), Ok (Some (range 50 true 51 true) ∷ []))
    ∷ (with_share (codes "{\"exclusiveMinimum\":true}"), Ok (Some (range 0 false 100 false) ∷ []))
    ∷ (with_share (codes "{}"), Ok (Some (range 0 false 100 false) ∷ []))
    ∷ (with_share (codes "{\"exact\":10,\"minimum\":60,\"maximum\":20}"), Ok (Some (range 10 false 10 false) ∷ []))
    ∷ (with_share (codes "{\"exact\":10,\"minimum\":200}"), Err (At 1 ShareRange))
    ∷ (with_share (codes "{\"exclusiveMaximum\":0}"), Err (At 1 EmptyShare))
    ∷ (with_share (codes "{\"exclusiveMinimum\":100}"), Err (At 1 EmptyShare))
    ∷ (with_share (codes "{\"minimum\":50,\"exclusiveMinimum\":true,\"maximum\":50}"), Err (At 1 EmptyShare))
    ∷ (with_share (codes "{\"minimum\":50,\"exclusiveMaximum\":50}"), Err (At 1 EmptyShare))
    ∷ (with_share (codes "{\"minimum\":true}"), Err (At 1 (Bad fields.Minimum)))
    ∷ (with_share (codes "[]"), Err (At 1 (Bad fields.Share)))
    ∷ (with_share (codes "{\"minimum\":50,\"exclusiveMinimum\":true}"), Ok (Some (range 50 true 100 false) ∷ []))
    ∷ (with_share (codes "{\"exclusiveMinimum\":50}"), Ok (Some (range 50 true 100 false) ∷ []))
    ∷ (with_share (codes "{\"minimum\":50,\"exclusiveMinimum\":false}"), Ok (Some (range 50 false 100 false) ∷ []))
    ∷ (with_share (codes "{\"maximum\":50,\"exclusiveMaximum\":50}"), Ok (Some (range 0 false 50 true) ∷ []))
    ∷ (with_share (codes "{\"maximum\":40,\"exclusiveMaximum\":50}"), Ok (Some (range 0 false 40 false) ∷ []))
    ∷ (with_share (codes "{\"maximum\":60,\"exclusiveMaximum\":50}"), Ok (Some (range 0 false 50 true) ∷ []))
    ∷ (with_share (codes "{\"maximum\":50,\"exclusiveMaximum\":false}"), Ok (Some (range 0 false 50 false) ∷ []))
    ∷ (with_share (codes "{\"exclusiveMaximum\":true}"), Ok (Some (range 0 false 100 false) ∷ []))
    ∷ (with_share (codes "{\"exact\":10,\"exclusiveMinimum\":true,\"exclusiveMaximum\":0}"), Ok (Some (range 10 false 10 false) ∷ []))
    ∷ (with_share (codes "{\"exclusiveMinimum\":50,\"maximum\":51,\"exclusiveMaximum\":true}"), Ok (Some (range 50 true 51 true) ∷ []))
    ∷ (with_share (codes "{\"minimum\":50,\"maximum\":50}"), Ok (Some (range 50 false 50 false) ∷ []))
    ∷ []

shares_are : map (λ c. ranges_read (reading c.0)) shares ≡ map (λ c. c.1) shares
unfolding reader
shares_are = refl

-- ---- what members read as

-- the records of the statements that a file reads as, seen by view
abbrev read_as : {X : Type 0} → (Statement → X) → Result (List Statement) FileFault → Result (List X) FileFault
read_as view (Ok statements) = Ok (map view statements)
read_as view (Err fault) = Err fault

-- the three words of recordStatus, null, and none
statuses_read : map (λ more. read_as (λ s. s.status) (reading (entity_and more)))
    (codes ",\"recordStatus\":\"new\"" ∷ codes ",\"recordStatus\":\"updated\"" ∷ codes ",\"recordStatus\":\"closed\"" ∷ codes ",\"recordStatus\":null" ∷ codes "" ∷ [])
    ≡ map (λ status. Ok (status ∷ [])) (Some statuses.New ∷ Some statuses.Updated ∷ Some statuses.Closed ∷ None ∷ None ∷ [])
unfolding reader
statuses_read = refl

-- ---- what details read as

-- the name of an entity is a text, an empty one too; a number, null and nothing are no name
entity_names : map (λ name. read_as (λ s. s.details) (reading (entity_and (codes ",\"recordDetails\":{" ++ name ++ codes "}"))))
    (codes "\"name\":\"Alder\"" ∷ codes "\"name\":\"\"" ∷ codes "\"name\":7" ∷ codes "\"name\":null" ∷ codes "" ∷ [])
    ≡ map (λ name. Ok (Entity entities.Other name [] ∷ [])) (Some (codes "Alder") ∷ Some [] ∷ None ∷ None ∷ None ∷ [])
unfolding reader
entity_names = refl

-- a person statement with these names
abbrev person_named : List ℕ → List ℕ
person_named names =
    codes "[{\"statementId\":\"s1\",\"statementDate\":\"2024-01-10\",\"declarationSubject\":\"c1\",\"recordId\":\"p1\",\"recordType\":\"person\",\"recordDetails\":{\"names\":" ++ names ++ codes "}}]"

-- the first of the names counts, one without a full name too
person_names : map (λ names. read_as (λ s. s.details) (reading (person_named names)))
    (codes "[{\"fullName\":\"Ann\"},{\"fullName\":\"Bo\"}]" ∷ codes "[{},{\"fullName\":\"Bo\"}]" ∷ codes "[{\"fullName\":7},{\"fullName\":\"Bo\"}]" ∷ codes "[null,{\"fullName\":\"Bo\"}]" ∷ codes "[]" ∷ codes "{\"fullName\":\"Ann\"}" ∷ [])
    ≡ map (λ name. Ok (Person persons.Other name ∷ [])) (Some (codes "Ann") ∷ None ∷ None ∷ None ∷ None ∷ None ∷ [])
unfolding reader
person_names = refl

-- identifiers without both texts are passed over, and so is what is no object
identifiers_kept : read_as (λ s. s.details) (reading (identifiers_as (codes "7,null,{},[],{\"scheme\":\"GB-COH\",\"id\":\"00000001\"},{\"scheme\":\"GB-COH\"},{\"id\":\"2\"},{\"scheme\":\"\",\"id\":\"3\"},{\"scheme\":\"X\",\"id\":\"\"},{\"scheme\":7,\"id\":\"4\"},{\"scheme\":\"X\",\"id\":null},{\"id\":\"5\",\"scheme\":\"X\",\"uri\":null}")))
    ≡ Ok (Entity entities.Other None (identifier (codes "GB-COH") (codes "00000001") ∷ identifier (codes "X") (codes "5") ∷ []) ∷ [])
unfolding reader
identifiers_kept = refl

-- days of an interest: a day, a month, a year; what is no readable text is passed over
periods_read : read_as (λ s. s.details) (reading (relationship_with (codes "\"subject\":\"e1\",\"interestedParty\":{},\"interests\":[{\"startDate\":\"2024-02-01\",\"endDate\":\"2024-02\"},{\"startDate\":\"2024\",\"endDate\":2024},{\"startDate\":\"2024-02-30\",\"endDate\":null}]")))
    ≡ Ok (Relationship (Some (codes "e1")) None (record { kind = interests.Other; directness = directness.Unknown; share = None; starts = start_of (codes "2024-02-01"); ends = end_of (codes "2024-02") }
    ∷ record { kind = interests.Other; directness = directness.Unknown; share = None; starts = start_of (codes "2024"); ends = None }
    ∷ record { kind = interests.Other; directness = directness.Unknown; share = None; starts = None; ends = None } ∷ []) ∷ [])
unfolding reader
periods_read = refl

-- an object at an end names no record; interests come in order, and shares of other types aren't read
relationship_read : read_as (λ s. s.details) (reading (relationship_with (codes "\"subject\":\"e1\",\"interestedParty\":{\"reason\":\"noBeneficialOwners\"},\"interests\":[{\"type\":\"seniorManagingOfficial\",\"share\":{\"exact\":25.5}},{\"type\":\"shareholding\",\"directOrIndirect\":\"direct\",\"share\":{\"exact\":5}},{\"type\":\"appointmentOfBoard\",\"directOrIndirect\":\"indirect\"}]")))
    ≡ Ok (Relationship (Some (codes "e1")) None (record { kind = interests.Other; directness = directness.Unknown; share = None; starts = None; ends = None }
    ∷ record { kind = interests.Shareholding; directness = directness.Direct; share = Some (range 5 false 5 false); starts = None; ends = None }
    ∷ record { kind = interests.AppointmentOfBoard; directness = directness.Indirect; share = None; starts = None; ends = None } ∷ []) ∷ [])
unfolding reader
relationship_read = refl

no_records : read_as (λ s. s.details) (reading (relationship_with (codes "\"subject\":{},\"interestedParty\":{},\"interests\":null")))
    ≡ Ok (Relationship None None [] ∷ [])
unfolding reader
no_records = refl

-- ---- places

-- of several statements each has its own place, and all lines about one come before those about the next
places : all_faults (codes "[7,null,[]]")
    ≡ Some (At 1 (Bad fields.Statement) ∷ At 2 (Bad fields.Statement) ∷ At 3 (Bad fields.Statement) ∷ [])
unfolding reader
places = refl

last_and_first : all_faults (codes "[{\"statementId\":\"s1\",\"statementDate\":\"2024-01-10\",\"declarationSubject\":\"c1\",\"recordId\":\"r1\",\"recordType\":\"relationship\",\"recordDetails\":{\"subject\":\"e1\",\"interestedParty\":\"p1\",\"interests\":[{\"type\":\"votingRights\",\"share\":{\"minimum\":2,\"maximum\":1}}]}},7]")
    ≡ Some (At 1 EmptyShare ∷ At 2 (Bad fields.Statement) ∷ [])
unfolding reader
last_and_first = refl

second_fault : reading (codes "[{\"statementId\":\"s1\",\"statementDate\":\"2024-01-10\",\"declarationSubject\":\"c1\",\"recordId\":\"e1\",\"recordType\":\"entity\",\"recordDetails\":{\"entityType\":{\"type\":\"registeredEntity\"}}},{}]") ≡ Err (At 2 (Missing fields.StatementId))
unfolding reader
second_fault = refl

-- ---- words

-- each word of the standard, another, and none
entity_words : map entity_worded (Some (codes "registeredEntity") ∷ Some (codes "legalEntity") ∷ Some (codes "arrangement") ∷ Some (codes "anonymousEntity") ∷ Some (codes "unknownEntity") ∷ Some (codes "state") ∷ Some (codes "stateBody") ∷ Some (codes "trust") ∷ None ∷ [])
    ≡ entities.RegisteredEntity ∷ entities.LegalEntity ∷ entities.Arrangement ∷ entities.AnonymousEntity ∷ entities.UnknownEntity ∷ entities.State ∷ entities.StateBody ∷ entities.Other ∷ entities.Other ∷ []
unfolding reader
entity_words = refl

person_words : map person_worded (Some (codes "knownPerson") ∷ Some (codes "anonymousPerson") ∷ Some (codes "unknownPerson") ∷ Some (codes "person") ∷ None ∷ [])
    ≡ persons.KnownPerson ∷ persons.AnonymousPerson ∷ persons.UnknownPerson ∷ persons.Other ∷ persons.Other ∷ []
unfolding reader
person_words = refl

interest_words : map interest_worded (Some (codes "shareholding") ∷ Some (codes "votingRights") ∷ Some (codes "appointmentOfBoard") ∷ Some (codes "seniorManagingOfficial") ∷ None ∷ [])
    ≡ interests.Shareholding ∷ interests.VotingRights ∷ interests.AppointmentOfBoard ∷ interests.Other ∷ interests.Other ∷ []
unfolding reader
interest_words = refl

directness_words : map directness_worded (Some (codes "direct") ∷ Some (codes "indirect") ∷ Some (codes "both") ∷ None ∷ [])
    ≡ directness.Direct ∷ directness.Indirect ∷ directness.Unknown ∷ directness.Unknown ∷ []
unfolding reader
directness_words = refl

type_words : map type_worded (codes "entity" ∷ codes "person" ∷ codes "relationship" ∷ codes "Entity" ∷ [])
    ≡ Some types.Entity ∷ Some types.Person ∷ Some types.Relationship ∷ None ∷ []
unfolding reader
type_words = refl

status_words : map status_worded (codes "new" ∷ codes "updated" ∷ codes "closed" ∷ codes "open" ∷ [])
    ≡ Some statuses.New ∷ Some statuses.Updated ∷ Some statuses.Closed ∷ None ∷ []
unfolding reader
status_words = refl

-- ---- a file that is read

-- an entity, a person, and the person's voting rights in the entity
abbrev pub worked_file : List ℕ
worked_file =
    codes "[{\"statementId\":\"s1\",\"statementDate\":\"2024-01-10\",\"declarationSubject\":\"c1\",\"recordId\":\"e1\",\"recordType\":\"entity\",\"recordDetails\":{\"entityType\":{\"type\":\"registeredEntity\"},\"name\":\"Alder Ltd\"}},{\"statementId\":\"s2\",\"statementDate\":\"2024-01-10\",\"declarationSubject\":\"c1\",\"recordId\":\"p1\",\"recordType\":\"person\",\"recordDetails\":{\"personType\":\"knownPerson\",\"names\":[{\"fullName\":\"Ann Moss\"}]}},{\"statementId\":\"s3\",\"statementDate\":\"2024-01-10\",\"declarationSubject\":\"c1\",\"recordId\":\"r1\",\"recordType\":\"relationship\",\"recordDetails\":{\"subject\":\"e1\",\"interestedParty\":\"p1\",\"interests\":[{\"type\":\"votingRights\",\"share\":{\"exact\":100}}]}}]"

abbrev pub worked_day : ℤ
worked_day = unwrap_or (number_of 2024 1 10) (pos 0)

abbrev pub worked_statements : List Statement
worked_statements =
    record {
      id = codes "s1";
      day = worked_day;
      declaration = codes "c1";
      rec = codes "e1";
      status = None;
      details = Entity entities.RegisteredEntity (Some (codes "Alder Ltd")) [];
    } ∷ record {
      id = codes "s2";
      day = worked_day;
      declaration = codes "c1";
      rec = codes "p1";
      status = None;
      details = Person persons.KnownPerson (Some (codes "Ann Moss"));
    } ∷ record {
      id = codes "s3";
      day = worked_day;
      declaration = codes "c1";
      rec = codes "r1";
      status = None;
      details = Relationship (Some (codes "e1")) (Some (codes "p1")) (record {
        kind = interests.VotingRights;
        directness = directness.Unknown;
        share = Some (record { low = 100; low_open = false; high = 100; high_open = false });
        starts = None;
        ends = None;
      } ∷ []);
    } ∷ []

pub worked_file-reading : reading worked_file ≡ Ok worked_statements
unfolding reader
worked_file-reading = refl
