-- The members of an object, and the forms that a member may have to have.
use Rattle.std.specs.Prelude.{ℕ, ℤ, List, [], ◌∷◌, Option, Some, None, option_and_then, option_map}
use Rattle.std.specs.Prelude.{unwrap_or, is_some, length, nat_le, if◌then◌else◌}
use Rattle.serde_json.specs.Data.{Data, Items, no_items, item}
use Rattle.serde_json.specs.Find.{get, as_null, as_str, as_array, as_object}
use Rattle.bor_terms.specs.Texts.{is_ident}
use Rattle.bor_terms.specs.Day.{day_of}
use Rattle.bods_read.specs.declared.fault.Field.{Field}
use Rattle.bods_read.specs.declared.fault.Fault.{Fault}
use Rattle.bods_read.specs.declared.fault.Fault.TheVariants.{Missing, Bad, TooLong}
use Rattle.bods_read.specs.declared.statement.RecordType.{RecordType}
use Rattle.bods_read.specs.declared.statement.Status.{Status}
use Rattle.bods_read.specs.Words.{field_word, type_worded, status_worded}
use Rattle.bods_read.specs.Limits.{items_limit}
use Rattle.bods_read.specs.Outcome.{unless}

-- ---- the value of a member

-- null counts as absent (this register's profile)
abbrev pub present : Data → Option Data
present d = if is_some (as_null d) then None else Some d

-- the member of that name, unless it is absent; what is no object has no members
unfoldable pub member : List ℕ → Data → Option Data
member name d = option_and_then present (get name d)

-- ---- the forms: what a value stands for, where it is of the form

-- an identifier: a text of 1 to 255 bytes without control characters (this register's profile)
abbrev pub ident_text : List ℕ → Option (List ℕ)
ident_text text = if is_ident text then Some text else None

-- the identifier that a value is (this register's profile)
unfoldable pub ident_in : Data → Option (List ℕ)
ident_in d = option_and_then ident_text (as_str d)

-- a day: a text that begins with YYYY-MM-DD (BODS 0.4, statementDate; this register's profile)
unfoldable pub day_in : Data → Option ℤ
day_in d = option_and_then day_of (as_str d)

-- one of the three types of record (BODS 0.4, recordType)
unfoldable pub type_in : Data → Option RecordType
type_in d = option_and_then type_worded (as_str d)

-- one of the three statuses (BODS 0.4, recordStatus)
unfoldable pub status_in : Data → Option Status
status_in d = option_and_then status_worded (as_str d)

-- an object
unfoldable pub object_in : Data → Option Data
object_in d = if is_some (as_object d) then Some d else None

-- an end of a relationship: an identifier of a record, or an object, which names no record and
-- makes no link (BODS 0.4, subject, interestedParty; this register's profile)
unfoldable pub end_in : Data → Option (Option (List ℕ))
end_in d = if is_some (as_object d) then Some None else option_map Some (ident_in d)

-- ---- a required member of a form

-- the line about a required member: absent, it is missing; not of the form, it is bad
abbrev pub required_lines : {X : Type 0} → Field → (Data → Option X) → Option Data → List Fault
required_lines field form None = Missing field ∷ []
required_lines field form (Some d) = unless (is_some (form d)) (Bad field)

-- it is missing where it is absent, and bad where it isn't of the form
abbrev pub required : {X : Type 0} → Field → (Data → Option X) → Data → List Fault
required field form d = required_lines field form (member (field_word field) d)

-- the value that it stands for; where a fault stands, any value
abbrev pub required_value : {X : Type 0} → Field → (Data → Option X) → X → Data → X
required_value field form any d = unwrap_or (option_and_then form (member (field_word field) d)) any

-- ---- a member of a form that may be absent

-- the line about a member that may be absent: not of the form, it is bad
abbrev pub optional_lines : {X : Type 0} → Field → (Data → Option X) → Option Data → List Fault
optional_lines field form None = []
optional_lines field form (Some d) = unless (is_some (form d)) (Bad field)

-- it is bad where it is present and isn't of the form
abbrev pub optional : {X : Type 0} → Field → (Data → Option X) → Data → List Fault
optional field form d = optional_lines field form (member (field_word field) d)

-- the value that it stands for, if it is there
abbrev pub optional_value : {X : Type 0} → Field → (Data → Option X) → Data → Option X
optional_value field form d = option_and_then form (member (field_word field) d)

-- ---- members that are read without a fault

-- the text of a member, where it is one
abbrev pub member_text : List ℕ → Data → Option (List ℕ)
member_text name d = option_and_then as_str (member name d)

-- items as a list
abbrev pub listed : Items → List Data
listed no_items = []
listed (item d ds) = d ∷ listed ds

-- the items of an array
unfoldable pub items_in : Data → Option (List Data)
items_in d = option_map listed (as_array d)

-- ---- a member that is an array of so many items at most (this register's profile)

-- a longer array is too long, whatever its items are
abbrev pub length_lines : Field → Option (List Data) → List Fault
length_lines field None = Bad field ∷ []
length_lines field (Some ds) = unless (nat_le (length ds) items_limit) (TooLong field)

-- where it is absent, nothing is asked
abbrev pub array_lines : Field → Option Data → List Fault
array_lines field None = []
array_lines field (Some d) = length_lines field (items_in d)

-- it is bad where it is present and no array
abbrev pub array : Field → Data → List Fault
array field d = array_lines field (member (field_word field) d)

-- of a longer array no items are looked at
abbrev pub within_limit : List Data → List Data
within_limit ds = if nat_le (length ds) items_limit then ds else []

-- the items that are looked at
abbrev pub array_items : Field → Data → List Data
array_items field d =
    within_limit (unwrap_or (option_and_then items_in (member (field_word field) d)) [])
