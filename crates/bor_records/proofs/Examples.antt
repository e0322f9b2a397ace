-- The definitions beside worked statements: each refusal alone, each beside the next of the order, settled statuses, and what records say on the days around a closing.
use Rattle.std.proofs.Common.{◌≡◌, ℕ, ℤ, pos, List, [], ◌∷◌, Option, Some, None, Result, Ok, Err, codes, refl, false, true}
use Rattle.bods_read.specs.declared.statement.Statement.{Statement}
use Rattle.bods_read.specs.declared.statement.Status.{Status}
use Rattle.bods_read.specs.declared.statement.Status.TheVariants.{New, Updated, Closed}
use Rattle.bods_read.specs.declared.details.Details.{Details}
use Rattle.bods_read.specs.declared.details.Details.TheVariants.{Entity, Person}
use Rattle.bods_read.specs.declared.details.EntityKind.TheVariants.{RegisteredEntity}
use Rattle.bods_read.specs.declared.details.PersonKind.TheVariants.{KnownPerson}
use Rattle.bor_records.specs.declared.row.Row.{Row}
use Rattle.bor_records.specs.declared.row.Entry.{Entry}
use Rattle.bor_records.specs.declared.fault.RecordFault.{RecordFault}
use Rattle.bor_records.specs.declared.fault.RecordFault.TheVariants.{TypeChanged, RecordExists, RecordUnknown, RecordClosed, DateBack, DueBeforeRecord}
use Rattle.bor_records.specs.Admission.{Live, last_of, refusals, admitted}
use Rattle.bor_records.specs.Settling.{PlacedRefusal, statement_twice, by_record, all_refusals, settled}
use Rattle.bor_records.specs.Snapshot.{latest, latest_place, is_open, entry_of, snapshot}

-- ---- statements

-- 2024-01-10 and 2024-02-01
abbrev dated : ℤ
dated = pos 19732

abbrev today : ℤ
today = pos 19754

abbrev entity : Details
entity = Entity RegisteredEntity None []

-- of record e1 of declaration c1, dated 2024-01-10
abbrev e1 : List ℕ → Option Status → Statement
e1 id status = record { id = id; day = dated; declaration = codes "c1"; rec = codes "e1"; status = status; details = entity }

abbrev person : Statement → Statement
person s = record s { details = Person KnownPerson None }

-- dated 2024-01-09
abbrev before : Statement → Statement
before s = record s { day = pos 19731 }

abbrev live_on : ℤ → Statement → Live
live_on due s = record { statement = s; due = due }

-- an open record, and a closed one
abbrev opened : List Live
opened = live_on today (e1 (codes "s1") (Some New)) ∷ []

abbrev shut : List Live
shut = live_on today (e1 (codes "s1") (Some New)) ∷ live_on today (e1 (codes "s2") (Some Closed)) ∷ []

-- ---- each refusal alone

abbrev all_of : List Live → Statement → ℤ → List RecordFault
all_of live s due = refusals (last_of s.declaration s.rec live) s due

type_changed : all_of opened (person (e1 (codes "s2") None)) today ≡ TypeChanged ∷ []
type_changed = refl

record_exists : all_of opened (e1 (codes "s2") (Some New)) today ≡ RecordExists ∷ []
record_exists = refl

record_unknown : all_of [] (e1 (codes "s1") (Some Updated)) today ≡ RecordUnknown ∷ []
record_unknown = refl

record_unknown_closed : all_of [] (e1 (codes "s1") (Some Closed)) today ≡ RecordUnknown ∷ []
record_unknown_closed = refl

record_closed : all_of shut (e1 (codes "s3") (Some Updated)) today ≡ RecordClosed ∷ []
record_closed = refl

date_back : all_of opened (before (e1 (codes "s2") None)) today ≡ DateBack ∷ []
date_back = refl

due_before_record : all_of opened (e1 (codes "s2") None) (pos 19753) ≡ DueBeforeRecord ∷ []
due_before_record = refl

-- ---- each beside the next that can hold with it: the first is answered

abbrev IsFirst : List Live → Statement → ℤ → RecordFault → List RecordFault → Type 0
IsFirst live s due first others = (all_of live s due ≡ first ∷ others) × (admitted live s due ≡ Err first)

type_before_exists : IsFirst opened (person (e1 (codes "s2") (Some New))) today TypeChanged (RecordExists ∷ [])
type_before_exists = (refl, refl)

exists_before_closed : IsFirst shut (e1 (codes "s3") (Some New)) today RecordExists (RecordClosed ∷ [])
exists_before_closed = (refl, refl)

closed_before_date : IsFirst shut (before (e1 (codes "s3") None)) today RecordClosed (DateBack ∷ [])
closed_before_date = (refl, refl)

date_before_due : IsFirst opened (before (e1 (codes "s2") None)) (pos 19753) DateBack (DueBeforeRecord ∷ [])
date_before_due = (refl, refl)

-- RecordUnknown holds beside no other
unknown_alone : all_of [] (person (before (e1 (codes "s1") (Some Closed)))) (pos 0) ≡ RecordUnknown ∷ []
unknown_alone = refl

all_at_once : all_of shut (person (before (e1 (codes "s3") (Some New)))) (pos 0) ≡ TypeChanged ∷ RecordExists ∷ RecordClosed ∷ DateBack ∷ DueBeforeRecord ∷ []
all_at_once = refl

-- ---- settled statuses

left_out_first : admitted [] (e1 (codes "s1") None) today ≡ Ok New
left_out_first = refl

left_out_later : admitted opened (e1 (codes "s2") None) today ≡ Ok Updated
left_out_later = refl

left_out_after_closed : admitted shut (e1 (codes "s3") None) today ≡ Err RecordClosed
left_out_after_closed = refl

given_first : admitted [] (e1 (codes "s1") (Some New)) today ≡ Ok New
given_first = refl

given_closed : admitted opened (e1 (codes "s2") (Some Closed)) today ≡ Ok Closed
given_closed = refl

-- on the very day, and due on the very day, of the record's last
same_days : admitted opened (e1 (codes "s2") (Some Updated)) today ≡ Ok Updated
same_days = refl

-- another declaration's record of the same identifier is another record
other_declaration : admitted shut (person (record (e1 (codes "s3") None) { declaration = codes "c2" })) (pos 0) ≡ Ok New
other_declaration = refl

-- the last of the record's live statements counts, not the last of all
last_of_the_record : admitted (live_on today (e1 (codes "s1") (Some New)) ∷ live_on (pos 19800) (record (e1 (codes "s2") (Some New)) { rec = codes "e2" }) ∷ []) (e1 (codes "s3") None) today ≡ Ok Updated
last_of_the_record = refl

-- ---- files

abbrev file : List Live → List Statement → Result (List Statement) PlacedRefusal
file live statements = settled live today statements

exists_at_two : file [] (e1 (codes "s1") None ∷ e1 (codes "s2") (Some New) ∷ []) ≡ Err (record { place = 2; why = by_record RecordExists })
exists_at_two = refl

unknown_at_one : file [] (e1 (codes "s1") (Some Updated) ∷ []) ≡ Err (record { place = 1; why = by_record RecordUnknown })
unknown_at_one = refl

closed_at_three : file [] (e1 (codes "s1") None ∷ e1 (codes "s2") (Some Closed) ∷ e1 (codes "s3") (Some Updated) ∷ []) ≡ Err (record { place = 3; why = by_record RecordClosed })
closed_at_three = refl

date_back_at_two : file [] (e1 (codes "s1") None ∷ before (e1 (codes "s2") None) ∷ []) ≡ Err (record { place = 2; why = by_record DateBack })
date_back_at_two = refl

type_changed_at_two : file [] (e1 (codes "s1") None ∷ person (e1 (codes "s2") None) ∷ []) ≡ Err (record { place = 2; why = by_record TypeChanged })
type_changed_at_two = refl

twice_at_two : file [] (e1 (codes "s1") None ∷ record (e1 (codes "s1") None) { rec = codes "e2" } ∷ []) ≡ Err (record { place = 2; why = statement_twice })
twice_at_two = refl

-- due 2024-02-15, after a filing due 2024-03-01
due_before_at_one : settled (live_on (pos 19783) (e1 (codes "s1") (Some New)) ∷ []) (pos 19768) (e1 (codes "s2") None ∷ []) ≡ Err (record { place = 1; why = by_record DueBeforeRecord })
due_before_at_one = refl

-- the identifier is taken, and the record is of another type: the identifier comes first
twice_before_the_rules : all_refusals opened (person (e1 (codes "s1") None)) today ≡ statement_twice ∷ by_record TypeChanged ∷ []
twice_before_the_rules = refl

twice_before_the_rules-told : file opened (person (e1 (codes "s1") None) ∷ []) ≡ Err (record { place = 1; why = statement_twice })
twice_before_the_rules-told = refl

-- of two places the first
first_place : file [] (e1 (codes "s1") None ∷ person (e1 (codes "s2") None) ∷ e1 (codes "s1") None ∷ []) ≡ Err (record { place = 2; why = by_record TypeChanged })
first_place = refl

settled_file : file [] (e1 (codes "s1") None ∷ e1 (codes "s2") None ∷ []) ≡ Ok (e1 (codes "s1") (Some New) ∷ e1 (codes "s2") (Some Updated) ∷ [])
settled_file = refl

-- a record is opened, changed and closed in one file
closed_in_one : file [] (e1 (codes "s1") None ∷ e1 (codes "s2") None ∷ e1 (codes "s3") (Some Closed) ∷ []) ≡ Ok (e1 (codes "s1") (Some New) ∷ e1 (codes "s2") (Some Updated) ∷ e1 (codes "s3") (Some Closed) ∷ [])
closed_in_one = refl

-- ---- records on days

abbrev row : Status → Statement → Row
row status s = record { agent = codes "alder"; filing = 1; place = 1; status = status; statement = record s { status = Some status } }

-- dated 2024-01-12
abbrev later : Statement → Statement
later s = record s { day = pos 19734 }

abbrev first_row : Row
first_row = row New (e1 (codes "s1") None)

abbrev closing_row : Row
closing_row = row Closed (later (e1 (codes "s2") None))

-- opened on 2024-01-10 and closed on 2024-01-12
abbrev closing : List Row
closing = first_row ∷ closing_row ∷ []

day_before : latest (pos 19731) closing ≡ None
day_before = refl

first_day : latest dated closing ≡ Some first_row
first_day = refl

between : latest (pos 19733) closing ≡ Some first_row
between = refl

closing_day : latest (pos 19734) closing ≡ Some closing_row
closing_day = refl

closing_place : latest_place (pos 19734) closing ≡ Some 1
closing_place = refl

first_place_of_day : latest_place (pos 19733) closing ≡ Some 0
first_place_of_day = refl

-- the last in order of lodging counts, and not the one of the latest date
abbrev dated_back : List Row
dated_back = row New (later (e1 (codes "s1") None)) ∷ row Updated (e1 (codes "s2") None) ∷ []

last_lodged : latest_place (pos 19734) dated_back ≡ Some 1
last_lodged = refl

abbrev shown : ℤ → List Row → List Entry
shown day rows = snapshot (codes "c1") day rows

shown_before : shown (pos 19731) closing ≡ []
shown_before = refl

shown_between : shown (pos 19733) closing ≡ entry_of first_row ∷ []
shown_between = refl

shown_on_closing_day : shown (pos 19734) closing ≡ []
shown_on_closing_day = refl

shown_after_closing : shown (pos 19735) closing ≡ []
shown_after_closing = refl

open_between : is_open (codes "c1") (pos 19733) closing (codes "e1") ≡ true
open_between = refl

closed_since : is_open (codes "c1") (pos 19734) closing (codes "e1") ≡ false
closed_since = refl

-- two statements of one day: the later place
abbrev second_row : Row
second_row = row Updated (e1 (codes "s2") None)

two_of_one_day : shown dated (first_row ∷ second_row ∷ []) ≡ entry_of second_row ∷ []
two_of_one_day = refl

-- a record of the same identifier in another declaration stays open, and is shown there
abbrev other_row : Row
other_row = row New (record (e1 (codes "s3") None) { declaration = codes "c2" })

abbrev two_declarations : List Row
two_declarations = first_row ∷ other_row ∷ closing_row ∷ []

closed_in_one_declaration : shown (pos 19734) two_declarations ≡ []
closed_in_one_declaration = refl

open_in_the_other : snapshot (codes "c2") (pos 19734) two_declarations ≡ entry_of other_row ∷ []
open_in_the_other = refl

unknown_declaration : snapshot (codes "c3") dated two_declarations ≡ []
unknown_declaration = refl

-- in the order of bytes: capitals before small letters, and 10 before 9
abbrev named : List ℕ → Row
named rec = row New (record (e1 (codes "s1") None) { rec = rec })

by_bytes : shown dated (named (codes "e9") ∷ named (codes "e10") ∷ named (codes "E9") ∷ [])
    ≡ entry_of (named (codes "E9")) ∷ entry_of (named (codes "e10")) ∷ entry_of (named (codes "e9")) ∷ []
by_bytes = refl
