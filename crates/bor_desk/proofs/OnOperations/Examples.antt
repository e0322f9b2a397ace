-- Operations on worked instances: their answers and the registers after them, what agents see, and which registers are legal.
use Rattle.std.proofs.Common.{◌≡◌, ℕ, ℤ, pos, List, [], ◌∷◌, ◌++◌, replicate, Bool, Result, Ok, Err, codes, refl, map, true, false, Some, None, Option, sym, ◌∙◌, ap, arith}
use Rattle.std.specs.Prelude.{filter}
use Rattle.std.specs.Fmt.{digits}
use Rattle.std.proofs.lemmas.List.{length-replicate}
use Rattle.bods_read.specs.declared.statement.Statement.{Statement}
use Rattle.bods_read.specs.declared.statement.Status.TheVariants.{New, Updated}
use Rattle.bods_read.specs.declared.fault.Field.TheVariants as fields
use Rattle.bods_read.specs.declared.fault.Fault.TheVariants.{Missing}
use Rattle.bods_read.specs.declared.fault.FileFault.TheVariants.{NotAList, At}
use Rattle.bods_read.specs.File.{reading}
use Rattle.bods_read.proofs.Examples.{worked_file, worked_statements, worked_file-reading, reader}
use Rattle.bor_records.specs.Settling.{as_settled}
use Rattle.bor_records.specs.declared.fault.RecordFault.TheVariants.{RecordExists, RecordUnknown}
use Rattle.bor_register.specs.declared.filing.AcceptedFiling.{AcceptedFiling}
use Rattle.bor_register.specs.declared.filing.State.{State}
use Rattle.bor_register.specs.declared.filing.State.TheVariants as states
use Rattle.bor_register.specs.Register.{Register, with_filings, caller_of, new_member, filings_of, empty_register}
use Rattle.bor_register.proofs.Examples.{two_agents, today, tomorrow, entity, first, second}
use Rattle.bor_register.specs.Live.{accepted, live_of}
use Rattle.bor_register.specs.Publication.{published, outward, is_published}
use Rattle.bor_register.specs.Withdrawal.{as_withdrawn}
use Rattle.bor_desk.specs.declared.operations.fault.LodgeFault.{LodgeFault}
use Rattle.bor_desk.specs.declared.operations.fault.LodgeFault.TheVariants.{KeyReused, FilingsFull, DuePast, Read, StatementTwice, Record}
use Rattle.bor_desk.specs.declared.operations.lodging.Lodged.{Lodged}
use Rattle.bor_desk.specs.Operations.Lodging.{settled_reading, lodge_step}
use Rattle.bor_register.specs.declared.filing.FilingLine.{FilingLine}
use Rattle.bor_desk.specs.declared.operations.fault.WithdrawFault.{WithdrawFault}
use Rattle.bor_desk.specs.declared.operations.fault.WithdrawFault.TheVariants.{NoSuchFiling, Published, HasSuccessor}
use Rattle.bor_desk.specs.Operations.Withdrawing.{withdraw_step}
use Rattle.bor_register.specs.declared.member.Member.{Member}
use Rattle.bor_register.specs.declared.caller.Caller.TheVariants.{Agent}
use Rattle.bor_desk.specs.declared.operations.fault.AdvanceFault.TheVariants.{DayBack}
use Rattle.bor_desk.specs.declared.operations.fault.EnrolFault.{EnrolFault}
use Rattle.bor_desk.specs.declared.operations.fault.EnrolFault.TheVariants.{NameTaken, TokenTaken}
use Rattle.bor_desk.specs.Operations.Sight.{Outcome, seen_by, sight_of}
use Rattle.bor_desk.specs.declared.operations.fault.RenewFault.{RenewFault}
use Rattle.bor_desk.specs.declared.operations.fault.RenewFault.TheVariants as renews
use Rattle.bor_desk.specs.Operations.Registrar.{advance_step, enrol_step, renew_step}
use Rattle.bor_records.specs.declared.row.Row.{Row}
use Rattle.bor_records.specs.Admission.{Live}
use Rattle.bor_register.specs.declared.filing.Outward.{Outward}
use Rattle.bor_desk.specs.Operations.Solo.{published_beside, alone}
use Rattle.bor_desk.specs.Operations.Laws.{live_series}
use Rattle.bods_read.specs.declared.statement.Status.{Status}
use Rattle.bor_desk.specs.Operations.Legality.{IsLegal}
use Rattle.bor_desk.proofs.OnOperations.Legality.{none_legal}

-- Answers to lodgings, and the registers after them: the worked file, each refusal, each pair of neighbours in the order of the refusals where both hold, and the answer to a repeat.

-- ---- the register

-- alder's filings in the register of alder and birch are these
abbrev pub with_own : ℤ → List AcceptedFiling → Register
with_own day filings = record (two_agents day) { members = with_filings (codes "alder") filings (two_agents day).members }

-- 2024-01-31
abbrev pub yesterday : ℤ
yesterday = pos 19753

-- what alder is answered, and what is left
abbrev lodged : Register → List ℕ → ℤ → List ℕ → Result Lodged LodgeFault
lodged r key due bytes = (lodge_step r (codes "alder") key due bytes).answer

abbrev left : Register → List ℕ → ℤ → List ℕ → Register
left r key due bytes = (lodge_step r (codes "alder") key due bytes).register

abbrev answer : ℕ → ℤ → State → Bool → Result Lodged LodgeFault
answer number due state fresh = Ok (record { number = number; due = due; state = state; fresh = fresh })

-- ---- the worked file

-- its statements, each the first of its record
abbrev pub settled_file : List Statement
settled_file = map (as_settled New) worked_statements

pub settled-worked : settled_reading [] today (reading worked_file) ≡ Ok settled_file
settled-worked = rw worked_file-reading refl

-- alder's filing of the worked file, due today
abbrev pub first_filing : AcceptedFiling
first_filing = accepted [] (codes "f1") today worked_file settled_file

abbrev pub after_lodging : Register
after_lodging = with_own today (first_filing ∷ [])

told : lodged (two_agents today) (codes "f1") today worked_file ≡ answer 1 today states.Published true
told = rw worked_file-reading refl

filed : left (two_agents today) (codes "f1") today worked_file ≡ after_lodging
filed = rw worked_file-reading refl

-- due a day later it is a draft
told_draft : lodged (two_agents today) (codes "f1") tomorrow worked_file ≡ answer 1 tomorrow states.Draft true
told_draft = rw worked_file-reading refl

filed_draft : left (two_agents today) (codes "f1") tomorrow worked_file ≡ with_own today (record first_filing { due = tomorrow } ∷ [])
filed_draft = rw worked_file-reading refl

-- what all see of it, on its due day and the day before
seen : published today after_lodging.members ≡ outward (codes "alder") first_filing ∷ []
seen = refl

unseen : published yesterday after_lodging.members ≡ []
unseen = refl

-- another agent may use the same key and the same identifiers
by_another : (lodge_step after_lodging (codes "birch") (codes "f1") today worked_file).answer ≡ answer 1 today states.Published true
by_another = rw worked_file-reading refl

-- a withdrawn filing has no statements, and keeps its number and its key
abbrev pub withdrawn_filing : AcceptedFiling
withdrawn_filing = as_withdrawn first_filing

after_withdrawn : lodged (with_own today (withdrawn_filing ∷ [])) (codes "f2") today worked_file ≡ answer 2 today states.Published true
after_withdrawn = rw worked_file-reading refl

-- ---- other files

-- an entity statement of record e1 with this identifier, and what follows it
abbrev statement_text : List ℕ → List ℕ → List ℕ
statement_text id more =
    codes "{\"statementId\":\"" ++ id ++ codes "\",\"statementDate\":\"2024-01-10\",\"declarationSubject\":\"c1\",\"recordId\":\"e1\",\"recordType\":\"entity\",\"recordDetails\":{}" ++ more ++ codes "}"

abbrev saying : List ℕ → List ℕ
saying status = codes ",\"recordStatus\":\"" ++ status ++ codes "\""

abbrev file_of : List ℕ → List ℕ → List ℕ
file_of id more = codes "[" ++ statement_text id more ++ codes "]"

abbrev file_of_two : List ℕ → List ℕ → List ℕ
file_of_two first second = codes "[" ++ first ++ codes "," ++ second ++ codes "]"

-- ---- each refusal, and each with the next

-- the key with other bytes, and with another due day
other_bytes : lodged after_lodging (codes "f1") today (codes "{}") ≡ Err KeyReused
other_bytes = refl

other_due : lodged after_lodging (codes "f1") tomorrow worked_file ≡ Err KeyReused
other_due = refl

earlier_due : lodged after_lodging (codes "f1") yesterday worked_file ≡ Err KeyReused
earlier_due = refl

-- so many withdrawn filings with the key f1
abbrev filings : ℕ → Register
filings n = with_own today (replicate n withdrawn_filing)

reused_and_full : lodged (filings 999) (codes "f1") yesterday (codes "{}") ≡ Err KeyReused
reused_and_full = refl

full : lodged (filings 999) (codes "f2") today worked_file ≡ Err FilingsFull
full = refl

not_full : lodged (filings 998) (codes "f2") today worked_file ≡ answer 999 today states.Published true
not_full = rw worked_file-reading refl

full_and_past : lodged (filings 999) (codes "f2") yesterday (codes "{}") ≡ Err FilingsFull
full_and_past = refl

past : lodged (two_agents today) (codes "f1") yesterday worked_file ≡ Err DuePast
past = refl

past_and_unread : lodged (two_agents today) (codes "f1") yesterday (codes "{}") ≡ Err DuePast
past_and_unread = refl

unread : lodged (two_agents today) (codes "f1") today (codes "{}") ≡ Err (Read NotAList)
unfolding reader
unread = refl

-- its first identifier is taken, and its second statement isn't read
unread_and_taken : lodged after_lodging (codes "f2") today (file_of_two (statement_text (codes "s1") []) (codes "{}")) ≡ Err (Read (At 2 (Missing fields.StatementId)))
unfolding reader
unread_and_taken = refl

-- the worked file under another key: its first identifier is taken
taken : lodged after_lodging (codes "f2") today worked_file ≡ Err (StatementTwice 1)
taken = rw worked_file-reading refl

-- an identifier that comes twice in a file
twice : lodged (two_agents today) (codes "f1") today (file_of_two (statement_text (codes "s1") []) (statement_text (codes "s1") [])) ≡ Err (StatementTwice 2)
unfolding reader
twice = refl

-- the identifier is taken, and the record has a live statement
taken_and_existing : lodged after_lodging (codes "f2") today (file_of (codes "s1") (saying (codes "new"))) ≡ Err (StatementTwice 1)
unfolding reader
taken_and_existing = refl

existing : lodged after_lodging (codes "f2") today (file_of (codes "s4") (saying (codes "new"))) ≡ Err (Record 1 RecordExists)
unfolding reader
existing = refl

-- a first statement that says it is a later one
unknown : lodged (two_agents today) (codes "f1") today (file_of (codes "s1") (saying (codes "updated"))) ≡ Err (Record 1 RecordUnknown)
unfolding reader
unknown = refl

-- the first place counts, whatever it is refused for
first_place : lodged after_lodging (codes "f2") today (file_of_two (statement_text (codes "s4") (saying (codes "new"))) (statement_text (codes "s1") [])) ≡ Err (Record 1 RecordExists)
unfolding reader
first_place = refl

-- a refusal leaves the register
refused_left : left after_lodging (codes "f2") today worked_file ≡ after_lodging
refused_left = rw worked_file-reading refl

reused_left : left after_lodging (codes "f1") tomorrow worked_file ≡ after_lodging
reused_left = refl

-- ---- a repeat

-- alder's draft of the worked file, after a withdrawn filing
abbrev draft : AcceptedFiling
draft = accepted (withdrawn_filing ∷ []) (codes "f2") tomorrow worked_file settled_file

abbrev with_draft : ℤ → Register
with_draft day = with_own day (withdrawn_filing ∷ draft ∷ [])

repeated_draft : lodged (with_draft today) (codes "f2") tomorrow worked_file ≡ answer 2 tomorrow states.Draft false
repeated_draft = refl

-- once it is published, on its due day and after it
repeated_published : lodged (with_draft tomorrow) (codes "f2") tomorrow worked_file ≡ answer 2 tomorrow states.Published false
repeated_published = refl

repeated_later : lodged (with_draft (pos 19756)) (codes "f2") tomorrow worked_file ≡ answer 2 tomorrow states.Published false
repeated_later = refl

repeated_withdrawn : lodged (with_draft today) (codes "f1") today worked_file ≡ answer 1 today states.Withdrawn false
repeated_withdrawn = refl

repeated_left : left (with_draft tomorrow) (codes "f2") tomorrow worked_file ≡ with_draft tomorrow
repeated_left = refl

-- where no other filing has room
repeated_full : lodged (filings 999) (codes "f1") today worked_file ≡ answer 1 today states.Withdrawn false
repeated_full = refl

-- Answers to withdrawals, and the registers after them: each refusal, each pair of neighbours in their order where both hold, and a filing that is withdrawn already.

-- ---- three filings

-- the second one once it is withdrawn: no statements; its number, key, due day and bytes stay
abbrev second_withdrawn : AcceptedFiling
second_withdrawn = record { number = 2; key = codes "f2"; due = tomorrow; withdrawn = true; bytes = codes "two"; statements = [] }

-- of the record e2, due tomorrow
abbrev third : AcceptedFiling
third = record second { number = 3; key = codes "f3"; statements = record (entity (codes "s4") (codes "e2")) { status = Some Updated } ∷ [] }

abbrev answered : Register → List ℕ → Result FilingLine WithdrawFault
answered r key = (withdraw_step r (codes "alder") key).answer

abbrev withdrawal_left : Register → List ℕ → Register
withdrawal_left r key = (withdraw_step r (codes "alder") key).register

-- what is told of the second
abbrev second_told : Result FilingLine WithdrawFault
second_told = Ok (record { key = codes "f2"; number = 2; due = tomorrow; state = states.Withdrawn })

-- ---- a draft

withdrawn : answered (with_own today (first ∷ second ∷ third ∷ [])) (codes "f2") ≡ second_told
withdrawn = refl

left_withdrawn : withdrawal_left (with_own today (first ∷ second ∷ third ∷ [])) (codes "f2") ≡ with_own today (first ∷ second_withdrawn ∷ third ∷ [])
left_withdrawn = refl

-- again it is told as the first time, on its due day too
withdrawn_again : answered (with_own today (first ∷ second_withdrawn ∷ third ∷ [])) (codes "f2") ≡ second_told
withdrawn_again = refl

withdrawn_and_due : answered (with_own tomorrow (first ∷ second_withdrawn ∷ third ∷ [])) (codes "f2") ≡ second_told
withdrawn_and_due = refl

again_left : withdrawal_left (with_own tomorrow (first ∷ second_withdrawn ∷ third ∷ [])) (codes "f2") ≡ with_own tomorrow (first ∷ second_withdrawn ∷ third ∷ [])
again_left = refl

-- ---- refusals

no_such_key : answered (with_own today (first ∷ [])) (codes "f2") ≡ Err NoSuchFiling
no_such_key = refl

-- a filing of another agent
of_another : answered (record (two_agents today) { members = with_filings (codes "birch") (second ∷ []) (two_agents today).members }) (codes "f2") ≡ Err NoSuchFiling
of_another = refl

-- on its due day
published_on_its_day : answered (with_own tomorrow (first ∷ second ∷ [])) (codes "f2") ≡ Err Published
published_on_its_day = refl

-- it is published, and the second has a statement of its record e1
published_and_succeeded : answered (with_own today (first ∷ second ∷ [])) (codes "f1") ≡ Err Published
published_and_succeeded = refl

succeeded : answered (with_own yesterday (first ∷ second ∷ [])) (codes "f1") ≡ Err HasSuccessor
succeeded = refl

-- by a filing that isn't the next, of its other record
succeeded_later : answered (with_own yesterday (first ∷ second_withdrawn ∷ third ∷ [])) (codes "f1") ≡ Err HasSuccessor
succeeded_later = refl

no_such_key_left : withdrawal_left (with_own today (first ∷ [])) (codes "f2") ≡ with_own today (first ∷ [])
no_such_key_left = refl

published_left : withdrawal_left (with_own today (first ∷ second ∷ [])) (codes "f1") ≡ with_own today (first ∷ second ∷ [])
published_left = refl

succeeded_left : withdrawal_left (with_own yesterday (first ∷ second ∷ [])) (codes "f1") ≡ with_own yesterday (first ∷ second ∷ [])
succeeded_left = refl

-- once the successor is withdrawn
after_its_successor : answered (with_own yesterday (first ∷ second_withdrawn ∷ [])) (codes "f1") ≡ Ok (record { key = codes "f1"; number = 1; due = today; state = states.Withdrawn })
after_its_successor = refl

-- an earlier filing of its record is none
after_an_earlier : answered (with_own today (first ∷ second ∷ [])) (codes "f2") ≡ second_told
after_an_earlier = refl

-- Answers to a new day, an enrolment and a renewal, and the registers after them.

-- ---- a new day

-- alder has a published filing and a draft
abbrev on : ℤ → Register
on day = with_own day (first ∷ second ∷ [])

day_back : advance_step (on today) yesterday ≡ record { answer = Err DayBack; register = on today }
day_back = refl

same_day : advance_step (on today) today ≡ record { answer = Ok today; register = on today }
same_day = refl

next_day : advance_step (on today) tomorrow ≡ record { answer = Ok tomorrow; register = on tomorrow }
next_day = refl

-- the draft is published on its due day
before : published today (on today).members ≡ outward (codes "alder") first ∷ []
before = refl

after : let r = (advance_step (on today) tomorrow).register in published r.day r.members ≡ outward (codes "alder") first ∷ outward (codes "alder") second ∷ []
after = refl

-- ---- an enrolment

abbrev enrolled : List ℕ → List ℕ → Outcome (Result (List ℕ) EnrolFault)
enrolled name token = enrol_step (on today) name token

abbrev refused : EnrolFault → Outcome (Result (List ℕ) EnrolFault)
refused fault = record { answer = Err fault; register = on today }

name_taken : enrolled (codes "birch") (codes "other-token-000001") ≡ refused NameTaken
name_taken = refl

name_and_token_taken : enrolled (codes "birch") (codes "registrar-token-0001") ≡ refused NameTaken
name_and_token_taken = refl

agents_token : enrolled (codes "cedar") (codes "birch-token-000001") ≡ refused TokenTaken
agents_token = refl

registrars_token : enrolled (codes "cedar") (codes "registrar-token-0001") ≡ refused TokenTaken
registrars_token = refl

enrolled_told : (enrolled (codes "cedar") (codes "cedar-token-000001")).answer ≡ Ok (codes "cedar")
enrolled_told = refl

-- alder has its filings, birch none, and the new one none
last_name : (enrolled (codes "cedar") (codes "cedar-token-000001")).register.members
    ≡ record (new_member (codes "alder") (codes "alder-token-000001")) { filings = first ∷ second ∷ [] }
    ∷ new_member (codes "birch") (codes "birch-token-000001") ∷ new_member (codes "cedar") (codes "cedar-token-000001") ∷ []
last_name = refl

abbrev names_with : List ℕ → List (List ℕ)
names_with name = map (λ (m : Member). m.name) (enrolled name (codes "other-token-000001")).register.members

first_name : names_with (codes "a") ≡ codes "a" ∷ codes "alder" ∷ codes "birch" ∷ []
first_name = refl

middle_name : names_with (codes "alders") ≡ codes "alder" ∷ codes "alders" ∷ codes "birch" ∷ []
middle_name = refl

-- ---- a renewal

abbrev renewed : List ℕ → List ℕ → Outcome (Result (List ℕ) RenewFault)
renewed name token = renew_step (on today) name token

abbrev unrenewed : RenewFault → Outcome (Result (List ℕ) RenewFault)
unrenewed fault = record { answer = Err fault; register = on today }

no_such_agent : renewed (codes "cedar") (codes "registrar-token-0001") ≡ unrenewed renews.NoSuchAgent
no_such_agent = refl

anothers_token : renewed (codes "alder") (codes "birch-token-000001") ≡ unrenewed renews.TokenTaken
anothers_token = refl

the_registrars_token : renewed (codes "alder") (codes "registrar-token-0001") ≡ unrenewed renews.TokenTaken
the_registrars_token = refl

own_token : renewed (codes "alder") (codes "alder-token-000001") ≡ record { answer = Ok (codes "alder"); register = on today }
own_token = refl

-- alder keeps its filings under the new token, and birch its token
new_token : (renewed (codes "alder") (codes "alder-token-000002")).register.members
    ≡ record (new_member (codes "alder") (codes "alder-token-000002")) { filings = first ∷ second ∷ [] } ∷ new_member (codes "birch") (codes "birch-token-000001") ∷ []
new_token = refl

new_token_opens : caller_of (codes "alder-token-000002") (renewed (codes "alder") (codes "alder-token-000002")).register ≡ Some (Agent (codes "alder"))
new_token_opens = refl

old_token_is_nobodys : caller_of (codes "alder-token-000001") (renewed (codes "alder") (codes "alder-token-000002")).register ≡ None
old_token_is_nobodys = refl

-- The sight of agents in a register, and alone: no number of another's filing, and nothing of another's draft.

-- the same statements under another number and key and with other bytes, between a withdrawn filing and a draft
abbrev otherwise : List AcceptedFiling
otherwise = record (as_withdrawn second) { number = 1 } ∷ record first { number = 2; key = codes "g1"; bytes = codes "other" } ∷ record second { number = 3 } ∷ []

same_to_birch : sight_of (codes "birch") (with_own today (first ∷ [])) ≡ sight_of (codes "birch") (with_own today otherwise)
same_to_birch = refl

-- a day later the draft is published, and another sight
told_apart : map (λ (row : Row). row.statement.id) (seen_by (codes "birch") (with_own tomorrow otherwise)) ≡ codes "s1" ∷ codes "s2" ∷ codes "s3" ∷ []
told_apart = refl

-- ---- the statements seen: agent, number, place, identifier

abbrev placed : Row → List ℕ × (ℕ × (ℕ × List ℕ))
placed row = (row.agent, (row.filing, (row.place, row.statement.id)))

-- not alder's draft
by_birch : map placed (seen_by (codes "birch") (with_own today (first ∷ second ∷ [])))
    ≡ (codes "alder", (0, (1, codes "s1"))) ∷ (codes "alder", (0, (2, codes "s2"))) ∷ []
by_birch = refl

-- the own draft too; nor is an own filing's number among them
by_alder : map placed (seen_by (codes "alder") (with_own today (first ∷ second ∷ [])))
    ≡ (codes "alder", (0, (1, codes "s1"))) ∷ (codes "alder", (0, (2, codes "s2"))) ∷ (codes "alder", (0, (1, codes "s3"))) ∷ []
by_alder = refl

-- ---- birch alone: alder's published filing stands there by its outward form, without its number, key and bytes

abbrev brief : AcceptedFiling → ℕ × (List ℕ × (List ℕ × List (List ℕ)))
brief f = (f.number, (f.key, (f.bytes, map (λ (s : Statement). s.id) f.statements)))

of_alder : map brief (filings_of (codes "alder") (alone (codes "birch") (with_own today otherwise)).members) ≡ (1, (codes "1", ([], codes "s1" ∷ codes "s2" ∷ []))) ∷ []
unfolding digits
of_alder = refl

same_alone : sight_of (codes "birch") (alone (codes "birch") (with_own today otherwise)) ≡ sight_of (codes "birch") (with_own today otherwise)
unfolding digits
same_alone = refl

-- ---- of the record e1 what is published is the front of what is live

abbrev ids : List Live → List (List ℕ)
ids live = map (λ (l : Live). l.statement.id) live

live_of_e1 : ids (live_series (codes "c1") (codes "e1") (live_of (first ∷ second ∷ []))) ≡ codes "s1" ∷ codes "s3" ∷ []
live_of_e1 = refl

published_of_e1 : ids (live_series (codes "c1") (codes "e1") (live_of (filter (is_published today) (first ∷ second ∷ [])))) ≡ codes "s1" ∷ []
published_of_e1 = refl

all_published_of_e1 : ids (live_series (codes "c1") (codes "e1") (live_of (filter (is_published tomorrow) (first ∷ second ∷ [])))) ≡ codes "s1" ∷ codes "s3" ∷ []
all_published_of_e1 = refl

-- ---- five agents: alder and birch have published, alder two filings; dogwood has withdrawn its one, and elm has none

abbrev lodging : List ℕ → List AcceptedFiling → Member
lodging name filings = record (new_member name (name ++ codes "-token-000001")) { filings = filings }

-- 2024-02-03
abbrev later : ℤ
later = pos 19756

abbrev five_agents : Register
five_agents = record (two_agents tomorrow) {
  members = lodging (codes "alder") (first ∷ second ∷ []) ∷ lodging (codes "birch") (first ∷ [])
      ∷ lodging (codes "cedar") (second ∷ record first { number = 2; due = later } ∷ []) ∷ lodging (codes "dogwood") (as_withdrawn first ∷ []) ∷ lodging (codes "elm") [] ∷ [];
}

abbrev by_agent : Outward → List ℕ × List (List ℕ)
by_agent o = (o.agent, map (λ (s : Statement). s.id) o.statements)

beside_cedar : map by_agent (published_beside (codes "cedar") tomorrow five_agents.members)
    ≡ (codes "alder", codes "s1" ∷ codes "s2" ∷ []) ∷ (codes "alder", codes "s3" ∷ []) ∷ (codes "birch", codes "s1" ∷ codes "s2" ∷ []) ∷ []
beside_cedar = refl

beside_alder : map by_agent (published_beside (codes "alder") tomorrow five_agents.members)
    ≡ (codes "birch", codes "s1" ∷ codes "s2" ∷ []) ∷ (codes "cedar", codes "s3" ∷ []) ∷ []
beside_alder = refl

-- alone, cedar stands with its own two filings beside alder's two and birch's one; those who have published nothing aren't there
members_alone : map {B = List ℕ × List ℕ} (λ (m : Member). (m.name, map (λ (f : AcceptedFiling). f.number) m.filings)) (alone (codes "cedar") five_agents).members
    ≡ (codes "alder", 1 ∷ 2 ∷ []) ∷ (codes "birch", 1 ∷ []) ∷ (codes "cedar", 2 ∷ 2 ∷ []) ∷ []
unfolding digits
members_alone = refl

cedar_alone : sight_of (codes "cedar") (alone (codes "cedar") five_agents) ≡ sight_of (codes "cedar") five_agents
unfolding digits
cedar_alone = refl

-- Registers that are legal, and registers that break one rule each.

-- ---- legal registers

empty_legal : IsLegal (empty_register (codes "registrar-token-0001") today)
empty_legal = record { names = tt; tokens = tt; registrar = refl; own = tt }

agents_legal : IsLegal (two_agents today)
agents_legal = record { names = ((refl, tt), (tt, tt)); tokens = (refl, (refl, tt)); registrar = refl; own = (none_legal, (none_legal, tt)) }

lodging_legal : IsLegal after_lodging
lodging_legal = record {
  names = ((refl, tt), (tt, tt));
  tokens = (refl, (refl, tt));
  registrar = refl;
  own = (record { numbered = (refl, tt); few = omega arith; keyed = (refl, tt); read = (settled-worked, tt) }, (none_legal, tt));
}

-- the file again, once it is withdrawn
after_withdrawal_legal : IsLegal (with_own today (withdrawn_filing ∷ record first_filing { number = 2; key = codes "f2" } ∷ []))
after_withdrawal_legal = record {
  names = ((refl, tt), (tt, tt));
  tokens = (refl, (refl, tt));
  registrar = refl;
  own = (record { numbered = (refl, (refl, tt)); few = omega arith; keyed = (refl, (refl, tt)); read = (refl, (settled-worked, tt)) }, (none_legal, tt));
}

-- ---- registers that break one rule

abbrev alder : Member
alder = new_member (codes "alder") (codes "alder-token-000001")

abbrev birch : Member
birch = new_member (codes "birch") (codes "birch-token-000001")

abbrev of_members : List Member → Register
of_members members = record { day = today; registrar = codes "registrar-token-0001"; members = members }

names_out_of_order : IsLegal (of_members (birch ∷ alder ∷ [])) → ⊥
names_out_of_order l = let h = l.names.0.0 in absurd cc

name_twice : IsLegal (of_members (alder ∷ new_member (codes "alder") (codes "birch-token-000001") ∷ [])) → ⊥
name_twice l = let h = l.names.0.0 in absurd cc

token_twice : IsLegal (of_members (alder ∷ new_member (codes "birch") (codes "alder-token-000001") ∷ [])) → ⊥
token_twice l = let h = l.tokens.0 in absurd cc

token_of_the_registrar : IsLegal (of_members (new_member (codes "alder") (codes "registrar-token-0001") ∷ [])) → ⊥
token_of_the_registrar l = let h = l.registrar in absurd cc

abbrev alder_alone : List AcceptedFiling → Register
alder_alone filings = of_members (record alder { filings = filings } ∷ [])

number_two_first : IsLegal (alder_alone (record first_filing { number = 2 } ∷ [])) → ⊥
number_two_first l = let h = l.own.0.numbered.0 in absurd cc

number_twice : IsLegal (alder_alone (withdrawn_filing ∷ record withdrawn_filing { key = codes "f2" } ∷ [])) → ⊥
number_twice l = let h = l.own.0.numbered.1.0 in absurd cc

key_twice : IsLegal (alder_alone (withdrawn_filing ∷ record withdrawn_filing { number = 2 } ∷ [])) → ⊥
key_twice l = let h = l.own.0.keyed.0 in absurd cc

a_thousand : IsLegal (alder_alone (replicate 1000 withdrawn_filing)) → ⊥
a_thousand l = let h = l.own.0.few in absurd (omega (arith, length-replicate 1000 withdrawn_filing))

withdrawn_with_statements : IsLegal (alder_alone (record first_filing { withdrawn = true } ∷ [])) → ⊥
withdrawn_with_statements l = let h = l.own.0.read.0 in absurd cc

statements_left_out : IsLegal (alder_alone (record first_filing { statements = [] } ∷ [])) → ⊥
statements_left_out l = let h = sym settled-worked ∙ l.own.0.read.0 in absurd cc

-- the same file again: its statements' identifiers are taken
again : settled_reading (live_of (first_filing ∷ [])) today (reading worked_file) ≡ Err (StatementTwice 1)
again = rw worked_file-reading refl

statements_again : IsLegal (alder_alone (first_filing ∷ record first_filing { number = 2; key = codes "f2" } ∷ [])) → ⊥
statements_again l = let h = sym again ∙ l.own.0.read.1.0 in absurd cc

-- a file whose statements are settled as later ones, where they are the first
settled_as_later : IsLegal (alder_alone (record first_filing { statements = map (as_settled Updated) worked_statements } ∷ [])) → ⊥
settled_as_later l = let h = ap statuses_of (sym settled-worked ∙ l.own.0.read.0) in absurd cc
  where
    statuses_of : Result (List Statement) LodgeFault → List (Option Status)
    statuses_of (Ok ss) = map (λ (x : Statement). x.status) ss
    statuses_of (Err fault) = []
