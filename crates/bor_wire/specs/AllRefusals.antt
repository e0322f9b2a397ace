-- The one order of refusals: a table of all that may stand against an input, of which the first
-- line that holds is what is said.
use Rattle.std.specs.Prelude.{◌≡◌, ℕ, ℤ, ◌<◌, ◌&&◌, not, nat_le, int_lt, int_le, Bool, true, false}
use Rattle.std.specs.Prelude.{List, [], ◌∷◌, ◌++◌, length, map, Option, Some, None, unwrap_or}
use Rattle.std.specs.Prelude.{Result, Ok, Err}
use Rattle.std.specs.Option.{is_none}
use Rattle.std.specs.Ordering.{int_eq}
use Rattle.serde_json.specs.Data.{Data}
use Rattle.bor_terms.specs.Texts.{is_same}
use Rattle.bods_read.specs.declared.fault.FileFault.{FileFault}
use Rattle.bods_read.specs.declared.fault.FileFault.TheVariants.{NotJson}
use Rattle.bods_read.specs.declared.statement.Statement.{Statement}
use Rattle.bods_read.specs.File.{faults, reading, value_of}
use Rattle.bor_terms.specs.Tables.{table}
use Rattle.bor_records.specs.Admission.{Live, line}
use Rattle.bor_records.specs.Links.Rows.{is_entity_info, shown_of}
use Rattle.bor_records.specs.Links.Shown.{info_of}
use Rattle.bor_records.specs.Settling as settling
use Rattle.bor_register.specs.declared.caller.Caller.{Caller}
use Rattle.bor_register.specs.declared.caller.Caller.TheVariants.{Registrar, Agent}
use Rattle.bor_register.specs.declared.filing.AcceptedFiling.{AcceptedFiling}
use Rattle.bor_register.specs.Limits.{filings_limit}
use Rattle.bor_register.specs.Live.{live_of}
use Rattle.bor_register.specs.Register.{Register, caller_of, filing_keyed, is_enrolled, is_taken}
use Rattle.bor_register.specs.Withdrawal.{has_successor}
use Rattle.bor_desk.specs.Operations.Sight.{Sight, sight_of}
use Rattle.bor_desk.specs.declared.refusal.Refusal.{Refusal}
use Rattle.bor_desk.specs.declared.refusal.Refusal.TheVariants as refuse
use Rattle.bor_desk.specs.declared.reply.DeskReply.TheVariants as tell
use Rattle.bor_desk.specs.declared.request.Request.{Request}
use Rattle.bor_desk.specs.declared.request.Request.TheVariants as of
use Rattle.bor_desk.specs.declared.request.AgentRequest.{AgentRequest}
use Rattle.bor_desk.specs.declared.request.AgentRequest.TheVariants as ask
use Rattle.bor_desk.specs.declared.request.RegistrarRequest.{RegistrarRequest}
use Rattle.bor_desk.specs.declared.request.RegistrarRequest.TheVariants as office
use Rattle.bor_http.specs.Incoming.Message.{Parts, IsTakenApart}
use Rattle.bor_http.specs.Incoming.Head.{head_end}
use Rattle.bor_wire.specs.Spelling.Refusals.{refusals_spelled}
use Rattle.bor_wire.specs.Spelling.Spell.{asked_behind, spelling}
use Rattle.bor_wire.specs.Rendering.Replies.{Said, refused, answered, status_of}
use Rattle.bor_wire.specs.Inputs.{IsSaid}

-- ---- who asks

abbrev pub lines_of_caller : Option Caller → Request → List Refusal
lines_of_caller None request = refuse.NoAgent ∷ []
lines_of_caller (Some (Agent name)) (of.Registrar request) = refuse.NotRegistrar ∷ []
lines_of_caller (Some Registrar) (of.Agent request) = refuse.NotAgent ∷ []
lines_of_caller (Some caller) request = []

-- ---- a lodging

-- all faults of a file, in their order
abbrev pub faults_in : Option Data → List FileFault
faults_in None = NotJson ∷ []
faults_in (Some d) = faults d

-- why the statement at a place is refused
abbrev pub refusal_at_place : ℕ → settling.Refusal → Refusal
refusal_at_place place settling.statement_twice = refuse.StatementTwice place
refusal_at_place place (settling.by_record fault) = refuse.Record place fault

-- the first place of a file that is refused
abbrev pub lines_of_places : Result (List Statement) settling.PlacedRefusal → List Refusal
lines_of_places (Ok statements) = []
lines_of_places (Err refusal) = refusal_at_place refusal.place refusal.why ∷ []

-- of the statements that a file is read to; where it has a fault, nothing more is looked at
abbrev pub lines_of_statements : List Live → ℤ → Result (List Statement) FileFault → List Refusal
lines_of_statements live due (Ok statements) =
    lines_of_places (settling.settled live due statements)
lines_of_statements live due (Err fault) = []

-- under a key that is there, or under a new one
abbrev pub lines_of_lodging : Sight → ℤ → List ℕ → Option AcceptedFiling → List Refusal
lines_of_lodging s due file (Some f) =
    line (not (int_eq f.due due && is_same f.bytes file)) refuse.KeyReused
lines_of_lodging s due file None =
    table (line (nat_le filings_limit (length s.own)) refuse.FilingsFull
    ∷ line (int_lt due s.day) refuse.DuePast
    ∷ map refuse.Read (faults_in (value_of file))
    ∷ lines_of_statements (live_of s.own) due (reading file)
    ∷ [])

-- ---- the other requests

-- of a withdrawn filing nothing is refused
abbrev pub lines_of_withdrawal : Sight → Option AcceptedFiling → List Refusal
lines_of_withdrawal s None = refuse.NoSuchFiling ∷ []
lines_of_withdrawal s (Some f) =
    table (line (not f.withdrawn && int_le f.due s.day) refuse.Published
    ∷ line (not f.withdrawn && has_successor f.number s.own) refuse.HasSuccessor
    ∷ [])

abbrev pub lines_of_agent : Sight → AgentRequest → List Refusal
lines_of_agent s (ask.Lodge key due file) = lines_of_lodging s due file (filing_keyed key s.own)
lines_of_agent s (ask.Withdraw key) = lines_of_withdrawal s (filing_keyed key s.own)
lines_of_agent s (ask.File key) = line (is_none (filing_keyed key s.own)) refuse.NoSuchFiling
lines_of_agent s (ask.Chains entity date) =
    line
    (not (is_entity_info (info_of (shown_of (unwrap_or date s.day) s.seen) entity))) refuse.NoEntity
lines_of_agent s (ask.Evidence entity date) =
    line
    (not (is_entity_info (info_of (shown_of (unwrap_or date s.day) s.seen) entity))) refuse.NoEntity
lines_of_agent s request = []

-- whether whoever has a token is another than this agent
abbrev pub is_another : List ℕ → Option Caller → Bool
is_another name None = false
is_another name (Some Registrar) = true
is_another name (Some (Agent owner)) = not (is_same owner name)

abbrev pub lines_of_registrar : Register → RegistrarRequest → List Refusal
lines_of_registrar r (office.Day date) = line (int_lt date r.day) refuse.DayBack
lines_of_registrar r (office.Enrol name token) =
    table (line (is_enrolled name r.members) refuse.NameTaken
    ∷ line (is_taken token r) refuse.TokenTaken ∷ [])
lines_of_registrar r (office.Renew name token) =
    table (line (not (is_enrolled name r.members)) refuse.NoSuchAgent
    ∷ line (is_another name (caller_of token r)) refuse.TokenTaken ∷ [])
lines_of_registrar r office.Register = []

-- ---- the whole table

abbrev pub lines_of_operation : Register → Option Caller → Request → List Refusal
lines_of_operation r (Some (Agent name)) (of.Agent request) =
    lines_of_agent (sight_of name r) request
lines_of_operation r (Some Registrar) (of.Registrar request) = lines_of_registrar r request
lines_of_operation r caller request = []

-- those of the register: who asks, and then what is asked
abbrev pub register_refusals : Register → Option Caller → Request → List Refusal
register_refusals r caller request =
    lines_of_caller caller request ++ lines_of_operation r caller request

-- all that stands against an input whose head is taken apart so: what its bytes refuse, and then
-- what the register does
abbrev pub input_refusals : Register → List ℕ → Option Parts → List Said
input_refusals r input head =
    let asked = asked_behind input (head_end input) head in
    map refused (refusals_spelled input head)
    ++ map (λ why. answered (tell.Refused why))
    (register_refusals r (caller_of asked.token r) asked.request)

-- the first of them is said; where there is none, the status is below 400
abbrev pub IsFirstRefusal : List Said → Said → Type 0
IsFirstRefusal [] said = status_of said < 400
IsFirstRefusal (first ∷ others) said = said ≡ first

-- This is the order of refusals, of every register and every input.
abbrev pub TheFirstRefusalIsSaid : Type 0
TheFirstRefusalIsSaid =
    (r : Register) (input : List ℕ) (head : Option Parts) (said : Said) → IsTakenApart input head
    → IsSaid r (spelling input head) said → IsFirstRefusal (input_refusals r input head) said
