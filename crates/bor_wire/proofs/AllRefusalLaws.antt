-- The answer is the first refusal of the table that holds.
use Rattle.std.proofs.Common.{◌≡◌, ◌<◌, ℕ, ℤ, List, [], ◌∷◌, ◌++◌, map, Bool, true, false, not, ◌&&◌, Option, Some, None, Result, Ok, Err, refl, sym, ap, subst, ◌∙◌, arith}
use Rattle.std.specs.Prelude.{if◌then◌else◌, int_lt, int_le, nat_le, length, unwrap_or}
use Rattle.std.specs.Option.{is_none}
use Rattle.std.specs.Ordering.{int_eq}
use Rattle.serde_json.specs.Data.{Data}
use Rattle.bor_terms.specs.Texts.{is_same}
use Rattle.bods_read.specs.declared.fault.FileFault.{FileFault}
use Rattle.bods_read.specs.declared.statement.Statement.{Statement}
use Rattle.bods_read.specs.File.{statements, reading, reading_of, reading_in, value_of}
use Rattle.bor_terms.specs.Tables.{outcome}
use Rattle.bor_records.specs.declared.row.Row.{Row}
use Rattle.bor_records.specs.Admission.{line}
use Rattle.bor_records.specs.Links.Rows.{is_entity_info, shown_of}
use Rattle.bor_records.specs.Links.Shown.{Shown, info_of}
use Rattle.bor_records.specs.declared.links.node.Node.{Node}
use Rattle.bor_records.specs.Settling as settling
use Rattle.bor_register.specs.declared.caller.Caller.{Caller}
use Rattle.bor_register.specs.declared.caller.Caller.TheVariants.{Registrar, Agent}
use Rattle.bor_register.specs.declared.filing.AcceptedFiling.{AcceptedFiling}
use Rattle.bor_register.specs.Limits.{filings_limit}
use Rattle.bor_register.specs.Live.{live_of}
use Rattle.bor_register.specs.Publication.{line_of}
use Rattle.bor_register.specs.Register.{Register, caller_of, filing_keyed, is_enrolled, is_taken}
use Rattle.bor_register.specs.Withdrawal.{has_successor, as_withdrawn}
use Rattle.bor_desk.specs.declared.operations.fault.LodgeFault.TheVariants as lodges
use Rattle.bor_desk.specs.declared.operations.fault.WithdrawFault.TheVariants as withdraws
use Rattle.bor_desk.specs.declared.refusal.Refusal.{Refusal}
use Rattle.bor_desk.specs.declared.refusal.Refusal.TheVariants as refuse
use Rattle.bor_desk.specs.declared.reply.DeskReply.{DeskReply}
use Rattle.bor_desk.specs.declared.reply.DeskReply.TheVariants as tell
use Rattle.bor_desk.specs.declared.request.Request.{Request}
use Rattle.bor_desk.specs.declared.request.Request.TheVariants as of
use Rattle.bor_desk.specs.declared.request.AgentRequest.{AgentRequest}
use Rattle.bor_desk.specs.declared.request.AgentRequest.TheVariants as ask
use Rattle.bor_desk.specs.declared.request.RegistrarRequest.{RegistrarRequest}
use Rattle.bor_desk.specs.declared.request.RegistrarRequest.TheVariants as office
use Rattle.bor_desk.specs.Operations.Sight.{Sight, sight_of}
use Rattle.bor_desk.specs.Operations.Lodging.{told_of, told_added, told_settled, settled_reading, filing_of, lodging_at}
use Rattle.bor_desk.specs.Operations.Registrar.{renewal}
use Rattle.bor_desk.specs.Operations.Withdrawing.{withdrawal_at}
use Rattle.bor_desk.specs.Outcomes.{IsTold}
use Rattle.bor_desk.specs.Refusals.{of_lodging, of_renewal, of_withdrawal}
use Rattle.bor_desk.specs.Runs.{Asked}
use Rattle.bor_desk.specs.Step.{Answer, exactly, report, evidence, told, told_step, file_answer, agent_answer, registrar_step, step}
use Rattle.bor_http.specs.declared.incoming.fault.Refusal as wire
use Rattle.bor_http.specs.Incoming.Head.{head_end}
use Rattle.bor_wire.specs.Spelling.Refusals.{refusals_spelled}
use Rattle.bor_wire.specs.Spelling.Spell.{asked_behind, spelling}
use Rattle.bor_wire.specs.Rendering.Replies.{Said, refused, answered, status_of}
use Rattle.bor_wire.specs.Rendering.Statuses.{desk_status}
use Rattle.bor_wire.specs.Inputs.{IsSaid}
use Rattle.bor_wire.specs.AllRefusals.{IsFirstRefusal, TheFirstRefusalIsSaid, is_another, register_refusals, lines_of_agent, lines_of_registrar, lines_of_lodging, lines_of_withdrawal, lines_of_statements, lines_of_places, faults_in, refusal_at_place}

-- the answer is the first of the refusals; where there is none, each reply that tells it has a status below 400
abbrev Fits : List Refusal → Answer → Type 0
Fits [] answer = (reply : DeskReply) → IsTold answer reply → desk_status reply < 400
Fits (why ∷ others) answer = answer ≡ exactly (tell.Refused why)

-- a reply that is none is below
below : (wanted : DeskReply) → desk_status wanted < 400 → Fits [] (exactly wanted)
below wanted h = λ reply told. subst (λ x. desk_status x < 400) (sym told) h

-- ---- a lodging

repeated_fits : (s : Sight) (f : AcceptedFiling) (same : Bool) → Fits (line (not same) refuse.KeyReused) (told tell.Lodged of_lodging (if same then Ok (told_of false s.day f) else Err lodges.KeyReused))
repeated_fits s f true = below (tell.Lodged (told_of false s.day f)) (omega arith)
repeated_fits s f false = refl

-- the file reads as the first of its faults, or as its statements
statements_read : Option Data → List Statement
statements_read None = []
statements_read (Some d) = statements d

read_by : (value : Option Data) → reading_in value ≡ outcome (faults_in value) (statements_read value)
unfolding reading_of statements_read
read_by None = refl
read_by (Some d) = refl

read_first : (file : List ℕ) → reading file ≡ outcome (faults_in (value_of file)) (statements_read (value_of file))
unfolding reading
read_first file = read_by (value_of file)

places_fit : (s : Sight) (key : List ℕ) (due : ℤ) (file : List ℕ) (settled : Result (List Statement) settling.PlacedRefusal) →
    Fits (lines_of_places settled ++ []) (told tell.Lodged of_lodging (told_added s.day (filing_of s.own key due file (told_settled settled))))
places_fit s key due file (Ok statements) = below _ (omega arith)
places_fit s key due file (Err refusal) = by_why refusal.why
  where
    by_why : (why : settling.Refusal) → Fits (refusal_at_place refusal.place why ∷ []) (told tell.Lodged of_lodging (told_added s.day (filing_of s.own key due file (told_settled (Err (record { place = refusal.place; why = why }))))))
    by_why settling.statement_twice = refl
    by_why (settling.by_record fault) = refl

read_fits : (s : Sight) (key : List ℕ) (due : ℤ) (file : List ℕ) (fs : List FileFault) (statements : List Statement) →
    Fits (map refuse.Read fs ++ (lines_of_statements (live_of s.own) due (outcome fs statements) ++ []))
    (told tell.Lodged of_lodging (told_added s.day (filing_of s.own key due file (settled_reading (live_of s.own) due (outcome fs statements)))))
read_fits s key due file [] statements = places_fit s key due file (settling.settled (live_of s.own) due statements)
read_fits s key due file (fault ∷ fs) statements = refl

new_fits : (s : Sight) (key : List ℕ) (due : ℤ) (file : List ℕ) (full past : Bool) →
    Fits (line full refuse.FilingsFull ++ (line past refuse.DuePast ++ (map refuse.Read (faults_in (value_of file)) ++ (lines_of_statements (live_of s.own) due (reading file) ++ []))))
    (told tell.Lodged of_lodging (told_added s.day (if full then Err lodges.FilingsFull else (if past then Err lodges.DuePast else filing_of s.own key due file (settled_reading (live_of s.own) due (reading file))))))
new_fits s key due file true past = refl
new_fits s key due file false true = refl
new_fits s key due file false false =
    subst (λ read. Fits (map refuse.Read (faults_in (value_of file)) ++ (lines_of_statements (live_of s.own) due read ++ []))
    (told tell.Lodged of_lodging (told_added s.day (filing_of s.own key due file (settled_reading (live_of s.own) due read)))))
    (sym (read_first file)) (read_fits s key due file (faults_in (value_of file)) (statements_read (value_of file)))

lodging_fits : (s : Sight) (key : List ℕ) (due : ℤ) (file : List ℕ) (at : Option AcceptedFiling) → Fits (lines_of_lodging s due file at) (told tell.Lodged of_lodging (lodging_at s key due file at))
lodging_fits s key due file (Some f) = repeated_fits s f (int_eq f.due due && is_same f.bytes file)
lodging_fits s key due file None = new_fits s key due file (nat_le filings_limit (length s.own)) (int_lt due s.day)

-- ---- the other requests

withdrawal_fits : (s : Sight) (at : Option AcceptedFiling) → Fits (lines_of_withdrawal s at) (told tell.Withdrawn of_withdrawal (withdrawal_at s at))
withdrawal_fits s None = refl
withdrawal_fits s (Some f) = by_tests f.withdrawn (int_le f.due s.day) (has_successor f.number s.own)
  where
    by_tests : (withdrawn published stood : Bool) →
        Fits (line (not withdrawn && published) refuse.Published ++ (line (not withdrawn && stood) refuse.HasSuccessor ++ []))
        (told tell.Withdrawn of_withdrawal (if withdrawn then Ok (line_of s.day f) else (if published then Err withdraws.Published else (if stood then Err withdraws.HasSuccessor else Ok (line_of s.day (as_withdrawn f))))))
    by_tests true published stood = below _ (omega arith)
    by_tests false false false = below _ (omega arith)
    by_tests withdrawn published stood = refl

file_fits : (at : Option AcceptedFiling) → Fits (line (is_none at) refuse.NoSuchFiling) (file_answer at)
file_fits None = refl
file_fits (Some f) = below _ (omega arith)

chains_fit : (shown : Shown) (entity : Node) (day : ℤ) (is_entity : Bool) → Fits (line (not is_entity) refuse.NoEntity) (if is_entity then report entity day shown else exactly (tell.Refused refuse.NoEntity))
chains_fit shown entity day true = λ reply told. subst (λ x. desk_status x < 400) (sym told.2) (omega arith)
chains_fit shown entity day false = refl

evidence_fits : (seen : List Row) (entity : Node) (day : ℤ) (is_entity : Bool) → Fits (line (not is_entity) refuse.NoEntity) (if is_entity then evidence entity day seen else exactly (tell.Refused refuse.NoEntity))
evidence_fits seen entity day true = λ reply told. subst (λ x. desk_status x < 400) (sym told.2) (omega arith)
evidence_fits seen entity day false = refl

agent_fits : (s : Sight) (request : AgentRequest) → Fits (lines_of_agent s request) (agent_answer s request)
agent_fits s (ask.Lodge key due file) = lodging_fits s key due file (filing_keyed key s.own)
agent_fits s (ask.Withdraw key) = withdrawal_fits s (filing_keyed key s.own)
agent_fits s (ask.File key) = file_fits (filing_keyed key s.own)
agent_fits s (ask.Chains entity date) =
    let day : ℤ = unwrap_or date s.day in
    let shown : Shown = shown_of day s.seen in
    chains_fit shown entity day (is_entity_info (info_of shown entity))
agent_fits s (ask.Evidence entity date) =
    let day : ℤ = unwrap_or date s.day in
    evidence_fits s.seen entity day (is_entity_info (info_of (shown_of day s.seen) entity))
agent_fits s (ask.Entities identifier date) = λ reply told. subst (λ x. desk_status x < 400) (sym told.2) (omega arith)
agent_fits s request = below _ (omega arith)

-- ---- the registrar

day_fits : (r : Register) (date : ℤ) (back : Bool) → int_lt date r.day ≡ back → Fits (line (int_lt date r.day) refuse.DayBack) (registrar_step r (office.Day date)).answer
day_fits r date true e = rw e refl
day_fits r date false e = rw e (below (tell.Day date) (omega arith))

enrolment_fits : (r : Register) (name token : List ℕ) (named taken : Bool) → is_enrolled name r.members ≡ named → is_taken token r ≡ taken →
    Fits (line (is_enrolled name r.members) refuse.NameTaken ++ (line (is_taken token r) refuse.TokenTaken ++ [])) (registrar_step r (office.Enrol name token)).answer
enrolment_fits r name token true taken e f = rw e refl
enrolment_fits r name token false true e f = rw (e, f) refl
enrolment_fits r name token false false e f = rw (e, f) (below (tell.Enrolled name) (omega arith))

renewal_fits : (r : Register) (name token : List ℕ) (owner : Option Caller) →
    Fits (line (is_another name owner) refuse.TokenTaken ++ []) (told_step tell.Renewed of_renewal (renewal r name token owner)).answer
renewal_fits r name token None = below (tell.Renewed name) (omega arith)
renewal_fits r name token (Some Registrar) = refl
renewal_fits r name token (Some (Agent owner)) = by_name (is_same owner name) refl
  where
    by_name : (own : Bool) → is_same owner name ≡ own →
        Fits (line (not (is_same owner name)) refuse.TokenTaken ++ []) (told_step tell.Renewed of_renewal (renewal r name token (Some (Agent owner)))).answer
    by_name true e = rw e (below (tell.Renewed name) (omega arith))
    by_name false e = rw e refl

named_fits : (r : Register) (name token : List ℕ) (named : Bool) → is_enrolled name r.members ≡ named →
    Fits (line (not (is_enrolled name r.members)) refuse.NoSuchAgent ++ (line (is_another name (caller_of token r)) refuse.TokenTaken ++ [])) (registrar_step r (office.Renew name token)).answer
named_fits r name token true e = rw e (renewal_fits r name token (caller_of token r))
named_fits r name token false e = rw e refl

registrar_fits : (r : Register) (request : RegistrarRequest) → Fits (lines_of_registrar r request) (registrar_step r request).answer
registrar_fits r (office.Day date) = day_fits r date (int_lt date r.day) refl
registrar_fits r (office.Enrol name token) = enrolment_fits r name token (is_enrolled name r.members) (is_taken token r) refl refl
registrar_fits r (office.Renew name token) = named_fits r name token (is_enrolled name r.members) refl
registrar_fits r office.Register = below _ (omega arith)

caller_fits : (r : Register) (caller : Option Caller) (request : Request) → Fits (register_refusals r caller request) (step r caller request).answer
caller_fits r (Some Registrar) (of.Registrar request) = registrar_fits r request
caller_fits r (Some (Agent name)) (of.Agent request) = agent_fits (sight_of name r) request
caller_fits r caller request = refl

-- ---- what is said

abbrev desk_said : Refusal → Said
desk_said why = answered (tell.Refused why)

first_of : (lines : List Refusal) (answer : Answer) (said : Said) → Fits lines answer → (reply : DeskReply) × IsTold answer reply × (said ≡ answered reply) → IsFirstRefusal (map desk_said lines) said
first_of [] answer said fits h = subst (λ x. status_of x < 400) (sym h.2) (fits h.0 h.1)
first_of (why ∷ others) answer said fits h =
    let reply : h.0 ≡ tell.Refused why = subst (λ a. IsTold a h.0) fits h.1 in
    h.2 ∙ ap answered reply

wire_first : (r : Register) (ws : List wire.Refusal) (asked : Asked) (said : Said) → IsSaid r (outcome ws asked) said
    → IsFirstRefusal (map refused ws ++ map desk_said (register_refusals r (caller_of asked.token r) asked.request)) said
wire_first r [] asked said h =
    let caller : Option Caller = caller_of asked.token r in
    first_of (register_refusals r caller asked.request) (step r caller asked.request).answer said (caller_fits r caller asked.request) h
wire_first r (why ∷ ws) asked said h = h

pub first_said : TheFirstRefusalIsSaid
unfolding spelling
first_said r input head said apart h = wire_first r (refusals_spelled input head) (asked_behind input (head_end input) head) said h
