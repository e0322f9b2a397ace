-- The answer to each request, and the register after it (this register's own rules).
use Rattle.std.specs.Prelude.{ℕ, ℤ, List, map, Option, Some, None, unwrap_or}
use Rattle.std.specs.Prelude.{Result, Ok, Err, if◌then◌else◌}
use Rattle.bods_read.specs.declared.details.Identifier.{Identifier}
use Rattle.bor_records.specs.declared.row.Row.{Row}
use Rattle.bor_records.specs.Snapshot.{snapshot}
use Rattle.bor_records.specs.declared.links.node.Node.{Node}
use Rattle.bor_records.specs.Links.ByKey.{rows_by}
use Rattle.bor_records.specs.Links.Shown.{Shown, info_of}
use Rattle.bor_records.specs.Links.Rows.{is_entity_info, shown_of}
use Rattle.bor_register.specs.declared.caller.Caller.{Caller}
use Rattle.bor_register.specs.declared.caller.Caller.TheVariants.{Registrar, Agent}
use Rattle.bor_register.specs.declared.filing.AcceptedFiling.{AcceptedFiling}
use Rattle.bor_register.specs.Register.{Register, filing_keyed, with_filings}
use Rattle.bor_register.specs.Publication.{agent_line, line_of}
use Rattle.bor_desk.specs.Operations.Sight.{Sight, sight_of, Outcome}
use Rattle.bor_desk.specs.Operations.Lodging.{lodging, own_lodged}
use Rattle.bor_desk.specs.Operations.Withdrawing.{withdrawal, own_withdrawn}
use Rattle.bor_desk.specs.Operations.Registrar.{advance_step, enrol_step, renew_step}
use Rattle.bor_desk.specs.declared.request.Request.{Request}
use Rattle.bor_desk.specs.declared.request.Request.TheVariants as of
use Rattle.bor_desk.specs.declared.request.AgentRequest.{AgentRequest}
use Rattle.bor_desk.specs.declared.request.AgentRequest.TheVariants as ask
use Rattle.bor_desk.specs.declared.request.RegistrarRequest.{RegistrarRequest}
use Rattle.bor_desk.specs.declared.request.RegistrarRequest.TheVariants as office
use Rattle.bor_desk.specs.declared.reply.DeskReply.{DeskReply}
use Rattle.bor_desk.specs.declared.reply.DeskReply.TheVariants as tell
use Rattle.bor_desk.specs.declared.refusal.Refusal.{Refusal}
use Rattle.bor_desk.specs.declared.refusal.Refusal.TheVariants.{NoAgent, NotRegistrar, NotAgent}
use Rattle.bor_desk.specs.declared.refusal.Refusal.TheVariants.{NoSuchFiling, NoEntity}
use Rattle.bor_desk.specs.declared.refusal.DeskFault.{DeskFault}
use Rattle.bor_desk.specs.declared.refusal.DeskFault.TheVariants as faults
use Rattle.bor_desk.specs.Refusals.{of_lodging, of_withdrawal, of_advance, of_enrolment}
use Rattle.bor_desk.specs.Refusals.{of_renewal}

-- An answer: exactly a reply, or the report on an entity on a day, by the nodes and links that the
-- caller sees, or its evidence, by the rows that the caller sees, or the entities that have an
-- identifier on a day, by these rows.
pub data Answer : Type 0 where
  exactly : DeskReply → Answer
  report : Node → ℤ → Shown → Answer
  evidence : Node → ℤ → List Row → Answer
  entities : Identifier → ℤ → List Row → Answer

abbrev pub refused : Refusal → Answer
refused why = exactly (tell.Refused why)

-- ---- the reply to an operation's answer

abbrev pub denied : DeskFault → Answer
denied (faults.Refused why) = refused why
denied (faults.Failed fault) = exactly (tell.Failed fault)

abbrev pub told : {A E : Type 0} → (A → DeskReply) → (E → DeskFault) → Result A E → Answer
told reply fault (Ok answer) = exactly (reply answer)
told reply fault (Err error) = denied (fault error)

-- ---- the answer to an agent, by what it can see

-- the bytes of its filing, a withdrawn one too
abbrev pub file_answer : Option AcceptedFiling → Answer
file_answer None = refused NoSuchFiling
file_answer (Some f) = exactly (tell.File f.bytes)

-- the snapshot of the agent's declaration on a day; empty where there is no such agent or
-- declaration
abbrev pub snapshot_answer : List Row → List ℕ → List ℕ → ℤ → Answer
snapshot_answer seen agent declaration day =
    exactly (tell.Snapshot day (snapshot declaration day (rows_by agent seen)))

abbrev pub report_on : Shown → Node → ℤ → Answer
report_on shown entity day =
    if is_entity_info (info_of shown entity) then report entity day shown else refused NoEntity

-- the report on an entity, by the statements that the caller sees, on a day
abbrev pub chains_answer : List Row → Node → ℤ → Answer
chains_answer seen entity day = report_on (shown_of day seen) entity day

-- the evidence of an entity, by the statements that the caller sees, on a day
abbrev pub evidence_answer : List Row → Node → ℤ → Answer
evidence_answer seen entity day =
    if is_entity_info (info_of (shown_of day seen) entity) then evidence entity day seen
    else refused NoEntity

-- An absent date is the register's day.
abbrev pub agent_answer : Sight → AgentRequest → Answer
agent_answer s (ask.Lodge key due file) = told tell.Lodged of_lodging (lodging s key due file)
agent_answer s (ask.Withdraw key) = told tell.Withdrawn of_withdrawal (withdrawal s key)
agent_answer s ask.Filings = exactly (tell.Filings (map (line_of s.day) s.own))
agent_answer s (ask.File key) = file_answer (filing_keyed key s.own)
agent_answer s ask.Published = exactly (tell.Published s.published)
agent_answer s (ask.Snapshot agent declaration date) =
    snapshot_answer s.seen agent declaration (unwrap_or date s.day)
agent_answer s (ask.Chains entity date) = chains_answer s.seen entity (unwrap_or date s.day)
agent_answer s (ask.Evidence entity date) = evidence_answer s.seen entity (unwrap_or date s.day)
agent_answer s (ask.Entities identifier date) = entities identifier (unwrap_or date s.day) s.seen

-- the agent's filings after its request
abbrev pub own_after : Sight → AgentRequest → List AcceptedFiling
own_after s (ask.Lodge key due file) = own_lodged s key due file
own_after s (ask.Withdraw key) = own_withdrawn s key
own_after s request = s.own

abbrev pub agent_step : Register → List ℕ → AgentRequest → Outcome Answer
agent_step r name request =
    let s = sight_of name r in
    record {
      answer = agent_answer s request;
      register = record r
          { members = with_filings name (own_after s request) r.members };
    }

-- ---- the answer to the registrar

abbrev pub told_step : {A E : Type 0} → (A → DeskReply) → (E → DeskFault) → Outcome (Result A E)
    → Outcome Answer
told_step reply fault o = record { answer = told reply fault o.answer; register = o.register }

abbrev pub registrar_step : Register → RegistrarRequest → Outcome Answer
registrar_step r (office.Day date) = told_step tell.Day of_advance (advance_step r date)
registrar_step r (office.Enrol name token) =
    told_step tell.Enrolled of_enrolment (enrol_step r name token)
registrar_step r (office.Renew name token) =
    told_step tell.Renewed of_renewal (renew_step r name token)
registrar_step r office.Register = record {
  answer = exactly (tell.Register (map (agent_line r.day) r.members) r.day);
  register = r;
}

-- ---- the step

abbrev pub refuses : Register → Refusal → Outcome Answer
refuses r why = record { answer = refused why; register = r }

-- The token says who asks: nobody, the registrar or an agent. Each may ask its own requests.
abbrev pub step : Register → Option Caller → Request → Outcome Answer
step r None request = refuses r NoAgent
step r (Some Registrar) (of.Registrar request) = registrar_step r request
step r (Some Registrar) (of.Agent request) = refuses r NotAgent
step r (Some (Agent name)) (of.Agent request) = agent_step r name request
step r (Some (Agent name)) (of.Registrar request) = refuses r NotRegistrar
