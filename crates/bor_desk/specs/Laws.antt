-- Laws of an exchange: the answer to an agent, and the register that it leaves.
use Rattle.std.specs.Prelude.{◌≡◌, ℕ, ℤ, List, length, map, Bool, true, false, Option, Some, None}
use Rattle.bor_terms.specs.Texts.{is_same}
use Rattle.bor_records.specs.declared.row.Row.{Row}
use Rattle.bor_records.specs.declared.links.node.Node.{Node}
use Rattle.bor_records.specs.Links.Rows.{shown_of}
use Rattle.bor_chains.specs.Chains.{AreJoined}
use Rattle.bor_chains.specs.Laws.{dated_by}
use Rattle.bor_register.specs.declared.caller.Caller.{Caller}
use Rattle.bor_register.specs.declared.caller.Caller.TheVariants.{Registrar, Agent}
use Rattle.bor_register.specs.Register.{Register, caller_of, filings_of}
use Rattle.bor_desk.specs.Operations.Legality.{IsLegal}
use Rattle.bor_desk.specs.Operations.Laws.{KeepsAgents, LeavesOthers, RenewsToken}
use Rattle.bor_desk.specs.Operations.Sight.{seen_by}
use Rattle.bor_desk.specs.Operations.Solo.{alone}
use Rattle.bor_desk.specs.declared.request.Request.{Request}
use Rattle.bor_desk.specs.declared.request.Request.TheVariants as of
use Rattle.bor_desk.specs.declared.request.AgentRequest.{AgentRequest}
use Rattle.bor_desk.specs.declared.request.AgentRequest.TheVariants as ask
use Rattle.bor_desk.specs.declared.request.RegistrarRequest.TheVariants as office
use Rattle.bor_desk.specs.declared.reply.DeskReply.{DeskReply}
use Rattle.bor_desk.specs.declared.reply.DeskReply.TheVariants as tell
use Rattle.bor_desk.specs.declared.evidence.lines.EntityEvidence.{EntityEvidence}
use Rattle.bor_desk.specs.Evidence.{IsEntityEvidence, without_first}
use Rattle.bor_desk.specs.Outcomes.{IsTold, IsAnswered}
use Rattle.bor_desk.specs.Step.{Answer, exactly, chains_answer, evidence_answer, step, agent_step}
use Rattle.bor_desk.specs.Runs.{Asked, answers, register_after, history, answers_to, solo}

-- whether the caller is this agent
abbrev pub is_agent : List ℕ → Option Caller → Bool
is_agent name (Some (Agent other)) = is_same other name
is_agent name caller = false

-- the registrar's request leaves each agent as it was, but for the token that it renews
abbrev pub IsLeftBy : Request → Register → Register → Type 0
IsLeftBy (of.Registrar (office.Renew name token)) old new = RenewsToken name old new
IsLeftBy request old new = KeepsAgents old new

-- After an exchange the filings of all agents but the one that asks are as they were. After an
-- exchange of an agent the day is too, and who has which token; after one of the registrar, the
-- registrar's token and each agent, but for a token that it renews; after one of nobody, all.
pub record OwnFilingsUntouched : Type 0 where
  pub by_others : (r : Register) (caller : Option Caller) (request : Request) (name : List ℕ)
      → is_agent name caller ≡ false →
      filings_of name (step r caller request).register.members ≡ filings_of name r.members
  pub by_an_agent : (r : Register) (name : List ℕ) (request : Request)
      → LeavesOthers name r (step r (Some (Agent name)) request).register
  pub by_the_registrar : (r : Register) (request : Request)
      → IsLeftBy request r (step r (Some Registrar) request).register
  pub by_nobody : (r : Register) (request : Request) → (step r None request).register ≡ r

-- whether the answer may be that of a change: a filing that is lodged and wasn't before, a
-- withdrawal, the day, an agent that is enrolled, or one whose token is renewed
abbrev pub may_tell_a_change : Answer → Bool
may_tell_a_change (exactly (tell.Lodged lodged)) = lodged.fresh
may_tell_a_change (exactly (tell.Withdrawn line)) = true
may_tell_a_change (exactly (tell.Day day)) = true
may_tell_a_change (exactly (tell.Enrolled name)) = true
may_tell_a_change (exactly (tell.Renewed name)) = true
may_tell_a_change answer = false

-- Whatever else is answered, a refusal above all, leaves the register as it was.
abbrev pub RefusalChangesNothing : Type 0
RefusalChangesNothing =
    (r : Register) (caller : Option Caller) (request : Request)
    → may_tell_a_change (step r caller request).answer ≡ false
    → (step r caller request).register ≡ r

-- whether the request only reads
abbrev pub is_read : Request → Bool
is_read (of.Agent (ask.Lodge key due file)) = false
is_read (of.Agent (ask.Withdraw key)) = false
is_read (of.Agent request) = true
is_read (of.Registrar office.Register) = true
is_read (of.Registrar request) = false

-- whether the reply is to a request that only reads, a refusal apart: it may be of any length
abbrev pub is_long : DeskReply → Bool
is_long (tell.Filings lines) = true
is_long (tell.File bytes) = true
is_long (tell.Published outwards) = true
is_long (tell.Snapshot date records) = true
is_long (tell.Chains entity date persons) = true
is_long (tell.Evidence entity date evidence) = true
is_long (tell.Entities identifier date records) = true
is_long (tell.Register agents day) = true
is_long reply = false

-- Evidence names exactly the persons that are joined to the entity, those of the report on it.
pub record AnsweredEvidenceNamesTheJoined : Type 0 where
  pub joined : (seen : List Row) (entity : Node) (day : ℤ) (told : EntityEvidence)
      → IsEntityEvidence seen entity day told
      → AreJoined (shown_of day seen) entity (map without_first told.persons)
  pub reported : (seen : List Row) (entity : Node) (day : ℤ) (told : EntityEvidence)
      → IsTold (evidence_answer seen entity day) (tell.Evidence entity day told) →
      IsTold (chains_answer seen entity day)
      (tell.Chains entity day (map without_first told.persons))

-- A request that only reads leaves the register as it was, whatever it is answered; and so does
-- each request whose reply may have any length.
pub record ReadsLeave : Type 0 where
  pub by_request : (r : Register) (caller : Option Caller) (request : Request)
      → is_read request ≡ true → (step r caller request).register ≡ r
  pub by_reply : (r : Register) (caller : Option Caller) (request : Request) (reply : DeskReply)
      → IsTold (step r caller request).answer reply → is_long reply ≡ true
      → (step r caller request).register ≡ r

-- Each step leaves a legal register legal.
abbrev pub StepStaysLegal : Type 0
StepStaysLegal =
    (r : Register) (caller : Option Caller) (request : Request) → IsLegal r
    → IsLegal (step r caller request).register

-- The answer to an agent, and its filings after it, are the same as they would be alone with what
-- the others have published.
pub record IsAsAlone (r : Register) (name : List ℕ) (request : Request) : Type 0 where
  pub answer : (step (alone name r) (Some (Agent name)) request).answer
      ≡ (step r (Some (Agent name)) request).answer
  pub filings : filings_of name (step (alone name r) (Some (Agent name)) request).register.members
      ≡ filings_of name (step r (Some (Agent name)) request).register.members

-- the reply to an agent is the one that it would receive alone; of a reply to anybody else nothing
-- is said here
abbrev pub IsToldAlone : DeskReply → Option Caller → Register → Request → Type 0
IsToldAlone reply (Some (Agent name)) r request =
    IsAnswered reply (step (alone name r) (Some (Agent name)) request).answer
IsToldAlone reply caller r request = Unit {0}

abbrev pub OneExchangeAlone : Type 0
OneExchangeAlone =
    (r : Register) (token name : List ℕ) (request : Request) → IsLegal r
    → caller_of token r ≡ Some (Agent name) → IsAsAlone r name request

-- Each request of a run has one answer, and each of an agent's own exchanges one to that agent.
pub record EachIsAnswered : Type 0 where
  pub each : (r : Register) (run : List Asked) → length (answers r run) ≡ length run
  pub to_agent : (r : Register) (run : List Asked) (name : List ℕ)
      → length (answers_to name r run) ≡ length (history name r run)

-- A run leaves a legal register legal. In every run from a legal register the answers to an agent
-- are those to its own exchanges alone: they follow from its filings at the start and its history.
-- So two runs that agree on these two give the agent the same answers.
pub record IsolationOfHistories : Type 0 where
  pub stays_legal : (r : Register) (run : List Asked) → IsLegal r → IsLegal (register_after r run)
  pub alone_each : (r : Register) (run : List Asked) (name : List ℕ) → IsLegal r
      → answers_to name r run ≡ solo name (filings_of name r.members) (history name r run)
  pub two_runs : (r q : Register) (run other : List Asked) (name : List ℕ) → IsLegal r → IsLegal q →
      filings_of name r.members ≡ filings_of name q.members
      → history name r run ≡ history name q other → answers_to name r run ≡ answers_to name q other

-- the date of a request for a snapshot, a report or evidence, where it names one
abbrev pub date_of : AgentRequest → Option ℤ
date_of (ask.Snapshot agent declaration date) = date
date_of (ask.Chains entity date) = date
date_of (ask.Evidence entity date) = date
date_of (ask.Entities identifier date) = date
date_of request = None

-- Where an agent sees the same statements dated by a day, it is told the same of that day, whatever
-- else the registers hold: statements dated later, and filings that the agent doesn't see.
abbrev pub LaterStatementsChangeNoAnswer : Type 0
LaterStatementsChangeNoAnswer =
    (name : List ℕ) (day : ℤ) (r q : Register) (request : AgentRequest) (reply : DeskReply)
    → date_of request ≡ Some day
    → dated_by day (seen_by name r) ≡ dated_by day (seen_by name q)
    → IsTold (agent_step r name request).answer reply
    → IsTold (agent_step q name request).answer reply
