-- How a reply follows from the step.
use Rattle.std.specs.Prelude.{◌≡◌, ℕ, ℤ, List, Option, Some, None, IfSome, Result, Ok, Err}
use Rattle.bor_records.specs.declared.links.node.Node.{Node}
use Rattle.bor_chains.specs.declared.line.PersonLine.{PersonLine}
use Rattle.bor_records.specs.Links.Answers.{Identified}
use Rattle.bor_records.specs.Links.Rows.{shown_of}
use Rattle.bor_records.specs.Links.Shown.{Shown}
use Rattle.bor_records.specs.declared.row.Row.{Row}
use Rattle.bor_chains.specs.declared.tree.Evidence.{Evidence}
use Rattle.bor_chains.specs.Chains.{AreJoined}
use Rattle.bor_chains.specs.Evidence.{AreEvidenced}
use Rattle.bor_desk.specs.declared.evidence.lines.EntityEvidence.{EntityEvidence}
use Rattle.bor_desk.specs.declared.evidence.lines.RecordEvidence.{RecordEvidence}
use Rattle.bor_register.specs.declared.caller.Caller.{Caller}
use Rattle.bor_register.specs.declared.caller.Caller.TheVariants.{Agent}
use Rattle.bor_register.specs.declared.fault.StoreFault.{StoreFault}
use Rattle.bor_register.specs.Register.{Register, IsOrdered}
use Rattle.bor_desk.specs.Operations.Outcomes.{ByStore}
use Rattle.bor_desk.specs.declared.request.Request.{Request}
use Rattle.bor_desk.specs.declared.request.Request.TheVariants as of
use Rattle.bor_desk.specs.declared.request.AgentRequest.TheVariants as ask
use Rattle.bor_desk.specs.declared.reply.DeskReply.{DeskReply}
use Rattle.bor_desk.specs.declared.reply.DeskReply.TheVariants as tell
use Rattle.bor_desk.specs.declared.refusal.DeskFault.{DeskFault}
use Rattle.bor_desk.specs.declared.refusal.DeskFault.TheVariants.{Refused, Failed}
use Rattle.bor_desk.specs.Step.{Answer, exactly, report, evidence, entities, refused, report_on}
use Rattle.bor_desk.specs.Step.{evidence_answer}
use Rattle.bor_desk.specs.Evidence.{AreRecords, IsEntityEvidence}

-- The reply has the answer: of a report it names exactly the persons that are joined to the entity,
-- of an identifier it has exactly the open entities that have it, as their records say.
abbrev pub IsTold : Answer → DeskReply → Type 0
IsTold (exactly wanted) reply = reply ≡ wanted
IsTold (report entity day shown) reply =
    (persons : List PersonLine) × AreJoined shown entity persons
    × (reply ≡ tell.Chains entity day persons)
IsTold (evidence entity day seen) reply =
    (told : EntityEvidence) × IsEntityEvidence seen entity day told
    × (reply ≡ tell.Evidence entity day told)
IsTold (entities identifier day seen) reply =
    (records : List RecordEvidence)
    × AreRecords day seen (Identified (shown_of day seen) identifier) records
    × (reply ≡ tell.Entities identifier day records)

-- the reply that a fault makes
abbrev pub denial : DeskFault → DeskReply
denial (Refused why) = tell.Refused why
denial (Failed fault) = tell.Failed fault

-- the fault of the store that a reply has
abbrev pub fault_of : DeskReply → Option StoreFault
fault_of (tell.Failed fault) = Some fault
fault_of reply = None

-- The reply has the answer, or a fault of the store.
abbrev pub IsAnswered : DeskReply → Answer → Type 0
IsAnswered reply answer = ByStore (fault_of reply) (IsTold answer reply) (λ fault. Unit {0})

-- The registers of which an answer to the request is said: of a snapshot, those whose agents stand
-- in order of their names, since where a name stood twice the rows would be those of the first that
-- has it; of any other request, all.
abbrev pub IsOrderedFor : Request → Register → Type 0
IsOrderedFor (of.Agent (ask.Snapshot agent declaration date)) r = IsOrdered r.members
IsOrderedFor request r = Unit {0}

-- The step's register is shown; a reply that has a fault of the store leaves the register as it
-- was.
abbrev pub IsLeft : DeskReply → (Register → Type 0) → Register → Register → Type 0
IsLeft reply shown r after = ByStore (fault_of reply) (shown after) (λ fault. shown r)

-- P, where the reply is no fault of the store
abbrev pub UnlessReplyFailed : DeskReply → Type 0 → Type 0
UnlessReplyFailed reply P = ByStore (fault_of reply) P (λ fault. Unit {0})

-- ---- which agent is answered

-- the agent that a caller is; none where it is the registrar, or nobody
abbrev pub agent_of : Option Caller → Option (List ℕ)
agent_of (Some (Agent name)) = Some name
agent_of caller = None

-- The agent that is named beside a reply is the one that asks, if one does; beside a fault of the
-- store none has to be named.
abbrev pub IsNamed : DeskReply → Option (List ℕ) → Option (List ℕ) → Type 0
IsNamed reply named asks =
    ByStore (fault_of reply) (named ≡ asks) (λ fault. IfSome named (λ name. asks ≡ Some name))

-- ---- parts of an answer, for clauses of private functions alone

-- the value that was found is right by what is shown, or the reason why none was is the answer to
-- who stands behind an entity
abbrev pub IsFoundOf : {P : Type 0} → (Shown → P → Type 0) → Result P DeskFault → Shown
    → Node → ℤ → Type 0
IsFoundOf right (Ok found) shown entity day =
    (report_on shown entity day ≡ report entity day shown) × right shown found
IsFoundOf right (Err (Refused why)) shown entity day = report_on shown entity day ≡ refused why
IsFoundOf right (Err (Failed fault)) shown entity day = Unit {0}

-- the persons that were found, or why there is no report
abbrev pub ArePersonsFound : {P : Type 0} → (P → List PersonLine) → Result P DeskFault → Shown
    → Node → ℤ → Type 0
ArePersonsFound items made shown entity day =
    IsFoundOf (λ s persons. AreJoined s entity (items persons)) made shown entity day

-- the tree that was found, or why there is none
abbrev pub IsTreeFound : Result Evidence DeskFault → Shown → Node → ℤ → Type 0
IsTreeFound made shown entity day =
    IsFoundOf (λ s tree. AreEvidenced s entity tree) made shown entity day

-- the evidence that was found, or why there is none, is that of the answer to why the persons
-- behind an entity are named
abbrev pub IsEvidenceFound : Result EntityEvidence DeskFault → List Row → Node → ℤ → Type 0
IsEvidenceFound (Ok told) seen entity day =
    (evidence_answer seen entity day ≡ evidence entity day seen)
    × IsEntityEvidence seen entity day told
IsEvidenceFound (Err (Refused why)) seen entity day = evidence_answer seen entity day ≡ refused why
IsEvidenceFound (Err (Failed fault)) seen entity day = Unit {0}

-- the reply that was made, or the one that a fault makes
abbrev pub reply_of : Result DeskReply DeskFault → DeskReply
reply_of (Ok reply) = reply
reply_of (Err fault) = denial fault

-- ---- a law

-- Two replies that have one answer are one.
abbrev pub AnswerIsDetermined : Type 0
AnswerIsDetermined = (answer : Answer) (x y : DeskReply) → IsTold answer x → IsTold answer y → x ≡ y
