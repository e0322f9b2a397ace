-- The persons whom a report on chains names, the contents of evidence, and the entities that are
-- found.
use Rattle.std.specs.Prelude.{◌≡◌, ℕ, ℤ, List, [], ◌∷◌, map, Option, Some, Ok, Err, unwrap_or}
use Rattle.bods_read.specs.declared.details.Identifier.{Identifier}
use Rattle.bor_records.specs.declared.links.node.Node.{Node}
use Rattle.bor_records.specs.Links.Answers.{Identified}
use Rattle.bor_records.specs.Links.Rows.{shown_of}
use Rattle.bor_chains.specs.declared.line.PersonLine.{PersonLine}
use Rattle.bor_chains.specs.Chains.{AreJoined}
use Rattle.bor_register.specs.declared.caller.Caller.TheVariants.{Agent}
use Rattle.bor_register.specs.Register.{Register, caller_of}
use Rattle.bor_desk.specs.Operations.Sight.{seen_by}
use Rattle.bor_desk.specs.declared.evidence.lines.EntityEvidence.{EntityEvidence}
use Rattle.bor_desk.specs.declared.evidence.lines.RecordEvidence.{RecordEvidence}
use Rattle.bor_desk.specs.Evidence.{AreRecords, IsEntityEvidence, without_first}
use Rattle.bor_desk.specs.Runs.{Asked}
use Rattle.bor_desk.specs.declared.request.Request.TheVariants as of
use Rattle.bor_desk.specs.declared.request.AgentRequest.TheVariants.{Chains, Evidence, Entities}
use Rattle.bor_desk.specs.declared.reply.DeskReply.TheVariants as tell
use Rattle.bor_wire.specs.Spelling.Spell.{Spelled}
use Rattle.bor_wire.specs.Rendering.Replies.{Said, answered, status_of, bytes_of}
use Rattle.bor_wire.specs.Inputs.{IsSaid, after}

-- The report names exactly the persons that are joined to the entity by chains in what the caller,
-- an agent, sees on the day.
pub record NamesTheJoined (r : Register) (token : List ℕ) (entity : Node) (date : Option ℤ)
    (said : Said) : Type 0 where
  pub name : List ℕ
  pub caller : caller_of token r ≡ Some (Agent name)
  pub persons : List PersonLine
  pub joined : AreJoined (shown_of (unwrap_or date r.day) (seen_by name r)) entity persons
  pub told : said ≡ answered (tell.Chains entity (unwrap_or date r.day) persons)

-- The reply has the evidence of the entity, by what the caller, an agent, sees on the day. It names
-- exactly the persons that are joined to the entity, each with a chain of links that the caller
-- sees.
pub record TellsTheEvidence (r : Register) (token : List ℕ) (entity : Node) (date : Option ℤ)
    (said : Said) : Type 0 where
  pub name : List ℕ
  pub caller : caller_of token r ≡ Some (Agent name)
  pub evidence : EntityEvidence
  pub is_evidence : IsEntityEvidence (seen_by name r) entity (unwrap_or date r.day) evidence
  pub joined : AreJoined (shown_of (unwrap_or date r.day) (seen_by name r)) entity
      (map without_first evidence.persons)
  pub told : said ≡ answered (tell.Evidence entity (unwrap_or date r.day) evidence)

-- The reply has exactly the open entities that have the identifier, by what the caller, an agent,
-- sees on the day, as their records say.
pub record FindsTheIdentified (r : Register) (token : List ℕ) (identifier : Identifier)
    (date : Option ℤ) (said : Said) : Type 0 where
  pub name : List ℕ
  pub caller : caller_of token r ≡ Some (Agent name)
  pub records : List RecordEvidence
  pub are_records : AreRecords (unwrap_or date r.day) (seen_by name r)
      (Identified (shown_of (unwrap_or date r.day) (seen_by name r)) identifier) records
  pub told : said ≡ answered (tell.Entities identifier (unwrap_or date r.day) records)

-- the reply with status 200 to a request for a report on chains, for the evidence of one, or for
-- the entities that have an identifier
pub record IsExactTo (r : Register) (asked : Asked) (said : Said) : Type 0 where
  pub report : (entity : Node) (date : Option ℤ) → asked.request ≡ of.Agent (Chains entity date)
      → status_of said ≡ 200 → NamesTheJoined r asked.token entity date said
  pub evidence : (entity : Node) (date : Option ℤ) → asked.request ≡ of.Agent (Evidence entity date)
      → status_of said ≡ 200 → TellsTheEvidence r asked.token entity date said
  pub found : (identifier : Identifier) (date : Option ℤ)
      → asked.request ≡ of.Agent (Entities identifier date)
      → status_of said ≡ 200 → FindsTheIdentified r asked.token identifier date said

abbrev pub IsExact : Register → Spelled → Said → Type 0
IsExact r (Err why) said = Unit {0}
IsExact r (Ok asked) said = IsExactTo r asked said

-- the bytes of what is said to the input, which is of that kind
abbrev pub IsReport : Register → Spelled → List ℕ → Type 0
IsReport r spelled bytes =
    (said : Said) × IsSaid r spelled said × IsExact r spelled said × (bytes ≡ bytes_of said)

-- each reply of a run is such
abbrev pub AreReports : Register → List Spelled → List (List ℕ) → Type 0
AreReports r [] [] = Unit {0}
AreReports r (spelled ∷ rest) (bytes ∷ replies) =
    IsReport r spelled bytes × AreReports (after r spelled) rest replies
AreReports r inputs replies = ⊥
