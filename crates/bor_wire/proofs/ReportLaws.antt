-- Whom a report names, what evidence tells and which entities are found, from what is said.
use Rattle.std.proofs.Common.{◌≡◌, ℕ, ℤ, List, [], ◌∷◌, Bool, true, false, Option, Some, Ok, Err, refl, sym, ap, subst, ◌∙◌, arith}
use Rattle.std.specs.Prelude.{if◌then◌else◌, unwrap_or}
use Rattle.bods_read.specs.declared.details.Identifier.{Identifier}
use Rattle.bor_records.specs.declared.row.Row.{Row}
use Rattle.bor_records.specs.declared.links.node.Node.{Node}
use Rattle.bor_records.specs.Links.Rows.{shown_of, is_entity_info}
use Rattle.bor_records.specs.Links.Shown.{Shown, info_of}
use Rattle.bor_register.specs.declared.caller.Caller.{Caller}
use Rattle.bor_register.specs.declared.caller.Caller.TheVariants.{Agent}
use Rattle.bor_register.specs.Register.{Register, caller_of}
use Rattle.bor_desk.specs.Operations.Sight.{seen_by}
use Rattle.bor_desk.specs.declared.refusal.Refusal.TheVariants.{NoEntity}
use Rattle.bor_desk.specs.declared.request.Request.{Request}
use Rattle.bor_desk.specs.declared.request.Request.TheVariants as of
use Rattle.bor_desk.specs.declared.request.AgentRequest.{AgentRequest}
use Rattle.bor_desk.specs.declared.request.AgentRequest.TheVariants as ask
use Rattle.bor_desk.specs.declared.reply.DeskReply.{DeskReply}
use Rattle.bor_desk.specs.Step.{Answer, report, evidence, refused, step, agent_step}
use Rattle.bor_desk.proofs.OnEvidence.OneWay.{names_the_joined}
use Rattle.bor_desk.specs.Outcomes.{IsTold}
use Rattle.bor_wire.specs.Spelling.Spell.{Spelled}
use Rattle.bor_wire.specs.Rendering.Statuses.{desk_status}
use Rattle.bor_wire.specs.Rendering.Replies.{Said, answered, status_of}
use Rattle.bor_wire.specs.Inputs.{IsSaid, after}
use Rattle.bor_wire.specs.Runs.{AreReplies}
use Rattle.bor_wire.specs.Reports.{NamesTheJoined, TellsTheEvidence, FindsTheIdentified, IsExact, AreReports}

-- ---- by a reply with status 200

-- the entity was seen
of_seen : (is_entity : Bool) (answer : Answer) (reply : DeskReply) → IsTold (if is_entity then answer else refused NoEntity) reply → desk_status reply ≡ 200 → IsTold answer reply
of_seen true answer reply told status = told
of_seen false answer reply told status = absurd (omega (arith, ap desk_status told, status))

-- an agent asked what only agents may ask
by_an_agent : (r : Register) (caller : Option Caller) (request : AgentRequest) (reply : DeskReply) → IsTold (step r caller (of.Agent request)).answer reply → desk_status reply ≡ 200
    → (name : List ℕ) × (caller ≡ Some (Agent name)) × IsTold (agent_step r name request).answer reply
by_an_agent r (Some (Agent name)) request reply told status = (name, refl, told)
by_an_agent r caller request reply told status = absurd (omega (arith, ap desk_status told, status))

caller_names : (r : Register) (token : List ℕ) (entity : Node) (date : Option ℤ) (reply : DeskReply) → IsTold (step r (caller_of token r) (of.Agent (ask.Chains entity date))).answer reply → desk_status reply ≡ 200 → NamesTheJoined r token entity date (answered reply)
caller_names r token entity date reply told status =
    let asks = by_an_agent r (caller_of token r) (ask.Chains entity date) reply told status in
    let day : ℤ = unwrap_or date r.day in
    let shown : Shown = shown_of day (seen_by asks.0 r) in
    let names = of_seen (is_entity_info (info_of shown entity)) (report entity day shown) reply asks.2 status in
    record { name = asks.0; caller = asks.1; persons = names.0; joined = names.1; told = ap answered names.2 }

caller_tells : (r : Register) (token : List ℕ) (entity : Node) (date : Option ℤ) (reply : DeskReply) → IsTold (step r (caller_of token r) (of.Agent (ask.Evidence entity date))).answer reply → desk_status reply ≡ 200 → TellsTheEvidence r token entity date (answered reply)
caller_tells r token entity date reply told status =
    let asks = by_an_agent r (caller_of token r) (ask.Evidence entity date) reply told status in
    let day : ℤ = unwrap_or date r.day in
    let seen : List Row = seen_by asks.0 r in
    let tells = of_seen (is_entity_info (info_of (shown_of day seen) entity)) (evidence entity day seen) reply asks.2 status in
    record { name = asks.0; caller = asks.1; evidence = tells.0; is_evidence = tells.1; joined = names_the_joined.joined seen entity day tells.0 tells.1; told = ap answered tells.2 }

caller_finds : (r : Register) (token : List ℕ) (identifier : Identifier) (date : Option ℤ) (reply : DeskReply) → IsTold (step r (caller_of token r) (of.Agent (ask.Entities identifier date))).answer reply → desk_status reply ≡ 200 → FindsTheIdentified r token identifier date (answered reply)
caller_finds r token identifier date reply told status =
    let asks = by_an_agent r (caller_of token r) (ask.Entities identifier date) reply told status in
    record { name = asks.0; caller = asks.1; records = asks.2.0; are_records = asks.2.1; told = ap answered asks.2.2 }

-- ---- what is said

pub exact : (r : Register) (spelled : Spelled) (said : Said) → IsSaid r spelled said → IsExact r spelled said
exact r (Err why) said h = tt
exact r (Ok asked) said h = record {
  report = λ entity date is status.
      subst (NamesTheJoined r asked.token entity date) (sym h.2)
      (caller_names r asked.token entity date h.0 (told (of.Agent (ask.Chains entity date)) is) (sym (ap status_of h.2) ∙ status));
  evidence = λ entity date is status.
      subst (TellsTheEvidence r asked.token entity date) (sym h.2)
      (caller_tells r asked.token entity date h.0 (told (of.Agent (ask.Evidence entity date)) is) (sym (ap status_of h.2) ∙ status));
  found = λ identifier date is status.
      subst (FindsTheIdentified r asked.token identifier date) (sym h.2)
      (caller_finds r asked.token identifier date h.0 (told (of.Agent (ask.Entities identifier date)) is) (sym (ap status_of h.2) ∙ status));
}
  where
    told : (request : Request) → asked.request ≡ request → IsTold (step r (caller_of asked.token r) request).answer h.0
    told request is = subst (λ request. IsTold (step r (caller_of asked.token r) request).answer h.0) is h.1

pub reports : (r : Register) (ss : List Spelled) (bs : List (List ℕ)) → AreReplies r ss bs → AreReports r ss bs
reports r [] [] h = tt
reports r (s ∷ ss) (b ∷ bs) h = ((h.0.0, h.0.1, exact r s h.0.0 h.0.1, h.0.2), reports (after r s) ss bs h.1)
reports r ss bs h = absurd h
