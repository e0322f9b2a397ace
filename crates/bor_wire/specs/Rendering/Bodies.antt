-- The body of each reply: compact JSON, with the keys of each object in byte order.
use Rattle.std.specs.Prelude.{ℕ, ℤ, List, Option, None, codes}
use Rattle.std.specs.Option.{option_map}
use Rattle.serde_json.specs.Written.{compact_text}
use Rattle.bods_read.specs.Words.{field_word}
use Rattle.bods_read.specs.declared.details.Identifier.{Identifier}
use Rattle.bor_records.specs.declared.row.Entry.{Entry}
use Rattle.bor_records.specs.declared.links.node.Node.{Node}
use Rattle.bor_chains.specs.declared.line.PersonLine.{PersonLine}
use Rattle.bor_register.specs.declared.agents.AgentLine.{AgentLine}
use Rattle.bor_register.specs.declared.filing.FilingLine.{FilingLine}
use Rattle.bor_register.specs.declared.filing.Outward.{Outward}
use Rattle.bor_register.specs.declared.filing.State.{State}
use Rattle.bor_desk.specs.declared.refusal.Refusal as desk
use Rattle.bor_desk.specs.declared.evidence.lines.EntityEvidence.{EntityEvidence}
use Rattle.bor_desk.specs.declared.evidence.lines.RecordEvidence.{RecordEvidence}
use Rattle.bor_desk.specs.declared.reply.DeskReply.{DeskReply}
use Rattle.bor_desk.specs.declared.reply.DeskReply.TheVariants as tell
use Rattle.bor_desk.specs.Refusals.{refusal_name, refusal_place, refusal_field}
use Rattle.bor_http.specs.declared.incoming.fault.Refusal.{Refusal}
use Rattle.bor_http.specs.Incoming.Words as wire
use Rattle.bor_wire.specs.Rendering.Values.{list_data, filing_data, line_data, outward_data}
use Rattle.bor_wire.specs.Rendering.Values.{snapshot_data, chains_data, evidence_data}
use Rattle.bor_wire.specs.Rendering.Values.{entities_data, moved_data, agent_data, register_data}
use Rattle.bor_wire.specs.Rendering.Values.{refusal_data}

-- ---- texts

unfoldable pub filing_text : ℤ → ℕ → State → List ℕ
filing_text due filing state = compact_text (filing_data due filing state)

unfoldable pub lines_text : List FilingLine → List ℕ
lines_text lines = compact_text (list_data line_data lines)

unfoldable pub published_text : List Outward → List ℕ
published_text outwards = compact_text (list_data outward_data outwards)

unfoldable pub snapshot_text : ℤ → List Entry → List ℕ
snapshot_text date records = compact_text (snapshot_data date records)

unfoldable pub chains_text : Node → ℤ → List PersonLine → List ℕ
chains_text entity date persons = compact_text (chains_data entity date persons)

unfoldable pub evidence_text : Node → ℤ → EntityEvidence → List ℕ
evidence_text entity date evidence = compact_text (evidence_data entity date evidence)

unfoldable pub entities_text : Identifier → ℤ → List RecordEvidence → List ℕ
entities_text identifier date records = compact_text (entities_data identifier date records)

unfoldable pub moved_text : ℤ → List ℕ
moved_text day = compact_text (moved_data day)

unfoldable pub agent_text : List ℕ → List ℕ
agent_text name = compact_text (agent_data name)

unfoldable pub register_text : List AgentLine → ℤ → List ℕ
register_text agents day = compact_text (register_data agents day)

unfoldable pub refusal_text : List ℕ → Option ℕ → Option (List ℕ) → List ℕ
refusal_text name place field = compact_text (refusal_data name place field)

-- ---- the desk's replies

abbrev pub desk_refusal_text : desk.Refusal → List ℕ
desk_refusal_text why =
    refusal_text (refusal_name why) (refusal_place why) (option_map field_word (refusal_field why))

-- a fault of the store, want of memory too, has one name in replies
abbrev pub desk_body : DeskReply → List ℕ
desk_body (tell.Lodged lodged) = filing_text lodged.due lodged.number lodged.state
desk_body (tell.Withdrawn line) = filing_text line.due line.number line.state
desk_body (tell.Filings lines) = lines_text lines
desk_body (tell.File bytes) = bytes
desk_body (tell.Published outwards) = published_text outwards
desk_body (tell.Snapshot date records) = snapshot_text date records
desk_body (tell.Chains entity date persons) = chains_text entity date persons
desk_body (tell.Evidence entity date evidence) = evidence_text entity date evidence
desk_body (tell.Entities identifier date records) = entities_text identifier date records
desk_body (tell.Day day) = moved_text day
desk_body (tell.Enrolled name) = agent_text name
desk_body (tell.Renewed name) = agent_text name
desk_body (tell.Register agents day) = register_text agents day
desk_body (tell.Refused why) = desk_refusal_text why
desk_body (tell.Failed fault) = refusal_text (codes "StoreFault") None None

-- ---- the refusals of bytes that spell no request

abbrev pub wire_refusal_text : Refusal → List ℕ
wire_refusal_text why =
    refusal_text (wire.refusal_word why) None (option_map wire.name_word (wire.refused_name why))
