-- The values that replies show, as JSON with their members in the order of their keys.
use Rattle.std.specs.Prelude.{ℕ, ℤ, List, map, Option, Some, None, codes}
use Rattle.serde_json.specs.Data.{Data, null, boolean, number, string, array, object, Members}
use Rattle.serde_json.specs.Data.{no_members, member, unsigned}
use Rattle.serde_json.specs.View.{items_of}
use Rattle.bor_terms.specs.Day.{day_text}
use Rattle.bor_terms.specs.Span.{Range}
use Rattle.bods_read.specs.declared.statement.Statement.{Statement}
use Rattle.bods_read.specs.declared.details.Details.{Details}
use Rattle.bods_read.specs.declared.details.Details.TheVariants.{Entity, Person, Relationship}
use Rattle.bods_read.specs.declared.details.Identifier.{Identifier}
use Rattle.bods_read.specs.declared.interest.Interest.{Interest}
use Rattle.bods_read.specs.Words.{type_word, type_of, status_word, entity_word, person_word}
use Rattle.bods_read.specs.Words.{interest_word, directness_word}
use Rattle.bor_records.specs.declared.row.Entry.{Entry}
use Rattle.bor_records.specs.declared.links.node.Node.{Node}
use Rattle.bor_chains.specs.declared.line.PersonLine.{PersonLine}
use Rattle.bor_desk.specs.declared.evidence.lines.EntityEvidence.{EntityEvidence}
use Rattle.bor_desk.specs.declared.evidence.lines.LinkEvidence.{LinkEvidence}
use Rattle.bor_desk.specs.declared.evidence.lines.PersonEvidence.{PersonEvidence}
use Rattle.bor_desk.specs.declared.evidence.lines.RecordEvidence.{RecordEvidence}
use Rattle.bor_register.specs.declared.agents.AgentLine.{AgentLine}
use Rattle.bor_register.specs.declared.filing.FilingLine.{FilingLine}
use Rattle.bor_register.specs.declared.filing.Outward.{Outward}
use Rattle.bor_register.specs.declared.filing.State.{State}
use Rattle.bor_register.specs.Publication.{state_word}
use Rattle.bor_desk.specs.Texts.{settled_word}

-- ---- parts

-- an array of what is shown of each item, in order
abbrev pub list_data : {A : Type 0} → (A → Data) → List A → Data
list_data shown items = array (items_of (map shown items))

-- the JSON of a value, or null where there is none
abbrev pub maybe_data : {A : Type 0} → (A → Data) → Option A → Data
maybe_data shown None = null
maybe_data shown (Some value) = shown value

-- a day by its text
abbrev pub day_data : ℤ → Data
day_data day = string (day_text day)

abbrev pub count_data : ℕ → Data
count_data n = number (unsigned n)

-- ---- filings

-- a filing that was lodged or withdrawn
abbrev pub filing_data : ℤ → ℕ → State → Data
filing_data due filing state =
    object
    (member (codes "due") (day_data due)
    (member (codes "filing") (count_data filing)
    (member (codes "state") (string (state_word state)) no_members)))

-- a line of an agent's own filings
abbrev pub line_data : FilingLine → Data
line_data line =
    object
    (member (codes "due") (day_data line.due)
    (member (codes "filing") (count_data line.number)
    (member (codes "key") (string line.key)
    (member (codes "state") (string (state_word line.state)) no_members))))

-- ---- published filings

-- a statement, with its settled status
abbrev pub statement_data : Statement → Data
statement_data s =
    object
    (member (codes "date") (day_data s.day)
    (member (codes "declaration") (string s.declaration)
    (member (codes "id") (string s.id)
    (member (codes "record") (string s.rec)
    (member (codes "status") (string (settled_word s.status))
    (member (codes "type") (string (type_word (type_of s.details))) no_members))))))

-- the outward form of a filing, which all see: neither its number, nor its key, nor its bytes
abbrev pub outward_data : Outward → Data
outward_data o =
    object
    (member (codes "agent") (string o.agent)
    (member (codes "due") (day_data o.due)
    (member (codes "statements") (list_data statement_data o.statements) no_members)))

-- ---- records

abbrev pub identifier_data : Identifier → Data
identifier_data i =
    object
    (member (codes "id") (string i.id)
    (member (codes "scheme") (string i.scheme) no_members))

-- a share in percent, each end closed or open
abbrev pub share_data : Range → Data
share_data share =
    object
    (member (codes "high") (count_data share.high)
    (member (codes "highOpen") (boolean share.high_open)
    (member (codes "low") (count_data share.low)
    (member (codes "lowOpen") (boolean share.low_open) no_members))))

abbrev pub interest_data : Interest → Data
interest_data i =
    object
    (member (codes "directness") (string (directness_word i.directness))
    (member (codes "share") (maybe_data share_data i.share)
    (member (codes "type") (string (interest_word i.kind)) no_members)))

-- the details of an entity, a person or a relationship; an end that names no record is null
abbrev pub details_data : Details → Data
details_data (Entity kind name identifiers) =
    object
    (member (codes "identifiers") (list_data identifier_data identifiers)
    (member (codes "kind") (string (entity_word kind))
    (member (codes "name") (maybe_data string name) no_members)))
details_data (Person kind name) =
    object
    (member (codes "kind") (string (person_word kind))
    (member (codes "name") (maybe_data string name) no_members))
details_data (Relationship subject party interests) =
    object
    (member (codes "interestedParty") (maybe_data string party)
    (member (codes "interests") (list_data interest_data interests)
    (member (codes "subject") (maybe_data string subject) no_members)))

-- an open record by its latest statement
abbrev pub entry_data : Entry → Data
entry_data e =
    let s = e.statement in
    object
    (member (codes "date") (day_data s.day)
    (member (codes "details") (details_data s.details)
    (member (codes "id") (string s.id)
    (member (codes "record") (string s.rec)
    (member (codes "status") (string (status_word e.status))
    (member (codes "type") (string (type_word (type_of s.details))) no_members))))))

-- the open records on a date
abbrev pub snapshot_data : ℤ → List Entry → Data
snapshot_data date records =
    object
    (member (codes "date") (day_data date)
    (member (codes "records") (list_data entry_data records) no_members))

-- ---- who stands behind an entity

abbrev pub person_data : PersonLine → Data
person_data p =
    object
    (member (codes "agent") (string p.node.agent)
    (member (codes "declaration") (string p.node.declaration)
    (member (codes "links") (count_data p.links)
    (member (codes "name") (maybe_data string p.info.name)
    (member (codes "record") (string p.node.rec) no_members)))))

-- the entity, the date, and the persons
abbrev pub chains_data : Node → ℤ → List PersonLine → Data
chains_data entity date persons =
    object
    (member (codes "agent") (string entity.agent)
    (member (codes "date") (day_data date)
    (member (codes "declaration") (string entity.declaration)
    (member (codes "persons") (list_data person_data persons)
    (member (codes "record") (string entity.rec) no_members)))))

-- ---- why they are named

-- a record, by its key
abbrev pub key_data : Node → Data
key_data n =
    object
    (member (codes "agent") (string n.agent)
    (member (codes "declaration") (string n.declaration)
    (member (codes "record") (string n.rec) no_members)))

abbrev pub person_evidence_data : PersonEvidence → Data
person_evidence_data p =
    object
    (member (codes "agent") (string p.node.agent)
    (member (codes "declaration") (string p.node.declaration)
    (member (codes "first") (key_data p.first)
    (member (codes "links") (count_data p.links)
    (member (codes "name") (maybe_data string p.info.name)
    (member (codes "record") (string p.node.rec) no_members))))))

abbrev pub link_evidence_data : LinkEvidence → Data
link_evidence_data l =
    object
    (member (codes "agent") (string l.node.agent)
    (member (codes "declaration") (string l.node.declaration)
    (member (codes "next") (maybe_data key_data l.next)
    (member (codes "record") (string l.node.rec)
    (member (codes "same") (list_data key_data l.same) no_members)))))

-- an open record by its latest statement, as a snapshot shows it, with its agent and its
-- declaration
abbrev pub record_evidence_data : RecordEvidence → Data
record_evidence_data x =
    let s = x.entry.statement in
    object
    (member (codes "agent") (string x.agent)
    (member (codes "date") (day_data s.day)
    (member (codes "declaration") (string s.declaration)
    (member (codes "details") (details_data s.details)
    (member (codes "id") (string s.id)
    (member (codes "record") (string s.rec)
    (member (codes "status") (string (status_word x.entry.status))
    (member (codes "type") (string (type_word (type_of s.details))) no_members))))))))

-- the entity, the date, the links, the persons and the records
abbrev pub evidence_data : Node → ℤ → EntityEvidence → Data
evidence_data entity date evidence =
    object
    (member (codes "agent") (string entity.agent)
    (member (codes "date") (day_data date)
    (member (codes "declaration") (string entity.declaration)
    (member (codes "links") (list_data link_evidence_data evidence.links)
    (member (codes "persons") (list_data person_evidence_data evidence.persons)
    (member (codes "record") (string entity.rec)
    (member (codes "records") (list_data record_evidence_data evidence.records) no_members)))))))

-- ---- who has an identifier

-- the date, the identifier, and the open records of its entities
abbrev pub entities_data : Identifier → ℤ → List RecordEvidence → Data
entities_data identifier date records =
    object
    (member (codes "date") (day_data date)
    (member (codes "entities") (list_data record_evidence_data records)
    (member (codes "id") (string identifier.id)
    (member (codes "scheme") (string identifier.scheme) no_members))))

-- ---- the registrar's

-- the register's day, once it is moved
abbrev pub moved_data : ℤ → Data
moved_data day = object (member (codes "day") (day_data day) no_members)

-- the agent that is enrolled, or whose token is renewed
abbrev pub agent_data : List ℕ → Data
agent_data name = object (member (codes "agent") (string name) no_members)

-- an agent, with how many filings it has published
abbrev pub agent_line_data : AgentLine → Data
agent_line_data line =
    object
    (member (codes "agent") (string line.agent)
    (member (codes "published") (count_data line.published) no_members))

-- the agents and the day
abbrev pub register_data : List AgentLine → ℤ → Data
register_data agents day =
    object
    (member (codes "agents") (list_data agent_line_data agents)
    (member (codes "day") (day_data day) no_members))

-- ---- refusals

abbrev pub with_field : Option (List ℕ) → Members → Members
with_field None members = members
with_field (Some field) members = member (codes "field") (string field) members

abbrev pub with_place : Option ℕ → Members → Members
with_place None members = members
with_place (Some place) members = member (codes "place") (count_data place) members

-- a refusal by its name, with the field and the place where it has them
abbrev pub refusal_data : List ℕ → Option ℕ → Option (List ℕ) → Data
refusal_data name place field =
    object (with_field field (with_place place (member (codes "refusal") (string name) no_members)))
