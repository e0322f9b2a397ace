-- The meaning of the bytes of a report on chains, of evidence, and of a list of entities.
use Rattle.std.specs.Prelude.{◌≡◌, ℕ, ℤ, ◌<◌, ◌^◌, List, Option, None, Some, All}
use Rattle.std.specs.List.{AllZip}
use Rattle.bor_terms.specs.Day.{day_text}
use Rattle.bor_terms.specs.Span.{Range}
use Rattle.bods_read.specs.declared.details.Details.{Details}
use Rattle.bods_read.specs.declared.details.Details.TheVariants.{Relationship}
use Rattle.bods_read.specs.declared.details.Identifier.{Identifier}
use Rattle.bods_read.specs.declared.interest.Interest.{Interest}
use Rattle.bor_records.specs.declared.links.node.Node.{Node}
use Rattle.bor_chains.specs.declared.line.PersonLine.{PersonLine}
use Rattle.bor_desk.specs.declared.evidence.lines.EntityEvidence.{EntityEvidence}
use Rattle.bor_desk.specs.declared.evidence.lines.RecordEvidence.{RecordEvidence}
use Rattle.bor_desk.specs.declared.reply.DeskReply.TheVariants.{Chains, Evidence, Entities}
use Rattle.bor_wire.specs.Rendering.Replies.{answered, bytes_of}

-- each number of links is below 2^64, as each is that is counted
abbrev pub AreInRange : List PersonLine → Type 0
AreInRange persons = All (λ p. p.links < 2 ^ 64) persons

abbrev pub report_bytes : Node → ℤ → List PersonLine → List ℕ
report_bytes entity day persons = bytes_of (answered (Chains entity day persons))

-- Two reports of the same bytes are on one entity and one day, as it is written, and list the same
-- persons, with the same names and the same least numbers of links.
pub record IsSameReport (entity other : Node) (day date : ℤ)
    (persons lines : List PersonLine) : Type 0 where
  pub entity_is : entity ≡ other
  pub day_is : day_text day ≡ day_text date
  pub persons_are : persons ≡ lines

-- The bytes of a report determine its persons.
abbrev pub BytesGivePersons : Type 0
BytesGivePersons =
    (entity other : Node) (day date : ℤ) (persons lines : List PersonLine) → AreInRange persons
    → AreInRange lines →
    report_bytes entity day persons ≡ report_bytes other date lines
    → IsSameReport entity other day date persons lines

-- ---- evidence

abbrev pub IsShareCounted : Option Range → Type 0
IsShareCounted None = Unit {0}
IsShareCounted (Some share) = (share.high < 2 ^ 64) × (share.low < 2 ^ 64)

abbrev pub AreSharesCounted : Details → Type 0
AreSharesCounted (Relationship subject party interests) =
    All (λ (i : Interest). IsShareCounted i.share) interests
AreSharesCounted details = Unit {0}

abbrev pub AreRecordsCounted : List RecordEvidence → Type 0
AreRecordsCounted records = All (λ x. AreSharesCounted x.entry.statement.details) records

-- each number of links is below 2^64, and each end of a share, as each is that is counted or read
pub record IsInRange (told : EntityEvidence) : Type 0 where
  pub persons : All (λ p. p.links < 2 ^ 64) told.persons
  pub shares : AreRecordsCounted told.records

abbrev pub evidence_bytes : Node → ℤ → EntityEvidence → List ℕ
evidence_bytes entity day told = bytes_of (answered (Evidence entity day told))

-- Evidence of the same bytes is of one entity and one day, as it is written, and has the same
-- persons with the same first links, and the same links with those that follow them and the same
-- records between.
pub record IsSameEvidence (entity other : Node) (day date : ℤ)
    (told said : EntityEvidence) : Type 0 where
  pub entity_is : entity ≡ other
  pub day_is : day_text day ≡ day_text date
  pub persons_are : told.persons ≡ said.persons
  pub links_are : told.links ≡ said.links

-- The bytes of evidence determine its persons and its links.
abbrev pub BytesGiveEvidence : Type 0
BytesGiveEvidence =
    (entity other : Node) (day date : ℤ) (told said : EntityEvidence) → IsInRange told
    → IsInRange said →
    evidence_bytes entity day told ≡ evidence_bytes other date said
    → IsSameEvidence entity other day date told said

-- ---- the entities of an identifier

abbrev pub entities_bytes : Identifier → ℤ → List RecordEvidence → List ℕ
entities_bytes identifier day records = bytes_of (answered (Entities identifier day records))

-- one record of one agent, as of one statement
pub record IsSameRecord (x y : RecordEvidence) : Type 0 where
  pub agent_is : x.agent ≡ y.agent
  pub declaration_is : x.entry.statement.declaration ≡ y.entry.statement.declaration
  pub record_is : x.entry.statement.rec ≡ y.entry.statement.rec
  pub id_is : x.entry.statement.id ≡ y.entry.statement.id

-- Lists of entities of the same bytes are of one identifier and one day, as it is written, and have
-- the same records in the same order.
pub record AreSameEntities (identifier other : Identifier) (day date : ℤ)
    (records found : List RecordEvidence) : Type 0 where
  pub identifier_is : identifier ≡ other
  pub day_is : day_text day ≡ day_text date
  pub records_are : AllZip IsSameRecord records found

-- The bytes of the entities of an identifier determine the identifier and their records.
abbrev pub BytesGiveEntities : Type 0
BytesGiveEntities =
    (identifier other : Identifier) (day date : ℤ) (records found : List RecordEvidence)
    → AreRecordsCounted records → AreRecordsCounted found →
    entities_bytes identifier day records ≡ entities_bytes other date found
    → AreSameEntities identifier other day date records found
