-- The evidence of an entity: why the persons behind it are named, and what the records say that
-- this stands on.
use Rattle.std.specs.Prelude.{◌≡◌, ℤ, List, [], ◌∷◌, map, IsTrue, Contains, Some, length, MatchBool}
use Rattle.std.specs.Option.{option_map, option_map_or}
use Rattle.std.specs.Ordering.{nat_cmp, ordering_then, is_le}
use Rattle.std.specs.declared.cmp.Ordering.{Ordering}
use Rattle.std.specs.Cmp.Lexicographic.{slice_cmp}
use Rattle.std.specs.List.Sorted.{IsStrictlySortedBy}
use Rattle.bor_records.specs.declared.row.Row.{Row}
use Rattle.bor_records.specs.declared.links.node.Node.{Node}
use Rattle.bor_records.specs.Snapshot.{entry_of}
use Rattle.bor_records.specs.Links.Nodes.{node_cmp, same_node, link_record}
use Rattle.bor_records.specs.Links.Shown.{Shown}
use Rattle.bor_records.specs.Links.Aliases.{IsAliasPath}
use Rattle.bor_records.specs.Links.Series.{stated, open_at}
use Rattle.bor_records.specs.Links.Rows.{shown_of}
use Rattle.bor_chains.specs.declared.line.PersonLine.{PersonLine}
use Rattle.bor_chains.specs.declared.tree.Evidence.{Evidence}
use Rattle.bor_chains.specs.declared.tree.EvidenceLink.{EvidenceLink}
use Rattle.bor_chains.specs.declared.tree.EvidencePerson.{EvidencePerson}
use Rattle.bor_chains.specs.Lines.{reading_cmp}
use Rattle.bor_chains.specs.Evidence.{AreEvidenced}
use Rattle.bor_desk.specs.declared.evidence.lines.EntityEvidence.{EntityEvidence}
use Rattle.bor_desk.specs.declared.evidence.lines.LinkEvidence.{LinkEvidence}
use Rattle.bor_desk.specs.declared.evidence.lines.PersonEvidence.{PersonEvidence}
use Rattle.bor_desk.specs.declared.evidence.lines.RecordEvidence.{RecordEvidence}

-- ---- by which records two entities are one

-- a list from one to the other, both included, in which neighbours are aliases
abbrev pub IsWay : Shown → Node → List Node → Node → Type 0
IsWay s a [] b = ⊥
IsWay s a (c ∷ cs) b = (c ≡ a) × IsAliasPath s a cs b

-- a shorter list comes first; those of one length are compared record by record
abbrev pub way_cmp : List Node → List Node → Ordering
way_cmp cs ds = ordering_then (nat_cmp (length cs) (length ds)) (slice_cmp node_cmp cs ds)

-- a list that comes after no other one
pub record IsLeastWay (s : Shown) (a : Node) (way : List Node) (b : Node) : Type 0 where
  pub is_way : IsWay s a way b
  pub least : (other : List Node) → IsWay s a other b → IsTrue (is_le (way_cmp way other))

-- none where they are one record
abbrev pub IsBridge : Shown → Node → Node → List Node → Type 0
IsBridge s a b same = MatchBool (same_node a b) (same ≡ []) (IsLeastWay s a same b)

-- ---- persons and links

abbrev pub person_evidence : EvidencePerson → PersonEvidence
person_evidence p =
    record { node = p.node; info = p.info; first = link_record p.first; links = p.links }

-- the line of a report that shows no chain
abbrev pub without_first : PersonEvidence → PersonLine
without_first p = record { node = p.node; info = p.info; links = p.links }

-- where a link leads: to the party of the one that follows it, or to the entity that was asked for
abbrev pub goal_of : Node → EvidenceLink → Node
goal_of entity x = option_map_or (λ l. l.party) x.next entity

pub record IsLinkEvidence (s : Shown) (entity : Node) (x : EvidenceLink)
    (told : LinkEvidence) : Type 0 where
  pub node : told.node ≡ link_record x.link
  pub next : told.next ≡ option_map link_record x.next
  pub same : IsBridge s x.link.subject (goal_of entity x) told.same

abbrev pub AreLinkEvidence : Shown → Node → List EvidenceLink → List LinkEvidence → Type 0
AreLinkEvidence s entity [] [] = Unit {0}
AreLinkEvidence s entity (x ∷ xs) (t ∷ ts) =
    IsLinkEvidence s entity x t × AreLinkEvidence s entity xs ts
AreLinkEvidence s entity xs ts = ⊥

-- ---- records

-- the record stands in the evidence
pub data IsMentioned (entity : Node) (tree : Evidence) (links : List LinkEvidence)
    (n : Node) : Type 0 where
  as_entity : n ≡ entity → IsMentioned entity tree links n
  as_person : (p : EvidencePerson) → Contains tree.persons p → n ≡ p.node
      → IsMentioned entity tree links n
  as_link : (x : EvidenceLink) → Contains tree.links x → n ≡ link_record x.link
      → IsMentioned entity tree links n
  as_subject : (x : EvidenceLink) → Contains tree.links x → n ≡ x.link.subject
      → IsMentioned entity tree links n
  as_party : (x : EvidenceLink) → Contains tree.links x → n ≡ x.link.party
      → IsMentioned entity tree links n
  as_same : (l : LinkEvidence) → Contains links l → Contains l.same n
      → IsMentioned entity tree links n

abbrev pub record_evidence : Row → RecordEvidence
record_evidence r = record { agent = r.agent; entry = entry_of r }

-- whose record it is
abbrev pub record_node : RecordEvidence → Node
record_node x = stated x.agent x.entry.statement

-- each mentioned record is open, and these are exactly what they say on the day, each once, by
-- agent, declaration and record
pub record AreRecords (day : ℤ) (seen : List Row) (mentioned : Node → Type 0)
    (records : List RecordEvidence) : Type 0 where
  pub each : (x : RecordEvidence) → Contains records x → mentioned (record_node x)
      × ((r : Row) × (open_at day (record_node x) seen ≡ Some r) × (x ≡ record_evidence r))
  pub every : (n : Node) → mentioned n
      → (r : Row) × (open_at day n seen ≡ Some r) × Contains records (record_evidence r)
  pub sorted : IsStrictlySortedBy reading_cmp (map record_node records)

-- ---- the evidence of an entity on a day, by the rows that the caller sees

pub record IsEntityEvidence (seen : List Row) (entity : Node) (day : ℤ)
    (told : EntityEvidence) : Type 0 where
  pub tree : Evidence
  pub evidenced : AreEvidenced (shown_of day seen) entity tree
  pub persons : told.persons ≡ map person_evidence tree.persons
  pub links : AreLinkEvidence (shown_of day seen) entity tree.links told.links
  pub records : AreRecords day seen (IsMentioned entity tree told.links) told.records
