-- The records that stand in evidence, in the order of a reply.
use Rattle.std.specs.Prelude.{◌≡◌, ◌↔◌, ◌⊎◌, ℤ, List, [], ◌∷◌, map, Contains, Option, None, Some}
use Rattle.std.specs.BTreeSet.{BTreeSet}
use Rattle.std.specs.List.Sorted.{IsStrictlySortedBy}
use Rattle.bor_records.specs.declared.row.Row.{Row}
use Rattle.bor_records.specs.declared.links.node.Node.{Node}
use Rattle.bor_records.specs.Links.Nodes.{link_record}
use Rattle.bor_records.specs.Links.Series.{open_at}
use Rattle.bor_chains.specs.declared.tree.Evidence.{Evidence}
use Rattle.bor_chains.specs.declared.tree.EvidenceLink.{EvidenceLink}
use Rattle.bor_chains.specs.Lines.{reading_cmp}
use Rattle.bor_desk.specs.declared.evidence.keys.Key.{Key}
use Rattle.bor_desk.specs.declared.evidence.lines.LinkEvidence.{LinkEvidence}
use Rattle.bor_desk.specs.declared.evidence.lines.RecordEvidence.{RecordEvidence}
use Rattle.bor_desk.specs.Evidence.{IsMentioned, record_evidence}

-- exactly the records that stand in the evidence, each once, by agent, declaration and record
pub record AreMentioned (entity : Node) (tree : Evidence) (links : List LinkEvidence)
    (nodes : List Node) : Type 0 where
  pub each : (n : Node) → Contains nodes n ↔ IsMentioned entity tree links n
  pub sorted : IsStrictlySortedBy reading_cmp nodes

-- ---- how they are gathered, and what they say; for clauses of private functions alone

abbrev pub key_of : Node → Key
key_of n = record { agent = n.agent; declaration = n.declaration; rec = n.rec }

abbrev pub node_of : Key → Node
node_of k = record { agent = k.agent; declaration = k.declaration; rec = k.rec }

-- the records that have these keys
abbrev pub nodes_in : BTreeSet Key → List Node
nodes_in keys = map node_of keys.keys

-- the new records are the old ones and those of which P holds
pub record IsGained (P : Node → Type 0) (old new : List Node) : Type 0 where
  pub kept : (n : Node) → Contains old n → Contains new n
  pub every : (n : Node) → P n → Contains new n
  pub only : (n : Node) → Contains new n → Contains old n ⊎ P n

-- P holds of one of these and the record
abbrev pub IsOfAny : {X : Type 0} → List X → (X → Node → Type 0) → Node → Type 0
IsOfAny {X} xs P n = (x : X) × Contains xs x × P x n

-- the record of a link, or of an end of it
pub data IsOfLink (x : EvidenceLink) (n : Node) : Type 0 where
  is_record : n ≡ link_record x.link → IsOfLink x n
  is_subject : n ≡ x.link.subject → IsOfLink x n
  is_party : n ≡ x.link.party → IsOfLink x n

-- the statements of the open ones of these records
abbrev pub record_before : Option Row → List RecordEvidence → List RecordEvidence
record_before None records = records
record_before (Some r) records = record_evidence r ∷ records

abbrev pub records_at : ℤ → List Row → List Node → List RecordEvidence
records_at day seen [] = []
records_at day seen (n ∷ ns) = record_before (open_at day n seen) (records_at day seen ns)
