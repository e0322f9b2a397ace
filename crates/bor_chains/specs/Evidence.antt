-- Why persons are named: of each the least of its chains, and these chains as a tree of links.
use Rattle.std.specs.Prelude.{◌≡◌, ◌↔◌, ◌⊎◌, List, [], ◌∷◌, IsTrue, Contains, None, Some}
use Rattle.std.specs.Prelude.{length}
use Rattle.std.specs.Ordering.{nat_cmp, ordering_then, is_le}
use Rattle.std.specs.declared.cmp.Ordering.{Ordering}
use Rattle.std.specs.Cmp.Lexicographic.{slice_cmp}
use Rattle.std.specs.List.Sorted.{IsStrictlySortedBy}
use Rattle.bor_records.specs.declared.links.node.Node.{Node}
use Rattle.bor_records.specs.declared.links.node.Link.{Link}
use Rattle.bor_records.specs.declared.links.node.PersonInfo.{PersonInfo}
use Rattle.bor_records.specs.Links.Nodes.{link_cmp}
use Rattle.bor_records.specs.Links.Shown.{Shown, IsPerson}
use Rattle.bor_chains.specs.declared.line.PersonLine.{PersonLine}
use Rattle.bor_chains.specs.declared.tree.Evidence.{Evidence}
use Rattle.bor_chains.specs.declared.tree.EvidenceLink.{EvidenceLink}
use Rattle.bor_chains.specs.declared.tree.EvidencePerson.{EvidencePerson}
use Rattle.bor_chains.specs.Lines.{evidence_cmp, tree_cmp}
use Rattle.bor_chains.specs.Chains.{IsChain, IsJoinedBy}

-- a shorter chain comes first; those of one length are compared link by link from the person's end
-- on
abbrev pub chain_cmp : List Link → List Link → Ordering
chain_cmp ls ks = ordering_then (nat_cmp (length ls) (length ks)) (slice_cmp link_cmp ls ks)

abbrev pub IsNotAfter : List Link → List Link → Type 0
IsNotAfter ls ks = IsTrue (is_le (chain_cmp ls ks))

-- A chain from the person that comes after no other one: nodes and links alone decide which it is,
-- in whatever order they were listed.
pub record IsEvidence (s : Shown) (person : Node) (ls : List Link) (e : Node) : Type 0 where
  pub chain : IsChain s person ls e
  pub least : (ks : List Link) → IsChain s person ks e → IsNotAfter ls ks

-- ---- the tree

-- one of the links of a chain, with the one that follows it: none follows the last
abbrev pub IsLinkOf : List Link → EvidenceLink → Type 0
IsLinkOf [] x = ⊥
IsLinkOf (l ∷ []) x = x ≡ record { link = l; next = None }
IsLinkOf (l ∷ k ∷ ls) x = (x ≡ record { link = l; next = Some k }) ⊎ IsLinkOf (k ∷ ls) x

-- the chain that is read off a tree from a first link on: each link is the one that follows the one
-- before it, up to one that none follows
abbrev pub AreReadOff : List EvidenceLink → Link → List Link → Type 0
AreReadOff tree first [] = ⊥
AreReadOff tree first (l ∷ []) = (first ≡ l) × Contains tree (record { link = l; next = None })
AreReadOff tree first (l ∷ k ∷ ls) =
    (first ≡ l) × Contains tree (record { link = l; next = Some k }) × AreReadOff tree k (k ∷ ls)

-- from the person's first link on its evidence is read off, of so many links
pub record IsNamedBy (s : Shown) (e : Node) (tree : List EvidenceLink)
    (person : EvidencePerson) : Type 0 where
  pub is_person : IsPerson s person.node person.info
  pub chain : List Link
  pub read : AreReadOff tree person.first chain
  pub evidence : IsEvidence s person.node chain e
  pub long : length chain ≡ person.links

-- a link of some person's evidence, with the one that follows it there
pub record IsOfEvidence (s : Shown) (e : Node) (x : EvidenceLink) : Type 0 where
  pub person : Node
  pub info : PersonInfo
  pub chain : List Link
  pub is_person : IsPerson s person info
  pub evidence : IsEvidence s person chain e
  pub is_link : IsLinkOf chain x

-- Exactly the persons with some chain, with what is shown of them and their evidence, each once, by
-- agent, declaration and record; and exactly the links of that evidence, each once, by the agent,
-- declaration and record of its record.
pub record AreEvidenced (s : Shown) (e : Node) (tree : Evidence) : Type 0 where
  pub each : (person : EvidencePerson) → Contains tree.persons person
      → IsNamedBy s e tree.links person
  pub every : (person : Node) (info : PersonInfo) (ls : List Link)
      → IsJoinedBy s e person info ls
      → (p : EvidencePerson) × Contains tree.persons p × (p.node ≡ person) × (p.info ≡ info)
  pub sorted : IsStrictlySortedBy evidence_cmp tree.persons
  pub links : (x : EvidenceLink) → Contains tree.links x ↔ IsOfEvidence s e x
  pub links_sorted : IsStrictlySortedBy tree_cmp tree.links

-- the line of a report that shows no chain
abbrev pub without_chain : EvidencePerson → PersonLine
without_chain person = record { node = person.node; info = person.info; links = person.links }
