-- The text of a report on an entity's chains.
use Rattle.std.specs.Prelude.{◌≡◌, ℕ, ℤ, List, [], ◌∷◌, ◌++◌, length, Option, Some, None, codes}
use Rattle.std.specs.Option.{option_map}
use Rattle.std.specs.Fmt.{decimal}
use Rattle.serde_json.specs.Data.{Data, null, string}
use Rattle.serde_json.specs.Written.{compact_text}
use Rattle.bor_terms.specs.Day.{IsSpelling}
use Rattle.bor_records.specs.declared.links.node.Node.{Node}
use Rattle.bor_records.specs.declared.links.node.PersonInfo.{PersonInfo}
use Rattle.bor_records.specs.Links.Nodes.{link_record}
use Rattle.bor_records.specs.Links.Rows.{shown_of}
use Rattle.bor_chains.specs.declared.line.PersonLine.{PersonLine}
use Rattle.bor_chains.specs.declared.tree.Evidence.{Evidence}
use Rattle.bor_chains.specs.declared.tree.EvidenceLink.{EvidenceLink}
use Rattle.bor_chains.specs.declared.tree.EvidencePerson.{EvidencePerson}
use Rattle.bor_records.specs.Links.Shown.{Shown}
use Rattle.bor_chains.specs.Chains.{AreJoined}
use Rattle.bor_chains.specs.Evidence.{AreEvidenced}
use Rattle.bor_desk.specs.declared.text.Text.{Text}
use Rattle.bor_desk.specs.declared.reply.DeskReply.TheVariants as tell
use Rattle.bor_desk.specs.Texts.{answering, tabbed, refused_text}
use Rattle.bor_desk.specs.Step.{Answer, exactly, report, evidence, entities}

-- a name, or none, as a value of JSON
abbrev pub name_data : Option (List ℕ) → Data
name_data None = null
name_data (Some name) = string name

-- of a person the agent, the declaration, the record, the least number of links, and the name as a
-- text of JSON
abbrev pub person_line : PersonLine → List ℕ
person_line p =
    tabbed (codes "person") (p.node.agent ∷ p.node.declaration ∷ p.node.rec ∷ decimal p.links
    ∷ compact_text (name_data p.info.name) ∷ [])

abbrev pub person_lines : List PersonLine → List ℕ
person_lines [] = []
person_lines (p ∷ ps) = person_line p ++ person_lines ps

abbrev pub entity_line : Node → List ℕ → List ℕ
entity_line entity date =
    tabbed (codes "entity") (entity.agent ∷ entity.declaration ∷ entity.rec ∷ date ∷ [])

abbrev pub count_line : ℕ → List ℕ
count_line count = codes "persons " ++ decimal count ++ 10 ∷ []

-- of the entity the agent, the declaration, the record and the date; then the persons, and how many
-- they are
abbrev pub report_lines : Node → List ℕ → List PersonLine → List ℕ
report_lines entity date persons =
    entity_line entity date ++ person_lines persons ++ count_line (length persons)

-- The text of exactly the persons that are joined to the entity.
pub record IsReportOn (shown : Shown) (entity : Node) (day : ℤ) (text : Text) : Type 0 where
  pub date : List ℕ
  pub spells : IsSpelling day date
  pub persons : List PersonLine
  pub joined : AreJoined shown entity persons
  pub lines : text ≡ answering (report_lines entity date persons)

-- ---- the text of evidence

-- a record's agent, declaration and identifier, each behind a tab
abbrev pub key_part : Node → List ℕ
key_part n = 9 ∷ n.agent ++ 9 ∷ n.declaration ++ 9 ∷ n.rec

-- the line of a person without its end
abbrev pub person_part : Node → ℕ → PersonInfo → List ℕ
person_part n links info =
    codes "person" ++ key_part n ++ 9 ∷ decimal links ++ 9 ∷ compact_text (name_data info.name)

-- of a person the line of a report, and the record of the first link
abbrev pub evidenced_line : EvidencePerson → List ℕ
evidenced_line p = person_part p.node p.links p.info ++ key_part (link_record p.first) ++ 10 ∷ []

abbrev pub evidenced_lines : List EvidencePerson → List ℕ
evidenced_lines [] = []
evidenced_lines (p ∷ ps) = evidenced_line p ++ evidenced_lines ps

-- the record of the link that follows, or that none does
abbrev pub next_part : Option Node → List ℕ
next_part None = 9 ∷ codes "last"
next_part (Some n) = 9 ∷ codes "next" ++ key_part n

abbrev pub link_line : EvidenceLink → List ℕ
link_line x =
    codes "link" ++ key_part (link_record x.link)
    ++ next_part (option_map link_record x.next) ++ 10 ∷ []

abbrev pub link_lines : List EvidenceLink → List ℕ
link_lines [] = []
link_lines (x ∷ xs) = link_line x ++ link_lines xs

-- of the entity the agent, the declaration, the record and the date; then the persons, the links of
-- their chains, and how many the persons are
abbrev pub evidence_lines : Node → List ℕ → Evidence → List ℕ
evidence_lines entity date tree =
    entity_line entity date ++ evidenced_lines tree.persons ++ link_lines tree.links
    ++ count_line (length tree.persons)

-- The text of the evidence of an entity.
pub record IsEvidenceTextOn (shown : Shown) (entity : Node) (day : ℤ) (text : Text) : Type 0 where
  pub date : List ℕ
  pub spells : IsSpelling day date
  pub tree : Evidence
  pub evidenced : AreEvidenced shown entity tree
  pub lines : text ≡ answering (evidence_lines entity date tree)

-- the text of an answer to who stands behind an entity
abbrev pub IsTextOf : Answer → Text → Type 0
IsTextOf (report entity day shown) text = IsReportOn shown entity day text
IsTextOf (evidence entity day seen) text = IsEvidenceTextOn (shown_of day seen) entity day text
IsTextOf (entities identifier day seen) text = ⊥
IsTextOf (exactly (tell.Refused why)) text = text ≡ refused_text why
IsTextOf (exactly reply) text = ⊥
