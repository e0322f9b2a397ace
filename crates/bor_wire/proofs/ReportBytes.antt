-- The bytes of a report determine its persons, those of evidence its persons and its links, and those of entities their records, since JSON is read back as it was written.
use Rattle.std.proofs.Common.{◌≡◌, ℕ, zero, suc, ℤ, ◌<◌, ◌^◌, List, Option, Some, None, refl, ap, ◌∙◌, []}
use Rattle.std.proofs.lemmas.Fmt.{decimal_injective}
use Rattle.json.specs.Tree.{HasNumbers, ItemsHaveNumbers}
use Rattle.json.proofs.Printed.Decimals.{IsNumber-decimal}
use Rattle.serde_json.specs.Data.{string}
use Rattle.serde_json.specs.Written.{outline}
use Rattle.bor_records.specs.declared.links.node.Node.{Node}
use Rattle.bor_records.specs.declared.links.node.PersonInfo.{PersonInfo}
use Rattle.bor_chains.specs.declared.line.PersonLine.{PersonLine}
use Rattle.bor_desk.specs.declared.reply.DeskReply.TheVariants as tell
use Rattle.bor_wire.specs.Rendering.Values.{maybe_data, person_data, chains_data, key_data, person_evidence_data, link_evidence_data, record_evidence_data, evidence_data, entities_data, identifier_data, interest_data, share_data, details_data}
use Rattle.bor_wire.specs.Rendering.Bodies.{chains_text, evidence_text, entities_text}
use Rattle.bor_wire.specs.Rendering.Replies.{answered}
use Rattle.bor_wire.specs.ReportBytes.{AreInRange, IsSameReport, BytesGivePersons, IsShareCounted, AreSharesCounted, AreRecordsCounted, IsInRange, IsSameEvidence, BytesGiveEvidence, IsSameRecord, AreSameEntities, BytesGiveEntities}
use Rattle.bor_wire.proofs.OnRendering.LengthTold.{same_body}
use Rattle.bor_wire.proofs.OnRendering.ReadBack.{same_text}
use Rattle.bor_wire.proofs.OnRendering.ItemsBack.{items_numbers, items_once, each_once, items_in, of_each}
use Rattle.std.specs.Prelude.{All, ⊤}
use Rattle.json.specs.Json as json
use Rattle.json.specs.Json.{Json}
use Rattle.bor_terms.specs.Span.{Range}
use Rattle.bods_read.specs.declared.details.Details.{Details}
use Rattle.bods_read.specs.declared.details.Details.TheVariants.{Entity, Person, Relationship}
use Rattle.bods_read.specs.declared.details.Identifier.{Identifier}
use Rattle.bods_read.specs.declared.interest.Interest.{Interest}
use Rattle.bor_desk.specs.declared.evidence.lines.EntityEvidence.{EntityEvidence}
use Rattle.bor_desk.specs.declared.evidence.lines.LinkEvidence.{LinkEvidence}
use Rattle.bor_desk.specs.declared.evidence.lines.PersonEvidence.{PersonEvidence}
use Rattle.bor_desk.specs.declared.evidence.lines.RecordEvidence.{RecordEvidence}

-- ---- a person of a report

name_once : (a b : Option (List ℕ)) → outline (maybe_data string a) ≡ outline (maybe_data string b) → a ≡ b
name_once None None h = refl
name_once (Some x) (Some y) h = cc
name_once a b h = absurd cc

node_once : (a b : Node) → a.agent ≡ b.agent → a.declaration ≡ b.declaration → a.rec ≡ b.rec → a ≡ b
node_once a b agent declaration rec' =
    ap (λ x. record a { agent = x }) agent ∙ ap (λ x. record a { agent = b.agent; declaration = x }) declaration ∙ ap (λ x. record b { rec = x }) rec'

info_once : (a b : PersonInfo) → outline (maybe_data string a.name) ≡ outline (maybe_data string b.name) → a ≡ b
info_once a b name = ap (λ n. record a { name = n }) (name_once a.name b.name name)

line_once : (p q : PersonLine) → p.links < 2 ^ 64 → q.links < 2 ^ 64 → outline (person_data p) ≡ outline (person_data q) → p ≡ q
line_once p q few small h =
    ap (λ n. record p { node = n }) (node_once p.node q.node (cc) (cc) (cc))
    ∙ ap (λ i. record q { info = i; links = p.links }) (info_once p.info q.info (cc))
    ∙ ap (λ l. record q { links = l }) (decimal_injective p.links q.links few small (cc))

name_numbers : (name : Option (List ℕ)) → HasNumbers (outline (maybe_data string name))
name_numbers None = tt
name_numbers (Some x) = tt

line_numbers : (p : PersonLine) → p.links < 2 ^ 64 → HasNumbers (outline (person_data p))
line_numbers p few = (tt, (tt, (IsNumber-decimal p.links few, (name_numbers p.info.name, (tt, tt)))))

-- ---- the report

report_numbers : (entity : Node) (day : ℤ) (ps : List PersonLine) → AreInRange ps → HasNumbers (outline (chains_data entity day ps))
report_numbers entity day ps few = (tt, (tt, (tt, (items_numbers person_data (λ p. p.links < 2 ^ 64) line_numbers ps few, (tt, tt)))))

report_once : (entity other : Node) (day date : ℤ) (ps qs : List PersonLine) → AreInRange ps → AreInRange qs → outline (chains_data entity day ps) ≡ outline (chains_data other date qs) → IsSameReport entity other day date ps qs
report_once entity other day date ps qs few small h =
    record { entity_is = node_once entity other (cc) (cc) (cc); day_is = cc; persons_are = items_once person_data (λ p. p.links < 2 ^ 64) line_once ps qs few small (cc) }

pub persons_given : BytesGivePersons
unfolding chains_text
persons_given entity other day date ps qs few small same =
    report_once entity other day date ps qs few small
    (same_text (chains_data entity day ps) (chains_data other date qs) (report_numbers entity day ps few) (report_numbers other date qs small) (same_body (answered (tell.Chains entity day ps)) (answered (tell.Chains other date qs)) same))

-- ---- members of an object

-- the value of a member, by its place
abbrev at : ℕ → Json → Json
at zero (json.object (json.member k v ms)) = v
at (suc n) (json.object (json.member k v ms)) = at n (json.object ms)
at n j = j

abbrev text : Json → List ℕ
text (json.string s) = s
text j = []

abbrev digits : Json → List ℕ
digits (json.number s) = s
digits j = []

abbrev items : Json → json.Items
items (json.array js) = js
items j = json.no_items

-- ---- keys

key_once : (a b : Node) → outline (key_data a) ≡ outline (key_data b) → a ≡ b
key_once a b h = node_once a b (cc) (cc) (cc)

next_once : (a b : Option Node) → outline (maybe_data key_data a) ≡ outline (maybe_data key_data b) → a ≡ b
next_once None None h = refl
next_once (Some x) (Some y) h = ap (λ (n : Node). Some n) (key_once x y h)
next_once a b h = absurd cc

key_numbers : (n : Node) → HasNumbers (outline (key_data n))
key_numbers n = (tt, (tt, (tt, tt)))

next_numbers : (n : Option Node) → HasNumbers (outline (maybe_data key_data n))
next_numbers None = tt
next_numbers (Some n) = key_numbers n

-- ---- persons of evidence

person_once : (p q : PersonEvidence) → p.links < 2 ^ 64 → q.links < 2 ^ 64 → outline (person_evidence_data p) ≡ outline (person_evidence_data q) → p ≡ q
person_once p q few small h =
    ap (λ n. record p { node = n }) (node_once p.node q.node (ap (λ j. text (at 0 j)) h) (ap (λ j. text (at 1 j)) h) (ap (λ j. text (at 5 j)) h))
    ∙ ap (λ i. record p { node = q.node; info = i }) (info_once p.info q.info (ap (at 4) h))
    ∙ ap (λ n. record q { first = n; links = p.links }) (key_once p.first q.first (ap (at 2) h))
    ∙ ap (λ l. record q { links = l }) (decimal_injective p.links q.links few small (ap (λ j. digits (at 3 j)) h))

person_numbers : (p : PersonEvidence) → p.links < 2 ^ 64 → HasNumbers (outline (person_evidence_data p))
person_numbers p few = (tt, (tt, (key_numbers p.first, (IsNumber-decimal p.links few, (name_numbers p.info.name, (tt, tt))))))

-- ---- links

link_once : (l k : LinkEvidence) → outline (link_evidence_data l) ≡ outline (link_evidence_data k) → l ≡ k
link_once l k h =
    ap (λ n. record l { node = n }) (node_once l.node k.node (cc) (cc) (cc))
    ∙ ap (λ n. record l { node = k.node; next = n }) (next_once l.next k.next (cc))
    ∙ ap (λ ns. record k { same = ns }) (items_once key_data (λ n. ⊤) (λ x y p q. key_once x y) l.same k.same (of_each l.same) (of_each k.same) (cc))

link_numbers : (l : LinkEvidence) → HasNumbers (outline (link_evidence_data l))
link_numbers l = (tt, (tt, (next_numbers l.next, (tt, (items_numbers key_data (λ n. ⊤) (λ n p. key_numbers n) l.same (of_each l.same), tt)))))

-- ---- the numbers of records

identifiers_numbers : (xs : List Identifier) → ItemsHaveNumbers (items_in identifier_data xs)
identifiers_numbers xs = items_numbers identifier_data (λ x. ⊤) (λ x p. (tt, (tt, tt))) xs (of_each xs)

share_numbers : (share : Option Range) → IsShareCounted share → HasNumbers (outline (maybe_data share_data share))
share_numbers None few = tt
share_numbers (Some share) few = (IsNumber-decimal share.high few.0, (tt, (IsNumber-decimal share.low few.1, (tt, tt))))

interests_numbers : (xs : List Interest) → All (λ (i : Interest). IsShareCounted i.share) xs → ItemsHaveNumbers (items_in interest_data xs)
interests_numbers xs few = items_numbers interest_data (λ (i : Interest). IsShareCounted i.share) (λ x few. (tt, (share_numbers x.share few, (tt, tt)))) xs few

details_numbers : (d : Details) → AreSharesCounted d → HasNumbers (outline (details_data d))
details_numbers (Entity kind name identifiers) few = (identifiers_numbers identifiers, (tt, (name_numbers name, tt)))
details_numbers (Person kind name) few = (tt, (name_numbers name, tt))
details_numbers (Relationship subject party interests) few = (name_numbers party, (interests_numbers interests few, (name_numbers subject, tt)))

record_numbers : (x : RecordEvidence) → AreSharesCounted x.entry.statement.details → HasNumbers (outline (record_evidence_data x))
record_numbers x few = (tt, (tt, (tt, (details_numbers x.entry.statement.details few, (tt, (tt, (tt, (tt, tt))))))))

records_numbers : (xs : List RecordEvidence) → AreRecordsCounted xs → ItemsHaveNumbers (items_in record_evidence_data xs)
records_numbers xs few = items_numbers record_evidence_data (λ x. AreSharesCounted x.entry.statement.details) record_numbers xs few

-- ---- the evidence

evidence_numbers : (entity : Node) (day : ℤ) (told : EntityEvidence) → IsInRange told → HasNumbers (outline (evidence_data entity day told))
evidence_numbers entity day told few =
    (tt, (tt, (tt, (items_numbers link_evidence_data (λ l. ⊤) (λ l p. link_numbers l) told.links (of_each told.links), (items_numbers person_evidence_data (λ p. p.links < 2 ^ 64) person_numbers told.persons few.persons, (tt, (records_numbers told.records few.shares, tt)))))))

evidence_once : (entity other : Node) (day date : ℤ) (told said : EntityEvidence) → IsInRange told → IsInRange said → outline (evidence_data entity day told) ≡ outline (evidence_data other date said) → IsSameEvidence entity other day date told said
evidence_once entity other day date told said few small h = record {
  entity_is = node_once entity other (ap (λ j. text (at 0 j)) h) (ap (λ j. text (at 2 j)) h) (ap (λ j. text (at 5 j)) h);
  day_is = ap (λ j. text (at 1 j)) h;
  persons_are = items_once person_evidence_data (λ p. p.links < 2 ^ 64) person_once told.persons said.persons few.persons small.persons (ap (λ j. items (at 4 j)) h);
  links_are = items_once link_evidence_data (λ l. ⊤) (λ x y p q. link_once x y) told.links said.links (of_each told.links) (of_each said.links) (ap (λ j. items (at 3 j)) h);
}

pub evidence_given : BytesGiveEvidence
unfolding evidence_text
evidence_given entity other day date told said few small same =
    evidence_once entity other day date told said few small
    (same_text (evidence_data entity day told) (evidence_data other date said) (evidence_numbers entity day told few) (evidence_numbers other date said small) (same_body (answered (tell.Evidence entity day told)) (answered (tell.Evidence other date said)) same))

-- ---- the entities of an identifier

identifier_once : (a b : Identifier) → a.scheme ≡ b.scheme → a.id ≡ b.id → a ≡ b
identifier_once a b scheme id = ap (λ x. record a { scheme = x }) scheme ∙ ap (λ x. record b { id = x }) id

record_once : (x y : RecordEvidence) → outline (record_evidence_data x) ≡ outline (record_evidence_data y) → IsSameRecord x y
record_once x y h = record {
  agent_is = ap (λ j. text (at 0 j)) h;
  declaration_is = ap (λ j. text (at 2 j)) h;
  record_is = ap (λ j. text (at 5 j)) h;
  id_is = ap (λ j. text (at 4 j)) h;
}

entities_numbers : (identifier : Identifier) (day : ℤ) (records : List RecordEvidence) → AreRecordsCounted records → HasNumbers (outline (entities_data identifier day records))
entities_numbers identifier day records few = (tt, (records_numbers records few, (tt, (tt, tt))))

entities_once : (identifier other : Identifier) (day date : ℤ) (records found : List RecordEvidence) → outline (entities_data identifier day records) ≡ outline (entities_data other date found) → AreSameEntities identifier other day date records found
entities_once identifier other day date records found h = record {
  identifier_is = identifier_once identifier other (ap (λ j. text (at 3 j)) h) (ap (λ j. text (at 2 j)) h);
  day_is = ap (λ j. text (at 0 j)) h;
  records_are = each_once record_evidence_data (λ x. ⊤) IsSameRecord (λ x y p q. record_once x y) records found (of_each records) (of_each found) (ap (λ j. items (at 1 j)) h);
}

pub entities_given : BytesGiveEntities
unfolding entities_text
entities_given identifier other day date records found few small same =
    entities_once identifier other day date records found
    (same_text (entities_data identifier day records) (entities_data other date found) (entities_numbers identifier day records few) (entities_numbers other date found small) (same_body (answered (tell.Entities identifier day records)) (answered (tell.Entities other date found)) same))
