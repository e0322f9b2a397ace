-- The checks of the worked file and of files that are refused, and reports on the worked file.
use Rattle.std.proofs.Common.{◌≡◌, ◌≤◌, ℕ, List, [], ◌∷◌, Some, None, Contains, codes, length, arith, true, refl, sym, ap, ◌∙◌, subst, inl, inr}
use Rattle.std.specs.Fmt.{digits}
use Rattle.std.specs.List.Sorted.{IsStrictlySortedBy}
use Rattle.serde_json.proofs.OnLiterals.{serde_json_on_literals}
use Rattle.bor_terms.specs.Day.{day_of}
use Rattle.bor_terms.specs.Points.{points}
use Rattle.bor_terms.proofs.Examples.{first_day, calendar}
use Rattle.bods_read.specs.Words.{type_word, status_word, field_word}
use Rattle.bods_read.specs.Faults.{file_fault_word, fault_word}
use Rattle.bods_read.proofs.Examples.{worked_file, worked_day, worked_file-reading, reader}
use Rattle.bor_records.specs.declared.row.Row.{Row}
use Rattle.bor_records.specs.Words.{fault_name}
use Rattle.bor_register.specs.Publication.{state_word}
use Rattle.bor_desk.specs.Operations.Sight.{seen_by}
use Rattle.bor_records.specs.declared.links.node.Node.{Node}
use Rattle.bor_records.specs.declared.links.node.NodeInfo.TheVariants.{Entity, Person}
use Rattle.bor_records.specs.declared.links.node.Link.{Link}
use Rattle.bor_records.specs.declared.links.node.PersonInfo.{PersonInfo}
use Rattle.bor_records.specs.Links.Rows.{person_named}
use Rattle.bor_chains.specs.declared.line.PersonLine.{PersonLine}
use Rattle.bor_records.specs.Links.Shown.{Shown, IsPerson, info_of}
use Rattle.bor_chains.specs.Chains.{IsChain, IsJoinedBy, IsLeast, AreJoined}
use Rattle.bor_records.proofs.OnLinks.Found.{none, here, cases}
use Rattle.bor_desk.specs.declared.refusal.Refusal.TheVariants.{NoEntity}
use Rattle.bor_desk.specs.Refusals.{refusal_name}
use Rattle.bor_desk.specs.Texts.{answering, refusing}
use Rattle.bor_desk.specs.Step as step
use Rattle.bor_desk.specs.CheckReport.{check_day, check_step, check_report}
use Rattle.bor_desk.specs.ChainReport.{person_line, IsTextOf}

-- ---- checks

-- the day of a check is 2000-01-01
day : day_of (codes "2000-01-01") ≡ Some check_day
day = first_day

accepted : check_report worked_file ≡ answering (codes "filing 1 published\n1\tentity\tnew\tc1\te1\n2\tperson\tnew\tc1\tp1\n3\trelationship\tnew\tc1\tr1\n")
unfolding check_report type_word status_word state_word digits
accepted = rw worked_file-reading refl

not_a_list : check_report (codes "{}") ≡ refusing (codes "refused NotAList\n")
unfolding check_report refusal_name file_fault_word reader
not_a_list = refl

missing : check_report (codes "[{}]") ≡ refusing (codes "refused Missing at 1 in statementId\n")
unfolding check_report refusal_name file_fault_word fault_word field_word digits reader
missing = refl

-- a first statement that says it is a later one
unknown : check_report (codes "[{\"statementId\":\"s1\",\"statementDate\":\"2024-01-10\",\"declarationSubject\":\"c1\",\"recordId\":\"e1\",\"recordType\":\"entity\",\"recordStatus\":\"updated\",\"recordDetails\":{}}]")
    ≡ refusing (codes "refused RecordUnknown at 1\n")
unfolding check_report refusal_name fault_name digits reader
unknown = refl

-- an identifier that comes twice
twice : check_report (codes "[{\"statementId\":\"s1\",\"statementDate\":\"2024-01-10\",\"declarationSubject\":\"c1\",\"recordId\":\"e1\",\"recordType\":\"entity\",\"recordDetails\":{}},{\"statementId\":\"s1\",\"statementDate\":\"2024-01-10\",\"declarationSubject\":\"c1\",\"recordId\":\"e2\",\"recordType\":\"entity\",\"recordDetails\":{}}]")
    ≡ refusing (codes "refused StatementTwice at 2\n")
unfolding check_report refusal_name digits reader
twice = refl

-- ---- reports

-- what an agent without filings sees once the worked file is checked
abbrev seen : List Row
seen = seen_by (codes "other") (check_step worked_file).register

abbrev node : List ℕ → Node
node rec = record { agent = codes "check"; declaration = codes "c1"; rec = rec }

abbrev e1 : Node
e1 = node (codes "e1")

abbrev p1 : Node
p1 = node (codes "p1")

abbrev held : Link
held = record { rec = codes "r1"; subject = e1; party = p1; stake = true; holding = true }

abbrev of_ann : PersonInfo
of_ann = person_named (Some (codes "Ann Moss"))

abbrev worked : Shown
worked = record {
  nodes = record { node = e1; info = Entity true; identifiers = [] } ∷ record { node = p1; info = Person of_ann; identifiers = [] } ∷ [];
  links = held ∷ [];
}

-- on the day of the statements
reported : step.chains_answer seen e1 worked_day ≡ step.report e1 worked_day worked
unfolding points calendar
reported = rw worked_file-reading refl

-- the day before; a person; a record that isn't there
early : step.chains_answer seen e1 check_day ≡ step.refused NoEntity
unfolding calendar
early = rw worked_file-reading refl

person : step.chains_answer seen p1 worked_day ≡ step.refused NoEntity
unfolding calendar
person = rw worked_file-reading refl

nobody : step.chains_answer seen (node (codes "e2")) worked_day ≡ step.refused NoEntity
unfolding calendar
nobody = rw worked_file-reading refl

refusal : IsTextOf (step.refused NoEntity) (refusing (codes "refused NoEntity\n"))
unfolding refusal_name
refusal = refl

abbrev ann : PersonLine
ann = record { node = p1; info = of_ann; links = 1 }

named : person_line ann ≡ codes "person\tcheck\tc1\tp1\t1\t\"Ann Moss\"\n"
unfolding digits serde_json_on_literals
named = refl

unnamed : person_line (record ann { info = person_named None }) ≡ codes "person\tcheck\tc1\tp1\t1\tnull\n"
unfolding digits
unnamed = refl

-- a name's tab and line feed are escaped
escaped : person_line (record ann { info = person_named (Some (codes "A\tB\n")) }) ≡ codes "person\tcheck\tc1\tp1\t1\t\"A\\tB\\n\"\n"
unfolding digits serde_json_on_literals
escaped = refl

only_link : (l : Link) → Contains worked.links l → held ≡ l
only_link l on = elim (cases held [] l on) [ inl e ↦ e | inr n ↦ absurd (none l n) ]

-- each chain begins with the one link
from_p1 : (n : Node) (ls : List Link) → IsChain worked n ls e1 → p1 ≡ n
from_p1 n [] h = absurd h
from_p1 n (l ∷ []) h = ap (λ (x : Link). x.party) (only_link l h.0) ∙ h.1
from_p1 n (l ∷ k ∷ ls) h = ap (λ (x : Link). x.party) (only_link l h.0) ∙ h.1

only_ann : (person : Node) (info : PersonInfo) (ls : List Link) → IsJoinedBy worked e1 person info ls → (p1 ≡ person) × (of_ann ≡ info)
only_ann person info ls h =
    let at = from_p1 person ls h.1 in
    let known : Some (Person of_ann) ≡ Some (Person info) = ap (info_of worked) at ∙ h.0 in (at, cc)

-- one link, and no chain has none
one_link : IsLeast worked e1 p1 1
one_link = record { some = (held ∷ [], (here held [], refl, refl, ([], refl)), refl); none_fewer = at_least }
  where
    at_least : (ls : List Link) → IsChain worked p1 ls e1 → 1 ≤ length ls
    at_least [] h = absurd h
    at_least (l ∷ ls) h = omega arith

joined : AreJoined worked e1 (ann ∷ [])
unfolding IsStrictlySortedBy
joined = record {
  each = λ line on. elim (cases ann [] line on) [
    | inl e ↦ subst (λ (x : PersonLine). IsPerson worked x.node x.info × IsLeast worked e1 x.node x.links) e (refl, one_link)
    | inr n ↦ absurd (none line n)
  ];
  every = λ person info ls h. let only = only_ann person info ls h in (ann, here ann [], only.0, only.1);
  sorted = (tt, tt);
}

worked_report : IsTextOf (step.chains_answer seen e1 worked_day) (answering (codes "entity\tcheck\tc1\te1\t2024-01-10\nperson\tcheck\tc1\tp1\t1\t\"Ann Moss\"\npersons 1\n"))
unfolding calendar digits serde_json_on_literals
worked_report = subst (λ a. IsTextOf a (answering (codes "entity\tcheck\tc1\te1\t2024-01-10\nperson\tcheck\tc1\tp1\t1\t\"Ann Moss\"\npersons 1\n"))) (sym reported) (record {
  date = codes "2024-01-10";
  spells = (refl, refl);
  persons = ann ∷ [];
  joined = joined;
  lines = refl;
})
