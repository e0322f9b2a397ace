-- The text that `bor report` prints.
use Rattle.bor_register.specs.declared.fault.StoreFault.{StoreFault}
use Rattle.std.specs.Prelude.{◌⊎◌, ℤ, ℕ, List, Option, Some, None, Result, MatchResult}
use Rattle.std.specs.Prelude.{if◌then◌else◌}
use Rattle.std.specs.Io.KnownBytes.{Keeps}
use Rattle.bor_records.specs.Promises.{Meaning, Promised}
use Rattle.bor_records.specs.declared.links.node.Node.{Node}
use Rattle.bor_register.specs.Register.{Register}
use Rattle.bor_desk.specs.Operations.Sight.{seen_by}
use Rattle.bor_desk.specs.Step.{Answer, chains_answer, evidence_answer}
use Rattle.bor_desk.specs.ChainReport.{IsTextOf}
use Rattle.bor_desk.specs.declared.text.Text.{Text}
use Rattle.bor_words.specs.declared.report.Report.{Report}
use Rattle.bor_program.specs.Program.{IsTextWritten, exit_code}
use Rattle.bor_program.specs.Streams.{AppendsPart}
use Rattle.bor_program.specs.declared.status.Status.{Status}

-- the day of a report: the one that is asked for, else the register's
abbrev pub day_reported : Option ℤ → ℤ → ℤ
day_reported (Some day) today = day
day_reported None today = today

-- the entity that is asked for
abbrev pub entity_asked : Report → Node
entity_asked asked =
    record { agent = asked.agent; declaration = asked.declaration; rec = asked.rec }

-- the report that is asked for, or the evidence
abbrev pub report_answer : Report → Register → Answer
report_answer asked r =
    if asked.evidence
    then evidence_answer (seen_by asked.viewer r) (entity_asked asked)
    (day_reported asked.date r.day)
    else chains_answer (seen_by asked.viewer r) (entity_asked asked) (day_reported asked.date r.day)

-- the text says who stands behind the entity, in what the viewer sees of the register
abbrev pub IsReportOf : Report → Register → Text → Type 0
IsReportOf asked r text = IsTextOf (report_answer asked r) text

-- of a register that was opened and what is left of it: the text says it of each register that was
-- shown
abbrev pub IsToldOf : {K W : Type 0} → Meaning K Register W StoreFault → K → K
    → Report → Text → Type 0
IsToldOf meaning opened left asked text =
    Promised meaning opened left (λ r. IsReportOf asked r text)

-- a text was written of which P holds; or it failed, and a front of such was written, or nothing
abbrev pub EndsTelling : {F : Type 0} → (Text → Type 0) → Option (List ℕ) → Option (List ℕ)
    → Result Status F → Type 0
EndsTelling P before after end = MatchResult end
    (λ status. (text : Text) × P text × IsTextWritten text before after (exit_code status))
    (λ _. ((text : Text) × P text × AppendsPart before after text.bytes) ⊎ Keeps before after)
