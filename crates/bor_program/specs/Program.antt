-- The program's output, and how it ends.
use Rattle.std.specs.Prelude.{◌≡◌, ℕ, List, Bool, true, Option, Result, MatchResult, ◌⊎◌}
use Rattle.std.specs.Prelude.{if◌then◌else◌, is_err, ⊤}
use Rattle.std.specs.Borrow.{Bor}
use Rattle.std.specs.Io.KnownBytes.{Appends, Keeps}
use Rattle.clap.specs.Words.{Text as Words}
use Rattle.bor_desk.specs.CheckReport.{check_report}
use Rattle.bor_desk.specs.declared.text.Text.{Text}
use Rattle.bor_words.specs.declared.source.Source.{Source}
use Rattle.bor_words.specs.declared.source.Source.TheVariants.{StandardInput, File}
use Rattle.bor_program.specs.Streams.{AppendsPart}
use Rattle.bor_program.specs.declared.status.Status.{Status}
use Rattle.bor_program.specs.declared.status.Status.TheVariants.{Done, Refused, Usage, Failed}

-- the exit status of each end
abbrev pub exit_code : Status → ℕ
exit_code Done = 0
exit_code Refused = 1
exit_code Usage = 2
exit_code Failed = 3

-- the exit status of a command that wrote a refusal, or another text
abbrev pub report_status : Bool → ℕ
report_status refused = if refused then 1 else 0

-- exactly the text was written, and the exit status says whether it is a refusal
pub record IsTextWritten (wanted : Text) (before after : Option (List ℕ)) (status : ℕ)
    : Type 0 where
  pub text : Appends before after wanted.bytes
  pub told : status ≡ report_status wanted.refused

-- the run failed, and wrote nothing or a front of the text
pub record IsCutOff (wanted : Text) (before after : Option (List ℕ)) (status : ℕ) : Type 0 where
  pub text : AppendsPart before after wanted.bytes
  pub told : status ≡ 3

-- the text was written, or the run failed on the way
abbrev pub IsWrittenOrCutOff : Text → Option (List ℕ) → Option (List ℕ) → ℕ → Type 0
IsWrittenOrCutOff text before after status =
    IsTextWritten text before after status ⊎ IsCutOff text before after status

-- the text was written, with the end's status; where the end is a fault, a front of it was
abbrev pub EndsText : {F : Type 0} → Text → Option (List ℕ) → Option (List ℕ)
    → Result Status F → Type 0
EndsText text before after end =
    MatchResult end (λ status. IsTextWritten text before after (exit_code status))
    (λ _. AppendsPart before after text.bytes)

-- ---- the report on a file

-- the report on these bytes was written, or the run failed on the way
abbrev pub IsReportedOrCutOff : List ℕ → Option (List ℕ) → Option (List ℕ) → ℕ → Type 0
IsReportedOrCutOff bytes before after status =
    IsWrittenOrCutOff (check_report bytes) before after status

-- the report on these bytes was written, with the end's status; where the end is a fault, a front
-- of it was
abbrev pub EndsReport : {F : Type 0} → List ℕ → Option (List ℕ) → Option (List ℕ)
    → Result Status F → Type 0
EndsReport bytes before after end = EndsText (check_report bytes) before after end

-- ---- which file it is of

-- this holds of the file's name, where it is a file
abbrev pub IfFile : (Bor Words → Type 0) → Source → Type 0
IfFile P StandardInput = ⊤
IfFile P (File name) = P name

-- the report on bytes that were read so was written, or the run failed on the way; or it failed
-- before anything was written
abbrev pub IsReportedOf : (List ℕ → Type 0) → Option (List ℕ) → Option (List ℕ) → ℕ → Type 0
IsReportedOf Reads before after status =
    ((bytes : List ℕ) × Reads bytes × IsReportedOrCutOff bytes before after status)
    ⊎ (Keeps before after × (status ≡ 3))

-- the report on bytes that were read so was written, with the end's status; where the end is a
-- fault, a front of it was, or nothing
abbrev pub EndsReportOf : {F : Type 0} → (List ℕ → Type 0) → Option (List ℕ) → Option (List ℕ)
    → Result Status F → Type 0
EndsReportOf Reads before after end =
    ((bytes : List ℕ) × Reads bytes × EndsReport bytes before after end)
    ⊎ (Keeps before after × (is_err end ≡ true))
