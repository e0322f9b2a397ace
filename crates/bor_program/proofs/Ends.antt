-- How the end of a command is told of a run, and which failures were met.
use Rattle.std.proofs.Common.{◌≡◌, ◌≢◌, ◌∙◌, ℕ, List, [], Option, Some, None, IfSome, Result, Ok, Err, refl, sym, subst, inl, inr, true, is_err, Bor, ◌⊎◌, Bool, arith, false}
use Rattle.std.specs.Io.KnownBytes.{Appends, Keeps}
use Rattle.bor_desk.specs.CheckReport.{check_report}
use Rattle.bor_desk.specs.declared.text.Text.{Text}
use Rattle.clap.specs.Words.{Text as Words}
use Rattle.clap.specs.declared.error.kind.ErrorKind.{ErrorKind}
use Rattle.clap.specs.declared.error.kind.ErrorKind.TheVariants.{DisplayHelp, OutOfMemory}
use Rattle.bor_program.specs.declared.status.Status.{Status}
use Rattle.bor_words.specs.declared.source.Source.{Source}
use Rattle.bor_words.specs.declared.source.Source.TheVariants.{StandardInput, File}
use Rattle.bor_program.specs.Program.{EndsReport, EndsReportOf, EndsText, IfFile, IsReportedOf, IsReportedOrCutOff, exit_code, IsWrittenOrCutOff, report_status}
use Rattle.bor_program.specs.Streams.{AppendsPart, part_read, Streams}
use Rattle.std.proofs.KnownBytes.{Appends-kept, Appends-nil}
pub use Rattle.std.proofs.KnownBytes.{Keeps-refl as keeps_same}
use Rattle.bor_register.specs.declared.fault.StoreFault.{StoreFault}
use Rattle.bor_register.specs.declared.fault.StoreFault.TheVariants as fault
use Rattle.bor_program.specs.declared.failure.Failure.{Failure}
use Rattle.bor_program.specs.declared.failure.Failure.TheVariants.{Unwritable}
use Rattle.bor_program.specs.Failures.{IsMetIn, IsMetOnKeep, IsOpeningOf, LeavesOutput, failure_line, failure_of}
use Rattle.bor_program.specs.Courses.{Course, IsOnlyDeed}
use Rattle.bor_program.specs.Deeds.{Deed, Fails}
use Rattle.bor_program.specs.Performing.{FailsToOpen}

-- known bytes that are as they were, for the tactics
pub ruleset output_kept = (keeps_same)

-- what holds of every value holds of the one that is there
pub whatever : {X : Type 0} (o : Option X) {P : X → Type 0} → ((x : X) → P x) → IfSome o P
whatever None h = tt
whatever (Some x) h = h x

pub kept_none : (before after : Option (List ℕ)) → Keeps before after → Appends before after []
kept_none before after h = Appends-kept before before after [] (Appends-nil before) h

-- nothing is a front of whatever was to be written
pub part_none : (before after : Option (List ℕ)) (bytes : List ℕ) → Keeps before after → AppendsPart before after bytes
part_none before after bytes h = ([], bytes, refl, kept_none before after h)

pub part_as : (before after last : Option (List ℕ)) (bytes : List ℕ) → last ≡ after → AppendsPart before after bytes → AppendsPart before last bytes
part_as before after last bytes same h = subst (λ (o : Option (List ℕ)). AppendsPart before o bytes) (sym same) h

-- an end that failed, after a front of a text
pub ends_cut : {F : Type 0} (text : Text) (before after : Option (List ℕ)) (end : Result Status F) → is_err end ≡ true → AppendsPart before after text.bytes
    → EndsText text before after end
ends_cut text before after (Err failure) e h = h
ends_cut text before after (Ok status) e h = cc

-- the same, of a report on any bytes, before it was begun
pub cut_one : {F : Type 0} (bytes : List ℕ) (known : Option (List ℕ)) (end : Result Status F) → is_err end ≡ true → EndsReport bytes known known end
cut_one bytes known end e = ends_cut (check_report bytes) known known end e (part_none known known (check_report bytes).bytes (keeps_same known))

-- a check that failed before it wrote
pub cut_of : {F : Type 0} (o known : Option (List ℕ)) (end : Result Status F) → is_err end ≡ true → IfSome o (λ bytes. EndsReport (part_read bytes) known known end)
cut_of o known (Err failure) e = whatever o (λ bytes. part_none known known (check_report (part_read bytes)).bytes (keeps_same known))
cut_of o known (Ok status) e = cc

-- a check that failed
pub cut_off : {F : Type 0} (before after last : Option (List ℕ)) (end final : Result Status F) (failure : F) (status : ℕ) → last ≡ after → final ≡ end
    → final ≡ Err failure → status ≡ 3 → ((bytes : List ℕ) × EndsReport bytes before after end)
    → (bytes : List ℕ) × IsReportedOrCutOff bytes before last status
cut_off before after last (Err f) final failure status same e is three h =
    (h.0, inr (record { text = part_as before after last (check_report h.0).bytes same h.1; told = three }))
cut_off before after last (Ok s) final failure status same e is three h = let bad : Ok s ≡ Err failure = sym e ∙ is in cc

-- a run that failed before it wrote
pub cut_unwritten : (bytes : List ℕ) (before after last : Option (List ℕ)) (code : ℕ) → last ≡ after → code ≡ 3 → Keeps before after
    → IsReportedOrCutOff bytes before last code
cut_unwritten bytes before after last code same three kept =
    inr (record { text = part_as before after last (check_report bytes).bytes same (part_none before after (check_report bytes).bytes kept); told = three })

pub memory_is_no_help : (kind : ErrorKind) → kind ≡ OutOfMemory → kind ≢ DisplayHelp
memory_is_no_help kind e help = let none : DisplayHelp ≡ OutOfMemory = sym help ∙ e in cc

-- ---- of a file

-- of a file that was opened, whether it tells its bytes or not
pub of_opened : {F : Type 0} (known before after : Option (List ℕ)) (end : Result Status F) → IfSome known (λ all. EndsReport (part_read all) before after end)
    → ((bytes : List ℕ) × EndsReport bytes before after end) → (bytes : List ℕ) × IfSome known (λ all. bytes ≡ part_read all) × EndsReport bytes before after end
of_opened None before after end h some = (some.0, tt, some.1)
of_opened (Some all) before after end h some = (part_read all, refl, h)

-- the end is told by this status
pub of_file_done : {F : Type 0} (Reads : Bor Words → List ℕ → Type 0) (source : Source) (before after : Option (List ℕ)) (end : Result Status F) (status : Status) → end ≡ Ok status
    → IfFile (λ name. EndsReportOf (Reads name) before after end) source → IfFile (λ name. IsReportedOf (Reads name) before after (exit_code status)) source
of_file_done Reads StandardInput before after end status is h = tt
of_file_done Reads (File name) before after (Ok s) status is (inl h) =
    let same : s ≡ status = cc in
    inl (h.0, h.1, inl (subst (λ (t : Status). EndsReport {F = Status} h.0 before after (Ok t)) same h.2))
of_file_done Reads (File name) before after (Ok s) status is (inr h) = cc
of_file_done Reads (File name) before after (Err f) status is h = cc

-- the same, of a check that failed
pub of_file_failed : {F : Type 0} (Reads : Bor Words → List ℕ → Type 0) (source : Source) (before after : Option (List ℕ)) (end : Result Status F) (failure : F) (code : ℕ) → end ≡ Err failure → code ≡ 3
    → IfFile (λ name. EndsReportOf (Reads name) before after end) source → IfFile (λ name. IsReportedOf (Reads name) before after code) source
of_file_failed Reads StandardInput before after end failure code is three h = tt
of_file_failed Reads (File name) before after (Err f) failure code is three (inl h) = inl (h.0, h.1, inr (record { text = h.2; told = three }))
of_file_failed Reads (File name) before after (Err f) failure code is three (inr h) = inr (h.0, three)
of_file_failed Reads (File name) before after (Ok s) failure code is three h = cc

-- standard output that is as it was is left by every failure
pub leaves : (before after : Option (List ℕ)) (failure : Failure) → Keeps before after → LeavesOutput before after failure
leaves before after Unwritable h = tt
leaves before after failure h = h

-- what a store's fault is to the program is a failure of opening too
fault_opens : (path : Bor Words) (f : StoreFault) → IsOpeningOf path (failure_of f)
fault_opens path fault.Memory = tt
fault_opens path f = tt

-- the register was opened, and then a failure was met
pub met_opened : (path : Bor Words) (Told : StoreFault → Type 0) (before after : Option (List ℕ)) (failure : Failure) → IsMetOnKeep Told before after failure → IsMetIn path before after failure
met_opened path Told before after failure (inl h) =
    record { cause = inl (subst (IsOpeningOf path) (sym h.2) (fault_opens path h.0)); output = leaves before after failure h.3 }
met_opened path Told before after failure (inr e) = record { cause = inr e; output = subst (LeavesOutput before after) (sym e) tt }

-- the register can't be opened
pub met_opening : (path : Bor Words) (known : Option (List ℕ)) (failure : Failure) → IsOpeningOf path failure → IsMetIn path known known failure
met_opening path known failure h = record { cause = inl h; output = leaves known known failure (keeps_same known) }

pub fails_to_open : {M K : Type 0} (files : Course M (Deed K)) (path : Bor Words) (streams : Streams) (failure : Failure) → streams.status ≡ 3 → Keeps streams.output streams.printed
    → IsOnlyDeed files (Fails path failure) → IsOpeningOf path failure → AppendsPart streams.errors streams.told (failure_line failure) → FailsToOpen files path streams
fails_to_open files path streams failure three kept fails h line =
    record { status_is = three; kept = kept; failure = failure; fails = fails; cause = h; line = line }

-- ---- failures of a server before its first connection

-- a text that was written ends with no failure
pub no_failure : (refused : Bool) → 3 ≡ report_status refused → ⊥
no_failure true e = absurd (omega (arith, e))
no_failure false e = absurd (omega (arith, e))

-- nothing was written
pub no_text : (before after : Option (List ℕ)) (status : ℕ) → status ≡ 3 → Keeps before after → (text : Text) × IsWrittenOrCutOff text before after status
no_text before after status three kept =
    (check_report [], inr (record { text = part_none before after (check_report []).bytes kept; told = three }))

-- a front was written of a text of which P holds, or nothing
pub cut_text : {P : Text → Type 0} (before after : Option (List ℕ)) (status : ℕ) → status ≡ 3
    → ((text : Text) × P text × AppendsPart before after text.bytes) ⊎ Keeps before after → (text : Text) × IsWrittenOrCutOff text before after status
cut_text before after status three (inl h) = (h.0, inr (record { text = h.2; told = three }))
cut_text before after status three (inr kept) = no_text before after status three kept

-- a front was written of a text of which P holds, or nothing
pub tells_cut : {P : Text → Type 0} (before after : Option (List ℕ)) (status : ℕ) → status ≡ 3
    → ((text : Text) × P text × AppendsPart before after text.bytes) ⊎ Keeps before after
    → ((text : Text) × P text × IsWrittenOrCutOff text before after status) ⊎ (Keeps before after × (status ≡ 3))
tells_cut before after status three (inl h) = inl (h.0, h.1, inr (record { text = h.2; told = three }))
tells_cut before after status three (inr kept) = inr (kept, three)
