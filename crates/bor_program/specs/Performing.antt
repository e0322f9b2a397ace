-- The output of each command on the streams, and its exit status.
use Rattle.std.specs.Prelude.{◌≡◌, ◌≤◌, ◌⊎◌, ◌++◌, ◌∷◌, ℕ, ℤ, List, [], None, IfSome}
use Rattle.std.specs.Prelude.{IsSome, IsTrue, codes, decimal}
use Rattle.std.specs.Io.KnownBytes.{Appends, Keeps}
use Rattle.std.specs.Borrow.{Bor}
use Rattle.bor_http.specs.Incoming.Message.{request_limit}
use Rattle.bor_records.specs.Promises.{Kept, Meaning}
use Rattle.bor_register.specs.Register.{Register, empty_register}
use Rattle.bor_register.specs.declared.fault.StoreFault.{StoreFault}
use Rattle.bor_desk.specs.Texts.{answering}
use Rattle.bor_desk.specs.declared.text.Text.{Text}
use Rattle.bor_wire.specs.Sent.{Sent}
use Rattle.bor_program.specs.Connections.Serving.{IsServed}
use Rattle.clap.specs.Words.{Text as Words}
use Rattle.bor_words.specs.declared.command.Command.{Command}
use Rattle.bor_words.specs.declared.command.Command.TheVariants as command
use Rattle.bor_words.specs.declared.exchange.Exchange.{Exchange}
use Rattle.bor_words.specs.declared.init.Init.{Init}
use Rattle.bor_words.specs.declared.migrate.Migrate.{Migrate}
use Rattle.bor_words.specs.declared.registrar.RegistrarSource.{RegistrarSource}
use Rattle.bor_words.specs.declared.report.Report.{Report}
use Rattle.bor_words.specs.declared.serve.Serve.{Serve}
use Rattle.bor_words.specs.declared.source.Source.{Source}
use Rattle.bor_words.specs.Asked.{name_of}
use Rattle.bor_program.specs.declared.failure.Failure.{Failure}
use Rattle.bor_program.specs.declared.failure.Failure.TheVariants.{Registered}
use Rattle.bor_program.specs.declared.host.opened.Origin.{Origin}
use Rattle.bor_program.specs.declared.host.opened.Origin.TheVariants.{Found, New}
use Rattle.bor_program.specs.Courses.{Course, IsOnlyDeed}
use Rattle.bor_program.specs.Deeds.{ComesToBe, Deed, Fails, Moves, Opens, Visits}
use Rattle.bor_program.specs.Failures.{IsMetIn, IsMetListening, IsMetOn, IsMetOnKeep, IsOpeningOf}
use Rattle.bor_program.specs.Failures.{IsFailureWritten, TellsFiles, failure_line}
use Rattle.bor_program.specs.declared.registrar.Exchanging.{Exchanging}
use Rattle.bor_program.specs.Registrars.{IsTokenOf, IsUntold}
use Rattle.bor_program.specs.Program.{IfFile, IsReportedOf, IsReportedOrCutOff, IsWrittenOrCutOff}
use Rattle.bor_program.specs.Replying.{AreAnswers, AreRepliesTo, EndsFiles, IsSentOrCutOff}
use Rattle.bor_program.specs.Replying.{replies_status, sent}
use Rattle.bor_program.specs.Reporting.{IsToldOf}
use Rattle.bor_program.specs.Streams.{AppendsPart, Known, Streams, TakesAtMostPart, TakesPart}
use Rattle.bor_program.specs.Streams.{part_limit, part_read}

-- the report on some bytes is printed; on those of standard input, where they are known and it is
-- the source, and on what is read of the file that is named
pub record Checks (Reads : ℕ → Bor Words → List ℕ → Type 0) (source : Source)
    (input rest : Known) (streams : Streams) : Type 0 where
  pub report : (bytes : List ℕ)
      × IsReportedOrCutOff bytes streams.output streams.printed streams.status
  pub known : name_of source ≡ None → IfSome input (λ bytes.
      IsReportedOrCutOff (part_read bytes) streams.output streams.printed streams.status)
  pub of_file : IfFile (λ name.
      IsReportedOf (Reads part_limit name) streams.output streams.printed streams.status) source
  pub taken : name_of source ≡ None → streams.status ≤ 1 → TakesPart input rest
  pub at_most : TakesAtMostPart input rest
  pub unread : IsSome (name_of source) → Keeps input rest
  pub silent : streams.status ≤ 1 → Keeps streams.errors streams.told
  pub line : streams.status ≡ 3
      → IsFailureWritten (IsMetOn source streams.output streams.printed)
      streams.errors streams.told

-- ---- over a register in a file

-- The register in the file of this name can't be opened, set up or moved: nothing is printed but
-- the line of the failure that this met.
pub record FailsToOpen {M K : Type 0} (files : Course M (Deed K)) (path : Bor Words)
    (streams : Streams) : Type 0 where
  pub status_is : streams.status ≡ 3
  pub kept : Keeps streams.output streams.printed
  pub failure : Failure
  pub fails : IsOnlyDeed files (Fails path failure)
  pub cause : IsOpeningOf path failure
  pub line : AppendsPart streams.errors streams.told (failure_line failure)

-- Replies are printed, from the register that was opened on, to what is read of the files. Where
-- the run doesn't fail, they are those to one input a file. Lines of faults are printed only for
-- files that can't be read, and for want of memory.
pub record ExchangesFrom {K Left : Type 0} (Reads : Bor Words → List ℕ → Type 0)
    (meaning : Meaning K Register Left StoreFault) (opened left : K) (asked : Exchanging)
    (streams : Streams) : Type 0 where
  pub answered : EndsFiles (AreAnswers meaning opened left) Reads asked.files.items
      streams.output streams.printed streams.status
  pub unread : TellsFiles asked.files.items streams.output streams.printed
      streams.errors streams.told

-- Replies are printed from the new register on, with no file; or from the one that was opened in
-- the file, or set up, and what is left of it is closed there.
pub record Exchanges {M K Left : Type 0} (Reads : Bor Words → List ℕ → Type 0)
    (meaning : Meaning K Register Left StoreFault) (files : Course M (Deed K))
    (asked : Exchanging) (streams : Streams) : Type 0 where
  pub sent : (replies : List Sent)
      × IsSentOrCutOff replies streams.output streams.printed streams.status
  pub answered : asked.db ≡ None
      → (files.ended ≡ files.begun)
      × EndsFiles (AreRepliesTo (empty_register asked.registrar asked.day)) Reads asked.files.items
      streams.output streams.printed streams.status
      × TellsFiles asked.files.items streams.output streams.printed streams.errors streams.told
  pub opened : IfSome asked.db (λ path. FailsToOpen files path streams
      ⊎ ((opened : K) × (origin : Origin) × (left : K)
      × Visits files path (ComesToBe meaning path asked.registrar asked.day opened origin) left
      × ExchangesFrom Reads meaning opened left asked streams))
  pub silent : streams.status ≤ 1 → Keeps streams.errors streams.told

-- the registrar's token isn't given: nothing is answered, no register is opened, and the line of
-- that failure is printed
pub record LacksToken {M D : Type 0} (Reads : ℕ → Bor Words → List ℕ → Type 0)
    (files : Course M D) (source : RegistrarSource) (streams : Streams) : Type 0 where
  pub status_is : streams.status ≡ 3
  pub untouched : files.ended ≡ files.begun
  pub kept : Keeps streams.output streams.printed
  pub line : IsFailureWritten (IsUntold Reads source) streams.errors streams.told

-- it did what was asked, or failed
abbrev pub IsDoneOrFailed : ℕ → Type 0
IsDoneOrFailed status = (status ≡ 0) ⊎ (status ≡ 3)

-- How setting a register up ends where one came to be open like this. It was set up, and no fault
-- is printed; it ends as failed where what was printed before can't be handed on. Or one stands in
-- the file of this name, and a line says so.
abbrev pub EndsSettingUp : Bor Words → Origin → (errors told : Known) → (status : ℕ) → Type 0
EndsSettingUp path Found errors told status =
    (status ≡ 3) × AppendsPart errors told (failure_line (Registered path))
EndsSettingUp path New errors told status = IsDoneOrFailed status × Keeps errors told

-- The register that stands in the file of this name, or a new one that was set up there, is closed
-- there as it came to be open.
abbrev pub SetsUpAndCloses : {M K W : Type 0} → Meaning K Register W StoreFault
    → Course M (Deed K) → Bor Words → List ℕ → ℤ → Streams → Type 0
SetsUpAndCloses {M} {K} meaning files path registrar day streams =
    (opened : K) × (origin : Origin)
    × Visits files path (ComesToBe meaning path registrar day opened origin) opened
    × EndsSettingUp path origin streams.errors streams.told streams.status

-- A register of this registrar and day is set up in the file of this name, if it has none; or that
-- can't be done. Nothing is written on standard output.
pub record Inits {M K W : Type 0} (meaning : Meaning K Register W StoreFault)
    (files : Course M (Deed K)) (path : Bor Words) (registrar : List ℕ) (day : ℤ)
    (streams : Streams) : Type 0 where
  pub kept : Keeps streams.output streams.printed
  pub done : FailsToOpen files path streams
      ⊎ SetsUpAndCloses meaning files path registrar day streams

-- with the registrar's token, the words ask for this
pub record IsOnceTold (Reads : ℕ → Bor Words → List ℕ → Type 0) (asked : Exchange)
    (told : Exchanging) : Type 0 where
  pub db : told.db ≡ asked.db
  pub registrar : IsTokenOf Reads asked.registrar told.registrar
  pub day : told.day ≡ asked.day
  pub files : told.files ≡ asked.files

-- the registrar's token isn't given, or with it the requests are answered
abbrev pub ExchangesOnceTold : {M K Left : Type 0} → (ℕ → Bor Words → List ℕ → Type 0)
    → Meaning K Register Left StoreFault → Course M (Deed K) → Exchange → Streams → Type 0
ExchangesOnceTold Reads meaning files asked streams =
    LacksToken Reads files asked.registrar streams
    ⊎ ((once_told : Exchanging) × IsOnceTold Reads asked once_told
    × Exchanges (Reads request_limit) meaning files once_told streams)

-- the registrar's token isn't given, or with it a register is set up
abbrev pub InitsOnceTold : {M K W : Type 0} → (ℕ → Bor Words → List ℕ → Type 0)
    → Meaning K Register W StoreFault → Course M (Deed K) → Init → Streams → Type 0
InitsOnceTold Reads meaning files asked streams =
    LacksToken Reads files asked.registrar streams
    ⊎ ((registrar : List ℕ) × IsTokenOf Reads asked.registrar registrar
    × Inits meaning files asked.db registrar asked.day streams)

-- the line that says that the server listens
abbrev pub listening : ℕ → List ℕ
listening port = codes "listening 127.0.0.1:" ++ decimal port ++ 10 ∷ []

-- it can't listen, or can't print that it does: it serves no connection, and a front of the line is
-- printed
pub record FailsToListen (port : ℕ) (streams : Streams) : Type 0 where
  pub status_is : streams.status ≡ 3
  pub part : AppendsPart streams.output streams.printed (listening port)
  pub line : IsFailureWritten (IsMetListening streams.output streams.printed)
      streams.errors streams.told

-- The line is printed, and the port that it names is served as is asked for: so many connections,
-- from the register that was opened on. The status says whether one failed, and nothing else is
-- printed.
pub record ServesFrom {K Left : Type 0} (Hosts : Serve → K → K → ℕ → Type 0)
    (meaning : Meaning K Register Left StoreFault) (opened left : K) (asked : Serve)
    (streams : Streams) : Type 0 where
  pub hosted : Hosts asked opened left streams.status
  pub served : IsServed meaning opened left asked.connections streams.status
  pub line : Appends streams.output streams.printed (listening asked.port)
  pub silent : Keeps streams.errors streams.told

-- The register in the file is opened and served, and what is left of it is closed there, the same
-- where the port can't be listened on; or it can't be opened.
abbrev pub Serves : {M K Left : Type 0} → (Serve → K → K → ℕ → Type 0)
    → Meaning K Register Left StoreFault → Course M (Deed K) → Serve → Streams → Type 0
Serves {M} {K} Hosts meaning files asked streams =
    FailsToOpen files asked.db streams
    ⊎ ((opened : K) × (left : K)
    × Visits files asked.db (λ Done. Done (Opens asked.db opened)) left
    × (((left ≡ opened) × FailsToListen asked.port streams)
    ⊎ ServesFrom Hosts meaning opened left asked streams))

-- A text on the register that was opened is printed, or nothing; where that fails, the line of the
-- failure is printed.
pub record TellsFrom {K Left : Type 0} (meaning : Meaning K Register Left StoreFault)
    (tells : K → StoreFault → K → Type 0) (opened left : K) (asked : Report)
    (streams : Streams) : Type 0 where
  pub kept : Kept meaning opened left
  pub text : ((text : Text) × IsToldOf meaning opened left asked text
      × IsWrittenOrCutOff text streams.output streams.printed streams.status)
      ⊎ (Keeps streams.output streams.printed × (streams.status ≡ 3))
  pub line : streams.status ≡ 3 → IsFailureWritten
      (IsMetOnKeep (λ fault. tells opened fault left) streams.output streams.printed)
      streams.errors streams.told

-- A text is printed, on the register in the file, and what is left of that is closed there; or the
-- line of a failure.
pub record Reports {M K Left : Type 0} (meaning : Meaning K Register Left StoreFault)
    (tells : K → StoreFault → K → Type 0) (files : Course M (Deed K)) (asked : Report)
    (streams : Streams) : Type 0 where
  pub text : (text : Text) × IsWrittenOrCutOff text streams.output streams.printed streams.status
  pub opened : FailsToOpen files asked.db streams
      ⊎ ((opened : K) × (left : K)
      × Visits files asked.db (λ Done. Done (Opens asked.db opened)) left
      × TellsFrom meaning tells opened left asked streams)
  pub silent : streams.status ≤ 1 → Keeps streams.errors streams.told
  pub line : streams.status ≡ 3
      → IsFailureWritten (IsMetIn asked.db streams.output streams.printed)
      streams.errors streams.told

-- the text that says the version to which a register was moved
abbrev pub migrated : Text
migrated = answering (codes "version 2" ++ 10 ∷ [])

-- The register in the file is moved, and the version is printed; or the line of a failure is
-- printed.
pub record PerformsMigration {M K : Type 0} (files : Course M (Deed K)) (asked : Migrate)
    (streams : Streams) : Type 0 where
  pub moved : FailsToOpen files asked.db streams ⊎ IsOnlyDeed files (Moves asked.db)
  pub text : IsWrittenOrCutOff migrated streams.output streams.printed streams.status
  pub silent : streams.status ≤ 1 → Keeps streams.errors streams.told
  pub line : streams.status ≡ 3
      → IsFailureWritten (IsMetIn asked.db streams.output streams.printed)
      streams.errors streams.told

-- ---- any command

-- The system that a command runs on: which bytes are read of the front of a file of this name; what
-- hosting is, from one state of a register to another; what these states mean; and which fault a
-- call of a register may have returned.
pub record System (K Left : Type 0) : Type 1 where
  pub reads : ℕ → Bor Words → List ℕ → Type 0
  pub hosts : Serve → K → K → ℕ → Type 0
  pub meaning : Meaning K Register Left StoreFault
  pub tells : K → StoreFault → K → Type 0

-- The effects of the command, over whatever registers are opened and files are read, and its deeds
-- on files; but for a check it leaves standard input alone, and a check leaves the registers in
-- files alone.
abbrev pub Performs : {M K Left : Type 0} → System K Left → Course M (Deed K) → Command
    → (input rest : Known) → Streams → Type 0
Performs system files (command.Check source) input rest streams =
    (files.ended ≡ files.begun) × Checks system.reads source input rest streams
Performs system files (command.Init asked) input rest streams =
    Keeps input rest × InitsOnceTold system.reads system.meaning files asked streams
Performs system files (command.Exchange asked) input rest streams =
    Keeps input rest × ExchangesOnceTold system.reads system.meaning files asked streams
Performs system files (command.Serve asked) input rest streams =
    Keeps input rest × Serves system.hosts system.meaning files asked streams
Performs system files (command.Report asked) input rest streams =
    Keeps input rest × Reports system.meaning system.tells files asked streams
Performs system files (command.Migrate asked) input rest streams =
    Keeps input rest × PerformsMigration files asked streams

-- ---- the meaning of status 1

-- what was written may be a refusal: any bytes, as a text so marked; or replies of which one is
abbrev pub PrintsRefusal : Known → Known → Type 0
PrintsRefusal output printed =
    ((text : Text) × IsTrue text.refused × Appends output printed text.bytes)
    ⊎ ((replies : List Sent) × (replies_status replies ≡ 1)
    × Appends output printed (sent replies))
