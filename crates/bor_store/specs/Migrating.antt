-- The result of moving tables of version 1 to version 2. Version 1 has nothing of the days of
-- interests: the files of the live filings say them.
use Rattle.std.specs.Prelude.{◌≡◌, ◌≢◌, ◌⊎◌, ℕ, ℤ, Bool, true, false, List, [], ◌∷◌, ◌++◌}
use Rattle.std.specs.Prelude.{slice_get, Option, Some, None, Result, Ok, Err, MatchResult, Vec}
use Rattle.std.specs.Prelude.{IsTrue}
use Rattle.std.specs.List.{flat_map}
use Rattle.std.specs.declared.alloc.Global.{Global}
use Rattle.sqlite.specs.State.{State}
use Rattle.bods_read.specs.File.{reading}
use Rattle.bods_read.specs.declared.statement.Statement.{Statement}
use Rattle.bor_register.specs.Register.{Register, filings_of}
use Rattle.bor_register.specs.declared.filing.AcceptedFiling.{AcceptedFiling}
use Rattle.bor_register.specs.declared.member.Member.{Member}
use Rattle.bor_store_sql.specs.Rows.Encoding.{first_version, tables_version}
use Rattle.bor_store_sql.specs.Rows.Placed.{interest_rows, period_rows, placed_from}
use Rattle.bor_store_sql.specs.declared.rows.typed.FilingRow.{FilingRow}
use Rattle.bor_store_sql.specs.declared.rows.typed.PeriodRow.{PeriodRow}
use Rattle.bor_store_sql.specs.declared.rows.typed.Placed.{Placed}
use Rattle.bor_store_sql.specs.Changing.{all_periods}
use Rattle.bor_store_sql.specs.Fitting.{Fit}
use Rattle.bor_store_sql.specs.Selected.{numbered}
use Rattle.bor_store_sql.specs.Shown.{IsClean, ShowsIn, ShowsLists}
use Rattle.bor_store_reads.specs.Answering.{IsNoDamage}
use Rattle.bor_store_reads.specs.declared.fault.ReadError.{ReadError}
use Rattle.bor_store_reads.specs.declared.fault.ReadError.TheVariants as errors
use Rattle.bor_store.specs.Opening.{IsFailure, IsToldBy, has_all, has_first, is_period_used}
use Rattle.bor_store.specs.Opening.{version_in}
use Rattle.bor_store.specs.declared.open_fault.OpenFault.{OpenFault}
use Rattle.bor_store.specs.declared.open_fault.OpenFault.TheVariants as faults

-- ---- the days that files have

-- the days of the interests of these statements, by where the interests stand
abbrev pub interest_days : List Placed → List PeriodRow
interest_days ps = flat_map (λ p. flat_map period_rows (interest_rows p)) ps

-- The file of an agent's filing with this number is read, to statements that fit those that are
-- kept, and whose interests have these days.
pub record FileSays (agent : List ℕ) (number : ℕ) (f : AcceptedFiling)
    (days : List PeriodRow) : Type 0 where
  pub said : List Statement
  pub read : reading f.bytes ≡ Ok said
  pub fit : Fit agent number 1 said f.statements
  pub are : days ≡ interest_days (placed_from agent number 1 said)

-- a withdrawn filing has no statements, whatever its file says
abbrev pub UnlessWithdrawn : Bool → (List PeriodRow → Type 0) → List PeriodRow → Type 0
UnlessWithdrawn true Says days = days ≡ []
UnlessWithdrawn false Says days = Says days

abbrev pub FilingSays : List ℕ → AcceptedFiling → List PeriodRow → Type 0
FilingSays agent f days = UnlessWithdrawn f.withdrawn (FileSays agent f.number f) days

-- these filings of an agent say these days, one after the other
abbrev pub OwnSay : List ℕ → List AcceptedFiling → List PeriodRow → Type 0
OwnSay agent [] days = days ≡ []
OwnSay agent (f ∷ fs) days =
    (first : List PeriodRow) × (rest : List PeriodRow) × FilingSays agent f first
    × OwnSay agent fs rest × (days ≡ first ++ rest)

-- the files of all live filings are read and fit, and say these days
abbrev pub FilesSay : List Member → List PeriodRow → Type 0
FilesSay [] days = days ≡ []
FilesSay (m ∷ ms) days =
    (own : List PeriodRow) × (rest : List PeriodRow) × OwnSay m.name m.filings own
    × FilesSay ms rest × (days ≡ own ++ rest)

-- ---- the result of the move

-- The answer where version 1 showed r, and the tables that are left: the files say days, and where
-- they are those of r's interests, r is shown in version 2; or memory is wanting or the store
-- failed; or the files say none.
abbrev pub Migrates : {X : Type 0} → Register → State → Result X OpenFault → Type 0
Migrates r new (Ok x) =
    (days : List PeriodRow) × FilesSay r.members days
    × (days ≡ all_periods r.members → ShowsIn r new)
Migrates r new (Err fault) =
    IsFailure fault
    ⊎ ((fault ≡ faults.Damaged) × ((days : List PeriodRow) → FilesSay r.members days → ⊥))

-- ---- which tables are moved

-- they are of version 1, all with their columns, and nothing has the name of the seventh
abbrev pub IsFirst : Option ℤ → Bool → Bool → Type 0
IsFirst version is_whole is_used =
    (version ≡ Some first_version) × IsTrue is_whole × (is_used ≡ false)

-- they are of version 2, all with their columns
abbrev pub IsSecond : Option ℤ → Bool → Type 0
IsSecond version is_whole = (version ≡ Some tables_version) × IsTrue is_whole

-- The meaning of a refusal, by the one version that there is, by whether all tables of version 1
-- are there and the name of the seventh is used, and by whether all of version 2 are there.
abbrev pub RefusesMove : Option ℤ → Bool → Bool → Bool → OpenFault → Type 0
RefusesMove version first used second (faults.OtherVersion n) =
    (version ≡ Some n) × (n ≢ first_version) × (n ≢ tables_version)
RefusesMove version first used second faults.NoRegister =
    (version ≡ None)
    ⊎ (((version ≡ Some first_version) × (first ≡ false))
    ⊎ ((version ≡ Some tables_version) × (second ≡ false)))
RefusesMove version first used second faults.Taken =
    (version ≡ Some first_version) × IsTrue first × IsTrue used
RefusesMove version first used second _ = ⊥

-- tables are moved in version 1, and stay in version 2; those of any other version are refused
abbrev pub TellsMove : {X : Type 0} → Type 0 → Option ℤ → Bool → Bool → Bool
    → Result X OpenFault → Type 0
TellsMove Stays version first used second (Ok x) =
    IsFirst version first used ⊎ (IsSecond version second × Stays)
TellsMove Stays version first used second (Err faults.Damaged) = IsFirst version first used
TellsMove Stays version first used second (Err fault) = RefusesMove version first used second fault

-- the answer of a move, by the tables that there were, and that those of version 2 are left as they
-- are
abbrev pub IsMoveJudged : {X : Type 0} → State → State → Result X OpenFault → Type 0
IsMoveJudged old new result =
    IsToldBy (λ schema rows answer. TellsMove (new.committed ≡ old.committed) (version_in rows)
    (has_first schema) (is_period_used schema) (has_all schema) answer) old result

-- ---- for clauses of private functions alone

-- whether they are of version 1, and not of version 2
abbrev pub TellsVersion : Option ℤ → Bool → Bool → Bool → Result Bool OpenFault → Type 0
TellsVersion version first used second (Ok true) = IsFirst version first used
TellsVersion version first used second (Ok false) = IsSecond version second
TellsVersion version first used second (Err fault) = RefusesMove version first used second fault

abbrev pub IsVersionJudged : State → Result Bool OpenFault → Type 0
IsVersionJudged s result =
    IsToldBy (λ schema rows answer. TellsVersion (version_in rows) (has_first schema)
    (is_period_used schema) (has_all schema) answer) s result

-- the fault of a read that fails
abbrev pub of_read : ReadError → OpenFault
of_read errors.Memory = faults.Memory
of_read errors.Store = faults.Store
of_read errors.Damaged = faults.Damaged

-- Where the connection ended clean and had the lists of a register, in whichever version, this
-- holds of an answer, and no error is of damage.
abbrev pub AnswersEither : {X : Type 0} → State → State → Result X ReadError
    → (Register → X → Type 0) → Type 0
AnswersEither old new result P =
    IsClean new → (r : Register) → ShowsLists r old → MatchResult result (P r) IsNoDamage

-- the agent's filing with this number
abbrev pub filed_at : List ℕ → ℕ → List Member → Option AcceptedFiling
filed_at agent number ms = slice_get (numbered number (filings_of agent ms)) 0

abbrev pub FoundSays : List ℕ → ℕ → Option AcceptedFiling → List PeriodRow → Type 0
FoundSays agent number None days = ⊥
FoundSays agent number (Some f) days = FileSays agent number f days

-- the days that the file of the filing with this line says
abbrev pub LineSays : List Member → FilingRow → List PeriodRow → Type 0
LineSays ms l days =
    UnlessWithdrawn l.withdrawn (FoundSays l.agent l.number (filed_at l.agent l.number ms)) days

abbrev pub LinesSay : List Member → List FilingRow → List PeriodRow → Type 0
LinesSay ms [] days = days ≡ []
LinesSay ms (l ∷ ls) days =
    (first : List PeriodRow) × (rest : List PeriodRow) × LineSays ms l first × LinesSay ms ls rest
    × (days ≡ first ++ rest)

-- the days that are said are put behind those that are there; damage is the answer only where none
-- are said
abbrev pub Gathers : {X : Type 0} → (List PeriodRow → Type 0) → List PeriodRow → List PeriodRow
    → Result X ReadError → Type 0
Gathers Says before after (Ok x) = (days : List PeriodRow) × Says days × (after ≡ before ++ days)
Gathers Says before after (Err error) =
    error ≡ errors.Damaged → (days : List PeriodRow) → Says days → ⊥

-- all that are said, where none were there before
abbrev pub GathersAll : (List PeriodRow → Type 0) → Result (Vec PeriodRow Global) ReadError → Type 0
GathersAll Says (Ok days) = Says days.items
GathersAll Says (Err error) = error ≡ errors.Damaged → (days : List PeriodRow) → Says days → ⊥
