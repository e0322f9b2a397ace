-- The tables that are taken for a register, and the registers that files hold.
use Rattle.std.specs.Prelude.{◌≡◌, ◌≢◌, ◌⊎◌, ℕ, ℤ, Bool, false, if◌then◌else◌, ◌||◌, ◌&&◌}
use Rattle.std.specs.Prelude.{List, [], ◌∷◌, map, is_some, codes, Option, Some, None, Result, Ok}
use Rattle.std.specs.Prelude.{Err, IsErrAnd, IsTrue, ⊤}
use Rattle.std.specs.List.{list_any, list_all}
use Rattle.sqlite.specs.Held.{Held}
use Rattle.sqlite.specs.Order.{Row, column}
use Rattle.sqlite.specs.Schema.{Schema}
use Rattle.sqlite.specs.Start.{FindsIn}
use Rattle.sqlite.specs.State.{State, HasCleanDisk, Opens, Shown}
use Rattle.sqlite.specs.Files.{FailsToClose, HoldsDatabase, IsClosed, file_state}
use Rattle.sqlite_disk.specs.declared.Disk.{Ghosts as Disk}
use Rattle.sqlite_disk.specs.declared.Files.{Files}
use Rattle.sqlite_store.specs.FileStore.{view}
use Rattle.sqlite_store.specs.declared.store.FileStore.{FileStore}
use Rattle.sqlite_wal.specs.Files.{outcomes}
use Rattle.sqlite_wal.specs.Reads.{AreClean}
use Rattle.sqlite_trees.specs.View.{IsClean as IsUnharmed}
use Rattle.sqlite.specs.declared.error.Error.{Error}
use Rattle.bor_store_reads.specs.Answering.{wants_memory}
use Rattle.sqlite.specs.Table.{Table}
use Rattle.sqlite.specs.declared.types.Value.{Value}
use Rattle.sqlite.specs.declared.types.Value.TheVariants.{Int}
use Rattle.sqlite_trees.specs.Tree.{Trees}
use Rattle.sqlite_wal.specs.Recovery.{Image}
use Rattle.sqlite_schema.specs.Names.{same_name, table_named, index_named, view_named, column_named}
use Rattle.bor_register.specs.Register.{Register}
use Rattle.bor_store_sql.specs.Rows.Encoding.{first_version, tables_version}
use Rattle.bor_store_sql.specs.Found.{ReadsOnly}
use Rattle.bor_store_sql.specs.Shown.{ShowsFirst, ShowsIn, Stands}
use Rattle.bor_store_sql.specs.Texts.Tables.{first_schema, keep_schema, period_table}
use Rattle.bor_store.specs.declared.open_fault.OpenFault.{OpenFault}
use Rattle.bor_store.specs.declared.open_fault.OpenFault.TheVariants as faults
use Rattle.bor_store.specs.declared.refused.Refused.{Refused}

-- memory is wanting or the store failed
abbrev pub IsFailure : OpenFault → Type 0
IsFailure fault = (fault ≡ faults.Memory) ⊎ (fault ≡ faults.Store)

-- the fault of an error of the store: want of memory, and of each other one a store that failed
abbrev pub open_fault_of : Error → OpenFault
open_fault_of error = if wants_memory error then faults.Memory else faults.Store

-- ---- taking tables for a register

-- the table has all these columns
abbrev pub has_columns : Table → List (List ℕ) → Bool
has_columns table columns = list_all (λ column. is_some (column_named table column)) columns

-- there is a table of this name with all these columns
abbrev pub has_table : Schema → List ℕ → List (List ℕ) → Bool
has_table schema name columns =
    list_any (λ table. same_name table.name name && has_columns table columns) schema.tables

-- there are the columns that have a version
abbrev pub is_versioned : Schema → Bool
is_versioned schema = has_table schema (codes "register") (codes "one" ∷ codes "version" ∷ [])

-- there are tables of the names of these, with all their columns
abbrev pub has_tables : Schema → List Table → Bool
has_tables schema tables =
    list_all (λ wanted. has_table schema wanted.name (map (λ c. c.name) wanted.columns)) tables

-- there are all tables of a register, with all their columns
abbrev pub has_all : Schema → Bool
has_all schema = has_tables schema keep_schema.tables

-- there are all tables of a register of version 1
abbrev pub has_first : Schema → Bool
has_first schema = has_tables schema first_schema.tables

-- a table, an index or a view has the name, but for the case of ASCII letters
abbrev pub is_used : Schema → List ℕ → Bool
is_used schema name =
    is_some (table_named schema name)
    || (is_some (index_named schema name) || is_some (view_named schema name))

-- a table, an index or a view has the name of the table that version 2 has beside those of version
-- 1
abbrev pub is_period_used : Schema → Bool
is_period_used schema = is_used schema period_table.name

-- ---- the version

-- the query that asks for the version
abbrev pub version_text : List ℕ
version_text = codes "SELECT version FROM register"

-- SQL gives these rows as the versions, asked of a connection in this state
abbrev pub AreVersions : State → List Row → Type 0
AreVersions s rows = Shown version_text [] s s rows

abbrev pub whole_number : Value → Option ℤ
whole_number (Int n) = Some n
whole_number _ = None

-- the whole version that the one row has
abbrev pub version_in : List Row → Option ℤ
version_in [] = None
version_in (row ∷ []) = whole_number (column row 0)
version_in (row ∷ other ∷ more) = None

-- the answer where the rows of the versions are these: tables of version 2 are taken, with all of
-- their columns, and no others
abbrev pub Judges : {X : Type 0} → Schema → List Row → Result X OpenFault → Type 0
Judges schema rows (Ok x) = (version_in rows ≡ Some tables_version) × IsTrue (has_all schema)
Judges schema rows (Err (faults.OtherVersion n)) = (version_in rows ≡ Some n) × (n ≢ tables_version)
Judges schema rows (Err faults.NoRegister) =
    (version_in rows ≡ None) ⊎ ((version_in rows ≡ Some tables_version) × (has_all schema ≡ false))
Judges schema rows (Err _) = ⊥

-- An answer on a connection's tables: memory is wanting or the store failed, or there is no version
-- to ask for, or it is what the rows of the versions make it.
abbrev pub IsToldBy : {X : Type 0} → (Schema → List Row → Result X OpenFault → Type 0) → State
    → Result X OpenFault → Type 0
IsToldBy tells s result =
    IsErrAnd result IsFailure
    ⊎ (((is_versioned s.now.schema ≡ false) × (result ≡ Err faults.NoRegister))
    ⊎ ((rows : List Row) × AreVersions s rows × tells s.now.schema rows result))

-- the answer of whether a connection has a register
abbrev pub IsJudged : {X : Type 0} → State → Result X OpenFault → Type 0
IsJudged s result = IsToldBy (λ schema rows answer. Judges schema rows answer) s result

-- The tables of a connection are a register's: SQL gives one version, it is that of these tables,
-- and no table and no column is missing.
pub record IsRegister (s : State) : Type 0 where
  pub rows : List Row
  pub versions : AreVersions s rows
  pub version : version_in rows ≡ Some tables_version
  pub whole : IsTrue (has_all s.now.schema)

-- tables of version 1 are refused as such, or memory is wanting or the store failed
abbrev pub RefusesFirst : {X : Type 0} → Result X OpenFault → Type 0
RefusesFirst result =
    IsErrAnd result (λ fault. IsFailure fault ⊎ (fault ≡ faults.OtherVersion first_version))

-- ---- what comes back with a refusal

-- the answer alone, without the connection of a refusal
abbrev pub answer_of : {X C : Type 0} → Result X (Refused C) → Result X OpenFault
answer_of (Ok x) = Ok x
answer_of (Err refused) = Err refused.fault

-- the connection of what was taken, or the one that was refused
abbrev pub conn_in : {X C : Type 0} → (X → C) → Result X (Refused C) → C
conn_in conn_of (Ok x) = conn_of x
conn_in conn_of (Err refused) = refused.conn

-- ---- the contents of files

-- Two files, a database and its log, hold a register: they recover to trees that are a sound
-- database of its tables, with its rows.
pub record HoldsRegister (image : Image) (r : Register) : Type 0 where
  pub trees : Trees
  pub holds : ∥ HoldsDatabase image trees ∥₁
  pub stands : Stands r trees

-- A connection to them that is new, and shows what they recover to, and each register that they
-- hold.
pub record IsConnected (image : Image) (s : State) : Type 0 where
  pub opens : Opens s
  pub found : FindsIn image s
  pub shows : (r : Register) → HoldsRegister image r → ShowsIn r s

-- A connection to them that comes back with a refusal: it was opened, and then only read, and no
-- transaction is open. The fault is what the tables make it; files that hold a register are refused
-- where memory is wanting or the store failed, and else not.
pub record IsRefused {D : Type 0} {g : Disk D} (image : Image) (fault : OpenFault)
    (left : Held (FileStore D g)) : Type 0 where
  pub opened : Held (FileStore D g)
  pub settled : left.in_transaction ≡ false
  pub connected : HasCleanDisk (file_state opened) → IsConnected image (file_state opened)
  pub reads : ReadsOnly (file_state opened) (file_state left)
  pub judged : HasCleanDisk (file_state left) → IsJudged {X = ⊤} (file_state opened) (Err fault)
  pub shown : HasCleanDisk (file_state left) → (r : Register) → HoldsRegister image r
      → IsFailure fault
  pub first : HasCleanDisk (file_state left) → (r : Register) → ShowsFirst r (file_state opened)
      → RefusesFirst {X = ⊤} (Err fault)

-- the same where there may be no connection, since it can't be opened: memory is wanting or the
-- store failed
abbrev pub ComesBack : {D : Type 0} {g : Disk D} → Image → OpenFault
    → Option (Held (FileStore D g)) → Type 0
ComesBack image fault None = IsFailure fault
ComesBack image fault (Some left) = IsRefused image fault left

-- The result of closing a connection: two files that hold each register that it showed, as they
-- read and after a crash, on a disk that returned what was written; or the error that the store
-- returns.
abbrev pub IsClosing : {D : Type 0} {g : Disk D} → Held (FileStore D g)
    → Result (Files D) Error → Type 0
IsClosing {D} {g} c (Ok files) =
    AreClean g files.log files.db → (r : Register) → ShowsIn r (file_state c) → (image : Image)
    → outcomes g files.log files.db image → HoldsRegister image r
IsClosing {D} {g} c (Err e) =
    (last : FileStore D g) × IsClosed c last × (IsUnharmed (view last) → FailsToClose c last e)
