-- The database after setting up, whatever stands in it.
use Rattle.std.specs.Prelude.{◌≡◌, ◌≢◌, ◌≤◌, ◌+◌, ◌%◌, ◌==◌, ◌⊎◌, Bool, IsTrue, ℕ, filter, length}
use Rattle.std.specs.Prelude.{map, List, [], ◌∷◌, ◌++◌, slice_get, Some}
use Rattle.std.specs.List.{AllByRecursion, list_any}
use Rattle.sqlite.specs.Change.{next_tree, KeepsRows}
use Rattle.sqlite.specs.Does.{sequence_text}
use Rattle.sqlite.specs.Effect.{Database, IsDatabase}
use Rattle.sqlite.specs.Order.{Row, column}
use Rattle.sqlite.specs.Schema.{Schema}
use Rattle.sqlite.specs.Table.{Table}
use Rattle.sqlite.specs.Tree.{Trees}
use Rattle.sqlite_catalog.specs.Calls.{KeepsForeign}
use Rattle.sqlite_catalog.specs.Listing.{automatic, DefinesTable}
use Rattle.sqlite_rules.specs.Lists.{Has}
use Rattle.sqlite_schema.specs.Names.{index_named, table_named}
use Rattle.sqlite_schema.specs.declared.schema.Index.{Index}
use Rattle.sqlite_trees.specs.Objects.{catalog_tree, number_in, row_for, version_tree}
use Rattle.bor_register.specs.Register.{Register}
use Rattle.bor_store_sql.specs.Kept.{Keeps}
use Rattle.bor_store_sql.specs.Rows.Encoding.{Contents, contents}
use Rattle.bor_store_sql.specs.Texts.Tables.{agent_table, filing_table, identifier_index}
use Rattle.bor_store_sql.specs.Texts.Tables.{identifier_table, interest_table, line_index}
use Rattle.bor_store_sql.specs.Texts.Tables.{period_table, record_index, register_table}
use Rattle.bor_store_sql.specs.Texts.Tables.{statement_table, subject_index}

-- ---- the tables that stood there

-- a list has more at its end, all in trees from a number on
abbrev pub HasMore : {X : Type 0} → (X → ℕ) → ℕ → List X → List X → Type 0
HasMore {X} tree low old new =
    (more : List X) × (new ≡ old ++ more) × AllByRecursion (λ x. low ≤ tree x) more

-- Each table, index and view of a database stands in another, at its place with the same columns
-- and keys, and each table has the same rows. Further tables and indexes have trees past those that
-- were used; no view is added.
pub record Spares (old new : Database) : Type 0 where
  pub tables : HasMore (λ (t : Table). t.tree)
      (next_tree old.schema) old.schema.tables new.schema.tables
  pub indexes : HasMore (λ (i : Index). i.tree)
      (next_tree old.schema) old.schema.indexes new.schema.indexes
  pub views : new.schema.views ≡ old.schema.views
  pub rows : KeepsRows old.schema.tables old.trees new.trees

-- the tree is listed as one that is frozen, since SQL here doesn't read it, and no table, no index
-- and at most one view has it
pub record IsUnreadTree (db : Database) (tree : ℕ) : Type 0 where
  pub frozen : 4 ≤ number_in (column (row_for (db.trees catalog_tree) tree) 5) % 8
  pub no_table : AllByRecursion (λ t. t.tree ≢ tree) db.schema.tables
  pub no_index : AllByRecursion (λ i. i.tree ≢ tree) db.schema.indexes
  pub alone : length (filter (λ v. v.tree == tree) db.schema.views) ≤ 1

-- All that SQL here doesn't read stays as it was: it is listed as before, as triggers are, its
-- trees have the same rows, and the user version is the same.
pub record SparesUnread (old new : Database) : Type 0 where
  pub listed : KeepsForeign (old.trees catalog_tree) (new.trees catalog_tree)
  pub rows : (tree : ℕ) → IsUnreadTree old tree → new.trees tree ≡ old.trees tree
  pub version : new.trees version_tree ≡ old.trees version_tree

-- ---- the tables that are made

-- the table of this name is this one, at this tree, and has these rows
pub record HasTable (db : Database) (table : Table) (tree : ℕ) (rows : List Row) : Type 0 where
  pub place : ℕ
  pub named : table_named db.schema table.name ≡ Some place
  pub found : slice_get db.schema.tables place ≡ Some (record table { tree = tree })
  pub keeps : Keeps rows (db.trees tree)

-- there are these tables with these rows, at trees that rise from a number on
abbrev pub HasTables : ℕ → List (Table × List Row) → Database → Type 0
HasTables low [] db = Unit {0}
HasTables low (it ∷ more) db =
    (tree : ℕ) × (low ≤ tree) × HasTable db it.0 tree it.1 × HasTables (tree + 1) more db

-- the index of this name is this one, whatever its tree, over the table of that name
pub record HasIndex (schema : Schema) (table : Table) (index : Index) : Type 0 where
  pub place : ℕ
  pub tree : ℕ
  pub named : index_named schema index.name ≡ Some place
  pub at : ℕ
  pub on : Table
  pub table_is : table_named schema table.name ≡ Some at
  pub on_is : slice_get schema.tables at ≡ Some on
  pub found : slice_get schema.indexes place ≡ Some (record index { tree = tree; table = on.tree })

-- there are these indexes, each over its table
abbrev pub HasIndexes : List (Table × Index) → Schema → Type 0
HasIndexes indexes schema = AllByRecursion (λ i. HasIndex schema i.0 i.1) indexes

-- ---- nothing else is made

-- some table has AUTOINCREMENT
abbrev pub counts_rows : Schema → Bool
counts_rows schema = list_any (λ t. t.is_counted) schema.tables

-- the table is one of these, at its own tree
abbrev pub IsTableOf : List Table → Table → Type 0
IsTableOf tables t = (it : Table) × Has tables it × (t ≡ record it { tree = t.tree })

-- the index is that of a PRIMARY KEY or a UNIQUE of the table
abbrev pub IsOfKey : Table → Index → Type 0
IsOfKey t i =
    (at : ℕ) × (key : List ℕ) × (slice_get t.uniques at ≡ Some key)
    × (i ≡ automatic t at key i.tree)

-- the index is this one, at its own tree, over the table of that name
abbrev pub IsIndexOver : Schema → Table → Index → Index → Type 0
IsIndexOver schema table index i =
    (at : ℕ) × (on : Table) × (table_named schema table.name ≡ Some at)
    × (slice_get schema.tables at ≡ Some on) × (i ≡ record index { tree = i.tree; table = on.tree })

-- a table that is made is one of these, or the `sqlite_sequence` that SQLite makes where some table
-- had AUTOINCREMENT
abbrev pub IsTableMade : List Table → Schema → Table → Type 0
IsTableMade tables old t =
    IsTableOf tables t ⊎ (IsTrue (counts_rows old) × DefinesTable sequence_text t)

-- an index that is made is one of these, or that of a key of a table that is made
abbrev pub IsIndexMade : List (Table × Index) → Schema → Schema → Index → Type 0
IsIndexMade indexes old new i =
    ((it : Table × Index) × Has indexes it × IsIndexOver new it.0 it.1 i)
    ⊎ ((t : Table) × Has new.tables t × (next_tree old ≤ t.tree) × IsOfKey t i)

-- Each table and each index past the trees that were used is one that is made, and none of these
-- tables has AUTOINCREMENT.
pub record MakesOnly (tables : List Table) (indexes : List (Table × Index))
    (old new : Schema) : Type 0 where
  pub tables_are : AllByRecursion
      (λ (t : Table). next_tree old ≤ t.tree → IsTableMade tables old t) new.tables
  pub indexes_are : AllByRecursion
      (λ (i : Index). next_tree old ≤ i.tree → IsIndexMade indexes old new i) new.indexes
  pub counts : counts_rows new ≡ counts_rows old

-- ---- a register

-- the seven tables
abbrev pub seven_tables : List Table
seven_tables =
    register_table ∷ agent_table ∷ filing_table ∷ statement_table ∷ interest_table
    ∷ identifier_table ∷ period_table ∷ []

-- the seven tables with their rows
abbrev pub tables_with_rows : Contents → List (Table × List Row)
tables_with_rows t =
    (register_table, t.register) ∷ (agent_table, t.agents) ∷ (filing_table, t.filings)
    ∷ (statement_table, t.statements)
    ∷ (interest_table, t.interests) ∷ (identifier_table, t.identifiers)
    ∷ (period_table, t.periods) ∷ []

-- the four indexes
abbrev pub four_indexes : List (Table × Index)
four_indexes =
    (statement_table, record_index) ∷ (statement_table, subject_index)
    ∷ (identifier_table, identifier_index) ∷ (filing_table, line_index) ∷ []

-- A register is set up beside what stood in a database: this stays as it was, and the seven tables
-- with the register's rows are there, in trees past those that were used, no two in one. With them
-- are made the indexes of their keys and the four, and nothing else (`MakesOnly`).
pub record SetsUp (r : Register) (old new : Database) : Type 0 where
  pub sound : IsDatabase new
  pub spares : Spares old new
  pub unread : SparesUnread old new
  pub tables : HasTables (next_tree old.schema) (tables_with_rows (contents r)) new
  pub indexes : HasIndexes four_indexes new.schema
  pub only : MakesOnly seven_tables four_indexes old.schema new.schema

-- the register is set up so in trees, which list their schema
abbrev pub SetsUpIn : Register → Database → Trees → Type 0
SetsUpIn r old trees = (schema : Schema) × SetsUp r old (record { schema = schema; trees = trees })

-- ---- the tables while they are made, for clauses of private functions alone

-- the tables without their rows
abbrev pub tables_of : List (Table × List Row) → List Table
tables_of made = map (λ it. it.0) made

-- these tables are added with these rows, and these indexes
pub record Adds (made : List (Table × List Row)) (over : List (Table × Index))
    (old new : Database) : Type 0 where
  pub sound : IsDatabase new
  pub spares : Spares old new
  pub unread : IsDatabase old → SparesUnread old new
  pub tables : HasTables (next_tree old.schema) made new
  pub indexes : HasIndexes over new.schema
  pub only : MakesOnly (tables_of made) over old.schema new.schema

-- the table without rows
abbrev pub blank : Table → Table × List Row
blank table = (table, [])

abbrev pub lists : List (Table × List Row)
lists = blank register_table ∷ blank agent_table ∷ blank filing_table ∷ []

abbrev pub details : List (Table × List Row)
details = blank statement_table ∷ blank interest_table ∷ blank identifier_table ∷ []

-- the register is set up, where the database was sound
abbrev pub SetsUpSound : Register → Database → Database → Type 0
SetsUpSound r old new = IsDatabase old → SetsUp r old new

-- once the seven tables are added without rows, the register is set up
abbrev pub PutsRegister : Register → Database → Database → Type 0
PutsRegister r old new =
    (before : Database) → Adds (lists ++ details ++ blank period_table ∷ []) four_indexes before old
    → SetsUpSound r before new
