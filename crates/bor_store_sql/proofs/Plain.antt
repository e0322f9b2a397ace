-- What texts mean, whatever the schema: a SELECT returns no rows of a write, and those that make the tables do this.
use Rattle.std.proofs.Common.{◌≡◌, ℕ, Bool, true, false, cond, List, None, Option, Ok, Err, Result, true≢false, sym, refl, ◌⊎◌, inl, inr, ◌+◌, [], slice_range, Some, slice_get, ap, subst, ◌∙◌, rules}
use Rattle.sqlite.specs.Listing.{understood, listing_schema, if_select, is_select}
use Rattle.sqlite.specs.Schema.{Schema}
use Rattle.sqlite.specs.Command.{Command}
use Rattle.sqlite_resolve.specs.declared.compiled.Compiled.{Compiled}
use Rattle.sqlite_resolve.specs.declared.error.CompileError.{CompileError}
use Rattle.sqlite_resolve.specs.declared.error.CompileError.TheVariants.{Misuse, Exists}
use Rattle.sqlite_resolve.specs.Compile.{compiled, planned, meaning, returning, first, with_command, command, timed, create_table, create_index, creates, insert, insert_or_abort, new_rows, shows, small, formats_of}
use Rattle.sqlite_ast.specs.declared.Select.{Select}
use Rattle.sqlite_ast.specs.declared.Statement.{Statement}
use Rattle.sqlite_ast.specs.declared.Statement.TheVariants as written
use Rattle.sqlite_syntax.specs.declared.statement.Parsed.{Parsed}
use Rattle.sqlite_schema.specs.declared.command.Returning.{Returning}
use Rattle.sqlite_resolve.specs.Lowering.{and_then, or_else}
use Rattle.sqlite_resolve.specs.Scope.{Name}
use Rattle.sqlite.specs.Given.{Returns}
use Rattle.bor_store_sql.specs.Texts.Meanings.{Asks, AsksIn}
use Rattle.bor_store_sql.specs.Texts.Tables.{first_schema}
use Rattle.bor_store_sql.specs.Found.{IsQuery}
use Rattle.sqlite.specs.Query.{Query}
use Rattle.sqlite.proofs.Callers.{IsPlain, command_of, statement_of, runs_as}
use Rattle.sqlite.specs.Command.TheVariants.{CreateTable, CreateIndex, Insert, Nothing}
use Rattle.sqlite.specs.Source.{Source}
use Rattle.sqlite.specs.State.{text_of, State, Executes, ExecutesIn, Runs}
use Rattle.sqlite.specs.Table.{Table}
use Rattle.sqlite_ast.specs.declared.CreateTable.{CreateTable as CreateTableText}
use Rattle.sqlite_ast.specs.declared.CreateIndex.{CreateIndex as CreateIndexText}
use Rattle.sqlite_ast.specs.declared.Conflict.TheVariants as conflict
use Rattle.sqlite_ast.specs.declared.Rows.{Rows}
use Rattle.sqlite_resolve.specs.Define.{table}
use Rattle.sqlite_schema.specs.Names.{table_named}
use Rattle.sqlite.specs.Order.{Row}
use Rattle.sqlite.specs.Does.{AtPlace}
use Rattle.sqlite.specs.Rows.{Part}

-- ---- a SELECT

-- what comes of a command, where nothing is returned
abbrev Never : Result Compiled CompileError → Type 0
Never r = Returns r → ⊥

listed_never : (r : Result Compiled CompileError) → Never r → Never (if_select r)
listed_never r n = search rules

either : (b : Bool) (x y : Result Compiled CompileError) → Never x → Never y → Never (cond b x y)
either b x y n m = search rules

abbrev pub IsReading : Statement → Type 0
IsReading s = (query : Select) × (s ≡ written.Select query)

-- the text's first statement is a SELECT
abbrev pub ReadsFirst : Result Parsed CompileError → Type 0
ReadsFirst (Ok p) = IsReading p.statement
ReadsFirst (Err e) = ⊥

of_command : (p : Parsed) (formats : List Name) (c : Result Command CompileError)
    → Never (and_then (and_then (and_then c (λ k. Ok (k, None))) (λ found. Ok (formats, found))) (λ plan. Ok (with_command p plan)))
of_command p formats c = search rules

returns_none : (schema : Schema) (base : ℕ) (s : Statement) → IsReading s → returning schema base s ≡ Ok None
unfolding returning
returns_none schema base s is = rw is.1 refl

by_shown : (p : Parsed) (formats : List Name) (c : Result Command CompileError) (shown : Result (Option Returning) CompileError) → shown ≡ Ok None
    → Never (and_then (and_then (and_then shown (λ s. and_then c (λ k. Ok (k, s)))) (λ found. Ok (formats, found))) (λ plan. Ok (with_command p plan)))
by_shown p formats c shown e = rw e (of_command p formats c)

of_statement : (schema : Schema) (p : Parsed) → IsReading p.statement → Never (and_then (planned schema p) (λ plan. Ok (with_command p plan)))
unfolding planned meaning
of_statement schema p is = by_shown p _ _ _ (returns_none schema _ p.statement is)

compiled_never : (schema : Schema) (text : List ℕ) → ReadsFirst (first text) → Never (compiled schema text)
unfolding compiled
compiled_never schema text is = search (rules, of_statement)

-- so a query that was understood as one changes nothing, whatever the schema
pub understood_never : (schema : Schema) (text : List ℕ) → ReadsFirst (first text) → Returns (understood schema text) → ⊥
unfolding understood
understood_never schema text is = search (rules, either, listed_never, compiled_never)

-- a query whatever the schema, which asks for this under that of the register's tables
pub record IsSelect (text : List ℕ) (query : Query) : Type 0 where
  pub reads : ReadsFirst (first text)
  pub asks : Asks text query

pub is_query : {text : List ℕ} {query : Query} → IsSelect text query → IsQuery text
is_query {text} is schema = understood_never schema text is.reads

-- the same of one that is asked of version 1 too
pub record IsSelectBoth (text : List ℕ) (query : Query) : Type 0 where
  pub now : IsSelect text query
  pub first : AsksIn first_schema text query

-- ---- the texts that make the tables and put down the register's row: what texts are

-- it makes a table, and no other is to be left in its place
abbrev pub Makes : Statement → Type 0
Makes s = (def : CreateTableText) × (s ≡ written.CreateTable def) × (def.if_missing ≡ false)

-- the same of an index of a table of this name
abbrev pub Indexes : List ℕ → Statement → Type 0
Indexes name s = (def : CreateIndexText) × (s ≡ written.CreateIndex def) × (def.if_missing ≡ false) × (def.table ≡ name)

-- the text is one such statement, and nothing else
abbrev pub Reads : (Statement → Type 0) → List ℕ → Result Parsed CompileError → Type 0
Reads Is text (Ok p) = Is p.statement × (slice_range text p.start p.end ≡ text)
Reads Is text (Err e) = ⊥

-- ---- what they mean

-- the text is understood as such a command, and nothing else
pub record Means (Is : Command → Type 0) (text : List ℕ) (c : Compiled) : Type 0 where
  pub command : Is c.command
  pub plain : IsPlain (Ok c)
  pub whole : text_of text c ≡ text

-- the command makes an index of the table of this name
abbrev pub IsIndexOf : Schema → List ℕ → Command → Type 0
IsIndexOf schema name k = (at : ℕ) × (on : Table) × (table_named schema name ≡ Some at) × (slice_get schema.tables at ≡ Some on) × (k ≡ CreateIndex at)

-- ---- step by step

kept_on : {X : Type 0} (b : Bool) (e : CompileError) (x : Result X CompileError) (k : X) → cond b (Err e) x ≡ Ok k → x ≡ Ok k
kept_on b e x k h = search rules

-- no such name is there, and it is new
is_new : (missing reserved other same : Bool) (b : Bool) → missing ≡ false
    → cond reserved (Err Misuse) (cond other (Err Exists) (cond same (cond missing (Ok false) (Err Exists)) (Ok true))) ≡ Ok b → b ≡ true
is_new missing reserved other same b gone h = search rules

then_made : {X : Type 0} (new : Result Bool CompileError) (x : Result X CompileError) (ask : X → Bool) (e : CompileError) (made k : Command)
    → ((b : Bool) → new ≡ Ok b → b ≡ true)
    → and_then new (λ b. cond b (and_then x (λ t. cond (ask t) (Ok made) (Err e))) (Ok Nothing)) ≡ Ok k → k ≡ made
then_made new x ask e made k only h = search rules

-- what is found in its place
found_in : {X Y : Type 0} (o : Option X) (e : CompileError) (f : X → Result Y CompileError) (k : Y) → and_then (or_else o e) f ≡ Ok k → (x : X) × (o ≡ Some x) × (f x ≡ Ok k)
found_in None e f k h = absurd (cc)
found_in (Some x) e f k h = (x, refl, h)

-- ---- CREATE TABLE

-- a new table is made, or there is an error
new_alone : (schema : Schema) (formats : List Name) (def : CreateTableText) (k : Command) → def.if_missing ≡ false → create_table schema formats def ≡ Ok k → k ≡ CreateTable
unfolding create_table creates
new_alone schema formats def k missing h = search (rules, then_made, is_new, kept_on)

-- a new index is made, or there is an error
index_alone : (schema : Schema) (name : List ℕ) (def : CreateIndexText) (k : Command) → def.if_missing ≡ false → def.table ≡ name → create_index schema def ≡ Ok k → IsIndexOf schema name k
unfolding create_index creates
index_alone schema name def k missing named h = search (rules, found_in, kept_on, then_made, is_new)

means_by : (Is : Command → Type 0) (text : List ℕ) (p : Parsed) (k : Result Command CompileError) (c : Compiled) → ((it : Command) → k ≡ Ok it → Is it) → slice_range text p.start p.end ≡ text
    → and_then (and_then (and_then k (λ it. Ok (it, None))) (λ found. Ok (p.formats, found))) (λ plan. Ok (with_command p plan)) ≡ Ok c → p.formats ≡ [] → Means Is text c
means_by Is text p k c is whole h none = search rules

-- what is understood of a statement that was read
abbrev compiled_of : Schema → Parsed → Result Compiled CompileError
compiled_of schema p = and_then (planned schema p) (λ plan. Ok (with_command p plan))

of_making : (schema : Schema) (text : List ℕ) (p : Parsed) (s : Statement) (c : Compiled) → Makes s → slice_range text p.start p.end ≡ text → compiled_of schema (record p { statement = s }) ≡ Ok c
    → Means (λ k. k ≡ CreateTable) text c
unfolding planned meaning returning command timed
of_making schema text p s c h whole k = search (rules, means_by, new_alone)

of_indexing : (schema : Schema) (name text : List ℕ) (p : Parsed) (s : Statement) (c : Compiled) → Indexes name s → slice_range text p.start p.end ≡ text → p.formats ≡ [] → compiled_of schema (record p { statement = s }) ≡ Ok c
    → Means (IsIndexOf schema name) text c
unfolding planned meaning returning command timed
of_indexing schema name text p s c (def, is, missing, on) whole none h =
    means_by (IsIndexOf schema name) text (record p { statement = written.CreateIndex def }) (create_index schema def) c (λ k. index_alone schema name def k missing on) whole
    (subst (λ s. compiled_of schema (record p { statement = s }) ≡ Ok c) is h) none

compiled_making : (schema : Schema) (text : List ℕ) (c : Compiled) → Reads Makes text (first text) → compiled schema text ≡ Ok c → Means (λ k. k ≡ CreateTable) text c
unfolding compiled
compiled_making schema text c = go (first text)
  where
    go : (r : Result Parsed CompileError) → Reads Makes text r → and_then r (compiled_of schema) ≡ Ok c → Means (λ k. k ≡ CreateTable) text c
    go (Ok p) is h = of_making schema text p p.statement c is.0 is.1 h
    go (Err e) is h = absurd is

-- no time is read
abbrev pub untimed : Result Parsed CompileError → List (List ℕ)
untimed (Ok p) = p.formats
untimed (Err e) = []

compiled_indexing : (schema : Schema) (name text : List ℕ) (c : Compiled) → Reads (Indexes name) text (first text) → untimed (first text) ≡ [] → compiled schema text ≡ Ok c → Means (IsIndexOf schema name) text c
unfolding compiled
compiled_indexing schema name text c = go (first text)
  where
    go : (r : Result Parsed CompileError) → Reads (Indexes name) text r → untimed r ≡ [] → and_then r (compiled_of schema) ≡ Ok c → Means (IsIndexOf schema name) text c
    go (Ok p) is none h = of_indexing schema name text p p.statement c is.0 is.1 none h
    go (Err e) is none h = absurd is

-- ---- a text is understood under the schema, or as a query of the list of tables

listed : (r : Result Compiled CompileError) (c : Compiled) → if_select r ≡ Ok c → (r ≡ Ok c) × (is_select c.command ≡ true)
listed r c h = search rules

pub understood_so : (schema : Schema) (text : List ℕ) (c : Compiled) → understood schema text ≡ Ok c → (compiled schema text ≡ Ok c) ⊎ ((compiled listing_schema text ≡ Ok c) × (is_select c.command ≡ true))
unfolding understood
understood_so schema text c = search (rules, listed)

pub making_means : (schema : Schema) (text : List ℕ) (c : Compiled) → Reads Makes text (first text) → understood schema text ≡ Ok c → Means (λ k. k ≡ CreateTable) text c
making_means schema text c is h = elim (understood_so schema text c h) [
  | inl here ↦ compiled_making schema text c is here
  | inr (there, select) ↦ compiled_making listing_schema text c is there
]

pub indexing_means : (schema : Schema) (name text : List ℕ) (c : Compiled) → Reads (Indexes name) text (first text) → untimed (first text) ≡ [] → understood schema text ≡ Ok c → Means (IsIndexOf schema name) text c
indexing_means schema name text c is none h = elim (understood_so schema text c h) [
  | inl here ↦ compiled_indexing schema name text c is none here
  | inr (there, select) ↦ absurd (let it = compiled_indexing listing_schema name text c is none there in true≢false (sym select ∙ ap is_select it.command.4))
]

-- ---- INSERT

-- It puts down what is given here, in a table of this name, and nothing else. The parameters end at a place.
abbrev pub PutsDown : Table → Source → ℕ → Statement → Type 0
PutsDown table source base s =
    (columns : List Name) × (rows : Rows) × (s ≡ written.Insert conflict.Abort table.name columns rows [] [])
    × ((schema : Schema) (tree : ℕ) → new_rows schema (record table { tree = tree }) base columns rows ≡ Ok source)

abbrev pub IsPutting : Table → Source → Result Parsed CompileError → Type 0
IsPutting table source (Ok p) = PutsDown table source (small p.names + small []) p.statement × (p.formats ≡ [])
IsPutting table source (Err e) = ⊥

-- what such a text is understood as, where the table is at this place
abbrev pub IsInsert : ℕ → Source → Result Compiled CompileError → Type 0
IsInsert at source (Ok c) = (c.command ≡ Insert at source) × IsPlain (Ok c)
IsInsert at source (Err e) = ⊥

module _ (schema : Schema) (table : Table) (at tree : ℕ) (source : Source) (untimed_table : table.stamps.formats ≡ [])
    (named : table_named schema table.name ≡ Some at) (found : slice_get schema.tables at ≡ Some (record table { tree = tree })) where
  no_formats : formats_of schema table.name ≡ []
  no_formats = rw (named, found) untimed_table

  inserted_in : (base : ℕ) (columns : List Name) (rows : Rows) → new_rows schema (record table { tree = tree }) base columns rows ≡ Ok source → insert schema base table.name columns rows ≡ Ok (Insert at source)
  unfolding insert
  inserted_in base columns rows is = rw (named, found, is) refl

  of_putting : (p : Parsed) (s : Statement) → PutsDown table source (small p.names + small []) s → p.formats ≡ [] → IsInsert at source (compiled_of schema (record p { statement = s }))
  unfolding planned meaning returning command timed shows insert_or_abort
  of_putting p s (columns, rows, is, puts) none = rw (is, none, no_formats, inserted_in (small p.names + small []) columns rows (puts schema tree)) (refl, (refl, refl))

  compiled_putting : (text : List ℕ) → IsPutting table source (first text) → IsInsert at source (compiled schema text)
  unfolding compiled
  compiled_putting text = go (first text)
    where
      go : (r : Result Parsed CompileError) → IsPutting table source r → IsInsert at source (and_then r (compiled_of schema))
      go (Ok p) is = of_putting p p.statement is.0 is.1
      go (Err e) is = absurd is

  pub putting_means : (text : List ℕ) → IsPutting table source (first text) → IsInsert at source (understood schema text)
  unfolding understood
  putting_means text is = search (rules, compiled_putting)

-- ---- a text that is run

-- what a text is understood as that was run
understood_as : (P : Compiled → Type 0) (sql : List ℕ) (params : Row) (old new : State) (count : ℕ) → ((c : Compiled) → understood old.now.schema sql ≡ Ok c → P c)
    → Executes sql params old new (Ok count) → (c : Compiled) × (understood old.now.schema sql ≡ Ok c) × P c
unfolding ExecutesIn
understood_as P sql params old new count means h = (h.0, h.1.is, means h.0 h.1.is)

-- it runs as what its command does
pub runs_so : (Is : Command → Type 0) (text : List ℕ) (old new : State) (count : ℕ) → ((c : Compiled) → understood old.now.schema text ≡ Ok c → Means Is text c)
    → Executes text [] old new (Ok count) → (k : Command) × Is k × Runs old new None k text [] count
runs_so Is text old new count means h =
    let it = understood_as (Means Is text) text [] old new count means h in
    let ran = runs_as text [] old new old.now.schema refl it.0.command (ap command_of it.1) (subst IsPlain (sym it.1) it.2.plain) count h in
    (it.0.command, it.2.command, subst (λ t. Runs old new None it.0.command t [] count) (ap (statement_of text) it.1 ∙ it.2.whole) ran)

-- what was done at a place
pub placed : {X A : Type 0} (P : X → Part A) (o : Option X) (x : X) → o ≡ Some x → (a : A) → AtPlace P o (Ok a) → P x (Ok a)
placed P o x is a h = subst (λ p. AtPlace P p (Ok a)) is h
