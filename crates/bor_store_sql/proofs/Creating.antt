-- The effects of the texts that make the tables and their indexes and put down the register's row.
use Rattle.std.proofs.Common.{◌≡◌, ℕ, ℤ, pos, List, [], ◌∷◌, slice_get, true, false, None, Some, Ok, Result, refl, sym, ap, subst, ◌∙◌, ◌≤◌, ◌+◌, Bool, ◌&&◌, ◌||◌, IsTrue, ◌++◌, append-nil, length, zero, suc, MatchBool, inl, inr, arith, ◌≢◌, ◌<◌, rules}
use Rattle.std.specs.List.{AllByRecursion, list_any}
use Rattle.std.proofs.lemmas.List.Elements.{All-nil}
use Rattle.std.proofs.lemmas.List.Sorted.{IsPermutation-refl}
use Rattle.sqlite.specs.declared.types.Value.TheVariants.{Int, Text}
use Rattle.sqlite.specs.declared.error.Error.{Error}
use Rattle.sqlite.specs.Order.{Row}
use Rattle.sqlite.specs.Tree.{Trees}
use Rattle.sqlite.specs.Table.{Table}
use Rattle.sqlite.specs.Schema.{Schema}
use Rattle.sqlite.specs.Command.TheVariants.{CreateTable, Insert}
use Rattle.sqlite.specs.Change.{created, next_tree, KeepsRows, indexed, automatics, is_used}
use Rattle.sqlite.specs.Cast.{cast_all}
use Rattle.sqlite.specs.Does.{Tally, lacks_sequence, Defines, MakesIndex, MakesTable, sequence_text}
use Rattle.sqlite.specs.Effect.{Database, IsDatabase}
use Rattle.sqlite.specs.State.{State, Executes, mode_of, Runs}
use Rattle.sqlite_keyed.proofs.ListLemmas.{all-append, all_both}
use Rattle.sqlite_schema.specs.declared.schema.Index.{Index}
use Rattle.bor_terms.specs.Day.{IsDay}
use Rattle.bor_terms.specs.Texts.{is_token}
use Rattle.bor_register.proofs.Forms.{formed-empty_register}
use Rattle.bor_register.specs.Register.{Register, empty_register}
use Rattle.bor_store_sql.specs.Texts.Tables.{first_schema, register_at, register_table, period_table, agent_table, filing_table, identifier_index, identifier_table, interest_table, line_index, no_schema, record_index, statement_table, subject_index}
use Rattle.bor_store_sql.specs.Texts.Changes.{insert_register_terms}
use Rattle.bor_store_sql.specs.declared.texts.changes.TheConstants.{INSERT_REGISTER}
use Rattle.bor_store_sql.proofs.OnTexts.ChangeMeanings.{insert_register_is}
use Rattle.bor_store_sql.specs.Rows.Encoding.{contents, register_columns, tables_version, Contents}
use Rattle.bor_store_sql.specs.Rows.Stored.{IsStored}
use Rattle.bor_store_sql.specs.Blank.{IsBlank, LeadsBetween, no_contents}
use Rattle.bor_store_sql.specs.Kept.{Keeps}
use Rattle.bor_store_sql.specs.Moving.{MakesPeriod}
use Rattle.bor_store_sql.specs.Ran.{MovesTo}
use Rattle.bor_store_sql.specs.Shown.{Has, HasFirst}
use Rattle.bor_store_sql.proofs.Changes.{row_put}
use Rattle.bor_store_sql.proofs.Writes.{went, same_value, cast_int, Inserted, inserts}
use Rattle.bor_store_sql.proofs.Moves.{Making, both_move, in_other_words, MakingEach, and_then, at_last}
use Rattle.sqlite_schema.specs.Names.{table_named, same_name}
use Rattle.bor_store_sql.proofs.Plain.{IsIndexOf, indexing_means, making_means, placed, runs_so, IsInsert, putting_means}
use Rattle.bor_store_sql.proofs.OnTexts.TextsAlone.{IsIndexText, IsTableText, period_table_text, counted_in, sequence_uncounted, insert_register_reads, record_index_text, subject_index_text, identifier_index_text, line_index_text, register_table_text, agent_table_text, filing_table_text, statement_table_text, interest_table_text, identifier_table_text}
use Rattle.bor_store_sql.specs.declared.texts.tables.TheConstants.{PERIOD_TABLE, AGENT_TABLE, FILING_TABLE, IDENTIFIER_INDEX, IDENTIFIER_TABLE, INTEREST_TABLE, LINE_INDEX, RECORD_INDEX, REGISTER_TABLE, STATEMENT_TABLE, SUBJECT_INDEX}
use Rattle.std.proofs.iter.runs.Lists.{nth_seam}
use Rattle.sqlite.specs.Compile.{table_defined_by, index_defined_by}
use Rattle.sqlite.specs.Rows.{Gives}
use Rattle.sqlite_catalog.specs.Listing.{automatic}
use Rattle.sqlite_rules.specs.Lists.{Has as HasItem}
use Rattle.sqlite_rules.proofs.ListLemmas.{all_from, has_either, has_right, all_has, has_got, has_left}
use Rattle.sqlite_catalog.proofs.StepLemmas.{index_below, no_index, no_table, same_itself, table_below}
use Rattle.bor_store_sql.specs.Beside.{Adds, HasIndex, HasTable, IsIndexMade, IsTableMade, IsOfKey, MakesOnly, Spares, blank, counts_rows, HasIndexes, HasTables, PutsRegister, details, four_indexes, seven_tables, lists}
use Rattle.bor_store_sql.proofs.Standing.{unread, unread_all, found_last, only_all, spares_all, table_still, AddsIndexes, adds_all, indexes_all, with_indexes}
use Rattle.sqlite.proofs.Callers.{IsPlain, command_of}
use Rattle.sqlite.specs.Source.{Source}
use Rattle.sqlite.specs.Source.TheVariants.{Values}
use Rattle.sqlite_resolve.specs.declared.compiled.Compiled.{Compiled}
use Rattle.sqlite_resolve.specs.declared.error.CompileError.{CompileError}
use Rattle.sqlite_rules.proofs.ActionLemmas.{no_works}
use Rattle.sqlite_schema.specs.declared.schema.Keys.TheVariants.{Enforced}
use Rattle.bor_store_sql.proofs.Tables.{one_more}

-- ---- in a database without tables

-- tables without rows stay so where rows are kept
still_empty : (tables : List Table) (old new : Trees) → AllByRecursion (λ t. old t.tree ≡ []) tables → KeepsRows tables old new → AllByRecursion (λ t. new t.tree ≡ []) tables
still_empty tables old new empty kept = all_both (λ t. new t.tree ≡ old t.tree) (λ t. old t.tree ≡ []) (λ t. new t.tree ≡ []) (λ t same none. same ∙ none) tables kept empty

-- the table is made without rows, and those that were there keep theirs
pub record Added (schema : Schema) (table : Table) (old new : Database) : Type 0 where
  pub sound : IsDatabase new
  pub schema_is : new.schema ≡ created schema table
  pub empty : new.trees (next_tree schema) ≡ []
  pub kept : KeepsRows schema.tables old.trees new.trees

module _ (sql : List ℕ) (schema : Schema) (table : Table) (is : IsTableText sql table) (uncounted : lacks_sequence (created schema table) ≡ false) where
  pub table_added : (old new : State) (count : ℕ) → old.now.schema ≡ schema → Executes sql [] old new (Ok count) → Added schema table old.now new.now
  table_added old new count has h =
      let ran = runs_so (λ k. k ≡ CreateTable) sql old new count (λ c. making_means old.now.schema sql c is.reads) h in
      let w = subst (λ k. Runs old new None k sql [] count) ran.1 ran.2 in
      let all = went w.changed in
      let first = went all.1 in
      let made = first.1 in
      let both : Ok made.table ≡ Ok table = sym made.defined ∙ is.defined in
      let same : made.table ≡ table = cc in
      let schema_is : first.0.schema ≡ created schema table = made.is ∙ ap (λ s. created s made.table) has ∙ ap (created schema) same in
      let lacks : lacks_sequence first.0.schema ≡ false = ap lacks_sequence schema_is ∙ uncounted in
      let now : new.now ≡ first.0 = ap (λ (p : Tally × Database). p.1) (same_value all.2) ∙ same_value (rw lacks at first.2) in
      let none : first.0.trees (next_tree schema) ≡ [] = subst (λ s. first.0.trees (next_tree s) ≡ []) has made.empty in
      let kept : KeepsRows schema.tables old.now.trees first.0.trees = subst (λ (s : Schema). KeepsRows s.tables old.now.trees first.0.trees) has made.others in
      subst (Added schema table old.now) (sym now) (record { sound = subst IsDatabase now w.sound; schema_is = schema_is; empty = none; kept = kept })

  pub table_made : Making sql [] (λ was is. IsBlank schema was → IsBlank (created schema table) is)
  table_made old new count h blank = search (rules, table_added, all-append, still_empty)

module _ (sql : List ℕ) (schema : Schema) (at tree : ℕ) (table : Table) (index : Index) (is : IsIndexText sql table index) (named : table_named schema table.name ≡ Some at)
    (found : slice_get schema.tables at ≡ Some (record table { tree = tree })) where
  pub index_made : Making sql [] (λ was is. IsBlank schema was → IsBlank (indexed schema (record table { tree = tree }) index) is)
  index_made old new count h blank =
      let ran = runs_so (IsIndexOf old.now.schema table.name) sql old new count (λ c. indexing_means old.now.schema table.name sql c is.reads is.untimed) h in
      let place = ran.1.0 in
      let on = ran.1.1 in
      let here : table_named schema table.name ≡ Some place = subst (λ (s : Schema). table_named s table.name ≡ Some place) blank.is ran.1.2 in
      let place_is : place ≡ at = cc in
      let on_here : slice_get schema.tables place ≡ Some on = subst (λ (s : Schema). slice_get s.tables place ≡ Some on) blank.is ran.1.3 in
      let there : slice_get schema.tables place ≡ Some (record table { tree = tree }) = rw place_is found in
      let on_is : on ≡ record table { tree = tree } = cc in
      let w = subst (λ k. Runs old new None k sql [] count) ran.1.4 ran.2 in
      let all = went (placed (λ (t : Table). Defines (mode_of old) (MakesIndex sql old.now t)) (slice_get old.now.schema.tables place) on ran.1.3 (w.tally, new.now) w.changed) in
      let made = all.1 in
      let both : Ok made.index ≡ Ok (record index { tree = 0; table = tree }) = sym made.defined ∙ rw on_is (is.defined tree) in
      let same : made.index ≡ record index { tree = 0; table = tree } = cc in
      let schema_is : all.0.schema ≡ indexed schema (record table { tree = tree }) index =
      made.is ∙ ap (λ s. indexed s on made.index) blank.is ∙ ap (λ (t : Table). indexed schema t made.index) on_is ∙ ap (indexed schema (record table { tree = tree })) same in
      let now : new.now ≡ all.0 = ap (λ (p : Tally × Database). p.1) (same_value all.2) in
      subst (IsBlank (indexed schema (record table { tree = tree }) index)) (sym now) (record {
        is = schema_is;
        empty = still_empty schema.tables old.now.trees all.0.trees blank.empty (subst (λ (s : Schema). KeepsRows s.tables old.now.trees all.0.trees) blank.is made.rows);
      })

-- ---- the register's row

pub none_kept : (rows : List Row) → rows ≡ [] → Keeps [] rows
none_kept rows none = record { stored = []; under = none; same = IsPermutation-refl [] }

blank_has : (db : Database) → IsBlank first_schema db → HasFirst no_contents db
blank_has db blank = search rules

-- one after the other
pub both_lead : (first between last : Database → Type 0) (old mid new : State) (result : Result (Unit {0}) Error) → LeadsBetween first between old mid (Ok (tt {0})) → LeadsBetween between last mid new result → LeadsBetween first last old new result
both_lead first between last old mid new result one two = both_move _ _ _ old mid new result (λ to_between to_last is. to_last (to_between is)) one two

-- the table period, beside six without rows
pub period_leads : (old new : State) (result : Result (Unit {0}) Error) → MovesTo MakesPeriod old new result → LeadsBetween (IsBlank first_schema) (Has no_contents) old new result
period_leads old new result one = in_other_words MakesPeriod _ old new result (λ makes blank. makes no_contents (blank_has old.now blank)) one

-- what the INSERT of the register's row is given
abbrev pub given_register : ℤ → List ℕ → Row
given_register day registrar = Int tables_version ∷ Int day ∷ Text registrar ∷ []

module _ (registrar : List ℕ) (day : ℤ) where
  abbrev pub first_register : Register
  first_register = empty_register registrar day

  pub row_kept : cast_all register_table.columns (register_columns first_register) ≡ register_columns first_register
  row_kept = rw (cast_int (pos 1), cast_int tables_version, cast_int day) refl

  pub register_put : (old new : State) (count : ℕ) → Has no_contents old.now → Executes INSERT_REGISTER.now (given_register day registrar) old new (Ok count) → Has (contents first_register) new.now
  register_put old new count has h =
      row_put INSERT_REGISTER.now (given_register day registrar) 0 5 insert_register_terms register_at (register_columns first_register) (λ t. t.register) insert_register_is refl refl refl refl row_kept (λ new. refl) (λ t db has. has.register)
      old new count h no_contents has tt

  pub empty_is_stored : is_token registrar ≡ true → IsDay day → IsStored first_register
  empty_is_stored token is = record { ordered = tt; numbered = tt; formed = formed-empty_register registrar day token is; counted = All-nil _ }

-- ---- the table `period` beside the six

still : (xs old new : List Row) → new ≡ old → Keeps xs old → Keeps xs new
still xs old new same keeps = subst (Keeps xs) (sym same) keeps

pub period_made : (old new : State) (count : ℕ) (t : Contents) → HasFirst t old.now → Executes PERIOD_TABLE.now [] old new (Ok count) → Has (record t { periods = [] }) new.now
period_made old new count t has h =
    let it = table_added PERIOD_TABLE.now first_schema period_table period_table_text refl old new count has.schema h in
    record {
      sound = it.sound;
      schema = it.schema_is;
      register = still _ _ _ it.kept.0 has.register;
      agents = still _ _ _ it.kept.1.0 has.agents;
      filings = still _ _ _ it.kept.1.1.0 has.filings;
      statements = still _ _ _ it.kept.1.1.1.0 has.statements;
      interests = still _ _ _ it.kept.1.1.1.1.0 has.interests;
      identifiers = still _ _ _ it.kept.1.1.1.1.1.0 has.identifiers;
      periods = none_kept _ it.empty;
    }

-- ---- whatever stands in the database: a table

-- all that stood there stands there still
all_kept : (db : Database) → Spares db db
all_kept db = search (rules, append-nil, all_from)

automatics_past : (table : Table) (at low tree : ℕ) (keys : List (List ℕ)) → low ≤ tree → AllByRecursion (λ (i : Index). low ≤ i.tree) (automatics table at tree keys)
automatics_past table at low tree [] h = tt
automatics_past table at low tree (key ∷ keys) h = (h, automatics_past table (at + 1) low (tree + 1) keys (omega (arith, h)))

table_spares : (text : List ℕ) (old after : Database) → MakesTable text old (Ok after) → Spares old after
table_spares text old after made = search (rules, automatics_past)

table_adds : (text : List ℕ) (table : Table) (old after : Database) → table_defined_by text ≡ Ok table → MakesTable text old (Ok after) → HasTable after table (next_tree old.schema) []
table_adds text table old after defined made =
    let both : Ok made.table ≡ Ok table = sym made.defined ∙ defined in
    let same : made.table ≡ table = cc in
    let tables = ap (λ (s : Schema). s.tables) made.is ∙ ap (λ (t : Table). (created old.schema t).tables) same in
    let last : 0 + length old.schema.tables ≡ length old.schema.tables = omega arith in
    record {
      place = length old.schema.tables;
      named = rw tables (found_last (λ (t : Table). same_name t.name table.name) 0 old.schema.tables (record table { tree = next_tree old.schema })
          (no_table old.schema table.name (subst (λ (t : Table). is_used old.schema t.name ≡ false) same made.free)) (same_itself table.name) ∙ ap Some last);
      found = rw tables (nth_seam old.schema.tables (record table { tree = next_tree old.schema }));
      keeps = none_kept _ made.empty;
    }

-- where a table counts its rows, the table of the counts is made too
then_counts : (b : Bool) (mid after : Database) → MatchBool b (MakesTable sequence_text mid (Ok after)) (Gives mid (Ok after)) → Spares mid after
then_counts true mid after made = table_spares sequence_text mid after made
then_counts false mid after same = subst (Spares mid) (sym (same_value same)) (all_kept mid)

-- ---- nothing else

-- no table and no index is past the trees that are used
no_table_past : (P : Table → Type 0) (schema : Schema) (t : Table) → HasItem schema.tables t → next_tree schema ≤ t.tree → P t
no_table_past P schema t has low = absurd (omega (arith, low, table_below schema t has))

no_index_past : (P : Index → Type 0) (schema : Schema) (i : Index) → HasItem schema.indexes i → next_tree schema ≤ i.tree → P i
no_index_past P schema i has low = absurd (omega (arith, low, index_below schema i has))

none_made : (tables : List Table) (indexes : List (Table × Index)) (schema : Schema) → MakesOnly tables indexes schema schema
none_made tables indexes schema = search (rules, all_from, no_table_past, no_index_past)

counts_still : (tables : List Table) (table : Table) → table.is_counted ≡ false → list_any (λ (t : Table). t.is_counted) (tables ++ table ∷ []) ≡ list_any (λ (t : Table). t.is_counted) tables
counts_still [] table none = rw none
counts_still (t ∷ tables) table none = ap (λ b. t.is_counted || b) (counts_still tables table none)

key_of : (table : Table) (keys : List (List ℕ)) (at tree : ℕ) (i : Index) → HasItem (automatics table at tree keys) i → (k : ℕ) × (key : List ℕ) × (slice_get keys k ≡ Some key) × (i ≡ automatic table (at + k) key i.tree)
key_of table [] at tree i h = absurd h
key_of table (key ∷ keys) at tree i (inl e) =
    let same : at + 0 ≡ at = omega arith in (zero, key, refl, rw same (e ∙ ap (automatic table at key) (sym (ap (λ (i : Index). i.tree) e))))
key_of table (key ∷ keys) at tree i (inr h) =
    let r = key_of table keys (at + 1) (tree + 1) i h in
    let same : at + suc r.0 ≡ at + 1 + r.0 = omega arith in
    (suc r.0, r.1, r.2, rw same r.3)

of_key : (table : Table) (tree : ℕ) (i : Index) → HasItem (automatics table 0 tree table.uniques) i → IsOfKey table i
of_key table tree i h = search (rules, key_of)

-- a table that is made is the only one, and its indexes are those of its keys
module _ (tables : List Table) (old : Schema) (table : Table) (uncounted : table.is_counted ≡ false) (are : (t : Table) → t ≡ record table { tree = t.tree } → IsTableMade tables old t) where
  abbrev it : Table
  it = record table { tree = next_tree old }

  table_only : (t : Table) → HasItem (old.tables ++ it ∷ []) t → next_tree old ≤ t.tree → IsTableMade tables old t
  table_only t has low = elim (has_either old.tables (it ∷ []) t has) [
    | inl h ↦ no_table_past (IsTableMade tables old) old t h low
    | inr (inl e) ↦ are t (e ∙ ap (λ n. record table { tree = n }) (sym (ap (λ (t : Table). t.tree) e)))
    | inr (inr h) ↦ absurd h
  ]

  keys_only : (i : Index) → HasItem (created old table).indexes i → next_tree old ≤ i.tree → IsIndexMade [] old (created old table) i
  keys_only i has low = elim (has_either old.indexes (automatics it 0 (next_tree old + 1) table.uniques) i has) [
    | inl h ↦ no_index_past (IsIndexMade [] old (created old table)) old i h low
    | inr h ↦ inr (it, has_right old.tables (it ∷ []) it (inl refl), omega arith, of_key it (next_tree old + 1) i h)
  ]

  created_only : MakesOnly tables [] old (created old table)
  created_only = search (rules, all_from, table_only, keys_only, counts_still)

made_only : (text : List ℕ) (table : Table) (old after : Database) → table.is_counted ≡ false → table_defined_by text ≡ Ok table → MakesTable text old (Ok after) → MakesOnly (table ∷ []) [] old.schema after.schema
made_only text table old after uncounted defined made =
    let both : Ok made.table ≡ Ok table = sym made.defined ∙ defined in
    let same : made.table ≡ table = cc in
    subst (MakesOnly (table ∷ []) [] old.schema) (sym (made.is ∙ ap (created old.schema) same)) (created_only (table ∷ []) old.schema table uncounted (λ t is. inl (table, inl refl, is)))

sequence_only : (old after : Database) → IsTrue (counts_rows old.schema) → MakesTable sequence_text old (Ok after) → MakesOnly [] [] old.schema after.schema
sequence_only old after counts made =
    let uncounted = subst (λ r. counted_in r ≡ false) made.defined sequence_uncounted in
    subst (MakesOnly [] [] old.schema) (sym made.is) (created_only [] old.schema made.table uncounted (λ t is. inr (counts, (made.table, made.defined, is))))

then_only : (b : Bool) (mid after : Database) → (b ≡ true → IsTrue (counts_rows mid.schema)) → MatchBool b (MakesTable sequence_text mid (Ok after)) (Gives mid (Ok after)) → MakesOnly [] [] mid.schema after.schema
then_only true mid after counts made = sequence_only mid after (counts refl) made
then_only false mid after counts same = subst (λ (db : Database). MakesOnly [] [] mid.schema db.schema) (sym (same_value same)) (none_made [] [] mid.schema)

first_true : (a b : Bool) → (a && b) ≡ true → IsTrue a
first_true a b h = search rules

-- ---- a text that is run

module _ (text : List ℕ) (table : Table) (is : IsTableText text table) (uncounted : table.is_counted ≡ false) where
  pub table_beside : (old new : State) (count : ℕ) → Executes text [] old new (Ok count) → Adds (blank table ∷ []) [] old.now new.now
  table_beside old new count h =
      let ran = runs_so (λ k. k ≡ CreateTable) text old new count (λ c. making_means old.now.schema text c is.reads) h in
      let w = subst (λ k. Runs old new None k text [] count) ran.1 ran.2 in
      let all = went w.changed in
      let mid = went all.1 in
      let now : new.now ≡ all.0 = ap (λ (p : Tally × Database). p.1) (same_value all.2) in
      let counts = then_counts (lacks_sequence mid.0.schema) mid.0 all.0 mid.2 in
      let there = table_still mid.0 all.0 table (next_tree old.now.schema) [] counts (table_adds text table old.now mid.0 is.defined mid.1) in
      let spares = table_spares text old.now mid.0 mid.1 in
      let only = only_all old.now mid.0 all.0 spares counts (table ∷ []) [] [] [] (made_only text table old.now mid.0 uncounted is.defined mid.1) (then_only (lacks_sequence mid.0.schema) mid.0 all.0 (first_true _ _) mid.2) in
      record {
        sound = w.sound;
        spares = subst (Spares old.now) (sym now) (spares_all old.now mid.0 all.0 spares counts);
        unread = unread old.now new.now w.frozen;
        tables = (next_tree old.now.schema, omega arith, subst (λ (db : Database). HasTable db table (next_tree old.now.schema) []) (sym now) there, tt);
        indexes = tt;
        only = subst (λ (db : Database). MakesOnly (table ∷ []) [] old.now.schema db.schema) (sym now) only;
      }

-- ---- an index

index_spares : (text : List ℕ) (old after : Database) (table : Table) → MakesIndex text old table (Ok after) → Spares old after
index_spares text old after table made = search rules

-- the index alone is made
module _ (old : Schema) (table on : Table) (at : ℕ) (named : table_named old table.name ≡ Some at) (got : slice_get old.tables at ≡ Some on) (made index : Index) (tree : ℕ) (same : made ≡ record index { tree = 0; table = tree }) where
  index_only : (i : Index) → HasItem (indexed old on made).indexes i → next_tree old ≤ i.tree → IsIndexMade ((table, index) ∷ []) old (indexed old on made) i
  index_only i has low = elim (has_either old.indexes (record made { tree = next_tree old; table = on.tree } ∷ []) i has) [
    | inl h ↦ no_index_past (IsIndexMade ((table, index) ∷ []) old (indexed old on made)) old i h low
    | inr (inl e) ↦
        let as_made : i ≡ record made { tree = i.tree; table = on.tree } = e ∙ ap (λ n. record made { tree = n; table = on.tree }) (sym (ap (λ (i : Index). i.tree) e)) in
        inl ((table, index), inl refl, (at, on, named, got, as_made ∙ ap (λ (m : Index). record m { tree = i.tree; table = on.tree }) same))
    | inr (inr h) ↦ absurd h
  ]

  indexed_only : MakesOnly [] ((table, index) ∷ []) old (indexed old on made)
  indexed_only = search (rules, all_from, no_table_past, index_only)

index_there : (text : List ℕ) (table : Table) (index : Index) (old after : Database) (at tree : ℕ) (on : Table) → index_defined_by (record table { tree = tree }) text ≡ Ok (record index { tree = 0; table = tree })
    → MakesIndex text old on (Ok after) → table_named old.schema table.name ≡ Some at → slice_get old.schema.tables at ≡ Some on → (rows : List Row) → HasTable old table tree rows
    → HasIndex after.schema table index × MakesOnly [] ((table, index) ∷ []) old.schema after.schema
index_there text table index old after at tree on defined made named got rows is =
    let place : is.place ≡ at = cc in
    let found : slice_get old.schema.tables at ≡ Some (record table { tree = tree }) = rw (← place) is.found in
    let on_is : on ≡ record table { tree = tree } = cc in
    let both : Ok made.index ≡ Ok (record index { tree = 0; table = tree }) = sym made.defined ∙ rw on_is defined in
    let same : made.index ≡ record index { tree = 0; table = tree } = cc in
    let indexes = ap (λ (s : Schema). s.indexes) made.is ∙ ap (λ (i : Index). (indexed old.schema on i).indexes) same in
    let tables = ap (λ (s : Schema). s.tables) made.is in
    let last : 0 + length old.schema.indexes ≡ length old.schema.indexes = omega arith in
    let there : HasIndex after.schema table index = record {
      place = length old.schema.indexes;
      tree = next_tree old.schema;
      named = rw indexes (found_last (λ (i : Index). same_name i.name index.name) 0 old.schema.indexes (record index { tree = next_tree old.schema; table = on.tree })
          (no_index old.schema index.name (subst (λ (i : Index). is_used old.schema i.name ≡ false) same made.free)) (same_itself index.name) ∙ ap Some last);
      at = at;
      on = on;
      table_is = rw tables named;
      on_is = rw tables got;
      found = rw indexes (nth_seam old.schema.indexes (record index { tree = next_tree old.schema; table = on.tree }));
    } in
    (there, subst (MakesOnly [] ((table, index) ∷ []) old.schema) (sym made.is) (indexed_only old.schema table on at named got made.index index tree same))

module _ (text : List ℕ) (table : Table) (index : Index) (is : IsIndexText text table index) where
  pub index_beside : (old new : State) (count : ℕ) → Executes text [] old new (Ok count) → AddsIndexes ((table, index) ∷ []) old.now new.now
  index_beside old new count h =
      let ran = runs_so (IsIndexOf old.now.schema table.name) text old new count (λ c. indexing_means old.now.schema table.name text c is.reads is.untimed) h in
      let at = ran.1.0 in
      let on = ran.1.1 in
      let w = subst (λ k. Runs old new None k text [] count) ran.1.4 ran.2 in
      let all = went (placed (λ (t : Table). Defines (mode_of old) (MakesIndex text old.now t)) (slice_get old.now.schema.tables at) on ran.1.3 (w.tally, new.now) w.changed) in
      let now : new.now ≡ all.0 = ap (λ (p : Tally × Database). p.1) (same_value all.2) in
      let made = λ (tree : ℕ). index_there text table index old.now all.0 at tree on (is.defined tree) all.1 ran.1.2 ran.1.3 in
      record {
        sound = w.sound;
        spares = subst (Spares old.now) (sym now) (index_spares text old.now all.0 on all.1);
        unread = unread old.now new.now w.frozen;
        indexes = λ theirs.
            (subst (λ (db : Database). HasIndex db.schema table index) (sym now) (made theirs.0.0 theirs.0.1 theirs.0.2).0, tt);
        only = λ theirs. subst (λ (db : Database). MakesOnly [] ((table, index) ∷ []) old.now.schema db.schema) (sym now)
            (made theirs.0.0 theirs.0.1 theirs.0.2).1;
      }

-- ---- the register's row, whatever stands in the database: what stands beside the row

understood_insert : (at : ℕ) (source : Source) (r : Result Compiled CompileError) → IsInsert at source r → (command_of r ≡ Insert at source) × IsPlain r
understood_insert at source r is = search rules

module _ (old new : Database) (tree : ℕ) (schema_is : new.schema ≡ old.schema) (kept : AllByRecursion (λ t. t.tree ≢ tree → new.trees t.tree ≡ old.trees t.tree) old.schema.tables) where
  kept_at : (t : Table) → HasItem old.schema.tables t → t.tree ≢ tree → new.trees t.tree ≡ old.trees t.tree
  kept_at t = λ has. all_has (λ t. t.tree ≢ tree → new.trees t.tree ≡ old.trees t.tree) old.schema.tables t kept has

  tables_beside : (low : ℕ) (tables : List (Table × List Row)) → tree < low → HasTables low tables old → HasTables low tables new
  tables_beside low [] h has = tt
  tables_beside low (t ∷ tables) h has =
      let same = kept_at (record t.0 { tree = has.0 }) (has_got old.schema.tables has.2.place _ has.2.found) (λ same. omega (arith, has.1, same)) in (
        has.0,
        has.1,
        record { place = has.2.place; named = rw schema_is has.2.named; found = rw schema_is has.2.found; keeps = subst (Keeps t.1) (sym same) has.2.keeps },
        tables_beside (has.0 + 1) tables (omega (arith, has.1)) has.3,
      )

module _ (registrar : List ℕ) (day : ℤ) where
  -- the register's table is found without rows, and the row is put into it
  pub register_put_beside : (old new : State) (count : ℕ) → Executes INSERT_REGISTER.now (given_register day registrar) old new (Ok count) → PutsRegister (first_register registrar day) old.now new.now
  register_put_beside old new count h before adds sound =
      let x = register_columns (first_register registrar day) in
      let tree = adds.tables.0 in
      let own = adds.tables.2 in
      let schema = old.now.schema in
      let table : Table = record register_table { tree = tree } in
      let means = understood_insert own.place (Values insert_register_terms 5) _ (putting_means schema register_table own.place tree (Values insert_register_terms 5) refl own.named own.found INSERT_REGISTER.now insert_register_reads) in
      let made : Inserted schema table x old.now new.now = inserts INSERT_REGISTER.now (given_register day registrar) schema own.place insert_register_terms 5 table x means.0 means.1 own.found refl refl refl (row_kept registrar day) (λ row. no_works schema Enforced 0 tree (row ∷ [])) old new count refl h in
      let others = blank agent_table ∷ blank filing_table ∷ details ++ blank period_table ∷ [] in
      record {
        sound = made.sound;
        spares = record {
          tables = (adds.spares.tables.0, ap (λ (s : Schema). s.tables) made.schema_is ∙ adds.spares.tables.1, adds.spares.tables.2);
          indexes = (adds.spares.indexes.0, ap (λ (s : Schema). s.indexes) made.schema_is ∙ adds.spares.indexes.1, adds.spares.indexes.2);
          views = ap (λ (s : Schema). s.views) made.schema_is ∙ adds.spares.views;
          rows = all_from (λ t. new.now.trees t.tree ≡ before.trees t.tree) before.schema.tables (λ t has.
              let later : HasItem schema.tables t = subst (λ xs. HasItem xs t) (sym adds.spares.tables.1) (has_left before.schema.tables adds.spares.tables.0 t has) in
              kept_at old.now new.now tree made.schema_is made.tables t later (λ same. omega (arith, same, table_below before.schema t has, adds.tables.1))
              ∙ all_has (λ t. old.now.trees t.tree ≡ before.trees t.tree) before.schema.tables t adds.spares.rows has);
        };
        unread = unread_all before old.now new.now adds.sound adds.spares adds.unread (unread old.now new.now made.frozen) sound;
        tables = (
          tree,
          adds.tables.1,
          record { place = own.place; named = rw made.schema_is own.named; found = rw made.schema_is own.found; keeps = rw made.rows (one_more [] (old.now.trees tree) x own.keeps) },
          tables_beside old.now new.now tree made.schema_is made.tables (tree + 1) others (omega arith) adds.tables.3,
        );
        indexes = subst (HasIndexes four_indexes) (sym made.schema_is) adds.indexes;
        only = subst (MakesOnly seven_tables four_indexes before.schema) (sym made.schema_is) adds.only;
      }

-- ---- the texts, one after the other

abbrev pub texts : List (List ℕ)
texts =
    REGISTER_TABLE.now ∷ AGENT_TABLE.now ∷ FILING_TABLE.now ∷ STATEMENT_TABLE.now ∷ INTEREST_TABLE.now ∷ IDENTIFIER_TABLE.now
    ∷ RECORD_INDEX.now ∷ SUBJECT_INDEX.now ∷ IDENTIFIER_INDEX.now ∷ LINE_INDEX.now ∷ []

-- ---- in a database without tables

abbrev pub Leading : Schema → Schema → Database → Database → Type 0
Leading first last was is = IsBlank first was → IsBlank last is

then_leads : {text : List ℕ} {texts : List (List ℕ)} {first between last : Schema} → Making text [] (Leading first between) → MakingEach texts [] (Leading between last) → MakingEach (text ∷ texts) [] (Leading first last)
then_leads making rest = and_then (λ old mid new to_between to_last is. to_last (to_between is)) making rest

pub all_lead : MakingEach texts [] (Leading no_schema first_schema)
unfolding same_name
all_lead =
    then_leads (table_made REGISTER_TABLE.now _ register_table register_table_text refl)
    (then_leads (table_made AGENT_TABLE.now _ agent_table agent_table_text refl)
    (then_leads (table_made FILING_TABLE.now _ filing_table filing_table_text refl)
    (then_leads (table_made STATEMENT_TABLE.now _ statement_table statement_table_text refl)
    (then_leads (table_made INTEREST_TABLE.now _ interest_table interest_table_text refl)
    (then_leads (table_made IDENTIFIER_TABLE.now _ identifier_table identifier_table_text refl)
    (then_leads (index_made RECORD_INDEX.now _ 3 8 statement_table record_index record_index_text refl refl)
    (then_leads (index_made SUBJECT_INDEX.now _ 3 8 statement_table subject_index subject_index_text refl refl)
    (then_leads (index_made IDENTIFIER_INDEX.now _ 5 13 identifier_table identifier_index identifier_index_text refl refl)
    (at_last (index_made LINE_INDEX.now _ 2 5 filing_table line_index line_index_text refl refl))))))))))

-- ---- in any database

-- where these tables were added, all are added
abbrev pub AddsOn : List (Table × List Row) → Database → Database → Type 0
AddsOn tables was is = (before : Database) → Adds tables [] before was → Adds (lists ++ details) four_indexes before is

then_adds : {text : List ℕ} {texts : List (List ℕ)} (tables : List (Table × List Row)) (table : Table) → Making text [] (Adds (blank table ∷ []) []) → MakingEach texts [] (AddsOn (tables ++ blank table ∷ [])) → MakingEach (text ∷ texts) [] (AddsOn tables)
then_adds tables table making rest = and_then (λ old mid new adds to_all before added. to_all before (adds_all tables (blank table ∷ []) [] [] before old mid added adds)) making rest

then_indexes : {text : List ℕ} {texts : List (List ℕ)} (over : Table × Index) (more : List (Table × Index)) → Making text [] (AddsIndexes (over ∷ [])) → MakingEach texts [] (AddsIndexes more) → MakingEach (text ∷ texts) [] (AddsIndexes (over ∷ more))
then_indexes over more making rest = and_then (indexes_all (over ∷ []) more) making rest

pub all_add : MakingEach texts [] (Adds (lists ++ details) four_indexes)
all_add =
    let registers = blank register_table ∷ [] in
    let agents = blank register_table ∷ blank agent_table ∷ [] in
    and_then (λ old mid new adds to_all. to_all old adds) (table_beside REGISTER_TABLE.now register_table register_table_text refl)
    (then_adds registers agent_table (table_beside AGENT_TABLE.now agent_table agent_table_text refl)
    (then_adds agents filing_table (table_beside FILING_TABLE.now filing_table filing_table_text refl)
    (then_adds lists statement_table (table_beside STATEMENT_TABLE.now statement_table statement_table_text refl)
    (then_adds (lists ++ blank statement_table ∷ []) interest_table (table_beside INTEREST_TABLE.now interest_table interest_table_text refl)
    (then_adds (lists ++ blank statement_table ∷ blank interest_table ∷ []) identifier_table (table_beside IDENTIFIER_TABLE.now identifier_table identifier_table_text refl)
    (and_then (λ old mid new one more before added. with_indexes before old new added (indexes_all ((statement_table, record_index) ∷ []) ((statement_table, subject_index) ∷ (identifier_table, identifier_index) ∷ (filing_table, line_index) ∷ []) old mid new one more)) (index_beside RECORD_INDEX.now statement_table record_index record_index_text)
    (then_indexes (statement_table, subject_index) ((identifier_table, identifier_index) ∷ (filing_table, line_index) ∷ []) (index_beside SUBJECT_INDEX.now statement_table subject_index subject_index_text)
    (then_indexes (identifier_table, identifier_index) ((filing_table, line_index) ∷ []) (index_beside IDENTIFIER_INDEX.now identifier_table identifier_index identifier_index_text)
    (at_last (index_beside LINE_INDEX.now filing_table line_index line_index_text))))))))))
