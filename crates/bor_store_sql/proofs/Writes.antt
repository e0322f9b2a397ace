-- The effects of an INSERT of one row, a DELETE and an UPDATE, in one of the seven tables.
use Rattle.std.proofs.Common.{◌≡◌, ◌≢◌, ◌⊎◌, inl, inr, ℕ, ℤ, Option, ◌/◌, List, [], ◌∷◌, append-nil, length, slice_get, Bool, true, false, cond, None, Some, Ok, Err, Result, refl, sym, ap, ap₂, subst, ◌∙◌, ◌==◌, map, drop, not, rules}
use Rattle.std.specs.List.{AllByRecursion, flat_map, filter_map, list_all}
use Rattle.sqlite.specs.declared.types.Value.TheVariants.{Null, Int}
use Rattle.sqlite.specs.Order.{Row}
use Rattle.sqlite.specs.Term.{Term}
use Rattle.sqlite.specs.Table.{Table}
use Rattle.sqlite.specs.Schema.{Schema}
use Rattle.sqlite.specs.Source.TheVariants.{Values}
use Rattle.sqlite.specs.Command.TheVariants.{Insert, Delete, Update}
use Rattle.sqlite.specs.Edit.{Edit, Applies, edit_of, edited, next_rowid, with_rowid, IsNoIndex, taken_by, without_all, put_all}
use Rattle.sqlite.specs.Cast.{cast, cast_all, cast_row}
use Rattle.sqlite.specs.Kind.TheVariants.{Integer}
use Rattle.sqlite.specs.Ops.{unary}
use Rattle.sqlite.specs.declared.types.Value.{Value}
use Rattle.sqlite.specs.Rowids.TheVariants.{Chosen, Given}
use Rattle.sqlite.specs.Tree.{Trees, put_row}
use Rattle.sqlite.specs.Does.{Tally, Does, AtPlace, OnRows}
use Rattle.sqlite.specs.Rows.{Written, Task, Counts, Inserts, rowids_for, count_of, stamped, Deletes, Updates}
use Rattle.sqlite.specs.Effect.{Database, IsDatabase, SparesFrozen, value_rows, Answers}
use Rattle.sqlite.specs.Listing.{understood}
use Rattle.sqlite.specs.State.{State, mode_of, Executes}
use Rattle.sqlite_rules.specs.Action.{works, Writes, Work, work_by, pairs, deed_for}
use Rattle.sqlite_schema.specs.declared.schema.Keys.TheVariants.{Enforced}
use Rattle.sqlite.proofs.Callers.{IsPlain, command_of, statement_of, runs_as, one_step}
use Rattle.sqlite_rules.proofs.PlaceLemmas.{given}
use Rattle.sqlite_rules.specs.Calls.{ids_of}
use Rattle.sqlite_schema.specs.declared.program.Program.{Program}
use Rattle.sqlite_schema.specs.Rules.{parent_key}
use Rattle.bor_store_sql.specs.Texts.Tables.{keep_schema}
use Rattle.sqlite_schema.specs.declared.schema.Index.{Index}
use Rattle.bor_store_sql.specs.Rows.Encoding.{Contents}
use Rattle.bor_store_sql.specs.Kept.{Keeps}
use Rattle.bor_store_sql.specs.Shown.{Has}

-- ---- an INSERT of one row

-- a part that gave a value did not stop on the way
pub went : {B E R : Type 0} {b : B} {Stops : E → Type 0} → ((stop : E) × Stops stop × (Ok b ≡ Err stop)) ⊎ R → R
went (inl stopped) = absurd (let e = stopped.2 in cc)
went (inr on) = on

pub same_value : {B E : Type 0} {a b : B} → ◌≡◌ {A = Result B E} (Ok a) (Ok b) → a ≡ b
same_value e = cc

either : (b : Bool) (x : Value) → cond b x x ≡ x
either b x = search rules

pub cast_null : cast Integer Null ≡ Null
unfolding unary
cast_null = either _ Null

pub cast_int : (n : ℤ) → cast Integer (Int n) ≡ Int n
unfolding unary
cast_int n = either _ (Int n)

module _ (task : Task) (uncounted : task.table.is_counted ≡ false) where
  chooses : (top : ℤ) → rowids_for task.table top ≡ Chosen
  chooses top = rw uncounted refl

  counts_nothing : (mid next : Trees) (counter : Option Row) (top : ℤ) → Counts task mid counter top (Ok next) → next ≡ mid
  counts_nothing mid next counter top h = same_value (rw uncounted at h)

unstamped_rows : (table : Table) (params : Row) (width : ℕ) (terms : List Term) → table.stamps.terms ≡ []
    → value_rows (stamped table params) width (length terms / width) terms ≡ value_rows params width (length terms / width) terms
unstamped_rows table params width terms e = ap (λ p. value_rows p width (length terms / width) terms) (rw e (append-nil params))

module _ (task : Task) (uncounted : task.table.is_counted ≡ false) (unstamped : task.table.stamps.terms ≡ []) (x : Row) (terms : List Term) (width : ℕ)
    (given : value_rows task.params width (length terms / width) terms ≡ (Null ∷ x) ∷ [])
    (alone : (new : Row) → works task.schema task.keys 0 task.table.tree [] (new ∷ []) ≡ []) where
  applies : (db : Trees) (w : Written) → Inserts task (Values terms width) db (Ok w) → Applies task.schema task.keys db (edit_of db task.table [] Chosen 0 ((Null ∷ x) ∷ [])) w.trees
  applies db w h =
      let source = went h in
      let counted = went source.2 in
      let written = went counted.2 in
      let last = went written.2 in
      let rows : source.0 ≡ (Null ∷ x) ∷ [] = source.1.1 ∙ unstamped_rows task.table task.params width terms unstamped ∙ given in
      let edit : Edit = edit_of db task.table [] (rowids_for task.table (count_of counted.0)) 0 source.0 in
      let edit_is : edit ≡ edit_of db task.table [] Chosen 0 ((Null ∷ x) ∷ []) = ap₂ (λ how all. edit_of db task.table [] how 0 all) (chooses task uncounted (count_of counted.0)) rows in
      let one : Edit = edit_of db task.table [] Chosen 0 ((Null ∷ x) ∷ []) in
      let step = one_step task.schema task.keys db written.0 one (alone (with_rowid Chosen (db task.table.tree) (cast_row task.table (Null ∷ x)))) (subst (λ e. Writes task.schema task.keys db e (Ok written.0)) edit_is written.1) in
      let same : w.trees ≡ written.0 = ap (λ (it : Written). it.trees) (same_value last.2) ∙ counts_nothing task uncounted written.0 last.0 counted.0 _ last.1 in
      subst (λ t. Applies task.schema task.keys db one t) (sym same) step

pub record Inserted (schema : Schema) (table : Table) (x : Row) (old new : Database) : Type 0 where
  pub sound : IsDatabase new
  pub frozen : SparesFrozen old new
  pub schema_is : new.schema ≡ schema
  pub rows : new.trees table.tree ≡ put_row (Int (next_rowid (old.trees table.tree)) ∷ x) (old.trees table.tree)
  pub others : (t : ℕ) → t ≢ table.tree → IsNoIndex schema t → new.trees t ≡ old.trees t
  pub tables : AllByRecursion (λ t. t.tree ≢ table.tree → new.trees t.tree ≡ old.trees t.tree) schema.tables

module _ (sql : List ℕ) (params : Row) (schema : Schema) (at : ℕ) (terms : List Term) (width : ℕ) (table : Table) (x : Row)
    (is : command_of (understood schema sql) ≡ Insert at (Values terms width)) (plain : IsPlain (understood schema sql))
    (found : slice_get schema.tables at ≡ Some table) (uncounted : table.is_counted ≡ false) (unstamped : table.stamps.terms ≡ [])
    (given : value_rows params width (length terms / width) terms ≡ (Null ∷ x) ∷ []) (kept : cast_all table.columns x ≡ x)
    (alone : (new : Row) → works schema Enforced 0 table.tree [] (new ∷ []) ≡ []) where
  abbrev insert_task : State → Task
  insert_task old = record { limit = old.step_limit; keys = Enforced; schema = schema; table = table; params = params }

  edited_is : (db : Trees) → edited db (edit_of db table [] Chosen 0 ((Null ∷ x) ∷ [])) ≡ put_row (Int (next_rowid (db table.tree)) ∷ x) (db table.tree)
  edited_is db = rw (cast_null, kept) refl

  pub inserts : (old new : State) (count : ℕ) → old.now.schema ≡ schema → Executes sql params old new (Ok count) → Inserted schema table x old.now new.now
  inserts old new count has h =
      let command = Insert at (Values terms width) in
      let db = old.now.trees in
      let w = runs_as sql params old new schema has command is plain count h in
      let text = statement_of sql (understood schema sql) in
      let at_table = subst (λ s. Does old.step_limit (mode_of old) params (record old.now { schema = s }) text None command (Ok (w.tally, new.now))) has w.changed in
      let done = went (subst (λ o. AtPlace (λ t. OnRows (record (insert_task old) { table = t }) (mode_of old) None command db) o (Ok (w.tally, new.now))) found at_table) in
      let now = ap (λ (p : Tally × Database). p.1) (same_value (went (went done.2).2).2) in
      let step = applies (insert_task old) uncounted unstamped x terms width given alone db done.0 done.1 in
      let trees : new.now.trees ≡ done.0.trees = ap (λ (d : Database). d.trees) now in
      record {
        sound = w.sound;
        frozen = w.frozen;
        schema_is = ap (λ (d : Database). d.schema) now;
        rows = ap (λ (t : Trees). t table.tree) trees ∙ step.rows ∙ edited_is db;
        others = λ t other free. ap (λ (all : Trees). all t) trees ∙ step.others t other free;
        tables = subst (λ (all : Trees). AllByRecursion (λ (t : Table). t.tree ≢ table.tree → all t.tree ≡ db t.tree) schema.tables) (sym trees) step.tables;
      }

-- ---- a DELETE

pub record Removed (schema : Schema) (table : Table) (ids : List ℤ) (old new : Database) : Type 0 where
  pub sound : IsDatabase new
  pub schema_is : new.schema ≡ schema
  pub rows : new.trees table.tree ≡ without_all (old.trees table.tree) ids
  pub others : (t : ℕ) → t ≢ table.tree → IsNoIndex schema t → new.trees t ≡ old.trees t

module _ (task : Task) (q : Program) (alone : (olds : List Row) → works task.schema task.keys 0 task.table.tree olds [] ≡ []) where
  removes : (db : Trees) (w : Written) → Deletes task q db (Ok w)
      → (rows : List Row) × Answers (record { schema = task.schema; trees = db }) q task.params rows × Applies task.schema task.keys db (edit_of db task.table (ids_of rows) Given 0 []) w.trees
  removes db w h =
      let found = went h in
      let written = went found.2 in
      let edit : Edit = edit_of db task.table (ids_of found.0) Given 0 [] in
      let step = one_step task.schema task.keys db written.0 edit (alone (taken_by db edit)) written.1 in
      let same : w.trees ≡ written.0 = ap (λ (it : Written). it.trees) (same_value written.2) in
      (found.0, found.1, subst (λ t. Applies task.schema task.keys db edit t) (sym same) step)

module _ (sql : List ℕ) (params : Row) (schema : Schema) (at : ℕ) (q : Program) (table : Table)
    (is : command_of (understood schema sql) ≡ Delete at q) (plain : IsPlain (understood schema sql))
    (found : slice_get schema.tables at ≡ Some table) (alone : (olds : List Row) → works schema Enforced 0 table.tree olds [] ≡ []) where
  abbrev delete_task : State → Task
  delete_task old = record { limit = old.step_limit; keys = Enforced; schema = schema; table = table; params = params }

  pub deletes : (old new : State) (count : ℕ) → old.now.schema ≡ schema → Executes sql params old new (Ok count)
      → (rows : List Row) × Answers (record { schema = schema; trees = old.now.trees }) q params rows × Removed schema table (ids_of rows) old.now new.now
  deletes old new count has h =
      let command = Delete at q in
      let db = old.now.trees in
      let w = runs_as sql params old new schema has command is plain count h in
      let text = statement_of sql (understood schema sql) in
      let at_table = subst (λ s. Does old.step_limit (mode_of old) params (record old.now { schema = s }) text None command (Ok (w.tally, new.now))) has w.changed in
      let done = went (subst (λ o. AtPlace (λ t. OnRows (record (delete_task old) { table = t }) (mode_of old) None command db) o (Ok (w.tally, new.now))) found at_table) in
      let now = ap (λ (p : Tally × Database). p.1) (same_value (went (went done.2).2).2) in
      let step = removes (delete_task old) q alone db done.0 done.1 in
      let trees : new.now.trees ≡ done.0.trees = ap (λ (d : Database). d.trees) now in (
        step.0,
        step.1,
        record {
          sound = w.sound;
          schema_is = ap (λ (d : Database). d.schema) now;
          rows = ap (λ (t : Trees). t table.tree) trees ∙ step.2.rows;
          others = λ t other free. ap (λ (all : Trees). all t) trees ∙ step.2.others t other free;
        },
      )

-- ---- an UPDATE

-- the rows that an UPDATE writes
abbrev pub news_of : Table → List Row → List Row
news_of table rows = map (λ s. cast_row table (drop 1 s)) rows

pub record Replaced (schema : Schema) (table : Table) (rows : List Row) (old new : Database) : Type 0 where
  pub sound : IsDatabase new
  pub schema_is : new.schema ≡ schema
  pub rows_are : new.trees table.tree ≡ put_all (without_all (old.trees table.tree) (ids_of rows)) (news_of table rows)
  pub others : (t : ℕ) → t ≢ table.tree → IsNoIndex schema t → new.trees t ≡ old.trees t

put_is : (db : Trees) (table : Table) (rows : List Row) → edited db (edit_of db table (ids_of rows) Given 1 rows) ≡ put_all (without_all (db table.tree) (ids_of rows)) (news_of table rows)
put_is db table rows = ap (put_all (without_all (db table.tree) (ids_of rows))) (given (without_all (db table.tree) (ids_of rows)) (news_of table rows))

module _ (task : Task) (q : Program) (alone : (olds news : List Row) → works task.schema task.keys 0 task.table.tree olds news ≡ []) where
  replaces : (db : Trees) (w : Written) → Updates task q task.params db (Ok w)
      → (rows : List Row) × Answers (record { schema = task.schema; trees = db }) q task.params rows × Applies task.schema task.keys db (edit_of db task.table (ids_of rows) Given 1 rows) w.trees
  replaces db w h =
      let found = went h in
      let written = went found.2 in
      let edit : Edit = edit_of db task.table (ids_of found.0) Given 1 found.0 in
      let step = one_step task.schema task.keys db written.0 edit (alone (taken_by db edit) edit.news) written.1 in
      let same : w.trees ≡ written.0 = ap (λ (it : Written). it.trees) (same_value written.2) in
      (found.0, found.1, subst (λ t. Applies task.schema task.keys db edit t) (sym same) step)

module _ (sql : List ℕ) (params : Row) (schema : Schema) (at : ℕ) (q : Program) (table : Table)
    (is : command_of (understood schema sql) ≡ Update at q) (plain : IsPlain (understood schema sql))
    (found : slice_get schema.tables at ≡ Some table) (alone : (olds news : List Row) → works schema Enforced 0 table.tree olds news ≡ []) where
  abbrev update_task : State → Task
  update_task old = record { limit = old.step_limit; keys = Enforced; schema = schema; table = table; params = params }

  pub updates : (old new : State) (count : ℕ) → old.now.schema ≡ schema → Executes sql params old new (Ok count)
      → (rows : List Row) × Answers (record { schema = schema; trees = old.now.trees }) q params rows × Replaced schema table rows old.now new.now
  updates old new count has h =
      let command = Update at q in
      let db = old.now.trees in
      let w = runs_as sql params old new schema has command is plain count h in
      let text = statement_of sql (understood schema sql) in
      let at_table = subst (λ s. Does old.step_limit (mode_of old) params (record old.now { schema = s }) text None command (Ok (w.tally, new.now))) has w.changed in
      let done = went (subst (λ o. AtPlace (λ t. OnRows (record (update_task old) { table = t }) (mode_of old) None command db) o (Ok (w.tally, new.now))) found at_table) in
      let now = ap (λ (p : Tally × Database). p.1) (same_value (went (went done.2).2).2) in
      let step = replaces (update_task old) q alone db done.0 done.1 in
      let trees : new.now.trees ≡ done.0.trees = ap (λ (d : Database). d.trees) now in (
        step.0,
        step.1,
        record {
          sound = w.sound;
          schema_is = ap (λ (d : Database). d.schema) now;
          rows_are = ap (λ (t : Trees). t table.tree) trees ∙ step.2.rows ∙ put_is db table step.0;
          others = λ t other free. ap (λ (all : Trees). all t) trees ∙ step.2.others t other free;
        },
      )

-- ---- keys

-- what the keys do where rows of the table at this tree change
abbrev pub works_at : ℕ → List Row → List Row → Bool → List Work
works_at tree olds news none = flat_map (λ child. filter_map (λ ref. work_by 0 tree (pairs olds news) child ref (deed_for Enforced none ref) (parent_key keep_schema.tables ref)) child.references) keep_schema.tables

-- no key acts there: `refl` finds both facts of a tree that is written out
pub no_key_acts : (tree : ℕ) → ((olds news : List Row) → works_at tree olds news true ≡ []) → ((olds news : List Row) → works_at tree olds news false ≡ []) → (olds news : List Row) → works keep_schema Enforced 0 tree olds news ≡ []
no_key_acts tree some none olds news = search rules

-- ---- one of the seven tables is changed, and the others are as they were

abbrev pub AreOthersKept : ℕ → Database → Database → Type 0
AreOthersKept tree old new = (t : ℕ) → t ≢ tree → IsNoIndex keep_schema t → new.trees t ≡ old.trees t

-- the table at this tree has these rows
abbrev pub with_rows : ℕ → List Row → Contents → Contents
with_rows tree rows t = record {
  register = cond (0 == tree) rows t.register;
  agents = cond (2 == tree) rows t.agents;
  filings = cond (5 == tree) rows t.filings;
  statements = cond (8 == tree) rows t.statements;
  interests = cond (11 == tree) rows t.interests;
  identifiers = cond (13 == tree) rows t.identifiers;
  periods = cond (19 == tree) rows t.periods;
}

module _ (tree : ℕ) (old new : Database) (others : AreOthersKept tree old new) (rows : List Row) (kept : Keeps rows (new.trees tree)) where
  -- a table has the rows that it had, or is the one that is changed
  stays : (t : ℕ) → list_all (λ (i : Index). not (i.tree == t)) keep_schema.indexes ≡ true → (xs : List Row) → Keeps xs (old.trees t) → Keeps (cond (t == tree) rows xs) (new.trees t)
  stays t free xs keeps = search rules

  pub one_changed : (t : Contents) → IsDatabase new → new.schema ≡ keep_schema → Has t old → Has (with_rows tree rows t) new
  one_changed t sound schema has = search (rules, stays)
