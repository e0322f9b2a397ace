-- What stands in a database while tables are made beside it: its tables, and the trees that SQL here doesn't read.
use Rattle.std.proofs.Common.{◌≡◌, ◌≢◌, true≢false, ◌<◌, ◌≤◌, ◌+◌, ◌%◌, ◌==◌, ◌||◌, ℕ, pos, Bool, true, List, [], ◌∷◌, filter, find, length, unwrap_or, Option, None, Some, inl, inr, refl, sym, ap, subst, ◌∙◌, arith, max, fold, ◌++◌, append_assoc, slice_get, rules}
use Rattle.std.specs.List.{AllByRecursion, AllZip, position_from}
use Rattle.std.proofs.lemmas.Bool.{cases_Bool, eqb-false, eqb-true}
use Rattle.sqlite.specs.Change.{next_tree, past_views}
use Rattle.sqlite.specs.Effect.{Database, IsDatabase, SparesFrozen}
use Rattle.sqlite.specs.Order.{Row, column}
use Rattle.sqlite.specs.declared.types.Value.TheVariants.{Int}
use Rattle.sqlite.specs.Table.{Table}
use Rattle.sqlite_catalog.specs.Calls.{KeepsForeign}
use Rattle.sqlite_catalog.specs.Listing.{IsIndexRow, IsTableRow, IsViewRow, is_foreign_row, is_index_row, is_table_row, is_view_row}
use Rattle.sqlite_catalog.proofs.LayoutLemmas.{aside_code, has_own_rowid, other_rowid, row_kind, same_rowid, zipped_right}
use Rattle.sqlite_catalog.proofs.ListFacts.{zip_filter, most_from}
use Rattle.sqlite_catalog.proofs.StepLemmas.{view_below, table_below}
use Rattle.sqlite_keyed.proofs.ListLemmas.{all-append, all_weaker}
use Rattle.sqlite_rules.specs.Lists.{Has}
use Rattle.sqlite_rules.proofs.ListLemmas.{all_from, all_has, has_found, has_kept, has_either, has_got, has_left, has_right}
use Rattle.sqlite_schema.specs.declared.schema.Index.{Index}
use Rattle.sqlite_schema.specs.declared.schema.View.{View as Stored}
use Rattle.sqlite_trees.specs.Objects.{catalog_tree, number_in, row_for}
use Rattle.sqlite_trees.specs.Tree.{has_rowid, rowid, Trees}
use Rattle.bor_store_sql.specs.Beside.{IsUnreadTree, Spares, SparesUnread, Adds, HasIndex, HasIndexes, HasMore, HasTable, HasTables, IsIndexMade, IsIndexOver, IsTableMade, MakesOnly, SetsUp, SetsUpIn, details, four_indexes, lists, tables_of}
use Rattle.std.proofs.iter.runs.Lists.{nth_left, slice_get_within, fold-append}
use Rattle.std.proofs.lemmas.List.{map-append}
use Rattle.sqlite_schema.specs.Names.{same_name}
use Rattle.bor_register.specs.Register.{Register}
use Rattle.bor_store_sql.specs.Kept.{Keeps}

-- ---- trees that SQL here doesn't read, from one statement to the next: at most one

zip_few : {A B : Type 0} (R : A → B → Type 0) (xs : List A) (ys : List B) (a b : A) → AllZip R xs ys → length ys ≤ 1 → Has xs a → Has xs b → a ≡ b
zip_few R [] ys a b all few h k = absurd h
zip_few R (x ∷ []) ys a b all few (inl h) (inl k) = h ∙ sym k
zip_few R (x ∷ []) ys a b all few (inr h) k = absurd h
zip_few R (x ∷ []) ys a b all few h (inr k) = absurd k
zip_few R (x ∷ y ∷ xs) [] a b all few h k = absurd all
zip_few R (x ∷ y ∷ xs) (z ∷ []) a b all few h k = absurd all.1
zip_few R (x ∷ y ∷ xs) (z ∷ w ∷ ys) a b all few h k = absurd (omega (arith, few))

-- ---- numbers

-- the codes of frozen trees are 4 and 5, below 6
frozen_codes : (n : ℕ) (c : Bool) → 3 ≤ n → n ≤ 5 → 4 ≤ n % 8 → ((n == 4) || (n == 5) || c) ≡ true
frozen_codes n c low high kept = search rules

-- ---- a row that is found

found_some : {X : Type 0} (p : X → Bool) (xs : List X) (x : X) → Has xs x → p x ≡ true → (y : X) × (find p xs ≡ Some y)
found_some p [] x h is = absurd h
found_some p (y ∷ xs) x h is = elim (cases_Bool (p y)) [
  | inl e ↦ (y, rw e refl)
  | inr e ↦ elim h [
    | inl same ↦ absurd (true≢false (sym is ∙ ap p same ∙ e))
    | inr more ↦ let later = found_some p xs x more is in (later.0, rw e later.1)
  ]
]

-- ---- the row of such a tree

module _ (db : Database) (sound : IsDatabase db) (tree : ℕ) (no_table : AllByRecursion (λ (t : Table). t.tree ≢ tree) db.schema.tables) (no_index : AllByRecursion (λ (i : Index). i.tree ≢ tree) db.schema.indexes) where
  abbrev objects : List Row
  objects = db.trees catalog_tree

  abbrev IsAt : Row → Type 0
  IsAt row = has_rowid (pos (tree + 1)) row ≡ true

  at : (row : Row) (other : ℕ) → rowid row ≡ Int (pos (other + 1)) → IsAt row → other ≡ tree
  at row other id is = omega (arith, same_rowid row (other + 1) (tree + 1) id is)

  -- it lists a view, or what is kept as it is
  view_of : (row : Row) → Has objects row → IsAt row → (view : Stored) × Has db.schema.views view × IsViewRow row view × (view.tree ≡ tree) × Has (filter is_view_row objects) row
  view_of row has is = elim (row_kind row) [
    | inl table ↦ absurd (
        let r = zipped_right IsTableRow _ db.schema.tables row sound.lists.listed.tables (has_kept is_table_row objects row has table) in
        all_has (λ (t : Table). t.tree ≢ tree) db.schema.tables r.0 no_table r.1 (at row r.0.tree r.2.described.id is))
    | inr (inl index) ↦ absurd (
        let r = zipped_right (IsIndexRow db.schema.tables) _ db.schema.indexes row sound.lists.listed.indexes (has_kept is_index_row objects row has index) in
        all_has (λ (i : Index). i.tree ≢ tree) db.schema.indexes r.0 no_index r.1 (at row r.0.tree r.2.described.id is))
    | inr (inr view) ↦
        let kept = has_kept is_view_row objects row has view in
        let r = zipped_right IsViewRow _ db.schema.views row sound.lists.listed.views kept in
        (r.0, r.1, r.2, at row r.0.tree r.2.described.id is, kept)
  ]

  same_test : (row : Row) (view : Stored) → IsViewRow row view → has_rowid (pos (tree + 1)) row ≡ (view.tree == tree)
  same_test row view is = search (rules, cases_Bool, has_own_rowid, eqb-true, other_rowid, eqb-false)

  pub one_row : length (filter (λ (v : Stored). v.tree == tree) db.schema.views) ≤ 1 → (a b : Row) → Has objects a → IsAt a → Has objects b → IsAt b → a ≡ b
  one_row few a b has is has_b is_b =
      zip_few IsViewRow _ _ a b (zip_filter IsViewRow (has_rowid (pos (tree + 1))) (λ (v : Stored). v.tree == tree) (filter is_view_row objects) db.schema.views same_test sound.lists.listed.views) few
      (has_kept (has_rowid (pos (tree + 1))) (filter is_view_row objects) a (view_of a has is).4 is) (has_kept (has_rowid (pos (tree + 1))) (filter is_view_row objects) b (view_of b has_b is_b).4 is_b)

  -- the row of a frozen tree is there
  row_there : 4 ≤ number_in (column (row_for objects tree) 5) % 8 → Has objects (row_for objects tree) × IsAt (row_for objects tree)
  row_there = go (find (has_rowid (pos (tree + 1))) objects) refl
    where
      go : (o : Option Row) → find (has_rowid (pos (tree + 1))) objects ≡ o → 4 ≤ number_in (column (unwrap_or o []) 5) % 8 → Has objects (unwrap_or o []) × IsAt (unwrap_or o [])
      go None none h = absurd (omega (arith, h))
      go (Some row) found h = has_found (has_rowid (pos (tree + 1))) objects row found

  -- it is one of those that stay
  foreign : (frozen : 4 ≤ number_in (column (row_for objects tree) 5) % 8) → is_foreign_row (row_for objects tree) ≡ true
  foreign frozen = search (rules, row_there, view_of, aside_code, frozen_codes)

  -- its number is one of those that the schema uses, and not that of a list of the store's own
  low : 4 ≤ number_in (column (row_for objects tree) 5) % 8 → (tree < next_tree db.schema) × (tree < 65536)
  low frozen = search (rules, row_there, view_of, view_below)

-- ---- from one statement to the next

still_unread : (old new : Database) → IsDatabase old → IsDatabase new → Spares old new → KeepsForeign (old.trees catalog_tree) (new.trees catalog_tree) → (tree : ℕ) → IsUnreadTree old tree → IsUnreadTree new tree
still_unread old new sound sound_new spares listed tree is =
    let row = row_for (old.trees catalog_tree) tree in
    let there = row_there old sound tree is.no_table is.no_index is.frozen in
    let bound = (low old sound tree is.no_table is.no_index is.frozen).0 in
    let has : Has (new.trees catalog_tree) row = listed row there.0 (foreign old sound tree is.no_table is.no_index is.frozen) in
    let tables : AllByRecursion (λ (t : Table). t.tree ≢ tree) new.schema.tables = subst (AllByRecursion (λ (t : Table). t.tree ≢ tree)) (sym spares.tables.1)
    (all-append (λ (t : Table). t.tree ≢ tree) old.schema.tables spares.tables.0 is.no_table (all_from (λ (t : Table). t.tree ≢ tree) spares.tables.0 (λ t at same. omega (arith, bound, same, all_has (λ (t : Table). next_tree old.schema ≤ t.tree) spares.tables.0 t spares.tables.2 at)))) in
    let indexes : AllByRecursion (λ (i : Index). i.tree ≢ tree) new.schema.indexes = subst (AllByRecursion (λ (i : Index). i.tree ≢ tree)) (sym spares.indexes.1)
    (all-append (λ (i : Index). i.tree ≢ tree) old.schema.indexes spares.indexes.0 is.no_index (all_from (λ (i : Index). i.tree ≢ tree) spares.indexes.0 (λ i at same. omega (arith, bound, same, all_has (λ (i : Index). next_tree old.schema ≤ i.tree) spares.indexes.0 i spares.indexes.2 at)))) in
    let alone : length (filter (λ (v : Stored). v.tree == tree) new.schema.views) ≤ 1 = rw spares.views is.alone in
    let found = found_some (has_rowid (pos (tree + 1))) (new.trees catalog_tree) row has there.1 in
    let it = has_found (has_rowid (pos (tree + 1))) (new.trees catalog_tree) found.0 found.1 in
    let same : found.0 ≡ row = one_row new sound_new tree tables indexes alone found.0 row it.0 it.1 has there.1 in
    record {
      frozen = rw (found.1, same) is.frozen;
      no_table = tables;
      no_index = indexes;
      alone = alone;
    }

pub unread_all : (first then last : Database) → IsDatabase then → Spares first then → (IsDatabase first → SparesUnread first then) → (IsDatabase then → SparesUnread then last) → IsDatabase first → SparesUnread first last
unread_all first then last sound_then spares before after sound = search (rules, still_unread)

-- one statement
pub unread : (old new : Database) → SparesFrozen old new → IsDatabase old → SparesUnread old new
unread old new frozen sound = search (rules, low)

-- ---- tables that stand, while others are made beside them: indexes beside tables that are there

-- there is the table of each of these indexes
abbrev pub HasTheirTables : List (Table × Index) → Database → Type 0
HasTheirTables indexes db =
    AllByRecursion (λ i. (tree : ℕ) × (rows : List Row) × HasTable db i.0 tree rows) indexes

-- these indexes are added, where their tables are there
pub record AddsIndexes (over : List (Table × Index)) (old new : Database) : Type 0 where
  pub sound : IsDatabase new
  pub spares : Spares old new
  pub unread : IsDatabase old → SparesUnread old new
  pub indexes : HasTheirTables over old → HasIndexes over new.schema
  pub only : HasTheirTables over old → MakesOnly [] over old.schema new.schema

-- ---- lists that grow at their end

pub found_still : {X : Type 0} (p : X → Bool) (from : ℕ) (xs more : List X) (k : ℕ) → position_from p from xs ≡ Some k → position_from p from (xs ++ more) ≡ Some k
found_still p from [] more k h = absurd (cc)
found_still p from (x ∷ xs) more k h = elim (cases_Bool (p x)) [ inl e ↦ rw e (rw e at h) | inr e ↦ rw e (found_still p (from + 1) xs more k (rw e at h)) ]

pub found_last : {X : Type 0} (p : X → Bool) (from : ℕ) (xs : List X) (x : X) → position_from p from xs ≡ None → p x ≡ true → position_from p from (xs ++ x ∷ []) ≡ Some (from + length xs)
found_last p from [] x none is = let same : from + 0 ≡ from = omega arith in rw (is, same) refl
found_last p from (y ∷ xs) x none is = search (rules, cases_Bool, found_last p (from + 1) xs x)

pub got_still : {X : Type 0} (xs more : List X) (k : ℕ) (x : X) → slice_get xs k ≡ Some x → slice_get (xs ++ more) k ≡ Some x
got_still xs more k x h = nth_left xs more k (slice_get_within xs k x h) ∙ h

longer : {X : Type 0} (first second third more others : List X) → second ≡ first ++ more → third ≡ second ++ others → third ≡ first ++ (more ++ others)
longer first second third more others one two = two ∙ ap (λ xs. xs ++ others) one ∙ append_assoc first more others

-- ---- the next tree

module _ {X : Type 0} (f : X → ℕ) where
  abbrev most : ℕ → List X → ℕ
  most start xs = fold (λ n x. max n (f x + 1)) start xs

  most_rises : (low high : ℕ) (xs : List X) → low ≤ high → most low xs ≤ most high xs
  most_rises low high [] h = h
  most_rises low high (x ∷ xs) h = most_rises (max low (f x + 1)) (max high (f x + 1)) xs (omega arith)

  most_more : (low high : ℕ) (xs more : List X) → low ≤ high → most low xs ≤ most high (xs ++ more)
  most_more low high xs more h = rw (fold-append (λ n x. max n (f x + 1)) high xs more) (omega (arith, most_rises low high xs h, most_from f (most high xs) more))

pub next_rises : (old new : Database) → Spares old new → next_tree old.schema ≤ next_tree new.schema
next_rises old new spares = rw (spares.tables.1, spares.indexes.1, spares.views)
    (most_more (λ (i : Index). i.tree) _ _ old.schema.indexes spares.indexes.0 (most_more (λ (t : Table). t.tree) (past_views old.schema) (past_views old.schema) old.schema.tables spares.tables.0 (omega arith)))

-- ---- one after the other

more_all : {X : Type 0} (tree : X → ℕ) (low high : ℕ) (first second third : List X) → low ≤ high → HasMore tree low first second → HasMore tree high second third → HasMore tree low first third
more_all tree low high first second third h one two = (
  one.0 ++ two.0,
  longer first second third one.0 two.0 one.1 two.1,
  all-append (λ x. low ≤ tree x) one.0 two.0 one.2 (all_from (λ x. low ≤ tree x) two.0 (λ x has. omega (arith, h, all_has (λ x. high ≤ tree x) two.0 x two.2 has))),
)

pub spares_all : (first then last : Database) → Spares first then → Spares then last → Spares first last
spares_all first then last one two = record {
  tables = more_all (λ (t : Table). t.tree) (next_tree first.schema) (next_tree then.schema) first.schema.tables then.schema.tables last.schema.tables (next_rises first then one) one.tables two.tables;
  indexes = more_all (λ (i : Index). i.tree) (next_tree first.schema) (next_tree then.schema) first.schema.indexes then.schema.indexes last.schema.indexes (next_rises first then one) one.indexes two.indexes;
  views = two.views ∙ one.views;
  rows = all_from (λ t. last.trees t.tree ≡ first.trees t.tree) first.schema.tables (λ t has.
      let later : Has then.schema.tables t = subst (λ xs. Has xs t) (sym one.tables.1) (has_left first.schema.tables one.tables.0 t has) in
      all_has (λ t. last.trees t.tree ≡ then.trees t.tree) then.schema.tables t two.rows later ∙ all_has (λ t. then.trees t.tree ≡ first.trees t.tree) first.schema.tables t one.rows has);
}

-- a table stays, with its rows
pub table_still : (old new : Database) (table : Table) (tree : ℕ) (rows : List Row) → Spares old new → HasTable old table tree rows → HasTable new table tree rows
table_still old new table tree rows spares is = record {
  place = is.place;
  named = rw spares.tables.1 (found_still (λ (t : Table). same_name t.name table.name) 0 old.schema.tables spares.tables.0 is.place is.named);
  found = rw spares.tables.1 (got_still old.schema.tables spares.tables.0 is.place _ is.found);
  keeps = subst (Keeps rows) (sym (all_has (λ t. new.trees t.tree ≡ old.trees t.tree) old.schema.tables (record table { tree = tree }) spares.rows (has_got old.schema.tables is.place _ is.found))) is.keeps;
}

pub tables_still : (old new : Database) → Spares old new → (low : ℕ) (tables : List (Table × List Row)) → HasTables low tables old → HasTables low tables new
tables_still old new spares low [] has = tt
tables_still old new spares low (t ∷ tables) has = (has.0, has.1, table_still old new t.0 has.0 t.1 spares has.2, tables_still old new spares (has.0 + 1) tables has.3)

parts_of : {X : Type 0} (P : X → Type 0) (xs ys : List X) → AllByRecursion P (xs ++ ys) → AllByRecursion P xs × AllByRecursion P ys
parts_of P [] ys all = (tt, all)
parts_of P (x ∷ xs) ys all = let rest = parts_of P xs ys all.1 in ((all.0, rest.0), rest.1)

-- ---- tables that are added

lower : (low high : ℕ) (tables : List (Table × List Row)) (db : Database) → low ≤ high → HasTables high tables db → HasTables low tables db
lower low high [] db h has = tt
lower low high (t ∷ tables) db h has = (has.0, omega (arith, has.1), has.2, has.3)

below_next : (db : Database) (table : Table) (tree : ℕ) (rows : List Row) → HasTable db table tree rows → tree < next_tree db.schema
below_next db table tree rows is = table_below db.schema (record table { tree = tree }) (has_got db.schema.tables is.place _ is.found)

both_there : (mid new : Database) → Spares mid new → (low : ℕ) (tables others : List (Table × List Row)) → low ≤ next_tree mid.schema → HasTables low tables mid → HasTables (next_tree mid.schema) others new
    → HasTables low (tables ++ others) new
both_there mid new spares low [] others h has more = lower low (next_tree mid.schema) others new h more
both_there mid new spares low (t ∷ tables) others h has more =
    (has.0, has.1, table_still mid new t.0 has.0 t.1 spares has.2, both_there mid new spares (has.0 + 1) tables others (omega (arith, below_next mid t.0 has.0 t.1 has.2)) has.3 more)

-- ---- indexes

index_still : (old new : Database) (table : Table) (index : Index) → Spares old new → HasIndex old.schema table index → HasIndex new.schema table index
index_still old new table index spares is = search (rules, found_still, got_still)

indexes_still : (old new : Database) → Spares old new → (indexes : List (Table × Index)) → HasIndexes indexes old.schema → HasIndexes indexes new.schema
indexes_still old new spares indexes has = all_weaker (λ i. HasIndex old.schema i.0 i.1) (λ i. HasIndex new.schema i.0 i.1) (λ i. index_still old new i.0 i.1 spares) indexes has

theirs_still : (old new : Database) → Spares old new → (indexes : List (Table × Index)) → HasTheirTables indexes old → HasTheirTables indexes new
theirs_still old new spares indexes has =
    all_weaker (λ i. (tree : ℕ) × (rows : List Row) × HasTable old i.0 tree rows) (λ i. (tree : ℕ) × (rows : List Row) × HasTable new i.0 tree rows) (λ i h. (h.0, h.1, table_still old new i.0 h.0 h.1 spares h.2)) indexes has

-- ---- nothing else

module _ (old mid new : Database) (one : Spares old mid) (two : Spares mid new) (tables others : List Table) (indexes further : List (Table × Index)) where
  table_made : MakesOnly tables indexes old.schema mid.schema → MakesOnly others further mid.schema new.schema → (t : Table) → Has new.schema.tables t → next_tree old.schema ≤ t.tree → IsTableMade (tables ++ others) old.schema t
  table_made first second t has low = search (rules, has_either, all_has, has_left, has_right)

  over_still : (table : Table) (index i : Index) → IsIndexOver mid.schema table index i → IsIndexOver new.schema table index i
  over_still table index i is = search (rules, found_still, got_still)

  index_made : MakesOnly tables indexes old.schema mid.schema → MakesOnly others further mid.schema new.schema → (i : Index) → Has new.schema.indexes i → next_tree old.schema ≤ i.tree → IsIndexMade (indexes ++ further) old.schema new.schema i
  index_made first second i has low = elim (has_either mid.schema.indexes two.indexes.0 i (subst (λ xs. Has xs i) two.indexes.1 has)) [
    | inl h ↦ elim (all_has (λ (i : Index). next_tree old.schema ≤ i.tree → IsIndexMade indexes old.schema mid.schema i) mid.schema.indexes i first.indexes_are h low) [
      | inl is ↦ inl (is.0, has_left indexes further is.0 is.1, over_still is.0.0 is.0.1 i is.2)
      | inr is ↦ inr (is.0, subst (λ xs. Has xs is.0) (sym two.tables.1) (has_left mid.schema.tables two.tables.0 is.0 is.1), is.2, is.3)
    ]
    | inr h ↦ elim (all_has (λ (i : Index). next_tree mid.schema ≤ i.tree → IsIndexMade further mid.schema new.schema i) new.schema.indexes i second.indexes_are has (all_has (λ (i : Index). next_tree mid.schema ≤ i.tree) two.indexes.0 i two.indexes.2 h)) [
      | inl is ↦ inl (is.0, has_right indexes further is.0 is.1, is.2)
      | inr is ↦ inr (is.0, is.1, omega (arith, is.2, next_rises old mid one), is.3)
    ]
  ]

  pub only_all : MakesOnly tables indexes old.schema mid.schema → MakesOnly others further mid.schema new.schema → MakesOnly (tables ++ others) (indexes ++ further) old.schema new.schema
  only_all first second = search (rules, all_from, table_made, index_made)

-- ---- all that is added

pub adds_all : (tables others : List (Table × List Row)) (indexes further : List (Table × Index)) (old mid new : Database) → Adds tables indexes old mid → Adds others further mid new
    → Adds (tables ++ others) (indexes ++ further) old new
adds_all tables others indexes further old mid new one two = record {
  sound = two.sound;
  spares = spares_all old mid new one.spares two.spares;
  unread = unread_all old mid new one.sound one.spares one.unread two.unread;
  tables = both_there mid new two.spares (next_tree old.schema) tables others (next_rises old mid one.spares) one.tables two.tables;
  indexes = all-append (λ i. HasIndex new.schema i.0 i.1) indexes further (indexes_still mid new two.spares indexes one.indexes) two.indexes;
  only = rw (map-append (λ (it : Table × List Row). it.0) tables others) (only_all old mid new one.spares two.spares (tables_of tables) (tables_of others) indexes further one.only two.only);
}

pub indexes_all : (indexes further : List (Table × Index)) (old mid new : Database) → AddsIndexes indexes old mid → AddsIndexes further mid new → AddsIndexes (indexes ++ further) old new
indexes_all indexes further old mid new one two = record {
  sound = two.sound;
  spares = spares_all old mid new one.spares two.spares;
  unread = unread_all old mid new one.sound one.spares one.unread two.unread;
  indexes = λ theirs.
      let both = parts_of (λ i. (tree : ℕ) × (rows : List Row) × HasTable old i.0 tree rows) indexes further theirs in
      all-append (λ i. HasIndex new.schema i.0 i.1) indexes further (indexes_still mid new two.spares indexes (one.indexes both.0)) (two.indexes (theirs_still old mid one.spares further both.1));
  only = λ theirs.
      let both = parts_of (λ i. (tree : ℕ) × (rows : List Row) × HasTable old i.0 tree rows) indexes further theirs in
      only_all old mid new one.spares two.spares [] [] indexes further (one.only both.0) (two.only (theirs_still old mid one.spares further both.1));
}

-- the four indexes, over tables of version 1 that were added
pub with_indexes : (old mid new : Database) → Adds (lists ++ details) [] old mid → AddsIndexes four_indexes mid new → Adds (lists ++ details) four_indexes old new
with_indexes old mid new one two =
    let filing = one.tables.3.3 in
    let statement = filing.3 in
    let identifier = statement.3.3 in
    let theirs : HasTheirTables four_indexes mid = ((statement.0, [], statement.2), ((statement.0, [], statement.2), ((identifier.0, [], identifier.2), ((filing.0, [], filing.2), tt)))) in
    record {
      sound = two.sound;
      spares = spares_all old mid new one.spares two.spares;
      unread = unread_all old mid new one.sound one.spares one.unread two.unread;
      tables = tables_still mid new two.spares (next_tree old.schema) (lists ++ details) one.tables;
      indexes = two.indexes theirs;
      only = only_all old mid new one.spares two.spares (tables_of (lists ++ details)) [] [] four_indexes one.only (two.only theirs);
    }

-- ---- what a stop leaves

pub sets_up_in : (r : Register) (old after : Database) (trees : Trees) → after.trees ≡ trees → SetsUp r old after → SetsUpIn r old trees
sets_up_in r old after trees same sets = (after.schema, subst (λ (t : Trees). SetsUp r old (record { schema = after.schema; trees = t })) same sets)
