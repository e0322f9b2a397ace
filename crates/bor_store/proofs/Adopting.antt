-- The rows that the version's query finds, and that the tables of a register are all there.
use Rattle.std.proofs.Common.{Bool, true≢false, ap, ◌∙◌, ◌≡◌, ℤ, pos, true, false, List, [], ◌∷◌, Vec, Option, Some, None, Result, Ok, Err, IfOk, OnOk, IsTrue, refl, sym, subst, Global}
use Rattle.std.proofs.lemmas.Result.{IfOk-weaker}
use Rattle.sqlite.specs.Schema.{Schema}
use Rattle.sqlite_tied.specs.Compute.{everything}
use Rattle.sqlite.specs.declared.types.Value.TheVariants.{Int, Null}
use Rattle.sqlite.specs.Effect.{Database}
use Rattle.sqlite.specs.Listing.{IsSourceOf, reads_listing, understood}
use Rattle.sqlite.specs.Order.{Row}
use Rattle.sqlite.specs.Program.{overlay}
use Rattle.sqlite.specs.Query.{IsAnswer, Query}
use Rattle.sqlite.specs.Clock.{timed}
use Rattle.sqlite.specs.Given.{Returns}
use Rattle.sqlite.specs.State.{IsStatement, State, Shown, ShowsRows}
use Rattle.sqlite.specs.declared.error.Error.{Error}
use Rattle.sqlite_schema.specs.declared.command.Returning.{Returning}
use Rattle.sqlite.specs.Term.{col}
use Rattle.sqlite.proofs.Callers.{reads_as}
use Rattle.sqlite_schema.specs.Names.{same_name}
use Rattle.bor_register.specs.Register.{Register}
use Rattle.bor_store_sql.specs.Texts.Queries.{table_query, shows_rows}
use Rattle.bor_store_sql.specs.Texts.Tables.{first_schema, keep_schema}
use Rattle.bor_store_sql.specs.Rows.Encoding.{versioned_columns}
use Rattle.bor_store_sql.specs.Rows.Placed.{register_row}
use Rattle.bor_store_sql.specs.declared.rows.typed.RegisterRow.{RegisterRow}
use Rattle.bor_store_sql.specs.Found.{IsQuery}
use Rattle.bor_store_sql.specs.Kept.{Keeps}
use Rattle.bor_store_sql.specs.Shown.{HasFirst, ShowsFirst, ShowsIn, first_contents}
use Rattle.bor_store_sql.proofs.Finding.{answers, has_now}
use Rattle.bor_store_sql.proofs.Picking.{picked_rows}
use Rattle.bor_store_sql.proofs.Plain.{IsSelectBoth, is_query}
use Rattle.bor_store.specs.Opening.{is_versioned, has_all, has_first, is_period_used, version_in, version_text, AreVersions}

abbrev version_query : Query
version_query = table_query 0 ([]) (col 1 2 ∷ []) ([])

version_is : IsSelectBoth version_text version_query
unfolding understood everything
version_is = record { now = record { reads = (_, refl); asks = (_, refl, (refl, refl), refl) }; first = (_, refl, (refl, refl), refl) }

pub version_asks : IsQuery version_text
version_asks = is_query version_is.now

module _ (old new : State) where
  -- what the query shows of a state it shows of it whatever it leaves, and it leaves what it was asked of
  told : (rows : List Row) → Shown version_text [] old new rows → AreVersions old rows × (new.now ≡ old.now)
  unfolding Shown
  told rows h = let it = go h.0.returning refl h.2 in ((h.0, h.1, it.0), it.1)
    where
      go : (o : Option Returning) → h.0.returning ≡ o → ShowsRows old new version_text h.0 (timed [] h.0.formats h.1.now) rows o → ShowsRows old old version_text h.0 (timed [] h.0.formats h.1.now) rows o × (new.now ≡ old.now)
      go None e k = ((k.0, k.1, k.2, (record { was_open = k.3.0.was_open; is_open = k.3.0.was_open; now_is = refl; committed_is = refl; mode = refl }, record { changes = refl; last_rowid = refl }, refl)), k.3.0.now_is)
      go (Some what) e k = absurd (version_asks old.now.schema (subst Returns (sym h.1.is) (rw e refl)))

  pub versions_told : (result : Result (Vec Row Global) Error) → IfOk result (λ rows. Shown version_text [] old new rows.items) → IfOk result (λ rows. AreVersions old rows.items)
  versions_told result = IfOk-weaker result (λ rows. Shown version_text [] old new rows.items) (λ rows. AreVersions old rows.items) (λ rows h. (told rows.items h).0)

  pub versions_left : (result : Result (Vec Row Global) Error) → IfOk result (λ rows. Shown version_text [] old new rows.items) → OnOk result (new.now ≡ old.now)
  versions_left (Ok rows) h = (told rows.items h).1
  versions_left (Err error) h = tt

-- a connection that is open and shows the same has the same versions
pub versions_same : (old new : State) (rows : List Row) → new.now ≡ old.now → IsTrue new.is_open → AreVersions old rows → AreVersions new rows
unfolding Shown
versions_same old new rows same up h =
    let now : old.now ≡ new.now = sym same in
    let it : IsStatement new version_text [] h.0 = record {
      is = subst (λ (db : Database). understood db.schema version_text ≡ Ok h.0) now h.1.is;
      whole = h.1.whole;
      given = h.1.given;
      now = h.1.now;
    } in
    (h.0, it, go h.0.returning refl h.2)
  where
    go : (o : Option Returning) → h.0.returning ≡ o → ShowsRows old old version_text h.0 (timed [] h.0.formats h.1.now) rows o → ShowsRows new new version_text h.0 (timed [] h.0.formats h.1.now) rows o
    go None e k = (
      k.0,
      subst (λ (db : Database). IsSourceOf (reads_listing db.schema version_text) db k.0) (sym same) k.1,
      k.2,
      (record { was_open = up; is_open = up; now_is = refl; committed_is = refl; mode = refl }, record { changes = refl; last_rowid = refl }, refl),
    )
    go (Some what) e k = absurd (version_asks old.now.schema (subst Returns (sym h.1.is) (rw e refl)))

-- the one row of a version tells it
picked : (version : ℤ) (row : RegisterRow) (old : State) (rows : List Row) → Keeps (versioned_columns version row ∷ []) (old.now.trees 0) → IsAnswer version_query (overlay old.now.trees []) [] rows → rows ≡ (Int version ∷ []) ∷ []
picked version row old rows kept answer =
    picked_rows 0 refl version_query.filter [] version_query.project version_query.order (λ id x. refl) (versioned_columns version) (λ r. Int version ∷ []) (λ x. true) (λ x. refl) (row ∷ []) old.now.trees (versioned_columns version row ∷ []) rows refl
    kept (λ id x. refl) (λ x. refl) answer (λ a b. ⊥) (λ a b lt. absurd lt) (tt, tt)

module _ {r : Register} {s : State} {rows given : List Row} where
  pub version_found : ShowsIn r s → s.now ≡ s.committed → AreVersions s rows → given ≡ rows → version_in given ≡ Some (pos 2)
  version_found shows settled versions same = ap version_in (same ∙ picked (pos 2) (register_row r) s rows (has_now r s s shows settled).register (answers r s s shows settled version_text [] version_query version_is.now.asks rows versions))

  -- version 1
  pub first_found : ShowsFirst r s → s.now ≡ s.committed → AreVersions s rows → given ≡ rows → version_in given ≡ Some (pos 1)
  first_found shows settled versions same =
      let has = subst (HasFirst (first_contents r)) (sym settled) shows.has in
      ap version_in (same ∙ picked (pos 1) (register_row r) s rows has.register
      ((reads_as version_text [] s s first_schema has.schema (shows_rows version_query version_is.first.0) version_is.first.1 version_is.first.2 version_is.first.3 rows versions).answer Null))

-- ---- which tables there are

pub keep_is_versioned : is_versioned keep_schema ≡ true
unfolding same_name
keep_is_versioned = refl

pub keep_has_all : has_all keep_schema ≡ true
unfolding same_name
keep_has_all = refl

pub first_is_versioned : is_versioned first_schema ≡ true
unfolding same_name
first_is_versioned = refl

pub first_has_first : has_first first_schema ≡ true
unfolding same_name
first_has_first = refl

pub first_is_free : is_period_used first_schema ≡ false
unfolding same_name
first_is_free = refl

pub schema_is : {now committed : Database} {schema : Schema} → now ≡ committed → committed.schema ≡ schema → now.schema ≡ schema
schema_is settled has = ap (λ (db : Database). db.schema) settled ∙ has

-- tables that have the columns of a version are not refused for want of them
pub not_versioned : {P : Type 0} {now committed : Database} {schema given : Schema} {is : Bool} → is_versioned schema ≡ true → now ≡ committed → committed.schema ≡ schema → given ≡ now.schema → is ≡ is_versioned given → is ≡ false → P
not_versioned versioned settled has same said isnt = absurd (true≢false (sym versioned ∙ ap is_versioned (sym (same ∙ schema_is settled has)) ∙ sym said ∙ isnt))
