-- The statement that a record shows on a day, from the rows of its series.
use Rattle.std.proofs.Common.{◌≡◌, ◌-◌, ◌<◌, List, [], ◌∷◌, ◌++◌, Vec, Global, Ok, map, Bool, true, false, Option, Some, None, option_map, option_and_then, refl, sym, ap, ◌∙◌, ◌&&◌, filter, int_le, if◌then◌else◌, slice_get, length, get_or, vec_len, ap₂, arith}
use Rattle.std.specs.Option.{option_to_list}
use Rattle.std.proofs.lemmas.Option.{get_or_from_slice_get, slice_get_within}
use Rattle.std.specs.List.{last_or}
use Rattle.sqlite_keyed.proofs.ListLemmas.{filter-map}
use Rattle.bor_records.specs.declared.row.Row.{Row}
use Rattle.bor_records.specs.Admission.{is_closed, stated_status}
use Rattle.bor_records.specs.Snapshot.{is_dated, latest, unless_closed as row_unless_closed}
use Rattle.bor_records.specs.declared.links.node.Node.{Node}
use Rattle.bor_records.specs.Links.Series.{open_at, series}
use Rattle.bor_records.proofs.OnLinks.ByKey.{open_at_in, open_row_is}
use Rattle.bor_register.specs.Register.{Register, filings_of}
use Rattle.bor_store_sql.specs.declared.rows.typed.Placed.{Placed}
use Rattle.bor_store_sql.specs.declared.rows.typed.StatementRow.{StatementRow}
use Rattle.bor_store_sql.specs.Rows.Placed.{bare}
use Rattle.bor_store_sql.specs.Rows.Seen.{is_seen, row_placed}
use Rattle.bor_store_sql.specs.Rows.Stored.{IsStored}
use Rattle.bor_store_sql.specs.Selected.{in_series, placed_of}
use Rattle.bor_register.proofs.OnMemory.Lists.{last_before, last_map, last_passes}
use Rattle.bor_store_sql.proofs.OnRows.SeenPlaced.{filters_swap}
use Rattle.bor_store_sql.proofs.Picking.{filter_both}
use Rattle.sqlite.specs.State.{State}
use Rattle.bor_store_reads.specs.Answering.{ReadsAs}
use Rattle.bor_store_reads.proofs.Reading.{read_next, read_so}
use Rattle.bor_store_keys.specs.declared.view.View.{View}
use Rattle.bor_store_keys.specs.Latest.{bare_row, is_row_seen, stored_unless_closed}
use Rattle.bor_store_keys.specs.Viewed.{rows_seen}
use Rattle.bor_store_keys.proofs.SeriesSeen.{series_seen, Stands, stands}

-- ---- the latest one

filter_and : {X : Type 0} (p q : X → Bool) (xs : List X) → filter (λ x. p x && q x) xs ≡ filter p (filter q xs)
filter_and p q xs = filter_both p q xs ∙ filters_swap q p xs

module _ (view : View) (n : Node) (r : Register) (stored : IsStored r) where
  -- the last statement of the series that is seen and dated
  last_one : Option Placed
  last_one = last_or None (filter (λ p. int_le p.statement.day view.day) (filter (is_seen view.viewer view.today n.agent (filings_of n.agent r.members)) (in_series n.declaration n.rec (placed_of n.agent r))))

  latest_is : latest view.day (series n (rows_seen view r)) ≡ option_map row_placed last_one
  unfolding last_one
  latest_is =
      let ps : List Placed = filter (is_seen view.viewer view.today n.agent (filings_of n.agent r.members)) (in_series n.declaration n.rec (placed_of n.agent r)) in
      ap (latest view.day) (series_seen view.viewer view.today n r.members stored.ordered stored.numbered)
      ∙ ap (last_or None) (filter-map (is_dated view.day) row_placed ps)
      ∙ last_map row_placed None (filter (λ p. int_le p.statement.day view.day) ps)

  told_is : last_or None (filter (is_row_seen view n.agent (filings_of n.agent r.members)) (map bare (in_series n.declaration n.rec (placed_of n.agent r)))) ≡ option_map bare last_one
  unfolding last_one
  told_is =
      let told : StatementRow → Bool = is_row_seen view n.agent (filings_of n.agent r.members) in
      let ps : List Placed = in_series n.declaration n.rec (placed_of n.agent r) in
      ap (last_or None) (filter-map told bare ps)
      ∙ last_map bare None (filter (λ p. told (bare p)) ps)
      ∙ ap (λ l. option_map bare (last_or None l)) (filter_and (λ (p : Placed). int_le p.statement.day view.day) (is_seen view.viewer view.today n.agent (filings_of n.agent r.members)) ps)

  closed_alike : (o : Option Placed) → option_and_then stored_unless_closed (option_map bare o) ≡ option_map bare_row (option_and_then row_unless_closed (option_map row_placed o))
  closed_alike None = refl
  closed_alike (Some p) = go (is_closed (stated_status p.statement))
    where
      go : (b : Bool) → (if b then None else Some (bare p)) ≡ option_map bare_row (if b then None else Some (row_placed p))
      go true = refl
      go false = refl

  -- where the latest isn't closed
  pub opened : option_and_then stored_unless_closed (last_or None (filter (is_row_seen view n.agent (filings_of n.agent r.members)) (map bare (in_series n.declaration n.rec (placed_of n.agent r)))))
      ≡ option_map bare_row (open_at view.day n (rows_seen view r))
  opened = ap (option_and_then stored_unless_closed) told_is ∙ closed_alike last_one ∙ ap (λ o. option_map bare_row (option_and_then row_unless_closed o)) (sym latest_is)

  -- an open row stands somewhere
  pub opened_stands : (row : Row) → open_at view.day n (rows_seen view r) ≡ Some row → Stands r row
  opened_stands row e = stands view.viewer view.today r stored row (open_row_is view.day (rows_seen view r) row (open_at_in view.day n (rows_seen view r) row e).0).0

-- ---- the last row that is told

module _ (test : Register → StatementRow → Bool) (whole shown rest : List StatementRow) {old mid new : State} {rows : Vec StatementRow Global} {row : StatementRow} {end : Option StatementRow} {told : Bool}
    (before : ReadsAs old mid (Ok rows) (λ r left. last_or None (filter (test r) whole) ≡ last_or None (filter (test r) left.items))) (asked : ReadsAs mid new (Ok told) (λ r is. is ≡ test r row))
    (same : shown ≡ rows.items) (len : length shown ≡ vec_len rows) (last : Some row ≡ slice_get shown (length shown - 1)) (parts : rows.items ≡ rest ++ option_to_list end) (popped : (d : StatementRow) → 0 < vec_len rows → end ≡ Some (get_or rows.items (vec_len rows - 1) d)) where
  popped_last : (end ≡ Some row) × (rows.items ≡ rest ++ row ∷ [])
  popped_last =
      let is : slice_get rows.items (vec_len rows - 1) ≡ Some row = ap₂ (λ l n. slice_get l (n - 1)) (sym same) (sym len) ∙ sym last in
      let own = slice_get_within rows.items (vec_len rows - 1) row is in
      let e : end ≡ Some row = popped row (omega (arith, own, len, ap length same)) ∙ ap Some (get_or_from_slice_get rows.items (vec_len rows - 1) row row is) in
      (e, parts ∙ ap (λ o. rest ++ option_to_list o) e)

  -- the one behind the others is
  pub found_last : told ≡ true → ReadsAs old new (Ok end) (λ r last. last ≡ last_or None (filter (test r) whole))
  found_last is_told = read_so (read_next before asked) (λ r stored is. popped_last.0 ∙ last_passes (test r) rows.items rest row popped_last.1 (sym is.1 ∙ is_told) ∙ sym is.0)

  -- it isn't, so that the others are left
  pub passed_last : {more : Vec StatementRow Global} → more.items ≡ rest → told ≡ false → ReadsAs old new (Ok more) (λ r left. last_or None (filter (test r) whole) ≡ last_or None (filter (test r) left.items))
  passed_last same not_told = read_so (read_next before asked)
      (λ r stored is. is.0 ∙ last_before (test r) rows.items rest row popped_last.1 (sym is.1 ∙ not_told) ∙ ap (λ l. last_or None (filter (test r) l)) (sym same))
