-- The row that an open record shows, and where it stands.
use Rattle.std.proofs.Common.{◌≡◌, map, append-nil, Option, Some, None, option_map, refl, sym, ap, ap₂, ◌∙◌, flat_map, List, slice_get}
use Rattle.std.proofs.lemmas.Option.{same_Some}
use Rattle.bor_records.specs.declared.row.Row.{Row}
use Rattle.bor_records.specs.declared.links.node.Node.{Node}
use Rattle.bor_records.specs.Links.Series.{open_at, series_of}
use Rattle.bor_register.specs.Register.{Register}
use Rattle.bor_store_sql.specs.declared.rows.typed.Placed.{Placed}
use Rattle.bor_store_sql.specs.declared.rows.typed.StatementRow.{StatementRow}
use Rattle.bor_store_sql.specs.declared.rows.typed.InterestRow.{InterestRow}
use Rattle.bor_store_sql.specs.declared.rows.typed.IdentifierRow.{IdentifierRow}
use Rattle.bor_store_sql.specs.Rows.Placed.{bare, with_lists, placed, interest_rows, identifier_rows}
use Rattle.bor_store_sql.specs.Rows.Seen.{row_placed}
use Rattle.bor_store_sql.specs.Rows.Stored.{IsStored}
use Rattle.bor_store_sql.proofs.OnRows.Joins.{back}
use Rattle.bor_store_sql.proofs.Alone.{IsAlone}
use Rattle.bor_store_keys.specs.declared.view.View.{View}
use Rattle.bor_store_keys.specs.Latest.{bare_row, listed_row}
use Rattle.bor_store_keys.specs.Viewed.{rows_seen}
use Rattle.bor_store_keys.proofs.SeriesSeen.{Stands}
use Rattle.bor_store_keys.proofs.OpenAt.{opened_stands}
use Rattle.bor_records.proofs.OnLinks.ByKey.{open_at_in}
use Rattle.bor_store_sql.specs.declared.rows.places.At.{At}
use Rattle.bor_store_keys.specs.Recorded.{placed_record}
use Rattle.bor_store_keys.specs.Signed.{record_standing}

-- the lists at a statement's place are its own
listed_placed : (r : Register) (p : Placed) → IsAlone (placed r.members) p → listed_row r.members (bare p) ≡ row_placed p
listed_placed r p alone =
    ap₂ (λ is ds. row_placed (with_lists (bare p) (map (λ (x : InterestRow). x.interest) is) (map (λ (x : IdentifierRow). x.identifier) ds)))
    (ap (flat_map interest_rows) alone ∙ append-nil (interest_rows p)) (ap (flat_map identifier_rows) alone ∙ append-nil (identifier_rows p))
    ∙ ap row_placed (back p)

module _ (view : View) (n : Node) (r : Register) (stored : IsStored r) where
  abbrev now : Option Row
  now = open_at view.day n (rows_seen view r)

  -- the row whose statement was found
  found_row : (o : Option Row) (row : StatementRow) → Some row ≡ option_map bare_row o → (full : Row) × (o ≡ Some full) × (row ≡ bare_row full)
  found_row None row e = let no : Some row ≡ None = e in absurd cc
  found_row (Some full) row e = (full, refl, same_Some row (bare_row full) e)

  module _ (row : StatementRow) (is : Some row ≡ option_map bare_row now) where
    found_placed : (p : Placed) × (row ≡ bare p) × (now ≡ Some (row_placed p)) × IsAlone (placed r.members) p
    found_placed =
        let f = found_row now row is in
        let s : Stands r f.0 = opened_stands view n r stored f.0 f.1 in
        (s.at, f.2 ∙ ap bare_row s.is, f.1 ∙ ap Some s.is, s.alone)

    -- with its lists it is what is open
    pub row_found : Some (listed_row r.members row) ≡ now
    row_found = let f = found_placed in ap (λ x. Some (listed_row r.members x)) f.1 ∙ ap Some (listed_placed r f.0 f.3) ∙ sym f.2

-- where it stands its record is found
abbrev at_of : Row → At
at_of row = record { agent = row.agent; filing = row.filing; place = row.place }

pub placed_there : (view : View) (n : Node) (r : Register) → IsStored r → (row : Row) → open_at view.day n (rows_seen view r) ≡ Some row → record_standing r.members (at_of row) ≡ Some n
placed_there view n r stored row e =
    let s : Stands r row = opened_stands view n r stored row e in
    ap (λ (x : Row). record_standing r.members (at_of x)) s.is
    ∙ ap (λ (ps : List Placed). option_map placed_record (slice_get ps 0)) s.alone
    ∙ ap Some (sym (ap series_of s.is) ∙ (open_at_in view.day n (rows_seen view r) row e).1)
