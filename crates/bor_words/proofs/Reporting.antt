-- A value that doesn't fit behind a command doesn't fit among the words that are entered.
use Rattle.std.proofs.Common.{◌≡◌, List, Some, None, codes, sym, subst, bytes_eq}
use Rattle.std.proofs.lemmas.Option.{cond_some, none-some}
use Rattle.std.proofs.lemmas.Slice.Eq.{bytes_eq-Decides}
use Rattle.clap.specs.Words.{Row, Text}
use Rattle.bor_words.specs.declared.unread.Unread.{Unread}
use Rattle.bor_words.specs.Unread.{IsUnfitAmong}
use Rattle.bor_words.specs.Values.{exchange_values, init_values, report_values, serve_values, values_behind, values_of}
use Rattle.bor_words.specs.Words.{Entered, found_behind, entered_rows}

unfit_behind : (name : Text) (entered : Entered) (rows : List Row) (unread : Unread) → Some rows ≡ found_behind name entered
    → IsUnfitAmong rows (values_behind name rows) unread → IsUnfitAmong (entered_rows entered) (values_of entered) unread
unfit_behind name None rows unread found h = absurd (none-some rows (sym found))
unfit_behind name (Some e) rows unread found h =
    let is = cond_some (bytes_eq e.0 name) e.1 rows (sym found) in
    let named : e.0 ≡ name = (bytes_eq-Decides e.0 name).0 is.0 in
    subst (λ (found_rows : List Row). IsUnfitAmong found_rows (values_behind e.0 found_rows) unread) (sym is.1)
    (subst (λ (other : Text). IsUnfitAmong rows (values_behind other rows) unread) (sym named) h)

pub unfit_exchange : (entered : Entered) (rows : List Row) (unread : Unread) → Some rows ≡ found_behind (codes "exchange") entered
    → IsUnfitAmong rows (exchange_values rows) unread → IsUnfitAmong (entered_rows entered) (values_of entered) unread
unfit_exchange entered rows unread found h = unfit_behind (codes "exchange") entered rows unread found h

pub unfit_serve : (entered : Entered) (rows : List Row) (unread : Unread) → Some rows ≡ found_behind (codes "serve") entered
    → IsUnfitAmong rows (serve_values rows) unread → IsUnfitAmong (entered_rows entered) (values_of entered) unread
unfit_serve entered rows unread found h = unfit_behind (codes "serve") entered rows unread found h

pub unfit_report : (entered : Entered) (rows : List Row) (unread : Unread) → Some rows ≡ found_behind (codes "report") entered
    → IsUnfitAmong rows (report_values rows) unread → IsUnfitAmong (entered_rows entered) (values_of entered) unread
unfit_report entered rows unread found h = unfit_behind (codes "report") entered rows unread found h

pub unfit_init : (entered : Entered) (rows : List Row) (unread : Unread) → Some rows ≡ found_behind (codes "init") entered
    → IsUnfitAmong rows (init_values rows) unread → IsUnfitAmong (entered_rows entered) (values_of entered) unread
unfit_init entered rows unread found h = unfit_behind (codes "init") entered rows unread found h
