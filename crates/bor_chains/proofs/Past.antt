-- What is shown on a day, and the reports from it, are those of the rows that are dated by the day.
use Rattle.std.proofs.Common.{◌≡◌, ◌&&◌, ℤ, List, [], ◌∷◌, refl, sym, ap, ◌∙◌, subst, arith}
use Rattle.std.specs.List.{find, filter_map, list_any}
use Rattle.bor_records.specs.declared.row.Row.{Row}
use Rattle.bor_records.specs.Snapshot.{is_dated}
use Rattle.bor_records.specs.OpenRows.{is_beside, open_rows}
use Rattle.bor_records.specs.declared.links.node.Node.{Node}
use Rattle.bor_records.specs.Links.Series.{is_of, open_at}
use Rattle.bor_records.specs.Links.Shown.{Shown}
use Rattle.bor_records.specs.Links.Rows.{node_in, link_in, shown_of}
use Rattle.bor_records.proofs.OnLinks.Series.{open_are_latest}
use Rattle.bor_chains.specs.Chains.{AreJoined}
use Rattle.bor_chains.specs.Evidence.{AreEvidenced}
use Rattle.bor_chains.specs.Laws.{dated_by, LaterStatementsChangeNoPast}

-- whether a dated row of a series stands behind a row
later_same : (day : ℤ) (r : Row) (rows : List Row) → list_any (λ x. is_beside r x && is_dated day x) (dated_by day rows) ≡ list_any (λ x. is_beside r x && is_dated day x) rows
later_same day r [] = refl
later_same day r (x ∷ rows) = grind (arith, later_same day r rows)

open_same : (day : ℤ) (rows : List Row) → open_rows day (dated_by day rows) ≡ open_rows day rows
open_same day [] = refl
open_same day (r ∷ rows) = grind (arith, later_same day r rows, open_same day rows)

shown_by : (day : ℤ) (rows : List Row) → shown_of day (dated_by day rows) ≡ shown_of day rows
shown_by day rows = ap (λ (os : List Row). let s : Shown = record { nodes = filter_map node_in os; links = filter_map (link_in day (filter_map node_in os)) os } in s) (open_same day rows)

open_by : (day : ℤ) (n : Node) (rows : List Row) → open_at day n (dated_by day rows) ≡ open_at day n rows
open_by day n rows =
    sym (open_are_latest day n (dated_by day rows)) ∙ ap (λ (os : List Row). find (is_of n) os) (open_same day rows) ∙ open_are_latest day n rows

shown : (day : ℤ) (rows others : List Row) → dated_by day rows ≡ dated_by day others → shown_of day rows ≡ shown_of day others
shown day rows others e = sym (shown_by day rows) ∙ ap (λ (xs : List Row). shown_of day xs) e ∙ shown_by day others

pub later_statements_change_no_past : LaterStatementsChangeNoPast
later_statements_change_no_past = record {
  shown = shown;
  records = λ day n rows others e. sym (open_by day n rows) ∙ ap (λ (xs : List Row). open_at day n xs) e ∙ open_by day n others;
  reports = λ day rows others f lines e a. subst (λ (s : Shown). AreJoined s f lines) (shown day rows others e) a;
  evidence = λ day rows others f tree e a. subst (λ (s : Shown). AreEvidenced s f tree) (shown day rows others e) a;
}
