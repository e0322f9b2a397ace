-- The series that were seen among some rows; for clauses of private functions alone.
use Rattle.std.specs.Prelude.{◌≡◌, ℤ, List, Bool, ◌&&◌}
use Rattle.std.specs.List.{list_any}
use Rattle.std.specs.Ordering.{nat_cmp, ordering_then}
use Rattle.std.specs.declared.cmp.Ordering.{Ordering}
use Rattle.std.specs.Cmp.Lexicographic.{slice_cmp}
use Rattle.bor_terms.specs.Texts.{is_same}
use Rattle.bor_records.specs.declared.row.Row.{Row}
use Rattle.bor_records.specs.declared.series.Series.{Series}
use Rattle.bor_records.specs.Snapshot.{is_dated}

-- by record, then declaration, then agent, byte by byte
abbrev pub series_cmp : Series → Series → Ordering
series_cmp a b =
    ordering_then (slice_cmp nat_cmp a.rec.now b.rec.now) (ordering_then (slice_cmp nat_cmp
    a.declaration.now b.declaration.now) (slice_cmp nat_cmp a.agent.now b.agent.now))

-- The series that the row's statement is of.
pub record IsOf (series : Series) (r : Row) : Type 0 where
  pub agent : series.agent.now ≡ r.agent
  pub declaration : series.declaration.now ≡ r.statement.declaration
  pub rec : series.rec.now ≡ r.statement.rec

-- the row is of the series
abbrev pub is_in : Series → Row → Bool
is_in series r =
    is_same r.agent series.agent.now
    && (is_same r.statement.declaration series.declaration.now
    && is_same r.statement.rec series.rec.now)

-- whether a row that is dated is of the series
abbrev pub has_dated : ℤ → Series → List Row → Bool
has_dated day series rows = list_any (λ x. is_in series x && is_dated day x) rows
