-- A map of rows by the identifiers of their records; for clauses of private functions alone.
use Rattle.std.specs.Prelude.{ℕ, List, Option, option_map}
use Rattle.std.specs.Borrow.{Bor}
use Rattle.std.specs.Ordering.{nat_cmp}
use Rattle.std.specs.Cmp.Lexicographic.{slice_cmp}
use Rattle.std.specs.BTreeMap as tree
use Rattle.std.specs.BTreeMap.{BTreeMap}
use Rattle.bor_records.specs.declared.row.Row.{Row}

-- the row that the map has at an identifier
abbrev pub found_at : BTreeMap (Bor (List ℕ)) (Bor Row) → List ℕ → Option Row
found_at found rec =
    option_map (λ (r : Bor Row). r.now)
    (tree.get_by (λ (k : Bor (List ℕ)). slice_cmp nat_cmp rec k.now) found)
