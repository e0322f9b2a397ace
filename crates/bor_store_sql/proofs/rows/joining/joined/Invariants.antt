use Rattle.std.proofs.Common.{◌≡◌, List, map, length, flat_map}
use Rattle.std.specs.Vec.Iter.{into_iter_items, into_iter_len}
use Rattle.bor_store_sql.specs.declared.rows.typed.Placed.{Placed}
use Rattle.bor_store_sql.specs.Rows.Placed.{bare, interest_rows, identifier_rows, AreApart}
use Rattle.bor_store_sql.proofs.OnRows.Joins.{Left}
use Rattle.bor_store_sql.proofs.rows.joining.joined.Given as goal

-- the rest of the lists are those of the statements that are left
abbrev pub invariant-loop-row : goal.invariant-loop-row
invariant-loop-row l =
    (into_iter_len l.row-iterator ≡ length (into_iter_items l.row-iterator))
    × ((ps : List Placed) → AreApart ps → l.fn.statements.items ≡ map bare ps → l.interests_sorted ≡ flat_map interest_rows ps → l.identifiers_sorted ≡ flat_map identifier_rows ps
    → Left ps l.placed.items (into_iter_items l.row-iterator) l.interests_left l.identifiers_left)
