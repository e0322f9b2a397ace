use Rattle.std.proofs.Common.{◌≡◌, ◌++◌, drop, Ok, flat_map}
use Rattle.sqlite.specs.Held.{state}
use Rattle.bor_store_reads.specs.Answering.{ReadsAs}
use Rattle.bor_store_reads.specs.Asking.{part_interests}
use Rattle.bor_store_reads.proofs.declarations.interests_of.Given as goal

-- what is there and what is left give what all give
abbrev pub invariant-loop-row : goal.invariant-loop-row
invariant-loop-row g l = ReadsAs (state g.S.Store l.fn.conn) (state g.S.Store l.conn) (Ok l.interests)
    (λ r found. found.items ++ flat_map (λ row. part_interests row.part row.at r.members) (drop l.row-index l.rows) ≡ flat_map (λ row. part_interests row.part row.at r.members) l.rows)
