use Rattle.std.proofs.Common.{◌≡◌, ◌++◌, drop, Ok, filter_map}
use Rattle.sqlite.specs.Held.{state}
use Rattle.bor_store_reads.specs.Answering.{ReadsAs}
use Rattle.bor_store_keys.specs.Signed.{record_standing}
use Rattle.bor_store_keys.proofs.records.records_standing.Given as goal

-- the records so far and those of what is left are all
abbrev pub invariant-loop-row : goal.invariant-loop-row
invariant-loop-row g l = ReadsAs (state g.S.Store l.fn.lookup) (state g.S.Store l.lookup) (Ok l.records)
    (λ r records. records.items ++ filter_map (λ row. record_standing r.members row.at) (drop l.row-index l.rows) ≡ filter_map (λ row. record_standing r.members row.at) l.rows)
