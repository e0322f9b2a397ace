use Rattle.std.proofs.Common.{◌≡◌, None, Ok, vec_len, filter}
use Rattle.std.specs.List.{last_or}
use Rattle.sqlite.specs.Held.{state}
use Rattle.bor_register.specs.Register.{filings_of}
use Rattle.bor_store_reads.specs.Answering.{ReadsAs}
use Rattle.bor_store_keys.specs.Latest.{is_row_seen}
use Rattle.bor_store_keys.proofs.latest.last_told.Given as goal

-- the last one is among those that are left
abbrev pub invariant-loop-row : goal.invariant-loop-row
invariant-loop-row g l = ReadsAs (state g.S.Store l.fn.lookup) (state g.S.Store l.lookup) (Ok l.rows) (λ r rows.
    last_or None (filter (is_row_seen l.view l.agent (filings_of l.agent r.members)) l.fn.rows.items)
    ≡ last_or None (filter (is_row_seen l.view l.agent (filings_of l.agent r.members)) rows.items))

abbrev pub decreases-loop-row : goal.decreases-loop-row
decreases-loop-row g l = vec_len l.rows
