use Rattle.std.proofs.Common.{◌≡◌, ◌++◌, map, length, filter}
use Rattle.std.specs.Vec.Iter.{into_iter_items, into_iter_len}
use Rattle.sqlite.specs.Held.{state}
use Rattle.bor_register.specs.Register.{Register, filings_of}
use Rattle.bor_store_sql.specs.Rows.Seen.{is_seen, row_placed}
use Rattle.bor_store_sql.specs.Found.{ReadsOnly}
use Rattle.bor_store_sql.specs.Shown.{IsClean, ShowsIn, StaysUp}
use Rattle.bor_store_reads.specs.Asking.{IsKnown}
use Rattle.bor_store_reads.proofs.declarations.seen.Given as goal

-- what is there and what is left give what all give, what is known of a filing is so, and what is shown is as it was
abbrev pub invariant-loop-placed : goal.invariant-loop-placed
invariant-loop-placed g l = record {
  whole : into_iter_len l.placed-iterator ≡ length (into_iter_items l.placed-iterator);
  reads : ReadsOnly (state g.S.Store l.fn.conn) (state g.S.Store l.conn);
  up : StaysUp (state g.S.Store l.fn.conn) (state g.S.Store l.conn);
  told : IsClean (state g.S.Store l.conn) → (r : Register) → ShowsIn r (state g.S.Store l.fn.conn) → IsKnown l.viewer l.day l.agent (filings_of l.agent r.members) l.known;
  found : IsClean (state g.S.Store l.conn) → (r : Register) → ShowsIn r (state g.S.Store l.fn.conn)
      → l.rows.items ++ map row_placed (filter (is_seen l.viewer l.day l.agent (filings_of l.agent r.members)) (into_iter_items l.placed-iterator))
      ≡ map row_placed (filter (is_seen l.viewer l.day l.agent (filings_of l.agent r.members)) l.fn.statements.items);
}
