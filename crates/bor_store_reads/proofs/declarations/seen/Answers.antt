use Rattle.std.proofs.Common.{◌≡◌, ◌∷◌, length, sym, ap, ◌∙◌, rules, arith}
use Rattle.std.specs.Vec.Iter.{into_iter_items}
use Rattle.sqlite.specs.Held.{state}
use Rattle.bor_register.specs.Register.{filings_of}
use Rattle.bor_store_sql.specs.Rows.Seen.{is_seen}
use Rattle.bor_store_reads.specs.Asking.{is_number_seen}
use Rattle.bor_store_sql.proofs.Finding.{nothing_read, read_on}
use Rattle.bor_store_reads.proofs.Declared.{next_seen, nothing_seen}
use Rattle.bor_store_reads.proofs.Found.{still_shows}
use Rattle.bor_store_reads.proofs.FoundFilings.{own_numbered}
use Rattle.bor_store_reads.proofs.Reading.{both_up, read_after, read_fails, same_up}
use Rattle.bor_store_reads.proofs.declarations.seen.Goals as goal

pub loop-placed-init : goal.loop-placed-init
loop-placed-init g c = record {
  whole = search rules;
  reads = nothing_read;
  up = same_up (state g.S.Store c.args.conn.now);
  told = λ clean r shows. nothing_seen c.args.viewer.now c.args.day c.args.agent.now (filings_of c.args.agent.now r.members) (own_numbered c.args.agent.now r.members shows.stored.numbered);
  found = search rules;
}

pub loop-placed-preserved : goal.loop-placed-preserved
loop-placed-preserved g c =
    let steps : into_iter_items c.loop-placed.placed-iterator ≡ c.in-Some.placed ∷ into_iter_items c.next.new.self = c.in-Some.ensures.steps.0 in
    record {
      whole = (let was = c.loop-placed.invariant.whole in let gone = c.in-Some.ensures.steps.1 in let short = ap length steps in omega arith);
      reads = read_on c.loop-placed.invariant.reads c.push_seen.ensures.reads.reads;
      up = both_up (state g.S.Store c.args.conn.now) (state g.S.Store c.loop-placed.conn) (state g.S.Store c.push_seen.new.conn) c.loop-placed.invariant.up c.push_seen.ensures.reads.reads.clean c.in_ok-known.ensures.reads.up;
      told = λ clean r shows.
          (let began = c.push_seen.ensures.reads.reads.began clean in
          let shown = still_shows r (state g.S.Store c.args.conn.now) (state g.S.Store c.loop-placed.conn) (c.loop-placed.invariant.reads.kept began) shows in
          c.in_ok-known.ensures.reads.answer clean r shown (c.loop-placed.invariant.told began r shows));
      found = λ clean r shows.
          (let began = c.push_seen.ensures.reads.reads.began clean in
          let own = filings_of c.args.agent.now r.members in
          let shown = still_shows r (state g.S.Store c.args.conn.now) (state g.S.Store c.loop-placed.conn) (c.loop-placed.invariant.reads.kept began) shows in
          let known = c.in_ok-known.ensures.reads.answer clean r shown (c.loop-placed.invariant.told began r shows) in
          next_seen (is_seen c.args.viewer.now c.args.day c.args.agent.now own) c.loop-placed.rows.items _ _ c.in-Some.placed _ (into_iter_items c.next.new.self) _ (c.loop-placed.invariant.found began r shows) steps
          (ap (is_number_seen c.args.viewer.now c.args.day c.args.agent.now own) (sym c.in_ok-known.ensures.number) ∙ sym known) c.in_ok-known.ensures.pushed);
    }

pub returns-in_err-known : goal.returns-in_err-known
returns-in_err-known g c = read_fails c.from_residual.ensures.1 (read_after c.loop-placed.invariant.reads c.loop-placed.invariant.up c.in_err-known.ensures.reads)
