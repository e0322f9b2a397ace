use Rattle.std.proofs.Common.{arith}
use Rattle.std.proofs.lemmas.Result.{err_from_is_err_and}
use Rattle.sqlite.specs.Held.{state}
use Rattle.bor_store_sql.proofs.Finding.{read_on}
use Rattle.bor_store.proofs.Either.{still_lists}
use Rattle.bor_store.proofs.Lines.{line_gathered, line_failed}
use Rattle.bor_store.proofs.Judging.{failed_so}
use Rattle.bor_store.specs.Migrating.{LineSays, LinesSay}
use Rattle.bor_store.proofs.files.gather.Goals as goal

pub loop-line-preserved : goal.loop-line-preserved
loop-line-preserved g c = record {
  reads = read_on c.loop-line.invariant.reads c.add_line.ensures.reads;
  gathered = λ clean r shows.
      (let began = c.add_line.ensures.reads.began clean in
      let shown = still_lists r (state g.S.Store c.args.conn.now) (state g.S.Store c.loop-line.conn) (c.loop-line.invariant.reads.kept began) shows in
      line_gathered r.members c.args.lines.now c.loop-line.line-index c.line-item.result c.loop-line.days.items c.add_line.new.days.items (omega (arith, c.loop-line-test.true)) c.line-item.is (c.loop-line.invariant.gathered began r shows)
      (c.in_ok-add_line.ensures.gathered clean r shown));
}

pub returns-in_err-add_line-clause-gathered : goal.returns-in_err-add_line-clause-gathered
returns-in_err-add_line-clause-gathered g c clean r shows =
    let p = err_from_is_err_and c.from_residual.result c.from_residual.ensures.1 in
    let began = c.add_line.ensures.reads.began clean in
    let shown = still_lists r (state g.S.Store c.args.conn.now) (state g.S.Store c.loop-line.conn) (c.loop-line.invariant.reads.kept began) shows in
    failed_so (LinesSay r.members c.args.lines.now) (LineSays r.members c.line-item.result) c.in_err-add_line.field-0.0 c.from_residual.result p
    (line_failed r.members c.args.lines.now c.loop-line.line-index c.line-item.result (omega (arith, c.loop-line-test.true)) c.line-item.is) (c.in_err-add_line.ensures.gathered clean r shown)
