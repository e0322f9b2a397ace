use Rattle.std.proofs.Common.{◌∙◌}
use Rattle.std.proofs.lemmas.Result.{err_from_is_err_and}
use Rattle.sqlite.specs.Held.{state}
use Rattle.bor_store_sql.proofs.Finding.{of_first}
use Rattle.bor_store.proofs.Either.{still_first}
use Rattle.bor_store.proofs.Judging.{read_failed, read_told}
use Rattle.bor_store.proofs.Stopping.{moves_legal, only_read}
use Rattle.bor_store.proofs.migration.move_first.Goals as goal

pub returns-in_err-days-clause-told : goal.returns-in_err-days-clause-told
returns-in_err-days-clause-told g c =
    let p = err_from_is_err_and c.from_residual.result c.from_residual.ensures.1 in
    rw (p.1, p.2) (read_told c.in_err-days.field-0.0)

pub returns-in_err-days-clause-migrated : goal.returns-in_err-days-clause-migrated
returns-in_err-days-clause-migrated g c clean r shows =
    let p = err_from_is_err_and c.from_residual.result c.from_residual.ensures.1 in
    rw (p.1, p.2) (read_failed (Unit {0}) r (state g.S.Store c.days_in_files.new.conn) c.in_err-days.field-0.0 (c.in_err-days.ensures.gathered clean r (of_first r (state g.S.Store c.args.conn.now) shows)))

pub returns-clause-migrated : goal.returns-clause-migrated
returns-clause-migrated g c clean r shows =
    let old = state g.S.Store c.args.conn.now in
    let mid = state g.S.Store c.days_in_files.new.conn in
    let began = c.move_tables.ensures.commits.began clean in
    let says = c.in_ok-days.ensures.gathered began r (of_first r old shows) in
    let shown = still_first r old mid (c.in_ok-days.ensures.reads.kept began) shows in
    (c.in_ok-days.days.items, says, λ same. c.in_ok-move_tables.ensures.made clean r shown (c.as_slice.ensures.value ∙ same))

pub returns-in_err-days-clause-stops : goal.returns-in_err-days-clause-stops
returns-in_err-days-clause-stops g c = only_read _ (state g.S.Store c.args.conn.now) (state g.S.Store c.days_in_files.new.conn) c.in_err-days.ensures.reads

pub returns-in_err-move_tables-clause-stops : goal.returns-in_err-move_tables-clause-stops
returns-in_err-move_tables-clause-stops g c = moves_legal (state g.S.Store c.args.conn.now) (state g.S.Store c.days_in_files.new.conn) (state g.S.Store c.move_tables.new.conn) c.in_ok-days.days.items c.as_slice.result.now c.as_slice.ensures.value c.in_ok-days.ensures.reads c.in_ok-days.ensures.gathered c.in_err-move_tables.ensures.commits.clean c.in_err-move_tables.ensures.stops

pub returns-clause-stops : goal.returns-clause-stops
returns-clause-stops g c = moves_legal (state g.S.Store c.args.conn.now) (state g.S.Store c.days_in_files.new.conn) (state g.S.Store c.move_tables.new.conn) c.in_ok-days.days.items c.as_slice.result.now c.as_slice.ensures.value c.in_ok-days.ensures.reads c.in_ok-days.ensures.gathered c.in_ok-move_tables.ensures.commits.clean c.in_ok-move_tables.ensures.stops
