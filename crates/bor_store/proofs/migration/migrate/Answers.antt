use Rattle.std.proofs.Common.{◌∙◌, true≢false, sym}
use Rattle.std.proofs.lemmas.Result.{err_from_is_err_and}
use Rattle.sqlite.specs.Held.{state}
use Rattle.bor_store.proofs.Either.{still_first}
use Rattle.bor_store.proofs.Stored.{moved_to_itself}
use Rattle.bor_store.proofs.Judging.{move_made, move_refused, move_stayed, never_taken}
use Rattle.bor_store.proofs.Stopping.{after_read, only_read}
use Rattle.bor_store.proofs.migration.migrate.Goals as goal

pub returns-in_err-first-clause-judged : goal.returns-in_err-first-clause-judged
returns-in_err-first-clause-judged g c clean =
    let p = err_from_is_err_and c.from_residual.result c.from_residual.ensures.1 in
    rw (p.1, p.2) (move_refused _ (state g.S.Store c.args.conn.now) (state g.S.Store c.is_first.new.conn) c.in_err-first.field-0.0 (c.in_err-first.ensures.judged clean.0))

pub returns-then-not-first-clause-judged : goal.returns-then-not-first-clause-judged
returns-then-not-first-clause-judged g c clean =
    move_stayed (state g.S.Store c.args.conn.now) (state g.S.Store c.is_first.new.conn) c.in_ok-first.first _ c.if-not-first.true (c.in_ok-first.ensures.judged clean.0) (c.in_ok-first.ensures.reads.kept clean)

pub returns-then-not-first-clause-migrated : goal.returns-then-not-first-clause-migrated
returns-then-not-first-clause-migrated g c clean r shows = absurd (true≢false (sym (c.in_ok-first.ensures.first clean r shows) ∙ c.if-not-first.true))

pub returns-then-not-first-clause-legal : goal.returns-then-not-first-clause-legal
returns-then-not-first-clause-legal g c clean r shows legal = absurd (true≢false (sym (c.in_ok-first.ensures.first clean r shows) ∙ c.if-not-first.true))

pub returns-clause-taken : goal.returns-clause-taken
returns-clause-taken g c taken = never_taken _ c.move_first.result c.move_first.ensures.told taken

pub returns-clause-judged : goal.returns-clause-judged
returns-clause-judged g c clean =
    let began = c.move_first.ensures.commits.began clean in
    move_made (state g.S.Store c.args.conn.now) (state g.S.Store c.move_first.new.conn) c.in_ok-first.first c.move_first.result c.if-not-first.false (c.in_ok-first.ensures.judged began.0) c.move_first.ensures.told

pub returns-clause-unchanged : goal.returns-clause-unchanged
returns-clause-unchanged g c clean r shows =
    absurd (true≢false (sym c.if-not-first.false ∙ c.in_ok-first.ensures.second (c.move_first.ensures.commits.began clean) r shows))

pub returns-clause-migrated : goal.returns-clause-migrated
returns-clause-migrated g c clean r shows =
    let began = c.move_first.ensures.commits.began clean in
    let old = state g.S.Store c.args.conn.now in
    let mid = state g.S.Store c.is_first.new.conn in
    c.move_first.ensures.migrated clean r (still_first r old mid (c.in_ok-first.ensures.reads.kept began) shows)

pub returns-clause-legal : goal.returns-clause-legal
returns-clause-legal g c clean r shows legal = moved_to_itself r (state g.S.Store c.move_first.new.conn) c.move_first.result (returns-clause-migrated g c clean r shows) legal

pub returns-in_err-first-clause-stops : goal.returns-in_err-first-clause-stops
returns-in_err-first-clause-stops g c = only_read _ (state g.S.Store c.args.conn.now) (state g.S.Store c.is_first.new.conn) c.in_err-first.ensures.reads

pub returns-then-not-first-clause-stops : goal.returns-then-not-first-clause-stops
returns-then-not-first-clause-stops g c = only_read _ (state g.S.Store c.args.conn.now) (state g.S.Store c.is_first.new.conn) c.in_ok-first.ensures.reads

pub returns-clause-stops : goal.returns-clause-stops
returns-clause-stops g c =
    let old = state g.S.Store c.args.conn.now in
    let mid = state g.S.Store c.is_first.new.conn in
    let reads = c.in_ok-first.ensures.reads in
    after_read _ _ old mid (state g.S.Store c.move_first.new.conn) reads c.move_first.ensures.commits.clean
    (λ was trees made. (λ r shows legal. made r (still_first r old mid (reads.kept was) shows) legal, λ r shows. absurd (true≢false (sym c.if-not-first.false ∙ c.in_ok-first.ensures.second was r shows))))
    c.move_first.ensures.stops
