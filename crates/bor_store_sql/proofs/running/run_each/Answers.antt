use Rattle.std.proofs.Common.{map, inl, inr, Ok, refl, sym, subst, ◌∙◌}
use Rattle.std.proofs.lemmas.List.{drop_all, drop_more}
use Rattle.sqlite.specs.Values.{bound}
use Rattle.bor_store_sql.specs.Ran.{RanInTurn}
use Rattle.bor_store_sql.proofs.running.run_each.Goals as goal

pub returns-in_err-run-clause-ran : goal.returns-in_err-run-clause-ran
returns-in_err-run-clause-ran g c = record {
  in_turn = (
      c.loop-sql.invariant.on _ _ (subst (λ xs. RanInTurn g.S.Store (map (λ x. x.now) xs) (bound c.args.params.now) c.loop-sql.tx.conn.now c.run.new.tx.conn.now c.from_residual.result) (sym (drop_more c.args.texts.now c.loop-sql.sql-index _ c.loop-sql-test.true)) (inr (_, c.in_err-run.ensures.ran, c.from_residual.ensures.0))));
}

pub loop-sql-preserved : goal.loop-sql-preserved
loop-sql-preserved g c =
    record {
      same_reference = c.in_ok-run.ensures.same_reference ∙ c.loop-sql.invariant.same_reference;
      on = λ new result h. c.loop-sql.invariant.on new result (subst (λ xs. RanInTurn g.S.Store (map (λ x. x.now) xs) (bound c.args.params.now) c.loop-sql.tx.conn.now new result) (sym (drop_more c.args.texts.now c.loop-sql.sql-index _ c.loop-sql-test.true)) (inl (_, c.in_ok-run.ensures.ran, h)));
    }

pub returns-clause-ran : goal.returns-clause-ran
returns-clause-ran g c = record { in_turn = c.loop-sql.invariant.on _ _ (subst (λ xs. RanInTurn g.S.Store (map (λ x. x.now) xs) (bound c.args.params.now) c.loop-sql.tx.conn.now c.loop-sql.tx.conn.now (Ok (tt {0}))) (sym (drop_all c.loop-sql.sql-index c.args.texts.now c.loop-sql-test.false)) (refl, refl)) }
