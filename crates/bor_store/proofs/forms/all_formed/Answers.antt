use Rattle.std.proofs.Common.{All, arith, subst, take_all}
use Rattle.std.proofs.lemmas.List.Elements.{All-more}
use Rattle.bods_read.specs.Forms.{IsFormedStatement}
use Rattle.bor_store.proofs.forms.all_formed.Goals as goal

pub loop-statement-preserved : goal.loop-statement-preserved
loop-statement-preserved c =
    All-more IsFormedStatement c.args.statements.now c.loop-statement.statement-index c.statement-item.result c.loop-statement-test.true c.loop-statement.invariant (subst IsFormedStatement c.statement-item.is c.statement_formed.ensures)

pub returns : goal.returns
returns c = subst (All IsFormedStatement) (take_all c.loop-statement.statement-index c.args.statements.now (omega (arith, c.loop-statement-test.false))) c.loop-statement.invariant
