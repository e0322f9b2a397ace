use Rattle.std.proofs.Common.{All, arith, subst, take_all}
use Rattle.std.proofs.lemmas.List.Elements.{All-more}
use Rattle.bods_read.specs.Forms.{IsFormedInterest}
use Rattle.bor_store.proofs.forms.interests_formed.Goals as goal

pub loop-interest-preserved : goal.loop-interest-preserved
loop-interest-preserved c =
    All-more IsFormedInterest c.args.interests.now c.loop-interest.interest-index c.interest-item.result c.loop-interest-test.true c.loop-interest.invariant (subst IsFormedInterest c.interest-item.is c.interest_formed.ensures)

pub returns : goal.returns
returns c = subst (All IsFormedInterest) (take_all c.loop-interest.interest-index c.args.interests.now (omega (arith, c.loop-interest-test.false))) c.loop-interest.invariant
