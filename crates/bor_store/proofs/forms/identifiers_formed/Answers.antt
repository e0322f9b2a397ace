use Rattle.std.proofs.Common.{All, arith, subst, take_all}
use Rattle.std.proofs.lemmas.List.Elements.{All-more}
use Rattle.bods_read.specs.Forms.{IsFormedIdentifier}
use Rattle.bor_store.proofs.forms.identifiers_formed.Goals as goal

pub loop-identifier-preserved : goal.loop-identifier-preserved
loop-identifier-preserved c =
    All-more IsFormedIdentifier c.args.identifiers.now c.loop-identifier.identifier-index c.identifier-item.result c.loop-identifier-test.true c.loop-identifier.invariant (subst IsFormedIdentifier c.identifier-item.is c.identifier_formed.ensures)

pub returns : goal.returns
returns c = subst (All IsFormedIdentifier) (take_all c.loop-identifier.identifier-index c.args.identifiers.now (omega (arith, c.loop-identifier-test.false))) c.loop-identifier.invariant
