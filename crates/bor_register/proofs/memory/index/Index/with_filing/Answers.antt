use Rattle.std.proofs.Common.{◌≡◌, ◌+◌, ◌++◌, ◌∷◌, [], List, take, arith, sym, ap, ◌∙◌, subst}
use Rattle.std.proofs.lemmas.List.{take_all, take_more, length-take-le}
use Rattle.bods_read.specs.declared.statement.Statement.{Statement}
use Rattle.bor_register.specs.Memory.Indexed.{IsGrown}
use Rattle.bor_register.proofs.OnMemory.Grown.{grown_none, grown_then}
use Rattle.bor_register.proofs.memory.index.Index.with_filing.Goals as goal

pub loop-i-init : goal.loop-i-init
loop-i-init c = grown_none c.args.agent.now c.args.filing 0 c.args.self

pub loop-i-preserved : goal.loop-i-preserved
loop-i-preserved c =
    let statements = c.args.statements.now in
    let i = c.loop-i.i in
    let s = c.index-statements-i.result in
    let more : take (i + 1) statements ≡ take i statements ++ s ∷ [] = take_more statements i s (omega arith) ∙ ap (λ (t : Statement). take i statements ++ t ∷ []) (sym c.index-statements-i.is) in
    subst (λ (ss : List Statement). IsGrown c.args.agent.now c.args.filing 0 ss c.args.self c.add.new.self) (sym more)
    (grown_then c.args.agent.now c.args.filing 0 i (take i statements) (s ∷ []) c.args.self c.loop-i.index c.add.new.self (omega (arith, length-take-le i statements (omega arith))) c.loop-i.invariant c.in_ok-add.ensures)

pub returns : goal.returns
returns c = subst (λ (ss : List Statement). IsGrown c.args.agent.now c.args.filing 0 ss c.args.self c.loop-i.index) (take_all c.loop-i.i c.args.statements.now (omega arith)) c.loop-i.invariant
