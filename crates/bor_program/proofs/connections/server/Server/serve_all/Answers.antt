use Rattle.std.proofs.Common.{◌≡◌, ◌-◌, ◌++◌, [], ap, arith, drop, length, take, refl, subst, sym, ◌∙◌, length-drop}
use Rattle.std.proofs.Math.Seq.{take-length}
use Rattle.std.proofs.lemmas.List.{nil_from_length}
use Rattle.std.proofs.lemmas.List.Elements.{All-nil}
use Rattle.bor_program.specs.Connections.Servers.{AllRemain, AreWaitedFor}
use Rattle.bor_program.proofs.OnConnections.Remaining.{remain_turn}
use Rattle.bor_program.proofs.OnConnections.Waits.{at_once, first_patient, once_found, waiting_none, waiting_then}
use Rattle.bor_program.proofs.connections.server.Server.serve_all.Goals as goal

pub loop-preserved : goal.loop-preserved
loop-preserved g c = record {
  held = c.serve_next.ensures.held;
  seated = c.serve_next.ensures.seated;
  waits =
      waiting_then c.args.now c.args.self.now.queue.items c.loop.counter _ c.loop.self c.serve_next.new.self
      (omega (arith, c.loop-test.true, c.len-end.ensures, c.args.self.now.queue.ok.0)) c.loop.invariant.waits c.serve_next.ensures.waits;
  named = λ place free. c.serve_next.ensures.named place (c.loop.invariant.named place free);
  remain = λ at is.
      remain_turn c.args.now at c.args.self.now _ c.loop.self c.serve_next.new.self c.loop.counter (omega (arith, c.loop-test.true, c.len-end.ensures, c.args.self.now.queue.ok.0)) is refl c.loop.invariant.waits
      c.serve_next.ensures.waits c.loop.invariant.named c.serve_next.ensures.remains (c.loop.invariant.remain at is);
  advances = λ start connections absent noted before. c.serve_next.ensures.advances start connections absent noted (c.loop.invariant.advances start connections absent noted before);
}

pub loop-init : goal.loop-init
loop-init g c = record {
  held = c.requires.held;
  seated = c.requires.seated;
  waits = waiting_none c.args.now c.args.self.now.queue.items _ _ refl refl refl;
  named = λ place free. free;
  remain = λ at is. All-nil _;
  advances = λ start connections absent noted before. before;
}

pub returns-clause-waits : goal.returns-clause-waits
returns-clause-waits g c =
    let waits = c.loop.invariant.waits in
    let items = c.args.self.now.queue.items in
    let none : drop c.loop.counter items ≡ [] = nil_from_length _ (omega (arith, length-drop c.loop.counter items, c.loop-test.false, c.len-end.ensures, c.args.self.now.queue.ok.0)) in
    subst (AreWaitedFor c.args.self.now.limits c.args.now c.loop.self.wait) (sym (waits.queue ∙ ap (λ l. l ++ waits.clients) none)) waits.waited

pub returns-clause-comes : goal.returns-clause-comes
returns-clause-comes g c = λ some. at_once _ c.loop.self.wait c.loop.invariant.waits.wait (once_found _ _ c.wait_to_come-self.ensures some)

pub returns-clause-limits : goal.returns-clause-limits
returns-clause-limits g c = c.loop.invariant.waits.limits

pub returns-clause-patient : goal.returns-clause-patient
returns-clause-patient g c = c.loop.invariant.waits.patient (first_patient c.args.self.now.limits _ _ c.wait_to_come-self.ensures)

pub returns-clause-remain : goal.returns-clause-remain
returns-clause-remain g c = λ at is.
    let old = c.args.self.now in
    let items = old.queue.items in
    let all : c.loop.counter ≡ length items = omega (arith, c.loop-test.false, c.loop.auto.counter-end, c.len-end.ensures, old.queue.ok.0) in
    let none : length items - c.loop.counter ≡ 0 = omega (arith, all) in
    let whole : take c.loop.counter items ≡ items = ap (λ n. take n items) all ∙ take-length items in
    subst (λ l. AllRemain at old l c.loop.self.queue.items) whole (subst (λ n. AllRemain at old (take c.loop.counter items) (drop n c.loop.self.queue.items)) none (c.loop.invariant.remain at is))
