use Rattle.std.proofs.Common.{◌∙◌, [], arith, inl, inr, refl, subst, sym}
use Rattle.std.proofs.lemmas.Bool.{cases_lt}
use Rattle.bor_program.specs.Connections.Servers.{AsksWhoComes, HasRoom, IsNobodyToCome}
use Rattle.bor_program.proofs.OnConnections.Running.{asks_on, lets_in_same, lets_in_then}
use Rattle.bor_program.proofs.connections.server.Server.let_in.Goals as goal
use Rattle.bor_program.proofs.connections.server.Server.let_in.Goals.{then-self-eq0-via-then-self-eq0, then-self-eq0-via-else-self-eq0+then-not-is_called}

pub loop-init : goal.loop-init
loop-init g c =
    record { lets = lets_in_same g.W.Watch.does c.args.watch.now _ c.args.self.now c.requires.held; rest = record { service = refl; limits = refl; wait = refl }; first = λ is. (refl, refl); asks = λ lt. absurd (omega (arith, lt)); seated = c.requires.seated }

pub loop-preserved : goal.loop-preserved
loop-preserved g c = record {
  lets =
      lets_in_then g.W.Watch.does c.args.watch.now c.loop.watch c.let_one_in.new.watch _ c.args.self.now c.loop.self c.let_one_in.new.self c.loop.invariant.lets
      c.let_one_in.ensures.lets;
  rest = record {
    service = c.let_one_in.ensures.rest.service ∙ c.loop.invariant.rest.service;
    limits = c.let_one_in.ensures.rest.limits ∙ c.loop.invariant.rest.limits;
    wait = c.let_one_in.ensures.rest.wait ∙ c.loop.invariant.rest.wait;
  };
  first = λ is. absurd (omega (arith, is));
  asks = λ some room. elim (cases_lt 0 c.loop.counter) [
    | inl later ↦ asks_on g.W.Watch.does c.args.watch.now c.loop.watch c.let_one_in.new.watch c.let_one_in.ensures.lets.refused [] (c.loop.invariant.asks later room) c.let_one_in.ensures.lets.done
    | inr now ↦
        let same = c.loop.invariant.first (omega (arith, now)) in
        subst (λ w. AsksWhoComes (record { does = g.W.Watch.does; begun = w; ended = c.let_one_in.new.watch })) same.1 (c.let_one_in.ensures.asks (subst HasRoom (sym same.0) room))
  ];
  seated = c.let_one_in.ensures.seated;
}

pub returns-then-self-eq0-clause-asks : goal.returns-then-self-eq0-clause-asks
returns-then-self-eq0-clause-asks g c = λ some room. elim (cases_lt 0 c.loop.counter) [
  | inl later ↦ c.loop.invariant.asks later room
  | inr now ↦
      let same = c.loop.invariant.first (omega (arith, now)) in
      absurd (some (subst IsNobodyToCome same.0 (elim c.then-self-eq0.branch [
        | then-self-eq0-via-then-self-eq0 w ↦ inl w.if-self-eq0.true
        | then-self-eq0-via-else-self-eq0+then-not-is_called w ↦ inr (sym w.is_called.ensures ∙ w.if-not-is_called.true)
      ])))
]

pub returns-clause-asks : goal.returns-clause-asks
returns-clause-asks g c = λ some room. c.loop.invariant.asks (omega (arith, c.loop-test.false)) room
