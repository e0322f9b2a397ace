use Rattle.std.proofs.Common.{◌<◌, false, inl, inr, true, ◌∷◌, ◌+◌, ◌-◌, [], ℕ, arith, ap, length, refl, subst, sym, deque_capacity, deque_len}
use Rattle.std.proofs.lemmas.Grind.{common_steps}
use Rattle.bor_program.specs.Connections.Servers.{AreHeld, pending_in, telling_in, telling_to}
use Rattle.bor_program.specs.Connections.Streams.{wire_of}
use Rattle.bor_program.specs.Connections.Watching.{Accepts, Nobody, Refused, Somebody, Watches}
use Rattle.bor_program.proofs.OnConnections.Servers.{lets_absent, lets_from, lets_kept}
use Rattle.bor_program.proofs.OnConnections.Watching.{does_accepts, does_none, does_then}
use Rattle.bor_program.proofs.connections.server.Server.let_one_in.Goals as goal

pub returns-then-is_err-clause-lets : goal.returns-then-is_err-clause-lets
returns-then-is_err-clause-lets g c = record {
  refused = 0;
  done = does_none g.W.Watch.does c.args.watch.now;
  lets = lets_kept _ c.args.self.now _ c.requires.held c.reserve.ensures.items refl refl;
}

pub returns-in-Ok-Some-clause-lets : goal.returns-in-Ok-Some-clause-lets
returns-in-Ok-Some-clause-lets g c =
    let old = c.args.self.now in
    let items = c.reserve.ensures.items in
    let less : ℕ = length c.reserve.new.self.items + (old.left - 1) + 1 in
    record {
      refused = 0;
      done = does_then g.W.Watch.does c.args.watch.now c.accept.new.self c.admit.new.watch 0 0 [] [] (does_accepts g.W.Watch.does c.args.watch.now c.accept.new.self Somebody (rw c.in-Ok-Some.field-0-is at c.in-Ok-Some.ensures)) c.admit.ensures.does;
      lets =
          lets_from _ (telling_to c.reserve.new.self.items) (telling_in old) less (pending_in old) 0 old.status c.admit.new.self
          (ap telling_to items) (omega (arith, ap length items, c.requires.some)) c.admit.ensures.lets;
    }

pub returns-in-Ok-None-clause-lets : goal.returns-in-Ok-None-clause-lets
returns-in-Ok-None-clause-lets g c = record {
  refused = 0;
  done = does_accepts g.W.Watch.does c.args.watch.now c.accept.new.self Nobody (rw c.in-Ok-None.field-0-is at c.in-Ok-None.ensures);
  lets = lets_kept _ c.args.self.now _ c.requires.held c.reserve.ensures.items refl refl;
}

pub returns-in-Err-clause-lets : goal.returns-in-Err-clause-lets
returns-in-Err-clause-lets g c =
    let old = c.args.self.now in
    let items = c.reserve.ensures.items in
    record {
      refused = 1;
      done = does_accepts g.W.Watch.does c.args.watch.now c.accept.new.self Refused c.in-Err.ensures;
      lets =
          lets_absent _ (telling_in old) (pending_in old) old.status _ (subst (AreHeld (wire_of g.S.Read.remaining g.S.Write.contents)) (sym items) c.requires.held)
          (ap telling_to items) (omega (arith, ap length items, c.requires.some)) refl;
    }

pub returns-then-is_err-clause-comes : goal.returns-then-is_err-clause-comes
returns-then-is_err-clause-comes g c = record { acts = []; done = refl; comes = λ is. cc }

pub returns-in-Ok-None-clause-comes : goal.returns-in-Ok-None-clause-comes
returns-in-Ok-None-clause-comes g c =
    record { acts = Accepts Nobody ∷ []; done = (c.accept.new.self, rw c.in-Ok-None.field-0-is at c.in-Ok-None.ensures, refl); comes = λ is. cc }

pub returns-in-Err-clause-comes : goal.returns-in-Err-clause-comes
returns-in-Err-clause-comes g c =
    record { acts = Accepts Refused ∷ []; done = (c.accept.new.self, c.in-Err.ensures, refl); comes = λ is. cc }

pub returns-in-Ok-Some-clause-comes : goal.returns-in-Ok-Some-clause-comes
returns-in-Ok-Some-clause-comes g c =
    let came = rw c.in-Ok-Some.field-0-is at c.in-Ok-Some.ensures in
    let queue = c.reserve.new.self in
    let room : deque_len queue < deque_capacity queue = grind (arith, common_steps) in
    elim (c.admit.ensures.comes room) [
      | inl new ↦ record { acts = Accepts Somebody ∷ Watches false ∷ []; done = (c.accept.new.self, came, (c.admit.new.watch, new.1, refl)); comes = λ came watched. new.0 }
      | inr failed ↦ record { acts = Accepts Somebody ∷ Watches true ∷ []; done = (c.accept.new.self, came, (c.admit.new.watch, failed, refl)); comes = λ came watched. cc }
    ]

pub returns-then-is_err-clause-asks : goal.returns-then-is_err-clause-asks
returns-then-is_err-clause-asks g c = λ room.
    let queue = c.args.self.now.queue in
    let full : deque_capacity queue < deque_len queue + 1 = grind (arith, common_steps) in
    absurd (omega (arith, full, room))

pub returns-in-Ok-Some-clause-asks : goal.returns-in-Ok-Some-clause-asks
returns-in-Ok-Some-clause-asks g c = λ room.
    let came = rw c.in-Ok-Some.field-0-is at c.in-Ok-Some.ensures in
    let more = c.admit.ensures.does in
    record { acts = Accepts Somebody ∷ more.acts; done = (c.accept.new.self, came, more.done); asks = refl }

pub returns-in-Ok-None-clause-asks : goal.returns-in-Ok-None-clause-asks
returns-in-Ok-None-clause-asks g c = λ room.
    record { acts = Accepts Nobody ∷ []; done = (c.accept.new.self, rw c.in-Ok-None.field-0-is at c.in-Ok-None.ensures, refl); asks = refl }

pub returns-in-Err-clause-asks : goal.returns-in-Err-clause-asks
returns-in-Err-clause-asks g c = λ room.
    record { acts = Accepts Refused ∷ []; done = (c.accept.new.self, c.in-Err.ensures, refl); asks = refl }
