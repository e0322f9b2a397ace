use Rattle.std.proofs.Common.{◌+◌, ◌∙◌, ◌<◌, [], ap, arith, false, inl, inr, refl, set, subst, sym, true, deque_capacity, deque_len}
use Rattle.bor_program.specs.Connections.Serving.{Unanswered}
use Rattle.bor_program.specs.Connections.Servers.{AreSeated, telling_in, pending_in}
use Rattle.bor_program.proofs.OnConnections.Places.{set_back}
use Rattle.bor_program.proofs.OnConnections.Servers.{lets_as, lets_one, lets_then_more}
use Rattle.bor_program.proofs.OnConnections.Streams.{unanswered_new}
use Rattle.bor_program.proofs.connections.server.Server.admit.Goals as goal

pub returns-in-Some-clause-lets : goal.returns-in-Some-clause-lets
returns-in-Some-clause-lets g c =
    let old = c.args.self.now in
    let seated = lets_as _ (telling_in old) (pending_in old) 0 old.status c.make_way.new.self c.seat.new.self c.make_way.ensures.lets c.seat.ensures.becomes in
    lets_then_more _ (telling_in old) (pending_in old) 1 0 0 old.status c.seat.new.self c.stay.new.self seated c.stay.ensures.lets

pub returns-in-None-clause-lets : goal.returns-in-None-clause-lets
returns-in-None-clause-lets g c =
    let old = c.args.self.now in
    let mid = c.seat.new.self in
    let seated = lets_as _ (telling_in old) (pending_in old) 0 old.status c.make_way.new.self mid c.make_way.ensures.lets c.seat.ensures.becomes in
    lets_then_more _ (telling_in old) (pending_in old) 1 0 0 old.status mid _ seated
    (lets_one _ [] (telling_in mid) (pending_in mid + 1) mid.status true _ seated.held
    (Unanswered [], unanswered_new g.S.Read.remaining c.args.stream, refl, refl, refl) refl refl refl)

pub stay-requires-clause-seated : goal.stay-requires-clause-seated
stay-requires-clause-seated g c =
    let way = c.make_way.new.self in
    let takes = c.in-Some.ensures.seats.0 in
    let back = sym (ap (λ t. set t c.in-Some.place false) takes.taken ∙ set_back way.seats.taken c.in-Some.place takes.free) in
    (takes.has, rw c.seat.ensures.becomes.queue (subst (λ t. AreSeated t way.queue.items) back c.make_way.ensures.seated))

pub returns-in-Some-clause-comes : goal.returns-in-Some-clause-comes
returns-in-Some-clause-comes g c = λ room.
    let way = c.make_way.new.self in
    let here = subst (λ q. deque_len q < deque_capacity q) (sym c.seat.ensures.becomes.queue) (c.make_way.ensures.room room) in
    inl (
      (
        c.seat.new.self.queue.items,
        _,
        c.stay.ensures.stays.room here,
        record {
          reading = c.new-reading.result;
          phase = refl;
          received = c.new-reading.ensures.nothing;
          timing = c.new.ensures;
        },
      ),
      c.in-Some.ensures.seats.1,
    )

pub returns-in-None-clause-comes : goal.returns-in-None-clause-comes
returns-in-None-clause-comes g c = λ room. elim c.in-None.ensures.seats.1 [
  | inl full ↦ absurd (omega (arith, full, c.make_way.ensures.free))
  | inr failed ↦ inr failed
]
