use Rattle.std.proofs.Common.{◌≡◌, ◌<◌, ◌+◌, ◌++◌, length, arith, refl, subst, remove}
use Rattle.bor_program.specs.Connections.Phases.{telling}
use Rattle.bor_program.specs.Connections.Servers.{Lets, pending_in, telling_in, telling_to}
use Rattle.bor_program.specs.Connections.Streams.{wire_of}
use Rattle.bor_program.proofs.OnConnections.Places.{seated_first}
use Rattle.bor_program.proofs.OnConnections.Servers.{lets_of, taken}
use Rattle.bor_program.proofs.connections.server.Server.turn_out.Goals as goal

pub give_up-requires-clause-held : goal.give_up-requires-clause-held
give_up-requires-clause-held g c =
    let t = taken _ c.args.self.now.queue.items c.longest_idle-index.result c.in-Some.client (omega (arith, c.in-Some.ensures.variant.0 refl, c.args.self.now.queue.ok.0)) c.in-Some.ensures.value c.requires.held in
    rw c.in-Some.ensures.items t.others

pub give_up-requires-clause-client : goal.give_up-requires-clause-client
give_up-requires-clause-client g c =
    let t = taken _ c.args.self.now.queue.items c.longest_idle-index.result c.in-Some.client (omega (arith, c.in-Some.ensures.variant.0 refl, c.args.self.now.queue.ok.0)) c.in-Some.ensures.value c.requires.held in
    t.own

pub returns-in-Some-clause-lets : goal.returns-in-Some-clause-lets
returns-in-Some-clause-lets g c =
    let old = c.args.self.now in
    let t = taken _ old.queue.items c.longest_idle-index.result c.in-Some.client (omega (arith, c.in-Some.ensures.variant.0 refl, c.args.self.now.queue.ok.0)) c.in-Some.ensures.value c.requires.held in
    let lets = rw c.in-Some.ensures.items at c.give_up.ensures.lets in
    let count : length (remove old.queue.items c.longest_idle-index.result) + old.left + 1 ≡ pending_in old = omega (arith, t.count) in
    lets_of _ (telling c.in-Some.client.phase ++ telling_to (remove old.queue.items c.longest_idle-index.result)) (telling_in old) (pending_in old) 0 old.status c.give_up.new.self t.once
    (subst (λ n. Lets (wire_of g.S.Read.remaining g.S.Write.contents) (telling c.in-Some.client.phase ++ telling_to (remove old.queue.items c.longest_idle-index.result)) n 0 old.status c.give_up.new.self) count lets)

pub returns-in-Some-clause-seated : goal.returns-in-Some-clause-seated
returns-in-Some-clause-seated g c =
    let old = c.args.self.now in
    let there : c.longest_idle-index.result < length old.queue.items = omega (arith, c.in-Some.ensures.variant.0 refl, old.queue.ok.0) in
    let first = seated_first old.seats.taken old.queue.items c.longest_idle-index.result c.in-Some.client there c.in-Some.ensures.value c.requires.seated in
    rw (c.give_up.ensures.leaves, c.give_up.ensures.queue, c.in-Some.ensures.items) first.1
