use Rattle.std.proofs.Common.{◌<◌, length, arith}
use Rattle.bor_program.specs.Connections.Servers.{idle_times}
use Rattle.bor_program.proofs.OnConnections.Servers.{as_idle, idle_at, longer_idle}
use Rattle.bor_program.proofs.connections.server.longest_idle.Goals as goal
use Rattle.bor_program.proofs.connections.server.longest_idle.Goals.{then-idle_nanos, else-idle_nanos}

pub loop-place-preserved : goal.loop-place-preserved
loop-place-preserved g c =
    let clients = c.args.queue.now.items in
    let times = idle_times clients in
    let longest = c.loop-place.longest in
    let place = c.loop-place.place in
    let there : place < length clients = omega (arith, c.loop-place-test.true, c.len-place-end.ensures, c.args.queue.now.ok.0) in
    let here = idle_at clients place c.index.result.now there c.index.ensures in
    let best = idle_at clients longest c.index-in-loop-place.result.now (omega (arith, there, c.loop-place.invariant.before)) c.index-in-loop-place.ensures in
    elim c.if-idle_nanos.branch [
      | then-idle_nanos w ↦ record {
        before = omega (arith, w.longest-is);
        longest = λ other lt.
            rw w.longest-is
            (longer_idle times longest place other c.loop-place.invariant.longest (omega (arith, here, best, c.idle_nanos.ensures, c.idle_nanos-in-loop-place.ensures, w.if-idle_nanos.true)) lt);
      }
      | else-idle_nanos w ↦ record {
        before = omega (arith, w.longest-is, c.loop-place.invariant.before);
        longest = λ other lt.
            rw w.longest-is
            (as_idle times longest place other c.loop-place.invariant.longest (omega (arith, here, best, c.idle_nanos.ensures, c.idle_nanos-in-loop-place.ensures, w.if-idle_nanos.false)) lt);
      }
    ]
