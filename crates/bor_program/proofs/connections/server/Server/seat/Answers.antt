use Rattle.std.proofs.Common.{◌≡◌, ◌∙◌, ap, arith, false, inr, is_err, set, subst, true}
use Rattle.std.proofs.lemmas.Grind.{common_steps}
use Rattle.bor_program.specs.Connections.Watching.{Watches}
use Rattle.bor_program.proofs.OnConnections.Places.{set_back}
use Rattle.bor_program.proofs.OnConnections.Watching.{does_none, does_watches}
use Rattle.bor_program.proofs.connections.server.Server.seat.Goals as goal

pub returns-in_err-place-clause-does : goal.returns-in_err-place-clause-does
returns-in_err-place-clause-does g c = does_none g.W.Watch.does c.args.watch.now

pub returns-then-is_ok-clause-does : goal.returns-then-is_ok-clause-does
returns-then-is_ok-clause-does g c = does_watches g.W.Watch.does c.args.watch.now c.watch.new.self _ c.watch.ensures

pub returns-clause-does : goal.returns-clause-does
returns-clause-does g c = does_watches g.W.Watch.does c.args.watch.now c.watch.new.self _ c.watch.ensures

pub returns-clause-seats : goal.returns-clause-seats
returns-clause-seats g c =
    let takes = c.in_ok-place.ensures in
    let failed : is_err c.watch.result ≡ true = grind (arith, common_steps) in (
      c.leave.ensures ∙ ap (λ l. set l c.in_ok-place.place false) takes.taken ∙ set_back c.args.self.now.seats.taken c.in_ok-place.place takes.free,
      inr (subst (λ b. g.W.Watch.does c.args.watch.now (Watches b) c.watch.new.self) failed c.watch.ensures),
    )
