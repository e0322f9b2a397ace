use Rattle.std.proofs.Common.{◌≡◌, ◌∙◌, ◌+◌, ◌++◌, ap, false, subst, sym}
use Rattle.bor_program.specs.Connections.Phases.{ReadsOn, telling}
use Rattle.bor_program.specs.Connections.Serving.{Tally}
use Rattle.bor_program.specs.Connections.Servers.{pending_in, tally_in, telling_in}
use Rattle.bor_program.specs.Connections.Times.{IsBegun, IsOverdue, IsTaking, IsTimeUp, moves_of, taking_once_read, turns_of}
use Rattle.bor_program.proofs.OnConnections.Phases.{reads_then}
use Rattle.bor_program.proofs.OnConnections.Servers.{lets_go_same}
use Rattle.bor_program.proofs.OnConnections.Remaining.{names_none}
use Rattle.bor_program.proofs.connections.server.Server.serve.Goals as goal

pub returns-in-Goes-clause-serves : goal.returns-in-Goes-clause-serves
returns-in-Goes-clause-serves g c = λ start connections absent noted before.
    let old = c.args.self.now in
    let tally : Tally = record (tally_in connections absent noted old) { pending = pending_in old + 1; notes = noted ++ c.steps.new.service.notes.items } in
    lets_go_same _ _ start c.steps.new.keep (telling c.in-Goes.phase ++ telling_in old) tally noted c.go_on.new.self
    (c.in-Goes.ensures.step start (telling_in old) tally noted (rw c.look-phase.ensures.tells before)) c.go_on.ensures.lets
    (ap (λ s. noted ++ s.notes.items) (sym c.go_on.ensures.service))

pub returns-in-Ends-clause-serves : goal.returns-in-Ends-clause-serves
returns-in-Ends-clause-serves g c = λ start connections absent noted before.
    let old = c.args.self.now in
    let tally : Tally = record (tally_in connections absent noted old) { pending = pending_in old + 1; notes = noted ++ c.steps.new.service.notes.items } in
    lets_go_same _ _ start c.steps.new.keep (telling c.in-Ends.phase ++ telling_in old) tally noted c.give_up.new.self
    (c.in-Ends.ensures.step start (telling_in old) tally noted (rw c.look-phase.ensures.tells before)) c.give_up.ensures.lets
    (ap (λ s. noted ++ s.notes.items) (sym c.give_up.ensures.rest.service))

pub returns-in-Goes-clause-time : goal.returns-in-Goes-clause-time
returns-in-Goes-clause-time g c = λ last is.
    let taking = taking_once_read c.args.client.phase c.args.now in
    subst (IsTaking taking) (sym (c.go_on.ensures.time.same last is)) (c.in-Goes.ensures.time taking c.look-phase.ensures.time)

pub returns-in-Goes-clause-all : goal.returns-in-Goes-clause-all
returns-in-Goes-clause-all g c = λ last is.
    let remaining = g.S.Read.remaining in
    let old = c.args.client.phase in
    subst (ReadsOn remaining old) (sym (c.go_on.ensures.time.same last is)) (reads_then remaining old c.look-phase.result c.in-Goes.phase c.look-phase.ensures.all c.in-Goes.ensures.all)

pub returns-in-Goes-clause-begun : goal.returns-in-Goes-clause-begun
returns-in-Goes-clause-begun g c = λ last is.
    let since = c.steps.new.timing.since in
    let client = c.args.client in
    let stepped : IsBegun (turns_of client.phase) (turns_of c.in-Goes.phase) client.timing.since since =
    rw (sym c.look-phase.ensures.on, sym c.rouse.ensures.begun) c.in-Goes.ensures.begun in
    (since, subst (λ p. IsBegun (turns_of client.phase) (turns_of p) client.timing.since since) (sym (c.go_on.ensures.time.same last is)) stepped, c.go_on.ensures.time.begun last is)

pub returns-in-Goes-clause-remains : goal.returns-in-Goes-clause-remains
returns-in-Goes-clause-remains g c = λ still due room.
    let limits = c.args.self.now.limits in
    let client = c.args.client in
    let now = c.args.now in
    let timing = c.steps.new.timing in
    let quiet : c.rouse.new.self.is_ready ≡ false = rw (still.0, still.1) at c.rouse.ensures.ready in
    let stay = c.steps.ensures.still quiet in
    let here : c.in-Goes.phase ≡ c.look-phase.result = cc (c.in-Goes.is, stay.0) in
    let since : timing.since ≡ client.timing.since = ap (λ t. t.since) stay.1 ∙ c.rouse.ensures.begun in
    let kept =
    c.go_on.ensures.time.stays
    (λ up. due (subst (λ s. IsOverdue limits s client.phase now) since (c.look-phase.ensures.due limits timing (subst (λ p. IsTimeUp limits timing p now) here up)))) room in
    (kept.0, kept.1, c.go_on.ensures.time.place kept.0 kept.1, ap moves_of (c.go_on.ensures.time.same kept.0 kept.1) ∙ ap moves_of here ∙ c.look-phase.ensures.same)

pub returns-in-Ends-clause-remains : goal.returns-in-Ends-clause-remains
returns-in-Ends-clause-remains g c = λ still due room.
    let quiet : c.rouse.new.self.is_ready ≡ false = rw (still.0, still.1) at c.rouse.ensures.ready in
    let stay = c.steps.ensures.still quiet in
    cc (c.in-Ends.is, stay.0)

pub returns-in-Goes-clause-named : goal.returns-in-Goes-clause-named
returns-in-Goes-clause-named g c =
    rw c.go_on.ensures.places (names_none c.args.self.now.places c.rouse.new.places c.args.client.place c.rouse.ensures.heeded)

pub returns-in-Ends-clause-named : goal.returns-in-Ends-clause-named
returns-in-Ends-clause-named g c =
    rw c.give_up.ensures.places (names_none c.args.self.now.places c.rouse.new.places c.args.client.place c.rouse.ensures.heeded)
