use Rattle.bor_program.specs.Connections.Servers.{IsQueuedBehind, IsStill}
use Rattle.bor_program.specs.Connections.Times.{IsOverdue}
use Rattle.std.proofs.lemmas.Grind.{common_steps}
use Rattle.std.proofs.Common.{◌≡◌, ◌<◌, ◌∷◌, arith, length, subst, ◌++◌, sym, ◌∙◌, ap, deque_capacity, deque_len}
use Rattle.bor_program.specs.Connections.Streams.{wire_of}
use Rattle.bor_program.proofs.OnConnections.Servers.{in_hand, lets_go_same}
use Rattle.bor_program.proofs.connections.server.Server.serve_next.Goals as goal

pub returns-in-Some-now-clause-advances : goal.returns-in-Some-now-clause-advances
returns-in-Some-now-clause-advances g c = λ start connections absent noted before.
    c.serve.ensures.serves start connections absent noted
    (in_hand _ _ start _ connections absent noted c.in-Some.client c.pop_front.new.self.items c.args.self.now c.in-Some.ensures.items before)

pub returns-in-None-clause-advances : goal.returns-in-None-clause-advances
returns-in-None-clause-advances g c = λ start connections absent noted before.
    let old = c.args.self.now in
    lets_go_same _ _ start _ _ _ noted c.give_up.new.self
    (in_hand g.K.Keep.meaning (wire_of g.S.Read.remaining g.S.Write.contents) start c.args.keep.now connections absent noted c.in-Some.client c.pop_front.new.self.items old c.in-Some.ensures.items before) c.give_up.ensures.lets (ap (λ s. noted ++ s.notes.items) (sym c.give_up.ensures.rest.service))

pub serve-requires-clause-seated : goal.serve-requires-clause-seated
serve-requires-clause-seated g c = rw c.in-Some.ensures.items at c.requires.seated

pub returns-in-None-clause-seated : goal.returns-in-None-clause-seated
returns-in-None-clause-seated g c =
    let seated = rw c.in-Some.ensures.items at c.requires.seated in
    rw (c.give_up.ensures.leaves, c.give_up.ensures.queue) seated.1

pub returns-in-Some-now-clause-remains : goal.returns-in-Some-now-clause-remains
returns-in-Some-now-clause-remains g c = λ now client rest is first still due.
    let old = c.args.self.now in
    let popped = c.pop_front.new.self in
    let both : client ∷ rest ≡ c.in-Some.client ∷ popped.items = sym first ∙ c.in-Some.ensures.items in
    let mine : client ≡ c.in-Some.client = cc both in
    let others : popped.items ≡ rest = cc both in
    let at : c.in-Some-now.now ≡ now = cc (is, c.in-Some-now.is) in
    let room : deque_len popped < deque_capacity popped = omega (arith, c.in-Some.ensures.cases, c.in-Some.ensures.capacity, old.queue.small.1) in
    let kept = c.serve.ensures.remains (subst (IsStill old.places) mine still)
    (λ over. due (subst (λ t. IsOverdue old.limits client.timing.since client.phase t) at (subst (λ x. IsOverdue old.limits x.timing.since x.phase c.in-Some-now.now) (sym mine) over))) room in
    subst (λ l. IsQueuedBehind l client c.serve.new.self.queue.items) others (subst (λ x. IsQueuedBehind popped.items x c.serve.new.self.queue.items) (sym mine) kept)

pub returns-in_default-clause-remains : goal.returns-in_default-clause-remains
returns-in_default-clause-remains g c = λ now client rest is first still due.
    let queue = c.args.self.now.queue in
    let short : deque_len queue ≡ 0 = grind (arith, common_steps) in
    absurd (omega (arith, short, queue.ok.0, ap length first))
