use Rattle.std.proofs.Common.{◌≡◌, ◌⊎◌, inl, inr, ℕ, Bool, true, false, subst, sym, if◌then◌else◌}
use Rattle.bor_program.specs.Connections.Serving.{IsServedOver}
use Rattle.bor_program.specs.Connections.Streams.{EndedOn, wire_of}
use Rattle.bor_program.proofs.serve.listen.Goals as goal

-- a server gives 0 or 3
either : (failed : Bool) (status : ℕ) → status ≡ (if failed then 3 else 0) → (status ≡ 0) ⊎ (status ≡ 3)
either true status h = inr h
either false status h = inl h

pub returns-clause-hosted : goal.returns-clause-hosted
returns-clause-hosted g c =
    let limits = c.of_a_server-limits in
    let over = c.serve-served.ensures.streams in
    let same = sym (c.server_status.ensures (either _ _ over.served.served.status)) in
    record {
      host = c.args.host.now;
      listener = c.in-Some.listener;
      limits = limits.result;
      begun = c.waiter-waiter.result;
      ended = c.serve-served.new.watch;
      port = c.in-Some.ensures;
      waiter = c.waiter-waiter.ensures;
      is_within = record { request = limits.ensures.request; reply = limits.ensures.reply; floor = limits.ensures.floor; rest = limits.ensures.rest };
      within = subst (λ n. g.H.Register.OpenRegister.serves c.args.register.now c.in-Some.listener limits.result c.args.asked.connections c.serve-served.new.self n) same
          c.serve-served.ensures.within;
      served = subst (λ n. IsServedOver g.H.Register.OpenRegister.meaning (EndedOn (wire_of g.H.Listener.Stream.Read.remaining g.H.Listener.Stream.Write.contents))
          (record { does = g.H.Waiter.Watch.does; begun = c.waiter-waiter.result; ended = c.serve-served.new.watch }) limits.result c.args.register.now c.serve-served.new.self c.args.asked.connections n) same over;
    }
