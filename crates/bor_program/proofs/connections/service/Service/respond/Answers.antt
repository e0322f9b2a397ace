use Rattle.std.proofs.Common.{◌≡◌, ◌∙◌, ap, inl, subst, sym}
use Rattle.bor_records.specs.Promises.{Promised}
use Rattle.bor_wire.specs.Exchanges.{NamesWhoAsks}
use Rattle.bor_program.specs.Logging.{IsNoteOf, MayNote}
use Rattle.bor_program.proofs.OnConnections.Servers.{may_add}
use Rattle.bor_program.proofs.connections.service.Service.respond.Goals as goal
use Rattle.bor_program.proofs.connections.service.Service.respond.Goals.{then-is_none+in-Some-1, then-is_none+in-None-1, else-is_none, in-Some-asked, in_default}

pub returns-after-asked-clause-answers : goal.returns-after-asked-clause-answers
returns-after-asked-clause-answers g c = c.respond_to-agent.ensures.answers c.args.received.items c.asking_in-asking.ensures.spells

pub returns-after-asked-clause-noted : goal.returns-after-asked-clause-noted
returns-after-asked-clause-noted g c =
    let out = c.respond_to-agent.result.reply in
    let promised = Promised g.K.Keep.meaning c.args.keep.now c.respond_to-agent.new.keep in
    let P = IsNoteOf promised c.args.received.items out in
    let before : c.if-is_none.self.notes.items ≡ c.args.self.now.notes.items = elim c.if-is_none.branch [
      | then-is_none+in-Some-1 w ↦ ap (λ s. s.notes.items) w.self-is
      | then-is_none+in-None-1 w ↦ ap (λ s. s.notes.items) w.self-is
      | else-is_none w ↦ ap (λ s. s.notes.items) w.self-is
    ] in
    subst (λ notes. MayNote P notes c.match-asked.self.notes.items) before (elim c.match-asked.branch [
      | in-Some-asked w ↦
          may_add P c.if-is_none.self.notes.items c.match-asked.self.notes.items _ w.of.result (ap (λ s. s.notes.items) w.self-is ∙ w.push.ensures.items) (record {
            asked = w.of.ensures.asked ∙ rw w.in-Some-asked.is at c.asking_in-asking.ensures.asked;
            status = w.of.ensures.status;
            bytes = w.of.ensures.bytes;
            agent =
                subst (λ agent. promised (λ r. NamesWhoAsks r c.args.received.items (record { agent = agent; reply = out }))) (sym w.of.ensures.agent) (c.respond_to-agent.ensures.agent c.args.received.items c.asking_in-asking.ensures.spells);
          })
      | in_default w ↦ inl (ap (λ s. s.notes.items) w.self-is)
    ])
