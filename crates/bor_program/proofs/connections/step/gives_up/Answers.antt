use Rattle.std.proofs.Common.{length, refl}
use Rattle.bor_wire.specs.Sent.{bytes_sent}
use Rattle.bor_program.specs.Connections.Serving.{Told, Unanswered, given_reply}
use Rattle.bor_program.proofs.OnConnections.Streams.{told_draining, told_writing}
use Rattle.bor_program.proofs.connections.step.gives_up.Goals as goal

pub returns-in-Reading : goal.returns-in-Reading
returns-in-Reading g c =
    let r = c.in-Reading.field-0 in
    let held = rw c.in-Reading.is at c.requires in
    (Unanswered r.received.items, record { stream = r.stream; came = held.came; partial = held.partial; fits = held.fits }, rw c.in-Reading.is refl, refl, refl)

pub returns-in-Writing : goal.returns-in-Writing
returns-in-Writing g c =
    let w = c.in-Writing.writing in
    let held = rw c.in-Writing.is at c.requires in
    let answer = given_reply w.request.value.items w.reply in
    (Told answer w.sent, told_writing _ w.stream answer w.sent held, rw c.in-Writing.is refl, c.has_failed.ensures, refl)

pub returns : goal.returns
returns g c =
    let d = c.in-Draining.draining in
    let held = rw c.in-Draining.is at c.requires in
    let answer = given_reply d.request.value.items d.reply in
    (Told answer (length (bytes_sent d.reply)), told_draining _ d.stream answer d.left held, rw c.in-Draining.is refl, c.has_failed-in-Draining.ensures, refl)
