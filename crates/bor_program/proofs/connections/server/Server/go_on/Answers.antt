use Rattle.std.proofs.Common.{◌≡◌, ◌≤◌, ◌∙◌, Some, ap, arith, subst, sym, true}
use Rattle.std.specs.Duration.{as_nanos}
use Rattle.bor_program.specs.Connections.Servers.{IsNoLonger}
use Rattle.bor_program.proofs.OnConnections.Waits.{left_begun, shorter_of, waiting_one}
use Rattle.bor_program.proofs.connections.server.Server.go_on.Goals as goal
use Rattle.bor_program.proofs.connections.server.Server.go_on.Goals.{then-is_ready, else-is_ready}

pub returns-after-is_ready-clause-time : goal.returns-after-is_ready-clause-time
returns-after-is_ready-clause-time g c = record {
  up = λ is. absurd (c.in-Some.ensures.up.0 is);
  stays = λ other room. (_, c.stay.ensures.stays.room room);
  same = λ last is. ap (λ x. x.phase) (c.stay.ensures.stays.same last is);
  place = λ last is. ap (λ x. x.place) (c.stay.ensures.stays.same last is);
  idle = λ last is. ap (λ x. x.timing.idle_since) (c.stay.ensures.stays.same last is) ∙ c.left-left.ensures.idle;
  begun = λ last is. ap (λ x. x.timing.since) (c.stay.ensures.stays.same last is) ∙ c.left-left.ensures.begun;
}

pub returns-after-is_ready-clause-waits : goal.returns-after-is_ready-clause-waits
returns-after-is_ready-clause-waits g c =
    let old = c.args.self.now in
    let new = c.stay.new.self in
    let client = c.args.client in
    let limits = old.limits in
    let wait = c.if-is_ready.wait in
    let less = shorter_of old.wait c.unwrap_or.result wait c.shorter.result c.unwrap_or.ensures c.shorter.ensures.one c.shorter.ensures.other in
    let next : new.wait ≡ Some c.shorter.result = c.stay.ensures.rest.wait in
    let near : (as_nanos wait ≤ as_nanos c.in-Some.left) × (c.is_ready.result ≡ true → as_nanos wait ≡ 0) = elim c.if-is_ready.branch [
      | then-is_ready w ↦ (omega (arith, ap as_nanos w.wait-is), λ is. ap as_nanos w.wait-is)
      | else-is_ready w ↦ (omega (arith, ap as_nanos w.wait-is), λ is. cc)
    ] in
    waiting_one c.args.now _ old new c.stay.ensures.rest.limits (subst (IsNoLonger old.wait) (sym next) less.0) (record {
      left = c.in-Some.left;
      lasts = left_begun limits client.timing.since c.left-left.new.self.since client.phase c.args.now c.in-Some.left c.left-left.ensures.begun c.in-Some.ensures.up.1;
      time = c.shorter.result;
      is = next;
      within = omega (arith, less.1, near.0);
      ready = λ is. omega (arith, less.1, near.1 (c.is_ready.ensures ∙ is));
    }) c.stay.ensures.stays.either
