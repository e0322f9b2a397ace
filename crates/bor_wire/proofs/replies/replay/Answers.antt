use Rattle.std.proofs.Common.{◌≤◌, ◌<◌, length, map, take, arith}
use Rattle.std.proofs.lemmas.List.{map_more, take_all}
use Rattle.std.proofs.lemmas.Grind.{common_steps}
use Rattle.bor_wire.proofs.TurnLaws.{in_turn_began, in_turn_more, replayed, turns_spelled}
use Rattle.bor_wire.proofs.replies.replay.Goals as goal

pub loop-input-preserved : goal.loop-input-preserved
loop-input-preserved g c =
    let inv = c.loop-input.invariant in
    let i = c.loop-input.input-index in
    let inputs = c.args.inputs.now in
    let lt : i < length inputs = omega arith in
    let more = map_more (λ v. v.items) inputs i c.input-item.result lt in
    record {
      count = grind (arith, common_steps);
      room = grind (arith, common_steps);
      turns =
          rw (c.push_reserved.ensures.items, more, ← c.input-item.is, ← c.deref.ensures.value)
          (in_turn_more g.K.Keep.meaning c.args.keep.now c.loop-input.keep c.respond-reply.new.keep (map (λ v. v.items) (take i inputs)) c.loop-input.replies.items c.deref.result.now
          c.respond-reply.result.reply inv.turns c.respond-reply.ensures.answers);
    }

pub returns-clause-began : goal.returns-clause-began
returns-clause-began g c = in_turn_began g.K.Keep.meaning c.args.keep.now c.loop-input.keep _ _ c.loop-input.invariant.turns

pub returns-clause-in_turn : goal.returns-clause-in_turn
returns-clause-in_turn g c =
    let le : length c.args.inputs.now ≤ c.loop-input.input-index = omega arith in
    rw (take_all c.loop-input.input-index c.args.inputs.now le) at c.loop-input.invariant.turns

pub returns-clause-spelled : goal.returns-clause-spelled
returns-clause-spelled g c =
    let le : length c.args.inputs.now ≤ c.loop-input.input-index = omega arith in
    let turns = rw (take_all c.loop-input.input-index c.args.inputs.now le) at c.loop-input.invariant.turns in
    turns_spelled g.K.Keep.meaning c.args.keep.now c.loop-input.keep (map (λ v. v.items) c.args.inputs.now) c.loop-input.replies.items turns

pub returns-clause-run : goal.returns-clause-run
returns-clause-run g c =
    let le : length c.args.inputs.now ≤ c.loop-input.input-index = omega arith in
    replayed g.K.Keep.meaning c.args.keep.now c.loop-input.keep (map (λ v. v.items) c.args.inputs.now) c.loop-input.replies.items
    (rw (take_all c.loop-input.input-index c.args.inputs.now le) at c.loop-input.invariant.turns)
