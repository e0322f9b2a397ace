use Rattle.std.proofs.Common.{◌≡◌, take, length, vec_capacity, map}
use Rattle.bor_wire.specs.Turns.{InTurn}
use Rattle.bor_wire.proofs.replies.replay.Given as goal

-- the replies so far are those of exchanges in turn
abbrev pub invariant-loop-input : goal.invariant-loop-input
invariant-loop-input g l =
    record {
      count : length l.replies.items ≡ l.input-index;
      room : vec_capacity l.replies ≡ length l.inputs;
      turns : InTurn g.K.Keep.meaning l.fn.keep l.keep (map (λ v. v.items) (take l.input-index l.inputs)) l.replies.items;
    }
