use Rattle.std.proofs.Common.{◌≡◌, ◌≤◌, ◌+◌, ◌*◌, ◌++◌, ◌∷◌, take, flat_map}
use Rattle.std.specs.Prelude.{vec_len, vec_capacity}
use Rattle.json.specs.Print.{escape_byte}
use Rattle.bor_wire.proofs.rendering.room.put_quoted.Given as goal

abbrev pub invariant-loop-byte : goal.invariant-loop-byte
invariant-loop-byte l = record {
  items : l.out.items ≡ l.fn.out.items ++ 34 ∷ flat_map escape_byte (take l.byte-index l.text);
  len : vec_len l.out ≤ vec_len l.fn.out + 1 + 6 * l.byte-index;
  capacity : vec_capacity l.fn.out ≤ vec_capacity l.out;
}
