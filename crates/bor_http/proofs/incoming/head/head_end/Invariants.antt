use Rattle.std.proofs.Common.{◌≡◌, drop, ◌+◌}
use Rattle.std.specs.Option.{option_map}
use Rattle.bor_http.specs.Incoming.Head.{head_len}
use Rattle.bor_http.proofs.incoming.head.head_end.Given as goal

abbrev pub invariant-loop-i : goal.invariant-loop-i
invariant-loop-i l = head_len l.bytes ≡ option_map (λ n. l.i + n) (head_len (drop l.i l.bytes))
