use Rattle.std.proofs.Common.{drop, ◌+◌, length-drop, arith}
use Rattle.bor_http.proofs.OnIncoming.HeadLemmas.{head_len-miss, blank_len-le}
use Rattle.bor_http.proofs.incoming.head.head_end.Goals as goal
use Rattle.bor_http.proofs.incoming.head.head_end.Goals.{then-bytes-i-eq10+else-blank-gt0, else-bytes-i-eq10}

pub loop-i-preserved : goal.loop-i-preserved
loop-i-preserved c =
    elim c.if-bytes-i-eq10.branch [
      | then-bytes-i-eq10+else-blank-gt0 w ↦ head_len-miss _ _ c.loop-i-test.true c.loop-i.invariant (λ _. omega arith)
      | else-bytes-i-eq10 w ↦ head_len-miss _ _ c.loop-i-test.true c.loop-i.invariant (λ h. absurd (w.if-bytes-i-eq10.false h))
    ]

pub returns-then-blank-gt0-clause-within : goal.returns-then-blank-gt0-clause-within
returns-then-blank-gt0-clause-within c =
    omega (arith, c.blank_at-blank.ensures, blank_len-le (drop (c.loop-i.i + 1) c.args.bytes.now), length-drop (c.loop-i.i + 1) c.args.bytes.now)
