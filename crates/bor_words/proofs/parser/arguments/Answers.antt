use Rattle.std.proofs.Common.{ap₂}
use Rattle.bor_words.specs.Tables.{local_rule, rule_in}
use Rattle.bor_words.proofs.Tables.{one_more}
use Rattle.bor_words.proofs.parser.arguments.Goals as goal

pub loop-word-preserved : goal.loop-word-preserved
loop-word-preserved c =
    one_more rule_in local_rule _ _ c.argument.result _ _ _ c.loop-word-test.true c.loop-word.invariant c.in_ok-push.ensures.items
    (ap₂ (λ rule global. (rule, global)) c.argument.ensures.rule c.argument.ensures.local)
