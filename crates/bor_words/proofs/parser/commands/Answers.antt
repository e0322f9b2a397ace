use Rattle.std.proofs.Common.{ap, ap₂}
use Rattle.clap.specs.Words.{App}
use Rattle.bor_words.specs.Tables.{local_shape, shape_in}
use Rattle.bor_words.proofs.Tables.{one_more}
use Rattle.bor_words.proofs.parser.commands.Goals as goal

pub loop-words-preserved : goal.loop-words-preserved
loop-words-preserved c =
    one_more shape_in local_shape _ _ c.in_ok-command.field-0 _ _ _ c.loop-words-test.true c.loop-words.invariant c.in_ok-push.ensures.items
    (ap₂ (λ shape globals. (shape, globals)) (ap (λ (a : App). a.top) c.in_ok-command.ensures.app) c.in_ok-command.ensures.local)
