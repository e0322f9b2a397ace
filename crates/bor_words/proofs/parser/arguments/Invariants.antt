use Rattle.std.proofs.Common.{◌≡◌, map, take}
use Rattle.bor_words.specs.Tables.{local_rule, rule_in}
use Rattle.bor_words.proofs.parser.arguments.Given as goal

abbrev pub invariant-loop-word : goal.invariant-loop-word
invariant-loop-word l = map rule_in l.made.items ≡ map local_rule (take l.word-index l.words)
