use Rattle.std.proofs.Common.{◌≡◌, map, take}
use Rattle.bor_words.specs.Tables.{local_shape, shape_in}
use Rattle.bor_words.proofs.parser.commands.Given as goal

abbrev pub invariant-loop-words : goal.invariant-loop-words
invariant-loop-words l = map shape_in l.made.items ≡ map local_shape (take l.words-index l.commands)
