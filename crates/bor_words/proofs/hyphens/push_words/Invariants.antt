use Rattle.std.proofs.Common.{◌≡◌, ◌++◌, map, take, string_bytes}
use Rattle.bor_words.proofs.hyphens.push_words.Given as goal

abbrev pub invariant-loop-word : goal.invariant-loop-word
invariant-loop-word g l =
    map string_bytes l.all.items ≡ map string_bytes l.initial.all.items ++ map g.S.AsStr.text (take l.word-index l.words)
