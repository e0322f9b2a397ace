use Rattle.std.proofs.Common.{◌≡◌, ◌++◌, length, map, string_bytes}
use Rattle.bor_words.specs.Joined.{joined_behind}
use Rattle.bor_words.proofs.hyphens.push_joined.Given as goal

abbrev pub invariant-loop-word : goal.invariant-loop-word
invariant-loop-word g l =
    map string_bytes l.all.items ++ joined_behind l.command (map g.S.AsStr.text l.left)
    ≡ map string_bytes l.initial.all.items ++ joined_behind l.command (map g.S.AsStr.text l.words)

abbrev pub decreases-loop-word : goal.decreases-loop-word
decreases-loop-word g l = length l.left
