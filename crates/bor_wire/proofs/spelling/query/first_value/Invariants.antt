use Rattle.std.proofs.Common.{◌≡◌, drop}
use Rattle.bor_wire.specs.Spelling.Query.{first_text, pair_texts}
use Rattle.bor_wire.proofs.spelling.query.first_value.Given as goal

abbrev pub invariant-loop-pair : goal.invariant-loop-pair
invariant-loop-pair l = first_text l.name (pair_texts (drop l.pair-index l.pairs)) ≡ first_text l.name (pair_texts l.pairs)
