use Rattle.std.proofs.Common.{◌≡◌, ◌≤◌, ◌+◌, drop}
use Rattle.bor_wire.specs.Spelling.Query.{how_often, pair_texts}
use Rattle.bor_wire.proofs.spelling.query.count_pairs.Given as goal

abbrev pub invariant-loop-pair : goal.invariant-loop-pair
invariant-loop-pair l = record {
  counted : l.count + how_often l.name (pair_texts (drop l.pair-index l.pairs)) ≡ how_often l.name (pair_texts l.pairs);
  bound : l.count ≤ l.pair-index;
}
