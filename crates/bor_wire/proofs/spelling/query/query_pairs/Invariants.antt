use Rattle.std.proofs.Common.{◌≡◌, ◌++◌, map}
use Rattle.bor_wire.specs.Spelling.Query.{decoded, pair_texts, pairs_of}
use Rattle.form_urlencoded.specs.Parse.{raw_pairs_left}
use Rattle.bor_wire.proofs.spelling.query.query_pairs.Given as goal

abbrev pub invariant-loop-name : goal.invariant-loop-name
invariant-loop-name l = record {
  can : (goal.iterator-loop-name).can_next l.name-iterator;
  finite : (goal.iterator-loop-name).is_finite l.name-iterator;
  so_far : pair_texts l.pairs.items ++ map decoded (raw_pairs_left l.name-iterator) ≡ pairs_of l.query;
}
