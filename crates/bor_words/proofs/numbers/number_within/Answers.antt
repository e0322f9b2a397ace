use Rattle.std.proofs.Common.{rules}
use Rattle.bor_words.proofs.Numerals.{no_number, number_above, number_below, number_found}
use Rattle.bor_words.proofs.numbers.number_within.Goals as goal

pub returns-in-Ok-clause-value : goal.returns-in-Ok-clause-value
returns-in-Ok-clause-value c = number_found _ _ _ _ c.in-Ok.ensures.value.0 (search rules) (search rules)

pub returns-in_default-clause-value : goal.returns-in_default-clause-value
returns-in_default-clause-value c = number_above _ _ _ _ c.in-Ok.ensures.value.0 (search rules)

pub returns-in_default-2-clause-value : goal.returns-in_default-2-clause-value
returns-in_default-2-clause-value c = number_below _ _ _ _ c.in-Ok.ensures.value.0 (search rules)

pub returns-in_default-3-clause-value : goal.returns-in_default-3-clause-value
returns-in_default-3-clause-value c = no_number _ _ _ c.in_default.ensures.value.0 (search rules)
