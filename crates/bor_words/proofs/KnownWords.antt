-- The answers of clap to the words that it is given.
use Rattle.std.proofs.Common.{◌≡◌, [], Result, Ok, Err, OnOk, IfErr, refl, true}
use Rattle.clap.specs.Words.{FailsBy, HasKind, Kinds, is_simple, is_simple_and_free}
use Rattle.clap.specs.declared.error.Error.{Error}
use Rattle.clap.proofs.OnLiterals.{clap_on_literals}
use Rattle.bor_words.specs.Words.{bor_app}

pub bor_is_simple : is_simple bor_app ≡ true
unfolding clap_on_literals
bor_is_simple = refl

pub bor_is_free : is_simple_and_free bor_app ≡ true
unfolding clap_on_literals
bor_is_free = refl

pub clean : {T : Type 0} (r : Result T Error) (kinds : Kinds) → FailsBy kinds r → OnOk r (kinds ≡ [])
clean (Ok x) kinds h = h
clean (Err e) kinds h = tt

pub faulty : {T : Type 0} (r : Result T Error) (kinds : Kinds) → FailsBy kinds r → IfErr r (HasKind kinds)
faulty (Ok x) kinds h = tt
faulty (Err e) kinds h = h
