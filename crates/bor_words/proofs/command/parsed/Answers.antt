use Rattle.std.proofs.Common.{◌≡◌, Result, List, ℕ, map, subst, true}
use Rattle.std.proofs.lemmas.Result.{IfOk-weaker}
use Rattle.clap.specs.Words.{App, FailsBy, HasMatchesOf, fault_of, is_simple_and_free}
use Rattle.clap.specs.declared.error.Error.{Error}
use Rattle.bor_words.specs.Words.{bor_app}
use Rattle.bor_words.proofs.KnownWords.{bor_is_free, bor_is_simple, clean, faulty}
use Rattle.bor_words.proofs.command.parsed.Goals as goal

-- what is said of the words that clap is told of is said of those of the program
kinds_of : {T : Type 0} (a : App) (words : List (List ℕ)) (r : Result T Error) → a ≡ bor_app
    → (is_simple_and_free a ≡ true → FailsBy (fault_of a words) r) → FailsBy (fault_of bor_app words) r
kinds_of a words r e h = subst (λ (x : App). is_simple_and_free x ≡ true → FailsBy (fault_of x words) r) e h bor_is_free

pub returns-clause-clean : goal.returns-clause-clean
returns-clause-clean g c =
    clean _ _ (kinds_of _ _ _ c.in_ok-parser.ensures c.try_get_matches_from.ensures.kinds)

pub returns-clause-found : goal.returns-clause-found
returns-clause-found g c =
    let words = map g.S.AsStr.text c.args.words.now in
    IfOk-weaker c.try_get_matches_from.result _ _
    (λ m h. (subst (λ (a : App). HasMatchesOf a words m) c.in_ok-parser.ensures h bor_is_simple).1) c.try_get_matches_from.ensures.matches

pub returns-clause-err : goal.returns-clause-err
returns-clause-err g c =
    faulty _ _ (kinds_of _ _ _ c.in_ok-parser.ensures c.try_get_matches_from.ensures.kinds)
