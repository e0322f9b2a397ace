-- The state that a stop leaves after exchanges in turn, for the next one to open.
use Rattle.bor_register.specs.declared.fault.StoreFault.{StoreFault}
use Rattle.bor_records.specs.Promises.{Meaning}
use Rattle.std.specs.Prelude.{◌≡◌, ◌⊎◌, List, [], ◌∷◌, ◌++◌}
use Rattle.bor_register.specs.Register.{Register}
use Rattle.bor_desk.specs.Operations.Legality.{IsLegal}
use Rattle.bor_wire.specs.Exchanges.{ShowsAfter}
use Rattle.bor_wire.specs.Sequences.{AreExchanged, Exchanged, IsRun, keep_left}
use Rattle.bor_wire.specs.Turns.{AnswersClean, IsRequestAnswered}

-- the state that is found shows the register, or the one after the first of these exchanges
abbrev pub ShowsOrNext : {K W : Type 0} → (W → Register → Type 0) → W → List (Exchanged K)
    → Register → Type 0
ShowsOrNext left_shows found [] r = left_shows found r
ShowsOrNext left_shows found (e ∷ later) r =
    left_shows found r ⊎ ShowsAfter left_shows e.input r found

-- From the register r on, all that was done and a front of the rest are a run, at whose end the
-- keep was clean; those with status 503 have no part in it. What is found shows the register after
-- it, or after the next exchange too.
pub record LeavesARun {K W : Type 0} (meaning : Meaning K Register W StoreFault) (found : W)
    (keep : K) (r : Register) (done rest : List (Exchanged K)) : Type 0 where
  pub more : List (Exchanged K)
  pub later : List (Exchanged K)
  pub split : rest ≡ more ++ later
  pub clean : meaning.is_clean (keep_left keep (done ++ more))
  pub run : IsRun (ShowsOrNext meaning.left_shows found later) r (done ++ more)

-- Exchanges in turn from a legal register that was shown, after some of which the keep was clean:
-- what is found after a stop shows the register that these and a front of the rest have left, or
-- that the next one has left, if the store has returned what was written.
abbrev pub StopsLeaveRuns : {K W : Type 0} → Meaning K Register W StoreFault → Type 0
StopsLeaveRuns {K} {W} meaning =
    (keep : K) (done rest : List (Exchanged K))
    → AreExchanged meaning keep (done ++ rest) →
    meaning.is_clean (keep_left keep done) → meaning.is_sound (keep_left keep (done ++ rest)) →
    (r : Register) → meaning.shows keep r → IsLegal r →
    (found : W) → meaning.may_leave (keep_left keep (done ++ rest)) found
    → LeavesARun meaning found keep r done rest

-- Answered changes last: where a request was answered with another status than 503, and
-- `AnswersClean` holds of it, all up to it are in that front.
abbrev pub AnswersLast : {K W : Type 0} → Meaning K Register W StoreFault → Type 0
AnswersLast {K} {W} meaning =
    (keep : K) (front : List (Exchanged K)) (e : Exchanged K) (rest : List (Exchanged K))
    → AreExchanged meaning keep (front ++ e ∷ rest) →
    AnswersClean meaning e → IsRequestAnswered e
    → meaning.is_sound (keep_left keep (front ++ e ∷ rest)) →
    (r : Register) → meaning.shows keep r → IsLegal r →
    (found : W) → meaning.may_leave (keep_left keep (front ++ e ∷ rest)) found
    → LeavesARun meaning found keep r (front ++ e ∷ []) rest
