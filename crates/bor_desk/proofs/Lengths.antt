-- How many answers a run has, and how many of them are an agent's.
use Rattle.std.proofs.Common.{◌≡◌, ℕ, suc, List, [], ◌∷◌, length, Option, refl, ap, arith}
use Rattle.bor_register.specs.Register.{Register}
use Rattle.bor_desk.specs.declared.request.Request.{Request}
use Rattle.bor_desk.specs.Runs.{Asked, Occasion, exchange, answers, agent_request, occasion_then, history, told_then, told_to}
use Rattle.bor_desk.specs.Laws.{EachIsAnswered}

answers-length : (r : Register) (run : List Asked) → length (answers r run) ≡ length run
answers-length r [] = refl
answers-length r (a ∷ rest) = ap suc (answers-length (exchange r a).register rest)

-- of one thing told for each request of a run, an agent is told as many as it has exchanges
pub told_to-length : {T : Type 0} (name : List ℕ) (r : Register) (run : List Asked) (all : List T) → length all ≡ length run → length (told_to name r run all) ≡ length (history name r run)
told_to-length name r [] all same = refl
told_to-length name r (a ∷ rest) [] same = absurd (omega arith)
told_to-length {T} name r (a ∷ rest) (told ∷ all) same = at (agent_request name r a) _ _ (told_to-length name (exchange r a).register rest all (omega arith))
  where
    at : (asked : Option Request) (ts : List T) (os : List Occasion) → length ts ≡ length os → length (told_then asked told ts) ≡ length (occasion_then name r asked os)
    at asked ts os h = grind arith

pub each_is_answered : EachIsAnswered
each_is_answered = record {
  each = answers-length;
  to_agent = λ r run name. told_to-length name r run (answers r run) (answers-length r run);
}
