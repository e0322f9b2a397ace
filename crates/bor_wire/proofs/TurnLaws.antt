-- Laws of exchanges in turn.
use Rattle.bor_register.specs.declared.fault.StoreFault.{StoreFault}
use Rattle.std.proofs.Common.{◌≡◌, inl, inr, ℕ, Option, List, [], ◌∷◌, ◌++◌, append_assoc, map, All, IsTrue, refl, sym, ap, subst, ◌∙◌}
use Rattle.std.proofs.lemmas.Bool.{cond-false, cond-true}
use Rattle.std.proofs.lemmas.List.{map-append}
use Rattle.std.proofs.lemmas.List.Elements.{All-head, All-push, All-tail}
use Rattle.bor_records.specs.Promises.{Meaning, Promised}
use Rattle.bor_register.specs.Register.{Register}
use Rattle.bor_desk.specs.Operations.Legality.{IsLegal}
use Rattle.bor_wire.specs.Spelling.Spell.{Spelled, Spells}
use Rattle.bor_wire.specs.Sent.{Sent, Full, Unavailable, IfFull, bytes_sent}
use Rattle.bor_wire.specs.declared.outcome.Outcome.{Outcome}
use Rattle.bor_wire.specs.declared.outcome.Outcome.TheVariants.{ReadFailed}
use Rattle.bor_wire.specs.Answering.{IsAnsweredOver, Responds}
use Rattle.bor_wire.specs.Replays.{IsReplayed, IsRunOver}
use Rattle.bor_wire.specs.Runs.{AreSpelled, full, served}
use Rattle.bor_wire.specs.Sequences.{AreExchanged, AreSpelledBy, Exchanged, IsNext, IsRun, answered, bytes_in, is_answered, keep_left}
use Rattle.bor_wire.specs.Turns.{AnswersAreRuns, AnswersClean, ExchangeIsATurn, FrontsAreRuns, InTurn, IsRequestAnswered, IsTurn, IsTurnOver}
use Rattle.bor_wire.proofs.RunLaws.{spelled_once}
use Rattle.bor_wire.proofs.SequenceLaws.{a_run, began}

-- ---- one more exchange

pub exchanged_more : {K W : Type 0} (meaning : Meaning K Register W StoreFault) (keep : K) (es : List (Exchanged K)) (e : Exchanged K)
    → AreExchanged meaning keep es → IsNext meaning (keep_left keep es) e → AreExchanged meaning keep (es ++ e ∷ [])
exchanged_more meaning keep [] e h next = (next, tt)
exchanged_more meaning keep (x ∷ es) e h next = (h.0, exchanged_more meaning x.keep es e h.1 next)

pub left_more : {K : Type 0} (keep : K) (es : List (Exchanged K)) (e : Exchanged K) → keep_left keep (es ++ e ∷ []) ≡ e.keep
left_more keep [] e = refl
left_more keep (x ∷ es) e = left_more x.keep es e

pub next : {K W : Type 0} (meaning : Meaning K Register W StoreFault) (old new : K) (input : List ℕ) (reply : Sent) → Responds meaning old new input reply
    → IsNext meaning old (record { input = input; reply = reply; keep = new })
next meaning old new input reply h = record { leaves = h.leaves; exchanged = λ r is clean legal. h.exchanged r is clean legal.names }

pub turn : {K W : Type 0} (meaning : Meaning K Register W StoreFault) (old new : K) (input : List ℕ) (reply : Sent) → Responds meaning old new input reply
    → IsTurn {K = K} (record { input = input; reply = reply; keep = new })
turn meaning old new input reply h = record { told = h.told; spells = h.spells; refused = h.refused }

turn_over : {K W : Type 0} (meaning : Meaning K Register W StoreFault) (old new : K) (outcome : Outcome) (known held holds : Option (List ℕ))
    → IsAnsweredOver meaning old new outcome known held holds → IsTurnOver meaning old new outcome known held holds
turn_over meaning old new outcome known held holds h = record {
  one = record { input = h.input; reply = h.reply; keep = new };
  all = h.all;
  written = h.written;
  left = refl;
  turn = turn meaning old new h.input h.reply h.responds;
  next = next meaning old new h.input h.reply h.responds;
  answer_clean = h.responds.up;
}

pub a_turn : {K W : Type 0} (meaning : Meaning K Register W StoreFault) → ExchangeIsATurn meaning
a_turn meaning old new ReadFailed known held holds h = inl (refl, h.0)
a_turn meaning old new outcome known held holds h = inr (turn_over meaning old new outcome known held holds h)

pub in_turn_more : {K W : Type 0} (meaning : Meaning K Register W StoreFault) (old mid new : K) (inputs : List (List ℕ)) (replies : List Sent) (input : List ℕ) (reply : Sent)
    → InTurn meaning old mid inputs replies → Responds meaning mid new input reply → InTurn meaning old new (inputs ++ input ∷ []) (replies ++ reply ∷ [])
in_turn_more {K} meaning old mid new inputs replies input reply h responds =
    let e : Exchanged K = record { input = input; reply = reply; keep = new } in
    record {
      exchanges = h.exchanges ++ e ∷ [];
      inputs_are = map-append (λ (e : Exchanged K). e.input) h.exchanges (e ∷ []) ∙ ap (λ l. l ++ input ∷ []) h.inputs_are;
      replies_are = map-append (λ (e : Exchanged K). e.reply) h.exchanges (e ∷ []) ∙ ap (λ l. l ++ reply ∷ []) h.replies_are;
      turns = All-push IsTurn h.exchanges e h.turns (turn meaning mid new input reply responds);
      each = exchanged_more meaning old h.exchanges e h.each (subst (λ k. IsNext meaning k e) (sym h.left) (next meaning mid new input reply responds));
      answer_clean = All-push (AnswersClean meaning) h.exchanges e h.answer_clean responds.up;
      left = left_more old h.exchanges e;
    }

-- ---- the run that they are

abbrev inputs_in : {K : Type 0} → List (Exchanged K) → List (List ℕ)
inputs_in es = map (λ e. e.input) es

abbrev replies_in : {K : Type 0} → List (Exchanged K) → List Sent
replies_in es = map (λ e. e.reply) es

-- what an input spells that was answered
one_spelled : (reply : Sent) (input : List ℕ) (inputs : List (List ℕ)) (replies : List Sent) → IfFull reply ((s : Spelled) × Spells input s) → (ss : List Spelled) × AreSpelled (served inputs replies) ss
    → (ss : List Spelled) × AreSpelled (served (input ∷ inputs) (reply ∷ replies)) ss
one_spelled (Full status bytes) input inputs replies s rest = (s.0 ∷ rest.0, (s.1, rest.1))
one_spelled Unavailable input inputs replies s rest = rest

all_spelled : {K : Type 0} (es : List (Exchanged K)) → All IsTurn es → (ss : List Spelled) × AreSpelled (served (inputs_in es) (replies_in es)) ss
all_spelled [] h = ([], tt)
all_spelled (e ∷ es) h = one_spelled e.reply e.input (inputs_in es) (replies_in es) (All-head IsTurn e es h).spells (all_spelled es (All-tail IsTurn e es h))

pub turns_spelled : {K W : Type 0} (meaning : Meaning K Register W StoreFault) (old new : K) (inputs : List (List ℕ)) (replies : List Sent) → InTurn meaning old new inputs replies
    → (ss : List Spelled) × AreSpelled (served inputs replies) ss
turns_spelled meaning old new inputs replies h =
    let spelled = all_spelled h.exchanges h.turns in
    (spelled.0, subst (λ rs. AreSpelled (served inputs rs) spelled.0) h.replies_are (subst (λ is. AreSpelled (served is (replies_in h.exchanges)) spelled.0) h.inputs_are spelled.1))

-- those that were answered have the inputs that were served, and the full replies
inputs_more : {K : Type 0} (e : Exchanged K) (es : List (Exchanged K)) (reply : Sent) → e.reply ≡ reply → inputs_in (answered es) ≡ served (inputs_in es) (replies_in es)
    → inputs_in (answered (e ∷ es)) ≡ served (e.input ∷ inputs_in es) (reply ∷ replies_in es)
inputs_more e es (Full status bytes) is rest = ap inputs_in (cond-true (is_answered e.reply) (e ∷ answered es) (answered es) (ap is_answered is)) ∙ ap (λ l. e.input ∷ l) rest
inputs_more e es Unavailable is rest = ap inputs_in (cond-false (is_answered e.reply) (e ∷ answered es) (answered es) (ap is_answered is)) ∙ rest

inputs_served : {K : Type 0} (es : List (Exchanged K)) → inputs_in (answered es) ≡ served (inputs_in es) (replies_in es)
inputs_served [] = refl
inputs_served (e ∷ es) = inputs_more e es e.reply refl (inputs_served es)

bytes_more : {K : Type 0} (e : Exchanged K) (es : List (Exchanged K)) (reply : Sent) → e.reply ≡ reply → bytes_in (answered es) ≡ full (replies_in es)
    → bytes_in (answered (e ∷ es)) ≡ full (reply ∷ replies_in es)
bytes_more e es (Full status bytes) is rest =
    ap bytes_in (cond-true (is_answered e.reply) (e ∷ answered es) (answered es) (ap is_answered is)) ∙ ap (λ reply. bytes_sent reply ∷ bytes_in (answered es)) is ∙ ap (λ l. bytes ∷ l) rest
bytes_more e es Unavailable is rest = ap bytes_in (cond-false (is_answered e.reply) (e ∷ answered es) (answered es) (ap is_answered is)) ∙ rest

bytes_full : {K : Type 0} (es : List (Exchanged K)) → bytes_in (answered es) ≡ full (replies_in es)
bytes_full [] = refl
bytes_full (e ∷ es) = bytes_more e es e.reply refl (bytes_full es)

inputs_spelled : {K : Type 0} (es : List (Exchanged K)) (ss : List Spelled) → AreSpelledBy es ss → AreSpelled (inputs_in es) ss
inputs_spelled [] [] h = tt
inputs_spelled [] (s ∷ ss) h = elim h [ ]
inputs_spelled (e ∷ es) [] h = elim h [ ]
inputs_spelled (e ∷ es) (s ∷ ss) h = (h.0, inputs_spelled es ss h.1)

pub replayed : {K W : Type 0} (meaning : Meaning K Register W StoreFault) (old new : K) (inputs : List (List ℕ)) (replies : List Sent) → InTurn meaning old new inputs replies
    → Promised meaning old new (λ r. IsLegal r → IsReplayed (meaning.shows new) r inputs replies)
replayed meaning old new inputs replies h = λ r is clean legal spelled spells.
    let run : IsRun (meaning.shows new) r h.exchanges =
    subst (λ k. IsRun (meaning.shows k) r h.exchanges) h.left (a_run meaning old h.exchanges h.each r is (subst meaning.is_clean (sym h.left) clean) legal) in
    let those : inputs_in (answered h.exchanges) ≡ served inputs replies =
    inputs_served h.exchanges ∙ ap (λ is. served is (replies_in h.exchanges)) h.inputs_are ∙ ap (λ rs. served inputs rs) h.replies_are in
    let own : AreSpelled (served inputs replies) run.spelled = subst (λ is. AreSpelled is run.spelled) those (inputs_spelled (answered h.exchanges) run.spelled run.spells) in
    subst (λ ss. IsRunOver (meaning.shows new) r ss (full replies)) (spelled_once (served inputs replies) run.spelled spelled own spells)
    (subst (IsRunOver (meaning.shows new) r run.spelled) (bytes_full h.exchanges ∙ ap full h.replies_are) run.over)

pub in_turn_began : {K W : Type 0} (meaning : Meaning K Register W StoreFault) (old new : K) (inputs : List (List ℕ)) (replies : List Sent) → InTurn meaning old new inputs replies
    → meaning.is_clean new → meaning.is_clean old
in_turn_began meaning old new inputs replies h clean = began meaning old h.exchanges h.each (subst meaning.is_clean (sym h.left) clean)

-- ---- fronts

front_exchanged : {K W : Type 0} (meaning : Meaning K Register W StoreFault) (keep : K) (front rest : List (Exchanged K)) → AreExchanged meaning keep (front ++ rest)
    → AreExchanged meaning keep front
front_exchanged meaning keep [] rest h = tt
front_exchanged meaning keep (e ∷ front) rest h = (h.0, front_exchanged meaning e.keep front rest h.1)

pub fronts : {K W : Type 0} (meaning : Meaning K Register W StoreFault) → FrontsAreRuns meaning
fronts meaning keep front rest h = a_run meaning keep front (front_exchanged meaning keep front rest h)

-- ---- up to what was answered

answered_so : (P : Type 0) (reply : Sent) → IsTrue (is_answered reply) → IfFull reply P → P
answered_so P (Full status bytes) answered h = h
answered_so P Unavailable answered h = absurd cc

pub answered_clean : {K W : Type 0} (meaning : Meaning K Register W StoreFault) (e : Exchanged K) → AnswersClean meaning e → IsRequestAnswered e → meaning.is_sound e.keep → meaning.is_clean e.keep
answered_clean meaning e up answered sound =
    answered_so (meaning.is_sound e.keep → meaning.is_clean e.keep) e.reply answered.answered (up answered.asked answered.spells) sound

pub answers : {K W : Type 0} (meaning : Meaning K Register W StoreFault) → AnswersAreRuns meaning
answers meaning keep front e rest each up answered sound r is legal =
    let clean = answered_clean meaning e up answered sound in
    let last = left_more keep front e in
    subst (λ k. IsRun (meaning.shows k) r (front ++ e ∷ [])) last
    (fronts meaning keep (front ++ e ∷ []) rest (subst (AreExchanged meaning keep) (sym (append_assoc front (e ∷ []) rest)) each) r is (subst meaning.is_clean (sym last) clean) legal)
