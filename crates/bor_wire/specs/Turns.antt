-- The replies to a list of inputs, as exchanges in turn: with the keep after each.
use Rattle.bor_register.specs.declared.fault.StoreFault.{StoreFault}
use Rattle.std.specs.Prelude.{◌≡◌, ◌⊎◌, ℕ, List, [], ◌∷◌, ◌++◌, map, All, Option, IfSome, Ok, Err}
use Rattle.std.specs.Prelude.{IsTrue}
use Rattle.bor_records.specs.Promises.{Meaning, Promised}
use Rattle.bor_register.specs.Register.{Register}
use Rattle.bor_desk.specs.Operations.Legality.{IsLegal}
use Rattle.bor_desk.specs.Runs.{Asked}
use Rattle.bor_http.specs.declared.incoming.fault.Refusal.{Refusal}
use Rattle.bor_wire.specs.declared.outcome.Outcome.{Outcome}
use Rattle.bor_wire.specs.declared.outcome.Outcome.TheVariants.{ReadFailed}
use Rattle.bor_wire.specs.Spelling.Spell.{Spelled, Spells}
use Rattle.bor_wire.specs.Sent.{Sent, IfFull, TellsStatus}
use Rattle.bor_wire.specs.Exchanges.{IsRefusal, IsWritten}
use Rattle.bor_wire.specs.Answering.{AnswersOne}
use Rattle.bor_wire.specs.Sequences.{AreExchanged, Exchanged, IsNext, IsRun, is_answered, keep_left}

-- its reply begins with its status, where it is whole the input spells something, and an input that
-- spells a refusal is answered by it, where the status isn't 503
pub record IsTurn {K : Type 0} (e : Exchanged K) : Type 0 where
  pub told : TellsStatus e.reply
  pub spells : IfFull e.reply ((spelled : Spelled) × Spells e.input spelled)
  pub refused : (why : Refusal) → Spells e.input (Err why) → IsRefusal e.reply why

-- A request is answered with another status than 503 only where the keep is clean after it, if its
-- store has returned what was written by then.
abbrev pub AnswersClean : {K W : Type 0} → Meaning K Register W StoreFault → Exchanged K → Type 0
AnswersClean meaning e =
    (asked : Asked) → Spells e.input (Ok asked)
    → IfFull e.reply (meaning.is_sound e.keep → meaning.is_clean e.keep)

-- The replies to the inputs are those of exchanges one after the other, the first from the old
-- keep, each from the keep that the one before it left, and the last leaves the new one.
pub record InTurn {K W : Type 0} (meaning : Meaning K Register W StoreFault) (old new : K)
    (inputs : List (List ℕ)) (replies : List Sent) : Type 0 where
  pub exchanges : List (Exchanged K)
  pub inputs_are : map (λ e. e.input) exchanges ≡ inputs
  pub replies_are : map (λ e. e.reply) exchanges ≡ replies
  pub turns : All IsTurn exchanges
  pub each : AreExchanged meaning old exchanges
  pub answer_clean : All (AnswersClean meaning) exchanges
  pub left : keep_left old exchanges ≡ new

-- An exchange over a reader, which had the bytes `known`, and a writer, which held those of `held`
-- before it and those of `holds` after it, is one of exchanges in turn: of all the bytes of the
-- reader, and its reply was written.
pub record IsTurnOver {K W : Type 0} (meaning : Meaning K Register W StoreFault) (old new : K)
    (outcome : Outcome) (known held holds : Option (List ℕ)) : Type 0 where
  pub one : Exchanged K
  pub all : IfSome known (λ bytes. one.input ≡ bytes)
  pub written : IsWritten outcome one.reply held holds
  pub left : one.keep ≡ new
  pub turn : IsTurn one
  pub next : IsNext meaning old one
  pub answer_clean : AnswersClean meaning one

-- What `exchange` promises of an exchange says that it is such a one, or that its reader failed and
-- left the keep.
abbrev pub ExchangeIsATurn : {K W : Type 0} → Meaning K Register W StoreFault → Type 0
ExchangeIsATurn {K} {W} meaning =
    (old new : K) (outcome : Outcome) (known held holds : Option (List ℕ))
    → AnswersOne meaning old new outcome known held holds
    → ((outcome ≡ ReadFailed) × (new ≡ old)) ⊎ IsTurnOver meaning old new outcome known held holds

-- Each front of exchanges in turn is a run, where the keep after it is clean: whatever becomes of
-- the keep later on, as where its store fails.
abbrev pub FrontsAreRuns : {K W : Type 0} → Meaning K Register W StoreFault → Type 0
FrontsAreRuns {K} {W} meaning =
    (keep : K) (front rest : List (Exchanged K))
    → AreExchanged meaning keep (front ++ rest) →
    Promised meaning keep (keep_left keep front)
    (λ r. IsLegal r → IsRun (meaning.shows (keep_left keep front)) r front)

-- a request was answered, with another status than 503
pub record IsRequestAnswered {K : Type 0} (e : Exchanged K) : Type 0 where
  pub asked : Asked
  pub spells : Spells e.input (Ok asked)
  pub answered : IsTrue (is_answered e.reply)

-- From a legal register that was shown, exchanges in turn up to a request that was answered, of
-- which `AnswersClean` holds, are a run, if the store had returned what was written by then:
-- whatever becomes of it later on, as where it shuts.
abbrev pub AnswersAreRuns : {K W : Type 0} → Meaning K Register W StoreFault → Type 0
AnswersAreRuns {K} {W} meaning =
    (keep : K) (front : List (Exchanged K)) (e : Exchanged K) (rest : List (Exchanged K))
    → AreExchanged meaning keep (front ++ e ∷ rest) →
    AnswersClean meaning e → IsRequestAnswered e → meaning.is_sound e.keep → (r : Register)
    → meaning.shows keep r → IsLegal r → IsRun (meaning.shows e.keep) r (front ++ e ∷ [])
