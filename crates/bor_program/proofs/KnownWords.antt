-- The facts on words that follow from the answer to them and from a failure.
use Rattle.std.proofs.Common.{◌≡◌, ◌≢◌, ℕ, List, Option, Some, None, codes, refl, subst, inl, inr}
use Rattle.clap.specs.Words.{IsAmong, Kinds, kind_of}
use Rattle.clap.specs.declared.error.kind.ErrorKind.TheVariants.{DisplayHelp, OutOfMemory}
use Rattle.bor_words.specs.declared.unread.Unread.{Unread}
use Rattle.bor_words.specs.declared.unread.Unread.TheVariants.{Answered, Unfit}
use Rattle.bor_words.specs.Asked.{IsCommand, IsWrong}
use Rattle.bor_words.specs.Unread.{IsFaultOfWords, kind_of_answer}
use Rattle.bor_words.specs.Values.{first_unfit, values_of}
use Rattle.bor_words.specs.Words.{entered_by}
use Rattle.bor_program.specs.declared.status.Status.{Status}
use Rattle.bor_program.specs.declared.status.Status.TheVariants.{Usage}
use Rattle.bor_program.specs.Program.{exit_code}

no_value : {A : Type 0} (o : Option A) (x : A) → o ≡ None → o ≡ Some x → ⊥
no_value o x e f = cc

-- the answer to words that ask for a command is want of memory
pub only_memory : (words : List (List ℕ)) (unread : Unread) → IsCommand words → IsFaultOfWords words unread → kind_of_answer unread ≡ OutOfMemory
only_memory words (Answered error) asked (inl h) = h
only_memory words (Answered error) asked (inr h) = let P : Kinds → Type 0 = IsAmong (kind_of error) in absurd (subst P asked.0 h)
only_memory words (Unfit unfit) asked h = absurd (no_value (first_unfit (values_of (entered_by words))) unfit.word.now asked.1 h.1)
only_memory words unread asked h = absurd (no_value (first_unfit (values_of (entered_by words))) (codes "registrar") asked.1 h.1)

-- an answer that is neither want of memory nor help is a fault of the words
pub wrong_words : (words : List (List ℕ)) (unread : Unread) → IsFaultOfWords words unread → kind_of_answer unread ≢ DisplayHelp
    → kind_of_answer unread ≢ OutOfMemory → IsWrong words
wrong_words words (Answered error) (inl h) no_help memory_left = absurd (memory_left h)
wrong_words words (Answered error) (inr h) no_help memory_left = inl (kind_of error, h, no_help)
wrong_words words (Unfit unfit) h no_help memory_left = inr (h.0, (unfit.word.now, h.1))
wrong_words words unread h no_help memory_left = inr (h.0, (codes "registrar", h.1))

pub usage_of : (status : Status) → exit_code status ≡ 2 → status ≡ Usage
usage_of Usage e = refl
usage_of status e = cc
