-- Which replies `bor exchange` prints, and how it ends.
use Rattle.bor_register.specs.declared.fault.StoreFault.{StoreFault}
use Rattle.std.specs.Prelude.{◌≡◌, ◌≤◌, ◌⊎◌, ℕ, List, [], ◌∷◌, ◌++◌, Bool, Option, Result}
use Rattle.std.specs.Prelude.{MatchResult, if◌then◌else◌, false, length, max, nat_le, slice_get, ⊤}
use Rattle.std.specs.Option.{option_map_or}
use Rattle.std.specs.Borrow.{Bor}
use Rattle.std.specs.Io.KnownBytes.{Appends, Keeps}
use Rattle.bor_records.specs.Promises.{Meaning, Promised}
use Rattle.bor_register.specs.Register.{Register}
use Rattle.bor_desk.specs.Operations.Legality.{IsLegal}
use Rattle.bor_wire.specs.Spelling.Spell.{Spelled}
use Rattle.bor_wire.specs.Sent.{Sent, Full, Unavailable, bytes_sent}
use Rattle.bor_wire.specs.Runs.{AreSpelled, full, served}
use Rattle.bor_wire.specs.Replays.{IsRunOver}
use Rattle.bor_wire.specs.Turns.{InTurn}
use Rattle.clap.specs.Words.{Text}
use Rattle.bor_program.specs.Inputs.{AreReadOf}
use Rattle.bor_program.specs.Program.{exit_code}
use Rattle.bor_program.specs.Streams.{AppendsPart}
use Rattle.bor_program.specs.declared.status.Status.{Status}

-- ---- the bytes that are sent

-- the replies one after the other
abbrev pub sent : List Sent → List ℕ
sent [] = []
sent (reply ∷ replies) = bytes_sent reply ++ sent replies

-- ---- how it ends

-- the status code in the first line, behind `HTTP/1.1 `, begins with a 4 or a greater digit: it is
-- 400 or more
abbrev pub is_refusal : List ℕ → Bool
is_refusal bytes = option_map_or (λ digit. nat_le 52 digit) (slice_get bytes 9) false

abbrev pub reply_status : Sent → ℕ
reply_status (Full status bytes) = if is_refusal bytes then 1 else 0
reply_status Unavailable = 3

-- the greatest exit status that a reply asks for
abbrev pub replies_status : List Sent → ℕ
replies_status [] = 0
replies_status (reply ∷ replies) = max (reply_status reply) (replies_status replies)

-- the replies were written in order, and the exit status is the greatest that one asks for; or the
-- run failed, and a front of them was written
abbrev pub IsSentOrCutOff : List Sent → Option (List ℕ) → Option (List ℕ) → ℕ → Type 0
IsSentOrCutOff replies before after status =
    (Appends before after (sent replies) × (status ≡ replies_status replies))
    ⊎ (AppendsPart before after (sent replies) × (status ≡ 3))

-- ---- which replies they are

-- The replies to these inputs from this register on: one for each, and without what was not served,
-- those of the run over what the others spell. The register that it leaves is shown.
pub record AreRepliesLeaving (Shown : Register → Type 0) (r : Register) (inputs : List (List ℕ))
    (replies : List Sent) : Type 0 where
  pub count : length replies ≡ length inputs
  pub spelled : List Spelled
  pub spells : AreSpelled (served inputs replies) spelled
  pub run : IsRunOver Shown r spelled (full replies)

-- The same, whatever is left.
abbrev pub AreRepliesTo : Register → List (List ℕ) → List Sent → Type 0
AreRepliesTo r inputs replies = AreRepliesLeaving (λ q. ⊤) r inputs replies

-- Of a register that was opened and what is left of it, which ends clean only if it began clean:
-- each legal register that it showed has these replies to these inputs, and what is left shows the
-- register after them. Whatever becomes of it, as where its store shuts, the replies are those of
-- exchanges in turn, and up to each request that was answered these are a run.
pub record AreAnswers {K Left : Type 0} (meaning : Meaning K Register Left StoreFault)
    (opened left : K) (inputs : List (List ℕ)) (replies : List Sent) : Type 0 where
  pub began : meaning.is_clean left → meaning.is_clean opened
  pub answers : Promised meaning opened left
      (λ r. IsLegal r → AreRepliesLeaving (meaning.shows left) r inputs replies)
  pub in_turn : InTurn meaning opened left inputs replies

-- ---- how they are sent

-- such replies to these inputs were sent; or it failed, and a front of such was written, or none
-- was answered and nothing written
abbrev pub EndsSending : {F : Type 0} → (List (List ℕ) → List Sent → Type 0) → List (List ℕ)
    → Option (List ℕ) → Option (List ℕ) → Result Status F → Type 0
EndsSending Suit inputs before after end = MatchResult end
    (λ status. (replies : List Sent) × Suit inputs replies × Appends before after (sent replies)
    × (exit_code status ≡ replies_status replies))
    (λ _. ((replies : List Sent) × Suit inputs replies × AppendsPart before after (sent replies))
    ⊎ (Suit [] [] × Keeps before after))

-- such replies to what was read of files of these names were sent, and of each of them where the
-- run doesn't fail; or it failed, and a front of such was written
abbrev pub EndsFiles : (List (List ℕ) → List Sent → Type 0) → (Bor Text → List ℕ → Type 0)
    → List (Bor Text) → Option (List ℕ) → Option (List ℕ) → ℕ → Type 0
EndsFiles Suit Reads names before after status =
    (inputs : List (List ℕ)) × AreReadOf Reads names inputs
    × (status ≤ 1 → length inputs ≡ length names)
    × ((replies : List Sent) × Suit inputs replies × IsSentOrCutOff replies before after status)
