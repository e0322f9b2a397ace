-- The part of a run that an agent receives.
use Rattle.std.specs.Prelude.{◌≡◌, ℕ, List, [], ◌∷◌, length, Ok, Err}
use Rattle.std.specs.List.{AllZip}
use Rattle.bor_register.specs.Register.{Register, filings_of}
use Rattle.bor_desk.specs.Operations.Legality.{IsLegal}
use Rattle.bor_desk.specs.declared.reply.DeskReply.{DeskReply}
use Rattle.bor_desk.specs.Step.{Answer}
use Rattle.bor_desk.specs.Outcomes.{IsTold}
use Rattle.bor_desk.specs.Runs.{Asked, Occasion, told_to, history, solo}
use Rattle.bor_wire.specs.Spelling.Spell.{Spelled}
use Rattle.bor_wire.specs.Rendering.Replies.{answered, bytes_of}
use Rattle.bor_wire.specs.Runs.{AreReplies}

-- these are the bytes of a reply that has the answer
abbrev pub AreBytesOf : Answer → List ℕ → Type 0
AreBytesOf answer bytes =
    (reply : DeskReply) × IsTold answer reply × (bytes ≡ bytes_of (answered reply))

-- the requests among what was spelled
abbrev pub asked_in : List Spelled → List Asked
asked_in [] = []
asked_in (Err why ∷ rest) = asked_in rest
asked_in (Ok asked ∷ rest) = asked ∷ asked_in rest

-- the replies to them
abbrev pub replies_to_requests : List Spelled → List (List ℕ) → List (List ℕ)
replies_to_requests [] replies = []
replies_to_requests (spelled ∷ rest) [] = []
replies_to_requests (Err why ∷ rest) (bytes ∷ replies) = replies_to_requests rest replies
replies_to_requests (Ok asked ∷ rest) (bytes ∷ replies) = bytes ∷ replies_to_requests rest replies

-- of the replies in a run those to the agent: to requests that have the token that it has then,
-- from its enrolment on
abbrev pub received : List ℕ → Register → List Spelled → List (List ℕ) → List (List ℕ)
received name r inputs replies =
    told_to name r (asked_in inputs) (replies_to_requests inputs replies)

-- The agent's history in a run: of the inputs the requests that have the token that it has then,
-- from its enrolment on, each with the day and what the others had published then.
abbrev pub history_in : List ℕ → Register → List Spelled → List Occasion
history_in name r inputs = history name r (asked_in inputs)

-- The answers that follow from the agent's filings at the start and its history.
abbrev pub solo_in : List ℕ → Register → List Spelled → List Answer
solo_in name r inputs = solo name (filings_of name r.members) (history_in name r inputs)

-- The agent receives the bytes of the answers to its own exchanges alone: those that follow from
-- its filings at the start and its history.
abbrev pub IsAlone : List ℕ → Register → List Spelled → List (List ℕ) → Type 0
IsAlone name r inputs replies =
    AllZip AreBytesOf (solo_in name r inputs) (received name r inputs replies)

-- Two runs that agree on an agent's filings at the start and on its history give it the same bytes,
-- in the same order.
abbrev pub SameHistorySameBytes : Type 0
SameHistorySameBytes =
    (name : List ℕ) (r q : Register) (inputs others : List Spelled) (replies told : List (List ℕ))
    → IsLegal r → IsLegal q →
    AreReplies r inputs replies → AreReplies q others told →
    filings_of name r.members ≡ filings_of name q.members
    → history_in name r inputs ≡ history_in name q others →
    received name r inputs replies ≡ received name q others told

-- With one reply for each input of a run, an agent receives one for each exchange of its history.
-- This holds of every register.
abbrev pub EachIsReceived : Type 0
EachIsReceived =
    (name : List ℕ) (r : Register) (inputs : List Spelled) (replies : List (List ℕ))
    → length replies ≡ length inputs →
    length (received name r inputs replies) ≡ length (history_in name r inputs)
