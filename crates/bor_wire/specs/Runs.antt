-- Runs over lists of inputs.
use Rattle.std.specs.Prelude.{ℕ, List, [], ◌∷◌}
use Rattle.std.specs.List.{AllZip}
use Rattle.bor_register.specs.Register.{Register}
use Rattle.bor_wire.specs.Spelling.Spell.{Spelled, Spells}
use Rattle.bor_wire.specs.Sent.{Sent, Full, Unavailable}
use Rattle.bor_wire.specs.Inputs.{IsReplyTo, after}

-- ---- the run

-- these are the replies to inputs that spell this, in order
abbrev pub AreReplies : Register → List Spelled → List (List ℕ) → Type 0
AreReplies r [] [] = Unit {0}
AreReplies r (spelled ∷ rest) (bytes ∷ replies) =
    IsReplyTo r spelled bytes × AreReplies (after r spelled) rest replies
AreReplies r inputs replies = ⊥

-- the register after them
abbrev pub register_left : Register → List Spelled → Register
register_left r [] = r
register_left r (spelled ∷ rest) = register_left (after r spelled) rest

-- ---- the part of a list of inputs that is in it

-- the inputs that were answered: one whose reply is `Unavailable` changed nothing
abbrev pub served : List (List ℕ) → List Sent → List (List ℕ)
served [] replies = []
served (input ∷ inputs) [] = []
served (input ∷ inputs) (Full status bytes ∷ replies) = input ∷ served inputs replies
served (input ∷ inputs) (Unavailable ∷ replies) = served inputs replies

-- the replies to them
abbrev pub full : List Sent → List (List ℕ)
full [] = []
full (Full status bytes ∷ replies) = bytes ∷ full replies
full (Unavailable ∷ replies) = full replies

-- each input spells this
abbrev pub AreSpelled : List (List ℕ) → List Spelled → Type 0
AreSpelled inputs spelled = AllZip Spells inputs spelled
