-- Inputs that are nobody's: they spell no request, or one with a token that nobody has.
use Rattle.std.specs.Prelude.{◌≡◌, ◌↔◌, ℕ, List, ◌∷◌, ◌++◌, length, None, Ok, Err}
use Rattle.bor_register.specs.Register.{Register, caller_of}
use Rattle.bor_desk.specs.declared.refusal.Refusal.TheVariants.{NoAgent}
use Rattle.bor_desk.specs.declared.reply.DeskReply.TheVariants.{Refused}
use Rattle.bor_desk.specs.Runs.{history}
use Rattle.bor_wire.specs.Spelling.Spell.{Spelled, Spells}
use Rattle.bor_wire.specs.Rendering.Replies.{Said, refused, answered}
use Rattle.bor_wire.specs.Inputs.{IsSaid, IsReplyTo, after}
use Rattle.bor_wire.specs.Runs.{register_left}
use Rattle.bor_wire.specs.Histories.{asked_in, received}

-- the input spells no request, or one with a token that neither the registrar nor an agent has
abbrev pub IsNobodys : Register → Spelled → Type 0
IsNobodys r (Err why) = Unit {0}
IsNobodys r (Ok asked) = caller_of asked.token r ≡ None

-- the answer to it, in whatever register: its refusal, or that no agent has the token
abbrev pub said_to_nobody : Spelled → Said
said_to_nobody (Err why) = refused why
said_to_nobody (Ok asked) = answered (Refused NoAgent)

-- Wherever an input of a run is nobody's, it leaves the register, it is in no agent's history, and
-- no agent receives its reply. What is said to it follows from what it spells; so its bytes alone
-- give its reply, in all registers in which they are nobody's. This holds of every register.
pub record NobodysInputs : Type 0 where
  pub left : (r : Register) (spelled : Spelled) → IsNobodys r spelled → after r spelled ≡ r
  pub in_no_history : (name : List ℕ) (r : Register) (earlier later : List Spelled)
      (spelled : Spelled)
      → IsNobodys (register_left r earlier) spelled →
      history name r (asked_in (earlier ++ spelled ∷ later))
      ≡ history name r (asked_in (earlier ++ later))
  pub received_by_none : (name : List ℕ) (r : Register) (earlier later : List Spelled)
      (spelled : Spelled) (replies others : List (List ℕ)) (bytes : List ℕ) →
      length earlier ≡ length replies → IsNobodys (register_left r earlier) spelled →
      received name r (earlier ++ spelled ∷ later) (replies ++ bytes ∷ others)
      ≡ received name r (earlier ++ later) (replies ++ others)
  pub said : (r : Register) (spelled : Spelled) (said : Said) → IsNobodys r spelled
      → IsSaid r spelled said ↔ (said ≡ said_to_nobody spelled)
  pub by_its_bytes : (input : List ℕ) (r q : Register) (one other : Spelled) (bytes others : List ℕ)
      → Spells input one → Spells input other →
      IsNobodys r one → IsNobodys q other → IsReplyTo r one bytes → IsReplyTo q other others
      → bytes ≡ others
