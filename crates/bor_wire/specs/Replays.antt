-- The promises of a run, and of the replies to a list of inputs.
use Rattle.std.specs.Prelude.{ℕ, List}
use Rattle.bor_register.specs.Register.{Register}
use Rattle.bor_desk.specs.Operations.Legality.{IsLegal}
use Rattle.bor_wire.specs.Spelling.Spell.{Spelled}
use Rattle.bor_wire.specs.Sent.{Sent}
use Rattle.bor_wire.specs.Runs.{AreReplies, AreSpelled, full, register_left, served}
use Rattle.bor_wire.specs.Histories.{IsAlone}
use Rattle.bor_wire.specs.Reports.{AreReports}
use Rattle.bor_wire.specs.Refused.{RefusalsLeave}

-- The run from the register r over inputs that spell this, with the bytes of its replies.
pub record IsRunOver (Shown : Register → Type 0) (r : Register) (spelled : List Spelled)
    (sent : List (List ℕ)) : Type 0 where
  -- they are the replies to the inputs, in order
  pub replies : AreReplies r spelled sent
  -- the register after them is shown, and is legal
  pub left : Shown (register_left r spelled)
  pub legal : IsLegal (register_left r spelled)
  -- each agent receives what it would alone
  pub alone : (name : List ℕ) → IsAlone name r spelled sent
  -- a report on chains with status 200 names exactly the persons joined to the entity
  pub reports : AreReports r spelled sent
  -- a reply with a status of 400 or more leaves the register as it was
  pub refused : RefusalsLeave r spelled sent

-- Without the inputs whose reply is `Unavailable`, the replies are those of the run over whatever
-- the others spell.
abbrev pub IsReplayed : (Register → Type 0) → Register → List (List ℕ) → List Sent → Type 0
IsReplayed Shown r inputs replies =
    (spelled : List Spelled) → AreSpelled (served inputs replies) spelled
    → IsRunOver Shown r spelled (full replies)
