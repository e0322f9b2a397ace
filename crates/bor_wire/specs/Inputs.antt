-- The answer to one input, and the register after it.
use Rattle.std.specs.Prelude.{◌≡◌, ℕ, List, Ok, Err}
use Rattle.bor_register.specs.Register.{Register}
use Rattle.bor_desk.specs.declared.reply.DeskReply.{DeskReply}
use Rattle.bor_desk.specs.Outcomes.{IsTold}
use Rattle.bor_desk.specs.Runs.{exchange}
use Rattle.bor_wire.specs.Spelling.Spell.{Spelled}
use Rattle.bor_wire.specs.Rendering.Replies.{Said, refused, answered, bytes_of}

-- If the input spells no request, its refusal is said; else a reply that has the step's answer.
abbrev pub IsSaid : Register → Spelled → Said → Type 0
IsSaid r (Err why) said = said ≡ refused why
IsSaid r (Ok asked) said =
    (reply : DeskReply) × IsTold (exchange r asked).answer reply × (said ≡ answered reply)

-- these are the bytes of what is said to the input
abbrev pub IsReplyTo : Register → Spelled → List ℕ → Type 0
IsReplyTo r spelled bytes = (said : Said) × IsSaid r spelled said × (bytes ≡ bytes_of said)

-- the register after it
abbrev pub after : Register → Spelled → Register
after r (Err why) = r
after r (Ok asked) = (exchange r asked).register
