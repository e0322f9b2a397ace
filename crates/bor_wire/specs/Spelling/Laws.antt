-- Laws of what inputs spell.
use Rattle.std.specs.Prelude.{◌≡◌, ◌≢◌, ℕ, List, ◌++◌, Result, Err}
use Rattle.bor_http.specs.declared.incoming.fault.Refusal.{Refusal}
use Rattle.bor_http.specs.declared.incoming.fault.Refusal.TheVariants.{CutShort}
use Rattle.bor_http.specs.Incoming.Message.{Message}
use Rattle.bor_http.specs.Incoming.Steps.{◌>>=◌}
use Rattle.bor_http.specs.Incoming.Refusals.{IsMessage}
use Rattle.bor_wire.specs.Spelling.Spell.{Spelled, Spells, spell}

-- an input spells one thing
abbrev pub SpellsOne : Type 0
SpellsOne = (input : List ℕ) (a b : Spelled) → Spells input a → Spells input b → a ≡ b

-- the message that an input is, or why it is none, says what the input spells
abbrev pub MessageSpells : Type 0
MessageSpells =
    (input : List ℕ) (read : Result Message Refusal) → IsMessage input read
    → Spells input (read >>= spell)

-- bytes behind a request have no effect, nor have those behind an input that is refused for another
-- cause than its end
abbrev pub WhatFollowsIsPassedOver : Type 0
WhatFollowsIsPassedOver =
    (input more : List ℕ) (spelled : Spelled) → spelled ≢ Err CutShort → Spells input spelled
    → Spells (input ++ more) spelled
