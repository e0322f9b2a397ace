-- How much room is reserved.
use Rattle.std.specs.Prelude.{ℕ}

-- the bytes that are reserved for the reply to a change before the desk is asked
abbrev pub reserved : ℕ
reserved = 512

-- no head is longer
abbrev pub head_room : ℕ
head_room = 192

-- no body of a refusal, or of the reply to a change, is longer
abbrev pub short_room : ℕ
short_room = 320
