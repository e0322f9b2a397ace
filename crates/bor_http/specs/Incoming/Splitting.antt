-- Parts of bytes.
use Rattle.std.specs.Prelude.{◌+◌, ◌==◌, ℕ, List, drop, take}
use Rattle.std.specs.List.{position_or_len}

-- the bytes before the first one that is this
abbrev pub before_byte : ℕ → List ℕ → List ℕ
before_byte byte bytes = take (position_or_len (λ b. b == byte) bytes) bytes

-- the bytes behind it; none where there is none
abbrev pub behind_byte : ℕ → List ℕ → List ℕ
behind_byte byte bytes = drop (position_or_len (λ b. b == byte) bytes + 1) bytes
