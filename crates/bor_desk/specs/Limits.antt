-- The limits on values and lists.
use Rattle.std.specs.Prelude.{ℕ}

-- the bytes of a file: 1,048,576, which is 2^20
abbrev pub file_limit : ℕ
file_limit = 1_048_576
