-- How long a client is waited for, and how much is read of it.
use Rattle.std.specs.Prelude.{ℕ, ◌*◌, ◌-◌, ◌<◌}

-- ten seconds, in nanoseconds, until its request is read
abbrev pub request_nanos : ℕ
request_nanos = 10_000_000_000

-- ten seconds in which it takes nothing of its reply
abbrev pub reply_nanos : ℕ
reply_nanos = 10_000_000_000

-- and so many bytes a second that it takes of it at least, in all and behind the first ten seconds
abbrev pub reply_floor : ℕ
reply_floor = 16_384

-- who took so many bytes in so many nanoseconds took less than the floor of each second behind the
-- first ones
abbrev pub IsBelowFloor : (floor first taken in_all : ℕ) → Type 0
IsBelowFloor floor first taken in_all = taken * 1_000_000_000 < floor * (in_all - first)

-- one second for what it is still sending then
abbrev pub rest_nanos : ℕ
rest_nanos = 1_000_000_000

-- of which at most this many bytes are read
abbrev pub rest_limit : ℕ
rest_limit = 16_777_216
