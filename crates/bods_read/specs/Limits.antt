-- How much a file may hold (this register's profile).
use Rattle.std.specs.Prelude.{ℕ}

-- the statements of a file
abbrev pub statements_limit : ℕ
statements_limit = 1000

-- the items of a member that is an array: interests, identifiers
abbrev pub items_limit : ℕ
items_limit = 100
