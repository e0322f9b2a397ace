-- How much a mirror may hold.
use Rattle.std.specs.Prelude.{ℕ}

-- the live statements for each megabyte of memory: one takes about 1,530 bytes, measured
abbrev pub statements_a_megabyte : ℕ
statements_a_megabyte = 650
