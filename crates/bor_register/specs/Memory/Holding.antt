-- The contents of a register in memory.
use Rattle.std.specs.Prelude.{ℕ}
use Rattle.bor_register.specs.Register.{Register}

-- a register, and how many calls have answered a fault
pub record Holding : Type 0 where
  pub register : Register
  pub faults : ℕ
