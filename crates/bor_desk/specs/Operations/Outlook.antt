-- The meaning of a source over a keep.
use Rattle.std.specs.Prelude.{ℕ, ℤ, List}
use Rattle.bor_records.specs.Links.Shown.{Shown}
use Rattle.bor_register.specs.Register.{Register}
use Rattle.bor_register.specs.Seen.{seen_at}

-- A viewer, a day and a register.
pub record Outlook : Type 0 where
  pub viewer : List ℕ
  pub day : ℤ
  pub register : Register

-- the nodes and links, on the day, of what the viewer sees of the register
abbrev pub shown_to : Outlook → Shown
shown_to m = seen_at m.viewer m.day m.register
