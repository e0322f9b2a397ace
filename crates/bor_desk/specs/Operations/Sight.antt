-- The part of a register that a caller can see, and the answer of an operation with the register
-- after it.
use Rattle.std.specs.Prelude.{ℕ, ℤ, List, map}
use Rattle.bor_records.specs.declared.row.Row.{Row}
use Rattle.bor_register.specs.declared.filing.AcceptedFiling.{AcceptedFiling}
use Rattle.bor_register.specs.declared.filing.Outward.{Outward}
use Rattle.bor_register.specs.Register.{Register, filings_of}
use Rattle.bor_register.specs.Publication.{published}
use Rattle.bor_register.specs.Rows.{visible}

-- All that an answer to an agent depends on: the day, the agent's own filings, the outward forms of
-- what is published, and the statements that the agent sees.
pub record Sight : Type 0 where
  pub day : ℤ
  pub own : List AcceptedFiling
  pub published : List Outward
  pub seen : List Row

-- a row without the number of its filing: 0 is no filing's number
abbrev pub unnumbered : Row → Row
unnumbered row = record row { filing = 0 }

-- the statements that a viewer sees, by agent; no number of a filing is among them
abbrev pub seen_by : List ℕ → Register → List Row
seen_by viewer r = map unnumbered (visible viewer r.day r.members)

-- the part of the register that the agent sees
abbrev pub sight_of : List ℕ → Register → Sight
sight_of name r =
    record {
      day = r.day;
      own = filings_of name r.members;
      published = published r.day r.members;
      seen = seen_by name r;
    }

-- An answer and the register after it.
pub record Outcome (A : Type 0) : Type 0 where
  pub answer : A
  pub register : Register
