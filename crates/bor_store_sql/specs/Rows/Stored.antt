-- The facts that hold of a register that stands in tables.
use Rattle.std.specs.Prelude.{◌≡◌, ◌<◌, ◌^◌, ℕ, ◌+◌, List, [], ◌∷◌, All, length}
use Rattle.bods_read.specs.declared.statement.Statement.{Statement}
use Rattle.bor_register.specs.Register.{Register, IsOrdered}
use Rattle.bor_register.specs.Forms.{IsFormed}
use Rattle.bor_register.specs.declared.filing.AcceptedFiling.{AcceptedFiling}
use Rattle.bor_register.specs.declared.member.Member.{Member}
use Rattle.bor_store_sql.specs.Rows.Placed.{interests_listed, identifiers_listed}

-- each agent's filings are numbered from 1 on
abbrev pub AreNumbered : ℕ → List AcceptedFiling → Type 0
AreNumbered n [] = Unit {0}
AreNumbered n (f ∷ fs) = (f.number ≡ n) × AreNumbered (n + 1) fs

abbrev pub AllNumbered : List Member → Type 0
AllNumbered [] = Unit {0}
AllNumbered (m ∷ ms) = AreNumbered 1 m.filings × AllNumbered ms

-- The places of its interests and of its identifiers are numbers of 32 bits.
pub record IsCounted (s : Statement) : Type 0 where
  pub interests : length (interests_listed s.details) < 2 ^ 32
  pub identifiers : length (identifiers_listed s.details) < 2 ^ 32

-- The places of a file's statements are numbers of 32 bits too.
pub record AreCounted (ss : List Statement) : Type 0 where
  pub few : length ss < 2 ^ 32
  pub each : All IsCounted ss

-- The names go up, each agent's filings are numbered from 1 on, each value has its form, and the
-- places are numbers of 32 bits.
pub record IsStored (r : Register) : Type 0 where
  pub ordered : IsOrdered r.members
  pub numbered : AllNumbered r.members
  pub formed : IsFormed r
  pub counted : All
      (λ (m : Member). All (λ (f : AcceptedFiling). AreCounted f.statements) m.filings) r.members
