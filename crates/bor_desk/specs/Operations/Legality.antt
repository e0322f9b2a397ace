-- The facts that hold of a new register, and of each that requests lead to from one (this
-- register's own rules).
use Rattle.std.specs.Prelude.{◌≡◌, ℕ, ◌+◌, ◌≤◌, List, [], ◌∷◌, ◌++◌, length, map, Bool, true, false}
use Rattle.std.specs.Prelude.{None, Ok}
use Rattle.bods_read.specs.File.{reading}
use Rattle.bor_records.specs.Admission.{Live}
use Rattle.bor_records.specs.Settling.{as_live}
use Rattle.bor_register.specs.declared.member.Member.{Member}
use Rattle.bor_register.specs.declared.filing.AcceptedFiling.{AcceptedFiling}
use Rattle.bor_register.specs.Limits.{filings_limit}
use Rattle.bor_register.specs.Register.{Register, filing_keyed, is_agents_token, IsOrdered}
use Rattle.bor_desk.specs.Operations.Lodging.{settled_reading}

-- the numbers go up by one
abbrev pub IsNumberedFrom : ℕ → List AcceptedFiling → Type 0
IsNumberedFrom n [] = Unit {0}
IsNumberedFrom n (f ∷ fs) = (f.number ≡ n) × IsNumberedFrom (n + 1) fs

-- no key comes twice
abbrev pub IsKeyedOnce : List AcceptedFiling → Type 0
IsKeyedOnce [] = Unit {0}
IsKeyedOnce (f ∷ fs) = (filing_keyed f.key fs ≡ None) × IsKeyedOnce fs

-- a live filing's statements are those of its file, each legal after the agent's live statements
-- before it and settled so; a withdrawn one has none
abbrev pub IsReadFromFile : Bool → List Live → AcceptedFiling → Type 0
IsReadFromFile true live f = f.statements ≡ []
IsReadFromFile false live f = settled_reading live f.due (reading f.bytes) ≡ Ok f.statements

abbrev pub AreRead : List Live → List AcceptedFiling → Type 0
AreRead live [] = Unit {0}
AreRead live (f ∷ fs) =
    IsReadFromFile f.withdrawn live f × AreRead (live ++ map (as_live f.due) f.statements) fs

-- an agent's filings obey the rules
pub record AreLegal (filings : List AcceptedFiling) : Type 0 where
  pub numbered : IsNumberedFrom 1 filings
  pub few : length filings ≤ filings_limit
  pub keyed : IsKeyedOnce filings
  pub read : AreRead [] filings

abbrev pub AllLegal : List Member → Type 0
AllLegal [] = Unit {0}
AllLegal (m ∷ ms) = AreLegal m.filings × AllLegal ms

-- no token comes twice among the agents
abbrev pub AreTokensDistinct : List Member → Type 0
AreTokensDistinct [] = Unit {0}
AreTokensDistinct (m ∷ ms) = (is_agents_token m.token ms ≡ false) × AreTokensDistinct ms

-- The register obeys the rules. That each filing's agent is enrolled is in its form: filings stand
-- with their agent.
pub record IsLegal (r : Register) : Type 0 where
  pub names : IsOrdered r.members
  pub tokens : AreTokensDistinct r.members
  pub registrar : is_agents_token r.registrar r.members ≡ false
  pub own : AllLegal r.members
