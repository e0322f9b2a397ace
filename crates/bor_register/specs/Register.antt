-- A register (this register's own rules): its day, the registrar's token, and its agents in the
-- order of their names, each with its token and its filings in order of acceptance. An order
-- between the filings of two agents is not in it, so nobody can see one.
use Rattle.std.specs.Prelude.{◌≡◌, ℕ, ℤ, List, [], ◌∷◌, ◌||◌, Bool, true, false, Option, Some, None}
use Rattle.std.specs.Prelude.{option_map, if◌then◌else◌}
use Rattle.bor_terms.specs.Texts.{is_same, is_below}
use Rattle.bor_register.specs.declared.member.Member.{Member}
use Rattle.bor_register.specs.declared.filing.AcceptedFiling.{AcceptedFiling}
use Rattle.bor_register.specs.declared.caller.Caller.{Caller}
use Rattle.bor_register.specs.declared.caller.Caller.TheVariants.{Registrar, Agent}

pub record Register : Type 0 where
  pub day : ℤ
  pub registrar : List ℕ
  pub members : List Member

-- the register with no agents and no filings
abbrev pub empty_register : List ℕ → ℤ → Register
empty_register registrar day = record { day = day; registrar = registrar; members = [] }

-- whether an agent has the name
abbrev pub is_enrolled : List ℕ → List Member → Bool
is_enrolled name [] = false
is_enrolled name (m ∷ ms) = is_same m.name name || is_enrolled name ms

-- whether an agent has the token
abbrev pub is_agents_token : List ℕ → List Member → Bool
is_agents_token token [] = false
is_agents_token token (m ∷ ms) = is_same m.token token || is_agents_token token ms

-- whether the registrar or an agent has the token
abbrev pub is_taken : List ℕ → Register → Bool
is_taken token r = is_same r.registrar token || is_agents_token token r.members

-- the agent that has the token
abbrev pub agent_with : List ℕ → List Member → Option (List ℕ)
agent_with token [] = None
agent_with token (m ∷ ms) = if is_same m.token token then Some m.name else agent_with token ms

-- who has the token: the registrar or an agent
abbrev pub caller_of : List ℕ → Register → Option Caller
caller_of token r =
    if is_same r.registrar token then Some Registrar
    else option_map Agent (agent_with token r.members)

-- the agent's filings; none where there is no such agent
abbrev pub filings_of : List ℕ → List Member → List AcceptedFiling
filings_of name [] = []
filings_of name (m ∷ ms) = if is_same m.name name then m.filings else filings_of name ms

-- the members once the agent's filings are these
abbrev pub with_filings : List ℕ → List AcceptedFiling → List Member → List Member
with_filings name filings [] = []
with_filings name filings (m ∷ ms) =
    if is_same m.name name then record m { filings = filings } ∷ ms
    else m ∷ with_filings name filings ms

-- the members once the agent's token is this one
abbrev pub with_token : List ℕ → List ℕ → List Member → List Member
with_token name token [] = []
with_token name token (m ∷ ms) =
    if is_same m.name name then record m { token = token } ∷ ms else m ∷ with_token name token ms

-- an agent that is new to the register
abbrev pub new_member : List ℕ → List ℕ → Member
new_member name token = record { name = name; token = token; filings = [] }

-- the members with one more, at the place of its name
abbrev pub with_member : Member → List Member → List Member
with_member new [] = new ∷ []
with_member new (m ∷ ms) = if is_below m.name new.name then m ∷ with_member new ms else new ∷ m ∷ ms

-- the filing that was lodged under the key
abbrev pub filing_keyed : List ℕ → List AcceptedFiling → Option AcceptedFiling
filing_keyed key [] = None
filing_keyed key (f ∷ fs) = if is_same f.key key then Some f else filing_keyed key fs

-- each name is above this one
abbrev pub AllAbove : List ℕ → List Member → Type 0
AllAbove name [] = Unit {0}
AllAbove name (m ∷ ms) = (is_below name m.name ≡ true) × AllAbove name ms

-- the names go up, so that no name comes twice
abbrev pub IsOrdered : List Member → Type 0
IsOrdered [] = Unit {0}
IsOrdered (m ∷ ms) = AllAbove m.name ms × IsOrdered ms
