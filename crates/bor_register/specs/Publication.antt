-- The published filings, and their outward forms, which all see (this register's own rules).
use Rattle.std.specs.Prelude.{ℕ, ℤ, int_le, List, [], ◌∷◌, ◌++◌, length, map, filter, Bool, false}
use Rattle.std.specs.Prelude.{not, ◌&&◌, Option, Some, None, codes, if◌then◌else◌}
use Rattle.bor_terms.specs.Texts.{is_same}
use Rattle.bor_register.specs.declared.agents.AgentLine.{AgentLine}
use Rattle.bor_register.specs.declared.member.Member.{Member}
use Rattle.bor_register.specs.declared.filing.AcceptedFiling.{AcceptedFiling}
use Rattle.bor_register.specs.declared.filing.Filing.{Filing}
use Rattle.bor_register.specs.declared.filing.FilingLine.{FilingLine}
use Rattle.bor_register.specs.declared.filing.Outward.{Outward}
use Rattle.bor_register.specs.declared.filing.State.{State}
use Rattle.bor_register.specs.declared.filing.State.TheVariants.{Draft, Published, Withdrawn}

-- a filing is published where it is live and its due day is at or before the register's day
abbrev pub is_published : ℤ → AcceptedFiling → Bool
is_published day f = not f.withdrawn && int_le f.due day

-- the state of a live filing's publication on a day, by its due day
abbrev pub state_of_live : ℤ → ℤ → State
state_of_live due day = if int_le due day then Published else Draft

-- the state of a filing's publication on a day
abbrev pub state_of : ℤ → AcceptedFiling → State
state_of day f = if f.withdrawn then Withdrawn else state_of_live f.due day

-- the filing as its agent reads it
abbrev pub filing_shown : AcceptedFiling → Filing
filing_shown f = record { number = f.number; due = f.due; withdrawn = f.withdrawn; bytes = f.bytes }

-- there is such a filing, and its file has these bytes
abbrev pub has_bytes : List ℕ → Option AcceptedFiling → Bool
has_bytes bytes None = false
has_bytes bytes (Some f) = is_same f.bytes bytes

-- its line in the agent's list
abbrev pub line_of : ℤ → AcceptedFiling → FilingLine
line_of day f = record { key = f.key; number = f.number; due = f.due; state = state_of day f }

-- the outward form of a published filing, which all see: neither number, nor key, nor bytes
abbrev pub outward : List ℕ → AcceptedFiling → Outward
outward name f = record { agent = name; due = f.due; statements = f.statements }

-- the outward forms of an agent's published filings, in order of acceptance
abbrev pub outwards_of : ℤ → List ℕ → List AcceptedFiling → List Outward
outwards_of day name filings = map (outward name) (filter (is_published day) filings)

-- the outward forms of all published filings, by agent
abbrev pub published : ℤ → List Member → List Outward
published day [] = []
published day (m ∷ ms) = outwards_of day m.name m.filings ++ published day ms

-- how many of an agent's filings are published
abbrev pub published_count : ℤ → List AcceptedFiling → ℕ
published_count day filings = length (filter (is_published day) filings)

-- the agent's line in the registrar's list: its name, and how many filings it has published
abbrev pub agent_line : ℤ → Member → AgentLine
agent_line day m = record { agent = m.name; published = published_count day m.filings }

-- the word that is shown for a state
unfoldable pub state_word : State → List ℕ
state_word Draft = codes "draft"
state_word Published = codes "published"
state_word Withdrawn = codes "withdrawn"
