-- A register as one list of filings in order of acceptance, and the form that forgets the order
-- between agents.
use Rattle.std.specs.Prelude.{◌≡◌, ◌↔◌, ℕ, ℤ, List, [], ◌∷◌, Option, Some, None, IsSome}
use Rattle.std.specs.Prelude.{if◌then◌else◌}
use Rattle.bor_terms.specs.Texts.{is_same}
use Rattle.bor_register.specs.declared.member.Member.{Member}
use Rattle.bor_register.specs.declared.filing.AcceptedFiling.{AcceptedFiling}
use Rattle.bor_register.specs.Register.{Register, filings_of, with_member}

-- an agent with its token
pub record Agent : Type 0 where
  pub name : List ℕ
  pub token : List ℕ

-- a filing with its agent
pub record JournalEntry : Type 0 where
  pub agent : List ℕ
  pub filing : AcceptedFiling

-- all that was accepted, in order
pub record Journal : Type 0 where
  pub day : ℤ
  pub registrar : List ℕ
  pub agents : List Agent
  pub entries : List JournalEntry

-- the agent's token
abbrev pub token_of : List ℕ → List Agent → Option (List ℕ)
token_of name [] = None
token_of name (a ∷ rest) = if is_same a.name name then Some a.token else token_of name rest

-- the agent's filings, in order
abbrev pub entries_of : List ℕ → List JournalEntry → List AcceptedFiling
entries_of name [] = []
entries_of name (e ∷ rest) =
    if is_same e.agent name then e.filing ∷ entries_of name rest else entries_of name rest

abbrev pub members_from : List Agent → List JournalEntry → List Member
members_from [] entries = []
members_from (a ∷ rest) entries =
    with_member (record { name = a.name; token = a.token; filings = entries_of a.name entries })
    (members_from rest entries)

-- the register that a journal stands for
abbrev pub register_of : Journal → Register
register_of j =
    record { day = j.day; registrar = j.registrar; members = members_from j.agents j.entries }

-- no name comes twice
abbrev pub AreNamedOnce : List Agent → Type 0
AreNamedOnce [] = Unit {0}
AreNamedOnce (a ∷ rest) = (token_of a.name rest ≡ None) × AreNamedOnce rest

-- each filing's agent is enrolled
abbrev pub AreOfAgents : List Agent → List JournalEntry → Type 0
AreOfAgents agents [] = Unit {0}
AreOfAgents agents (e ∷ rest) = IsSome (token_of e.agent agents) × AreOfAgents agents rest

-- names are distinct, and each filing's agent is enrolled
pub record IsInOrder (j : Journal) : Type 0 where
  pub named : AreNamedOnce j.agents
  pub enrolled : AreOfAgents j.agents j.entries

-- Two journals with one day and the same tokens, and with each agent's filings in the same order;
-- the order between agents doesn't count.
pub record AreAlike (j k : Journal) : Type 0 where
  pub day : j.day ≡ k.day
  pub registrar : j.registrar ≡ k.registrar
  pub tokens : (name : List ℕ) → token_of name j.agents ≡ token_of name k.agents
  pub filings : (name : List ℕ) → entries_of name j.entries ≡ entries_of name k.entries

-- Two journals stand for one register exactly where they are alike.
abbrev pub OrderBetweenAgentsIsForgotten : Type 0
OrderBetweenAgentsIsForgotten =
    (j k : Journal) → IsInOrder j → IsInOrder k → (register_of j ≡ register_of k) ↔ AreAlike j k

-- A register has each agent's filings of its journal, in their order.
abbrev pub FilingsStayInOrder : Type 0
FilingsStayInOrder =
    (j : Journal) → IsInOrder j → (name : List ℕ)
    → filings_of name (register_of j).members ≡ entries_of name j.entries
