-- Maps beside the filings of a register in memory; for clauses of private functions alone.
use Rattle.std.specs.Prelude.{◌≡◌, ◌++◌, ℕ, List, [], ◌∷◌, map, Contains, Bool, None}
use Rattle.std.specs.Prelude.{Some}
use Rattle.std.specs.Ordering.{is_eq, ordering_then}
use Rattle.std.specs.declared.cmp.Ordering.{Ordering}
use Rattle.bods_read.specs.declared.details.Details.{Details}
use Rattle.bods_read.specs.declared.details.Details.TheVariants as details
use Rattle.bods_read.specs.declared.statement.Statement.{Statement}
use Rattle.bor_records.specs.declared.links.node.Node.{Node}
use Rattle.bor_records.specs.declared.links.sign.Sign.{Sign}
use Rattle.bor_records.specs.Links.Nodes.{node_cmp, text_cmp}
use Rattle.bor_records.specs.Links.Series.{stated}
use Rattle.bor_records.specs.Links.Signs.{by_identifier, by_record, sign_cmp}
use Rattle.bor_records.specs.Links.Values.{under}
use Rattle.bor_register.specs.declared.filing.AcceptedFiling.{AcceptedFiling}
use Rattle.bor_register.specs.declared.member.Member.{Member}
use Rattle.bor_register.specs.declared.memory.index.Index.{Index}
use Rattle.bor_register.specs.declared.memory.index.StatementKey.{StatementKey}
use Rattle.bor_register.specs.Register.{filings_of}
use Rattle.bor_register.specs.Memory.Sited.{ArePlacesOf, places_from}

-- by identifier, then agent
abbrev pub key_cmp : StatementKey → StatementKey → Ordering
key_cmp a b = ordering_then (text_cmp a.id b.id) (text_cmp a.agent b.agent)

abbrev pub key_of : List ℕ → Statement → StatementKey
key_of agent s = record { id = s.id; agent = agent }

-- the statement is of the record
abbrev pub has_record : Node → Statement → Bool
has_record n s = is_eq (node_cmp (stated n.agent s) n)

-- the statement has the identifier
abbrev pub has_key : StatementKey → Statement → Bool
has_key k s = is_eq (key_cmp (key_of k.agent s) k)

-- a record of the declaration of an agent's statement
abbrev pub record_beside : List ℕ → Statement → List ℕ → Node
record_beside agent s rec = record { agent = agent; declaration = s.declaration; rec = rec }

-- the record that a relationship names as its subject
abbrev pub subjects_in : List ℕ → Statement → Details → List Node
subjects_in agent s (details.Entity kind name identifiers) = []
subjects_in agent s (details.Person kind name) = []
subjects_in agent s (details.Relationship None party interests) = []
subjects_in agent s (details.Relationship (Some subject) party interests) =
    record_beside agent s subject ∷ []

abbrev pub subjects_of : List ℕ → Statement → List Node
subjects_of agent s = subjects_in agent s s.details

-- the signs of the entity that an agent's statement makes
abbrev pub signs_stated : Node → Details → List Sign
signs_stated n (details.Entity kind name identifiers) = by_record n ∷ map by_identifier identifiers
signs_stated n (details.Person kind name) = []
signs_stated n (details.Relationship subject party interests) = []

abbrev pub signs_of : List ℕ → Statement → List Sign
signs_of agent s = signs_stated (stated agent s) s.details

-- The record of each statement of the agent is added under the statement's keys, and what was there
-- stays.
pub record AreNoted {K : Type 0} (keys : List ℕ → Statement → List K) (agent : List ℕ)
    (ss : List Statement) (was now : K → List Node) : Type 0 where
  pub stays : (k : K) (m : Node) → Contains (was k) m → Contains (now k) m
  pub there : (s : Statement) (k : K) → Contains ss s → Contains (keys agent s) k
      → Contains (now k) (stated agent s)

-- the live statements of an agent's filings
abbrev pub statements_in : List AcceptedFiling → List Statement
statements_in [] = []
statements_in (f ∷ fs) = f.statements ++ statements_in fs

-- the record of each agent's live statement stands under the statement's keys
abbrev pub AllNoted : {K : Type 0} → (List ℕ → Statement → List K) → List Member
    → (K → List Node) → Type 0
AllNoted {K} keys ms now =
    (agent : List ℕ) (s : Statement) (k : K) → Contains (statements_in (filings_of agent ms)) s
    → Contains (keys agent s) k → Contains (now k) (stated agent s)

-- The maps are those of the members' filings.
pub record IsIndex (ms : List Member) (x : Index) : Type 0 where
  pub series : (n : Node)
      → ArePlacesOf (filings_of n.agent ms) (has_record n) (under node_cmp x.series n)
  pub named : (k : StatementKey)
      → ArePlacesOf (filings_of k.agent ms) (has_key k) (under key_cmp x.named k)
  pub naming : AllNoted subjects_of ms (under node_cmp x.naming)
  pub signed : AllNoted signs_of ms (under sign_cmp x.signed)

-- the record of each statement that the agent may make leads to the places of its statements in the
-- agent's filings
abbrev pub LeadsToAll : List ℕ → List AcceptedFiling → Index → Type 0
LeadsToAll agent fs x =
    (s : Statement)
    → ArePlacesOf fs (has_record (stated agent s)) (under node_cmp x.series (stated agent s))

-- Statements of an agent's filing, which has this index, are added to the maps: those from a place
-- on.
pub record IsGrown (agent : List ℕ) (filing start : ℕ) (ss : List Statement)
    (old new : Index) : Type 0 where
  pub series : (n : Node) → under node_cmp new.series n ≡ under node_cmp old.series n
      ++ places_from (λ s. is_eq (node_cmp (stated agent s) n)) filing start ss
  pub named : (k : StatementKey) → under key_cmp new.named k ≡ under key_cmp old.named k
      ++ places_from (λ s. is_eq (key_cmp (key_of agent s) k)) filing start ss
  pub naming : AreNoted subjects_of agent ss (under node_cmp old.naming) (under node_cmp new.naming)
  pub signed : AreNoted signs_of agent ss (under sign_cmp old.signed) (under sign_cmp new.signed)
