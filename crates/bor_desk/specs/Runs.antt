-- Runs over lists of requests, the history of an agent in one, and the run of that agent alone.
use Rattle.std.specs.Prelude.{ℕ, ℤ, List, [], ◌∷◌, Option, Some, None, if◌then◌else◌}
use Rattle.bor_terms.specs.Texts.{is_same}
use Rattle.bor_register.specs.declared.caller.Caller.{Caller}
use Rattle.bor_register.specs.declared.caller.Caller.TheVariants.{Registrar, Agent}
use Rattle.bor_register.specs.declared.filing.AcceptedFiling.{AcceptedFiling}
use Rattle.bor_register.specs.declared.filing.Outward.{Outward}
use Rattle.bor_register.specs.Register.{Register, caller_of, filings_of}
use Rattle.bor_desk.specs.Operations.Sight.{Outcome}
use Rattle.bor_desk.specs.Operations.Solo.{published_beside, solo_register}
use Rattle.bor_desk.specs.declared.request.Request.{Request}
use Rattle.bor_desk.specs.Step.{Answer, step}

-- ---- a run

-- A request, and the token of whoever asks.
pub record Asked : Type 0 where
  pub token : List ℕ
  pub request : Request

-- one exchange: the step for whoever has the token
abbrev pub exchange : Register → Asked → Outcome Answer
exchange r a = step r (caller_of a.token r) a.request

-- the answers to requests in order
abbrev pub answers : Register → List Asked → List Answer
answers r [] = []
answers r (a ∷ rest) = (exchange r a).answer ∷ answers (exchange r a).register rest

-- the register after them
abbrev pub register_after : Register → List Asked → Register
register_after r [] = r
register_after r (a ∷ rest) = register_after (exchange r a).register rest

-- ---- an agent's part of it

-- the request, where the caller is this agent
abbrev pub request_by : List ℕ → Option Caller → Request → Option Request
request_by name None request = None
request_by name (Some Registrar) request = None
request_by name (Some (Agent other)) request = if is_same other name then Some request else None

-- the agent's request in an exchange; before its enrolment there is none
abbrev pub agent_request : List ℕ → Register → Asked → Option Request
agent_request name r a = request_by name (caller_of a.token r) a.request

-- One of an agent's own exchanges: the register's day then, what the others had published, and the
-- request.
pub record Occasion : Type 0 where
  pub day : ℤ
  pub others : List Outward
  pub request : Request

abbrev pub occasion_then : List ℕ → Register → Option Request → List Occasion → List Occasion
occasion_then name r None rest = rest
occasion_then name r (Some request) rest =
    record { day = r.day; others = published_beside name r.day r.members; request = request } ∷ rest

-- the agent's own exchanges in a run, in order
abbrev pub history : List ℕ → Register → List Asked → List Occasion
history name r [] = []
history name r (a ∷ rest) =
    occasion_then name r (agent_request name r a) (history name (exchange r a).register rest)

abbrev pub told_then : {T : Type 0} → Option Request → T → List T → List T
told_then None told rest = rest
told_then (Some request) told rest = told ∷ rest

-- of a run's answers, replies or their bytes, in order, those that the agent received
abbrev pub told_to : {T : Type 0} → List ℕ → Register → List Asked → List T → List T
told_to name r [] all = []
told_to name r (a ∷ rest) [] = []
told_to name r (a ∷ rest) (told ∷ all) =
    told_then (agent_request name r a) told (told_to name (exchange r a).register rest all)

-- the answers in a run to the agent
abbrev pub answers_to : List ℕ → Register → List Asked → List Answer
answers_to name r run = told_to name r run (answers r run)

-- ---- the agent alone

-- The answers to an agent's own exchanges alone: each is the step's in the register that is made of
-- the day, the agent's filings so far, and what the others had published then.
abbrev pub solo : List ℕ → List AcceptedFiling → List Occasion → List Answer
solo name own [] = []
solo name own (e ∷ rest) =
    let o = step (solo_register name own e.day e.others) (Some (Agent name)) e.request in
    o.answer ∷ solo name (filings_of name o.register.members) rest
