-- The two sentences that the register is built for, over the bytes of requests, from new registers
-- on.
use Rattle.std.specs.Prelude.{◌≡◌, ℕ, ℤ, List, [], ◌∷◌, map, Ok, Err, if◌then◌else◌}
use Rattle.bor_register.specs.declared.filing.Outward.{Outward}
use Rattle.bor_register.specs.Register.{Register, caller_of, empty_register}
use Rattle.bor_desk.specs.Operations.Solo.{published_beside}
use Rattle.bor_desk.specs.declared.request.Request.{Request}
use Rattle.bor_desk.specs.Laws.{is_agent}
use Rattle.bor_desk.specs.Runs.{Occasion}
use Rattle.bor_wire.specs.Spelling.Spell.{Spelled}
use Rattle.bor_wire.specs.Inputs.{after}
use Rattle.bor_wire.specs.Runs.{AreReplies, AreSpelled}
use Rattle.bor_wire.specs.Reports.{AreReports}
use Rattle.bor_wire.specs.Sequences.{Exchanged, IsRun, answered, bytes_in, keep_left}

-- Requests, each as bytes, are answered one after the other: this is what they spell, and these are
-- the bytes of the replies.
pub record AreAnswered (r : Register) (inputs : List (List ℕ)) (spelled : List Spelled)
    (replies : List (List ℕ)) : Type 0 where
  pub spells : AreSpelled inputs spelled
  pub replied : AreReplies r spelled replies

-- ---- an agent's own exchanges

-- One of them: the register's day then, what the others had published, the request, and the bytes
-- of the reply.
pub record OwnExchange : Type 0 where
  pub day : ℤ
  pub others : List Outward
  pub request : Request
  pub reply : List ℕ

-- An exchange is an agent's own where its request has the agent's token. Before its enrolment an
-- agent has no token, so no exchanges.
abbrev pub own_then : List ℕ → Register → Spelled → List ℕ → List OwnExchange → List OwnExchange
own_then name r (Err why) reply rest = rest
own_then name r (Ok asked) reply rest =
    if is_agent name (caller_of asked.token r)
    then record {
      day = r.day;
      others = published_beside name r.day r.members;
      request = asked.request;
      reply = reply;
    }
    ∷ rest
    else rest

-- those of a run, in order
abbrev pub own_exchanges : List ℕ → Register → List Spelled → List (List ℕ) → List OwnExchange
own_exchanges name r (spelled ∷ rest) (reply ∷ replies) =
    own_then name r spelled reply (own_exchanges name (after r spelled) rest replies)
own_exchanges name r inputs replies = []

-- all of them but the replies
abbrev pub without_replies : List OwnExchange → List Occasion
without_replies own = map (λ e. record { day = e.day; others = e.others; request = e.request }) own

-- the bytes that the agent receives
abbrev pub replies_in : List OwnExchange → List (List ℕ)
replies_in own = map (λ e. e.reply) own

-- ---- the sentences

-- An agent's drafts stay invisible to every other agent, to the last byte of a reply. Two lists of
-- requests are each answered from a new register, whatever its registrar and its day. Where an
-- agent's own requests are the same in both, on the same days and with the same published by the
-- others at each, it receives the same bytes, whatever it asks for: chains, evidence, or the
-- entities of an identifier.
abbrev pub DraftsStayInvisible : Type 0
DraftsStayInvisible =
    (name : List ℕ) (registrar another : List ℕ) (day date : ℤ) (inputs others : List (List ℕ))
    (spelled worded : List Spelled) (replies told : List (List ℕ)) →
    let r = empty_register registrar day in let q = empty_register another date in
    let one = own_exchanges name r spelled replies in
    let other = own_exchanges name q worded told in
    AreAnswered r inputs spelled replies → AreAnswered q others worded told
    → without_replies one ≡ without_replies other → replies_in one ≡ replies_in other

-- A chain report omits nobody and invents nobody. Requests are answered from a new register: each
-- reply with status 200 to a request for chains names exactly the persons that are joined to the
-- entity, in what the caller sees, and each to a request for evidence names them with their chains.
-- Each to a request for the entities of an identifier has exactly those that the caller sees.
abbrev pub ReportsNameTheJoined : Type 0
ReportsNameTheJoined =
    (registrar : List ℕ) (day : ℤ) (inputs : List (List ℕ)) (spelled : List Spelled)
    (replies : List (List ℕ)) →
    AreAnswered (empty_register registrar day) inputs spelled replies
    → AreReports (empty_register registrar day) spelled replies

-- ---- exchanges one after the other

-- The first sentence of exchanges one after the other, from keeps of new registers. By `IsRun` they
-- are a run of what their inputs spell, and of the bytes that were sent; the second sentence is
-- `reports` of `IsRunOver`.
abbrev pub ExchangesKeepDraftsInvisible : {K : Type 0} → (K → Register → Type 0) → Type 0
ExchangesKeepDraftsInvisible {K} shows =
    (name : List ℕ) (registrar another : List ℕ) (day date : ℤ) (keep next : K)
    (exchanges others : List (Exchanged K)) →
    let r = empty_register registrar day in let q = empty_register another date in
    (run : IsRun (shows (keep_left keep exchanges)) r exchanges)
    (too : IsRun (shows (keep_left next others)) q others) →
    let one = own_exchanges name r run.spelled (bytes_in (answered exchanges)) in
    let other = own_exchanges name q too.spelled (bytes_in (answered others)) in
    without_replies one ≡ without_replies other → replies_in one ≡ replies_in other
