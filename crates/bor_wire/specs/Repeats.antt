-- A lodging or a renewal that is sent again (this register's own rules): it acts once.
use Rattle.std.specs.Prelude.{◌≡◌, ◌≢◌, ◌⊎◌, ℕ, ℤ, Bool, List, Some, Ok, Err, false}
use Rattle.std.specs.List.{list_any}
use Rattle.bor_terms.specs.Texts.{is_same}
use Rattle.bor_register.specs.declared.caller.Caller.TheVariants.{Agent}
use Rattle.bor_register.specs.declared.filing.AcceptedFiling.{AcceptedFiling}
use Rattle.bor_register.specs.Register.{Register, caller_of, filings_of, filing_keyed}
use Rattle.bor_register.specs.Publication.{state_of}
use Rattle.bor_desk.specs.declared.operations.lodging.Lodged.{Lodged}
use Rattle.bor_desk.specs.declared.refusal.Refusal.TheVariants.{KeyReused}
use Rattle.bor_desk.specs.declared.request.Request.{Request}
use Rattle.bor_desk.specs.declared.request.Request.TheVariants as of
use Rattle.bor_desk.specs.declared.request.AgentRequest.TheVariants.{Lodge}
use Rattle.bor_desk.specs.declared.request.RegistrarRequest.TheVariants.{Renew}
use Rattle.bor_desk.specs.declared.reply.DeskReply.TheVariants as tell
use Rattle.bor_desk.specs.Runs.{Asked}
use Rattle.bor_wire.specs.Spelling.Spell.{Spelled, Spells}
use Rattle.bor_wire.specs.Rendering.Replies.{Said, answered, status_of, reply_body, bytes_of}
use Rattle.bor_wire.specs.Inputs.{IsSaid, IsReplyTo, after}
use Rattle.bor_wire.specs.Refused.{HasStatus}
use Rattle.bor_wire.specs.Runs.{register_left}

-- ---- who has a token

-- whether the request is to renew the agent's token
abbrev pub asks_renewal : List ℕ → Request → Bool
asks_renewal name (of.Registrar (Renew other token)) = is_same other name
asks_renewal name request = false

abbrev pub renews : List ℕ → Spelled → Bool
renews name (Err why) = false
renews name (Ok asked) = asks_renewal name asked.request

-- One agent has both tokens, each in its register: a token that stays, or an old and a new one.
pub record AreOneAgents (r : Register) (token : List ℕ) (q : Register)
    (other : List ℕ) : Type 0 where
  pub agent : List ℕ
  pub before : caller_of token r ≡ Some (Agent agent)
  pub now : caller_of other q ≡ Some (Agent agent)

-- ---- a lodging

-- The request is the lodging of a file under a key, due on a day, and is answered so: its agent has
-- the filing, whether the lodging is new or not.
pub record IsLodged (r : Register) (asked : Asked) (key : List ℕ) (due : ℤ) (file : List ℕ)
    (told : Lodged) : Type 0 where
  pub request : asked.request ≡ of.Agent (Lodge key due file)
  pub said : IsSaid r (Ok asked) (answered (tell.Lodged told))

-- The parts of a repeated reply on a filing: its number and its due day as before, its state now,
-- and that it isn't new.
abbrev pub told_again : ℤ → AcceptedFiling → Lodged → Lodged
told_again day filing told =
    record { number = told.number; due = told.due; state = state_of day filing; fresh = false }

-- The lodging was answered before, and is sent again: the agent's filing is there under the key,
-- withdrawn ones too, and is the answer again. The status is 200, the body is the one before where
-- the filing's state is, and nothing changes.
pub record IsToldAgain (q : Register) (asked : Asked) (key : List ℕ) (told : Lodged) : Type 0 where
  pub agent : List ℕ
  pub caller : caller_of asked.token q ≡ Some (Agent agent)
  pub filing : AcceptedFiling
  pub keyed : filing_keyed key (filings_of agent q.members) ≡ Some filing
  pub said : (said : Said) → IsSaid q (Ok asked) said
      → said ≡ answered (tell.Lodged (told_again q.day filing told))
  pub status : (said : Said) → IsSaid q (Ok asked) said → status_of said ≡ 200
  pub body : (said : Said) → IsSaid q (Ok asked) said → state_of q.day filing ≡ told.state
      → reply_body said ≡ reply_body (answered (tell.Lodged told))
  pub left : after q (Ok asked) ≡ q

-- The bytes of its reply: they have the filing again, with status 200, and nothing changes.
pub record IsRepliedAgain (q : Register) (spelled : Spelled) (bytes : List ℕ)
    (told : Lodged) : Type 0 where
  pub filing : AcceptedFiling
  pub reply : bytes ≡ bytes_of (answered (tell.Lodged (told_again q.day filing told)))
  pub status : HasStatus bytes 200
  pub left : after q spelled ≡ q

-- The key is refused to anything else, and nothing changes.
pub record IsReused (q : Register) (asked : Asked) : Type 0 where
  pub said : (said : Said) → IsSaid q (Ok asked) said → said ≡ answered (tell.Refused KeyReused)
  pub left : after q (Ok asked) ≡ q

-- ---- a renewal

-- The request is to renew an agent's token, and is answered so, whether the token is new or not.
pub record IsRenewed (r : Register) (asked : Asked) (name token : List ℕ) : Type 0 where
  pub request : asked.request ≡ of.Registrar (Renew name token)
  pub said : IsSaid r (Ok asked) (answered (tell.Renewed name))

-- The renewal was answered before, and is sent again: the agent has the token, the answer is the
-- same, and nothing changes.
pub record IsRenewedAgain (q : Register) (asked : Asked) (name token : List ℕ) : Type 0 where
  pub caller : caller_of token q ≡ Some (Agent name)
  pub said : (said : Said) → IsSaid q (Ok asked) said → said ≡ answered (tell.Renewed name)
  pub left : after q (Ok asked) ≡ q

-- ---- the laws

-- A lodging that was answered acts once. Whatever is asked after it, by its agent, by others and by
-- the registrar, the same lodging of its agent is answered again, also where the same bytes are
-- sent again; and one of its agent under the same key with another due day or another file is
-- refused. The agent may have another token by then: it keeps the one that it has until a request
-- to renew it. So does a renewal that was answered act once. This holds of every register.
pub record RepeatsActOnce : Type 0 where
  pub told : (r : Register) (asked again : Asked) (key : List ℕ) (due : ℤ) (file : List ℕ)
      (told : Lodged) (between : List Spelled) →
      IsLodged r asked key due file told → again.request ≡ asked.request
      → AreOneAgents r asked.token (register_left (after r (Ok asked)) between) again.token
      → IsToldAgain (register_left (after r (Ok asked)) between) again key told
  pub replied : (r : Register) (input : List ℕ) (asked : Asked) (again : Spelled) (key : List ℕ)
      (due : ℤ) (file : List ℕ) (told : Lodged) (between : List Spelled) (bytes : List ℕ) →
      Spells input (Ok asked) → Spells input again → IsLodged r asked key due file told
      → AreOneAgents r asked.token (register_left (after r (Ok asked)) between) asked.token
      → IsReplyTo (register_left (after r (Ok asked)) between) again bytes →
      IsRepliedAgain (register_left (after r (Ok asked)) between) again bytes told
  pub reused : (r : Register) (asked another : Asked) (key : List ℕ) (due date : ℤ)
      (file other : List ℕ) (told : Lodged) (between : List Spelled) →
      IsLodged r asked key due file told
      → AreOneAgents r asked.token (register_left (after r (Ok asked)) between) another.token
      → another.request ≡ of.Agent (Lodge key date other) → (date ≢ due) ⊎ (other ≢ file) →
      IsReused (register_left (after r (Ok asked)) between) another
  pub kept : (r : Register) (token name : List ℕ) (inputs : List Spelled)
      → caller_of token r ≡ Some (Agent name) → list_any (renews name) inputs ≡ false
      → caller_of token (register_left r inputs) ≡ Some (Agent name)
  pub renewed : (r : Register) (asked : Asked) (name token : List ℕ) (between : List Spelled)
      → IsRenewed r asked name token → list_any (renews name) between ≡ false
      → IsRenewedAgain (register_left (after r (Ok asked)) between) asked name token
