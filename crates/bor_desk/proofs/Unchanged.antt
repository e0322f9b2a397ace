-- The requests that leave the register as it was: refusals, and requests that only read.
use Rattle.std.proofs.Common.{◌≡◌, ℕ, ℤ, List, arith, true, false, Option, Some, refl, sym, ap, ◌∙◌}
use Rattle.bor_records.specs.Promises.{Kept, Meaning, Promised}
use Rattle.bor_register.specs.declared.caller.Caller.{Caller}
use Rattle.bor_register.specs.declared.caller.Caller.TheVariants.{Registrar, Agent}
use Rattle.bor_register.specs.declared.fault.StoreFault.{StoreFault}
use Rattle.bor_register.specs.declared.filing.AcceptedFiling.{AcceptedFiling}
use Rattle.bor_register.specs.Register.{Register, filing_keyed}
use Rattle.bor_desk.specs.Operations.Sight.{Sight, sight_of}
use Rattle.bor_desk.specs.Operations.Lodging.{lodging_at, own_lodged_at}
use Rattle.bor_desk.specs.Operations.Withdrawing.{withdrawal_at, own_withdrawn_at}
use Rattle.bor_desk.specs.declared.request.Request.{Request}
use Rattle.bor_desk.specs.declared.request.Request.TheVariants as of
use Rattle.bor_desk.specs.declared.request.AgentRequest.{AgentRequest}
use Rattle.bor_desk.specs.declared.request.AgentRequest.TheVariants as ask
use Rattle.bor_desk.specs.declared.request.RegistrarRequest.{RegistrarRequest}
use Rattle.bor_desk.specs.declared.request.RegistrarRequest.TheVariants as office
use Rattle.bor_desk.specs.declared.reply.DeskReply.{DeskReply}
use Rattle.bor_desk.specs.declared.reply.DeskReply.TheVariants as tell
use Rattle.bor_desk.specs.Refusals.{of_advance, of_enrolment, of_lodging, of_renewal, of_withdrawal}
use Rattle.bor_desk.specs.Step.{Answer, exactly, told, own_after, agent_step, registrar_step, step}
use Rattle.bor_desk.specs.Outcomes.{IsTold, IsLeft}
use Rattle.bor_desk.specs.Laws.{may_tell_a_change, RefusalChangesNothing, is_read, is_long, ReadsLeave}
use Rattle.bor_desk.proofs.OnOperations.Changes.{by_advance, by_enrolment, by_renewal}
use Rattle.bor_desk.proofs.OnOperations.Refusals.{written_back}
use Rattle.bor_desk.proofs.Steps.{left_same}

-- an agent's request leaves the register where it leaves the agent's filings
pub left_by_agent : (r : Register) (name : List ℕ) (request : AgentRequest) → own_after (sight_of name r) request ≡ (sight_of name r).own → (agent_step r name request).register ≡ r
left_by_agent r name request same = written_back r name (own_after (sight_of name r) request) same

-- ---- a lodging and a withdrawal

unlodged : (s : Sight) (key : List ℕ) (due : ℤ) (bytes : List ℕ) (at : Option AcceptedFiling) → may_tell_a_change (told tell.Lodged of_lodging (lodging_at s key due bytes at)) ≡ false → own_lodged_at s key due bytes at ≡ s.own
unlodged s key due bytes at h = grind arith

unwithdrawn : (s : Sight) (at : Option AcceptedFiling) → may_tell_a_change (told tell.Withdrawn of_withdrawal (withdrawal_at s at)) ≡ false → own_withdrawn_at s at ≡ s.own
unwithdrawn s at h = grind arith

unchanged_by_agent : (r : Register) (name : List ℕ) (request : AgentRequest) → may_tell_a_change (agent_step r name request).answer ≡ false → own_after (sight_of name r) request ≡ (sight_of name r).own
unchanged_by_agent r name (ask.Lodge key due file) h = let s = sight_of name r in unlodged s key due file (filing_keyed key s.own) h
unchanged_by_agent r name (ask.Withdraw key) h = let s = sight_of name r in unwithdrawn s (filing_keyed key s.own) h
unchanged_by_agent r name request h = refl

-- ---- the registrar

unchanged_by_registrar : (r : Register) (request : RegistrarRequest) → may_tell_a_change (registrar_step r request).answer ≡ false → (registrar_step r request).register ≡ r
unchanged_by_registrar r (office.Day date) = by_advance r date (λ o. may_tell_a_change (told tell.Day of_advance o.answer) ≡ false → o.register ≡ r) (λ h. refl) (λ later h. absurd cc)
unchanged_by_registrar r (office.Enrol name token) =
    by_enrolment r name token (λ o. may_tell_a_change (told tell.Enrolled of_enrolment o.answer) ≡ false → o.register ≡ r) (λ fault h. refl) (λ fresh free h. absurd cc)
unchanged_by_registrar r (office.Renew name token) =
    by_renewal r name token (λ o. may_tell_a_change (told tell.Renewed of_renewal o.answer) ≡ false → o.register ≡ r) (λ fault h. refl) (λ own h. absurd cc) (λ on nobody h. absurd cc)
unchanged_by_registrar r office.Register = λ h. refl

-- ---- refusals

pub refusal_leaves : RefusalChangesNothing
refusal_leaves r (Some Registrar) (of.Registrar request) h = unchanged_by_registrar r request h
refusal_leaves r (Some (Agent name)) (of.Agent request) h = left_by_agent r name request (unchanged_by_agent r name request h)
refusal_leaves r caller request h = refl

-- ---- reads

agent_reads : (r : Register) (name : List ℕ) (request : AgentRequest) → is_read (of.Agent request) ≡ true → (agent_step r name request).register ≡ r
agent_reads r name (ask.Lodge key due file) h = absurd cc
agent_reads r name (ask.Withdraw key) h = absurd cc
agent_reads r name request h = written_back r name _ refl

-- the register that was shown is shown and left by a request that only reads
module _ {S W : Type 0} (meaning : Meaning S Register W StoreFault) (old new : S) (name : List ℕ) (request known : AgentRequest) (is : request ≡ known) (reads : is_read (of.Agent known) ≡ true) (kept : Kept meaning old new) where
  still : (r : Register) → (agent_step r name request).register ≡ r
  still r = agent_reads r name request (ap (λ (q : AgentRequest). is_read (of.Agent q)) is ∙ reads)

  pub left_reading : (reply : DeskReply) → Promised meaning old new (λ r. IsLeft reply (meaning.shows new) r (agent_step r name request).register)
  left_reading reply = λ r shown clean. left_same reply (meaning.shows new) r _ (still r) ((kept.same clean r).0 shown)

registrar_reads : (r : Register) (request : RegistrarRequest) → is_read (of.Registrar request) ≡ true → (registrar_step r request).register ≡ r
registrar_reads r request h = grind arith

reads_leave_by_request : (r : Register) (caller : Option Caller) (request : Request) → is_read request ≡ true → (step r caller request).register ≡ r
reads_leave_by_request r (Some Registrar) (of.Registrar request) h = registrar_reads r request h
reads_leave_by_request r (Some (Agent name)) (of.Agent request) h = agent_reads r name request h
reads_leave_by_request r caller request h = refl

-- a reply of any length tells of no change
long_is_unchanged : (reply : DeskReply) → is_long reply ≡ true → may_tell_a_change (exactly reply) ≡ false
long_is_unchanged reply h = grind arith

long_told : (answer : Answer) (reply : DeskReply) → IsTold answer reply → is_long reply ≡ true → may_tell_a_change answer ≡ false
long_told (exactly wanted) reply told h = long_is_unchanged wanted (ap is_long (sym told) ∙ h)
long_told answer reply told h = refl

pub reads : ReadsLeave
reads = record {
  by_request = reads_leave_by_request;
  by_reply = λ r caller request reply told h. refusal_leaves r caller request (long_told (step r caller request).answer reply told h);
}
