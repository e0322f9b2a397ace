-- The step of a request leaves a legal register legal; requests that only read leave it as it is.
use Rattle.std.proofs.Common.{◌≡◌, ℕ, List, Option, Some, None, option_map, sym, ap, subst, arith}
use Rattle.bor_register.specs.declared.caller.Caller.{Caller}
use Rattle.bor_register.specs.declared.caller.Caller.TheVariants.{Registrar, Agent}
use Rattle.bor_register.specs.declared.filing.AcceptedFiling.{AcceptedFiling}
use Rattle.bor_register.specs.declared.filing.Filing.{Filing}
use Rattle.bor_register.specs.Publication.{filing_shown}
use Rattle.bor_register.specs.Register.{Register, IsOrdered, filings_of, with_filings}
use Rattle.bor_register.proofs.Members.{with_filings_same}
use Rattle.bor_desk.specs.Operations.Legality.{IsLegal}
use Rattle.bor_desk.proofs.OnOperations.Legality.{lodging-stays_legal, withdrawal-stays_legal, advance-stays_legal, enrolment-stays_legal}
use Rattle.bor_desk.proofs.OnOperations.Renewals.{renewal-stays_legal}
use Rattle.bor_desk.specs.declared.request.Request.{Request}
use Rattle.bor_desk.specs.declared.request.Request.TheVariants as of
use Rattle.bor_desk.specs.declared.request.AgentRequest.{AgentRequest}
use Rattle.bor_desk.specs.declared.request.AgentRequest.TheVariants as ask
use Rattle.bor_desk.specs.declared.request.RegistrarRequest.{RegistrarRequest}
use Rattle.bor_desk.specs.declared.request.RegistrarRequest.TheVariants as office
use Rattle.bor_desk.specs.declared.reply.DeskReply.{DeskReply}
use Rattle.bor_desk.specs.declared.reply.DeskReply.TheVariants as tell
use Rattle.bor_register.specs.declared.fault.StoreFault.{StoreFault}
use Rattle.bor_records.specs.Promises.{Kept, Meaning, StaysClean}
use Rattle.bor_records.proofs.KeptLaws.{lasts_then}
use Rattle.bor_desk.specs.Operations.Outcomes.{Accounts, ByStore, IsFaultOf, IsTellable}
use Rattle.bor_desk.proofs.OnOperations.Outcomes.{unless_store}
use Rattle.bor_desk.specs.declared.refusal.Refusal.TheVariants.{NoSuchFiling}
use Rattle.bor_desk.specs.Step.{file_answer, step, agent_step, registrar_step}
use Rattle.bor_desk.specs.Outcomes.{IsTold, IsOrderedFor, fault_of, IsLeft}

-- to write an agent's filings back changes nothing
pub written_back : (r : Register) (name : List ℕ) → record r { members = with_filings name (filings_of name r.members) r.members } ≡ r
written_back r name = ap (λ ms. record r { members = ms }) (with_filings_same name r.members)

agent-stays_legal : (r : Register) (name : List ℕ) (request : AgentRequest) → IsLegal r → IsLegal (agent_step r name request).register
agent-stays_legal r name (ask.Lodge key due file) legal = lodging-stays_legal r name key due file legal
agent-stays_legal r name (ask.Withdraw key) legal = withdrawal-stays_legal r name key legal
agent-stays_legal r name request legal = subst IsLegal (sym (written_back r name)) legal

registrar-stays_legal : (r : Register) (request : RegistrarRequest) → IsLegal r → IsLegal (registrar_step r request).register
registrar-stays_legal r (office.Day date) legal = advance-stays_legal r date legal
registrar-stays_legal r (office.Enrol name token) legal = enrolment-stays_legal r name token legal
registrar-stays_legal r (office.Renew name token) legal = renewal-stays_legal r name token legal
registrar-stays_legal r office.Register legal = legal

-- each request of each caller leaves a legal register legal
pub step-stays_legal : (r : Register) (caller : Option Caller) (request : Request) → IsLegal r → IsLegal (step r caller request).register
step-stays_legal r (Some Registrar) (of.Registrar request) legal = registrar-stays_legal r request legal
step-stays_legal r (Some (Agent name)) (of.Agent request) legal = agent-stays_legal r name request legal
step-stays_legal r caller request legal = legal

pub ruleset legal_steps = (step-stays_legal)

-- of a register whose agents stand in order of their names each request's answer is said
pub ordered_for : (request : Request) (r : Register) → IsOrdered r.members → IsOrderedFor request r
ordered_for (of.Agent (ask.Snapshot agent declaration date)) r h = h
ordered_for request r h = tt

-- ---- what follows from a reply

-- a register that the step leaves is still shown
pub left_same : (reply : DeskReply) (shown : Register → Type 0) (r after : Register) → after ≡ r → shown r → IsLeft reply shown r after
left_same reply shown r after same is = at (fault_of reply)
  where
    at : (fault : Option StoreFault) → ByStore fault (shown after) (λ f. shown r)
    at None = subst shown (sym same) is
    at (Some f) = is

-- the account of a reply that was made after a read that was answered
pub after_answer : {S V W : Type 0} (meaning : Meaning S V W StoreFault) (old mid new : S) (reply made : DeskReply) → reply ≡ made → Kept meaning old mid → meaning.fault_count mid ≡ meaning.fault_count old → StaysClean meaning old mid
    → (meaning.is_clean new → meaning.is_clean mid) → Accounts meaning mid new (fault_of made) → Accounts meaning old new (fault_of reply)
after_answer meaning old mid new reply made is kept same lasts began later = subst (λ (q : DeskReply). Accounts meaning old new (fault_of q)) (sym is) (record {
  counted = subst (λ (n : ℕ). ByStore (fault_of made) (meaning.fault_count new ≡ n) (IsFaultOf n (meaning.fault_count new))) same later.counted;
  told = λ v shown clean. subst (λ (n : ℕ). ByStore (fault_of made) (Unit {0}) (IsTellable meaning.may_tell n (meaning.fault_count new))) same (later.told v ((kept.same (began clean) v).0 shown) clean);
  lasts = unless_store (fault_of made) (StaysClean meaning mid new) (StaysClean meaning old new) (λ h. lasts_then meaning old mid new lasts h) later.lasts;
})

-- ---- the file under a key

pub file_told : (o : Option AcceptedFiling) (told : Filing) → Some told ≡ option_map filing_shown o → IsTold (file_answer o) (tell.File told.bytes)
file_told o told h = grind arith

pub file_missing : (o : Option AcceptedFiling) → None ≡ option_map filing_shown o → IsTold (file_answer o) (tell.Refused NoSuchFiling)
file_missing o h = grind arith
