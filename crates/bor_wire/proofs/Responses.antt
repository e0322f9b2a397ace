-- The reply that goes out for an input, from the one for what it spells.
use Rattle.bor_register.specs.declared.fault.StoreFault.{StoreFault}
use Rattle.std.proofs.Common.{◌≡◌, ◌≢◌, ◌≤◌, ℕ, List, true, Option, Some, None, Ok, Err, inl, refl, sym, subst, ◌∙◌, arith}
use Rattle.bor_records.specs.Promises.{Leaves, Meaning}
use Rattle.bor_register.specs.declared.caller.Caller.{Caller}
use Rattle.bor_register.specs.Register.{Register, caller_of}
use Rattle.bor_desk.specs.declared.request.Request.{Request}
use Rattle.bor_desk.specs.declared.request.Request.TheVariants as of
use Rattle.bor_desk.specs.declared.request.AgentRequest.TheVariants as ask
use Rattle.bor_desk.specs.declared.reply.DeskReply.{DeskReply}
use Rattle.bor_desk.specs.Step.{step}
use Rattle.bor_desk.specs.Outcomes.{IsTold, IsOrderedFor}
use Rattle.bor_desk.specs.Laws.{is_long}
use Rattle.bor_desk.specs.Runs.{Asked, exchange}
use Rattle.bor_desk.proofs.Unchanged.{reads}
use Rattle.bor_http.specs.declared.incoming.fault.Refusal.{Refusal}
use Rattle.bor_http.specs.declared.incoming.fault.Refusal.TheVariants.{HeadTooLarge}
use Rattle.bor_wire.specs.Spelling.Spell.{Spelled}
use Rattle.bor_wire.specs.Rendering.Replies.{Said, refused, answered, bytes_of, status_of}
use Rattle.bor_wire.specs.Rendering.Statuses.{desk_status, wire_refusal_status}
use Rattle.bor_wire.specs.Sent.{Sent, Full, Unavailable, IfFull, TellsStatus}
use Rattle.bor_wire.specs.Exchanges.{GoesOut, IfAsked, IfRefusing, IsFor, IsRefusal, IsRendered}
use Rattle.bor_wire.specs.Answering.{GoesOutFor}
use Rattle.bor_wire.specs.Inputs.{after}
use Rattle.bor_wire.specs.Refused.{IsFull}
use Rattle.bor_wire.proofs.RefusalLaws.{line_first, refused_leaves}

-- what holds whatever is spelled
pub asked_all : (P : Type 0) (s : Spelled) → P → IfAsked s P
asked_all P (Ok asked) h = h
asked_all P (Err why) h = tt

-- what holds whatever goes out
pub if_refusing : (o : Sent) (P : Type 0) → P → IfRefusing o P
if_refusing (Full status bytes) P h = λ _. h
if_refusing Unavailable P h = h

-- what holds is so of a whole reply
pub if_full : (o : Sent) (P : Type 0) → P → IfFull o P
if_full (Full status bytes) P h = h
if_full Unavailable P h = tt

-- a request is no refusal
pub no_refusal : (asked : Asked) (why : Refusal) → ◌≡◌ {A = Spelled} (Ok asked) (Err why) → ⊥
no_refusal asked why e = cc

-- a long reply leaves the register, also where a snapshot's isn't known to be told
pub long_leaves : (r : Register) (caller : Option Caller) (request : Request) (reply : DeskReply) → (IsOrderedFor request r → IsTold (step r caller request).answer reply) → is_long reply ≡ true
    → (step r caller request).register ≡ r
long_leaves r caller (of.Agent (ask.Snapshot agent declaration date)) reply told long = reads.by_request r caller (of.Agent (ask.Snapshot agent declaration date)) refl
long_leaves r caller request reply told long = reads.by_reply r caller request reply (told tt) long

-- ---- what goes out of a reply

pub rendered_goes : (o : Sent) (shown : Register → Type 0) (r : Register) (asked : Asked) (reply : DeskReply) → IsRendered o reply → IsTold (exchange r asked).answer reply
    → shown (exchange r asked).register → GoesOut o shown r (Ok asked)
rendered_goes (Full status bytes) shown r asked reply is told left = (answered reply, (reply, told, refl), is.1, is.0, left)
rendered_goes Unavailable shown r asked reply is told left = subst shown (long_leaves r (caller_of asked.token r) asked.request reply (λ _. told) is) left

pub rendered_keeps : (o : Sent) (shown : Register → Type 0) (r : Register) (asked : Asked) (reply : DeskReply) → IsRendered o reply
    → (IsOrderedFor asked.request r → IsTold (exchange r asked).answer reply) → shown (exchange r asked).register → IfRefusing o (shown r)
rendered_keeps (Full status bytes) shown r asked reply is told left = λ least.
    subst shown (refused_leaves r (caller_of asked.token r) asked.request reply told (subst (λ n. 400 ≤ n) is.0 least)) left
rendered_keeps Unavailable shown r asked reply is told left = subst shown (long_leaves r (caller_of asked.token r) asked.request reply told is) left

-- what is said begins with its status
pub said_full : (said : Said) (status : ℕ) (bytes : List ℕ) → status ≡ status_of said → bytes ≡ bytes_of said → status_of said ≢ 503 → IsFull bytes status
said_full said status bytes is are sure = record {
  line = rw (is, are) (line_first said);
  served = λ e. sure (sym is ∙ e);
}

pub rendered_status : (o : Sent) (reply : DeskReply) → IsRendered o reply → desk_status reply ≢ 503 → TellsStatus o
rendered_status (Full status bytes) reply is sure = said_full (answered reply) status bytes is.0 is.1 sure
rendered_status Unavailable reply is sure = tt

-- no refusal of bytes has status 503
pub refusal_served : (why : Refusal) → wire_refusal_status why ≢ 503
refusal_served HeadTooLarge = λ e. absurd (omega arith)
refusal_served why = λ e. absurd (omega arith)

-- a keep that was asked nothing leaves what it might have left
pub same_leaves : {K W : Type 0} (meaning : Meaning K Register W StoreFault) (keep : K) (IsMade : Register → W → Type 0) → Leaves meaning keep keep IsMade
same_leaves meaning keep IsMade = record { began = λ clean. clean; sound = λ sound. sound; stops = λ sound left may. inl may }

-- ---- whom it is for

-- who is named beside a reply of the desk is so beside what goes out of it
pub named_beside : (o : Sent) (named asks : Option (List ℕ)) → named ≡ asks → IsFor o named asks
named_beside (Full status bytes) named asks same = same
named_beside Unavailable None asks same = tt
named_beside Unavailable (Some name) asks same = sym same

-- nobody is named where no agent asks
pub nobody_named : (o : Sent) → IsFor o None None
nobody_named (Full status bytes) = refl
nobody_named Unavailable = tt

-- ---- the refusal that an input spells

pub is_that : (o : Sent) (refusal why : Refusal) (stated : Spelled) → IsRefusal o refusal → stated ≡ Err refusal → stated ≡ Err why → IsRefusal o why
is_that o refusal why stated h is other = let same : refusal ≡ why = cc in subst (IsRefusal o) same h

-- a refusal goes out for what is refused so, and leaves what was shown
pub refusal_goes : (o : Sent) (shown : Register → Type 0) (r : Register) (why : Refusal) → IsRefusal o why → shown r → GoesOut o shown r (Err why)
refusal_goes (Full status bytes) shown r why h is = (refused why, refl, h.1, h.0, is)
refusal_goes Unavailable shown r why h is = is

-- ---- what goes out where the keep was asked nothing

pub refusal_goes_out : {K W : Type 0} (meaning : Meaning K Register W StoreFault) (keep : K) (o : Sent) (why : Refusal) → IsRefusal o why → TellsStatus o
    → GoesOutFor meaning keep keep None o (Err why)
refusal_goes_out meaning keep o why h sure = record {
  leaves = same_leaves meaning keep (λ r left. meaning.left_shows left r);
  reply = λ r is clean ordered. refusal_goes o (meaning.shows keep) r why h is;
  kept = λ r is clean. if_refusing o (meaning.shows keep r) is;
  up = tt;
  agent = λ r is clean. nobody_named o;
  refused = λ other e. is_that o why other (Err why) h refl e;
  status = sure;
}

pub nothing_goes_out : {K W : Type 0} (meaning : Meaning K Register W StoreFault) (keep : K) (s : Spelled) → GoesOutFor meaning keep keep None Unavailable s
nothing_goes_out meaning keep s = record {
  leaves = same_leaves meaning keep (λ r left. meaning.left_shows left (after r s));
  reply = λ r is clean ordered. is;
  kept = λ r is clean. is;
  up = asked_all _ s tt;
  agent = λ r is clean. tt;
  refused = λ why e. tt;
  status = tt;
}
