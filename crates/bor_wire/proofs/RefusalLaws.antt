-- A reply with a status of 400 or more leaves the register.
use Rattle.std.proofs.Common.{◌≡◌, ◌≤◌, ℕ, ◌+◌, ◌/◌, ◌%◌, List, [], ◌∷◌, ◌++◌, length, codes, decimal, get_or, Bool, true, false, Option, Ok, Err, append_assoc, refl, sym, ap, subst, ◌∙◌, arith}
use Rattle.std.specs.Prelude.{if◌then◌else◌}
use Rattle.bor_register.specs.declared.caller.Caller.{Caller}
use Rattle.bor_register.specs.Register.{Register, caller_of}
use Rattle.bor_desk.specs.declared.request.Request.{Request}
use Rattle.bor_desk.specs.declared.request.Request.TheVariants as of
use Rattle.bor_desk.specs.declared.request.AgentRequest.TheVariants as ask
use Rattle.bor_desk.specs.declared.reply.DeskReply.{DeskReply}
use Rattle.bor_desk.specs.declared.reply.DeskReply.TheVariants as tell
use Rattle.bor_desk.specs.Step.{Answer, exactly, step}
use Rattle.bor_desk.specs.Outcomes.{IsTold, IsOrderedFor}
use Rattle.bor_desk.specs.Laws.{may_tell_a_change}
use Rattle.bor_desk.proofs.Unchanged.{refusal_leaves, reads}
use Rattle.bor_wire.specs.Spelling.Spell.{Spelled}
use Rattle.bor_wire.specs.Rendering.Heads.{status_line, field_line, own_line, line_end, head_bytes}
use Rattle.bor_wire.specs.Rendering.Replies.{Said, status_of, path_replied, reply_body, bytes_of}
use Rattle.bor_wire.specs.Rendering.Statuses.{desk_status}
use Rattle.bor_wire.specs.Inputs.{IsSaid, after}
use Rattle.bor_wire.specs.Runs.{AreReplies}
use Rattle.bor_wire.specs.Refused.{HasStatus, RefusalsLeave}

-- ---- what a status tells

lodged_below : (fresh : Bool) → 400 ≤ (if fresh then 201 else 200) → fresh ≡ false
lodged_below true h = absurd (omega arith)
lodged_below false h = refl

refusal_tells_none : (reply : DeskReply) → 400 ≤ desk_status reply → may_tell_a_change (exactly reply) ≡ false
refusal_tells_none (tell.Lodged lodged) h = lodged_below lodged.fresh h
refusal_tells_none (tell.Withdrawn line) h = absurd (omega arith)
refusal_tells_none (tell.Day day) h = absurd (omega arith)
refusal_tells_none (tell.Enrolled name) h = absurd (omega arith)
refusal_tells_none (tell.Renewed name) h = absurd (omega arith)
refusal_tells_none reply h = refl

refused_answer : (answer : Answer) (reply : DeskReply) → IsTold answer reply → 400 ≤ desk_status reply → may_tell_a_change answer ≡ false
refused_answer (exactly wanted) reply told h = refusal_tells_none wanted (subst (λ x. 400 ≤ desk_status x) told h)
refused_answer answer reply told h = refl

-- also where a snapshot's reply isn't known to be told
pub refused_leaves : (r : Register) (caller : Option Caller) (request : Request) (reply : DeskReply) → (IsOrderedFor request r → IsTold (step r caller request).answer reply) → 400 ≤ desk_status reply
    → (step r caller request).register ≡ r
refused_leaves r caller (of.Agent (ask.Snapshot agent declaration date)) reply told h = reads.by_request r caller (of.Agent (ask.Snapshot agent declaration date)) refl
refused_leaves r caller request reply told h = refusal_leaves r caller request (refused_answer (step r caller request).answer reply (told tt) h)

pub said_leaves : (r : Register) (s : Spelled) (said : Said) → IsSaid r s said → 400 ≤ status_of said → after r s ≡ r
said_leaves r (Err why) said h status = refl
said_leaves r (Ok asked) said h status =
    refused_leaves r (caller_of asked.token r) asked.request h.0 (λ ordered. h.1) (subst (λ x. 400 ≤ status_of x) h.2 status)

-- ---- the status in the bytes

digits_once : (a b : ℕ) → 48 + a / 100 ≡ 48 + b / 100 → 48 + a / 10 % 10 ≡ 48 + b / 10 % 10 → 48 + a % 10 ≡ 48 + b % 10 → a ≡ b
digits_once a b hundreds tens ones = omega arith

line_once : (a b : ℕ) (x y : List ℕ) → status_line a ++ x ≡ status_line b ++ y → a ≡ b
unfolding status_line
line_once a b x y h = digits_once a b (ap (λ l. get_or l 9 0) h) (ap (λ l. get_or l 10 0) h) (ap (λ l. get_or l 11 0) h)

-- a head is joined from its front
front : (line type size own close end body : List ℕ) → (more : List ℕ) × ((line ++ type ++ size ++ own ++ close ++ end) ++ body ≡ line ++ more)
front line type size own close end body = (type ++ (size ++ (own ++ (close ++ (end ++ body)))), simp append_assoc)

-- a reply begins with its status line
pub line_first : (said : Said) → HasStatus (bytes_of said) (status_of said)
unfolding head_bytes
line_first said =
    let status : ℕ = status_of said in
    front (status_line status) (field_line (codes "Content-Type") (codes "application/json")) (field_line (codes "Content-Length") (decimal (length (reply_body said)))) (own_line status (path_replied said))
    (field_line (codes "Connection") (codes "close")) line_end (reply_body said)

told_status : (said : Said) (bytes : List ℕ) (status : ℕ) → bytes ≡ bytes_of said → HasStatus bytes status → status_of said ≡ status
told_status said bytes status is has =
    let own = line_first said in
    line_once (status_of said) status own.0 has.0 (sym own.1 ∙ sym is ∙ has.1)

-- ---- a run

pub refusals_leave : (r : Register) (ss : List Spelled) (bs : List (List ℕ)) → AreReplies r ss bs → RefusalsLeave r ss bs
refusals_leave r [] [] h = tt
refusals_leave r (s ∷ ss) (b ∷ bs) h =
    (λ status has least. said_leaves r s h.0.0 h.0.1 (subst (λ n. 400 ≤ n) (sym (told_status h.0.0 b status h.0.2 has)) least), refusals_leave (after r s) ss bs h.1)
refusals_leave r ss bs h = absurd h
