-- An input that is nobody's has no part in what an agent receives.
use Rattle.std.proofs.Common.{◌≡◌, ◌↔◌, ℕ, List, [], ◌∷◌, ◌++◌, length, Ok, Err, refl, sym, ap, subst, ◌∙◌, arith}
use Rattle.bor_register.specs.Register.{Register}
use Rattle.bor_desk.specs.declared.refusal.Refusal.TheVariants.{NoAgent}
use Rattle.bor_desk.specs.declared.reply.DeskReply.{DeskReply}
use Rattle.bor_desk.specs.declared.reply.DeskReply.TheVariants.{Refused}
use Rattle.bor_desk.specs.Outcomes.{IsTold}
use Rattle.bor_desk.specs.Step.{step}
use Rattle.bor_desk.specs.Runs.{exchange, request_by, agent_request, occasion_then, history, told_then, told_to}
use Rattle.bor_wire.specs.Spelling.Spell.{Spelled, Spells}
use Rattle.bor_wire.proofs.OnSpelling.Messages.{one_spelling}
use Rattle.bor_wire.specs.Rendering.Replies.{Said, answered, bytes_of}
use Rattle.bor_wire.specs.Inputs.{IsSaid, IsReplyTo, after}
use Rattle.bor_wire.specs.Runs.{register_left}
use Rattle.bor_wire.specs.Histories.{asked_in, replies_to_requests, received}
use Rattle.bor_wire.specs.Nobody.{IsNobodys, said_to_nobody, NobodysInputs}

-- ---- the register

left : (r : Register) (s : Spelled) → IsNobodys r s → after r s ≡ r
left r (Err why) h = refl
left r (Ok asked) h = ap (λ caller. (step r caller asked.request).register) h

-- ---- the history

in_no_history : (name : List ℕ) (r : Register) (earlier later : List Spelled) (s : Spelled) → IsNobodys (register_left r earlier) s
    → history name r (asked_in (earlier ++ s ∷ later)) ≡ history name r (asked_in (earlier ++ later))
in_no_history name r [] later (Err why) h = refl
in_no_history name r [] later (Ok asked) h =
    ap (λ caller. occasion_then name r (request_by name caller asked.request) (history name (step r caller asked.request).register (asked_in later))) h
in_no_history name r (Err why ∷ earlier) later s h = in_no_history name r earlier later s h
in_no_history name r (Ok asked ∷ earlier) later s h =
    ap (λ rest. occasion_then name r (agent_request name r asked) rest) (in_no_history name (exchange r asked).register earlier later s h)

-- ---- what is received

received_by_none : (name : List ℕ) (r : Register) (earlier later : List Spelled) (s : Spelled) (replies others : List (List ℕ)) (bytes : List ℕ)
    → length earlier ≡ length replies → IsNobodys (register_left r earlier) s
    → received name r (earlier ++ s ∷ later) (replies ++ bytes ∷ others) ≡ received name r (earlier ++ later) (replies ++ others)
received_by_none name r [] later (Err why) [] others bytes count h = refl
received_by_none name r [] later (Ok asked) [] others bytes count h =
    ap (λ caller. told_then (request_by name caller asked.request) bytes (told_to name (step r caller asked.request).register (asked_in later) (replies_to_requests later others))) h
received_by_none name r (Err why ∷ earlier) later s (reply ∷ replies) others bytes count h =
    received_by_none name r earlier later s replies others bytes (omega arith) h
received_by_none name r (Ok asked ∷ earlier) later s (reply ∷ replies) others bytes count h =
    ap (λ rest. told_then (agent_request name r asked) reply rest)
    (received_by_none name (exchange r asked).register earlier later s replies others bytes (omega arith) h)
received_by_none name r earlier later s replies others bytes count h = absurd cc

-- ---- what is said

said_is : (r : Register) (s : Spelled) (said : Said) → IsNobodys r s → IsSaid r s said ↔ (said ≡ said_to_nobody s)
said_is r (Err why) said h = (λ e. e, λ e. e)
said_is r (Ok asked) said h =
    subst (λ caller. ((reply : DeskReply) × IsTold (step r caller asked.request).answer reply × (said ≡ answered reply)) ↔ (said ≡ answered (Refused NoAgent))) (sym h)
    (λ h. h.2 ∙ ap answered h.1, λ e. (Refused NoAgent, refl, e))

reply_is : (r : Register) (s : Spelled) (bytes : List ℕ) → IsNobodys r s → IsReplyTo r s bytes → bytes ≡ bytes_of (said_to_nobody s)
reply_is r s bytes h reply = reply.2 ∙ ap bytes_of ((said_is r s reply.0 h).0 reply.1)

by_its_bytes : (input : List ℕ) (r q : Register) (one other : Spelled) (bytes others : List ℕ) → Spells input one → Spells input other
    → IsNobodys r one → IsNobodys q other → IsReplyTo r one bytes → IsReplyTo q other others → bytes ≡ others
by_its_bytes input r q one other bytes others spells too h k reply told =
    reply_is r one bytes h reply ∙ ap (λ s. bytes_of (said_to_nobody s)) (one_spelling input one other spells too) ∙ sym (reply_is q other others k told)

pub nobodys_inputs : NobodysInputs
nobodys_inputs = record {
  left = left;
  in_no_history = in_no_history;
  received_by_none = received_by_none;
  said = said_is;
  by_its_bytes = by_its_bytes;
}
