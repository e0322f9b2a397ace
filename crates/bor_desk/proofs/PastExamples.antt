-- Two registers that differ by a draft of another agent, and by a statement that is dated later.
use Rattle.std.proofs.Common.{◌≡◌, ℤ, pos, Some, [], ◌∷◌, length, map, codes, refl}
use Rattle.bods_read.specs.declared.statement.Status.TheVariants.{Updated}
use Rattle.bor_chains.specs.Laws.{dated_by}
use Rattle.bor_register.specs.declared.filing.AcceptedFiling.{AcceptedFiling}
use Rattle.bor_register.specs.Register.{Register}
use Rattle.bor_register.proofs.Examples.{entity, first, second, today}
use Rattle.bor_desk.specs.declared.request.AgentRequest.{AgentRequest}
use Rattle.bor_desk.specs.declared.reply.DeskReply.{DeskReply}
use Rattle.bor_desk.specs.Operations.Sight.{seen_by}
use Rattle.bor_desk.specs.Outcomes.{IsTold}
use Rattle.bor_desk.specs.Step.{agent_step}
use Rattle.bor_desk.specs.Laws.{date_of}
use Rattle.bor_desk.proofs.OnOperations.Examples.{with_own}
use Rattle.bor_desk.proofs.Past.{later_statements_change_no_past}

-- 2024-02-20
abbrev later : ℤ
later = pos 19773

abbrev dated_later : AcceptedFiling
dated_later = record first { number = 3; key = codes "f3"; statements = record (entity (codes "s4") (codes "e2")) { day = later; status = Some Updated } ∷ [] }

abbrev before : Register
before = with_own today (first ∷ [])

abbrev after : Register
after = with_own today (first ∷ second ∷ dated_later ∷ [])

-- whatever birch is told of today in the one it is told in the other
told_today : (request : AgentRequest) (reply : DeskReply) → date_of request ≡ Some today → IsTold (agent_step before (codes "birch") request).answer reply → IsTold (agent_step after (codes "birch") request).answer reply
told_today request reply is told = later_statements_change_no_past (codes "birch") today before after request reply is refl told

-- but of the later day the statements differ
told_apart : map (λ r. length (dated_by later (seen_by (codes "birch") r))) (before ∷ after ∷ []) ≡ 2 ∷ 3 ∷ []
told_apart = refl

-- and so do alder's, who sees its own draft
draft_seen : map (λ r. length (dated_by today (seen_by (codes "alder") r))) (before ∷ after ∷ []) ≡ 2 ∷ 3 ∷ []
draft_seen = refl
