-- Two replies that tell one answer are one.
use Rattle.std.proofs.Common.{sym, ap, ◌∙◌}
use Rattle.bor_chains.proofs.OneAnswer.{one_report}
use Rattle.bor_desk.specs.declared.reply.DeskReply.TheVariants as tell
use Rattle.bor_desk.specs.Step.{exactly, report, evidence, entities}
use Rattle.bor_desk.specs.Outcomes.{AnswerIsDetermined}
use Rattle.bor_records.specs.Links.Answers.{Identified}
use Rattle.bor_records.specs.Links.Rows.{shown_of}
use Rattle.bor_desk.proofs.OnEvidence.Mentions.{one_records}
use Rattle.bor_desk.proofs.OnEvidence.OneWay.{one_evidence}

pub one_reply : AnswerIsDetermined
one_reply (exactly wanted) x y p q = p ∙ sym q
one_reply (report entity day shown) x y p q = p.2 ∙ ap (tell.Chains entity day) (one_report shown entity p.0 q.0 p.1 q.1) ∙ sym q.2
one_reply (evidence entity day seen) x y p q = p.2 ∙ ap (tell.Evidence entity day) (one_evidence seen entity day p.0 q.0 p.1 q.1) ∙ sym q.2
one_reply (entities identifier day seen) x y p q = p.2 ∙ ap (tell.Entities identifier day) (one_records day seen (Identified (shown_of day seen) identifier) p.0 q.0 p.1 q.1) ∙ sym q.2
