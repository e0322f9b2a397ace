use Rattle.std.proofs.Common.{refl, subst, sym}
use Rattle.bor_desk.specs.declared.request.AgentRequest.{AgentRequest}
use Rattle.bor_desk.specs.Outcomes.{IsAnswered, reply_of}
use Rattle.bor_desk.specs.Step.{agent_step}
use Rattle.bor_desk.proofs.Unchanged.{left_reading}
use Rattle.bor_desk.proofs.desk.answer_agent.Goals as goal

pub returns-in-Chains-clause-left : goal.returns-in-Chains-clause-left
returns-in-Chains-clause-left g c = left_reading g.K.Keep.meaning _ _ c.args.name.now _ _ c.in-Chains.is refl c.chains_for.ensures.kept (reply_of c.chains_for.result)

pub returns-in-Evidence-clause-left : goal.returns-in-Evidence-clause-left
returns-in-Evidence-clause-left g c = left_reading g.K.Keep.meaning _ _ c.args.name.now _ _ c.in-Evidence.is refl c.evidence_for.ensures.kept (reply_of c.evidence_for.result)

pub returns-in-Entities-clause-step : goal.returns-in-Entities-clause-step
returns-in-Entities-clause-step g c = λ r is clean ordered.
    subst (λ (q : AgentRequest). IsAnswered (reply_of c.entities_for.result) (agent_step r c.args.name.now q).answer) (sym c.in-Entities.is) (c.entities_for.ensures.answer r is clean)

pub returns-in-Entities-clause-left : goal.returns-in-Entities-clause-left
returns-in-Entities-clause-left g c = left_reading g.K.Keep.meaning _ _ c.args.name.now _ _ c.in-Entities.is refl c.entities_for.ensures.kept (reply_of c.entities_for.result)

pub returns-in-Snapshot-clause-left : goal.returns-in-Snapshot-clause-left
returns-in-Snapshot-clause-left g c = left_reading g.K.Keep.meaning _ _ c.args.name.now _ _ c.in-Snapshot.is refl c.snapshot_for.ensures.kept (reply_of c.snapshot_for.result)

pub returns-in-File-clause-left : goal.returns-in-File-clause-left
returns-in-File-clause-left g c = left_reading g.K.Keep.meaning _ _ c.args.name.now _ _ c.in-File.is refl c.file_for.ensures.kept (reply_of c.file_for.result)
