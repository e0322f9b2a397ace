use Rattle.bor_register.proofs.Callers.{caller_is_enrolled}
use Rattle.bor_desk.proofs.Steps.{after_answer}
use Rattle.bor_desk.proofs.desk.answer_naming.Goals as goal

pub answer_agent-made-requires : goal.answer_agent-made-requires
answer_agent-made-requires g c = record {
  enrolled = λ r is clean.
      let was = (c.in-Ok-Some-Agent-Agent.ensures.reads.kept.same clean r).1 is in
      let who = c.in-Ok-Some-Agent-Agent.ensures.reads.answer r was clean in
      caller_is_enrolled r c.args.token.now c.in-Ok-Some-Agent-Agent.name (cc);
}

pub returns-in-Ok-Some-Agent-Agent-clause-accounted : goal.returns-in-Ok-Some-Agent-Agent-clause-accounted
returns-in-Ok-Some-Agent-Agent-clause-accounted g c =
    let who = c.in-Ok-Some-Agent-Agent.ensures.reads in
    let made = c.answer_agent-made.ensures in
    after_answer g.K.Keep.meaning _ _ _ _ _ c.named-in-Ok-Some-Agent-Agent.ensures.reply who.kept who.counts who.lasts made.leaves.began made.accounted

pub returns-in-Ok-Some-Registrar-Registrar-clause-accounted : goal.returns-in-Ok-Some-Registrar-Registrar-clause-accounted
returns-in-Ok-Some-Registrar-Registrar-clause-accounted g c =
    let who = c.in-Ok-Some-Registrar-Registrar.ensures.reads in
    let made = c.answer_registrar.ensures in
    after_answer g.K.Keep.meaning _ _ _ _ _ c.named-in-Ok-Some-Registrar-Registrar.ensures.reply who.kept who.counts who.lasts made.leaves.began made.accounted
