use Rattle.bor_register.specs.Register.{caller_of}
use Rattle.bor_desk.specs.Outcomes.{agent_of}
use Rattle.bor_desk.proofs.Steps.{ordered_for}
use Rattle.bor_wire.specs.Spelling.Spell.{asked_view}
use Rattle.bor_wire.proofs.Responses.{if_full, named_beside, no_refusal, rendered_goes, rendered_keeps, rendered_status}
use Rattle.bor_wire.proofs.response.answered.Goals as goal

pub returns-in-Some : goal.returns-in-Some
returns-in-Some g c =
    let asked = asked_view c.args.asking.now in
    let shown = g.K.Keep.meaning.shows c.asked-agent.new.keep in
    let told = rw c.in-Some.is at c.asked-agent.ensures.reply in
    let left = rw c.in-Some.is at c.asked-agent.ensures.left in
    record {
      leaves = c.asked-agent.ensures.leaves;
      reply = λ r is clean ordered.
          rendered_goes c.rendered.result shown r asked c.in-Some.reply c.rendered.ensures (told r is clean (ordered_for c.args.asking.now.request r ordered)) (left r is clean);
      kept = λ r is clean. rendered_keeps c.rendered.result shown r asked c.in-Some.reply c.rendered.ensures (told r is clean) (left r is clean);
      up = if_full c.rendered.result _ (rw c.in-Some.is at c.asked-agent.ensures.up);
      agent = λ r is clean.
          named_beside c.rendered.result c.asked-agent.result.0 (agent_of (caller_of asked.token r)) ((rw c.in-Some.is at c.asked-agent.ensures.agent) r is clean);
      refused = λ why e. absurd (no_refusal asked why e);
      status = rendered_status c.rendered.result c.in-Some.reply c.rendered.ensures (rw c.in-Some.is at c.asked-agent.ensures.status);
    }

pub returns-in-None : goal.returns-in-None
returns-in-None g c =
    let left = rw c.in-None.is at c.asked-agent.ensures.left in
    let agent = rw c.in-None.is at c.asked-agent.ensures.agent in
    rw c.unavailable-in-None.ensures (record {
      leaves = c.asked-agent.ensures.leaves;
      reply = λ r is clean ordered. left r is clean;
      kept = left;
      up = tt;
      agent = agent;
      refused = λ why e. tt;
      status = tt;
    })
