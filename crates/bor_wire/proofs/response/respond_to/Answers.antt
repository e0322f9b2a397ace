use Rattle.std.proofs.Common.{◌≡◌, None, Ok, Err, subst}
use Rattle.bor_http.specs.declared.incoming.fault.WireFault.TheVariants.{Refused}
use Rattle.bor_wire.specs.Spelling.Spell.{RefusesAs, asked_view}
use Rattle.bor_wire.specs.Exchanges.{IsFor, agent_spelled}
use Rattle.bor_wire.proofs.OnSpelling.Messages.{one_spelling}
use Rattle.bor_wire.proofs.Exchanged.{goes_out}
use Rattle.bor_wire.proofs.Responses.{nobody_named, refusal_goes_out}
use Rattle.bor_wire.proofs.response.respond_to.Goals as goal

pub returns-in-Ok-clause-answers : goal.returns-in-Ok-clause-answers
returns-in-Ok-clause-answers g c = λ input spells.
    goes_out g.K.Keep.meaning c.args.keep.now c.answered.new.keep c.answered.result.agent c.answered.result.reply input (Ok (asked_view c.in-Ok.asking)) (rw c.in-Ok.is at spells) c.answered.ensures

pub returns-in-Ok-clause-agent : goal.returns-in-Ok-clause-agent
returns-in-Ok-clause-agent g c = λ input is_this r is clean spelled spells.
    subst (λ spelled. IsFor c.answered.result.reply c.answered.result.agent (agent_spelled r spelled)) (one_spelling input (Ok (asked_view c.in-Ok.asking)) spelled (rw c.in-Ok.is at is_this) spells)
    (c.answered.ensures.agent r is clean)

pub returns-in-Err-Refused-clause-answers : goal.returns-in-Err-Refused-clause-answers
returns-in-Err-Refused-clause-answers g c = λ input spells.
    let why = c.in-Err-Refused.refusal in
    let refused : RefusesAs input c.in-Err-Refused.field-0 = rw c.in-Err-Refused.is at spells in
    let is : c.in-Err-Refused.field-0 ≡ Refused why = rw c.in-Err-Refused.is at c.in-Err-Refused.field-0-is in
    goes_out g.K.Keep.meaning c.args.keep.now c.args.keep.now None c.refused.result input (Err why) (rw is at refused)
    (refusal_goes_out g.K.Keep.meaning c.args.keep.now c.refused.result why c.refused.ensures.refusal c.refused.ensures.status)

pub returns-in-Err-Refused-clause-agent : goal.returns-in-Err-Refused-clause-agent
returns-in-Err-Refused-clause-agent g c = λ input is_this r is clean spelled spells.
    let refused : RefusesAs input c.in-Err-Refused.field-0 = rw c.in-Err-Refused.is at is_this in
    let is : c.in-Err-Refused.field-0 ≡ Refused c.in-Err-Refused.refusal = rw c.in-Err-Refused.is at c.in-Err-Refused.field-0-is in
    subst (λ spelled. IsFor c.refused.result None (agent_spelled r spelled)) (one_spelling input (Err c.in-Err-Refused.refusal) spelled (rw is at refused) spells)
    (nobody_named c.refused.result)
