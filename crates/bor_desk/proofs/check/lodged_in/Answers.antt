use Rattle.std.proofs.Common.{◌≡◌, ◌++◌, refl, ap, ◌∙◌}
use Rattle.bor_desk.specs.Operations.Lodging.{lodge_step}
use Rattle.bor_desk.specs.Texts.{answering, accepted_line, outward_lines}
use Rattle.bor_desk.specs.CheckReport.{outcome_text}
use Rattle.bor_desk.proofs.Reports.{lodge_step-check, accepted-text, refused-text}
use Rattle.bor_desk.proofs.check.lodged_in.Goals as goal

pub returns-in-Ok-clause-text : goal.returns-in-Ok-clause-text
returns-in-Ok-clause-text c =
    let r = c.args.keep.now.register in
    let same = lodge_step-check r c.in_ok-agent.agent c.in_ok-key.key c.check_day.result c.args.bytes.now c.requires c.in_ok-agent.ensures c.in_ok-key.ensures c.check_day.ensures in
    let o = lodge_step r c.in_ok-agent.agent c.in_ok-key.key c.check_day.result c.args.bytes.now in
    let step = c.in-Ok.ensures.step r refl tt in
    let after = c.lodge.new.keep.register in
    let outwards = c.in_ok-published-in-Ok.field-0.items in
    let listed = c.in_ok-published-in-Ok.ensures.answer after refl tt in
    c.in_ok-accepted-in-Ok.ensures ∙ ap (λ os. answering (accepted_line c.in-Ok.lodged ++ outward_lines os)) c.deref.ensures.value
    ∙ accepted-text o c.in-Ok.lodged after outwards step.0 step.1 listed ∙ ap outcome_text same

pub returns-clause-text : goal.returns-clause-text
returns-clause-text c =
    let r = c.args.keep.now.register in
    let same = lodge_step-check r c.in_ok-agent.agent c.in_ok-key.key c.check_day.result c.args.bytes.now c.requires c.in_ok-agent.ensures c.in_ok-key.ensures c.check_day.ensures in
    refused-text c.in-Err.fault c.from.result (λ left. c.lodge.new.keep.register ≡ left) r _ _ c.fault_text.result same (c.in-Err.ensures.step r refl tt) c.from.ensures c.fault_text.ensures
