-- The text of an outcome.
use Rattle.std.proofs.Common.{◌≡◌, arith, Result, IfOk, ℕ, ℤ, List, ◌++◌, Ok, Err, codes, refl, sym, ap, ◌∙◌, subst}
use Rattle.bor_register.specs.declared.fault.StoreFault.{StoreFault}
use Rattle.bor_register.specs.declared.filing.Outward.{Outward}
use Rattle.bor_register.specs.Register.{Register}
use Rattle.bor_register.specs.Publication.{published}
use Rattle.bor_desk.specs.declared.operations.fault.LodgeFault.{LodgeFault}
use Rattle.bor_desk.specs.declared.operations.fault.LodgeFault.TheVariants as lodges
use Rattle.bor_desk.specs.declared.operations.lodging.Lodged.{Lodged}
use Rattle.bor_desk.specs.Operations.Sight.{Outcome}
use Rattle.bor_desk.specs.Operations.Lodging.{lodge_step}
use Rattle.bor_desk.specs.Operations.Outcomes as machine
use Rattle.bor_desk.specs.declared.text.Text.{Text}
use Rattle.bor_desk.specs.declared.refusal.DeskFault.{DeskFault}
use Rattle.bor_desk.specs.declared.refusal.DeskFault.TheVariants.{Failed}
use Rattle.bor_desk.specs.Refusals.{of_lodging}
use Rattle.bor_desk.specs.Texts.{answering, accepted_line, outward_lines}
use Rattle.bor_desk.specs.CheckReport.{check_day, check_register, check_step, fault_text, answer_text, outcome_text, IsFaultTold}

pub lodge_step-check : (r : Register) (agent key : List ℕ) (day : ℤ) (bytes : List ℕ) → r ≡ check_register → agent ≡ codes "check" → key ≡ codes "check" → day ≡ check_day → lodge_step r agent key day bytes ≡ check_step bytes
lodge_step-check r agent key day bytes e f g h = rw (e, f, g, h) refl

pub accepted-text : (o : Outcome (Result Lodged LodgeFault)) (lodged : Lodged) (after : Register) (outwards : List Outward) → o.answer ≡ Ok lodged → after ≡ o.register → outwards ≡ published after.day after.members →
    answering (accepted_line lodged ++ outward_lines outwards) ≡ outcome_text o
accepted-text o lodged after outwards e f g = rw (e, g, f) refl

-- what is made of a fault is its text
made-text : (given : DeskFault) (made : Result Text StoreFault) → IsFaultTold given made → IfOk made (λ text. text ≡ fault_text given)
made-text given made h = grind arith

answered-text : (fault : LodgeFault) (given : DeskFault) (o wanted : Outcome (Result Lodged LodgeFault)) (made : Result Text StoreFault) → o ≡ wanted → o.answer ≡ Err fault → given ≡ of_lodging fault → IsFaultTold given made → IfOk made (λ text. text ≡ outcome_text wanted)
answered-text fault given o wanted made same answer e h =
    let answered : wanted.answer ≡ Err fault = ap (λ (x : Outcome (Result Lodged LodgeFault)). x.answer) (sym same) ∙ answer in
    let texts = ap fault_text e ∙ sym (ap (λ (a : Result Lodged LodgeFault). answer_text a wanted.register) answered) in
    subst (λ (wanted_text : Text). IfOk made (λ text. text ≡ wanted_text)) texts (made-text given made h)

-- a fault of the store makes no text
failed-text : (fault : StoreFault) (given : DeskFault) (made : Result Text StoreFault) (wanted : Text) → given ≡ Failed fault → IsFaultTold given made → IfOk made (λ text. text ≡ wanted)
failed-text fault given made wanted e h = grind arith

-- a refusal of the step is told by its text
pub refused-text : (fault : LodgeFault) (given : DeskFault) (shown : Register → Type 0) (r : Register) (o wanted : Outcome (Result Lodged LodgeFault)) (made : Result Text StoreFault) → o ≡ wanted → machine.IsOutcome {A = Lodged} machine.of_lodging (Err fault) shown r o → given ≡ of_lodging fault → IsFaultTold given made → IfOk made (λ text. text ≡ outcome_text wanted)
refused-text (lodges.Store fault) given shown r o wanted made same step e h = failed-text fault given made (outcome_text wanted) e h
refused-text fault given shown r o wanted made same step e h = answered-text fault given o wanted made same step.0 e h
