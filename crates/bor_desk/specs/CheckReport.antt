-- The text of a check: what the lodging of a file in a new register is answered, and what is
-- published then.
use Rattle.std.specs.Prelude.{◌≡◌, IfOk, IfErr, ℕ, List, [], ◌++◌, length, nat_lt, None, Result, Ok}
use Rattle.std.specs.Prelude.{Err, ℤ, pos, codes, if◌then◌else◌}
use Rattle.bor_register.specs.declared.fault.StoreFault.{StoreFault}
use Rattle.bor_register.specs.declared.fault.StoreFault.TheVariants.{Memory}
use Rattle.bor_register.specs.Register.{Register, empty_register, new_member, with_member}
use Rattle.bor_register.specs.Publication.{published}
use Rattle.bor_desk.specs.declared.operations.fault.LodgeFault.{LodgeFault}
use Rattle.bor_desk.specs.declared.operations.lodging.Lodged.{Lodged}
use Rattle.bor_desk.specs.Operations.Sight.{Outcome}
use Rattle.bor_desk.specs.Operations.Lodging.{lodge_step}
use Rattle.bor_desk.specs.declared.text.Text.{Text}
use Rattle.bor_desk.specs.declared.refusal.DeskFault.{DeskFault}
use Rattle.bor_desk.specs.declared.refusal.DeskFault.TheVariants.{Refused, Failed}
use Rattle.bor_desk.specs.Limits.{file_limit}
use Rattle.bor_desk.specs.Refusals.{of_lodging}
use Rattle.bor_desk.specs.Texts.{answering, refusing, refused_text, outward_lines, accepted_line}
use Rattle.bor_desk.specs.Texts.{refusal_line}

-- 2000-01-01 in days since 1970-01-01
abbrev pub check_day : ℤ
check_day = pos 10957

-- the register in which a file is checked: one agent, no filings
abbrev pub check_register : Register
check_register =
    let empty = empty_register (codes "check-registrar-0001") check_day in
    record empty
    { members = with_member (new_member (codes "check") (codes "check-token-0001")) empty.members }

-- the lodging of the file by that agent, due on that day
abbrev pub check_step : List ℕ → Outcome (Result Lodged LodgeFault)
check_step bytes = lodge_step check_register (codes "check") (codes "check") check_day bytes

-- the text of a refusal; want of memory and a failed store have none
abbrev pub fault_text : DeskFault → Text
fault_text (Refused why) = refused_text why
fault_text (Failed fault) = refusing []

-- the text of an answer, and of the register after it
abbrev pub answer_text : Result Lodged LodgeFault → Register → Text
answer_text (Ok lodged) after =
    answering (accepted_line lodged ++ outward_lines (published after.day after.members))
answer_text (Err fault) after = fault_text (of_lodging fault)

abbrev pub outcome_text : Outcome (Result Lodged LodgeFault) → Text
outcome_text o = answer_text o.answer o.register

-- the text of `bor check`: a file that is too long is refused before anything else
unfoldable pub check_report : List ℕ → Text
check_report bytes =
    if nat_lt file_limit (length bytes)
    then refusing (refusal_line (codes "BodyTooLarge") None None)
    else outcome_text (check_step bytes)

-- ---- parts of the check, for clauses of private functions alone

-- this text was made, or memory was wanting
pub record IsTextMade (wanted : Text) (made : Result Text StoreFault) : Type 0 where
  pub text : IfOk made (λ text. text ≡ wanted)
  pub err : IfErr made (λ fault. fault ≡ Memory)

-- a refusal is answered by its text, and a fault of the store is passed on
abbrev pub IsFaultTold : DeskFault → Result Text StoreFault → Type 0
IsFaultTold (Refused why) made = IsTextMade (refused_text why) made
IsFaultTold (Failed fault) made = made ≡ Err fault
