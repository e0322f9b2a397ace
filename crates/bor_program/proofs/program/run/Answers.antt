use Rattle.std.proofs.Common.{◌∙◌, [], ap, map, refl, sym}
use Rattle.bor_program.specs.Program.{exit_code}
use Rattle.bor_program.proofs.Ends.{cut_unwritten, keeps_same, memory_is_no_help, whatever}
use Rattle.bor_program.proofs.KnownWords.{only_memory, usage_of, wrong_words}
use Rattle.bor_program.proofs.Performed.{says, took}
use Rattle.bor_program.proofs.program.run.Goals as goal

pub returns-in-Ok-clause-taken : goal.returns-in-Ok-clause-taken
returns-in-Ok-clause-taken g c = took _ _ c.in-Ok.command _ _ _ c.perform.ensures.done

pub returns-in-Ok-clause-refused : goal.returns-in-Ok-clause-refused
returns-in-Ok-clause-refused g c one = (c.in-Ok.ensures.ok, (says _ _ c.in-Ok.command _ _ _ c.perform.ensures.done).0 (sym c.code.ensures ∙ one))

pub returns-in-Ok-clause-usage : goal.returns-in-Ok-clause-usage
returns-in-Ok-clause-usage g c two = absurd ((says _ _ c.in-Ok.command _ _ _ c.perform.ensures.done).1 (sym c.code.ensures ∙ two))

pub returns-in-Err-clause-check : goal.returns-in-Err-clause-check
returns-in-Err-clause-check g c asked =
    let memory = only_memory (map g.S.AsStr.text c.args.words.now) c.in-Err.unread asked.0 c.in-Err.ensures.err in
    let three = c.code-in-Err.ensures ∙ ap exit_code (c.answer.ensures.memory memory).0 in
    ([], cut_unwritten [] _ _ _ _ refl three (c.answer.ensures.kept (memory_is_no_help _ memory)))

pub returns-in-Err-clause-check_input : goal.returns-in-Err-clause-check_input
returns-in-Err-clause-check_input g c asked =
    let memory = only_memory (map g.S.AsStr.text c.args.words.now) c.in-Err.unread asked.0.0 c.in-Err.ensures.err in
    let three = c.code-in-Err.ensures ∙ ap exit_code (c.answer.ensures.memory memory).0 in
    whatever _ (λ bytes. cut_unwritten _ _ _ _ _ refl three (c.answer.ensures.kept (memory_is_no_help _ memory)))

pub returns-in-Err-clause-usage : goal.returns-in-Err-clause-usage
returns-in-Err-clause-usage g c two =
    let fault = c.answer.ensures.wrong (usage_of _ (sym c.code-in-Err.ensures ∙ two)) in
    (wrong_words (map g.S.AsStr.text c.args.words.now) c.in-Err.unread c.in-Err.ensures.err fault.0 fault.1, keeps_same _, c.answer.ensures.kept fault.0)
