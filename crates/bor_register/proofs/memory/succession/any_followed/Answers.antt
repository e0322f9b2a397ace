use Rattle.std.proofs.Common.{◌≡◌, ◌∙◌, ◌+◌, drop, true, sym}
use Rattle.std.specs.List.{list_any}
use Rattle.std.proofs.lemmas.List.{at_drop_all}
use Rattle.bor_register.proofs.OnMemory.Succeeded.{any_shared, is_shared, one_shared}
use Rattle.bor_register.proofs.memory.succession.any_followed.Goals as goal

pub returns-then-is_followed : goal.returns-then-is_followed
returns-then-is_followed c =
    let later = drop (c.args.at + 1) c.args.filings.now in
    let s = c.statement-item.result in
    let lt = rw c.as_slice-statement-items.ensures at c.loop-statement-test.true in
    let is = rw c.as_slice-statement-items.ensures at c.statement-item.is in
    let hit : is_shared later s ≡ true = sym (sym c.if-is_followed.true ∙ (rw c.in_ok-node.ensures at c.is_followed.ensures)) in
    sym (sym c.loop-statement.invariant ∙ one_shared later c.args.filing.now.statements c.loop-statement.statement-index s lt is hit) ∙ any_shared c.args.filing.now later

pub returns : goal.returns
returns c =
    let later = drop (c.args.at + 1) c.args.filings.now in
    let end = rw c.as_slice-statement-items.ensures at c.loop-statement-test.false in
    sym (at_drop_all (list_any (is_shared later)) c.args.filing.now.statements c.loop-statement.statement-index end) ∙ c.loop-statement.invariant ∙ any_shared c.args.filing.now later
