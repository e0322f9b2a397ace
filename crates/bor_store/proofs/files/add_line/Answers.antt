use Rattle.std.proofs.Common.{sym, ◌∙◌}
use Rattle.sqlite.specs.Held.{state}
use Rattle.bor_store.proofs.Either.{still_lists}
use Rattle.bor_store.proofs.Lines.{live_gathered}
use Rattle.bor_store.proofs.files.add_line.Goals as goal

pub returns-in-Some-clause-gathered : goal.returns-in-Some-clause-gathered
returns-in-Some-clause-gathered g c clean r shows =
    let began = c.add_file.ensures.reads.began clean in
    let shown = still_lists r (state g.S.Store c.args.conn.now) (state g.S.Store c.found_file.new.conn) (c.in_ok-file.ensures.reads.kept began) shows in
    live_gathered r.members c.args.line.now c.args.days.now.items c.add_file.new.days.items c.add_file.result c.if-line.false c.in-Some.file
    (sym c.in-Some.is ∙ c.in_ok-file.ensures.answer began r shows)
    (λ f at same. c.add_file.ensures.gathered clean r shown f at (same ∙ sym c.as_slice.ensures))
