use Rattle.std.proofs.Common.{subst, ◌∙◌}
use Rattle.sqlite.specs.Held.{state}
use Rattle.bor_store.proofs.Either.{still_lists}
use Rattle.bor_store.proofs.Lines.{gathered_all}
use Rattle.bor_store.specs.Migrating.{GathersAll, LinesSay}
use Rattle.bor_store.proofs.files.days_in_files.Goals as goal

pub returns-clause-gathered : goal.returns-clause-gathered
returns-clause-gathered g c clean r shows =
    let began = c.gather.ensures.reads.began clean in
    let shown = still_lists r (state g.S.Store c.args.conn.now) (state g.S.Store c.found_lines.new.conn) (c.found_lines.ensures.reads.kept began) shows in
    gathered_all r.members shows.stored.ordered shows.stored.numbered c.gather.result
    (subst (λ ls. GathersAll (LinesSay r.members ls) c.gather.result) (c.as_slice.ensures.value ∙ c.in_ok-lines.ensures.answer began r shows) (c.gather.ensures.gathered clean r shown))
