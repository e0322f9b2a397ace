use Rattle.std.proofs.Common.{◌≡◌, ◌++◌, [], ap, sym, ◌∙◌}
use Rattle.std.proofs.lemmas.List.{append-nil}
use Rattle.bor_records.proofs.OpenRecords.{shown, snapshot-found}
use Rattle.bor_records.proofs.snapshots.snapshot.Goals as goal

pub returns : goal.returns
returns c =
    let entries = c.loop-row.entries.items in
    let left : c.loop-row.row-iterator ≡ [] = c.in-None.ensures.steps.0 in
    sym (append-nil entries) ∙ ap (λ rows. entries ++ shown rows) (sym left) ∙ c.loop-row.invariant
    ∙ ap shown (c.into_iter-row-iterator.ensures.into_iter_gives ∙ c.values-row-items.ensures.rest)
    ∙ snapshot-found c.args.declaration.now c.args.day c.args.rows.now c.in_ok-found.found c.values-row-items.ensures.ordered c.in_ok-found.ensures
