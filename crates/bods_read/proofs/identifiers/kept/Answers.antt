use Rattle.std.proofs.Common.{sym, ◌∙◌}
use Rattle.std.proofs.lemmas.List.{append-nil}
use Rattle.serde_json.specs.View.{view}
use Rattle.bods_read.specs.Details.{identifier_in}
use Rattle.bods_read.proofs.Kept.{kept_one}
use Rattle.bods_read.proofs.identifiers.kept.Goals as goal
use Rattle.bods_read.proofs.identifiers.kept.Goals.{in-Some+in_ok-push, in_default}

pub loop-item-preserved : goal.loop-item-preserved
loop-item-preserved c =
    let one = kept_one identifier_in view c.args.items.now c.loop-item.item-index c.item-item.result c.loop-item.kept.items c.in_ok-identifier.field-0 c.loop-item-test.true c.item-item.is c.in_ok-identifier.ensures c.loop-item.invariant in
    elim c.match-branch-2.branch [ in-Some+in_ok-push w ↦ rw (w.kept-is, w.in_ok-push.ensures.items) (rw w.in-Some.is at one) | in_default w ↦ rw w.kept-is (sym (append-nil _) ∙ (rw w.in_default.is at one)) ]
