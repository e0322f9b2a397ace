use Rattle.bor_register.proofs.SeenRows.{published_added}
use Rattle.bor_register.specs.Publication.{published}
use Rattle.bor_register.proofs.publication.all_published.Goals as goal

pub loop-member-preserved : goal.loop-member-preserved
loop-member-preserved c =
    let ms = c.args.members.now in
    rw (c.in_ok-add_outwards.ensures, c.as_slice.ensures)
    (published_added c.args.day ms c.loop-member.member-index c.member-item.result c.loop-member.outwards.items (published c.args.day ms) c.loop-member-test.true c.member-item.is c.loop-member.invariant)
