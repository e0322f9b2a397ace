use Rattle.bor_register.proofs.SeenRows.{agent_added}
use Rattle.bor_register.specs.Rows.{visible}
use Rattle.bor_register.proofs.rows.all_visible.Goals as goal

pub loop-member-preserved : goal.loop-member-preserved
loop-member-preserved c =
    let ms = c.args.members.now in
    rw (c.in_ok-add_visible.ensures, c.as_slice-filings.ensures)
    (agent_added c.args.viewer.now c.args.day ms c.loop-member.member-index c.member-item.result c.loop-member.rows.items (visible c.args.viewer.now c.args.day ms) c.loop-member-test.true c.member-item.is c.loop-member.invariant)
