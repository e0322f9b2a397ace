use Rattle.std.proofs.Common.{ap₂, ◌∙◌}
use Rattle.bor_register.specs.Rows.{visible}
use Rattle.bor_register.proofs.WithoutFiles.{visible-bare}
use Rattle.bor_store_reads.proofs.Reading.{read_next, read_so}
use Rattle.bor_store_reads.proofs.views.read_visible.Goals as goal

pub returns : goal.returns
returns g c = read_so (read_next c.in_ok-day.ensures c.in_ok-members.ensures)
    (λ r stored is. c.in_ok-all_visible.ensures ∙ ap₂ (visible c.args.viewer.now) is.0 (c.as_slice.ensures.value ∙ is.1) ∙ visible-bare c.args.viewer.now r.day r.members)
