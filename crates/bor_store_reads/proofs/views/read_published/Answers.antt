use Rattle.std.proofs.Common.{ap₂, ◌∙◌}
use Rattle.bor_register.specs.Publication.{published}
use Rattle.bor_register.proofs.WithoutFiles.{published-bare}
use Rattle.bor_store_reads.proofs.Reading.{read_next, read_so}
use Rattle.bor_store_reads.proofs.views.read_published.Goals as goal

pub returns : goal.returns
returns g c = read_so (read_next c.in_ok-day.ensures c.in_ok-members.ensures)
    (λ r stored is. c.in_ok-all_published.ensures ∙ ap₂ published is.0 (c.as_slice.ensures.value ∙ is.1) ∙ published-bare r.day r.members)
