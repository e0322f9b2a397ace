use Rattle.std.proofs.Common.{Ok, ◌-◌, ◌^◌}
use Rattle.std.specs.BTreeSet.{contains}
use Rattle.bor_records.specs.Reading.{ReadsSo}
use Rattle.bor_records.specs.Links.Signs.{sign_cmp}
use Rattle.bor_records.proofs.OnLinks.Signed.{AreGathered}
use Rattle.bor_records.proofs.links.search.same.Given as goal

-- all that share a sign with a node before `next` are there, and so are those that have a noted one
abbrev pub invariant-loop-next : goal.invariant-loop-next
invariant-loop-next g l = ReadsSo g.R.Records.reading l.fn.records l.records (Ok l.class)
    (λ m class. AreGathered (g.R.Records.shown m) l.node l.next class (λ k. contains sign_cmp l.looked k))

-- a list in memory has fewer than 2 ^ 64 elements
abbrev pub decreases-loop-next : goal.decreases-loop-next
decreases-loop-next g l = 2 ^ 64 - l.next
