use Rattle.std.proofs.Common.{map, take, Ok}
use Rattle.std.specs.BTreeSet.{contains}
use Rattle.bor_records.specs.Reading.{ReadsSo}
use Rattle.bor_records.specs.Links.Alike.{Expands}
use Rattle.bor_records.specs.Links.Signs.{by_identifier, sign_cmp}
use Rattle.bor_records.proofs.links.search.add_by_identifiers.Given as goal

-- all that have one of the identifiers so far are there, unless it was noted before
abbrev pub invariant-loop-identifier : goal.invariant-loop-identifier
invariant-loop-identifier g l = ReadsSo g.R.Records.reading l.fn.records l.records (Ok l.class)
    (λ m class. Expands (g.R.Records.shown m) (map by_identifier (take l.identifier-index l.identifiers)) l.initial.class class (λ k. contains sign_cmp l.initial.looked k) (λ k. contains sign_cmp l.looked k))
