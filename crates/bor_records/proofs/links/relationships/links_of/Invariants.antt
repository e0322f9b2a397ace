use Rattle.std.proofs.Common.{◌≡◌, ◌++◌, true, drop, Ok}
use Rattle.std.specs.List.{filter_map}
use Rattle.bor_records.specs.Reading.{ReadsSo}
use Rattle.bor_records.specs.Links.Rows.{is_entity_info}
use Rattle.bor_records.specs.Links.Shown.{info_of}
use Rattle.bor_records.specs.Links.Relationships.{link_of}
use Rattle.bor_records.proofs.links.relationships.links_of.Given as goal

-- the links so far and those of what is left are all
abbrev pub invariant-loop-rec : goal.invariant-loop-rec
invariant-loop-rec g l = ReadsSo g.R.Records.reading l.fn.records l.records (Ok l.links) (λ m links.
    is_entity_info (info_of (g.R.Records.shown m) l.subject) ≡ true
    → links.items ++ filter_map (link_of (g.R.Records.shown m) l.subject) (drop l.rec-index l.candidates) ≡ filter_map (link_of (g.R.Records.shown m) l.subject) l.candidates)
