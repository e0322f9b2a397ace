use Rattle.std.proofs.Common.{◌≡◌, ◌++◌, drop}
use Rattle.bor_chains.specs.Tables.{links_at}
use Rattle.bor_chains.proofs.tables.links_at.Given as goal

-- the links so far and those of what is left are all
abbrev pub invariant-loop-place : goal.invariant-loop-place
invariant-loop-place l = l.out.items ++ links_at l.links l.subject (drop l.place-index l.places) ≡ links_at l.links l.subject l.places
