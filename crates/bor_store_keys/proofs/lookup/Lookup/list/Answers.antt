use Rattle.sqlite.specs.Held.{state}
use Rattle.bor_store_reads.proofs.Reading.{read_next, read_so}
use Rattle.bor_store_keys.proofs.Holding.{read_noted}
use Rattle.bor_store_keys.proofs.lookup.Lookup.list.Goals as goal

pub returns-then-branch : goal.returns-then-branch
returns-then-branch g c = read_so c.in_ok-has_more.ensures.reads (λ r stored is. tt)

pub returns : goal.returns
returns g c = read_noted (state g.S.Store) c.note_rows.ensures (read_so (read_next c.in_ok-has_more.ensures.reads c.in_ok-rows.ensures) (λ r stored is. tt))
