use Rattle.std.proofs.Common.{◌∙◌, filter}
use Rattle.bor_store_sql.specs.declared.rows.typed.Placed.{Placed}
use Rattle.bor_store_sql.specs.Rows.Placed.{placed, same_place}
use Rattle.bor_store_sql.proofs.OnRows.Apart.{all_apart, apart_filter}
use Rattle.bor_store_sql.proofs.OnRows.Timings.{all_several}
use Rattle.bor_store_sql.specs.Selected.{interests_at}
use Rattle.bor_store_reads.proofs.Reading.{read_next, read_so}
use Rattle.bor_store_reads.proofs.declarations.interests_of_one.Goals as goal

pub returns : goal.returns
returns g c =
    let at = c.args.at.now in
    read_so (read_next c.in_ok-lines.ensures c.in_ok-periods.ensures)
    (λ r stored is.
    (let here = filter (λ (p : Placed). same_place p.at at) (placed r.members) in
    c.in_ok-with_periods.ensures (interests_at at r.members) (all_several here (apart_filter (λ (p : Placed). same_place p.at at) (placed r.members) (all_apart r.members stored.ordered stored.numbered))) is.0 (c.as_slice.ensures.value ∙ is.1)))
