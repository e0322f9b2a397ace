use Rattle.bor_store_sql.specs.Selected.{placed_of, with_subject}
use Rattle.bor_store_reads.proofs.Reading.{read_so}
use Rattle.bor_store_keys.proofs.Recording.{records_cover}
use Rattle.bor_store_keys.proofs.records.records_into.Goals as goal

pub returns : goal.returns
returns g c = read_so c.in_ok-rows.ensures
    (λ r stored is. records_cover (with_subject c.args.node.now.declaration c.args.node.now.rec (placed_of c.args.node.now.agent r)) c.in_ok-rows.rows.items c.in_ok-records_at.field-0.items c.in_ok-records_at.field-0.items is c.in_ok-records_at.ensures (λ n. ((λ h. h), (λ h. h))))
