use Rattle.bor_store_reads.proofs.Lists.{all_done}
use Rattle.std.proofs.Common.{arith, Option, rules, refl, filter_map}
use Rattle.bor_records.specs.declared.links.node.Node.{Node}
use Rattle.bor_store_sql.specs.declared.rows.typed.IdentifierRow.{IdentifierRow}
use Rattle.bor_store_reads.proofs.Reading.{read_next, read_so, unread}
use Rattle.bor_store_keys.specs.Signed.{record_standing}
use Rattle.bor_records.proofs.OnLinks.Linking.{one_more}
use Rattle.bor_store_keys.proofs.records.records_standing.Goals as goal

pub loop-row-init : goal.loop-row-init
loop-row-init g c = unread (λ r stored. search rules)

pub loop-row-preserved : goal.loop-row-preserved
loop-row-preserved g c = read_so (read_next c.loop-row.invariant c.in_ok-one.ensures)
    (λ r stored is.
    (let standing : IdentifierRow → Option Node = λ (row : IdentifierRow). record_standing r.members row.at in
    one_more standing c.args.rows.now c.loop-row.row-index c.row-item.result c.in_ok-one.one c.loop-row.records.items c.push_some.new.items.items (filter_map standing c.args.rows.now) (omega arith) c.row-item.is is.1 c.in_ok-push_some.ensures is.0))

pub returns : goal.returns
returns g c = read_so c.loop-row.invariant
    (λ r stored is.
    (let standing : IdentifierRow → Option Node = λ (row : IdentifierRow). record_standing r.members row.at in
    all_done (filter_map standing) refl c.loop-row.records.items (filter_map standing c.args.rows.now) c.args.rows.now c.loop-row.row-index (omega arith) is))
