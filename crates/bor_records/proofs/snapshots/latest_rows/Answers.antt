use Rattle.std.proofs.Common.{sym, ap, ◌∙◌, refl}
use Rattle.std.proofs.lemmas.Map.Text.{btree_map_updates_str}
use Rattle.bor_records.specs.Found.{found_at}
use Rattle.bor_records.proofs.Rows.{latest_series_more, put_latest, pass_latest}
use Rattle.bor_records.proofs.snapshots.latest_rows.Goals as goal
use Rattle.bor_records.proofs.snapshots.latest_rows.Goals.{then-counts+in_ok-insert, else-counts}

pub loop-row-preserved : goal.loop-row-preserved
loop-row-preserved c = λ rec.
    let more = latest_series_more c.args.day c.args.declaration.now rec c.args.rows.now c.loop-row.row-index c.row-item.result c.loop-row-test.true c.row-item.is in
    elim c.if-counts.branch [
      | then-counts+in_ok-insert w ↦
          let put = btree_map_updates_str _ c.loop-row.found w.insert.new.self _ w.in_ok-insert.ensures.updates rec in
          ap (λ m. found_at m rec) w.found-is
          ∙ put_latest c.args.day c.args.declaration.now rec c.row-item.result _ _ _ _ _ refl w.as_str.ensures.value (sym c.counts.ensures ∙ w.if-counts.true) put (c.loop-row.invariant rec)
          ∙ sym more
      | else-counts w ↦
          ap (λ m. found_at m rec) w.found-is ∙ c.loop-row.invariant rec
          ∙ pass_latest c.args.day c.args.declaration.now rec c.row-item.result _ (sym c.counts.ensures ∙ w.if-counts.false)
          ∙ sym more
    ]
