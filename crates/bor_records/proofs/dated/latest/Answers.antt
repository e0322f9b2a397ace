use Rattle.std.proofs.Common.{◌≡◌, Some, slice_get, refl, arith}
use Rattle.std.proofs.lemmas.Option.{slice_get_read}
use Rattle.bor_records.proofs.Rows.{latest_more, latest_place_more}
use Rattle.bor_records.proofs.dated.latest.Goals as goal

pub loop-i-preserved : goal.loop-i-preserved
loop-i-preserved c =
    let rows = c.args.rows.now in
    let here : slice_get rows c.loop-i.i ≡ Some c.index-rows-i.result = slice_get_read rows _ c.loop-i.i c.index-rows-i.result refl c.loop-i-test.true c.index-rows-i.is in
    record {
      place = grind (arith, latest_place_more c.args.day rows c.loop-i.i c.index-rows-i.result c.loop-i-test.true c.index-rows-i.is);
      row = grind (arith, here, latest_more c.args.day rows c.loop-i.i c.index-rows-i.result c.loop-i-test.true c.index-rows-i.is);
    }
