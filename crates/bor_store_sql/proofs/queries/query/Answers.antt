use Rattle.std.proofs.Common.{◌≡◌, List, Vec, false, sym, ◌∙◌, rules}
use Rattle.std.specs.declared.alloc.Global.{Global}
use Rattle.sqlite.specs.Order.{Row}
use Rattle.sqlite.specs.State.{HasCleanDisk}
use Rattle.sqlite.specs.Values.{bound}
use Rattle.bor_store_sql.proofs.Finding.{known, settled_shown}
use Rattle.bor_store_sql.proofs.Keeping.{leaves_no_more, left_by, up_by}
use Rattle.bor_store_sql.proofs.Moves.{was_clean, state}
use Rattle.bor_store_sql.proofs.queries.query.Goals as goal

abbrev rows_in : Vec Row Global → List Row
rows_in v = v.items

pub returns : goal.returns
returns g c is_query =
    let old = state g.S.Store c.args.conn.now in
    let new = state g.S.Store c.query_all.new.self in
    let text = c.args.sql.now in
    let params = bound c.args.params.now in
    let alone : old.in_transaction ≡ false = search rules in
    let left = λ (disk : HasCleanDisk new). left_by old new text is_query params rows_in c.query_all.result (c.query_all.ensures.ok disk) (c.query_all.ensures.err disk) in
    record {
      reads = record {
        mode = c.query_all.ensures.mode alone ∙ sym alone;
        clean = was_clean old new _ c.query_all.ensures.survives;
        stops = leaves_no_more old new text is_query params c.query_all.ensures.survives;
        began = λ clean. (was_clean old new _ c.query_all.ensures.survives clean.0, (left clean.0).was_open clean.1);
        kept = λ clean. (left clean.0).committed clean.1;
      };
      settled = known c.query_all.result alone;
      up = up_by old new text is_query params rows_in c.query_all.result c.query_all.ensures.ok;
      shown = λ clean. settled_shown text params old new (c.is_autocommit.ensures.settled (search rules) ((left clean.0).was_open clean.1)) c.query_all.result (c.query_all.ensures.ok clean.0);
    }
