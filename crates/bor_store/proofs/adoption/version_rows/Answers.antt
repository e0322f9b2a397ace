use Rattle.std.proofs.Common.{◌≡◌, List, Vec, [], false, sym, ◌∙◌, rules, Global}
use Rattle.sqlite.specs.Order.{Row}
use Rattle.sqlite.specs.Held.{state}
use Rattle.sqlite.specs.State.{HasCleanDisk}
use Rattle.bor_store_sql.proofs.Finding.{known, settled_shown}
use Rattle.bor_store_sql.proofs.Keeping.{leaves_no_more, left_by, up_by}
use Rattle.bor_store_sql.proofs.Moves.{was_clean}
use Rattle.bor_store.specs.Opening.{version_text}
use Rattle.bor_store.proofs.Adopting.{version_asks, versions_left, versions_told}
use Rattle.bor_store.proofs.adoption.version_rows.Goals as goal

abbrev rows_in : Vec Row Global → List Row
rows_in v = v.items

pub returns-clause-asked : goal.returns-clause-asked
returns-clause-asked g c =
    let old = state g.S.Store c.args.conn.now in
    let new = state g.S.Store c.query_all.new.self in
    let alone : old.in_transaction ≡ false = search rules in
    let left = λ (disk : HasCleanDisk new). left_by old new version_text version_asks [] rows_in c.query_all.result (c.query_all.ensures.ok disk) (c.query_all.ensures.err disk) in
    record {
      reads = record {
        mode = c.query_all.ensures.mode alone ∙ sym alone;
        clean = was_clean old new _ c.query_all.ensures.survives;
        stops = leaves_no_more old new version_text version_asks [] c.query_all.ensures.survives;
        began = λ clean. (was_clean old new _ c.query_all.ensures.survives clean.0, (left clean.0).was_open clean.1);
        kept = λ clean. (left clean.0).committed clean.1;
      };
      settled = known c.query_all.result alone;
      up = up_by old new version_text version_asks [] rows_in c.query_all.result c.query_all.ensures.ok;
      shown = λ clean. settled_shown version_text [] old new (c.is_autocommit.ensures.settled (search rules) ((left clean.0).was_open clean.1)) c.query_all.result (c.query_all.ensures.ok clean.0);
    }

pub returns-clause-versions : goal.returns-clause-versions
returns-clause-versions g c clean = versions_told (state g.S.Store c.args.conn.now) (state g.S.Store c.query_all.new.self) c.query_all.result (c.query_all.ensures.ok clean)

pub returns-clause-same : goal.returns-clause-same
returns-clause-same g c clean = versions_left (state g.S.Store c.args.conn.now) (state g.S.Store c.query_all.new.self) c.query_all.result (c.query_all.ensures.ok clean)
