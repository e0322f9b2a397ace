use Rattle.std.proofs.Common.{◌++◌, [], ◌∷◌}
use Rattle.bor_register.specs.Register.{empty_register}
use Rattle.bor_store_sql.specs.Texts.Tables.{no_schema, first_schema, period_table}
use Rattle.bor_store_sql.specs.Rows.Encoding.{contents}
use Rattle.bor_store_sql.specs.Shown.{Has}
use Rattle.bor_store_sql.specs.Beside.{Adds, blank, details, four_indexes, lists}
use Rattle.bor_store_sql.specs.Blank.{IsBlank, no_contents}
use Rattle.bor_store_sql.proofs.Standing.{adds_all}
use Rattle.bor_store_sql.proofs.Creating.{both_lead, period_leads}
use Rattle.bor_store_sql.proofs.Moves.{both_move, fails, state, then_fails}
use Rattle.bor_store_sql.proofs.creation.make_register.Goals as goal

pub returns-clause-leads : goal.returns-clause-leads
returns-clause-leads g c =
    let so2 = both_lead (IsBlank no_schema) (IsBlank first_schema) (Has no_contents) (state g.S.Store c.args.tx.now.conn.now) (state g.S.Store c.create_tables.new.tx.conn.now) (state g.S.Store c.create_period.new.tx.conn.now) _ c.in_ok-create_tables.ensures.leads (period_leads (state g.S.Store c.create_tables.new.tx.conn.now) (state g.S.Store c.create_period.new.tx.conn.now) _ c.in_ok-create_period.ensures.moves) in
    both_lead (IsBlank no_schema) (Has no_contents) (Has (contents (empty_register c.args.registrar.now c.args.day))) (state g.S.Store c.args.tx.now.conn.now) (state g.S.Store c.create_period.new.tx.conn.now) (state g.S.Store c.insert_register.new.tx.conn.now) c.insert_register.result so2 c.insert_register.ensures.leads

pub returns-clause-sets_up : goal.returns-clause-sets_up
returns-clause-sets_up g c =
    let tables = both_move _ _ (Adds (lists ++ details ++ blank period_table ∷ []) four_indexes) (state g.S.Store c.args.tx.now.conn.now) (state g.S.Store c.create_tables.new.tx.conn.now) (state g.S.Store c.create_period.new.tx.conn.now) _ (adds_all (lists ++ details) (blank period_table ∷ []) four_indexes [] (state g.S.Store c.args.tx.now.conn.now).now (state g.S.Store c.create_tables.new.tx.conn.now).now (state g.S.Store c.create_period.new.tx.conn.now).now) c.in_ok-create_tables.ensures.adds c.in_ok-create_period.ensures.adds in
    both_move _ _ _ (state g.S.Store c.args.tx.now.conn.now) (state g.S.Store c.create_period.new.tx.conn.now) (state g.S.Store c.insert_register.new.tx.conn.now) c.insert_register.result (λ adds puts. puts (state g.S.Store c.args.tx.now.conn.now).now adds) tables c.insert_register.ensures.puts

pub returns-in_err-create_tables-clause-leads : goal.returns-in_err-create_tables-clause-leads
returns-in_err-create_tables-clause-leads g c = fails c.from_residual.ensures.0 c.in_err-create_tables.ensures.leads

pub returns-in_err-create_tables-clause-sets_up : goal.returns-in_err-create_tables-clause-sets_up
returns-in_err-create_tables-clause-sets_up g c = fails c.from_residual.ensures.0 c.in_err-create_tables.ensures.adds

pub returns-in_err-create_period-clause-leads : goal.returns-in_err-create_period-clause-leads
returns-in_err-create_period-clause-leads g c = then_fails c.from_residual-in_err-create_period.ensures.0 c.in_ok-create_tables.ensures.leads c.in_err-create_period.ensures.moves

pub returns-in_err-create_period-clause-sets_up : goal.returns-in_err-create_period-clause-sets_up
returns-in_err-create_period-clause-sets_up g c = then_fails c.from_residual-in_err-create_period.ensures.0 c.in_ok-create_tables.ensures.adds c.in_err-create_period.ensures.adds
