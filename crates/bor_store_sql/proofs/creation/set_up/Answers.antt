use Rattle.std.proofs.Common.{inl, inr, subst, rules}
use Rattle.bor_terms.specs.Day.{IsDay}
use Rattle.bor_register.specs.Register.{empty_register}
use Rattle.bor_store_sql.specs.Rows.Encoding.{contents}
use Rattle.bor_store_sql.specs.Texts.Tables.{no_schema}
use Rattle.bor_store_sql.specs.Beside.{SetsUpSound}
use Rattle.bor_store_sql.specs.Blank.{IsBlank, LeadsBetween}
use Rattle.bor_store_sql.specs.Ran.{MovesTo}
use Rattle.bor_store_sql.specs.Shown.{Has}
use Rattle.bor_store_sql.proofs.Creating.{empty_is_stored}
use Rattle.bor_store_sql.proofs.Ending.{ended, on_ok, stands_in, stopped_in, state}
use Rattle.bor_store_sql.proofs.Standing.{sets_up_in}
use Rattle.bor_store_sql.proofs.creation.set_up.Goals as goal

pub returns : goal.returns
returns g c =
    let was = state g.S.Store c.args.conn.now in
    let began = state g.S.Store c.transaction-tx.result.conn.now in
    let mid = state g.S.Store c.make_register-done.new.tx.conn.now in
    let done = c.make_register-done.ensures in
    let token = c.args.registrar.now in
    let day = c.args.day in
    let is = subst IsDay c.number-known.ensures.value c.number-known.ensures.within in
    let leads = subst (λ t. LeadsBetween (IsBlank no_schema) (Has (contents (empty_register t day))) began mid c.make_register-done.result) c.as_str-token.ensures.value done.leads in
    let it = ended g.S.Store c.args.conn.now c.finish.new.tx.0 c.conn-1.given.0 c.transaction-tx.ensures.begun leads done.ran_open c.finish.ensures.ends c.finish.ensures.mode (c.is_autocommit.ensures.settled (search rules)) (search rules) (search rules) in
    let sets = subst (λ t. MovesTo (SetsUpSound (empty_register t day)) began mid c.make_register-done.result) c.as_str-token.ensures.value done.sets_up in
    let all = ended g.S.Store c.args.conn.now c.finish.new.tx.0 c.conn-1.given.0 c.transaction-tx.ensures.begun sets done.ran_open c.finish.ensures.ends c.finish.ensures.mode (c.is_autocommit.ensures.settled (search rules)) (search rules) (search rules) in
    record {
      commits = it.commits;
      made = λ clean none. on_ok c.finish.result (it.made clean) (λ makes. record { has = makes (record { is = none; empty = tt }); stored = empty_is_stored token day c.as_str-token.ensures.form is });
      stops = stopped_in (λ old new. IsBlank no_schema old → Has (contents (empty_register token day)) new) _ was (state g.S.Store c.conn-1.given.0)
          (λ trees m none. stands_in (empty_register token day) m.after trees m.trees_are (m.made (record { is = none; empty = tt }), empty_is_stored token day c.as_str-token.ensures.form is)) it.stops;
      beside = λ clean. on_ok c.finish.result (all.made clean) (λ makes. makes (c.schema-live.ensures.live (it.commits.began clean).1).1);
      stops_beside = λ clean trees left. elim (all.stops clean trees left) [
        | inl before ↦ inl before
        | inr (began, m) ↦ inr (began, sets_up_in (empty_register token day) was.committed m.after trees m.trees_are (m.made (c.schema-live.ensures.live began.1).1))
      ];
    }
