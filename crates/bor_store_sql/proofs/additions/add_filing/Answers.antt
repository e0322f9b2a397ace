use Rattle.std.proofs.Common.{◌<◌, All, subst, arith, rules}
use Rattle.std.proofs.lemmas.List.Elements.{All-from_get_or}
use Rattle.bor_terms.specs.Day.{IsDay}
use Rattle.bor_store_sql.specs.Rows.Encoding.{contents}
use Rattle.bor_store_sql.specs.Rows.Stored.{AreCounted}
use Rattle.bor_store_sql.specs.Changing.{Any, with_live_filing}
use Rattle.bor_store_sql.specs.Shown.{ChangesContents, StepsTo}
use Rattle.bor_store_sql.proofs.Contents.{added_has}
use Rattle.bor_store_sql.proofs.StoredMembers.{added_stored}
use Rattle.bor_store_sql.proofs.Ending.{alters, ended}
use Rattle.bor_store_sql.proofs.Moves.{with_known, state}
use Rattle.bor_store_sql.proofs.additions.add_filing.Goals as goal

pub returns : goal.returns
returns g c =
    let began = state g.S.Store c.transaction-tx.result.conn.now in
    let mid = state g.S.Store c.insert_rows-done.new.tx.conn.now in
    let agent = c.args.filing.agent in
    let number = c.args.filing.number in
    let key = c.args.key.now in
    let due = c.args.due in
    let bytes = c.args.bytes.now in
    let ss = c.args.statements.now in
    let is = subst IsDay c.number-known.ensures.value c.number-known.ensures.within in
    let are_bytes : All (λ b. b < 256) bytes = All-from_get_or (λ b. b < 256) bytes 0 (λ i lt. let fits = c.type_inv.bytes i in omega (arith, fits)) in
    let steps = subst (λ k. StepsTo Any (with_live_filing agent number k due bytes ss) began mid c.insert_rows-done.result) c.as_str-lodge_key.ensures.value c.insert_rows-done.ensures.steps in
    let counted = with_known (AreCounted ss) (ChangesContents Any (with_live_filing agent number key due bytes ss)) began mid c.insert_rows-done.result c.insert_rows-done.ensures.counted steps in
    alters (ended g.S.Store c.args.conn.now c.finish.new.tx.0 c.conn-1.given.0 c.transaction-tx.ensures.begun counted c.insert_rows-done.ensures.ran_open c.finish.ensures.ends c.finish.ensures.mode (c.is_autocommit.ensures.settled (search rules)) (search rules) (search rules))
    (λ r shows may db makes. (added_has agent number key due bytes ss r may.enrolled may.next db (makes.0 (contents r) shows.has (tt {0})), added_stored agent key due bytes ss r shows.stored may.room c.as_str-lodge_key.ensures.form is are_bytes may.formed makes.1))
