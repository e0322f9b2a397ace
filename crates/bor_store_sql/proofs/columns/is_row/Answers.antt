use Rattle.std.proofs.Common.{◌≡◌, length, refl, arith, ext_get_or}
use Rattle.std.proofs.lemmas.List.{length-map}
use Rattle.sqlite.specs.Values.{bound, bound_value}
use Rattle.sqlite_value.specs.Value.{owned}
use Rattle.sqlite_value.specs.declared.value.Value.TheVariants.{Null}
use Rattle.sqlite_value.specs.declared.value.ValueRef.{ValueRef}
use Rattle.bor_store_sql.proofs.columns.is_row.Goals as goal

pub returns : goal.returns
returns c =
    let many : length (bound c.args.values.now) ≡ length c.args.values.now = length-map c.args.values.now (λ (v : ValueRef). bound_value (owned v)) in
    (λ _. ext_get_or Null c.args.row.now (bound c.args.values.now) (omega arith) (λ k h. c.loop-at.invariant k (omega arith)), λ _. refl)
