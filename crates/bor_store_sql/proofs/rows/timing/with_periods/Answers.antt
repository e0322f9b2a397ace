use Rattle.std.proofs.Common.{◌≡◌, ◌∷◌, [], length, refl, ap, arith, rules}
use Rattle.std.specs.Vec.Iter.{into_iter_items}
use Rattle.std.proofs.lemmas.List.{nil_from_length}
use Rattle.bor_store_sql.proofs.OnRows.Timings.{one_more, none_left}
use Rattle.bor_store_sql.proofs.rows.timing.with_periods.Goals as goal

pub loop-line-preserved : goal.loop-line-preserved
loop-line-preserved c =
    let steps : into_iter_items c.loop-line.line-iterator ≡ c.in-Some.line ∷ into_iter_items c.next.new.self = c.in-Some.ensures.steps.0 in (
      let was = c.loop-line.invariant.0 in
          let gone = c.in-Some.ensures.steps.1 in
          let short = ap length steps in
          omega arith,
      λ is several lines periods. rw c.in_ok-push.ensures.items (one_more is c.loop-line.rows.items c.in-Some.line _ _ _ c.beyond-left.result.now c.days_of-starts.result.0 c.days_of-starts.result.1 _
          (c.loop-line.invariant.1 is several lines periods) steps c.days_of-starts.ensures c.beyond-left.ensures refl),
    )

pub returns : goal.returns
returns c is several lines periods = search (rules, nil_from_length, none_left)
