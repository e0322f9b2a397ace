use Rattle.std.proofs.Common.{◌≡◌, ◌∙◌, ◌+◌, ◌-◌, ◌<◌, ◌∷◌, ℕ, Bool, List, length, drop, map, reverse, arith, sym, ap, cond, Bor}
use Rattle.std.specs.BTreeSet.{contains}
use Rattle.bor_records.specs.declared.row.Row.{Row}
use Rattle.bor_records.specs.OpenRows.{open_rows}
use Rattle.bor_records.specs.Seen.{series_cmp}
use Rattle.bor_records.proofs.Backwards.{seen_before, latest_before, pushed_on, map_reverse}
use Rattle.bor_records.proofs.series.open_rows.Goals as goal

pub loop-next-preserved-in-Continue-branch-2 : goal.loop-next-preserved-in-Continue-branch-2
loop-next-preserved-in-Continue-branch-2 c =
    let invariant = c.loop-next.invariant in
    let next = c.loop-next.next in
    let one : next - 1 + 1 ≡ next = omega arith in
    let lt : next - 1 < length c.args.rows.now = omega arith in
    record {
      within = omega arith;
      seen = seen_before c.args.day c.args.rows.now next (next - 1) c.index-rows-next.result (λ q. contains series_cmp c.loop-next.seen q) (λ q. contains series_cmp c.is_latest.new.seen q) one lt c.index-rows-next.is
          invariant.seen c.in_ok-is_latest.ensures.seen;
      latest = pushed_on {A = Bor Row} {B = Row} (λ x. x.now) c.push.new.self.items c.loop-next.latest.items _ c.in_ok-push.ensures.items
          ∙ ap (λ (b : Bool). cond b (c.index-rows-next.result ∷ reverse (map (λ x. x.now) c.loop-next.latest.items)) (reverse (map (λ x. x.now) c.loop-next.latest.items))) (sym c.if-branch.true)
          ∙ latest_before c.args.day c.args.rows.now next (next - 1) c.index-rows-next.result c.series_of.result (λ q. contains series_cmp c.loop-next.seen q) _ c.in_ok-is_latest.field-0 one lt c.index-rows-next.is c.series_of.ensures
          invariant.seen c.in_ok-is_latest.ensures.latest invariant.latest;
    }

pub loop-next-preserved : goal.loop-next-preserved
loop-next-preserved c =
    let invariant = c.loop-next.invariant in
    let next = c.loop-next.next in
    let one : next - 1 + 1 ≡ next = omega arith in
    let lt : next - 1 < length c.args.rows.now = omega arith in
    record {
      within = omega arith;
      seen = seen_before c.args.day c.args.rows.now next (next - 1) c.index-rows-next.result (λ q. contains series_cmp c.loop-next.seen q) (λ q. contains series_cmp c.is_latest.new.seen q) one lt c.index-rows-next.is
          invariant.seen c.in_ok-is_latest.ensures.seen;
      latest = ap (λ (b : Bool). cond b (c.index-rows-next.result ∷ reverse (map (λ x. x.now) c.loop-next.latest.items)) (reverse (map (λ x. x.now) c.loop-next.latest.items))) (sym c.if-branch.false)
          ∙ latest_before c.args.day c.args.rows.now next (next - 1) c.index-rows-next.result c.series_of.result (λ q. contains series_cmp c.loop-next.seen q) _ c.in_ok-is_latest.field-0 one lt c.index-rows-next.is c.series_of.ensures
          invariant.seen c.in_ok-is_latest.ensures.latest invariant.latest;
    }

pub returns : goal.returns
returns c =
    let zero : c.loop-next.next ≡ 0 = omega arith in
    ap (λ (zs : List (Bor Row)). map (λ x. x.now) zs) c.reverse.ensures.items ∙ map_reverse {A = Bor Row} {B = Row} (λ x. x.now) c.loop-next.latest.items ∙ c.loop-next.invariant.latest ∙ ap (λ (j : ℕ). open_rows c.args.day (drop j c.args.rows.now)) zero
