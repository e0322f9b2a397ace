use Rattle.std.proofs.Common.{◌≡◌, ◌∷◌, ◌++◌, [], ◌∙◌, true, length, drop, take, get_or, ap, refl, subst, sym, arith}
use Rattle.std.specs.List.{AllByRecursion}
use Rattle.std.proofs.lemmas.List.{take_more}
use Rattle.sqlite_keyed.proofs.ListLemmas.{all-append}
use Rattle.bor_store_sql.proofs.OnRows.Lists.{stops}
use Rattle.bor_store_sql.proofs.rows.split.split_own.Goals as goal

pub loop-count-preserved : goal.loop-count-preserved
loop-count-preserved g c = λ own computes.
    let xs = c.args.rows.now in
    let i = c.loop-count.count in
    let says : c.is_own.result ≡ own c.index-rows-count.result = computes _ _ (record { shown = _; shows = refl; says = record { met = c.is_own.ensures } }) in
    subst (AllByRecursion (λ x. own x ≡ true)) (ap (λ y. take i xs ++ y ∷ []) c.index-rows-count.is ∙ sym (take_more xs i c.index-rows-count.result c.loop-count-test.true))
    (all-append (λ x. own x ≡ true) (take i xs) (c.index-rows-count.result ∷ []) (c.loop-count.invariant own computes) (sym says ∙ c.if-not-is_own.false, tt))

pub returns-then-not-is_own : goal.returns-then-not-is_own
returns-then-not-is_own g c own computes mine more is all none =
    let i = c.loop-count.count in
    let item = c.index-rows-count.result in
    let says : c.is_own.result ≡ own item = computes _ _ (record { shown = _; shows = refl; says = record { met = c.is_own.ensures } }) in
    let got = stops own mine more i all none (subst (λ l. AllByRecursion (λ x. own x ≡ true) (take i l)) is (c.loop-count.invariant own computes))
    (λ lt. (item, c.index-rows-count.is ∙ ap (λ l. get_or l i item) is, sym says ∙ c.if-not-is_own.true)) in
    (c.split_at.ensures.front ∙ ap (take i) is ∙ got.0, c.split_at.ensures.back ∙ ap (drop i) is ∙ got.1)

pub returns : goal.returns
returns g c own computes mine more is all none =
    let n = length c.args.rows.now in
    let end : c.loop-count.count ≡ n = omega arith in
    let many : n ≡ length (mine ++ more) = ap length is in
    let so = subst (λ k. AllByRecursion (λ x. own x ≡ true) (take k c.args.rows.now)) end (c.loop-count.invariant own computes) in
    let got = stops own mine more n all none (subst (λ l. AllByRecursion (λ x. own x ≡ true) (take n l)) is so) (λ lt. absurd (omega (arith, lt, many))) in
    (c.split_at-2.ensures.front ∙ ap (take n) is ∙ got.0, c.split_at-2.ensures.back ∙ ap (drop n) is ∙ got.1)
