use Rattle.std.proofs.Common.{◌≡◌, IsTrue, ℕ, ◌-◌, ◌*◌, ◌<◌, ◌^◌, arith, min, nat_lt, ap, mul_comm, ◌∙◌}
use Rattle.std.proofs.lemmas.Bool.Decides.{nat_tests}
use Rattle.std.specs.Duration.{as_nanos, max_nanos}
use Rattle.bor_program.proofs.connections.taking.is_below.Goals as goal

-- no number of bytes is more than a time can be
tells : (taken all least : ℕ) → taken < 2 ^ 64 → least ≡ min all max_nanos → (IsTrue (nat_lt (taken * 1_000_000_000) least) → taken * 1_000_000_000 < all) × (taken * 1_000_000_000 < all → IsTrue (nat_lt (taken * 1_000_000_000) least))
tells taken all least fits is = (λ lt. grind (arith, nat_tests), λ lt. grind (arith, nat_tests))

pub returns : goal.returns
returns c =
    let first = as_nanos c.args.limits.reply in
    let in_all = as_nanos c.args.in_all in
    let behind = as_nanos c.saturating_sub-behind.result in
    let all : behind * c.args.limits.floor ≡ c.args.limits.floor * (in_all - first) = mul_comm behind c.args.limits.floor ∙ ap (λ n. c.args.limits.floor * n) c.saturating_sub-behind.ensures in
    let least = c.as_nanos-2.ensures ∙ c.saturating_mul-least.ensures ∙ ap (λ n. min n max_nanos) all in
    let taken = c.as_nanos.ensures ∙ c.from_secs.ensures in
    rw taken (tells c.args.taken (c.args.limits.floor * (in_all - first)) c.as_nanos-2.result c.ranges.taken.fits least)
