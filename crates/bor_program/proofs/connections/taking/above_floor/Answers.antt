use Rattle.std.proofs.Common.{◌≡◌, ◌≤◌, ◌*◌, ◌/◌, ◌-◌, ◌∙◌, ap, arith, inl, inr, min}
use Rattle.std.proofs.lemmas.Bool.{cases_lt}
use Rattle.std.specs.Duration.{as_nanos, max_nanos}
use Rattle.bor_program.proofs.OnConnections.Waits.{floor_before, floor_behind, no_floor, spare_is}
use Rattle.bor_program.proofs.connections.taking.above_floor.Goals as goal

pub returns-clause-before : goal.returns-clause-before
returns-clause-before c = λ more lt.
    let limits = c.args.limits in
    let first = as_nanos limits.reply in
    let in_all = as_nanos c.args.in_all in
    let spare = spare_is c.checked_div.result c.unwrap_or-spare.result _ limits.floor _ c.checked_div.ensures.variant c.checked_div.ensures.some c.unwrap_or-spare.ensures in
    let fits : c.args.taken * 1_000_000_000 ≤ max_nanos = omega (arith, c.ranges.taken.fits) in
    let rest : as_nanos c.saturating_sub.result ≡ c.args.taken * 1_000_000_000 - min ((in_all - first) * limits.floor) max_nanos = cc (c.saturating_sub.ensures, c.from_secs.ensures, c.saturating_mul.ensures, c.saturating_sub-behind.ensures) in
    elim (cases_lt 0 limits.floor) [
      | inl some ↦
          floor_before limits.floor first c.args.taken in_all max_nanos (as_nanos c.unwrap_or-spare.result) (as_nanos c.saturating_add.result) more some fits (spare.0 some ∙ ap (λ n. n / limits.floor) rest)
          (omega (arith, c.saturating_add.ensures, c.saturating_sub-2.ensures)) lt
      | inr none ↦ no_floor limits.floor first c.args.taken _ (omega (arith, none))
    ]

pub returns-clause-behind : goal.returns-clause-behind
returns-clause-behind c = λ more lt within.
    let limits = c.args.limits in
    let first = as_nanos limits.reply in
    let in_all = as_nanos c.args.in_all in
    let spare = spare_is c.checked_div.result c.unwrap_or-spare.result _ limits.floor _ c.checked_div.ensures.variant c.checked_div.ensures.some c.unwrap_or-spare.ensures in
    let fits : c.args.taken * 1_000_000_000 ≤ max_nanos = omega (arith, c.ranges.taken.fits) in
    let rest : as_nanos c.saturating_sub.result ≡ c.args.taken * 1_000_000_000 - min ((in_all - first) * limits.floor) max_nanos = cc (c.saturating_sub.ensures, c.from_secs.ensures, c.saturating_mul.ensures, c.saturating_sub-behind.ensures) in
    elim (cases_lt 0 limits.floor) [
      | inl some ↦
          floor_behind limits.floor first c.args.taken in_all max_nanos (as_nanos c.unwrap_or-spare.result) (as_nanos c.saturating_add.result) more some fits (spare.0 some ∙ ap (λ n. n / limits.floor) rest)
          (omega (arith, c.saturating_add.ensures, c.saturating_sub-2.ensures)) lt within
      | inr none ↦ absurd (omega (arith, lt, within, c.saturating_add.ensures, spare.1 (omega (arith, none))))
    ]
