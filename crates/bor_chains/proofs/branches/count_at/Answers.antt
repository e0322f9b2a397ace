use Rattle.std.proofs.Common.{◌≡◌, ◌+◌, ◌<◌, length, arith, refl}
use Rattle.std.proofs.lemmas.Option.{slice_get_read}
use Rattle.bor_chains.proofs.Steps.{down_is, count_step, count_end}
use Rattle.bor_chains.proofs.branches.count_at.Goals as goal

pub returns-in-Some-get : goal.returns-in-Some-get
returns-in-Some-get c = λ a.
    let steps = c.args.steps.now in
    let counts = c.args.counts.now in
    let step = c.in-Some.step.now in
    let count = c.in-Some-get.count.now in
    let lower = (down_is steps c.args.place step c.in-Some.ensures.some).1 in
    let long = a.long in
    let within : step.below < length counts = omega arith in
    let r = count_step steps c.args.place step count counts c.in-Some.ensures.some (slice_get_read counts (length counts) step.below count refl within (c.in-Some-get.ensures.lookup.1)) a in
    let few = r.0 in
    let fits = c.ranges.place.fits in
    let same : count + 1 ≡ c.saturating_add.result = omega (arith, c.saturating_add.ensures) in
    rw same at r

pub returns-in-None : goal.returns-in-None
returns-in-None c = λ a. count_end c.args.steps.now c.args.place c.in-None.ensures.none
