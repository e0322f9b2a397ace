use Rattle.std.proofs.Common.{◌≡◌, ◌<◌, ℕ, Some, length, subst, Contains, arith}
use Rattle.std.proofs.Math.ListN.{set}
use Rattle.bor_chains.specs.Tables.{items_at}
use Rattle.bor_chains.proofs.Beside.{lists_grow, list_there, some_place}
use Rattle.bor_chains.proofs.tables.put.Goals as goal

pub returns-in_ok-push-in-Some-clause-grown : goal.returns-in_ok-push-in-Some-clause-grown
returns-in_ok-push-in-Some-clause-grown c =
    let within : c.in-Some.place.now < length c.args.lists.now.items = omega arith in
    lists_grow c.args.lists.now.items c.in-Some.place.now c.index_mut.result.now c.push.new.self c.args.link within c.index_mut.ensures.value c.in_ok-push-in-Some.ensures.items

pub returns-in_ok-push-in-Some-clause-there : goal.returns-in_ok-push-in-Some-clause-there
returns-in_ok-push-in-Some-clause-there c = λ i at below.
    let within : c.in-Some.place.now < length c.args.lists.now.items = omega arith in
    let same : c.in-Some.place.now ≡ i = some_place c.args.place c.in-Some.place i c.in-Some.is at in
    subst (λ (j : ℕ). Contains (items_at (λ v. v.items) (set c.args.lists.now.items c.in-Some.place.now c.push.new.self) (Some j)) c.args.link) same
    (list_there c.args.lists.now.items c.in-Some.place.now c.index_mut.result.now c.push.new.self c.args.link within c.in_ok-push-in-Some.ensures.items)
