use Rattle.std.proofs.Common.{◌≡◌, [], length, sym, append-nil, arith}
use Rattle.bor_chains.proofs.Steps.{taken, persons_from_end, links_from_end, persons_taken, links_taken}
use Rattle.bor_chains.proofs.branches.gathered.Goals as goal

pub loop-step-init : goal.loop-step-init
loop-step-init c = record {
  rest = [];
  begins = sym (append-nil c.args.steps.items);
  persons = persons_from_end c.args.steps.items c.in_ok-persons.persons.items c.in_ok-persons.ensures.items;
  links = links_from_end c.args.steps.items c.in_ok-links.links.items c.in_ok-links.ensures.items;
}

pub loop-step-preserved : goal.loop-step-preserved
loop-step-preserved c =
    let invariant = c.loop-step.invariant in
    let steps = c.args.steps.items in
    let left = c.loop-step.left.items in
    let fewer = c.pop.new.self.items in
    let n = c.len-place.result in
    let t = taken steps left fewer invariant.rest c.in-Some.step n invariant.begins c.in-Some.ensures.items (omega (arith, c.len-place.ensures)) in
    record {
      rest = t.rest;
      begins = t.begins;
      persons = persons_taken steps left fewer c.in-Some.step n c.args.counts.now c.args.needed.now c.loop-step.found.persons.items c.add.new.self.persons.items t c.requires.counts c.requires.needed c.in_ok-add.ensures.persons invariant.persons;
      links = links_taken steps left fewer c.as_slice.result.now c.in-Some.step n c.args.needed.now c.loop-step.found.links.items c.add.new.self.links.items t c.requires.needed c.as_slice.ensures.value c.in_ok-add.ensures.links invariant.links;
    }

pub returns-clause-persons : goal.returns-clause-persons
returns-clause-persons c =
    let end : length c.loop-step.left.items ≡ 0 = omega (arith, c.in_default.ensures.cases.0) in rw end at c.loop-step.invariant.persons

pub returns-clause-links : goal.returns-clause-links
returns-clause-links c =
    let end : length c.loop-step.left.items ≡ 0 = omega (arith, c.in_default.ensures.cases.0) in rw end at c.loop-step.invariant.links
