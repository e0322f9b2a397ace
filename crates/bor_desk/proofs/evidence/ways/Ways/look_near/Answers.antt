use Rattle.std.proofs.Common.{◌≤◌, [], BTreeMap, List, Option, arith, length, subst, sym}
use Rattle.std.specs.BTreeMap.{get}
use Rattle.bor_records.specs.declared.links.node.Node.{Node}
use Rattle.bor_records.specs.Links.Nodes.{node_cmp}
use Rattle.bor_register.specs.Seen.{seen_at}
use Rattle.bor_desk.specs.Ways.{AreAdded}
use Rattle.bor_desk.proofs.OnEvidence.Ways.{ways_near}
use Rattle.bor_desk.proofs.evidence.ways.Ways.look_near.Goals as goal

pub returns-clause-answer : goal.returns-clause-answer
returns-clause-answer g c = λ r is clean known.
    let aliases = c.in_ok-aliases.aliases.items in
    let found = c.add_new.new.found.items in
    let few : length c.args.self.now.levels.items ≤ 1 = omega arith in
    ways_near (seen_at c.args.viewer.now c.args.day r) c.args.goal.now c.args.self.now c.add_level.new.self c.in_order.result aliases found few (c.in_ok-aliases.ensures.answer r is clean)
    (subst (λ (m : BTreeMap Node (Option Node)). AreAdded c.args.goal.now aliases (λ x. get node_cmp c.args.self.now.after x) (λ x. get node_cmp m x) [] found) (sym c.in_ok-add_level.ensures.after)
    (subst (λ (ns : List Node). AreAdded c.args.goal.now aliases (λ x. get node_cmp c.args.self.now.after x) (λ x. get node_cmp c.add_new.new.after x) ns found) c.new-found.ensures.items c.in_ok-add_new.ensures))
    c.in_order.ensures.same c.in_order.ensures.sorted c.in_ok-add_level.ensures.levels c.in_ok-add_level.ensures.kin known
