use Rattle.std.proofs.Common.{◌∷◌, [], List, Some, cond, subst, sym, ap, ◌∙◌}
use Rattle.std.specs.Ordering.{is_eq}
use Rattle.std.specs.BTreeMap.{get}
use Rattle.bor_records.specs.declared.links.node.Node.{Node}
use Rattle.bor_records.specs.Links.Nodes.{node_cmp}
use Rattle.bor_desk.specs.Ways.{AreAdded}
use Rattle.bor_desk.proofs.OnEvidence.Ways.{added_one, not_there}
use Rattle.bor_desk.proofs.evidence.ways.add.Goals as goal

pub returns : goal.returns
returns c =
    let a = λ (x : Node). get node_cmp c.args.after.now x in
    let b = λ (x : Node). get node_cmp c.insert.new.self x in
    let found = c.args.found.now.items in
    subst (λ (xs : List Node). AreAdded c.args.node.now (c.args.alias ∷ []) a b found xs) (sym c.in_ok-add_copy.ensures)
    (added_one c.args.node.now c.args.alias a b found (not_there (a c.args.alias) (sym c.contains_key.ensures ∙ c.if-contains_key.false))
    (λ q. c.in_ok-insert.ensures.updates.0 q ∙ ap (λ (n : Node). cond (is_eq (node_cmp c.args.alias q)) (Some (Some n)) (a q)) c.in_ok-next.ensures))
