use Rattle.std.proofs.Common.{◌∙◌, ◌++◌, ◌∷◌, [], List, Vec, Global, Option, None, Some, cond, ap, refl}
use Rattle.std.specs.BTreeMap.{get, is_at}
use Rattle.std.specs.Ordering.{is_eq}
use Rattle.std.specs.Map.{lookup}
use Rattle.bor_records.specs.declared.links.node.Node.{Node}
use Rattle.bor_records.specs.Links.Nodes.{node_cmp}
use Rattle.bor_desk.proofs.OnEvidence.Ways.{ways_none}
use Rattle.bor_desk.proofs.evidence.ways.Ways.to.Goals as goal

pub returns : goal.returns
returns c = λ s.
    ways_none s c.args.goal.now record { after = c.insert.new.self; levels = c.push-2.new.self; kin = None } c.push.new.self (λ q. get node_cmp c.new-after.result q)
    (c.in_ok-push-2.ensures.items ∙ ap (λ (vs : List (Vec Node Global)). vs ++ c.push.new.self ∷ []) c.new-levels.ensures.items)
    (c.in_ok-push.ensures.items ∙ ap (λ (xs : List Node). xs ++ c.in_ok-copy-2.field-0 ∷ []) c.in_ok-level.ensures.items ∙ ap (λ (n : Node). n ∷ []) c.in_ok-copy-2.ensures)
    (λ q. ap (λ (es : List (Node × Option Node)). lookup (is_at (node_cmp q)) es) c.new-after.ensures.empty)
    (λ q. c.in_ok-insert.ensures.updates.0 q ∙ ap (λ (n : Node). cond (is_eq (node_cmp n q)) (Some None) (get node_cmp c.new-after.result q)) c.in_ok-copy.ensures)
    refl
