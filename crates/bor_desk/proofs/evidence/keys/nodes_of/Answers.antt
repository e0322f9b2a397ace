use Rattle.std.proofs.Common.{◌≡◌, List, rules, sym, subst}
use Rattle.std.specs.List.Sorted.{IsStrictlySortedBy}
use Rattle.std.proofs.lemmas.Result.{IfOk-weaker}
use Rattle.bor_records.specs.declared.links.node.Node.{Node}
use Rattle.bor_chains.specs.Lines.{reading_cmp}
use Rattle.bor_desk.specs.Mentioned.{nodes_in}
use Rattle.bor_desk.proofs.OnEvidence.Keyed.{sorted_nodes}
use Rattle.bor_desk.proofs.evidence.keys.nodes_of.Goals as goal

pub returns-clause-sorted : goal.returns-clause-sorted
returns-clause-sorted c =
    let sorted = sorted_nodes c.args.keys.keys c.into_iter.ensures.into_iter_gives.4 in
    IfOk-weaker c.collect.result (λ nodes. nodes.items ≡ nodes_in c.args.keys) (λ nodes. IsStrictlySortedBy reading_cmp nodes.items)
    (λ nodes is. subst (λ (ns : List Node). IsStrictlySortedBy reading_cmp ns) (sym is) sorted) (search rules)
