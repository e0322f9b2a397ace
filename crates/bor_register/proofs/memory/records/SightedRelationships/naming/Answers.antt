use Rattle.std.proofs.Common.{refl, subst, ◌∙◌}
use Rattle.bor_records.specs.declared.links.node.Node.{Node}
use Rattle.bor_records.specs.Links.Nodes.{node_cmp}
use Rattle.bor_records.specs.Links.Values.{under}
use Rattle.bor_records.specs.Links.Relationships.{HaveNaming, RowsOn, shown_on}
use Rattle.bor_records.proofs.OnLinks.ByRecord.{naming_is}
use Rattle.bor_register.specs.Memory.Sighted.{rows_in_sight}
use Rattle.bor_register.proofs.OnMemory.Sighted.{naming_covered}
use Rattle.bor_register.proofs.memory.records.SightedRelationships.naming.Goals as goal

pub returns : goal.returns
returns c = record {
  leads = refl;
  lasts = tt;
  answer = λ clean m shown.
      let sight = c.self.inside.sight in
      let n : Node = c.args.subject.now in
      let nodes = c.naming.result.now in
      subst (λ (t : RowsOn). HaveNaming (shown_on t) n nodes) (c.self.view_is ∙ shown)
      (naming_is sight.day (rows_in_sight sight) n nodes
      (λ r h into. rw c.naming.ensures
      (naming_covered sight.viewer.now sight.today sight.members.now c.self.invariant.ordered (under node_cmp sight.index.now.naming) c.self.invariant.index.naming n r h into)));
}
