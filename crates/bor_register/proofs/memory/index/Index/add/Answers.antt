use Rattle.std.proofs.Common.{ap, refl}
use Rattle.bor_records.specs.declared.links.node.Node.{Node}
use Rattle.bor_records.specs.Links.Nodes.{node_cmp}
use Rattle.bor_records.specs.Links.Signs.{sign_cmp}
use Rattle.bor_records.specs.Links.Values.{under}
use Rattle.bor_register.specs.Memory.Indexed.{signs_of, signs_stated, subjects_of}
use Rattle.bor_register.proofs.OnMemory.Grown.{noted_one}
use Rattle.bor_register.proofs.OnMemory.Told.{told_then}
use Rattle.bor_register.proofs.memory.index.Index.add.Goals as goal

pub returns : goal.returns
returns c =
    let agent = c.args.agent.now in
    let s = c.args.statement.now in
    let was = c.args.self.now in
    let node = c.in_ok-node.node in
    let is = c.in_ok-node.ensures in
    told_then c.put_record.result _ _ (λ u put. record {
      series = λ n. rw is at (put n);
      named = c.in_ok-put_named.ensures;
      naming = noted_one subjects_of agent s (subjects_of agent s) node (under node_cmp was.naming) (under node_cmp c.note_subject.new.naming) refl is c.in_ok-note_subject.ensures;
      signed = noted_one signs_of agent s (signs_stated node s.details) node (under sign_cmp was.signed) (under sign_cmp c.note_signs.new.signed) (ap (λ (n : Node). signs_stated n s.details) is) is c.in_ok-note_signs.ensures;
    }) c.put_record.ensures
