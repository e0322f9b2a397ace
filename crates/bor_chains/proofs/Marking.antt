-- Marks that are given, unless one is there.
use Rattle.std.proofs.Common.{Option, List}
use Rattle.bor_records.specs.Links.Answers.{AreSame}
use Rattle.bor_records.specs.Links.Shown.{Shown}
use Rattle.bor_records.specs.declared.links.node.Node.{Node}
use Rattle.bor_records.proofs.OnLinks.Growth.{grown_like}
use Rattle.bor_chains.specs.declared.marks.Mark.{Mark}
use Rattle.bor_chains.specs.declared.trail.Step.{Step}
use Rattle.bor_chains.specs.declared.trail.Trail.{Trail}
use Rattle.bor_chains.specs.Marks.{IsOneOf, IsSameAs}
use Rattle.bor_chains.specs.Trail.{GivesMarks}

-- all that are the same as a node
pub gives_class : (s : Shown) (n : Node) (mark : Mark) (nodes : List Node) (o : Option Step) (a b : Trail) → AreSame s n nodes → GivesMarks (IsOneOf nodes mark) o a b → GivesMarks (IsSameAs s n mark) o a b
gives_class s n mark nodes o a b all g = record {
  marks = grown_like (IsOneOf nodes mark) (IsSameAs s n mark) a.marks b.marks g.marks (λ m p. ((all.each m.node).0 p.0, p.1)) (λ m p. ((all.each m.node).1 p.0, p.1));
  steps = g.steps;
}
