-- When two nodes stand for one entity.
use Rattle.std.specs.Prelude.{◌≡◌, List, [], ◌∷◌, IsTrue, Some}
use Rattle.bor_records.specs.declared.links.node.Node.{Node}
use Rattle.bor_records.specs.declared.links.node.OpenNode.{OpenNode}
use Rattle.bor_records.specs.Links.Shown.{Shown, listed_at, are_alike}

-- Aliases (this register's profile): two open entities of one agent with equal record in different
-- declarations, or two different open entities that share an identifier.
pub record Alias (s : Shown) (a b : Node) : Type 0 where
  pub one : OpenNode
  pub two : OpenNode
  pub one_is : listed_at s.nodes a ≡ Some one
  pub two_is : listed_at s.nodes b ≡ Some two
  pub alike : IsTrue (are_alike one two)

-- from a by aliases, through these nodes, to b
abbrev pub IsAliasPath : Shown → Node → List Node → Node → Type 0
IsAliasPath s a [] b = a ≡ b
IsAliasPath s a (c ∷ cs) b = Alias s a c × IsAliasPath s c cs b

-- Two nodes stand for one entity: they are equal, or joined by finitely many steps.
abbrev pub Same : Shown → Node → Node → Type 0
Same s a b = (cs : List Node) × IsAliasPath s a cs b
