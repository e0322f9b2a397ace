-- The entities of a class by their signs, as the search for ways knows them; for clauses of private
-- functions alone.
use Rattle.std.specs.Prelude.{◌≡◌, ◌⊎◌, List, [], Contains, Option, None, Some}
use Rattle.std.specs.BTreeMap.{get}
use Rattle.std.proofs.Common.{Vec, Global}
use Rattle.bor_records.specs.declared.links.node.Node.{Node}
use Rattle.bor_records.specs.declared.links.node.OpenNode.{OpenNode}
use Rattle.bor_records.specs.declared.links.sign.Sign.{Sign}
use Rattle.bor_records.specs.Links.Answers.{AreSame}
use Rattle.bor_records.specs.Links.Nodes.{node_cmp}
use Rattle.bor_records.specs.Links.Shown.{Shown, listed_at}
use Rattle.bor_records.specs.Links.Signs.{sign_cmp, HasSign}
use Rattle.bor_desk.specs.declared.evidence.kin.Kin.{Kin}
use Rattle.bor_records.specs.Links.Values.{under}

-- the node is an open entity that has the sign
abbrev pub HasSignAt : Shown → Node → Sign → Type 0
HasSignAt s n k = (x : OpenNode) × (listed_at s.nodes n ≡ Some x) × HasSign x k

-- the signs of an entity that was added
abbrev pub signs_under : Option (Vec Sign Global) → List Sign
signs_under None = []
signs_under (Some v) = v.items

abbrev pub signs_listed : Kin → Node → List Sign
signs_listed kin n = signs_under (get node_cmp kin.signs n)

abbrev pub signed_in : Kin → Sign → List Node
signed_in kin k = under sign_cmp kin.signed k

-- The lists of signs are right. Each of the nodes has all its signs listed, and each sign all of
-- the nodes that have it, but for those that were found.
pub record AreKin (s : Shown) (nodes : List Node) (IsFound : Node → Type 0)
    (kin : Kin) : Type 0 where
  pub of_node : (n : Node) (k : Sign) → Contains (signs_listed kin n) k → HasSignAt s n k
  pub of_sign : (n : Node) (k : Sign) → Contains (signed_in kin k) n → HasSignAt s n k
  pub each : (n : Node) (k : Sign) → Contains nodes n → HasSignAt s n k
      → Contains (signs_listed kin n) k
  pub every : (n : Node) (k : Sign) → Contains nodes n → HasSignAt s n k
      → Contains (signed_in kin k) n ⊎ IsFound n

abbrev pub NoneFound : Node → Type 0
NoneFound n = ⊥

-- the class of the goal
pub record IsKinOf (s : Shown) (goal : Node) (IsFound : Node → Type 0) (kin : Kin) : Type 0 where
  pub nodes : List Node
  pub same : AreSame s goal nodes
  pub told : AreKin s nodes IsFound kin

-- The nodes under these signs are taken to those that were taken before, and what isn't taken is
-- left.
pub record AreTaken (ks : List Sign) (old new : Sign → List Node)
    (was now : List Node) : Type 0 where
  pub kept : (n : Node) → Contains was n → Contains now n
  pub each : (n : Node) → Contains now n
      → Contains was n ⊎ ((k : Sign) × Contains ks k × Contains (old k) n)
  pub every : (k : Sign) (n : Node) → Contains ks k → Contains (old k) n → Contains now n
  pub stays : (k : Sign) (n : Node) → Contains (new k) n → Contains (old k) n
  pub left : (k : Sign) (n : Node) → Contains (old k) n → Contains (new k) n ⊎ Contains now n
