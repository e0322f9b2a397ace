-- The state of the search for the records by which entities are one; for clauses of private
-- functions alone.
use Rattle.std.specs.Prelude.{◌≡◌, ◌⊎◌, ◌↔◌, ◌+◌, ◌<◌, ◌≤◌, ℕ, List, Contains, IsTrue, Option, None}
use Rattle.std.specs.Prelude.{Some, IsSome, IfSome, length}
use Rattle.std.specs.List.{slice_get}
use Rattle.std.specs.List.Sorted.{IsSorted}
use Rattle.std.specs.BTreeMap.{get}
use Rattle.std.specs.Ordering.{is_le}
use Rattle.std.proofs.Common.{Vec, Global}
use Rattle.bor_records.specs.declared.links.node.Node.{Node}
use Rattle.bor_records.specs.Links.Nodes.{node_cmp}
use Rattle.bor_records.specs.Links.Shown.{Shown}
use Rattle.bor_records.specs.Links.Aliases.{Alias, IsAliasPath, Same}
use Rattle.bor_chains.specs.declared.tree.EvidenceLink.{EvidenceLink}
use Rattle.bor_desk.specs.Evidence.{goal_of}
use Rattle.bor_desk.specs.Kin.{IsKinOf}
use Rattle.bor_desk.specs.declared.evidence.same.Goals.{Goals}
use Rattle.bor_desk.specs.declared.evidence.ways.Ways.{Ways}

-- so many aliases lead from x to the goal, and no fewer do
pub record IsAway (s : Shown) (goal x : Node) (count : ℕ) : Type 0 where
  pub through : List Node
  pub steps : IsAliasPath s x through goal
  pub long : length through ≡ count
  pub least : (cs : List Node) → IsAliasPath s x cs goal → count ≤ length cs

-- y is the first of the aliases of x that are nearer to the goal
pub record IsNearer (s : Shown) (goal x y : Node) : Type 0 where
  pub count : ℕ
  pub away : IsAway s goal x (count + 1)
  pub alias : Alias s x y
  pub nearer : IsAway s goal y count
  pub first : (z : Node) → Alias s x z → IsAway s goal z count → IsTrue (is_le (node_cmp y z))

-- ---- from a level to the next

-- which entity follows one, where it was found: the goal is followed by none
abbrev pub Followers : Type 0
Followers = Node → Option (Option Node)

-- it was found since
abbrev pub IsNew : Followers → Followers → Node → Type 0
IsNew old new x = (old x ≡ None) × IsSome (new x)

-- All that was found stays, and each of the nodes that wasn't is found now, followed by this one.
pub record AreAdded (node : Node) (nodes : List Node) (old new : Followers)
    (before now : List Node) : Type 0 where
  pub stays : (x : Node) (next : Option Node) → old x ≡ Some next → new x ≡ Some next
  pub each : (x : Node) (next : Option Node) → old x ≡ None → new x ≡ Some next
      → Contains nodes x × (next ≡ Some node)
  pub every : (x : Node) → Contains nodes x → IsSome (new x)
  pub told : (x : Node) → Contains now x ↔ (Contains before x ⊎ IsNew old new x)

-- the first of a level of which x is an alias, and one of the first so many
pub record IsFirstAlias (s : Shown) (level : List Node) (count : ℕ) (x y : Node) : Type 0 where
  pub place : ℕ
  pub is : slice_get level place ≡ Some y
  pub before : place < count
  pub alias : Alias s y x
  pub first : (i : ℕ) (z : Node) → i < place → slice_get level i ≡ Some z → Alias s z x → ⊥

-- All that was found stays, and the aliases of the first so many of a level are found, each
-- followed by the first of them.
pub record AreFoundFrom (s : Shown) (level : List Node) (count : ℕ) (old new : Followers)
    (found : List Node) : Type 0 where
  pub stays : (x : Node) (next : Option Node) → old x ≡ Some next → new x ≡ Some next
  pub each : (x : Node) (next : Option Node) → old x ≡ None → new x ≡ Some next
      → (y : Node) × (next ≡ Some y) × IsFirstAlias s level count x y
  pub every : (i : ℕ) (y x : Node) → i < count → slice_get level i ≡ Some y → Alias s y x
      → IsSome (new x)
  pub told : (x : Node) → Contains found x ↔ IsNew old new x

-- each of a level is one with the goal, and found
abbrev pub AreOfClass : Shown → Node → List Node → Followers → Type 0
AreOfClass s goal level after = (x : Node) → Contains level x → Same s x goal × IsSome (after x)

-- ---- after some levels

-- All that so many aliases or fewer lead to the goal from are found, each with the first that is
-- nearer, and the last level has those of so many.
pub record AreKnown (s : Shown) (goal : Node) (depth : ℕ) (after : Followers)
    (level : List Node) : Type 0 where
  pub goal_found : after goal ≡ Some None
  pub goal_alone : (x : Node) → after x ≡ Some None → x ≡ goal
  pub each : (x y : Node) → after x ≡ Some (Some y)
      → (nearer : IsNearer s goal x y) × (nearer.count < depth)
  pub every : (x : Node) (cs : List Node) → IsAliasPath s x cs goal → length cs ≤ depth
      → IsSome (after x)
  pub level_is : (x : Node) → Contains level x ↔ IsAway s goal x depth
  pub sorted : IsSorted node_cmp level

-- the ways to a goal, as far as they were looked for
pub record AreWaysTo (s : Shown) (goal : Node) (ways : Ways) : Type 0 where
  pub depth : ℕ
  pub level : Vec Node Global
  pub last : slice_get ways.levels.items depth ≡ Some level
  pub long : length ways.levels.items ≡ depth + 1
  pub known : AreKnown s goal depth (λ x. get node_cmp ways.after x) level.items
  pub kin : IfSome ways.kin (IsKinOf s goal (λ x. IsSome (get node_cmp ways.after x)))

-- all that are one with the goal are found
abbrev pub AreAll : Shown → Node → Ways → Type 0
AreAll s goal ways = (x : Node) → Same s x goal → IsSome (get node_cmp ways.after x)

-- each goal has the ways to it
abbrev pub AreGoals : Shown → Goals → Type 0
AreGoals s goals =
    (goal : Node) (ways : Ways) → get node_cmp goals.ways goal ≡ Some ways → AreWaysTo s goal ways

-- each link's subject is one with where the link leads
abbrev pub AreLinked : Shown → Node → List EvidenceLink → Type 0
AreLinked s entity links =
    (x : EvidenceLink) → Contains links x → Same s x.link.subject (goal_of entity x)
