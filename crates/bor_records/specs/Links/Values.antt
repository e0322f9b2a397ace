-- Maps that have several values under a key.
use Rattle.std.specs.Prelude.{◌≡◌, ◌⊎◌, List, [], ◌∷◌, Contains, Option, None, Some}
use Rattle.std.specs.BTreeMap.{BTreeMap, get}
use Rattle.std.specs.declared.cmp.Ordering.{Ordering}
use Rattle.bor_records.specs.declared.links.node.Node.{Node}
use Rattle.bor_records.specs.declared.links.values.Values.{Values}
use Rattle.bor_records.specs.declared.links.values.Values.TheVariants as values

-- the values under a key
abbrev pub values_in : {X : Type 0} → Values X → List X
values_in (values.One x) = x ∷ []
values_in (values.More xs) = xs.items

abbrev pub values_under : {X : Type 0} → Option (Values X) → List X
values_under None = []
values_under (Some xs) = values_in xs

abbrev pub under : {K X : Type 0} → (K → K → Ordering) → BTreeMap K (Values X) → K → List X
under cmp m k = values_under (get cmp m k)

-- A node is added under these keys and no others, and what was there stays.
pub record IsNoted {K : Type 0} (ks : List K) (n : Node) (was now : K → List Node) : Type 0 where
  pub stays : (k : K) (m : Node) → Contains (was k) m → Contains (now k) m
  pub there : (k : K) → Contains ks k → Contains (now k) n
  pub only : (k : K) (m : Node) → Contains (now k) m
      → Contains (was k) m ⊎ (Contains ks k × (m ≡ n))
