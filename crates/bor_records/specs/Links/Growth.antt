-- Lists that only grow at the end.
use Rattle.std.specs.Prelude.{◌≡◌, ◌↔◌, ◌++◌, List, Contains}

-- the new list begins as the old one, and beyond that has exactly what P says
pub record Grown {X : Type 0} (P : X → Type 0) (old new : List X) : Type 0 where
  pub rest : List X
  pub begins : new ≡ old ++ rest
  pub only : (n : X) → Contains rest n → P n
  pub every : (n : X) → P n → Contains new n

-- two lists have the same elements
abbrev pub AreGiven : {X : Type 0} → List X → List X → Type 0
AreGiven {X} order given = (x : X) → Contains order x ↔ Contains given x
