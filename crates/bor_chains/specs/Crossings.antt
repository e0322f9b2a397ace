-- The links that a walk crosses on one level; for clauses of private functions alone.
use Rattle.std.specs.Prelude.{◌≡◌, ◌↔◌, ◌⊎◌, ◌++◌, ◌<◌, ◌≤◌, ℕ, List, [], ◌∷◌, Contains, IsTrue}
use Rattle.std.specs.Prelude.{Some, if◌then◌else◌}
use Rattle.std.specs.List.{slice_get}
use Rattle.std.specs.Ordering.{nat_cmp, ordering_then}
use Rattle.std.specs.declared.cmp.Ordering.{Ordering}
use Rattle.bor_records.specs.declared.links.node.Link.{Link}
use Rattle.bor_records.specs.Links.Nodes.{link_cmp}
use Rattle.bor_records.specs.Links.Shown.{Shown}
use Rattle.bor_chains.specs.declared.crossed.Crossing.{Crossing}
use Rattle.bor_chains.specs.declared.marks.Mark.{Mark}
use Rattle.bor_chains.specs.declared.marks.Marked.{Marked}
use Rattle.bor_chains.specs.Marks.{counts_at, CountsAt}

-- by link, then by place
abbrev pub crossing_cmp : Crossing → Crossing → Ordering
crossing_cmp a b = ordering_then (link_cmp a.link b.link) (nat_cmp a.below b.below)

-- the crossing, where the link counts at the mark
abbrev pub counted_at : Mark → ℕ → Link → List Crossing
counted_at mark below l = if counts_at mark l then record { link = l; below = below } ∷ [] else []

-- one of the links, that counts at the mark
pub record IsCountedOf (links : List Link) (mark : Mark) (below : ℕ) (c : Crossing) : Type 0 where
  pub listed : Contains links c.link
  pub place : c.below ≡ below
  pub counted : IsTrue (counts_at mark c.link)

-- the same, but that some links are left
pub record AreCountedSoFar (links : List Link) (mark : Mark) (below : ℕ) (left : List Link)
    (old new : List Crossing) : Type 0 where
  pub rest : List Crossing
  pub begins : new ≡ old ++ rest
  pub only : (c : Crossing) → Contains rest c → IsCountedOf links mark below c
  pub within : (l : Link) → Contains left l → Contains links l
  pub every : (c : Crossing) → IsCountedOf links mark below c
      → Contains left c.link ⊎ Contains new c

-- a link that counts at the mark, with this place
pub record IsCrossingInto (s : Shown) (m : Marked) (below : ℕ) (c : Crossing) : Type 0 where
  pub is_counted : CountsAt s m c.link
  pub place : c.below ≡ below

-- a link that counts at one of the marks from `start` on and before `end`
pub record IsCrossing (s : Shown) (marks : List Marked) (start end : ℕ)
    (c : Crossing) : Type 0 where
  pub mark : Marked
  pub is : slice_get marks c.below ≡ Some mark
  pub above : start ≤ c.below
  pub before : c.below < end
  pub is_counted : CountsAt s mark c.link

-- exactly those
abbrev pub AreCrossings : Shown → List Marked → ℕ → ℕ → List Crossing → Type 0
AreCrossings s marks start end cs = (c : Crossing) → Contains cs c ↔ IsCrossing s marks start end c
