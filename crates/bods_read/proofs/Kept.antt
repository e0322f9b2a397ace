-- Lists that are read item by item: what is left of one, and the items that stand for something.
use Rattle.std.proofs.Common.{◌≡◌, ℕ, ◌+◌, ◌<◌, List, [], ◌++◌, length, take, get_or, map, filter_map, Option, Result, refl}
use Rattle.std.specs.List.{cons_option}
use Rattle.std.proofs.lemmas.List.{take_more, map-append}
use Rattle.std.proofs.lemmas.List.Elements.{filter_map-append}
use Rattle.bods_read.specs.Outcome.{outcome, lines_from}

-- the outcome of items, after what was read before
abbrev pub rest : {V D F X : Type 0} → (V → D) → (ℕ → D → List F) → (D → X) → ℕ → List X → List V → Result (List X) F
rest view lines item place front vs = outcome (lines_from lines place (map view vs)) (front ++ map item (map view vs))

-- one item more
pub kept_one : {V D X : Type 0} (form : D → Option X) (view : V → D) (vs : List V) (i : ℕ) (v : V) (kept : List X) (o : Option X) → i < length vs → v ≡ get_or vs i v → o ≡ form (view v)
    → kept ≡ filter_map form (map view (take i vs)) → kept ++ cons_option o [] ≡ filter_map form (map view (take (i + 1) vs))
kept_one form view vs i v kept o lt is e so_far = rw (take_more vs i v lt, ← is, map-append, filter_map-append, ← so_far, ← e) refl
