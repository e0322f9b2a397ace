-- What is made of the elements of a list, one after the other.
use Rattle.std.proofs.Common.{◌≡◌, ◌<◌, ◌≤◌, ◌+◌, ◌++◌, ℕ, List, [], Option, length, drop, get_or, append-nil, append_assoc, sym, ap, ◌∙◌, arith}
use Rattle.std.specs.List.{cons_option, filter_map}
use Rattle.std.proofs.lemmas.List.{at_drop_all, at_drop_more}

-- what is there and what is left give what all give
pub one_more : {X Y : Type 0} (f : X → Option Y) (xs : List X) (i : ℕ) (x : X) (o : Option Y) (old new all : List Y) → i < length xs → x ≡ get_or xs i x → o ≡ f x → new ≡ old ++ cons_option o []
    → old ++ filter_map f (drop i xs) ≡ all → new ++ filter_map f (drop (i + 1) xs) ≡ all
one_more {X} {Y} f xs i x o old new all lt at is added was =
    let rest : List Y = filter_map f (drop (i + 1) xs) in
    ap (λ l. l ++ rest) added ∙ joined rest o ∙ ap (λ p. old ++ cons_option p rest) (is ∙ ap f at) ∙ ap (λ l. old ++ l) (sym (at_drop_more (filter_map f) xs i x lt)) ∙ was
  where
    joined : (rest : List Y) (p : Option Y) → (old ++ cons_option p []) ++ rest ≡ old ++ cons_option p rest
    joined rest p = grind (arith, append-nil old, append_assoc old)

-- nothing is left of a list
pub all_done : {X Y : Type 0} (F : List X → List Y) → F [] ≡ [] → (done all : List Y) (xs : List X) (i : ℕ) → length xs ≤ i → done ++ F (drop i xs) ≡ all → done ≡ all
all_done F nothing done all xs i end is = sym (append-nil done) ∙ ap (λ l. done ++ l) (sym (at_drop_all F xs i end ∙ nothing)) ∙ is
