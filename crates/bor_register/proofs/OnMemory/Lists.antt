-- Lemmas on lists that std lacks.
use Rattle.std.proofs.Common.{◌≡◌, ℕ, ◌<◌, ◌≤◌, ◌&&◌, List, [], ◌∷◌, ◌++◌, length, take, drop, map, Bool, true, false, cond, Option, Some, None, option_map, slice_get, refl, ◌∙◌, sym, ap, arith, ◌-◌, ◌+◌, get_or}
use Rattle.std.specs.Option.{option_or}
use Rattle.std.specs.List.{AllByRecursion, filter, last_or}
use Rattle.std.proofs.lemmas.List.{take_all, take-append-le, take_more}
use Rattle.std.proofs.lemmas.List.Elements.{filter-append}
use Rattle.bor_records.proofs.Lists.{last_or-append}

-- ---- elements by their index

pub get_next : {X : Type 0} (xs : List X) (x : X) (ys : List X) → slice_get (xs ++ x ∷ ys) (length xs) ≡ Some x
get_next [] x ys = refl
get_next (y ∷ xs) x ys = get_next xs x ys

pub all_append : {X : Type 0} (P : X → Type 0) (xs ys : List X) → AllByRecursion P xs → AllByRecursion P ys → AllByRecursion P (xs ++ ys)
all_append P [] ys h k = k
all_append P (x ∷ xs) ys h k = (h.0, all_append P xs ys h.1 k)

-- ---- filters

pub filter-map : {A B : Type 0} (p : B → Bool) (f : A → B) (xs : List A) → filter p (map f xs) ≡ map f (filter (λ x. p (f x)) xs)
filter-map p f [] = refl
filter-map p f (x ∷ xs) = grind (arith, filter-map p f xs)

pub filters_swap : {X : Type 0} (p q : X → Bool) (xs : List X) → filter p (filter q xs) ≡ filter q (filter p xs)
filters_swap p q [] = refl
filters_swap p q (x ∷ xs) = grind (arith, filters_swap p q xs)

filter_both : {X : Type 0} (p q : X → Bool) (xs : List X) → filter p (filter q xs) ≡ filter (λ x. q x && p x) xs
filter_both p q [] = refl
filter_both p q (x ∷ xs) = grind (arith, filter_both p q xs)

-- a filter between two others goes first
pub filter_between : {X : Type 0} (p q r : X → Bool) (xs : List X) → filter p (filter q (filter r xs)) ≡ filter (λ x. r x && p x) (filter q xs)
filter_between p q r xs = ap (filter p) (filters_swap q r xs) ∙ filter_both p r (filter q xs)

pub filter_true : {X : Type 0} (xs : List X) → filter (λ x. true) xs ≡ xs
filter_true [] = refl
filter_true (x ∷ xs) = ap (λ l. x ∷ l) (filter_true xs)

pub last_map : {A B : Type 0} (g : A → B) (o : Option A) (xs : List A) → last_or (option_map g o) (map g xs) ≡ option_map g (last_or o xs)
last_map g o [] = refl
last_map g o (x ∷ xs) = last_map g (Some x) xs

-- ---- the last of a list that passes a test, from its end

-- its last element passes
pub last_passes : {X : Type 0} (p : X → Bool) (whole xs : List X) (x : X) → whole ≡ xs ++ x ∷ [] → p x ≡ true → Some x ≡ last_or None (filter p whole)
last_passes p whole xs x is e =
    sym (ap (λ l. last_or None (filter p l)) is ∙ ap (last_or None) (filter-append p xs (x ∷ [])) ∙ last_or-append None (filter p xs) (filter p (x ∷ [])) ∙ ap (λ b. option_or (last_or None (cond b (x ∷ []) [])) (last_or None (filter p xs))) e)

-- it doesn't
pub last_before : {X : Type 0} (p : X → Bool) (whole xs : List X) (x : X) → whole ≡ xs ++ x ∷ [] → p x ≡ false → last_or None (filter p whole) ≡ last_or None (filter p xs)
last_before p whole xs x is e =
    ap (λ l. last_or None (filter p l)) is ∙ ap (last_or None) (filter-append p xs (x ∷ [])) ∙ last_or-append None (filter p xs) (filter p (x ∷ [])) ∙ ap (λ b. option_or (last_or None (cond b (x ∷ []) [])) (last_or None (filter p xs))) e

-- a front of a list ends with the element before it
pub front_is : {X : Type 0} (xs : List X) (n : ℕ) (d : X) → 0 < n → n ≤ length xs → take n xs ≡ take (n - 1) xs ++ get_or xs (n - 1) d ∷ []
front_is xs n d some within = let one : n - 1 + 1 ≡ n = omega arith in ap (λ (k : ℕ). take k xs) (sym one) ∙ take_more xs (n - 1) d (omega arith)

pub last_of_front : {X : Type 0} (p : X → Bool) (xs : List X) (n : ℕ) (d : X) → 0 < n → n ≤ length xs → p (get_or xs (n - 1) d) ≡ true → Some (get_or xs (n - 1) d) ≡ last_or None (filter p (take n xs))
last_of_front p xs n d some within e = last_passes p (take n xs) (take (n - 1) xs) (get_or xs (n - 1) d) (front_is xs n d some within) e

pub front_before : {X : Type 0} (p : X → Bool) (xs : List X) (n : ℕ) (d : X) → 0 < n → n ≤ length xs → p (get_or xs (n - 1) d) ≡ false → last_or None (filter p (take n xs)) ≡ last_or None (filter p (take (n - 1) xs))
front_before p xs n d some within e = last_before p (take n xs) (take (n - 1) xs) (get_or xs (n - 1) d) (front_is xs n d some within) e

-- what is written to all of a list
pub written : {X : Type 0} (xs ys : List X) (n : ℕ) → length xs ≡ n → take n (xs ++ drop (length xs) ys) ≡ xs
written {X} xs ys n e =
    take-append-le n xs (drop (length xs) ys) (let le : n ≤ length xs = omega (arith, e) in le)
    ∙ take_all n xs (let le : length xs ≤ n = omega (arith, e) in le)
