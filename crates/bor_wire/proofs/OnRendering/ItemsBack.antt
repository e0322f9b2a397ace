-- What is read back of the items of a list of JSON.
use Rattle.std.proofs.Common.{◌≡◌, suc, List, [], ◌∷◌, map, sym, arith}
use Rattle.std.specs.Prelude.{All, ⊤}
use Rattle.std.specs.List.{AllZip}
use Rattle.std.proofs.lemmas.List.Elements.{same_from_all_zip}
use Rattle.json.specs.Json as json
use Rattle.json.specs.Tree.{HasNumbers, ItemsHaveNumbers}
use Rattle.serde_json.specs.Data.{Data}
use Rattle.serde_json.specs.View.{items_of}
use Rattle.serde_json.specs.Written.{outline, items_outline}

-- the items of the list, as they are read back
abbrev pub items_in : {A : Type 0} → (A → Data) → List A → json.Items
items_in as_data xs = items_outline (items_of (map as_data xs))

-- where what is read back of an item determines so much of it, the items do
pub each_once : {A : Type 0} (as_data : A → Data) (P : A → Type 0) (R : A → A → Type 0) → ((x y : A) → P x → P y → outline (as_data x) ≡ outline (as_data y) → R x y)
    → (xs ys : List A) → All P xs → All P ys → items_in as_data xs ≡ items_in as_data ys → AllZip R xs ys
each_once as_data P R one [] [] p q h = tt
each_once as_data P R one (x ∷ xs) (y ∷ ys) p q h =
    (one x y (p 0 x (omega arith)) (q 0 y (omega arith)) cc, each_once as_data P R one xs ys (λ k d l. p (suc k) d (omega arith)) (λ k d l. q (suc k) d (omega arith)) cc)
each_once as_data P R one xs ys p q h = absurd cc

-- where it determines the item, they determine the list
pub items_once : {A : Type 0} (as_data : A → Data) (P : A → Type 0) → ((x y : A) → P x → P y → outline (as_data x) ≡ outline (as_data y) → x ≡ y)
    → (xs ys : List A) → All P xs → All P ys → items_in as_data xs ≡ items_in as_data ys → xs ≡ ys
items_once {A} as_data P one xs ys p q h =
    let Same : A → A → Type 0 = λ x y. x ≡ y in
    sym (same_from_all_zip Same xs ys (each_once as_data P Same one xs ys p q h) (λ x y e. sym e))

pub items_numbers : {A : Type 0} (as_data : A → Data) (P : A → Type 0) → ((x : A) → P x → HasNumbers (outline (as_data x))) → (xs : List A) → All P xs → ItemsHaveNumbers (items_in as_data xs)
items_numbers as_data P one [] p = tt
items_numbers as_data P one (x ∷ xs) p = (one x (p 0 x (omega arith)), items_numbers as_data P one xs (λ k d l. p (suc k) d (omega arith)))

-- what holds of everything holds of each item
pub of_each : {A : Type 0} (xs : List A) → All (λ x. ⊤) xs
of_each xs k d lt = tt
