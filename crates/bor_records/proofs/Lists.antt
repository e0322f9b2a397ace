-- Lemmas on lists that std lacks.
use Rattle.std.proofs.Common.{◌≡◌, Bool, false, List, [], ◌∷◌, ◌++◌, Option, Some, None, Contains, refl}
use Rattle.std.specs.Option.{option_or}
use Rattle.std.specs.List.{filter, list_any, last_or, AllByRecursion}
use Rattle.std.proofs.lemmas.Bool.{or_parts}
use Rattle.std.proofs.lemmas.List.Elements.{All-from_recursion, All-weaker, recursion_from_All, Contains-append_left, Contains-append_right, Contains-push}

pub all_map : {X : Type 0} (P Q : X → Type 0) (xs : List X) → ((x : X) → P x → Q x) → AllByRecursion P xs → AllByRecursion Q xs
all_map P Q xs f h = recursion_from_All Q xs (All-weaker P Q f xs (All-from_recursion P xs h))

pub none_pass : {X : Type 0} (p : X → Bool) (xs : List X) → list_any p xs ≡ false → filter p xs ≡ []
none_pass p [] h = refl
none_pass p (x ∷ xs) h = let parts = or_parts (p x) (list_any p xs) h in rw parts.0 (none_pass p xs parts.1)

-- the last of two lists, one after the other, is that of the second, where it has any
pub last_or-append : {X : Type 0} (o : Option X) (xs ys : List X) → last_or o (xs ++ ys) ≡ option_or (last_or None ys) (last_or o xs)
last_or-append o [] [] = refl
last_or-append o [] (y ∷ ys) = started ys y o
  where
    started : {X : Type 0} (zs : List X) (x : X) (p : Option X) → last_or (Some x) zs ≡ option_or (last_or (Some x) zs) p
    started [] x p = refl
    started (z ∷ zs) x p = started zs z p
last_or-append o (x ∷ xs) ys = last_or-append (Some x) xs ys

pub here : {X : Type 0} (x : X) (xs : List X) → Contains (x ∷ xs) x
here x xs = Contains-append_left (x ∷ []) xs x (Contains-push [] x)

pub there : {X : Type 0} (y : X) (xs : List X) (x : X) → Contains xs x → Contains (y ∷ xs) x
there y xs x h = Contains-append_right (y ∷ []) xs x h
