-- An agent's part of a register, from the rows that are found by key.
use Rattle.std.proofs.Common.{◌≡◌, ℕ, ◌+◌, false, List, [], ◌∷◌, ◌++◌, length, take, reverse, Option, Some, None, refl, ap, ◌∙◌, arith, slice_get, option_map, unwrap_or, rules}
use Rattle.std.specs.List.{last_or}
use Rattle.std.proofs.lemmas.List.{reverse-append}
use Rattle.bor_terms.specs.Texts.{is_same}
use Rattle.bor_register.specs.Publication.{has_bytes}
use Rattle.bor_register.specs.declared.filing.AcceptedFiling.{AcceptedFiling}
use Rattle.bor_store_sql.specs.Rows.Stored.{AreNumbered}

-- ---- the first that passes a test

-- whether its file has these bytes
pub bytes_are : (bytes : List ℕ) (found : Option AcceptedFiling) → unwrap_or (option_map (λ (f : AcceptedFiling). is_same f.bytes bytes) found) false ≡ has_bytes bytes found
bytes_are bytes found = search rules

-- ---- whether one passes a test

abbrev first_or : {X : Type 0} → Option X → List X → Option X
first_or o [] = o
first_or o (x ∷ xs) = Some x

first_pushed : {X : Type 0} (o : Option X) (ys : List X) (x : X) → first_or o (ys ++ x ∷ []) ≡ first_or (Some x) ys
first_pushed o ys x = search rules

first_reversed : {X : Type 0} (o : Option X) (xs : List X) → first_or o (reverse xs) ≡ last_or o xs
first_reversed o [] = refl
first_reversed o (x ∷ xs) = ap (first_or o) (reverse-append (x ∷ []) xs) ∙ first_pushed o (reverse xs) x ∙ first_reversed (Some x) xs

first_taken : {X : Type 0} (ys : List X) → slice_get (take 1 ys) 0 ≡ first_or None ys
first_taken ys = search rules

pub last_is : {X : Type 0} (xs : List X) → slice_get (take 1 (reverse xs)) 0 ≡ last_or None xs
last_is xs = first_taken (reverse xs) ∙ first_reversed None xs

last_number : (n : ℕ) (fs : List AcceptedFiling) (o : Option AcceptedFiling) → AreNumbered (n + 1) fs → unwrap_or (option_map (λ (f : AcceptedFiling). f.number) o) 0 ≡ n
    → unwrap_or (option_map (λ (f : AcceptedFiling). f.number) (last_or o fs)) 0 ≡ n + length fs
last_number n [] o numbered e = e ∙ omega arith
last_number n (f ∷ fs) o numbered e = last_number (n + 1) fs (Some f) numbered.1 numbered.0 ∙ omega arith

-- an agent has as many filings as its last one's number says
pub count_is : (fs : List AcceptedFiling) → AreNumbered 1 fs → unwrap_or (option_map (λ (f : AcceptedFiling). f.number) (slice_get (take 1 (reverse fs)) 0)) 0 ≡ length fs
count_is fs numbered = ap (λ o. unwrap_or (option_map (λ (f : AcceptedFiling). f.number) o) 0) (last_is fs) ∙ last_number 0 fs None numbered refl ∙ omega arith
