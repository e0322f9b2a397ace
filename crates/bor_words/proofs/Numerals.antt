-- A number on the command line, as std reads it and as it is stated.
use Rattle.std.proofs.Common.{◌≡◌, ◌<◌, ◌≤◌, ◌^◌, ℕ, List, [], ◌∷◌, Some, None, arith, true, length, refl, nat_lt, lt-ltb, ltb-true}
use Rattle.std.specs.List.{list_all}
use Rattle.std.specs.Char.{digit_value}
use Rattle.std.specs.Str.Parse.{AllDigits, IsNumeral, digits_value, without_leading_plus}
use Rattle.std.proofs.lemmas.Bool.Decides.{nat_tests}
use Rattle.std.proofs.lemmas.Bool.{and_from, and_parts}
use Rattle.bor_words.specs.Values.{is_number_text, number_within}

digits_pass : (ds : List ℕ) → AllDigits 10 ds → list_all (λ c. nat_lt (digit_value c) 10) ds ≡ true
digits_pass [] h = refl
digits_pass (c ∷ cs) h = and_from _ _ (lt-ltb (digit_value c) 10 h.0) (digits_pass cs h.1)

pass_digits : (ds : List ℕ) → list_all (λ c. nat_lt (digit_value c) 10) ds ≡ true → AllDigits 10 ds
pass_digits [] h = tt
pass_digits (c ∷ cs) h =
    let both = and_parts _ _ h in
    (ltb-true (digit_value c) 10 both.0, pass_digits cs both.1)

numeral_passes : (ds : List ℕ) → IsNumeral 10 ds → is_number_text ds ≡ true
numeral_passes ds h = and_from _ _ (lt-ltb 0 (length ds) h.0) (digits_pass ds h.1)

passes_numeral : (ds : List ℕ) → is_number_text ds ≡ true → IsNumeral 10 ds
passes_numeral ds h =
    let both = and_parts _ _ h in
    (ltb-true 0 (length ds) both.0, pass_digits ds both.1)

abbrev pub value_of : List ℕ → ℕ
value_of text = digits_value 10 (without_leading_plus text)

-- std reads the text as a number of 32 bits
abbrev pub IsRead : List ℕ → Type 0
IsRead text = IsNumeral 10 (without_leading_plus text) × (value_of text < 2 ^ 32)

-- a number within the bounds
pub number_found : (low high n : ℕ) (text : List ℕ) → IsRead text × (n ≡ value_of text) → low ≤ n → n ≤ high
    → Some n ≡ number_within low high text
unfolding number_within
number_found low high n text h above below = let passes = numeral_passes (without_leading_plus text) h.0.0 in grind (arith, nat_tests)

-- a number outside of them
pub number_below : (low high n : ℕ) (text : List ℕ) → IsRead text × (n ≡ value_of text) → n < low
    → None ≡ number_within low high text
unfolding number_within
number_below low high n text h below = grind (arith, nat_tests)

pub number_above : (low high n : ℕ) (text : List ℕ) → IsRead text × (n ≡ value_of text) → high < n
    → None ≡ number_within low high text
unfolding number_within
number_above low high n text h above = grind (arith, nat_tests)

-- no number, or one of more than 32 bits
pub no_number : (low high : ℕ) (text : List ℕ) → ¬ IsRead text → high < 2 ^ 32
    → None ≡ number_within low high text
unfolding number_within
no_number low high text h small =
    let fails : is_number_text (without_leading_plus text) ≡ true → value_of text < 2 ^ 32 → ⊥ = λ e lt. h (passes_numeral (without_leading_plus text) e, lt) in
    grind (arith, nat_tests)
