-- Where the fronts of two texts differ, or else their backs, the texts are ordered as these are; and
-- short texts are the same where both are.
use Rattle.std.proofs.Common.{◌%◌, ◌≡◌, ◌≢◌, ℕ, zero, suc, ◌+◌, ◌*◌, ◌^◌, ◌<◌, ◌≤◌, min, List, [], ◌∷◌, length, refl, ◌∙◌, sym, ap, arith, inl, inr, Ordering}
use Rattle.std.specs.Prelude.{true, slice_index}
use Rattle.std.specs.Cmp.{nat_cmp_is}
use Rattle.std.proofs.lemmas.Bool.{ltb-true, cases_order}
use Rattle.std.proofs.lemmas.Bool.Decides.{nat_tests}
use Rattle.std.proofs.lemmas.Map.Text.{is_eq-slice_cmp}
use Rattle.std.proofs.lemmas.Nat.{same_from_place}
use Rattle.std.specs.Ordering.{nat_cmp, is_eq, ordering_then}
use Rattle.std.specs.declared.cmp.Ordering.TheVariants.{Less, Equal, Greater}
use Rattle.std.specs.Cmp.Lexicographic.{slice_cmp}
use Rattle.std.proofs.lemmas.Cmp.{nat_list_cmp_total}
use Rattle.bor_terms.specs.Texts.{front_of, back_of, is_same, is_short, AreBytes}

-- so many bytes from a place on as digits; one that is missing is 0
unfoldable digits : ℕ → ℕ → List ℕ → ℕ
digits zero k bs = 0
digits (suc n) k bs = slice_index bs k * 256 ^ n + digits n (suc k) bs

digits_none : (n k : ℕ) → digits n k [] ≡ 0
unfolding digits
digits_none zero k = refl
digits_none (suc n) k = let rest = digits_none n (suc k) in omega arith

digits_behind : (n k b : ℕ) (bs : List ℕ) → digits n (suc k) (b ∷ bs) ≡ digits n k bs
unfolding digits
digits_behind zero k b bs = refl
digits_behind (suc n) k b bs = ap (λ d. slice_index bs k * 256 ^ n + d) (digits_behind n (suc k) b bs)

front_digits : (bs : List ℕ) → front_of bs ≡ digits 8 0 bs
unfolding front_of digits
front_digits bs = omega arith

digits_on : (bs : List ℕ) → digits 15 0 bs ≡ digits 8 0 bs * 256 ^ 7 + digits 7 8 bs
unfolding digits
digits_on bs = omega arith

back_digits : (bs : List ℕ) → back_of bs ≡ digits 7 8 bs * 256 + min (length bs) 16
unfolding back_of digits
back_digits bs = omega arith

one_more : (x y p d e : ℕ) → y < x → d < p → e < p → y * p + e < x * p + d
one_more x y p d e h l m = grind arith

digits_below : (n k : ℕ) (bs : List ℕ) → AreBytes bs → digits n k bs < 256 ^ n
unfolding digits
digits_below zero k bs h = omega arith
digits_below (suc n) k bs h =
    let head : slice_index bs k < 256 = h k in
    let tail : digits n (suc k) bs < 256 ^ n = digits_below n (suc k) bs h in
    grind (arith, one_more 256 (slice_index bs k) (256 ^ n) 0 (digits n (suc k) bs))

by_head : (x y p d e : ℕ) (o rest : Ordering) → o ≡ nat_cmp x y → d < p → e < p → (d < e → rest ≡ Less) → x * p + d < y * p + e → ordering_then o rest ≡ Less
by_head x y p d e o rest c l m so h = grind (arith, nat_tests, one_more x y p d e)

digits_order : (n : ℕ) (a b : List ℕ) → AreBytes a → AreBytes b → digits n 0 a < digits n 0 b → slice_cmp nat_cmp a b ≡ Less
unfolding digits
digits_order zero a b p q h = absurd (omega arith)
digits_order (suc n) [] [] p q h = absurd (omega arith)
digits_order (suc n) [] (y ∷ ys) p q h = refl
digits_order (suc n) (x ∷ xs) [] p q h = absurd (omega (arith, digits_none n 1))
digits_order (suc n) (x ∷ xs) (y ∷ ys) p q h =
    by_head x y (256 ^ n) (digits n 1 (x ∷ xs)) (digits n 1 (y ∷ ys)) (nat_cmp x y) (slice_cmp nat_cmp xs ys) refl (digits_below n 1 (x ∷ xs) p) (digits_below n 1 (y ∷ ys) q)
    (λ less. digits_order n xs ys (λ k. p (suc k)) (λ k. q (suc k)) (omega (arith, less, digits_behind n 0 x xs, digits_behind n 0 y ys))) h

-- two numbers of digits are the same where their heads and their tails are
heads : (n x y : ℕ) (xs ys : List ℕ) → AreBytes (x ∷ xs) → AreBytes (y ∷ ys) → digits (suc n) 0 (x ∷ xs) ≡ digits (suc n) 0 (y ∷ ys) → (x ≡ y) × (digits n 0 xs ≡ digits n 0 ys)
unfolding digits
heads n x y xs ys p q e =
    let both = same_from_place x (digits n 1 (x ∷ xs)) y (digits n 1 (y ∷ ys)) (256 ^ n) (digits_below n 1 (x ∷ xs) p) (digits_below n 1 (y ∷ ys) q) e in
    (both.0, sym (digits_behind n 0 x xs) ∙ both.1 ∙ digits_behind n 0 y ys)

nat_cmp-suc : (a b : ℕ) → nat_cmp a b ≡ nat_cmp (suc a) (suc b)
nat_cmp-suc a b = grind (arith, nat_tests)

-- texts of the same digits, which are all of one of them, are ordered by their lengths
by_lengths : (n : ℕ) (a b : List ℕ) → AreBytes a → AreBytes b → digits n 0 a ≡ digits n 0 b → length a ≤ n → slice_cmp nat_cmp a b ≡ nat_cmp (length a) (length b)
by_lengths n [] [] p q e h = refl
by_lengths n [] (y ∷ ys) p q e h = nat_cmp_is 0 (suc (length ys)) Less (omega arith)
by_lengths n (x ∷ xs) [] p q e h = nat_cmp_is (suc (length xs)) 0 Greater (omega arith)
by_lengths zero (x ∷ xs) (y ∷ ys) p q e h = absurd (omega arith)
by_lengths (suc n) (x ∷ xs) (y ∷ ys) p q e h =
    let both = heads n x y xs ys p q e in
    let equal : nat_cmp x y ≡ Equal = sym (nat_cmp_is x y Equal both.0) in
    rw (equal) (by_lengths n xs ys (λ k. p (suc k)) (λ k. q (suc k)) both.1 (omega arith) ∙ nat_cmp-suc (length xs) (length ys))

fifteen : (a b : List ℕ) → front_of a ≡ front_of b → digits 15 0 a + digits 7 8 b ≡ digits 15 0 b + digits 7 8 a
fifteen a b e = omega (arith, e, front_digits a, front_digits b, digits_on a, digits_on b)

back_below : (a b : List ℕ) → AreBytes a → AreBytes b → front_of a ≡ front_of b → back_of a < back_of b → slice_cmp nat_cmp a b ≡ Less
back_below a b p q e h = elim (cases_order (digits 15 0 a) (digits 15 0 b)) [
  | inl same ↦
      let small : length a ≤ 15 = omega (arith, same, fifteen a b e, back_digits a, back_digits b) in
      let shorter : length a < length b = omega (arith, same, fifteen a b e, back_digits a, back_digits b) in
      by_lengths 15 a b p q same small ∙ sym (nat_cmp_is (length a) (length b) Less shorter)
  | inr (inl below) ↦ digits_order 15 a b p q below
  | inr (inr above) ↦ absurd (omega (arith, above, fifteen a b e, back_digits a, back_digits b))
]

-- numbers by which two texts are ordered
by_rank : (x y : ℕ) (a b : List ℕ) (o : Ordering) → x ≢ y → o ≡ nat_cmp x y → (x < y → slice_cmp nat_cmp a b ≡ Less) → (y < x → slice_cmp nat_cmp b a ≡ Less) → o ≡ slice_cmp nat_cmp a b
by_rank x y a b o n e below above = grind (arith, nat_tests, nat_list_cmp_total.antisymm a b)

-- x and y are the fronts of two texts
pub front_order : (a b : List ℕ) (x y : ℕ) (o : Ordering) → x ≡ front_of a → y ≡ front_of b → AreBytes a → AreBytes b → x ≢ y → o ≡ nat_cmp x y → o ≡ slice_cmp nat_cmp a b
front_order a b x y o i j p q n e =
    by_rank x y a b o n e (λ below. digits_order 8 a b p q (omega (arith, below, front_digits a, front_digits b)))
    (λ above. digits_order 8 b a q p (omega (arith, above, front_digits a, front_digits b)))

-- f and g are the fronts of two texts, and x and y their backs
pub back_order : (a b : List ℕ) (f g x y : ℕ) (o : Ordering) → f ≡ front_of a → g ≡ front_of b → x ≡ back_of a → y ≡ back_of b → AreBytes a → AreBytes b → f ≡ g → x ≢ y → o ≡ nat_cmp x y → o ≡ slice_cmp nat_cmp a b
back_order a b f g x y o k l i j p q e n c =
    by_rank x y a b o n c (λ below. back_below a b p q (sym k ∙ e ∙ l) (omega (arith, below))) (λ above. back_below b a q p (sym l ∙ sym e ∙ k) (omega (arith, above)))

-- of short texts with one front and one back
pub short_tie : (a b : List ℕ) (f g x y : ℕ) → f ≡ front_of a → g ≡ front_of b → x ≡ back_of a → y ≡ back_of b → AreBytes a → AreBytes b → f ≡ g → x ≡ y → is_short x ≡ true → Equal ≡ slice_cmp nat_cmp a b
short_tie a b f g x y k l i j p q e h w =
    let low : x % 256 < 16 = ltb-true (x % 256) 16 w in
    let small : length a ≤ 15 = omega (arith, low, i, back_digits a) in
    let lengths : length a ≡ length b = omega (arith, small, h, i, j, back_digits a, back_digits b) in
    let rests : digits 7 8 a ≡ digits 7 8 b = omega (arith, lengths, h, i, j, back_digits a, back_digits b) in
    nat_cmp_is (length a) (length b) Equal lengths ∙ sym (by_lengths 15 a b p q (omega (arith, rests, fifteen a b (sym k ∙ e ∙ l))) small)

pub short_same_text : (a b : List ℕ) (f g x y : ℕ) → f ≡ front_of a → g ≡ front_of b → x ≡ back_of a → y ≡ back_of b → AreBytes a → AreBytes b → f ≡ g → x ≡ y → is_short x ≡ true → true ≡ is_same a b
short_same_text a b f g x y k l i j p q e h w = ap is_eq (short_tie a b f g x y k l i j p q e h w) ∙ is_eq-slice_cmp a b
