-- The bytes of a text are bytes.
use Rattle.std.proofs.Common.{◌≡◌, ◌<◌, ◌+◌, ◌/◌, ◌%◌, ℕ, List, [], ◌∷◌, ◌++◌, inl, inr, Bool, true, false, cond, refl, subst, arith}
use Rattle.std.specs.Prelude.{IsUtf8, nat_lt}
use Rattle.std.proofs.lemmas.Bool.{and_parts}
use Rattle.std.proofs.lemmas.Bool.Decides.{nat_tests}
use lib.Utf8.{encode, encodes, scalars, scalar, scalar_cases}
use Rattle.matchit.specs.Level.{IsText}

text_both : (xs ys : List ℕ) → IsText xs → IsText ys → IsText (xs ++ ys)
text_both [] ys x y = y
text_both (b ∷ xs) ys x y = (x.0, text_both xs ys x.1 y)

-- the bytes of one character, by its tests
encoded_by : (c : ℕ) (one two three : Bool) → c < 1114112 → nat_lt c 128 ≡ one → nat_lt c 2048 ≡ two → nat_lt c 65536 ≡ three
    → IsText (cond one (c ∷ [])
    (cond two ((192 + c / 64) ∷ (128 + c % 64) ∷ [])
    (cond three ((224 + c / 4096) ∷ (128 + c / 64 % 64) ∷ (128 + c % 64) ∷ [])
    ((240 + c / 262144) ∷ (128 + c / 4096 % 64) ∷ (128 + c / 64 % 64) ∷ (128 + c % 64) ∷ []))))
encoded_by c true two three lt a b d = (grind (arith, nat_tests), tt)
encoded_by c false true three lt a b d =
    let below : c < 2048 = grind (arith, nat_tests) in
    (omega arith, (omega arith, tt))
encoded_by c false false true lt a b d =
    let below : c < 65536 = grind (arith, nat_tests) in
    (omega arith, (omega arith, (omega arith, tt)))
encoded_by c false false false lt a b d = (omega arith, (omega arith, (omega arith, (omega arith, tt))))

below_of : (c : ℕ) → scalar c ≡ true → c < 1114112
below_of c h = elim (scalar_cases c h) [ inl low ↦ omega arith | inr high ↦ high.1 ]

encoded : (c : ℕ) → scalar c ≡ true → IsText (encode c)
unfolding encode
encoded c h = encoded_by c (nat_lt c 128) (nat_lt c 2048) (nat_lt c 65536) (below_of c h) refl refl refl

encoded_all : (cs : List ℕ) → scalars cs ≡ true → IsText (encodes cs)
encoded_all [] h = tt
encoded_all (c ∷ cs) h =
    let two = and_parts (scalar c) (scalars cs) h in
    text_both (encode c) (encodes cs) (encoded c two.0) (encoded_all cs two.1)

pub text_bytes : (text : List ℕ) → IsUtf8 text → IsText text
text_bytes text h = subst IsText h.1.1 (encoded_all h.0 h.1.0)
