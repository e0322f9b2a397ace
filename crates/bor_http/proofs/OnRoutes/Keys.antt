-- What a walk finds behind "/filings/" and "/agents/".
use Rattle.std.proofs.Common.{◌≡◌, ℕ, ◌-◌, ◌<◌, ◌⊎◌, inl, inr, List, [], ◌∷◌, ◌++◌, length, drop, take, Some, None, Bool, true, false, cond, refl, sym, ap, subst, ◌∙◌, arith, length-append, nat_eq, ltb, ◌==◌, codes}
use Rattle.std.specs.List.{ends_with, list_any}
use Rattle.std.proofs.Math.Seq.{drop-append_seam}
use Rattle.std.proofs.lemmas.Bool.{and_from, and_right, both_ways, false_from_ne_true, lt-ltb}
use Rattle.std.proofs.lemmas.Bool.Decides.{Decides-eqb, nat_tests}
use Rattle.std.proofs.lemmas.Slice.Eq.{ends_is}
use Rattle.matchit.specs.Level.{AreSuffixes, IsText}
use Rattle.matchit.specs.Rows.{Rows, Seen, ends, level, rows_of}
use Rattle.matchit.specs.Seek.{first, after_param, has_slash, segment, cuts}
use Rattle.matchit.proofs.LevelLemmas.{level-cons}
use Rattle.matchit.proofs.ParamLemmas.{after_param-end, after_param-kid, after_param-stop}
use Rattle.matchit.proofs.SeekLemmas.{or_else-none, seek-empty}

-- ---- texts with a slash and without

pub slash_is : (xs : List ℕ) → has_slash xs ≡ list_any (λ b. b == 47) xs
slash_is [] = refl
slash_is (b ∷ xs) = grind (arith, slash_is xs)

-- what stands before the first slash, and behind it
pub parted : (text : List ℕ) → (has_slash text ≡ false) ⊎ ((key : List ℕ) × (rest : List ℕ) × (text ≡ key ++ 47 ∷ rest) × (has_slash key ≡ false))
parted [] = inl refl
parted (b ∷ text) = by_byte (b == 47) refl (parted text)
  where
    by_byte : (t : Bool) → (b == 47) ≡ t → (has_slash text ≡ false) ⊎ ((key : List ℕ) × (rest : List ℕ) × (text ≡ key ++ 47 ∷ rest) × (has_slash key ≡ false))
        → (has_slash (b ∷ text) ≡ false) ⊎ ((key : List ℕ) × (rest : List ℕ) × ((b ∷ text) ≡ key ++ 47 ∷ rest) × (has_slash key ≡ false))
    by_byte true e more = let is : b ≡ 47 = grind (arith, nat_tests) in inr ([], text, ap (λ c. c ∷ text) is, refl)
    by_byte false e (inl none) = inl (rw e none)
    by_byte false e (inr h) = inr (b ∷ h.0, h.1, ap (λ xs. b ∷ xs) h.2, rw e h.3)

slash_within : (front rest : List ℕ) → has_slash (front ++ 47 ∷ rest) ≡ true
slash_within [] rest = refl
slash_within (b ∷ front) rest = grind (arith, slash_within front rest)

cuts-none : (xs : List ℕ) → has_slash xs ≡ false → cuts xs (47 ∷ []) ≡ false
cuts-none xs none =
    and_right (ltb 1 (length xs)) (ends_with nat_eq xs (47 ∷ [])) (false_from_ne_true (ends_with nat_eq xs (47 ∷ [])) (λ last.
    let is = (ends_is Decides-eqb xs (47 ∷ []) (ends_with nat_eq xs (47 ∷ [])) refl).0 last in
    both_ways (has_slash xs) none (ap has_slash is ∙ slash_within (take (length xs - 1) xs) [])))

cuts-slash : (b : ℕ) (key : List ℕ) → cuts (b ∷ (key ++ 47 ∷ [])) (47 ∷ []) ≡ true
cuts-slash b key =
    and_from (ltb 1 (length (b ∷ (key ++ 47 ∷ [])))) (ends_with nat_eq (b ∷ (key ++ 47 ∷ [])) (47 ∷ []))
    (lt-ltb 1 (length (b ∷ (key ++ 47 ∷ []))) (omega (arith, length-append key (47 ∷ []))))
    ((ends_is Decides-eqb (b ∷ (key ++ 47 ∷ [])) (47 ∷ []) (ends_with nat_eq (b ∷ (key ++ 47 ∷ [])) (47 ∷ [])) refl).1 (b ∷ key) refl)

segment-whole : (xs : List ℕ) → has_slash xs ≡ false → segment xs ≡ xs
segment-whole [] h = refl
segment-whole (b ∷ xs) h = grind (arith, segment-whole xs)

segment-front : (key rest : List ℕ) → has_slash key ≡ false → segment (key ++ 47 ∷ rest) ≡ key ++ 47 ∷ []
segment-front [] rest h = refl
segment-front (b ∷ key) rest h = grind (arith, segment-front key rest)

-- ---- behind a parameter

-- a parameter alone, and one with suffixes behind it
taken : (ss : List Seen) (v b : ℕ) (p : List ℕ) → b < 256 → first (level [] ss (Some v) None None) (b ∷ p) ≡ after_param (rows_of ss ++ ends (Some v)) (b ∷ p)
taken ss v b p lt = level-cons [] [] ss (Some v) None None b p tt lt ∙ rw (seek-empty 0 p, or_else-none) refl

abbrev pub alone : ℕ → Rows
alone k = (256 ∷ [], k) ∷ []

pub alone_slash : (k b : ℕ) (p : List ℕ) → b < 256 → has_slash (b ∷ p) ≡ true → first (alone k) (b ∷ p) ≡ None
alone_slash k b p lt slash = taken [] k b p lt ∙ after_param-stop [] (Some k) b p refl slash

abbrev pub named : Rows
named = alone 11

pub named_alone : (name : List ℕ) → IsText name → 0 < length name → has_slash name ≡ false → first named name ≡ Some 11
named_alone [] bytes some none = absurd (omega arith)
named_alone (b ∷ p) bytes some none = taken [] 11 b p bytes.0 ∙ after_param-end [] (Some 11) b p tt refl none

abbrev pub keyed : Rows
keyed = (256 ∷ codes "/file", 3) ∷ (256 ∷ [], 0) ∷ []

-- the suffix "/", behind which the file stands
abbrev file : Seen
file = record { prefix = codes "/"; tails = (codes "file", 3) ∷ []; height = 0 }

suffixed : AreSuffixes (file ∷ [])
suffixed = (record { some_prefix = omega arith; some_rows = omega arith; all_segment = (refl, tt) }, tt, tt)

pub keyed_alone : (key : List ℕ) → IsText key → 0 < length key → has_slash key ≡ false → first keyed key ≡ Some 0
keyed_alone [] bytes some none = absurd (omega arith)
keyed_alone (b ∷ p) bytes some none =
    let cut : cuts (segment (b ∷ p)) (47 ∷ []) ≡ false = ap (λ s. cuts s (47 ∷ [])) (segment-whole (b ∷ p) none) ∙ cuts-none (b ∷ p) none in
    taken (file ∷ []) 0 b p bytes.0 ∙ after_param-end (file ∷ []) (Some 0) b p suffixed (ap (λ t. cond t (codes "/") []) cut) none

pub no_key : (rest : List ℕ) → first keyed (47 ∷ rest) ≡ None
no_key rest = taken (file ∷ []) 0 47 rest (omega arith) ∙ after_param-stop (file ∷ []) (Some 0) 47 rest refl refl

pub keyed_slash : (key rest : List ℕ) → IsText (key ++ 47 ∷ rest) → 0 < length key → has_slash key ≡ false
    → first keyed (key ++ 47 ∷ rest) ≡ first ((codes "/file", 3) ∷ []) (47 ∷ rest)
keyed_slash [] rest bytes some none = absurd (omega arith)
keyed_slash (b ∷ key) rest bytes some none =
    let path = key ++ 47 ∷ rest in
    let front : segment (b ∷ path) ≡ b ∷ (key ++ 47 ∷ []) = segment-front (b ∷ key) rest none in
    let cut : cuts (segment (b ∷ path)) (47 ∷ []) ≡ true = ap (λ s. cuts s (47 ∷ [])) front ∙ cuts-slash b key in
    let size : length (segment (b ∷ path)) - 1 ≡ length (b ∷ key) = ap (λ s. length s - 1) front ∙ omega (arith, length-append key (47 ∷ [])) in
    let there : first keyed (b ∷ path) ≡ first ((codes "/file", 3) ∷ []) (drop (length (segment (b ∷ path)) - 1) (b ∷ path)) =
    taken (file ∷ []) 0 b path bytes.0 ∙ after_param-kid (file ∷ []) 0 file (Some 0) b path suffixed (omega arith) (sym (ap (λ t. cond t (codes "/") []) cut)) in
    let behind : drop (length (segment (b ∷ path)) - 1) (b ∷ path) ≡ 47 ∷ rest = ap (λ n. drop n (b ∷ path)) size ∙ drop-append_seam (b ∷ key) (47 ∷ rest) in
    subst (λ xs. first keyed (b ∷ path) ≡ first ((codes "/file", 3) ∷ []) xs) behind there
