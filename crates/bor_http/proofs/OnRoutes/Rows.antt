-- What a walk finds among branches: rows that begin with bytes, where no other row begins with the first of them.
use Rattle.std.proofs.Common.{◌≡◌, ◌≢◌, ℕ, ◌-◌, List, [], ◌∷◌, ◌++◌, length, drop, Option, Bool, true, false, cond, refl, sym, ap, ◌∙◌, arith, append-nil, ◌==◌, nat_eq}
use Rattle.std.specs.Prelude.{⊤}
use Rattle.std.specs.List.{starts_with}
use Rattle.std.proofs.lemmas.Bool.Decides.{nat_tests}
use Rattle.matchit.specs.Level.{IsText}
use Rattle.matchit.specs.Rows.{Rows, prepend}
use Rattle.matchit.specs.Route.{has_wild}
use Rattle.matchit.specs.Seek.{step, seek, first, param_step}
use Rattle.matchit.proofs.RouteLemmas.{text-of}
use Rattle.matchit.proofs.SeekLemmas.{first-prefix, or_else-none, own-append, own-prepend, param_step-empty, seek-empty, step-append, step-hit, step-miss}

-- where no row begins with a parameter
pub literal : (rows : Rows) (b : ℕ) (p : List ℕ) → step 256 rows ≡ [] → step 257 rows ≡ [] → first rows (b ∷ p) ≡ seek 0 (step b rows) p
unfolding seek
literal rows b p param catch_all =
    simp (param, catch_all, param_step-empty (b ∷ p), seek-empty ((param_step {K = ℕ} [] (b ∷ p)).0 - 1) p, or_else-none)

-- the bytes of a branch have no wildcard, and no other row begins with their first one or a parameter
abbrev IsApart : List ℕ → Rows → Type 0
IsApart [] others = ⊥
IsApart (x ∷ w) others = (has_wild (x ∷ w) ≡ false) × (step x others ≡ []) × (step 256 others ≡ []) × (step 257 others ≡ [])

no_text : (x : ℕ) (w : List ℕ) (rows others : Rows) → first (prepend (x ∷ w) rows ++ others) [] ≡ first others []
unfolding seek
no_text x w rows others = simp (own-append, own-prepend)

-- a text that begins with the bytes goes on in the branch, and another among the others
beside : (w : List ℕ) (rows others : Rows) (text : List ℕ) → IsApart w others
    → first (prepend w rows ++ others) text ≡ cond (starts_with nat_eq text w) (first rows (drop (length w) text)) (first others text)
beside [] rows others text apart = absurd apart
beside (x ∷ w) rows others [] apart = no_text x w rows others
beside (x ∷ w) rows others (b ∷ text) apart =
    let bytes : IsText (x ∷ w) = text-of (x ∷ w) apart.0 in
    let param : step 256 (prepend (x ∷ w) rows ++ others) ≡ [] = simp (step-append, step-miss 256 x w rows (λ e. omega arith), apart.2) in
    let catch_all : step 257 (prepend (x ∷ w) rows ++ others) ≡ [] = simp (step-append, step-miss 257 x w rows (λ e. omega arith), apart.3) in
    literal (prepend (x ∷ w) rows ++ others) b text param catch_all
    ∙ ap (λ rest. seek 0 rest text) (step-append b (prepend (x ∷ w) rows) others)
    ∙ by_byte (x == b) refl
    ∙ ap (λ found. cond (starts_with nat_eq (b ∷ text) (x ∷ w)) (first rows (drop (length w) text)) found) (sym (literal others b text apart.2 apart.3))
  where
    by_byte : (same : Bool) → (x == b) ≡ same
        → seek 0 (step b (prepend (x ∷ w) rows) ++ step b others) text
        ≡ cond (starts_with nat_eq (b ∷ text) (x ∷ w)) (first rows (drop (length w) text)) (seek 0 (step b others) text)
    by_byte true e =
        let is : x ≡ b = grind (arith, nat_tests) in
        rw (e, ← is, step-hit x w rows, apart.1, append-nil, seek-empty 0 text) (first-prefix w rows text (text-of (x ∷ w) apart.0).1)
    by_byte false e =
        let n : x ≢ b = λ q. grind (arith, nat_tests) in
        rw (e, step-miss b x w rows n) refl

-- ---- branches

-- each begins with its bytes, and others stand behind them
abbrev pub branches : List (List ℕ × Rows) → Rows → Rows
branches [] others = others
branches ((w, rows) ∷ more) others = prepend w rows ++ branches more others

abbrev pub AreApart : List (List ℕ × Rows) → Rows → Type 0
AreApart [] others = ⊤
AreApart ((w, rows) ∷ more) others = IsApart w (branches more others) × AreApart more others

-- what is found by the branch that a text begins with
abbrev pub walk : List (List ℕ × Rows) → Rows → List ℕ → Option ℕ
walk [] others text = first others text
walk ((w, rows) ∷ more) others text = cond (starts_with nat_eq text w) (first rows (drop (length w) text)) (walk more others text)

pub walks : (bs : List (List ℕ × Rows)) (others : Rows) (text : List ℕ) → AreApart bs others → first (branches bs others) text ≡ walk bs others text
walks [] others text apart = refl
walks ((w, rows) ∷ more) others text apart =
    beside w rows (branches more others) text apart.0
    ∙ ap (λ found. cond (starts_with nat_eq text w) (first rows (drop (length w) text)) found) (walks more others text apart.1)
