-- Which bytes are read of files that words name.
use Rattle.std.specs.Prelude.{◌≡◌, ◌⊎◌, ℕ, List, [], ◌∷◌, Option, IfSome, take}
use Rattle.std.specs.Borrow.{Bor}
use Rattle.clap.specs.Words.{Text}

-- These bytes are read of a file that is opened by this name: all that it has, up to so many.
abbrev pub IsReadOf : {F : Type 0} → (Bor Text → F → Type 0) → (F → Option (List ℕ)) → ℕ → Bor Text
    → List ℕ → Type 0
IsReadOf {F} opens remaining limit name bytes =
    (file : F) × opens name file × IfSome (remaining file) (λ all. bytes ≡ take limit all)

-- These are read of files of these names, one of each, in their order; some files may be left out.
abbrev pub AreReadOf : (Bor Text → List ℕ → Type 0) → List (Bor Text) → List (List ℕ) → Type 0
AreReadOf Reads [] inputs = inputs ≡ []
AreReadOf Reads (name ∷ names) inputs =
    AreReadOf Reads names inputs
    ⊎ ((input : List ℕ) × (rest : List (List ℕ)) × (inputs ≡ input ∷ rest) × Reads name input
    × AreReadOf Reads names rest)
