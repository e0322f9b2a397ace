-- All reads of filings, but of their files themselves, are the same without their files.
use Rattle.std.proofs.Common.{◌≡◌, ℕ, ℤ, Bool, List, [], ◌∷◌, ◌++◌, map, refl, ap, ap₂, ◌∙◌, arith}
use Rattle.std.specs.Prelude.{filter}
use Rattle.std.specs.List.{list_any}
use Rattle.bor_register.specs.Register.{filings_of}
use Rattle.bor_register.specs.Live.{live_of}
use Rattle.bor_register.specs.Publication.{is_published, outward, outwards_of, published}
use Rattle.bor_register.specs.Rows.{is_visible, rows_in, visible_in, rows_of, visible, of_declaration}
use Rattle.bor_register.specs.Withdrawal.{shares_record, has_successor}
use Rattle.bor_register.specs.declared.filing.AcceptedFiling.{AcceptedFiling}
use Rattle.bor_register.specs.declared.member.Member.{Member}
use Rattle.bor_register.specs.Bare.{without_file, without_files}

pub filings_of-bare : (name : List ℕ) (ms : List Member) → filings_of name (without_files ms) ≡ map without_file (filings_of name ms)
filings_of-bare name [] = refl
filings_of-bare name (m ∷ ms) = grind (arith, filings_of-bare name ms)

filter_bare : (p : AcceptedFiling → Bool) → ((f : AcceptedFiling) → p (without_file f) ≡ p f) → (fs : List AcceptedFiling) → filter p (map without_file fs) ≡ map without_file (filter p fs)
filter_bare p same [] = refl
filter_bare p same (f ∷ fs) = grind (arith, same f, filter_bare p same fs)

pub map_bare : {X : Type 0} (g : AcceptedFiling → X) → ((f : AcceptedFiling) → g (without_file f) ≡ g f) → (fs : List AcceptedFiling) → map g (map without_file fs) ≡ map g fs
map_bare g same [] = refl
map_bare g same (f ∷ fs) = ap₂ (λ x xs. x ∷ xs) (same f) (map_bare g same fs)

rows_in-bare : (name : List ℕ) (fs : List AcceptedFiling) → rows_in name (map without_file fs) ≡ rows_in name fs
rows_in-bare name [] = refl
rows_in-bare name (f ∷ fs) = rw (rows_in-bare name fs) refl

pub visible_in-bare : (viewer : List ℕ) (day : ℤ) (name : List ℕ) (fs : List AcceptedFiling) → visible_in viewer day name (map without_file fs) ≡ visible_in viewer day name fs
visible_in-bare viewer day name fs =
    ap (rows_in name) (filter_bare (is_visible viewer day name) (λ f. refl) fs) ∙ rows_in-bare name (filter (is_visible viewer day name) fs)

pub rows_of-bare : (viewer : List ℕ) (day : ℤ) (name declaration : List ℕ) (fs : List AcceptedFiling) → rows_of viewer day name declaration (map without_file fs) ≡ rows_of viewer day name declaration fs
rows_of-bare viewer day name declaration fs = ap (of_declaration declaration) (visible_in-bare viewer day name fs)

pub visible-bare : (viewer : List ℕ) (day : ℤ) (ms : List Member) → visible viewer day (without_files ms) ≡ visible viewer day ms
visible-bare viewer day [] = refl
visible-bare viewer day (m ∷ ms) = ap₂ (λ xs ys. xs ++ ys) (visible_in-bare viewer day m.name m.filings) (visible-bare viewer day ms)

outwards_of-bare : (day : ℤ) (name : List ℕ) (fs : List AcceptedFiling) → outwards_of day name (map without_file fs) ≡ outwards_of day name fs
outwards_of-bare day name fs = ap (map (outward name)) (filter_bare (is_published day) (λ f. refl) fs) ∙ map_bare (outward name) (λ f. refl) (filter (is_published day) fs)

pub published-bare : (day : ℤ) (ms : List Member) → published day (without_files ms) ≡ published day ms
published-bare day [] = refl
published-bare day (m ∷ ms) = ap₂ (λ xs ys. xs ++ ys) (outwards_of-bare day m.name m.filings) (published-bare day ms)

shares-bare : (f : AcceptedFiling) (fs : List AcceptedFiling) → list_any (shares_record (without_file f)) (map without_file fs) ≡ list_any (shares_record f) fs
shares-bare f [] = refl
shares-bare f (g ∷ fs) = rw (shares-bare f fs) refl

pub has_successor-bare : (number : ℕ) (fs : List AcceptedFiling) → has_successor number (map without_file fs) ≡ has_successor number fs
has_successor-bare number [] = refl
has_successor-bare number (f ∷ fs) = grind (arith, shares-bare f fs, has_successor-bare number fs)

pub live_of-bare : (fs : List AcceptedFiling) → live_of (map without_file fs) ≡ live_of fs
live_of-bare [] = refl
live_of-bare (f ∷ fs) = rw (live_of-bare fs) refl
