-- Where a head ends, step by step and whatever follows.
use Rattle.std.proofs.Common.{◌≡◌, ◌≤◌, length, drop, ℕ, ◌+◌, ◌-◌, ◌<◌, List, [], ◌∷◌, ◌++◌, Some, None, Option, get_or, refl, sym, ap, ◌∙◌, arith, suc, ◌==◌, ◌&&◌, false, true, Bool, cond, ◌⊎◌, inl, inr, drop-cons, add-one, nat_lt, drop}
use Rattle.std.specs.Option.{option_map}
use Rattle.std.proofs.lemmas.Bool.Decides.{nat_tests}
use Rattle.std.proofs.lemmas.Bool.{false_from_ne_true}
use Rattle.std.proofs.lemmas.List.{at_drop_all}
use Rattle.std.proofs.lemmas.Option.{none-some}
use Rattle.bor_http.specs.Incoming.Head.{blank_len, head_len}

pub other_test : (b k : ℕ) → (b ≡ 10 → k ≡ 0) → (b == 10 && nat_lt 0 k) ≡ false
other_test b k h = grind (arith, nat_tests)

pub head_len-other : (b : ℕ) (rest : List ℕ) → (b ≡ 10 → blank_len rest ≡ 0)
    → head_len (b ∷ rest) ≡ option_map (λ n. suc n) (head_len rest)
unfolding head_len
head_len-other b rest h = rw (other_test b (blank_len rest) h) refl

pub blank_test : (b k : ℕ) → b ≡ 10 → 0 < k → (b == 10 && nat_lt 0 k) ≡ true
blank_test b k h p = grind (arith, nat_tests)

pub head_len-blank : (b : ℕ) (rest : List ℕ) → b ≡ 10 → 0 < blank_len rest
    → head_len (b ∷ rest) ≡ Some (1 + blank_len rest)
unfolding head_len
head_len-blank b rest e p = rw (blank_test b (blank_len rest) e p) refl

option_map-suc : (i : ℕ) (o : Option ℕ) → option_map (λ n. i + n) (option_map (λ n. suc n) o) ≡ option_map (λ n. (i + 1) + n) o
option_map-suc i None = refl
option_map-suc i (Some n) = ap Some (omega arith)

pub shift-zero : (o : Option ℕ) → o ≡ option_map (λ n. 0 + n) o
shift-zero None = refl
shift-zero (Some n) = ap Some (omega arith)

pub head_len-miss : (bytes : List ℕ) (i : ℕ) → i < length bytes
    → head_len bytes ≡ option_map (λ n. i + n) (head_len (drop i bytes))
    → (get_or bytes i 0 ≡ 10 → blank_len (drop (i + 1) bytes) ≡ 0)
    → head_len bytes ≡ option_map (λ n. (i + 1) + n) (head_len (drop (i + 1) bytes))
head_len-miss bytes i lt e miss =
    let d : drop i bytes ≡ get_or bytes i 0 ∷ drop (i + 1) bytes = rw (add-one, drop-cons bytes i 0) refl in
    e ∙ ap (λ s. option_map (λ n. i + n) (head_len s)) d
    ∙ ap (option_map (λ n. i + n)) (head_len-other (get_or bytes i 0) (drop (i + 1) bytes) miss)
    ∙ option_map-suc i (head_len (drop (i + 1) bytes))

pub head_len-hit : (bytes : List ℕ) (i : ℕ) → i < length bytes
    → head_len bytes ≡ option_map (λ n. i + n) (head_len (drop i bytes))
    → get_or bytes i 0 ≡ 10 → 0 < blank_len (drop (i + 1) bytes)
    → head_len bytes ≡ Some (i + 1 + blank_len (drop (i + 1) bytes))
head_len-hit bytes i lt e nl p =
    let d : drop i bytes ≡ get_or bytes i 0 ∷ drop (i + 1) bytes = rw (add-one, drop-cons bytes i 0) refl in
    e ∙ ap (λ s. option_map (λ n. i + n) (head_len s)) d
    ∙ ap (option_map (λ n. i + n)) (head_len-blank (get_or bytes i 0) (drop (i + 1) bytes) nl p)
    ∙ ap Some (omega arith)

pub head_len-end : (bytes : List ℕ) (i : ℕ) → length bytes ≤ i
    → head_len bytes ≡ option_map (λ n. i + n) (head_len (drop i bytes)) → head_len bytes ≡ None
unfolding head_len
head_len-end bytes i le e = e ∙ ap (option_map (λ n. i + n)) (at_drop_all head_len bytes i le)

-- ---- whatever follows

-- which way a test went
pub chosen : {X : Type 0} (b : Bool) (x y z : X) → cond b x y ≡ z → ((b ≡ true) × (x ≡ z)) ⊎ ((b ≡ false) × (y ≡ z))
chosen true x y z e = inl (refl, e)
chosen false x y z e = inr (refl, e)

map_suc-some : (o : Option ℕ) (n : ℕ) → option_map (λ k. suc k) o ≡ Some n → (k : ℕ) × (o ≡ Some k) × (n ≡ suc k)
map_suc-some None n e = cc
map_suc-some (Some k) n e = (k, refl, cc)

-- what the first byte says of the head
pub head_len-cases : (x : ℕ) (rest : List ℕ) (n : ℕ) → head_len (x ∷ rest) ≡ Some n
    → (((x == 10 && nat_lt 0 (blank_len rest)) ≡ true) × (n ≡ 1 + blank_len rest))
    ⊎ (((x == 10 && nat_lt 0 (blank_len rest)) ≡ false) × (k : ℕ) × (head_len rest ≡ Some k) × (n ≡ suc k))
unfolding head_len
head_len-cases x rest n e =
    elim (chosen (x == 10 && nat_lt 0 (blank_len rest)) (Some (1 + blank_len rest)) (option_map (λ k. suc k) (head_len rest)) (Some n) e) [
      | inl h ↦ inl (h.0, cc)
      | inr h ↦ let later = map_suc-some (head_len rest) n h.1 in inr (h.0, later.0, later.1, later.2)
    ]

blank_kept : (rest more : List ℕ) → 0 < blank_len rest → blank_len (rest ++ more) ≡ blank_len rest
blank_kept [] more p = absurd (omega arith)
blank_kept (a ∷ []) [] p = refl
blank_kept (a ∷ []) (m ∷ more) p = grind (arith, nat_tests)
blank_kept (a ∷ b ∷ rest) more p = refl

blank_behind : (rest more : List ℕ) (k : ℕ) → head_len rest ≡ Some k → blank_len (rest ++ more) ≡ blank_len rest
unfolding head_len
blank_behind [] more k e = cc
blank_behind (a ∷ []) more k e =
    let none : head_len (a ∷ []) ≡ None = head_len-other a [] (λ _. refl) in
    cc
blank_behind (a ∷ b ∷ rest) more k e = refl

test_positive : (b k : ℕ) → (b == 10 && nat_lt 0 k) ≡ true → 0 < k
test_positive b k e = grind (arith, nat_tests)

pub head_len-append : (xs more : List ℕ) (n : ℕ) → head_len xs ≡ Some n → head_len (xs ++ more) ≡ Some n
unfolding head_len
head_len-append [] more n e = cc
head_len-append (x ∷ rest) more n e =
    elim (head_len-cases x rest n e) [
      | inl h ↦
          let kept = blank_kept rest more (test_positive x (blank_len rest) h.0) in
          rw kept (rw h.0 (cc))
      | inr h ↦
          let kept = blank_behind rest more h.1 h.2 in
          let later : head_len (rest ++ more) ≡ Some h.1 = head_len-append rest more h.1 h.2 in
          rw kept (rw h.0 (rw later (cc)))
    ]

pub blank_len-le : (rest : List ℕ) → blank_len rest ≤ length rest
blank_len-le [] = omega arith
blank_len-le (a ∷ []) = grind (arith, nat_tests)
blank_len-le (a ∷ b ∷ rest) = grind (arith, nat_tests)

-- the head lies in the bytes
pub head_len-le : (xs : List ℕ) (n : ℕ) → head_len xs ≡ Some n → n ≤ length xs
unfolding head_len
head_len-le [] n e = cc
head_len-le (x ∷ rest) n e =
    elim (head_len-cases x rest n e) [
      | inl h ↦ omega (arith, blank_len-le rest)
      | inr h ↦ omega (arith, head_len-le rest h.1 h.2)
    ]

-- ---- where a scan goes on

no_blank : (b : ℕ) (rest : List ℕ) → head_len (b ∷ rest) ≡ None → (b == 10 && nat_lt 0 (blank_len rest)) ≡ false
unfolding head_len
no_blank b rest e = false_from_ne_true (b == 10 && nat_lt 0 (blank_len rest)) (λ is. none-some (1 + blank_len rest) (sym (rw is at e)))

none_behind : (b : ℕ) (rest : List ℕ) → head_len (b ∷ rest) ≡ None → head_len rest ≡ None
unfolding head_len
none_behind b rest e = grind (arith, no_blank b rest e)

skip_one : (b : ℕ) (rest : List ℕ) → (b == 10 && nat_lt 0 (blank_len rest)) ≡ false → head_len (b ∷ rest) ≡ option_map (λ n. suc n) (head_len rest)
unfolding head_len
skip_one b rest e = rw e refl

shift_suc : (k : ℕ) (o : Option ℕ) → option_map (λ n. suc n) (option_map (λ n. k + n) o) ≡ option_map (λ n. suc k + n) o
shift_suc k None = refl
shift_suc k (Some n) = ap Some (omega arith)

-- where no head ended in the first bytes, whatever follows, a scan may go on at the last two of them
pub scanned_before : (xs more : List ℕ) → head_len xs ≡ None → head_len (xs ++ more) ≡ option_map (λ n. (length xs - 2) + n) (head_len (drop (length xs - 2) (xs ++ more)))
scanned_before [] more e = shift-zero (head_len more)
scanned_before (a ∷ []) more e = shift-zero (head_len (a ∷ more))
scanned_before (a ∷ b ∷ []) more e = shift-zero (head_len (a ∷ b ∷ more))
scanned_before (a ∷ b ∷ c ∷ rest) more e =
    let test = no_blank a (b ∷ c ∷ rest) e in
    let ys = b ∷ c ∷ (rest ++ more) in
    let k : length (a ∷ b ∷ c ∷ rest) - 2 ≡ suc (length (b ∷ c ∷ rest) - 2) = omega arith in
    rw k (skip_one a ys test
    ∙ ap (option_map (λ n. suc n)) (scanned_before (b ∷ c ∷ rest) more (none_behind a (b ∷ c ∷ rest) e))
    ∙ shift_suc (length (b ∷ c ∷ rest) - 2) (head_len (drop (length (b ∷ c ∷ rest) - 2) ys)))

-- where a head ends at a line, and that none ends in the bytes
pub ruleset head_rules = (head_len-hit, head_len-end)
