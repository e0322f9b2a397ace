-- The sum of several writes.
use Rattle.std.proofs.Common.{◌≡◌, ◌+◌, ◌-◌, ℕ, List, length, take, drop, Option, sym, ap, ◌∙◌, subst, arith, length-drop, cond, ◌==◌, ◌&&◌, nat_lt, false}
use Rattle.bor_http.specs.Incoming.Counted.{after_fault}
use Rattle.std.specs.Io.KnownBytes.{Appends}
use Rattle.std.proofs.KnownBytes.{Appends-trans}
use Rattle.std.proofs.lemmas.Bool.Decides.{nat_tests}
use Rattle.std.proofs.lemmas.List.{take_rest}
use Rattle.std.proofs.Math.Seq.{take-add}

pub appends_more : (a b c : Option (List ℕ)) (bytes : List ℕ) (at n : ℕ) → Appends a b (take at bytes)
    → Appends b c (take n (take (length bytes - at) (drop at bytes))) → Appends a c (take (at + n) bytes)
appends_more a b c bytes at n p q =
    let second : Appends b c (take n (drop at bytes)) = subst (λ l. Appends b c (take n l)) (take_rest bytes at) q in
    subst (Appends a c) (sym (take-add at n bytes)) (Appends-trans a b c (take at bytes) (take n (drop at bytes)) p second)

pub to_end_length : (bytes : List ℕ) (at : ℕ) → length (take (length bytes - at) (drop at bytes)) ≡ length bytes - at
to_end_length bytes at = ap length (take_rest bytes at) ∙ length-drop at bytes

-- a write that took something is no fault
pub counts_nothing : (n len old new : ℕ) → (n ≡ 0 → ⊥) → new ≡ cond ((n == 0) && nat_lt 0 len) (after_fault old) old → new ≡ old
counts_nothing n len old new h e =
    let no : (n == 0) ≡ false = grind (arith, nat_tests) in
    e ∙ ap (λ t. cond (t && nat_lt 0 len) (after_fault old) old) no
