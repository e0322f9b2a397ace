-- Tests whether two numbers are the same.
use Rattle.std.proofs.Common.{◌≡◌, ℕ, ◌<◌, ◌==◌, true, false, arith}
use Rattle.std.proofs.lemmas.Bool.Decides.{nat_tests}

pub same_number : (n : ℕ) → (n == n) ≡ true
same_number n = grind (arith, nat_tests)

pub other_number : (n m : ℕ) → n < m → (m == n) ≡ false
other_number n m low = grind (arith, nat_tests)

pub before_number : (n m : ℕ) → n < m → (n == m) ≡ false
before_number n m low = grind (arith, nat_tests)
