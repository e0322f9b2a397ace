-- Laws of two texts: when they are the same, and which of them is below.
use Rattle.std.proofs.Common.{◌≡◌, ℕ, List, true, false, ◌∙◌, sym, ap, true≢false, arith}
use Rattle.std.specs.Ordering.{is_lt}
use Rattle.std.proofs.lemmas.Slice.Eq.{bytes_eq-Decides}
use Rattle.std.proofs.lemmas.Bool.{false_from_ne_true}
use Rattle.std.proofs.lemmas.Cmp.{nat_list_cmp_total, nat_list_eq_equiv, tied_itself}
use Rattle.std.proofs.lemmas.Map.Lookups.{exact_bytes}
use Rattle.std.proofs.lemmas.Str.{is_utf8-from_IsUtf8}
use Rattle.bor_terms.specs.Texts.{is_same, is_below}

pub same_is : (a b : List ℕ) → is_same a b ≡ true → a ≡ b
same_is a b h = (bytes_eq-Decides a b).0 h

pub same_refl : (a : List ℕ) → is_same a a ≡ true
same_refl a = nat_list_eq_equiv.refl a

pub same_sym : (a b : List ℕ) → is_same a b ≡ is_same b a
same_sym a b = nat_list_eq_equiv.symm a b

pub is_same-of : (a b : List ℕ) → a ≡ b → is_same a b ≡ true
is_same-of a b h = (bytes_eq-Decides a b).1 h

pub below_trans : (a b c : List ℕ) → is_below a b ≡ true → is_below b c ≡ true → is_below a c ≡ true
below_trans a b c h k = grind (arith, nat_list_cmp_total.trans a b c)

-- of two different texts one is below the other
pub above : (a b : List ℕ) → is_below a b ≡ false → is_same a b ≡ false → is_below b a ≡ true
above a b h n = grind (arith, nat_list_cmp_total.antisymm b a, exact_bytes a b, is_same-of a b)

pub below_irrefl : (a : List ℕ) → is_below a a ≡ false
below_irrefl a = ap is_lt (tied_itself nat_list_cmp_total a)

-- a text that is below another isn't the same
pub below_differs : (a b : List ℕ) → is_below a b ≡ true → is_same a b ≡ false
below_differs a b h = false_from_ne_true (is_same a b) (λ same. true≢false (sym h ∙ ap (is_below a) (sym (same_is a b same)) ∙ below_irrefl a))

-- a text is UTF-8
pub ruleset text_rules = (is_utf8-from_IsUtf8)
