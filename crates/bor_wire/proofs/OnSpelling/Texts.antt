-- Bytes that are a text, and bytes that are none.
use Rattle.std.proofs.Common.{◌≡◌, ℕ, List, None, Bool, refl}
use Rattle.std.specs.Str.{IsUtf8, is_utf8}
use Rattle.std.specs.Str.Lossy.{utf8_lossy}
use Rattle.std.proofs.lemmas.Bool.{cond-false, cond_both, false_from_ne_true}
use Rattle.std.proofs.lemmas.Str.{IsUtf8-from_is_utf8, is_utf8-from_IsUtf8, utf8_lossy-IsUtf8}
use Rattle.bor_wire.specs.Spelling.Query.{as_text}
use Rattle.bor_wire.specs.Spelling.Parts.{fitting, text_in}

pub text_in-text : (fits : List ℕ → Bool) (bytes : List ℕ) → IsUtf8 bytes → text_in fits bytes ≡ fitting fits bytes
unfolding text_in
text_in-text fits bytes h = rw (is_utf8-from_IsUtf8 bytes h) refl

pub text_in-other : (fits : List ℕ → Bool) (bytes : List ℕ) → ¬ (IsUtf8 bytes) → text_in fits bytes ≡ None
unfolding text_in
text_in-other fits bytes h =
    cond-false (is_utf8 bytes) (fitting fits bytes) None (false_from_ne_true (is_utf8 bytes) (λ e. h (IsUtf8-from_is_utf8 bytes e)))

pub as_text-is : (bytes : List ℕ) → utf8_lossy bytes ≡ as_text bytes
unfolding as_text
as_text-is bytes =
    cond_both (is_utf8 bytes) bytes (utf8_lossy bytes) (λ text. utf8_lossy bytes ≡ text) (λ e. utf8_lossy-IsUtf8 bytes (IsUtf8-from_is_utf8 bytes e)) (λ e. refl)

-- what is read of bytes
pub ruleset texts = (text_in-text, text_in-other, as_text-is)
