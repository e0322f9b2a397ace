use Rattle.std.proofs.Common.{◌≡◌, List, ℕ, ℤ, Result, Ok, Err, IfOk, String, string_bytes, subst, sym}
use Rattle.std.specs.Prelude.{IsUtf8}
use Rattle.std.proofs.lemmas.Str.{IsUtf8-from_ascii}
use Rattle.bor_terms.specs.Day.{IsSpelling}
use Rattle.bor_terms.proofs.Spelling.{spelling_ascii}
use Rattle.bor_desk.proofs.report.day_text.Goals as goal

-- the text of a spelling is that spelling
spelled : {Z E : Type 0} (day : ℤ) (bytes : List ℕ) (made : Result (String Z) E) → IsSpelling day bytes → IfOk made (λ text. IsUtf8 bytes → string_bytes text ≡ bytes) → IfOk made (λ text. IsSpelling day (string_bytes text))
spelled day bytes (Ok text) spelling same = subst (λ (bs : List ℕ). IsSpelling day bs) (sym (same (IsUtf8-from_ascii bytes (spelling_ascii bytes day spelling)))) spelling
spelled day bytes (Err e) spelling same = tt

pub returns : goal.returns
returns c = spelled c.args.day c.as_slice.result.now c.from_utf8_lossy.result (subst (λ (bs : List ℕ). IsSpelling c.args.day bs) (sym c.as_slice.ensures) c.text.ensures.spelling) c.from_utf8_lossy.ensures.ok
