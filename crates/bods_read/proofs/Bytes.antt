-- The value of bytes.
use Rattle.std.proofs.Common.{◌≡◌, ℕ, List, Some, None, Err, refl, sym, ap, ◌∙◌}
use Rattle.std.specs.Str.{IsUtf8, is_utf8}
use Rattle.std.proofs.lemmas.Bool.{cond_both}
use Rattle.std.proofs.lemmas.Str.{IsUtf8-from_is_utf8, is_utf8-from_IsUtf8}
use Rattle.serde_json.specs.Data.{Data}
use Rattle.serde_json.specs.Read.{read}
use Rattle.bods_read.specs.declared.fault.ReadFault.{ReadFault}
use Rattle.bods_read.specs.declared.fault.ReadFault.TheVariants.{File, Memory}
use Rattle.bods_read.specs.File.{value_of, reading_in, reading, IsNoValue, IsUnread}

pub value_of-read : (bytes : List ℕ) (d : Data) → IsUtf8 bytes × (read bytes ≡ Some d) → value_of bytes ≡ Some d
unfolding value_of
value_of-read bytes d h = rw (is_utf8-from_IsUtf8 bytes h.0) h.1

pub value_of-unread : (bytes : List ℕ) → (IsUtf8 bytes → read bytes ≡ None) → value_of bytes ≡ None
unfolding value_of
value_of-unread bytes h = cond_both (is_utf8 bytes) (read bytes) None (λ o. o ≡ None) (λ e. h (IsUtf8-from_is_utf8 bytes e)) (λ e. refl)

-- why bytes have no value is why they are not read
pub unread-no_value : (bytes : List ℕ) (wanting : Type 0) (why : ReadFault) → IsNoValue wanting why → (¬ wanting → value_of bytes ≡ None) → IsUnread why (reading bytes)
unfolding reading
unread-no_value bytes wanting (File fault) h none = ap reading_in (none h.0) ∙ ap (λ f. Err f) (sym h.1)
unread-no_value bytes wanting Memory h none = tt
