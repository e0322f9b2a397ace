-- Texts of a form are UTF-8.
use Rattle.std.proofs.Common.{◌≡◌, ℕ, ◌<◌, ◌&&◌, Bool, List, [], ◌∷◌, true, arith, All, Option, Some, None, IfSome, refl}
use Rattle.std.specs.List.{list_all}
use Rattle.std.specs.Str.{IsUtf8, is_utf8}
use Rattle.std.proofs.lemmas.Bool.{and_parts}
use Rattle.std.proofs.lemmas.Bool.Decides.{nat_tests}
use Rattle.std.proofs.lemmas.List.Elements.{All-nil, All-cons}
use Rattle.std.proofs.lemmas.Str.{IsUtf8-from_ascii, IsUtf8-from_is_utf8}
use Rattle.std.proofs.lemmas.Str.Ascii.{IsAscii-from_all}
use Rattle.bods_read.specs.Forms.{IsFreeText, IsIdent}
use Rattle.bor_terms.specs.Texts.{is_agent_name, is_lodge_key, is_token, is_ident, is_name_byte, is_key_byte, is_visible_byte, is_printed, has_length}

all_below : (p : ℕ → Bool) → ((b : ℕ) → p b ≡ true → b < 128) → (t : List ℕ) → list_all p t ≡ true → All (λ b. b < 128) t
all_below p small [] h = All-nil (λ b. b < 128)
all_below p small (b ∷ t) h = All-cons (λ c. c < 128) b t (small b (and_parts _ _ h).0) (all_below p small t (and_parts _ _ h).1)

ascii_utf8 : (p : ℕ → Bool) → ((b : ℕ) → p b ≡ true → b < 128) → (t : List ℕ) → list_all p t ≡ true → IsUtf8 t
ascii_utf8 p small t h = IsUtf8-from_ascii t (IsAscii-from_all t (all_below p small t h))

name_byte_small : (b : ℕ) → is_name_byte b ≡ true → b < 128
name_byte_small b h = grind (arith, nat_tests)

key_byte_small : (b : ℕ) → is_key_byte b ≡ true → b < 128
key_byte_small b h = grind (arith, nat_tests)

visible_small : (b : ℕ) → is_visible_byte b ≡ true → b < 128
visible_small b h = grind (arith, nat_tests)

pub name_utf8 : (t : List ℕ) → is_agent_name t ≡ true → IsUtf8 t
unfolding is_agent_name
name_utf8 t h = ascii_utf8 is_name_byte name_byte_small t (and_parts (has_length 1 32 t) (list_all is_name_byte t) h).1

pub key_utf8 : (t : List ℕ) → is_lodge_key t ≡ true → IsUtf8 t
unfolding is_lodge_key
key_utf8 t h = ascii_utf8 is_key_byte key_byte_small t (and_parts (has_length 1 64 t) (list_all is_key_byte t) h).1

pub token_utf8 : (t : List ℕ) → is_token t ≡ true → IsUtf8 t
unfolding is_token
token_utf8 t h = ascii_utf8 is_visible_byte visible_small t (and_parts (has_length 16 64 t) (list_all is_visible_byte t) h).1

pub ident_utf8 : (t : List ℕ) → is_ident t ≡ true → IsUtf8 t
unfolding is_ident
ident_utf8 t h = IsUtf8-from_is_utf8 t (and_parts (has_length 1 255 t && list_all is_printed t) (is_utf8 t) h).1

pub free_utf8 : (t : List ℕ) → is_utf8 t ≡ true → IsUtf8 t
free_utf8 t h = IsUtf8-from_is_utf8 t h

-- ---- texts that may be missing

pub ident_if_any : (o : Option (List ℕ)) → IfSome o IsIdent → IfSome o (λ t. IsUtf8 t × (is_ident t ≡ true))
ident_if_any None h = h
ident_if_any (Some t) h = (ident_utf8 t h, h)

pub free_if_any : (o : Option (List ℕ)) → IfSome o IsFreeText → IfSome o (λ t. IsUtf8 t × (true ≡ true))
free_if_any None h = h
free_if_any (Some t) h = (free_utf8 t h, refl)
