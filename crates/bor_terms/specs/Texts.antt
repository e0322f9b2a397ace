-- The four texts of the register (this register's profile): which bytes each may have and how many,
-- and how two texts compare.
use Rattle.std.specs.Prelude.{ℕ, ◌<◌, List, length, slice_index, Bool, not, ◌&&◌, ◌||◌, ◌==◌}
use Rattle.std.specs.Prelude.{nat_le, nat_lt, min, ◌%◌, [], ◌∷◌}
use Rattle.std.specs.List.{list_all}
use Rattle.std.specs.Int.{w64, from_be_bytes}
use Rattle.std.specs.Str.{bytes_eq, is_utf8}
use Rattle.std.specs.Ordering.{nat_cmp, is_lt}
use Rattle.std.specs.Cmp.Lexicographic.{slice_cmp}

-- at least and at most so many bytes
abbrev pub has_length : ℕ → ℕ → List ℕ → Bool
has_length least most bytes = nat_le least (length bytes) && nat_le (length bytes) most

abbrev pub is_within : ℕ → ℕ → ℕ → Bool
is_within first last b = nat_le first b && nat_le b last

abbrev pub is_digit : ℕ → Bool
is_digit b = is_within 48 57 b

abbrev pub is_small_letter : ℕ → Bool
is_small_letter b = is_within 97 122 b

abbrev pub is_capital_letter : ℕ → Bool
is_capital_letter b = is_within 65 90 b

-- a small letter, a digit or a hyphen
abbrev pub is_name_byte : ℕ → Bool
is_name_byte b = is_small_letter b || is_digit b || b == 45

-- a letter, a digit, a point, an underscore or a hyphen
abbrev pub is_key_byte : ℕ → Bool
is_key_byte b =
    is_capital_letter b || is_small_letter b || is_digit b || b == 46 || b == 95 || b == 45

-- part of no control character of ASCII: none below 0x20, and not 0x7F; from 0x80 on it is part of
-- a character of UTF-8
abbrev pub is_printed : ℕ → Bool
is_printed b = nat_le 32 b && not (b == 127)

-- a visible character of ASCII: 0x21 to 0x7E
abbrev pub is_visible_byte : ℕ → Bool
is_visible_byte b = is_within 33 126 b

-- the name of an agent
unfoldable pub is_agent_name : List ℕ → Bool
is_agent_name bytes = has_length 1 32 bytes && list_all is_name_byte bytes

-- the key that an agent gives a filing
unfoldable pub is_lodge_key : List ℕ → Bool
is_lodge_key bytes = has_length 1 64 bytes && list_all is_key_byte bytes

-- an identifier of BODS: of a statement, a record or a declaration; it is UTF-8
unfoldable pub is_ident : List ℕ → Bool
is_ident bytes = has_length 1 255 bytes && list_all is_printed bytes && is_utf8 bytes

-- the token by which a caller is known
unfoldable pub is_token : List ℕ → Bool
is_token bytes = has_length 16 64 bytes && list_all is_visible_byte bytes

-- each byte is below 256
abbrev pub AreBytes : List ℕ → Type 0
AreBytes bytes = (k : ℕ) → slice_index bytes k < 256

-- the first eight bytes as a number, the first of them the highest; a byte that is missing is 0
unfoldable pub front_of : List ℕ → ℕ
front_of bytes = from_be_bytes w64 bytes

-- how many bytes a text has, or 16 where they are more than fifteen
abbrev pub short_length : List ℕ → ℕ
short_length bytes = min (length bytes) 16

-- the next seven bytes, and then the length, as one number
unfoldable pub back_of : List ℕ → ℕ
back_of bytes = from_be_bytes w64 (
    slice_index bytes 8 ∷ slice_index bytes 9 ∷ slice_index bytes 10 ∷ slice_index bytes 11
    ∷ slice_index bytes 12 ∷ slice_index bytes 13 ∷ slice_index bytes 14 ∷ short_length bytes ∷ [])

-- a text of at most fifteen bytes, which its front and its back tell whole
abbrev pub is_short : ℕ → Bool
is_short back = nat_lt (back % 256) 16

-- two texts are the same where their bytes are
abbrev pub is_same : List ℕ → List ℕ → Bool
is_same a b = bytes_eq a b

-- texts are ordered by their bytes
abbrev pub is_below : List ℕ → List ℕ → Bool
is_below a b = is_lt (slice_cmp nat_cmp a b)
