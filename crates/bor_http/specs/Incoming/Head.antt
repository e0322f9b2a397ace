-- Where a request's head ends.
use Rattle.std.specs.Prelude.{ℕ, ◌+◌, ◌==◌, ◌&&◌, nat_lt, List, [], ◌∷◌, Option, Some, None}
use Rattle.std.specs.Prelude.{if◌then◌else◌, suc, take, count_by}
use Rattle.std.specs.Option.{option_map}

-- the length of the empty line at the front, or 0 where there is none
abbrev pub blank_len : List ℕ → ℕ
blank_len [] = 0
blank_len (a ∷ []) = if a == 10 then 1 else 0
blank_len (a ∷ b ∷ _) = if a == 10 then 1 else (if a == 13 && b == 10 then 2 else 0)

-- the length of the shortest prefix that ends with a line feed and an empty line
unfoldable pub head_len : List ℕ → Option ℕ
head_len [] = None
head_len (b ∷ rest) =
    if b == 10 && nat_lt 0 (blank_len rest) then Some (1 + blank_len rest)
    else option_map (λ n. suc n) (head_len rest)

-- the head is taken of the first bytes, of at most this many
abbrev pub head_limit : ℕ
head_limit = 16384

-- the length of the head, if one ends within the limit
abbrev pub head_end : List ℕ → Option ℕ
head_end input = head_len (take head_limit input)

-- and it has at most this many line feeds
abbrev pub line_limit : ℕ
line_limit = 66

-- the line feeds of the bytes
abbrev pub line_feeds : List ℕ → ℕ
line_feeds bytes = count_by (λ b. b == 10) bytes
