-- The path that a text is, by the segments between its slashes.
use Rattle.std.specs.Prelude.{◌≡◌, ◌<◌, ◌==◌, ℕ, nat_lt, Bool, List, length, false, find, Option}
use Rattle.std.specs.Prelude.{None, ◌++◌, ◌||◌, codes, if◌then◌else◌}
use Rattle.std.specs.List.{list_any, slice_split}
use Rattle.std.specs.Option.{option_map}
use Rattle.std.specs.Str.{bytes_eq, is_utf8}
use Rattle.std.specs.Cmp.Lexicographic.{pointwise}
use Rattle.bor_http.specs.declared.incoming.fault.Path.{Path}
use Rattle.bor_http.specs.declared.incoming.fault.Path.TheVariants as paths
use Rattle.bor_http.specs.Incoming.Words.{path_word}
use Rattle.bor_http.specs.Routes.Routes.{every_route, route_line}

-- the segments of a text: what stands before, between and behind its slashes
abbrev pub segments : List ℕ → List (List ℕ)
segments text = slice_split (λ b. b == 47) text

-- whether a word of a path stands for a segment of the text
abbrev pub is_segment_word : List ℕ → Bool
is_segment_word word = bytes_eq word (codes "{key}") || bytes_eq word (codes "{name}")

-- a segment stands for a word of a path: any that isn't empty for {key} or {name}, and for another
-- word itself; nothing is decoded
abbrev pub stands_for : List ℕ → List ℕ → Bool
stands_for segment word =
    if is_segment_word word then nat_lt 0 (length segment) else bytes_eq segment word

-- there are as many segments as words, and each stands for its word
abbrev pub is_written_as : List ℕ → Path → Bool
is_written_as text path = pointwise stands_for (segments text) (segments (path_word path))

-- the path that a text is, if the table has it
unfoldable pub path_of : List ℕ → Option Path
path_of text =
    option_map (λ route. (route_line route).path)
    (find (λ route. is_written_as text (route_line route).path) every_route)

-- the path that bytes are, where they are a text in UTF-8
unfoldable pub path_spelled : List ℕ → Option Path
path_spelled bytes = if is_utf8 bytes then path_of bytes else None

-- ---- each path, as it is written

-- one segment that isn't empty
pub record IsSegment (key : List ℕ) : Type 0 where
  pub some : 0 < length key
  pub one : list_any (λ b. b == 47) key ≡ false

-- The text is the path as it is written, with a segment in the place of {key} or {name}. Nothing is
-- decoded.
abbrev pub IsPath : Path → List ℕ → Type 0
IsPath paths.Filing text = (key : List ℕ) × IsSegment key × (text ≡ codes "/filings/" ++ key)
IsPath paths.File text =
    (key : List ℕ) × IsSegment key × (text ≡ codes "/filings/" ++ key ++ codes "/file")
IsPath paths.Agent text = (name : List ℕ) × IsSegment name × (text ≡ codes "/agents/" ++ name)
IsPath path text = text ≡ path_word path
