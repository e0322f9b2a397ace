-- The names and values of a query (URL Standard, application/x-www-form-urlencoded).
use Rattle.std.specs.Prelude.{ℕ, Bool, List, map, find, count_by, Option, None, ◌==◌, if◌then◌else◌}
use Rattle.std.specs.Option.{option_map}
use Rattle.std.specs.Str.{bytes_eq, is_utf8}
use Rattle.std.specs.Cow.{cow_str_bytes}
use Rattle.std.specs.Str.Lossy.{utf8_lossy}
use Rattle.form_urlencoded.specs.Form.{raw_pairs, decode}
use Rattle.bor_wire.specs.declared.spelling.query.QueryPair.{QueryPair}

-- a name and its value
abbrev pub TextPair : Type 0
TextPair = List ℕ × List ℕ

-- bytes as a text: as they stand where they are UTF-8, else with U+FFFD for what isn't
unfoldable pub as_text : List ℕ → List ℕ
as_text bytes = if is_utf8 bytes then bytes else utf8_lossy bytes

-- the name and the value of a pair: percent signs and plus signs are decoded
abbrev pub decoded : TextPair → TextPair
decoded pair = (as_text (decode pair.0), as_text (decode pair.1))

-- the pairs of a query
abbrev pub pairs_of : List ℕ → List TextPair
pairs_of query = map decoded (raw_pairs query)

-- a pair that was read, without where it lies
abbrev pub pair_text : QueryPair → TextPair
pair_text pair = (cow_str_bytes pair.name, cow_str_bytes pair.value)

abbrev pub pair_texts : List QueryPair → List TextPair
pair_texts pairs = map pair_text pairs

-- the pair has this name
abbrev pub is_for : List ℕ → TextPair → Bool
is_for name pair = bytes_eq pair.0 name

-- how often the name occurs
abbrev pub how_often : List ℕ → List TextPair → ℕ
how_often name pairs = count_by (is_for name) pairs

abbrev pub first_text : List ℕ → List TextPair → Option (List ℕ)
first_text name pairs = option_map (λ pair. pair.1) (find (is_for name) pairs)

-- the value of the one pair that has the name, if there is exactly one
abbrev pub only_text : List ℕ → List TextPair → Option (List ℕ)
only_text name pairs = if how_often name pairs == 1 then first_text name pairs else None
