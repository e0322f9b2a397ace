-- The parts of what a request asks. Each is None where the request lacks it, or it isn't of its
-- form.
use Rattle.std.specs.Prelude.{ℕ, ℤ, ◌==◌, Bool, List, [], ◌∷◌, take, drop, map, Option, Some, None}
use Rattle.std.specs.Prelude.{option_and_then, option_map, if◌then◌else◌, codes}
use Rattle.std.specs.Char.{to_ascii_lowercase}
use Rattle.std.specs.Str.{bytes_eq, is_utf8}
use Rattle.bor_terms.specs.Texts.{is_agent_name, is_lodge_key, is_ident, is_token}
use Rattle.bor_terms.specs.Day.{day_of}
use Rattle.bor_http.specs.declared.incoming.fault.Path.{Path}
use Rattle.bor_http.specs.declared.incoming.fault.Name.{Name}
use Rattle.bor_http.specs.declared.incoming.fault.Name.TheVariants as names
use Rattle.bor_http.specs.Incoming.Splitting.{before_byte, behind_byte}
use Rattle.bor_http.specs.Incoming.Words.{name_word}
use Rattle.bor_http.specs.Incoming.Message.{Message, FieldText, only_value}
use Rattle.bor_http.specs.declared.routes.route.Route.{Route}
use Rattle.bor_http.specs.Routes.Routes.{route_at}
use Rattle.bor_http.specs.Routes.Paths.{path_spelled}
use Rattle.bor_wire.specs.Spelling.Query.{TextPair, pairs_of, how_often, only_text}

-- a text that fits
abbrev pub fitting : (List ℕ → Bool) → List ℕ → Option (List ℕ)
fitting fits text = if fits text then Some text else None

-- bytes that are a text in UTF-8, and fit
unfoldable pub text_in : (List ℕ → Bool) → List ℕ → Option (List ℕ)
text_in fits bytes = if is_utf8 bytes then fitting fits bytes else None

-- ---- the target: what stands before its first question mark, and behind it

abbrev pub path_text : Message → List ℕ
path_text m = before_byte 63 m.parts.target

abbrev pub query : Message → List TextPair
query m = pairs_of (behind_byte 63 m.parts.target)

-- the path, as it stands in the target
abbrev pub path : Message → Option Path
path m = path_spelled (path_text m)

-- the request of the path by the method
abbrev pub route : Message → Option Route
route m = option_and_then (λ p. route_at p m.parts.method) (path m)

-- ---- the token of whoever asks

-- the bytes from the first that is no space
abbrev pub skip_spaces : List ℕ → List ℕ
skip_spaces [] = []
skip_spaces (b ∷ bytes) = if b == 32 then skip_spaces bytes else b ∷ bytes

-- "Bearer" in any case, one or more spaces, a token (RFC 6750, 2.1)
unfoldable pub bearer_token : List ℕ → Option (List ℕ)
bearer_token value =
    if bytes_eq (map to_ascii_lowercase (take 7 value)) (codes "bearer ")
    then text_in is_token (skip_spaces (drop 7 value))
    else None

-- the token of the one field of that name
unfoldable pub token : List FieldText → Option (List ℕ)
token fields = option_and_then bearer_token (only_value (codes "authorization") fields)

-- ---- the names that routes ask for

-- the value of the name, where it occurs once in the query
unfoldable pub once : {A : Type 0} → (List ℕ → Option A) → Name → List TextPair → Option A
once read name pairs = option_and_then read (only_text (name_word name) pairs)

-- the value of a name that may be missing
unfoldable pub at_most_once : {A : Type 0} → (List ℕ → Option A) → Name → List TextPair
    → Option (Option A)
at_most_once read name pairs =
    if how_often (name_word name) pairs == 0 then Some None
    else option_map Some (once read name pairs)

-- the key: the segment of the path behind "/filings/"
unfoldable pub key_in : List ℕ → Option (List ℕ)
key_in path = text_in is_lodge_key (before_byte 47 (drop 9 path))

abbrev pub key : Message → Option (List ℕ)
key m = key_in (path_text m)

abbrev pub due : Message → Option ℤ
due m = once day_of names.Due (query m)

abbrev pub agent : Message → Option (List ℕ)
agent m = once (fitting is_agent_name) names.Agent (query m)

abbrev pub declaration : Message → Option (List ℕ)
declaration m = once (fitting is_ident) names.Declaration (query m)

abbrev pub rec : Message → Option (List ℕ)
rec m = once (fitting is_ident) names.Record (query m)

abbrev pub scheme : Message → Option (List ℕ)
scheme m = once (fitting is_ident) names.Scheme (query m)

abbrev pub id : Message → Option (List ℕ)
id m = once (fitting is_ident) names.Id (query m)

abbrev pub date : Message → Option ℤ
date m = once day_of names.Date (query m)

abbrev pub date_or_none : Message → Option (Option ℤ)
date_or_none m = at_most_once day_of names.Date (query m)

abbrev pub new_name : Message → Option (List ℕ)
new_name m = once (fitting is_agent_name) names.Name (query m)

-- the name: the segment of the path behind "/agents/"
unfoldable pub name_in : List ℕ → Option (List ℕ)
name_in path = text_in is_agent_name (drop 8 path)

abbrev pub name : Message → Option (List ℕ)
name m = name_in (path_text m)

-- the token that an agent gets: the whole body, as it stands
abbrev pub new_token : Message → Option (List ℕ)
new_token m = text_in is_token m.body
