-- The path that a text is by its segments is the one that it is as it stands, and so the one that is found.
use Rattle.std.proofs.Common.{◌≡◌, ℕ, List, [], ◌∷◌, ◌++◌, length, Option, Some, None, Bool, true, false, cond, not, ◌==◌, codes, refl, sym, ap, ◌∙◌, subst, nat_lt}
use Rattle.std.specs.Prelude.{All, IsUtf8, find, if◌then◌else◌}
use Rattle.std.specs.List.{AllByRecursion, list_any, list_all, onto_first, join_with_byte}
use Rattle.std.specs.Option.{option_map}
use Rattle.std.specs.Str.{bytes_eq}
use Rattle.std.specs.Cmp.Lexicographic.{pointwise}
use Rattle.std.proofs.lemmas.Bool.{and_parts, lt-ltb, ltb-true, not-true, or_parts}
use Rattle.std.proofs.lemmas.List.Elements.{All-from_recursion}
use Rattle.std.proofs.lemmas.List.Splits.{join_with_byte-slice_split, slice_split_at, slice_split_none}
use Rattle.std.proofs.lemmas.Option.{none-some, same_Some}
use Rattle.std.proofs.lemmas.Slice.Eq.{bytes_eq-Decides}
use Rattle.bor_http.specs.declared.incoming.fault.Path.{Path}
use Rattle.bor_http.specs.declared.incoming.fault.Path.TheVariants as paths
use Rattle.bor_http.specs.Incoming.Words.{path_word}
use Rattle.bor_http.specs.declared.routes.route.Route.{Route}
use Rattle.bor_http.specs.Routes.Routes.{every_route, route_line}
use Rattle.bor_http.specs.Routes.Paths.{segments, is_segment_word, stands_for, is_written_as, path_of, IsSegment, IsPath}
use Rattle.bor_http.specs.Routes.Routers.{router, path_in}
use Rattle.bor_http.proofs.OnRoutes.AsWritten.{is_found, is_path}
use Rattle.bor_http.proofs.OnRoutes.Utf8Bytes.{text_bytes}

-- ---- the segments of a text

abbrev has_slash : List ℕ → Bool
has_slash bytes = list_any (λ b. b == 47) bytes

no_slashes : (key : List ℕ) → has_slash key ≡ false → AllByRecursion (λ b. (b == 47) ≡ false) key
no_slashes [] h = tt
no_slashes (b ∷ key) h = let two = or_parts (b == 47) (has_slash key) h in (two.0, no_slashes key two.1)

each_other : (key : List ℕ) → has_slash key ≡ false → All (λ b. (b == 47) ≡ false) key
each_other key h = All-from_recursion (λ b. (b == 47) ≡ false) key (no_slashes key h)

one_segment : (key : List ℕ) → has_slash key ≡ false → segments key ≡ key ∷ []
one_segment key h = slice_split_none (λ b. b == 47) key (each_other key h)

first_segment : (key rest : List ℕ) → has_slash key ≡ false → segments (key ++ 47 ∷ rest) ≡ key ∷ segments rest
first_segment key rest h = slice_split_at (λ b. b == 47) key 47 rest (each_other key h) refl

abbrev lack_slashes : List (List ℕ) → Bool
lack_slashes parts = list_all (λ part. not (has_slash part)) parts

segments_lack : (text : List ℕ) → lack_slashes (segments text) ≡ true
segments_lack [] = refl
segments_lack (b ∷ text) = by_byte (b == 47) refl (segments text) (segments_lack text)
  where
    by_byte : (t : Bool) → (b == 47) ≡ t → (parts : List (List ℕ)) → lack_slashes parts ≡ true → lack_slashes (cond t ([] ∷ parts) (onto_first b parts)) ≡ true
    by_byte true e parts h = h
    by_byte false e [] h = rw e refl
    by_byte false e (part ∷ parts) h = rw e h

-- ---- segments that stand for the words of a path

-- for a key or a name, or for another word
abbrev IsFor : Bool → List ℕ → List ℕ → Type 0
IsFor true part word = IsSegment part
IsFor false part word = part ≡ word

abbrev AreFor : List (List ℕ) → List (List ℕ) → Type 0
AreFor parts [] = parts ≡ []
AreFor parts (word ∷ words) = (part : List ℕ) × (rest : List (List ℕ)) × (parts ≡ part ∷ rest) × IsFor (is_segment_word word) part word × AreFor rest words

is_for : (is_key : Bool) (part word : List ℕ) → not (has_slash part) ≡ true → (if is_key then nat_lt 0 (length part) else bytes_eq part word) ≡ true → IsFor is_key part word
is_for true part word lacks h = record { some = ltb-true 0 (length part) h; one = not-true (has_slash part) lacks }
is_for false part word lacks h = (bytes_eq-Decides part word).0 h

are_for : (parts words : List (List ℕ)) → lack_slashes parts ≡ true → pointwise stands_for parts words ≡ true → AreFor parts words
are_for [] [] lack h = refl
are_for [] (word ∷ words) lack h = absurd cc
are_for (part ∷ parts) [] lack h = absurd cc
are_for (part ∷ parts) (word ∷ words) lack h =
    let lacks = and_parts (not (has_slash part)) (lack_slashes parts) lack in
    let stands = and_parts (stands_for part word) (pointwise stands_for parts words) h in
    (part, parts, refl, is_for (is_segment_word word) part word lacks.0 stands.0, are_for parts words lacks.1 stands.1)

-- ---- a text that is written as a path is that path

abbrev AreWordsOf : List ℕ → Path → Type 0
AreWordsOf text path = AreFor (segments text) (segments (path_word path))

words_of : (text : List ℕ) (path : Path) → is_written_as text path ≡ true → AreWordsOf text path
words_of text path h = are_for (segments text) (segments (path_word path)) (segments_lack text) h

joined : (text : List ℕ) (parts : List (List ℕ)) → segments text ≡ parts → text ≡ join_with_byte 47 parts
joined text parts e = sym (join_with_byte-slice_split 47 text) ∙ ap (join_with_byte 47) e

is_the_path : (path : Path) (text : List ℕ) → is_written_as text path ≡ true → IsPath path text
is_the_path paths.Filing text h =
    let are : AreWordsOf text paths.Filing = words_of text paths.Filing h in
    let key = are.4.4 in
    (key.0, key.3, joined text ([] ∷ codes "filings" ∷ key.0 ∷ []) cc)
is_the_path paths.File text h =
    let are : AreWordsOf text paths.File = words_of text paths.File h in
    let key = are.4.4 in
    (key.0, key.3, joined text ([] ∷ codes "filings" ∷ key.0 ∷ codes "file" ∷ []) cc)
is_the_path paths.Agent text h =
    let are : AreWordsOf text paths.Agent = words_of text paths.Agent h in
    let name = are.4.4 in
    (name.0, name.3, joined text ([] ∷ codes "agents" ∷ name.0 ∷ []) cc)
is_the_path path text h = let are : AreWordsOf text path = words_of text path h in joined text (segments (path_word path)) cc

-- the route that is found has the path
written_so : (routes : List Route) (text : List ℕ) (path : Path) → option_map (λ route. (route_line route).path) (find (λ route. is_written_as text (route_line route).path) routes) ≡ Some path
    → is_written_as text path ≡ true
written_so [] text path e = cc
written_so (route ∷ routes) text path e = by_test (is_written_as text (route_line route).path) refl e (written_so routes text path)
  where
    by_test : (t : Bool) → is_written_as text (route_line route).path ≡ t
        → option_map (λ route. (route_line route).path) (cond t (Some route) (find (λ route. is_written_as text (route_line route).path) routes)) ≡ Some path
        → (option_map (λ route. (route_line route).path) (find (λ route. is_written_as text (route_line route).path) routes) ≡ Some path → is_written_as text path ≡ true)
        → is_written_as text path ≡ true
    by_test true is e more = subst (λ p. is_written_as text p ≡ true) (same_Some (route_line route).path path e) is
    by_test false is e more = more e

said_path : (path : Path) (text : List ℕ) → path_of text ≡ Some path → IsPath path text
unfolding path_of
said_path path text e = is_the_path path text (written_so every_route text path e)

-- ---- a path is the one of its segments

abbrev path_by : List (List ℕ) → Option Path
path_by parts = option_map (λ route. (route_line route).path) (find (λ route. pointwise stands_for parts (segments (path_word (route_line route).path))) every_route)

abbrev behind : List ℕ → List ℕ → List (List ℕ) → List (List ℕ)
behind front key rest = [] ∷ front ∷ key ∷ rest

filing_by : (key : List ℕ) → nat_lt 0 (length key) ≡ true → path_by (behind (codes "filings") key []) ≡ Some paths.Filing
filing_by key some = rw some refl

file_by : (key : List ℕ) → nat_lt 0 (length key) ≡ true → path_by (behind (codes "filings") key (codes "file" ∷ [])) ≡ Some paths.File
file_by key some = simp some

agent_by : (name : List ℕ) → nat_lt 0 (length name) ≡ true → path_by (behind (codes "agents") name []) ≡ Some paths.Agent
agent_by name some = rw some refl

path_said : (path : Path) (text : List ℕ) → IsPath path text → path_of text ≡ Some path
unfolding path_of
path_said paths.Filing text (key, segment, is) =
    let parts : segments (codes "/filings/" ++ key) ≡ behind (codes "filings") key [] = ap (λ ps. [] ∷ codes "filings" ∷ ps) (one_segment key segment.one) in
    ap path_by (ap segments is ∙ parts) ∙ filing_by key (lt-ltb 0 (length key) segment.some)
path_said paths.File text (key, segment, is) =
    let parts : segments (codes "/filings/" ++ key ++ codes "/file") ≡ behind (codes "filings") key (codes "file" ∷ []) =
    ap (λ ps. [] ∷ codes "filings" ∷ ps) (first_segment key (codes "file") segment.one) in
    ap path_by (ap segments is ∙ parts) ∙ file_by key (lt-ltb 0 (length key) segment.some)
path_said paths.Agent text (name, segment, is) =
    let parts : segments (codes "/agents/" ++ name) ≡ behind (codes "agents") name [] = ap (λ ps. [] ∷ codes "agents" ∷ ps) (one_segment name segment.one) in
    ap path_by (ap segments is ∙ parts) ∙ agent_by name (lt-ltb 0 (length name) segment.some)
path_said path text is = ap path_of is

-- ---- what is found

agree : (text : List ℕ) → IsUtf8 text → path_in router text ≡ path_of text
agree text h = by_found (path_in router text) refl
  where
    by_said : (said : Option Path) → path_of text ≡ said → path_in router text ≡ None → None ≡ path_of text
    by_said None said none = sym said
    by_said (Some path) said none = absurd (none-some path (sym none ∙ is_found path text (text_bytes text h) (said_path path text said)))

    by_found : (found : Option Path) → path_in router text ≡ found → found ≡ path_of text
    by_found None none = by_said (path_of text) refl none
    by_found (Some path) some = sym (path_said path text (is_path path text (text_bytes text h) some))

pub value : (text : List ℕ) → IsUtf8 text → (found : Option Path) → found ≡ path_in router text → found ≡ path_of text
value text h found is = is ∙ agree text h
