-- The path that is found for a text is the one that it is as it stands.
use Rattle.std.proofs.Common.{◌≡◌, ℕ, inl, inr, List, [], ◌∷◌, ◌++◌, length, drop, get_or, map, nat_eq, Option, Some, None, Bool, true, false, codes, refl, sym, ap, ◌∙◌, subst, arith, append-nil, append_assoc, ◌↔◌}
use Rattle.std.specs.Prelude.{IsUtf8, ⊤, if◌then◌else◌}
use Rattle.std.specs.List.{starts_with}
use Rattle.std.specs.Option.{is_none, option_map}
use Rattle.std.proofs.lemmas.Bool.Decides.{Decides-eqb}
use Rattle.std.proofs.lemmas.Option.{none-some, same_Some}
use Rattle.std.proofs.lemmas.Slice.Eq.{starts_is}
use Rattle.matchit.specs.Level.{IsText}
use Rattle.matchit.specs.Rows.{Rows, RowsOf}
use Rattle.matchit.specs.Route.{parse_route}
use Rattle.matchit.specs.Router.{RouteOf, map_key, rename}
use Rattle.matchit.specs.Seek.{first, has_slash}
use Rattle.matchit.proofs.OnLiterals.{matchit_on_literals}
use Rattle.matchit.proofs.RenameLemmas.{first-rename}
use Rattle.matchit.proofs.SeekLemmas.{seek-empty}
use Rattle.bor_http.specs.declared.incoming.fault.Path.{Path}
use Rattle.bor_http.specs.declared.incoming.fault.Path.TheVariants as paths
use Rattle.bor_http.specs.declared.routes.route.Route.TheVariants.{Lodge}
use Rattle.bor_http.specs.Incoming.Words.{path_word}
use Rattle.bor_http.specs.Routes.Paths.{IsSegment, IsPath}
use Rattle.bor_http.specs.Routes.Routers.{router, path_in, with_paths, with_scan}
use Rattle.bor_http.specs.Routes.Routes.{every_route, route_line}
use Rattle.bor_http.proofs.OnIncoming.HeadLemmas.{chosen}
use Rattle.bor_http.proofs.OnRoutes.Keys.{alone, alone_slash, keyed, keyed_alone, keyed_slash, named, named_alone, no_key, parted, slash_is}
use Rattle.bor_http.proofs.OnRoutes.Rows.{AreApart, branches, literal, walk, walks}
use Rattle.bor_http.proofs.OnRoutes.Utf8Bytes.{text_bytes}

-- ---- the router, as branches that end in the numbers of routes

abbrev path_at : ℕ → Path
path_at k = (route_line (get_or every_route k Lodge)).path

abbrev end : ℕ → Rows
end k = ([], k) ∷ []

abbrev of_agents : List (List ℕ × Rows)
of_agents = (codes "/", named) ∷ []

abbrev of_e : List (List ℕ × Rows)
of_e = (codes "ntities", end 8) ∷ (codes "vidence", end 7) ∷ []

abbrev of_filings : List (List ℕ × Rows)
of_filings = (codes "/", keyed) ∷ []

abbrev of_all : List (List ℕ × Rows)
of_all =
    (codes "agents", branches of_agents (end 10))
    ∷ (codes "chains", end 6)
    ∷ (codes "day", end 9)
    ∷ (codes "e", branches of_e [])
    ∷ (codes "filings", branches of_filings (end 2))
    ∷ (codes "published", end 4)
    ∷ (codes "register", end 12)
    ∷ (codes "snapshot", end 5)
    ∷ []

abbrev from_slash : List (List ℕ × Rows)
from_slash = (codes "/", branches of_all []) ∷ []

abbrev numbered : Rows
numbered = branches from_slash []

as_mapped : {A B : Type 0} (f : A → B) (o : Option A) → map_key f o ≡ option_map f o
as_mapped f None = refl
as_mapped f (Some x) = refl

-- rows that have the patterns and the paths of numbered ones
abbrev AreNumbered : RowsOf (RouteOf Path) → Rows → Type 0
AreNumbered rows by_number = rename (λ row. row.value) rows ≡ rename path_at by_number

found_by : (rows : RowsOf (RouteOf Path)) (by_number : Rows) → AreNumbered rows by_number → (text : List ℕ) → path_in rows text ≡ option_map path_at (first by_number text)
found_by rows by_number same text =
    sym (as_mapped (λ (row : RouteOf Path). row.value) (first rows text))
    ∙ sym (first-rename (λ (row : RouteOf Path). row.value) rows text)
    ∙ ap (λ rows. first rows text) same
    ∙ first-rename path_at by_number text
    ∙ as_mapped path_at (first by_number text)

-- ---- the paths before that of a filing's file, which do not match it, and those behind it

abbrev before_file : RowsOf (RouteOf Path)
before_file = with_paths [] (paths.Filing ∷ paths.Filing ∷ paths.Filings ∷ [])

abbrev behind_file : List Path
behind_file = map (λ route. (route_line route).path) (drop 4 every_route)

abbrev of_one : List (List ℕ × Rows)
of_one = (codes "/", alone 0) ∷ []

abbrev of_two : List (List ℕ × Rows)
of_two = (codes "/filings", branches of_one (end 2)) ∷ []

two_rows : AreNumbered before_file (branches of_two [])
unfolding matchit_on_literals
two_rows = refl

no_file : path_in before_file (path_word paths.File) ≡ None
no_file =
    found_by before_file (branches of_two []) two_rows (path_word paths.File)
    ∙ ap (option_map path_at) (walks of_two [] (path_word paths.File) (assumption)
    ∙ walks of_one (end 2) (codes "/{key}/file") (assumption)
    ∙ alone_slash 0 123 (codes "key}/file") (omega arith) refl)

abbrev with_file : RowsOf (RouteOf Path)
with_file = with_scan (parse_route (path_word paths.File)) paths.File before_file

all_rows : AreNumbered (with_paths with_file behind_file) numbered
unfolding matchit_on_literals
all_rows = refl

same_rows : AreNumbered router numbered
unfolding router
same_rows = ap (λ found. rename (λ (row : RouteOf Path). row.value) (with_paths (if is_none found then with_file else before_file) behind_file)) no_file ∙ all_rows

found_in : (text : List ℕ) → path_in router text ≡ option_map path_at (first numbered text)
found_in text = found_by router numbered same_rows text

all_apart : AreApart of_all []
all_apart = assumption

-- ---- a text that is a path is found

text_behind : (front rest : List ℕ) → IsText (front ++ rest) → IsText rest
text_behind [] rest h = h
text_behind (b ∷ front) rest h = text_behind front rest h.1

-- behind "/filings/" and "/agents/"
to_keyed : (rest : List ℕ) → first numbered (codes "/filings/" ++ rest) ≡ first keyed rest
to_keyed rest =
    walks from_slash [] (codes "/filings/" ++ rest) (assumption)
    ∙ walks of_all [] (codes "filings/" ++ rest) all_apart
    ∙ walks of_filings (end 2) (codes "/" ++ rest) assumption

to_named : (rest : List ℕ) → first numbered (codes "/agents/" ++ rest) ≡ first named rest
to_named rest =
    walks from_slash [] (codes "/agents/" ++ rest) (assumption)
    ∙ walks of_all [] (codes "agents/" ++ rest) all_apart
    ∙ walks of_agents (end 10) (codes "/" ++ rest) assumption

pub is_found : (path : Path) (text : List ℕ) → IsText text → IsPath path text → path_in router text ≡ Some path
unfolding matchit_on_literals
is_found paths.Filing text bytes (key, segment, is) =
    ap (path_in router) is ∙ found_in (codes "/filings/" ++ key)
    ∙ ap (option_map path_at) (to_keyed key ∙ keyed_alone key (text_behind (codes "/filings/") key (subst IsText is bytes)) segment.some (slash_is key ∙ segment.one))
is_found paths.File text bytes (key, segment, is) =
    ap (path_in router) is ∙ found_in (codes "/filings/" ++ key ++ codes "/file")
    ∙ ap (option_map path_at) (to_keyed (key ++ codes "/file")
    ∙ keyed_slash key (codes "file") (text_behind (codes "/filings/") (key ++ codes "/file") (subst IsText is bytes)) segment.some (slash_is key ∙ segment.one))
is_found paths.Agent text bytes (name, segment, is) =
    ap (path_in router) is ∙ found_in (codes "/agents/" ++ name)
    ∙ ap (option_map path_at) (to_named name ∙ named_alone name (text_behind (codes "/agents/") name (subst IsText is bytes)) segment.some (slash_is name ∙ segment.one))
is_found path text bytes is = ap (path_in router) is ∙ found_in (path_word path)

-- ---- what is found is the path that the text is

-- a text behind these bytes, of which the rows find a route, has the route's path
abbrev Means : List ℕ → Rows → Type 0
Means front rows = (rest : List ℕ) (k : ℕ) → IsText rest → first rows rest ≡ Some k → IsPath (path_at k) (front ++ rest)

abbrev EachMeans : List ℕ → List (List ℕ × Rows) → Type 0
EachMeans front [] = ⊤
EachMeans front ((w, rows) ∷ more) = Means (front ++ w) rows × EachMeans front more

none_means : (front : List ℕ) → Means front []
none_means front rest k bytes e = absurd (none-some k (sym (seek-empty 0 rest) ∙ e))

end_means : (front : List ℕ) (k : ℕ) → IsPath (path_at k) front → Means front (end k)
unfolding matchit_on_literals
end_means front k is [] j bytes e = subst (λ i. IsPath (path_at i) (front ++ [])) (same_Some k j e) (subst (IsPath (path_at k)) (sym (append-nil front)) is)
end_means front k is (b ∷ rest) j bytes e = absurd (none-some j (sym (literal (end k) b rest refl refl ∙ seek-empty 0 rest) ∙ e))

walk_means : (front rest : List ℕ) (k : ℕ) (bs : List (List ℕ × Rows)) (others : Rows) → IsText rest → EachMeans front bs → Means front others
    → walk bs others rest ≡ Some k → IsPath (path_at k) (front ++ rest)
walk_means front rest k [] others bytes each otherwise e = otherwise rest k bytes e
walk_means front rest k ((w, rows) ∷ more) others bytes each otherwise e =
    elim (chosen (starts_with nat_eq rest w) (first rows (drop (length w) rest)) (walk more others rest) (Some k) e) [
      | inl h ↦
          let whole : rest ≡ w ++ drop (length w) rest = (starts_is Decides-eqb rest w (starts_with nat_eq rest w) refl).0 h.0 in
          subst (IsPath (path_at k)) (append_assoc front w (drop (length w) rest) ∙ ap (λ text. front ++ text) (sym whole))
          (each.0 (drop (length w) rest) k (text_behind w (drop (length w) rest) (subst IsText whole bytes)) h.1)
      | inr h ↦ walk_means front rest k more others bytes each.1 otherwise h.1
    ]

branches_mean : (front : List ℕ) (bs : List (List ℕ × Rows)) (others : Rows) → AreApart bs others → EachMeans front bs → Means front others → Means front (branches bs others)
branches_mean front bs others apart each otherwise rest k bytes e =
    walk_means front rest k bs others bytes each otherwise (sym (walks bs others rest apart) ∙ e)

named_means : Means (codes "/agents/") named
unfolding matchit_on_literals
named_means [] k bytes e = absurd (none-some k e)
named_means (b ∷ name) k bytes e = by_slash (has_slash (b ∷ name)) refl
  where
    by_slash : (slash : Bool) → has_slash (b ∷ name) ≡ slash → IsPath (path_at k) (codes "/agents/" ++ b ∷ name)
    by_slash true h = absurd (none-some k (sym (alone_slash 11 b name bytes.0 h) ∙ e))
    by_slash false h =
        let segment : IsSegment (b ∷ name) = record { some = omega arith; one = sym (slash_is (b ∷ name)) ∙ h } in
        subst (λ i. IsPath (path_at i) (codes "/agents/" ++ b ∷ name)) (same_Some 11 k (sym (named_alone (b ∷ name) bytes segment.some h) ∙ e)) (b ∷ name, segment, refl)

keyed_means : Means (codes "/filings/") keyed
unfolding matchit_on_literals
keyed_means [] k bytes e = absurd (none-some k e)
keyed_means (b ∷ text) k bytes e =
    elim (parted (b ∷ text)) [
      | inl none ↦
          let segment : IsSegment (b ∷ text) = record { some = omega arith; one = sym (slash_is (b ∷ text)) ∙ none } in
          subst (λ i. IsPath (path_at i) (codes "/filings/" ++ b ∷ text)) (same_Some 0 k (sym (keyed_alone (b ∷ text) bytes segment.some none) ∙ e)) (b ∷ text, segment, refl)
      | inr h ↦ by_key h.0 h.1 h.2 h.3
    ]
  where
    by_key : (key rest : List ℕ) → (b ∷ text) ≡ key ++ 47 ∷ rest → has_slash key ≡ false → IsPath (path_at k) (codes "/filings/" ++ b ∷ text)
    by_key [] rest whole none = absurd (none-some k (sym (ap (λ xs. first keyed xs) whole ∙ no_key rest) ∙ e))
    by_key (a ∷ key) rest whole none =
        let all : IsText ((a ∷ key) ++ 47 ∷ rest) = subst IsText whole bytes in
        let segment : IsSegment (a ∷ key) = record { some = omega arith; one = sym (slash_is (a ∷ key)) ∙ none } in
        let front : List ℕ = codes "/filings/" ++ a ∷ key in
        let means : Means front (branches ((codes "/file", end 3) ∷ []) []) =
        branches_mean front ((codes "/file", end 3) ∷ []) [] (assumption) (end_means (front ++ codes "/file") 3 (a ∷ key, segment, refl), tt) (none_means front) in
        subst (λ xs. IsPath (path_at k) (codes "/filings/" ++ xs)) (sym whole)
        (means (47 ∷ rest) k (text_behind (a ∷ key) (47 ∷ rest) all) (sym (ap (λ xs. first keyed xs) whole ∙ keyed_slash (a ∷ key) rest all segment.some none) ∙ e))

router_means : Means [] numbered
router_means =
    let agents : Means (codes "/agents") (branches of_agents (end 10)) =
    branches_mean (codes "/agents") of_agents (end 10) (assumption) (named_means, tt) (end_means (codes "/agents") 10 refl) in
    let by_e : Means (codes "/e") (branches of_e []) =
    branches_mean (codes "/e") of_e [] (assumption) (end_means (codes "/entities") 8 refl, (end_means (codes "/evidence") 7 refl, tt)) (none_means (codes "/e")) in
    let filings : Means (codes "/filings") (branches of_filings (end 2)) =
    branches_mean (codes "/filings") of_filings (end 2) (assumption) (keyed_means, tt) (end_means (codes "/filings") 2 refl) in
    let last : EachMeans (codes "/") ((codes "published", end 4) ∷ (codes "register", end 12) ∷ (codes "snapshot", end 5) ∷ []) =
    (end_means (codes "/published") 4 refl, (end_means (codes "/register") 12 refl, (end_means (codes "/snapshot") 5 refl, tt))) in
    let all : EachMeans (codes "/") of_all = (agents, (end_means (codes "/chains") 6 refl, (end_means (codes "/day") 9 refl, (by_e, (filings, last))))) in
    branches_mean [] from_slash [] (assumption) (branches_mean (codes "/") of_all [] all_apart all (none_means (codes "/")), tt) (none_means [])

some_key : (found : Option ℕ) (path : Path) → option_map path_at found ≡ Some path → (k : ℕ) × (found ≡ Some k) × (path_at k ≡ path)
some_key None path e = absurd (none-some path e)
some_key (Some k) path e = (k, refl, same_Some (path_at k) path e)

pub is_path : (path : Path) (text : List ℕ) → IsText text → path_in router text ≡ Some path → IsPath path text
is_path path text bytes e =
    let key = some_key (first numbered text) path (sym (found_in text) ∙ e) in
    subst (λ p. IsPath p text) key.2 (router_means text key.0 bytes key.1)

pub written : (text : List ℕ) → IsUtf8 text → (found : Option Path) → found ≡ path_in router text → (path : Path) → (found ≡ Some path) ↔ IsPath path text
written text h found is path =
    let bytes = text_bytes text h in
    (λ e. is_path path text bytes (sym is ∙ e), λ e. is ∙ is_found path text bytes e)
