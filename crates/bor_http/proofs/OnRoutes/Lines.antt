-- The lines of the table of routes, as the code has them.
use Rattle.std.proofs.Common.{◌≡◌, ◌<◌, ℕ, zero, suc, drop, length, slice_index_or, arith, List, [], ◌∷◌, ◌&&◌, true, false, Option, Some, None, refl, sym, ap, ◌∙◌}
use Rattle.std.specs.Prelude.{map, if◌then◌else◌}
use Rattle.std.specs.Borrow.{Bor}
use Rattle.std.specs.Str.{bytes_eq}
use Rattle.std.proofs.lemmas.Bool.{false_from_ne_true}
use Rattle.std.proofs.lemmas.Option.{same_Some}
use Rattle.std.proofs.lemmas.Slice.Eq.{bytes_eq-Decides}
use Rattle.bor_http.specs.declared.incoming.fault.Path.{Path}
use Rattle.bor_http.specs.declared.incoming.fault.Path.TheVariants as paths
use Rattle.bor_http.specs.Incoming.Words.{path_word}
use Rattle.bor_http.specs.declared.routes.route.Route.{Route}
use Rattle.bor_http.specs.Routes.Routes.{Line, is_same_path, line_said, route_line}
use Rattle.bor_http.specs.Routes.Paths.{path_of}

-- the route of the first of them that has the path and the method
abbrev pub route_in : List (Line × Route) → Path → List ℕ → Option Route
route_in [] path method = None
route_in (line ∷ lines) path method =
    if is_same_path line.0.path path && bytes_eq line.0.method method then Some line.1 else route_in lines path method

-- one that has not both is passed over
pub passed : (lines : List (Path × Bor (List ℕ) × Route)) (i : ℕ) (other : Path × Bor (List ℕ) × Route) (path : Path) (method : List ℕ) → i < length lines
    → (is_same_path (slice_index_or lines i other).0 path && bytes_eq (slice_index_or lines i other).1.now method) ≡ false
    → route_in (map line_said (drop (suc i) lines)) path method ≡ route_in (map line_said (drop i lines)) path method
passed [] i other path method lt isnt = absurd (omega (arith, lt))
passed (line ∷ lines) zero other path method lt isnt = rw isnt refl
passed (line ∷ lines) (suc i) other path method lt isnt = passed lines i other path method (omega (arith, lt)) isnt

line_at : (lines : List (Path × Bor (List ℕ) × Route)) (i : ℕ) (other : Path × Bor (List ℕ) × Route) → line_said (slice_index_or lines i other) ≡ slice_index_or (map line_said lines) i (line_said other)
line_at [] i other = refl
line_at (line ∷ lines) zero other = refl
line_at (line ∷ lines) (suc i) other = line_at lines i other

pub line_there : (lines : List (Path × Bor (List ℕ) × Route)) (said : List (Line × Route)) (i : ℕ) (other : Path × Bor (List ℕ) × Route) (route : Route) → map line_said lines ≡ said
    → slice_index_or said i (line_said other) ≡ (route_line route, route) → line_said (slice_index_or lines i other) ≡ (route_line route, route)
line_there lines said i other route is at = line_at lines i other ∙ ap (λ all. slice_index_or all i (line_said other)) is ∙ at

-- ---- paths are the same that are written alike

word_back : (path : Path) → path_of (path_word path) ≡ Some path
unfolding path_of
word_back paths.Filing = refl
word_back path = refl

pub same_path : (path : Path) → is_same_path path path ≡ true
same_path path = (bytes_eq-Decides (path_word path) (path_word path)).1 refl

pub other_path : (a b : Path) → (a ≡ b → ⊥) → is_same_path a b ≡ false
other_path a b other = false_from_ne_true (is_same_path a b) (λ is.
    let words : path_word a ≡ path_word b = (bytes_eq-Decides (path_word a) (path_word b)).0 is in
    other (same_Some a b (sym (word_back a) ∙ ap path_of words ∙ word_back b)))
