-- The paths of the lines that a router lacks yet.
use Rattle.std.proofs.Common.{◌≡◌, ◌<◌, ℕ, zero, suc, List, [], ◌∷◌, length, drop, map, slice_index_or, refl, ap, arith}
use Rattle.std.specs.Borrow.{Bor}
use Rattle.matchit.specs.Rows.{RowsOf}
use Rattle.matchit.specs.Router.{RouteOf}
use Rattle.bor_http.specs.declared.incoming.fault.Path.{Path}
use Rattle.bor_http.specs.declared.routes.route.Route.{Route}
use Rattle.bor_http.specs.Routes.Routes.{line_said}
use Rattle.bor_http.specs.Routes.Routers.{with_path, with_paths}

abbrev pub paths_in : List (Path × Bor (List ℕ) × Route) → List Path
paths_in lines = map (λ line. line.0) lines

-- those behind the one that was added are left
pub added_more : (lines : List (Path × Bor (List ℕ) × Route)) (i : ℕ) (other : Path × Bor (List ℕ) × Route) (old new : RowsOf (RouteOf Path)) → i < length lines
    → new ≡ with_path old (slice_index_or lines i other).0 → with_paths new (paths_in (drop (suc i) lines)) ≡ with_paths old (paths_in (drop i lines))
added_more [] i other old new lt is = absurd (omega (arith, lt))
added_more (line ∷ lines) zero other old new lt is = ap (λ rows. with_paths rows (paths_in lines)) is
added_more (line ∷ lines) (suc i) other old new lt is = added_more lines i other old new (omega (arith, lt)) is

pub paths_said : (lines : List (Path × Bor (List ℕ) × Route)) → paths_in lines ≡ map (λ one. one.0.path) (map line_said lines)
paths_said [] = refl
paths_said (line ∷ lines) = ap (λ rest. line.0 ∷ rest) (paths_said lines)
