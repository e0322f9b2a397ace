-- The router of the paths of the table, as matchit keeps them; for clauses of private functions
-- alone.
use Rattle.std.specs.Prelude.{ℕ, List, [], ◌∷◌, map, if◌then◌else◌, Option, Result, Ok, Err}
use Rattle.std.specs.Option.{is_none, option_map}
use Rattle.matchit.specs.Rows.{RowsOf}
use Rattle.matchit.specs.Router.{RouteOf, route_from}
use Rattle.matchit.specs.Order.{placed}
use Rattle.matchit.specs.Route.{Scan, parse_route}
use Rattle.matchit.specs.Seek.{first}
use Rattle.matchit.specs.declared.error.InsertError.{InsertError}
use Rattle.bor_http.specs.declared.incoming.fault.Path.{Path}
use Rattle.bor_http.specs.Incoming.Words.{path_word}
use Rattle.bor_http.specs.Routes.Routes.{every_route, route_line}

-- a router with one path more
abbrev pub with_scan : Result Scan InsertError → Path → RowsOf (RouteOf Path)
    → RowsOf (RouteOf Path)
with_scan (Ok scan) path rows = placed ((route_from scan path).pattern, route_from scan path) rows
with_scan (Err fault) path rows = rows

-- the path that matchit finds in a router
abbrev pub path_in : RowsOf (RouteOf Path) → List ℕ → Option Path
path_in rows text = option_map (λ row. row.value) (first rows text)

-- a router with the path, unless it has one already that matches the path as it is written
abbrev pub with_path : RowsOf (RouteOf Path) → Path → RowsOf (RouteOf Path)
with_path rows path =
    if is_none (path_in rows (path_word path))
    then with_scan (parse_route (path_word path)) path rows else rows

abbrev pub with_paths : RowsOf (RouteOf Path) → List Path → RowsOf (RouteOf Path)
with_paths rows [] = rows
with_paths rows (path ∷ rest) = with_paths (with_path rows path) rest

-- the router of the paths of all lines of the table
unfoldable pub router : RowsOf (RouteOf Path)
router = with_paths [] (map (λ route. (route_line route).path) every_route)
