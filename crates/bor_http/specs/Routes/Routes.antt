-- The routes: what each path asks for by which method.
use Rattle.std.specs.Prelude.{ℕ, List, [], ◌∷◌, ◌++◌, ◌&&◌, Bool, map, find, Option}
use Rattle.std.specs.Prelude.{codes, if◌then◌else◌}
use Rattle.std.specs.Borrow.{Bor}
use Rattle.std.specs.List.{filter}
use Rattle.std.specs.Str.{bytes_eq}
use Rattle.std.specs.Ordering.{nat_cmp, is_lt}
use Rattle.std.specs.Cmp.Lexicographic.{slice_cmp}
use Rattle.bor_http.specs.declared.incoming.fault.Path.{Path}
use Rattle.bor_http.specs.declared.incoming.fault.Path.TheVariants as paths
use Rattle.bor_http.specs.Incoming.Words.{path_word}
use Rattle.bor_http.specs.declared.routes.route.Route.{Route}
use Rattle.bor_http.specs.declared.routes.route.Route.TheVariants as asks

-- a line of the table of routes: a method, and a path
pub record Line : Type 0 where
  pub method : List ℕ
  pub path : Path

abbrev by : List ℕ → Path → Line
by method path = record { method = method; path = path }

-- the table of routes: what each is asked for by
abbrev pub route_line : Route → Line
route_line asks.Lodge = by (codes "PUT") paths.Filing
route_line asks.Withdraw = by (codes "DELETE") paths.Filing
route_line asks.Filings = by (codes "GET") paths.Filings
route_line asks.File = by (codes "GET") paths.File
route_line asks.Published = by (codes "GET") paths.Published
route_line asks.Snapshot = by (codes "GET") paths.Snapshot
route_line asks.Chains = by (codes "GET") paths.Chains
route_line asks.Evidence = by (codes "GET") paths.Evidence
route_line asks.Entities = by (codes "GET") paths.Entities
route_line asks.Day = by (codes "POST") paths.Day
route_line asks.Enrol = by (codes "POST") paths.Agents
route_line asks.Renew = by (codes "PUT") paths.Agent
route_line asks.Register = by (codes "GET") paths.Register

-- all routes
abbrev pub every_route : List Route
every_route =
    asks.Lodge ∷ asks.Withdraw ∷ asks.Filings ∷ asks.File ∷ asks.Published ∷ asks.Snapshot
    ∷ asks.Chains ∷ asks.Evidence ∷ asks.Entities ∷ asks.Day ∷ asks.Enrol ∷ asks.Renew
    ∷ asks.Register ∷ []

-- a line as the code has it, and the table of such lines
abbrev pub line_said : Path × Bor (List ℕ) × Route → Line × Route
line_said line = (by line.1.now line.0, line.2)

abbrev pub route_table : List (Line × Route)
route_table = map (λ route. (route_line route, route)) every_route

abbrev pub is_same_path : Path → Path → Bool
is_same_path a b = bytes_eq (path_word a) (path_word b)

-- whether a route is one of the path
abbrev pub is_at : Path → Route → Bool
is_at path route = is_same_path (route_line route).path path

-- the route of a path by a method, if a line has both
unfoldable pub route_at : Path → List ℕ → Option Route
route_at path method =
    find (λ route. is_at path route && bytes_eq (route_line route).method method) every_route

-- ---- the methods of a path (RFC 9110, 10.2.1)

-- words in the order of their bytes
abbrev pub put_before : List ℕ → List (List ℕ) → List (List ℕ)
put_before word [] = word ∷ []
put_before word (next ∷ rest) =
    if is_lt (slice_cmp nat_cmp next word) then next ∷ put_before word rest else word ∷ next ∷ rest

abbrev pub in_order : List (List ℕ) → List (List ℕ)
in_order [] = []
in_order (word ∷ rest) = put_before word (in_order rest)

-- words with a comma and a space between them
abbrev pub enumerated : List (List ℕ) → List ℕ
enumerated [] = []
enumerated (word ∷ []) = word
enumerated (word ∷ next ∷ rest) = word ++ codes ", " ++ enumerated (next ∷ rest)

-- the methods of the path's routes, in alphabetical order
unfoldable pub allow : Path → List ℕ
allow path =
    enumerated (in_order (map (λ route. (route_line route).method)
    (filter (is_at path) every_route)))
