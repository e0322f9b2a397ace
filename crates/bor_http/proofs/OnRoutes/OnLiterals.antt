use Rattle.std.specs.Prelude.{⊤}
use Rattle.bor_http.specs.Routes.Routes.{route_at, allow}
use Rattle.bor_http.specs.Routes.Paths.{path_of}

-- what an answer unfolds to compute a route of literals
unfoldable pub routes_on_literals : ⊤
unfolding route_at allow path_of
routes_on_literals = tt
