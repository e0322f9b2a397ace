use Rattle.std.proofs.Common.{◌≡◌, drop}
use Rattle.bor_http.specs.Routes.Routers.{router, with_paths}
use Rattle.bor_http.proofs.OnRoutes.Inserts.{paths_in}
use Rattle.bor_http.proofs.routes.path.router_of_paths.Given as goal

-- with the paths of the lines that are left it is the router of all
abbrev pub invariant-loop-line : goal.invariant-loop-line
invariant-loop-line l = with_paths l.router (paths_in (drop l.line-index l.line-items)) ≡ router
