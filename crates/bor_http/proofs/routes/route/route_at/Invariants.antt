use Rattle.std.proofs.Common.{◌≡◌, drop, map}
use Rattle.bor_http.specs.Routes.Routes.{line_said, route_at}
use Rattle.bor_http.proofs.OnRoutes.Lines.{route_in}
use Rattle.bor_http.proofs.routes.route.route_at.Given as goal

abbrev pub invariant-loop-line : goal.invariant-loop-line
invariant-loop-line l = route_in (map line_said (drop l.line-index l.line-items)) l.path l.method ≡ route_at l.path l.method
