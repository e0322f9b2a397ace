use Rattle.std.proofs.Common.{◌≡◌, ◌∙◌, ap, rules, Some, refl}
use Rattle.bor_http.specs.declared.routes.route.Route.{Route}
use Rattle.bor_http.specs.declared.routes.route.Route.TheVariants.{Lodge}
use Rattle.bor_http.specs.Routes.Routes.{route_at, route_line}
use Rattle.bor_http.proofs.OnRoutes.Lines.{line_there}
use Rattle.bor_http.proofs.routes.route.line_of.Goals as goal

own_line : (route : Route) → route_at (route_line route).path (route_line route).method ≡ Some route
unfolding route_at
own_line Lodge = refl
own_line route = refl

pub returns : goal.returns
returns c =
    let there = line_there c.lines.result.now _ _ _ c.args.route c.lines.ensures (search rules) in
    record { path = ap (λ one. one.0.path) there; method = ap (λ one. one.0.method) there; route = ap (λ one. route_at one.0.path one.0.method) there ∙ own_line c.args.route }
