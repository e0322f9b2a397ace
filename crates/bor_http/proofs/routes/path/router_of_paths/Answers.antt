use Rattle.std.proofs.Common.{◌∙◌, [], ap, map, rules, add-one}
use Rattle.bor_http.specs.Routes.Routers.{router, with_paths}
use Rattle.bor_http.proofs.OnRoutes.Inserts.{added_more, paths_said}
use Rattle.bor_http.proofs.routes.path.router_of_paths.Goals as goal

pub loop-line-init : goal.loop-line-init
unfolding router
loop-line-init c = rw c.new-router.ensures (ap (with_paths []) (paths_said c.lines-line-items.result.now ∙ ap (map (λ one. one.0.path)) c.lines-line-items.ensures))

pub loop-line-preserved : goal.loop-line-preserved
loop-line-preserved c =
    rw add-one (added_more _ c.loop-line.line-index _ c.loop-line.router c.add.new.router (search rules) c.in_ok-add.ensures ∙ c.loop-line.invariant)
