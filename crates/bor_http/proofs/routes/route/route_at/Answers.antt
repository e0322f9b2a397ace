use Rattle.std.proofs.Common.{◌∙◌, ap, sym, rules, add-one}
use Rattle.bor_http.specs.Routes.Routes.{route_at}
use Rattle.bor_http.proofs.OnRoutes.Lines.{passed, route_in}
use Rattle.bor_http.proofs.routes.route.route_at.Goals as goal

pub loop-line-init : goal.loop-line-init
unfolding route_at
loop-line-init c = ap (λ lines. route_in lines c.args.path c.args.method.now) c.lines-line-items.ensures

pub loop-line-preserved : goal.loop-line-preserved
loop-line-preserved c =
    rw add-one (passed _ c.loop-line.line-index _ c.args.path c.args.method.now (search rules) (sym c.has_both.ensures ∙ c.if-has_both.false) ∙ c.loop-line.invariant)
