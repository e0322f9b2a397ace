use Rattle.std.proofs.Common.{sym, ap}
use Rattle.bor_http.specs.Routes.Routes.{allow}
use Rattle.bor_http.proofs.routes.route.allow_of.Goals as goal

pub returns-in-Filing : goal.returns-in-Filing
unfolding allow
returns-in-Filing c = sym (ap allow c.in-Filing.is)
