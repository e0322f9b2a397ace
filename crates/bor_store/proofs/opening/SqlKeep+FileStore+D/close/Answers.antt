use Rattle.std.proofs.Common.{subst}
use Rattle.bor_store.specs.Opening.{IsClosing}
use Rattle.bor_store.proofs.opening.SqlKeep+FileStore+D.close.Goals as goal

pub returns : goal.returns
returns g c = subst (λ conn. IsClosing conn c.close_files.result) c.into_connection.ensures.same c.close_files.ensures
