use Rattle.std.proofs.Math.Logic.{∥∥₁_map}
use Rattle.sqlite.proofs.Theorems.{opens_again}
use Rattle.bor_store.proofs.laws.stops_leave_registers.Goals as goal

pub returns : goal.returns
returns g c conn kept clean image may =
    ∥∥₁_map (opens_again conn.store (kept.numbered clean) (kept.found clean) image may)
    (λ db. (db.0, db.1, λ r stands. record { trees = db.0; holds = ∣ db.2 ∣₁; stands = stands }))
