use Rattle.std.proofs.Common.{◌∙◌}
use Rattle.bor_register.proofs.OnMemory.Sighted.{any_sited}
use Rattle.bor_register.proofs.memory.standing.any_stands.Goals as goal

pub returns : goal.returns
returns c = c.is_some.ensures ∙ (rw (← c.last_standing.ensures) at (any_sited c.args.key.now c.args.filings.now c.args.places.now c.requires))
