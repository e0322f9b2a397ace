-- The answers of a keep on the filing under a key.
use Rattle.std.proofs.Common.{◌≡◌, refl}
use Rattle.std.specs.Prelude.{Option, Some, None, option_map}
use Rattle.bor_register.specs.declared.filing.AcceptedFiling.{AcceptedFiling}

-- what is told is what is shown of one that is there
pub keyed_some : {T : Type 0} (show : AcceptedFiling → T) (o : Option AcceptedFiling) (told : T) → Some told ≡ option_map show o → (f : AcceptedFiling) × (o ≡ Some f) × (told ≡ show f)
keyed_some show None told h = absurd cc
keyed_some show (Some f) told h = (f, refl, cc)
