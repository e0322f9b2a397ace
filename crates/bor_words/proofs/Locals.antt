-- Whether a command has an argument that the commands below it take too.
use Rattle.std.proofs.Common.{◌≡◌, ◌∙◌, ◌||◌, Bool, false, true}

-- an argument that isn't global changes nothing
pub kept : (new old global : Bool) → new ≡ (old || global) → global ≡ false → new ≡ old
kept new true global e is = e
kept new false global e is = e ∙ is
