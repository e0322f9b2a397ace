use Rattle.std.proofs.Common.{◌≡◌, ◌⊎◌, length, map, take}
use Rattle.std.specs.Io.KnownBytes.{Keeps}
use Rattle.bor_http.specs.Incoming.Message.{request_limit}
use Rattle.bor_program.specs.Failures.{TellsUnread}
use Rattle.bor_program.specs.Inputs.{AreReadOf, IsReadOf}
use Rattle.bor_program.specs.declared.status.Status.TheVariants.{Done, Failed}
use Rattle.bor_program.proofs.inputs.read_inputs.Given as goal

-- what was read is of the files so far; as long as all could be read there is a request of each, and nothing was told; of the others the line was
abbrev pub invariant-loop-name : goal.invariant-loop-name
invariant-loop-name g l = record {
  read : AreReadOf (IsReadOf (g.R.NamedFiles.opens l.rt) g.R.File.Read.remaining request_limit) (take l.name-index l.files) (map (λ v. v.items) l.requests.items);
  status : (l.status ≡ Done) ⊎ (l.status ≡ Failed);
  count : l.status ≡ Done → length l.requests.items ≡ l.name-index;
  silent : l.status ≡ Done → Keeps (g.E.Write.contents l.fn.errors) (g.E.Write.contents l.errors);
  told : TellsUnread (take l.name-index l.files) (g.E.Write.contents l.fn.errors) (g.E.Write.contents l.errors);
}
