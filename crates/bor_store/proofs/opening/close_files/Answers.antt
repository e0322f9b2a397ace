use Rattle.sqlite.specs.Files.{file_state}
use Rattle.bor_store.proofs.Holding.{left_in}
use Rattle.bor_store.proofs.opening.close_files.Goals as goal

pub returns-in-Ok : goal.returns-in-Ok
returns-in-Ok g c = λ clean r shows image may.
    let copied = c.in-Ok.ensures.copied clean in
    left_in image (file_state c.args.conn) (copied.left image may) r shows
