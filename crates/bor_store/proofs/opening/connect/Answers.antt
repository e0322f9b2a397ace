use Rattle.sqlite.specs.Files.{file_state}
use Rattle.bor_store.proofs.Holding.{connected}
use Rattle.bor_store.proofs.opening.connect.Goals as goal

pub returns-in-Ok-clause-connected : goal.returns-in-Ok-clause-connected
returns-in-Ok-clause-connected g c clean =
    let opened = c.in-Ok.ensures.opened clean in
    connected _ (file_state c.in-Ok.conn) opened.0 opened.1 (c.in-Ok.ensures.found clean)
