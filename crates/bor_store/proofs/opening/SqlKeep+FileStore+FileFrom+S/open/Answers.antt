use Rattle.std.proofs.Common.{◌∙◌}
use Rattle.sqlite.specs.Files.{file_state}
use Rattle.sqlite_wal.specs.Files.{image_at}
use Rattle.bor_store_sql.specs.Shown.{IsClean}
use Rattle.bor_store.proofs.Holding.{finds_still}
use Rattle.bor_store.proofs.Judging.{judged_told}
use Rattle.bor_store.proofs.opening.SqlKeep+FileStore+FileFrom+S.open.Goals as goal

pub returns-in-Ok-adopt-clause-found : goal.returns-in-Ok-adopt-clause-found
returns-in-Ok-adopt-clause-found g c clean r held =
    let adopted = c.in-Ok-adopt.ensures in
    (adopted.shows clean r).0 ((c.in-Ok.ensures.connected (adopted.reads.began clean).0).shows r held)

pub returns-in-Ok-adopt-clause-held : goal.returns-in-Ok-adopt-clause-held
returns-in-Ok-adopt-clause-held g c disk =
    let adopted = c.in-Ok-adopt.ensures in
    let clean : IsClean (file_state c.in-Ok-adopt.register.conn) = (disk, adopted.up disk) in
    finds_still (image_at g.S.Start) (file_state c.in-Ok.conn) (file_state c.in-Ok-adopt.register.conn) (adopted.reads.kept clean) (c.in-Ok.ensures.connected (adopted.reads.began clean).0).found

pub returns-in-Err-adopt-clause-refused : goal.returns-in-Err-adopt-clause-refused
returns-in-Err-adopt-clause-refused g c =
    let refused = c.in-Err-adopt.ensures in
    record {
      opened = c.in-Ok.conn;
      settled = refused.reads.mode ∙ c.in-Ok.ensures.mode;
      connected = c.in-Ok.ensures.connected;
      reads = refused.reads;
      judged = λ clean. judged_told _ _ _ _ (refused.judged clean);
      shown = λ clean r held.
          let opened = c.in-Ok.ensures.connected (refused.reads.clean clean) in
          refused.shown clean opened.opens.is_open r (opened.shows r held);
      first = λ clean r shows. refused.first clean (c.in-Ok.ensures.connected (refused.reads.clean clean)).opens.is_open r shows;
    }
