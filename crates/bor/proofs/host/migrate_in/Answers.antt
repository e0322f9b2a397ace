use Rattle.sqlite.specs.Files.{file_state}
use Rattle.bor.proofs.Moving.{moved_ok}
use Rattle.bor.proofs.host.migrate_in.Goals as goal

pub returns : goal.returns
returns g c =
    let opened = c.in_ok-conn.conn in
    let left = c.migrate-migrated.new.conn in
    moved_ok _ (file_state opened) (file_state left) c.in_ok-conn.ensures.connected c.migrate-migrated.ensures.commits.began c.migrate-migrated.result
    c.migrate-migrated.ensures.unchanged c.migrate-migrated.ensures.legal
    (λ moved. (opened, left, moved, (c.close_files.result, c.close_files.ensures)))
