use Rattle.bods_read.specs.Statement.{statement_object_lines}
use Rattle.bods_read.proofs.MembersRead.{details_fail, statement_read}
use Rattle.bods_read.proofs.Tables.{fails_here as here, fails_later as later, handed_on}
use Rattle.bods_read.proofs.reading.of_object.Goals as goal

pub returns-in_err-id : goal.returns-in_err-id
unfolding statement_object_lines
returns-in_err-id c =
    handed_on _ _ _ _ c.from_residual.ensures.1 (here _ _ _ _ _ c.in_err-id.ensures)

pub returns-in_err-day : goal.returns-in_err-day
unfolding statement_object_lines
returns-in_err-day c =
    handed_on _ _ _ _ c.from_residual-in_err-day.ensures.1 (later _ _ _ _ _ _ c.in_ok-id.ensures (here _ _ _ _ _ c.in_err-day.ensures))

pub returns-in_err-declaration : goal.returns-in_err-declaration
unfolding statement_object_lines
returns-in_err-declaration c =
    handed_on _ _ _ _ c.from_residual-in_err-declaration.ensures.1 (later _ _ _ _ _ _ c.in_ok-id.ensures (later _ _ _ _ _ _ c.in_ok-day.ensures (here _ _ _ _ _ c.in_err-declaration.ensures)))

pub returns-in_err-rec : goal.returns-in_err-rec
unfolding statement_object_lines
returns-in_err-rec c =
    handed_on _ _ _ _ c.from_residual-in_err-rec.ensures.1 (later _ _ _ _ _ _ c.in_ok-id.ensures (later _ _ _ _ _ _ c.in_ok-day.ensures (later _ _ _ _ _ _ c.in_ok-declaration.ensures (here _ _ _ _ _ c.in_err-rec.ensures))))

pub returns-in_err-kind : goal.returns-in_err-kind
unfolding statement_object_lines
returns-in_err-kind c =
    handed_on _ _ _ _ c.from_residual-in_err-kind.ensures.1 (later _ _ _ _ _ _ c.in_ok-id.ensures (later _ _ _ _ _ _ c.in_ok-day.ensures (later _ _ _ _ _ _ c.in_ok-declaration.ensures (later _ _ _ _ _ _ c.in_ok-rec.ensures (here _ _ _ _ _ c.in_err-kind.ensures)))))

pub returns-in_err-status : goal.returns-in_err-status
unfolding statement_object_lines
returns-in_err-status c =
    handed_on _ _ _ _ c.from_residual-in_err-status.ensures.1 (later _ _ _ _ _ _ c.in_ok-id.ensures (later _ _ _ _ _ _ c.in_ok-day.ensures (later _ _ _ _ _ _ c.in_ok-declaration.ensures (later _ _ _ _ _ _ c.in_ok-rec.ensures (later _ _ _ _ _ _ c.in_ok-kind.ensures (here _ _ _ _ _ c.in_err-status.ensures))))))

pub returns-in_err-object : goal.returns-in_err-object
unfolding statement_object_lines
returns-in_err-object c =
    handed_on _ _ _ _ c.from_residual-in_err-object.ensures.1 (later _ _ _ _ _ _ c.in_ok-id.ensures (later _ _ _ _ _ _ c.in_ok-day.ensures (later _ _ _ _ _ _ c.in_ok-declaration.ensures (later _ _ _ _ _ _ c.in_ok-rec.ensures (later _ _ _ _ _ _ c.in_ok-kind.ensures (later _ _ _ _ _ _ c.in_ok-status.ensures (here _ _ _ _ _ c.in_err-object.ensures)))))))

pub returns-in_err-details : goal.returns-in_err-details
unfolding statement_object_lines
returns-in_err-details c =
    handed_on _ _ _ _ c.from_residual-in_err-details.ensures.1 (later _ _ _ _ _ _ c.in_ok-id.ensures (later _ _ _ _ _ _ c.in_ok-day.ensures (later _ _ _ _ _ _ c.in_ok-declaration.ensures (later _ _ _ _ _ _ c.in_ok-rec.ensures (later _ _ _ _ _ _ c.in_ok-kind.ensures (later _ _ _ _ _ _ c.in_ok-status.ensures (later _ _ _ _ _ _ c.in_ok-object.ensures (details_fail _ _ _ _ _ c.in_ok-kind.ensures c.in_ok-object.ensures c.in_err-details.ensures))))))))

pub returns : goal.returns
returns c =
    statement_read _ _ _ _ _ _ _ _ _ c.in_ok-id.ensures c.in_ok-day.ensures c.in_ok-declaration.ensures c.in_ok-rec.ensures c.in_ok-kind.ensures c.in_ok-status.ensures c.in_ok-object.ensures c.in_ok-details.ensures
