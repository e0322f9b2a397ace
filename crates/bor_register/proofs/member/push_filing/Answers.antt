use Rattle.std.proofs.Common.{sym}
use Rattle.bor_register.proofs.member.push_filing.Goals as goal

pub returns-clause-ok : goal.returns-clause-ok
returns-clause-ok c =
    let m = c.index-members-at.result in
    let place = c.in-Some.ensures.some in
    let put = rw (c.in_ok-filing.ensures, c.as_slice.ensures, ← place.own m) at c.in_ok-push.ensures.ok in
    rw put (sym (place.written m _))
