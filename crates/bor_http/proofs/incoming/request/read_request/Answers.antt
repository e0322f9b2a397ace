use Rattle.std.proofs.Common.{◌∙◌, [], ap, length, refl, arith, length-append}
use Rattle.std.proofs.KnownBytes.{Consumes-nil}
use Rattle.std.proofs.lemmas.Bool.{ne_eqb}
use Rattle.std.proofs.lemmas.Result.{err_from_is_err_and}
use Rattle.bor_http.proofs.OnIncoming.Gathered.{come_more, taken_more, unread_more, whole_says}
use Rattle.bor_http.proofs.OnIncoming.ProgressLemmas.{nothing_is_partial, progress_kept}
use Rattle.bor_http.proofs.incoming.request.read_request.Goals as goal

pub read-init : goal.read-init
read-init g c = rw c.new-received.ensures.items (record {
  consumed = Consumes-nil (g.R.Read.remaining c.args.reader.now.inner);
  known = c.none-progress.ensures.known [];
  whole = (λ le. absurd (omega (arith, c.none-progress.ensures.needs, le)), λ is. absurd (nothing_is_partial is));
  fits = omega arith;
  faults = refl;
  on = λ h. h;
  late = λ h. refl;
})

pub returns-in_err-read_more-clause-taken : goal.returns-in_err-read_more-clause-taken
returns-in_err-read_more-clause-taken g c =
    taken_more _ _ _ c.read.received.items _ c.read.progress c.wanted-wanted.result c.len.result c.is_whole.result c.read.invariant.consumed c.read.invariant.known
    c.is_whole.ensures c.read-test.true (omega (arith, c.len.ensures)) (omega (arith, c.wanted-wanted.ensures, c.len-in-read.ensures)) _ c.in_err-read_more.ensures.piece

pub returns-in_err-read_more-clause-fault : goal.returns-in_err-read_more-clause-fault
returns-in_err-read_more-clause-fault g c =
    let p = err_from_is_err_and c.from_residual.result c.from_residual.ensures.1 in
    rw (p.1, p.2) (unread_more _ _ _ c.read.received.items _ c.read.progress c.wanted-wanted.result c.len.result c.is_whole.result c.read.invariant.consumed c.read.invariant.known
    c.is_whole.ensures c.read-test.true (omega (arith, c.len.ensures)) (omega (arith, c.wanted-wanted.ensures, c.len-in-read.ensures)) c.in_err-read_more.field-0.0 c.read.invariant.whole.1 c.in_err-read_more.ensures.piece)

pub returns-then-branch-eq0-clause-bytes : goal.returns-then-branch-eq0-clause-bytes
returns-then-branch-eq0-clause-bytes g c =
    come_more _ _ _ c.read.received.items _ c.read.progress c.wanted-wanted.result c.len.result c.is_whole.result c.read.invariant.consumed c.read.invariant.known
    c.is_whole.ensures c.read-test.true (omega (arith, c.len.ensures)) (omega (arith, c.wanted-wanted.ensures, c.len-in-read.ensures)) _ c.in_ok-read_more.ensures.piece

pub returns-then-branch-eq0-clause-taken : goal.returns-then-branch-eq0-clause-taken
returns-then-branch-eq0-clause-taken g c =
    taken_more _ _ _ c.read.received.items _ c.read.progress c.wanted-wanted.result c.len.result c.is_whole.result c.read.invariant.consumed c.read.invariant.known
    c.is_whole.ensures c.read-test.true (omega (arith, c.len.ensures)) (omega (arith, c.wanted-wanted.ensures, c.len-in-read.ensures)) _ c.in_ok-read_more.ensures.piece

pub after-requires : goal.after-requires
after-requires g c =
    let piece = c.in_ok-read_more.ensures.piece in
    rw (c.deref.ensures.value, piece.came.0) (progress_kept c.read.received.items piece.bytes c.read.progress c.read.invariant.known)

pub returns-in_err-progress-clause-taken : goal.returns-in_err-progress-clause-taken
returns-in_err-progress-clause-taken g c =
    taken_more _ _ _ c.read.received.items _ c.read.progress c.wanted-wanted.result c.len.result c.is_whole.result c.read.invariant.consumed c.read.invariant.known
    c.is_whole.ensures c.read-test.true (omega (arith, c.len.ensures)) (omega (arith, c.wanted-wanted.ensures, c.len-in-read.ensures)) _ c.in_ok-read_more.ensures.piece

pub read-smaller : goal.read-smaller
read-smaller g c =
    let piece = c.in_ok-read_more.ensures.piece in
    let come = come_more _ _ _ c.read.received.items _ c.read.progress c.wanted-wanted.result c.len.result c.is_whole.result c.read.invariant.consumed c.read.invariant.known
    c.is_whole.ensures c.read-test.true (omega (arith, c.len.ensures)) (omega (arith, c.wanted-wanted.ensures, c.len-in-read.ensures)) _ piece in
    omega (arith, come.0, length-append c.read.received.items piece.bytes, ap length piece.came.0, piece.came.1, c.if-branch-eq0.false)

pub read-preserved : goal.read-preserved
read-preserved g c =
    let come = come_more _ _ _ c.read.received.items _ c.read.progress c.wanted-wanted.result c.len.result c.is_whole.result c.read.invariant.consumed c.read.invariant.known
    c.is_whole.ensures c.read-test.true (omega (arith, c.len.ensures)) (omega (arith, c.wanted-wanted.ensures, c.len-in-read.ensures)) _ c.in_ok-read_more.ensures.piece in
    record {
      consumed = come.1;
      known = rw c.deref.ensures.value at c.in_ok-progress.ensures.known;
      whole = rw c.deref.ensures.value at c.in_ok-progress.ensures.whole;
      fits = come.0;
      faults = c.in_ok-read_more.ensures.faults ∙ c.read.invariant.faults;
      on = λ was. c.in_ok-read_more.ensures.over ∙ ne_eqb c.in_ok-read_more.field-0 0 c.if-branch-eq0.false;
      late = λ was. c.in_ok-read_more.ensures.late (c.read.invariant.on was) ∙ c.read.invariant.late was;
    }

pub returns-clause-request : goal.returns-clause-request
returns-clause-request g c =
    whole_says _ _ c.read.received.items c.read.invariant.consumed (c.read.invariant.whole.0 (omega (arith, c.len.ensures, c.is_whole.ensures.0 c.read-test.false)))
