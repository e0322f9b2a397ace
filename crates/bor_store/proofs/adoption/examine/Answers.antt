use Rattle.std.proofs.Common.{◌≡◌, ◌∙◌, inl, pos, true, FitsSigned, w64, ap, arith}
use Rattle.std.proofs.lemmas.Int.{ints, to_z-of_z}
use Rattle.std.proofs.lemmas.Result.{err_from_is_err_and}
use Rattle.bor_store.specs.Opening.{has_all}
use Rattle.bor_store.proofs.Adopting.{first_found, first_is_versioned, keep_is_versioned, keep_has_all, not_versioned, schema_is, version_found}
use Rattle.bor_store.proofs.Judging.{failure_of, told_once, judge_first, judge_shown}
use Rattle.bor_store.proofs.adoption.examine.Goals as goal

pub returns-then-not-is_versioned-clause-shown : goal.returns-then-not-is_versioned-clause-shown
returns-then-not-is_versioned-clause-shown g c clean open_still r shows = not_versioned keep_is_versioned (c.is_autocommit.ensures.settled c.if-not-is_autocommit.false open_still) shows.has.schema c.schema.ensures.value c.is_versioned.ensures c.if-not-is_versioned.true

pub returns-in_err-version-clause-shown : goal.returns-in_err-version-clause-shown
returns-in_err-version-clause-shown g c clean open_still r shows =
    let version = version_found shows (c.is_autocommit.ensures.settled c.if-not-is_autocommit.false open_still) (c.in_ok-rows.ensures.versions clean) c.as_slice.ensures.value in
    let p = err_from_is_err_and c.from_residual-in_err-version.result c.from_residual-in_err-version.ensures.1 in
    rw (p.1, p.2) (failure_of c.in_err-version.field-0.0 c.as_slice.result.now (pos 2) version c.in_err-version.ensures)

pub returns-clause-shown : goal.returns-clause-shown
returns-clause-shown g c clean open_still r shows =
    let settled = c.is_autocommit.ensures.settled c.if-not-is_autocommit.false open_still in
    let version = version_found shows settled (c.in_ok-rows.ensures.versions clean) c.as_slice.ensures.value in
    let whole : c.has_all-is_whole.result ≡ true = c.has_all-is_whole.ensures ∙ ap has_all (c.schema-2.ensures.value ∙ schema_is settled shows.has.schema) ∙ keep_has_all in
    let two = told_once c.in_ok-version.version (pos 2) c.as_slice.result.now c.in_ok-version.ensures version in
    let fits : FitsSigned w64 c.in_ok-version.version = omega (arith, ints, two) in
    judge_shown c.judge.result _ c.has_all-is_whole.result c.judge.ensures (to_z-of_z w64 c.in_ok-version.version fits ∙ two) whole

pub returns-then-not-is_versioned-clause-first : goal.returns-then-not-is_versioned-clause-first
returns-then-not-is_versioned-clause-first g c clean open_still r shows = not_versioned first_is_versioned (c.is_autocommit.ensures.settled c.if-not-is_autocommit.false open_still) shows.has.schema c.schema.ensures.value c.is_versioned.ensures c.if-not-is_versioned.true

pub returns-in_err-version-clause-first : goal.returns-in_err-version-clause-first
returns-in_err-version-clause-first g c clean open_still r shows =
    let version = first_found shows (c.is_autocommit.ensures.settled c.if-not-is_autocommit.false open_still) (c.in_ok-rows.ensures.versions clean) c.as_slice.ensures.value in
    let p = err_from_is_err_and c.from_residual-in_err-version.result c.from_residual-in_err-version.ensures.1 in
    rw (p.1, p.2) (inl (failure_of c.in_err-version.field-0.0 c.as_slice.result.now (pos 1) version c.in_err-version.ensures))

pub returns-clause-first : goal.returns-clause-first
returns-clause-first g c clean open_still r shows =
    let version = first_found shows (c.is_autocommit.ensures.settled c.if-not-is_autocommit.false open_still) (c.in_ok-rows.ensures.versions clean) c.as_slice.ensures.value in
    let one = told_once c.in_ok-version.version (pos 1) c.as_slice.result.now c.in_ok-version.ensures version in
    let fits : FitsSigned w64 c.in_ok-version.version = omega (arith, ints, one) in
    judge_first c.judge.result _ c.has_all-is_whole.result c.judge.ensures (to_z-of_z w64 c.in_ok-version.version fits ∙ one)
