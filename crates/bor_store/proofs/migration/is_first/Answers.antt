use Rattle.std.proofs.Common.{◌≡◌, ◌∙◌, true, false, codes, sym, ap}
use Rattle.sqlite.specs.Held.{state}
use Rattle.bor_store.specs.Opening.{has_all, has_first, is_used, version_in}
use Rattle.bor_store.proofs.Adopting.{first_found, first_has_first, first_is_free, first_is_versioned, keep_has_all, keep_is_versioned, not_versioned, schema_is, version_found}
use Rattle.bor_store.proofs.Judging.{first_told, second_told, taken_told, version_judged}
use Rattle.bor_store.proofs.migration.is_first.Goals as goal

pub returns-then-not-is_versioned-clause-first : goal.returns-then-not-is_versioned-clause-first
returns-then-not-is_versioned-clause-first g c clean r shows = not_versioned first_is_versioned (c.is_autocommit.ensures.settled c.if-not-is_autocommit.false clean.1) shows.has.schema c.schema.ensures.value c.is_versioned.ensures c.if-not-is_versioned.true

pub returns-then-not-is_versioned-clause-second : goal.returns-then-not-is_versioned-clause-second
returns-then-not-is_versioned-clause-second g c clean r shows = not_versioned keep_is_versioned (c.is_autocommit.ensures.settled c.if-not-is_autocommit.false clean.1) shows.has.schema c.schema.ensures.value c.is_versioned.ensures c.if-not-is_versioned.true

pub returns-clause-taken : goal.returns-clause-taken
returns-clause-taken g c taken =
    let used = taken_told _ _ _ _ c.version_told.result c.version_told.ensures taken in
    sym (c.is_used-used.ensures ∙ ap (λ s. is_used s (codes "period")) c.schema-3.ensures.value) ∙ used

pub returns-clause-judged : goal.returns-clause-judged
returns-clause-judged g c clean =
    version_judged (state g.S.Store c.args.conn.now) c.version_told.result c.in_ok-rows.rows.items c.has_first-first.result c.is_used-used.result c.has_all-second.result (c.in_ok-rows.ensures.versions clean)
    (c.has_first-first.ensures ∙ ap has_first c.schema-2.ensures.value)
    (c.is_used-used.ensures ∙ ap (λ s. is_used s (codes "period")) c.schema-3.ensures.value)
    (c.has_all-second.ensures ∙ ap has_all c.schema-4.ensures.value)
    (rw (sym c.as_slice.ensures.value) c.version_told.ensures)

pub returns-clause-first : goal.returns-clause-first
returns-clause-first g c clean r shows =
    let settled = c.is_autocommit.ensures.settled c.if-not-is_autocommit.false (c.in_ok-rows.ensures.asked.reads.began clean).1 in
    let schema = schema_is settled shows.has.schema in
    let whole : c.has_first-first.result ≡ true = c.has_first-first.ensures ∙ ap has_first (c.schema-2.ensures.value ∙ schema) ∙ first_has_first in
    let free : c.is_used-used.result ≡ false = c.is_used-used.ensures ∙ ap (λ s. is_used s (codes "period")) (c.schema-3.ensures.value ∙ schema) ∙ first_is_free in
    first_told (version_in c.as_slice.result.now) c.has_first-first.result c.is_used-used.result c.has_all-second.result c.version_told.result c.version_told.ensures
    (first_found shows settled (c.in_ok-rows.ensures.versions clean.0) c.as_slice.ensures.value) whole free

pub returns-clause-second : goal.returns-clause-second
returns-clause-second g c clean r shows =
    let settled = c.is_autocommit.ensures.settled c.if-not-is_autocommit.false (c.in_ok-rows.ensures.asked.reads.began clean).1 in
    let schema = schema_is settled shows.has.schema in
    let whole : c.has_all-second.result ≡ true = c.has_all-second.ensures ∙ ap has_all (c.schema-4.ensures.value ∙ schema) ∙ keep_has_all in
    second_told (version_in c.as_slice.result.now) c.has_first-first.result c.is_used-used.result c.has_all-second.result c.version_told.result c.version_told.ensures
    (version_found shows settled (c.in_ok-rows.ensures.versions clean.0) c.as_slice.ensures.value) whole
