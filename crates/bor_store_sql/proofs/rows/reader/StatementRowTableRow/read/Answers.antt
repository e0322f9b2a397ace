use Rattle.std.proofs.Common.{ap, arith}
use Rattle.sqlite.specs.Order.{column}
use Rattle.bor_store_sql.proofs.OnRows.Whole.{is_whole, part_from, part_long}
use Rattle.bor_store_sql.proofs.OnRows.Lists.{not_read}
use Rattle.bor_store_sql.proofs.OnRows.Utf8.{ident_utf8}
use Rattle.bor_store_sql.proofs.rows.reader.StatementRowTableRow.read.Goals as goal

pub returns-clause-exact : goal.returns-clause-exact
returns-clause-exact c =
    let place = c.in_ok-place_at.ensures.exact in
    let id = c.in_ok-text_at.ensures.exact in
    let day = c.in_ok-day_at.ensures.exact in
    let declaration = c.in_ok-text_at-2.ensures.exact in
    let named = c.in_ok-text_at-3.ensures.exact in
    let part = c.in_ok-part_of.ensures.exact in
    let long = c.in_ok-has_columns.ensures in
    let four = part_long c.in_ok-part_of.field-0 in
    let last = part_from c.args.row.now c.in_ok-part_of.field-0 part.1 in (
      is_whole c.args.row.now _ (omega (arith, long, four)) (
        place.0,
        (place.1, (place.2, (id.0, (day.0, (declaration.0, (named.0, (part.0, (c.in_ok-status_of.ensures.exact, last)))))))),
      ),
      record { at = place.3; id = id.2; day = day.1; declaration = declaration.2; rec = named.2; part = part.2 },
    )

pub returns-in_err-text_at-clause-reads : goal.returns-in_err-text_at-clause-reads
returns-in_err-text_at-clause-reads c x is formed = not_read _ x c.from_residual-in_err-text_at.ensures.1 (c.in_err-text_at.ensures.reads x.id (ap (λ r. column r 3) is) (ident_utf8 x.id formed.id) formed.id)

pub returns-in_err-text_at-2-clause-reads : goal.returns-in_err-text_at-2-clause-reads
returns-in_err-text_at-2-clause-reads c x is formed = not_read _ x c.from_residual-in_err-text_at-2.ensures.1 (c.in_err-text_at-2.ensures.reads x.declaration (ap (λ r. column r 5) is) (ident_utf8 x.declaration formed.declaration) formed.declaration)

pub returns-in_err-text_at-3-clause-reads : goal.returns-in_err-text_at-3-clause-reads
returns-in_err-text_at-3-clause-reads c x is formed = not_read _ x c.from_residual-in_err-text_at-3.ensures.1 (c.in_err-text_at-3.ensures.reads x.rec (ap (λ r. column r 6) is) (ident_utf8 x.rec formed.rec) formed.rec)
