-- The statement that a record shows on a day, by its row in the table statement; for clauses of
-- private functions alone.
use Rattle.std.specs.Prelude.{ℕ, int_le, List, map, Bool, Option, Some, None, unwrap_or}
use Rattle.std.specs.Prelude.{if◌then◌else◌, ◌&&◌, ◌==◌}
use Rattle.std.specs.List.{list_any}
use Rattle.bods_read.specs.declared.statement.Status.TheVariants.{New}
use Rattle.bor_records.specs.declared.row.Row.{Row}
use Rattle.bor_records.specs.Admission.{is_closed}
use Rattle.bor_register.specs.declared.filing.AcceptedFiling.{AcceptedFiling}
use Rattle.bor_register.specs.declared.member.Member.{Member}
use Rattle.bor_register.specs.Rows.{is_visible}
use Rattle.bor_store_sql.specs.declared.rows.typed.StatementRow.{StatementRow}
use Rattle.bor_store_sql.specs.Rows.Placed.{bare, with_lists}
use Rattle.bor_store_sql.specs.Rows.Seen.{row_placed}
use Rattle.bor_store_sql.specs.Selected.{interests_at, identifiers_at}
use Rattle.bor_store_keys.specs.declared.view.View.{View}

-- the row of the table statement for a statement
abbrev pub bare_row : Row → StatementRow
bare_row r =
    bare (record {
      at = record { agent = r.agent; filing = r.filing; place = r.place };
      statement = r.statement;
    })

-- the statement is dated at or before the day, and the viewer sees its filing, among these of its
-- agent, on the register's day
abbrev pub is_row_seen : View → List ℕ → List AcceptedFiling → StatementRow → Bool
is_row_seen view agent filings row =
    int_le row.day view.day
    && list_any
    (λ f. f.number == row.at.filing && is_visible view.viewer view.today agent f) filings

-- a statement that isn't closed
abbrev pub stored_unless_closed : StatementRow → Option StatementRow
stored_unless_closed row = if is_closed (unwrap_or row.status New) then None else Some row

-- the row of a statement, with the interests and identifiers that stand at its place
abbrev pub listed_row : List Member → StatementRow → Row
listed_row ms row =
    row_placed (with_lists row (map (λ x. x.interest) (interests_at row.at ms))
    (map (λ x. x.identifier) (identifiers_at row.at ms)))
