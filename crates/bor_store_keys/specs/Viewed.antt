-- The part of a register that a viewer sees on a day.
use Rattle.std.specs.Prelude.{List}
use Rattle.bor_records.specs.declared.row.Row.{Row}
use Rattle.bor_records.specs.Links.Shown.{Shown}
use Rattle.bor_records.specs.Links.Relationships.{RowsOn, shown_on}
use Rattle.bor_register.specs.Register.{Register}
use Rattle.bor_register.specs.Rows.{visible}
use Rattle.bor_store_keys.specs.declared.view.View.{View}

-- the rows that the viewer sees on the register's day
abbrev pub rows_seen : View → Register → List Row
rows_seen view r = visible view.viewer view.today r.members

-- as they stand on the day of the answer
abbrev pub rows_on : View → Register → RowsOn
rows_on view r = record { day = view.day; rows = rows_seen view r }

-- their nodes and links
abbrev pub seen : View → Register → Shown
seen view r = shown_on (rows_on view r)

-- a register, as it is seen
pub record Viewing : Type 0 where
  pub view : View
  pub register : Register

abbrev pub shown_in : Viewing → Shown
shown_in m = seen m.view m.register
