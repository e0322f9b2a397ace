-- The statement that a record has on a day, and those of a declaration's records together.
use Rattle.std.specs.Prelude.{◌≡◌, ◌↔◌, ℕ, ◌+◌, ℤ, int_le, List, [], ◌∷◌, map, Contains, Bool}
use Rattle.std.specs.Prelude.{Option, Some, None, is_some, option_map, option_and_then}
use Rattle.std.specs.Prelude.{if◌then◌else◌}
use Rattle.std.specs.Option.{option_or}
use Rattle.std.specs.Ordering.{nat_cmp}
use Rattle.std.specs.Cmp.Lexicographic.{slice_cmp}
use Rattle.std.specs.List.{filter, filter_map, last_or}
use Rattle.std.specs.List.Sorted.{IsStrictlySortedBy}
use Rattle.std.specs.BTreeSet.{insert_key}
use Rattle.bor_terms.specs.Texts.{is_same}
use Rattle.bor_records.specs.declared.row.Row.{Row}
use Rattle.bor_records.specs.declared.row.Entry.{Entry}
use Rattle.bor_records.specs.Admission.{is_of, is_closed}

-- ---- one record

-- the row's statement is dated at or before the day
abbrev pub is_dated : ℤ → Row → Bool
is_dated day r = int_le r.statement.day day

-- the last of these rows that is dated at or before the day
abbrev pub latest : ℤ → List Row → Option Row
latest day rows = last_or None (filter (is_dated day) rows)

-- where it stands among them, from 0
abbrev pub latest_place : ℤ → List Row → Option ℕ
latest_place day [] = None
latest_place day (r ∷ rows) =
    option_or (option_map (λ i. i + 1) (latest_place day rows))
    (if is_dated day r then Some 0 else None)

-- the rows of one record
abbrev pub record_rows : List ℕ → List ℕ → List Row → List Row
record_rows declaration rec rows = filter (λ r. is_of declaration rec r.statement) rows

-- a row that isn't closed
abbrev pub unless_closed : Row → Option Row
unless_closed r = if is_closed r.status then None else Some r

-- the latest row of a record where the record is open on the day: that row is there and isn't
-- closed
abbrev pub open_row : List ℕ → ℤ → List Row → List ℕ → Option Row
open_row declaration day rows rec =
    option_and_then unless_closed (latest day (record_rows declaration rec rows))

abbrev pub is_open : List ℕ → ℤ → List Row → List ℕ → Bool
is_open declaration day rows rec = is_some (open_row declaration day rows rec)

-- ---- all records of a declaration

-- the entry of a row in a snapshot
abbrev pub entry_of : Row → Entry
entry_of r = record { status = r.status; statement = r.statement }

-- the declaration's records, each once, in the order of their identifiers
abbrev pub records : List ℕ → List Row → List (List ℕ)
records declaration [] = []
records declaration (r ∷ rows) =
    if is_same r.statement.declaration declaration
    then insert_key (slice_cmp nat_cmp) (records declaration rows) r.statement.rec
    else records declaration rows

-- the latest statements of its open records, in that order
abbrev pub snapshot : List ℕ → ℤ → List Row → List Entry
snapshot declaration day rows =
    map entry_of (filter_map (open_row declaration day rows) (records declaration rows))

-- ---- the snapshot, as a relation

-- The entries are those of the open records of the declaration, and they go up by their records'
-- identifiers.
pub record IsSnapshot (declaration : List ℕ) (day : ℤ) (rows : List Row)
    (entries : List Entry) : Type 0 where
  pub each : (e : Entry) → Contains entries e
      → option_map entry_of (open_row declaration day rows e.statement.rec) ≡ Some e
  pub every : (rec : List ℕ) (r : Row) → open_row declaration day rows rec ≡ Some r
      → Contains entries (entry_of r)
  pub sorted : IsStrictlySortedBy (slice_cmp nat_cmp) (map (λ e. e.statement.rec) entries)

-- one list and no other is such
abbrev pub SnapshotIsDetermined : Type 0
SnapshotIsDetermined =
    (declaration : List ℕ) (day : ℤ) (rows : List Row) (entries : List Entry)
    → IsSnapshot declaration day rows entries ↔ (entries ≡ snapshot declaration day rows)
