-- The statements of a file that stand before one of them, found by identifier and by record; for
-- clauses of private functions alone.
use Rattle.std.specs.Prelude.{◌≡◌, ℕ, List}
use Rattle.std.specs.Ordering.{nat_cmp, ordering_then}
use Rattle.std.specs.declared.cmp.Ordering.{Ordering}
use Rattle.std.specs.Cmp.Lexicographic.{slice_cmp}
use Rattle.std.specs.BTreeMap.{get}
use Rattle.std.specs.BTreeSet.{contains}
use Rattle.bods_read.specs.declared.statement.Statement.{Statement}
use Rattle.bor_records.specs.Admission.{Live, last_of}
use Rattle.bor_records.specs.Settling.{has_id}
use Rattle.bor_desk.specs.declared.operations.earlier.RecordKey.{RecordKey}
use Rattle.bor_desk.specs.declared.operations.earlier.Earlier.{Earlier}

-- by record, then declaration, byte by byte
abbrev pub record_cmp : RecordKey → RecordKey → Ordering
record_cmp a b =
    ordering_then (slice_cmp nat_cmp a.rec b.rec) (slice_cmp nat_cmp a.declaration b.declaration)

-- the record that the statement is of
abbrev pub record_of : Statement → RecordKey
record_of s = record { rec = s.rec; declaration = s.declaration }

-- The maps have these live statements: their identifiers, and of each record its last one, as far
-- as the rules ask.
pub record AreFound (live : List Live) (earlier : Earlier) : Type 0 where
  pub ids : (id : List ℕ) → contains (slice_cmp nat_cmp) earlier.ids id ≡ has_id id live
  pub lasts : (key : RecordKey)
      → get record_cmp earlier.lasts key ≡ last_of key.declaration key.rec live
