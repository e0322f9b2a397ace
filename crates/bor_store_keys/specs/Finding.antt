-- The answers that have been found over a connection, for a viewer and a day.
use Rattle.std.specs.Prelude.{◌≡◌, Bool, Option, Some, None, IfSome}
use Rattle.std.specs.BTreeMap.{BTreeMap, get}
use Rattle.std.specs.Ordering.{nat_cmp, ordering_then}
use Rattle.std.specs.declared.cmp.Ordering.{Ordering}
use Rattle.sqlite.specs.State.{State}
use Rattle.bor_records.specs.declared.row.Row.{Row}
use Rattle.bor_records.specs.declared.links.node.Node.{Node}
use Rattle.bor_records.specs.Links.Nodes.{node_cmp, text_cmp}
use Rattle.bor_records.specs.Links.Series.{open_at}
use Rattle.bor_register.specs.Register.{Register, filings_of}
use Rattle.bor_store_sql.specs.Shown.{IsClean, ShowsIn}
use Rattle.bor_store_sql.specs.declared.rows.places.At.{At}
use Rattle.bor_store_sql.specs.declared.rows.places.FilingKey.{FilingKey}
use Rattle.bor_store_reads.specs.Asking.{is_number_seen}
use Rattle.bor_store_keys.specs.declared.found.Found.{Found}
use Rattle.bor_store_keys.specs.Signed.{record_standing}
use Rattle.bor_store_keys.specs.Viewed.{rows_seen, seen}

-- by number, then agent
abbrev pub filing_cmp : FilingKey → FilingKey → Ordering
filing_cmp a b = ordering_then (nat_cmp a.number b.number) (text_cmp a.agent b.agent)

-- by filing, place and agent
abbrev pub place_cmp : At → At → Ordering
place_cmp a b =
    ordering_then (nat_cmp a.filing b.filing)
    (ordering_then (nat_cmp a.place b.place) (text_cmp a.agent b.agent))

-- of each of the records the live statement at the place is one
abbrev pub AreRecordsAt : Register → BTreeMap At Node → Type 0
AreRecordsAt r places =
    (at : At) (n : Node) → get place_cmp places at ≡ Some n → record_standing r.members at ≡ Some n

-- the answers that were found are those of the register
pub record AreOf (r : Register) (f : Found) : Type 0 where
  pub today : f.view.today ≡ r.day
  pub filings : (k : FilingKey) (seen : Bool) → get filing_cmp f.filings k ≡ Some seen → seen
      ≡ is_number_seen f.view.viewer f.view.today k.agent (filings_of k.agent r.members) k.number
  pub rows : (n : Node) (row : Option Row) → get node_cmp f.rows n ≡ Some row
      → row ≡ open_at f.view.day n (rows_seen f.view r)
  pub places : AreRecordsAt r f.places
  pub lists : IfSome f.lists (λ l. l.shown ≡ seen f.view r)

-- where the connection is clean, this holds of each register that it shows
abbrev pub Holds : State → (Register → Type 0) → Type 0
Holds s P = IsClean s → (r : Register) → ShowsIn r s → P r

-- the answers that were found, if any, are those of the register that the connection shows
abbrev pub IsCurrent : State → Option Found → Type 0
IsCurrent s None = Unit {0}
IsCurrent s (Some f) = Holds s (λ r. AreOf r f)
