-- When no less is held than before: interests and relationships may be added, and all else is the
-- same.
use Rattle.std.specs.Prelude.{◌≡◌, ◌≤◌, ℤ, List, ◌∷◌, ◌++◌, Contains, IsTrue, true, false, length}
use Rattle.std.specs.Prelude.{Option, Some, None, option_and_then}
use Rattle.std.specs.List.{list_any}
use Rattle.bods_read.specs.declared.details.Details.{Details}
use Rattle.bods_read.specs.declared.details.Details.TheVariants as details
use Rattle.bods_read.specs.declared.interest.Interest.{Interest}
use Rattle.bor_records.specs.declared.row.Row.{Row}
use Rattle.bor_records.specs.Admission.{is_closed}
use Rattle.bor_records.specs.Snapshot.{is_dated}
use Rattle.bor_records.specs.declared.links.node.Node.{Node}
use Rattle.bor_records.specs.declared.links.node.Link.{Link}
use Rattle.bor_records.specs.Links.Series.{series_of, is_of, open_at}
use Rattle.bor_records.specs.Links.Shown.{Shown, listed_at}
use Rattle.bor_records.specs.Links.Rows.{node_in, shown_of}
use Rattle.bor_records.specs.Links.Stakes.{is_stake, is_holding}
use Rattle.bor_chains.specs.declared.line.PersonLine.{PersonLine}
use Rattle.bor_chains.specs.Chains.{IsChain, AreJoined}

-- ---- interests, and rows

-- the second list has all interests of the first
abbrev pub AreAmong : List Interest → List Interest → Type 0
AreAmong interests more = (i : Interest) → Contains interests i → Contains more i

-- the same details, but that a relationship may have more interests
abbrev pub StatesNoLess : Details → Details → Type 0
StatesNoLess (details.Entity kind name identifiers) d = d ≡ details.Entity kind name identifiers
StatesNoLess (details.Person kind name) d = d ≡ details.Person kind name
StatesNoLess (details.Relationship subject party interests) d =
    (more : List Interest) × (d ≡ details.Relationship subject party more) × AreAmong interests more

-- What is open of a record: where a row was, one that states no less; where none was, none that
-- makes a node.
abbrev pub IsOpenNoLess : Option Row → Option Row → Type 0
IsOpenNoLess None o = option_and_then node_in o ≡ None
IsOpenNoLess (Some r) o =
    (q : Row) × (o ≡ Some q) × StatesNoLess r.statement.details q.statement.details

-- .. of each record on a day
abbrev pub AreOpenNoLess : ℤ → List Row → List Row → Type 0
AreOpenNoLess day rows more = (n : Node) → IsOpenNoLess (open_at day n rows) (open_at day n more)

-- the row with other details
abbrev pub with_details : Details → Row → Row
with_details d r = record r { statement = record r.statement { details = d } }

-- ---- nodes and links, and reports

-- a link between the same two: a majority stake where the first is one, and a holding where it is
pub record IsNoLess (l k : Link) : Type 0 where
  pub party : k.party ≡ l.party
  pub subject : k.subject ≡ l.subject
  pub stake : IsTrue l.stake → IsTrue k.stake
  pub holding : IsTrue l.holding → IsTrue k.holding

-- the same nodes, and for each link one that is no less
pub record ShowsNoLess (s t : Shown) : Type 0 where
  pub nodes : (n : Node) → listed_at t.nodes n ≡ listed_at s.nodes n
  pub links : (l : Link) → Contains s.links l → (k : Link) × Contains t.links k × IsNoLess l k

-- each person is in the second report too, shown alike, with as many links or fewer
abbrev pub NamesNoFewer : List PersonLine → List PersonLine → Type 0
NamesNoFewer lines more =
    (x : PersonLine) → Contains lines x → (y : PersonLine) × Contains more y
    × (y.node ≡ x.node) × (y.info ≡ x.info) × (y.links ≤ x.links)

-- ---- the law

-- One more interest takes nobody out of a report and makes no number of links greater.
pub record MoreVotesTakeNobodyOut : Type 0 where
  -- among more interests a majority stake stays one, and a holding too
  pub stakes : (day : ℤ) (few more : List Interest) → AreAmong few more
      → IsTrue (is_stake day few) → IsTrue (is_stake day more)
  pub holdings : (day : ℤ) (few more : List Interest) → AreAmong few more
      → IsTrue (is_holding day few) → IsTrue (is_holding day more)
  -- an interest may be added to a statement ..
  pub by_interest : (day : ℤ) (before after : List Row) (r : Row) (d : Details)
      → StatesNoLess r.statement.details d
      → AreOpenNoLess day (before ++ r ∷ after) (before ++ with_details d r ∷ after)
  -- .. or by a statement that is the last of its record: of an open relationship, or of a new one
  pub by_statement : (day : ℤ) (before after : List Row) (r : Row)
      → is_dated day r ≡ true → is_closed r.status ≡ false
      → list_any (is_of (series_of r)) after ≡ false
      → IsOpenNoLess (open_at day (series_of r) (before ++ after)) (Some r)
      → AreOpenNoLess day (before ++ after) (before ++ r ∷ after)
  -- then no less is shown ..
  pub shown : (day : ℤ) (rows more : List Row) → AreOpenNoLess day rows more
      → ShowsNoLess (shown_of day rows) (shown_of day more)
  -- .. so each chain has one of as many links, and each person is named again
  pub chains : (s t : Shown) (person e : Node) (ls : List Link) → ShowsNoLess s t
      → IsChain s person ls e → (ks : List Link) × IsChain t person ks e × (length ks ≡ length ls)
  pub reports : (s t : Shown) (e : Node) (lines more : List PersonLine) → ShowsNoLess s t
      → AreJoined s e lines → AreJoined t e more → NamesNoFewer lines more
