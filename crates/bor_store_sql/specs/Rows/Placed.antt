-- The rows of the tables for a register, row by row with each value of its type: its day and the
-- registrar's token, agents, filings, and statements with where they stand.
use Rattle.std.specs.Prelude.{◌≡◌, ℕ, ℤ, Option, Some, None, ◌+◌, List, [], ◌∷◌, ◌++◌, map, ◌==◌}
use Rattle.std.specs.Prelude.{◌&&◌, Bool, false}
use Rattle.std.specs.List.{AllByRecursion}
use Rattle.bor_terms.specs.Texts.{is_same}
use Rattle.bods_read.specs.declared.statement.Statement.{Statement}
use Rattle.bods_read.specs.declared.details.Details.{Details}
use Rattle.bods_read.specs.declared.details.Details.TheVariants as details
use Rattle.bods_read.specs.declared.details.Identifier.{Identifier}
use Rattle.bods_read.specs.declared.interest.Interest.{Interest}
use Rattle.bor_register.specs.declared.filing.AcceptedFiling.{AcceptedFiling}
use Rattle.bor_register.specs.declared.member.Member.{Member}
use Rattle.bor_register.specs.Register.{Register}
use Rattle.bor_store_sql.specs.declared.rows.places.At.{At}
use Rattle.bor_store_sql.specs.declared.rows.typed.RegisterRow.{RegisterRow}
use Rattle.bor_store_sql.specs.declared.rows.typed.AgentRow.{AgentRow}
use Rattle.bor_store_sql.specs.declared.rows.typed.FilingRow.{FilingRow}
use Rattle.bor_store_sql.specs.declared.rows.typed.Placed.{Placed}
use Rattle.bor_store_sql.specs.declared.rows.typed.Part.{Part}
use Rattle.bor_store_sql.specs.declared.rows.typed.Part.TheVariants as part
use Rattle.bor_store_sql.specs.declared.rows.typed.StatementRow.{StatementRow}
use Rattle.bor_store_sql.specs.declared.rows.typed.InterestRow.{InterestRow}
use Rattle.bor_store_sql.specs.declared.rows.typed.InterestLine.{InterestLine}
use Rattle.bor_store_sql.specs.declared.rows.typed.PeriodRow.{PeriodRow}
use Rattle.bor_store_sql.specs.declared.rows.typed.IdentifierRow.{IdentifierRow}

abbrev pub register_row : Register → RegisterRow
register_row r = record { day = r.day; registrar = r.registrar }

abbrev pub agent_row : Member → AgentRow
agent_row m = record { name = m.name; token = m.token }

-- ---- filings

-- an agent's filing without its file
abbrev pub filing_row : List ℕ → AcceptedFiling → FilingRow
filing_row agent f =
    record { agent = agent; number = f.number; key = f.key; due = f.due; withdrawn = f.withdrawn }

-- all filings, by agent and number
abbrev pub filing_lines : List Member → List FilingRow
filing_lines [] = []
filing_lines (m ∷ ms) = map (filing_row m.name) m.filings ++ filing_lines ms

-- ---- where a statement stands

abbrev pub same_place : At → At → Bool
same_place a b = a.filing == b.filing && (a.place == b.place && is_same a.agent b.agent)

-- ---- the rows of the tables for a statement

-- the details without their lists
abbrev pub part_of : Details → Part
part_of (details.Entity kind name identifiers) = part.Entity kind name
part_of (details.Person kind name) = part.Person kind name
part_of (details.Relationship subject party interests) = part.Relationship subject party

abbrev pub interests_listed : Details → List Interest
interests_listed (details.Entity kind name identifiers) = []
interests_listed (details.Person kind name) = []
interests_listed (details.Relationship subject party interests) = interests

abbrev pub identifiers_listed : Details → List Identifier
identifiers_listed (details.Entity kind name identifiers) = identifiers
identifiers_listed (details.Person kind name) = []
identifiers_listed (details.Relationship subject party interests) = []

-- its row in the table statement
abbrev pub bare : Placed → StatementRow
bare p = record {
  at = p.at;
  id = p.statement.id;
  day = p.statement.day;
  declaration = p.statement.declaration;
  rec = p.statement.rec;
  status = p.statement.status;
  part = part_of p.statement.details;
}

abbrev pub interests_from : At → ℕ → List Interest → List InterestRow
interests_from at item [] = []
interests_from at item (i ∷ is) =
    record { at = at; item = item; interest = i } ∷ interests_from at (item + 1) is

abbrev pub identifiers_from : At → ℕ → List Identifier → List IdentifierRow
identifiers_from at item [] = []
identifiers_from at item (i ∷ is) =
    record { at = at; item = item; identifier = i } ∷ identifiers_from at (item + 1) is

-- its interests, each with where it stands
abbrev pub interest_rows : Placed → List InterestRow
interest_rows p = interests_from p.at 1 (interests_listed p.statement.details)

-- its rows in the table identifier
abbrev pub identifier_rows : Placed → List IdentifierRow
identifier_rows p = identifiers_from p.at 1 (identifiers_listed p.statement.details)

-- an interest's row in the table interest
abbrev pub interest_line : InterestRow → InterestLine
interest_line i =
    record {
      at = i.at;
      item = i.item;
      kind = i.interest.kind;
      directness = i.interest.directness;
      share = i.interest.share;
    }

-- the row, where one of the days is there
abbrev pub if_said : PeriodRow → Option ℤ → Option ℤ → List PeriodRow
if_said p None None = []
if_said p None (Some end) = p ∷ []
if_said p (Some start) ends = p ∷ []

abbrev pub period_of : InterestRow → PeriodRow
period_of i =
    record { at = i.at; item = i.item; starts = i.interest.starts; ends = i.interest.ends }

-- its rows in the table period: one where it has a day, else none
abbrev pub period_rows : InterestRow → List PeriodRow
period_rows i = if_said (period_of i) i.interest.starts i.interest.ends

-- whether an interest is another, by place and item
abbrev pub same_interest : At → ℕ → At → ℕ → Bool
same_interest a m b n = m == n && same_place a b

-- none of the periods is of the interest
abbrev pub Misses : InterestRow → List PeriodRow → Type 0
Misses i ps = AllByRecursion (λ p. same_interest p.at p.item i.at i.item ≡ false) ps

-- no two are the same interest
abbrev pub AreSeveral : List InterestRow → Type 0
AreSeveral [] = Unit {0}
AreSeveral (i ∷ is) =
    AllByRecursion (λ j. same_interest j.at j.item i.at i.item ≡ false) is × AreSeveral is

-- where the row is an interest's and the periods are its own and then those of others, this holds
-- of the interest and of the others
abbrev pub OfNext : InterestLine → List PeriodRow → (InterestRow → List PeriodRow → Type 0) → Type 0
OfNext line periods P =
    (i : InterestRow) (others : List PeriodRow) → line ≡ interest_line i
    → periods ≡ period_rows i ++ others → Misses i others → P i others

-- ---- and back

abbrev pub details_with : Part → List Interest → List Identifier → Details
details_with (part.Entity kind name) interests identifiers = details.Entity kind name identifiers
details_with (part.Person kind name) interests identifiers = details.Person kind name
details_with (part.Relationship subject party) interests identifiers =
    details.Relationship subject party interests

abbrev pub with_lists : StatementRow → List Interest → List Identifier → Placed
with_lists row interests identifiers = record {
  at = row.at;
  statement = record {
    id = row.id;
    day = row.day;
    declaration = row.declaration;
    rec = row.rec;
    status = row.status;
    details = details_with row.part interests identifiers;
  };
}

-- ---- all statements of a register

abbrev pub placed_from : List ℕ → ℕ → ℕ → List Statement → List Placed
placed_from agent filing place [] = []
placed_from agent filing place (s ∷ ss) =
    record { at = record { agent = agent; filing = filing; place = place }; statement = s }
    ∷ placed_from agent filing (place + 1) ss

abbrev pub placed_by : List ℕ → List AcceptedFiling → List Placed
placed_by agent [] = []
placed_by agent (f ∷ fs) = placed_from agent f.number 1 f.statements ++ placed_by agent fs

abbrev pub placed : List Member → List Placed
placed [] = []
placed (m ∷ ms) = placed_by m.name m.filings ++ placed ms

-- no two stand at one place
abbrev pub AreApart : List Placed → Type 0
AreApart [] = Unit {0}
AreApart (p ∷ ps) = AllByRecursion (λ q. same_place q.at p.at ≡ false) ps × AreApart ps
