-- A register as rows of the seven tables, column by column. Numbers, days and percents are
-- integers, truth values are 0 and 1, texts are as they are, and the kinds are the words of BODS
-- 0.4.
use Rattle.std.specs.Prelude.{ℕ, ℤ, pos, Bool, if◌then◌else◌, List, [], ◌∷◌, ◌++◌, map, Option}
use Rattle.std.specs.Prelude.{Some, None, option_map}
use Rattle.std.specs.List.{flat_map}
use Rattle.sqlite.specs.declared.types.Value.{Value}
use Rattle.sqlite.specs.declared.types.Value.TheVariants.{Null, Int, Text, Blob}
use Rattle.sqlite.specs.Order.{Row}
use Rattle.bor_terms.specs.Span.{Range}
use Rattle.bods_read.specs.Words.{type_word, status_word, entity_word, person_word, interest_word}
use Rattle.bods_read.specs.Words.{directness_word}
use Rattle.bods_read.specs.declared.statement.RecordType.TheVariants as types
use Rattle.bor_register.specs.Register.{Register}
use Rattle.bor_register.specs.declared.filing.AcceptedFiling.{AcceptedFiling}
use Rattle.bor_register.specs.declared.filing.Filing.{Filing}
use Rattle.bor_register.specs.declared.member.Member.{Member}
use Rattle.bor_store_sql.specs.declared.rows.typed.RegisterRow.{RegisterRow}
use Rattle.bor_store_sql.specs.declared.rows.typed.AgentRow.{AgentRow}
use Rattle.bor_store_sql.specs.declared.rows.typed.FilingRow.{FilingRow}
use Rattle.bor_store_sql.specs.declared.rows.typed.Part.{Part}
use Rattle.bor_store_sql.specs.declared.rows.typed.Part.TheVariants as part
use Rattle.bor_store_sql.specs.declared.rows.typed.StatementRow.{StatementRow}
use Rattle.bor_store_sql.specs.declared.rows.typed.InterestRow.{InterestRow}
use Rattle.bor_store_sql.specs.declared.rows.typed.InterestLine.{InterestLine}
use Rattle.bor_store_sql.specs.declared.rows.typed.PeriodRow.{PeriodRow}
use Rattle.bor_store_sql.specs.declared.rows.typed.IdentifierRow.{IdentifierRow}
use Rattle.bor_store_sql.specs.Rows.Placed.{register_row, agent_row, bare, interest_line}
use Rattle.bor_store_sql.specs.Rows.Placed.{interest_rows, period_rows, identifier_rows, placed}

-- ---- values

abbrev pub truth : Bool → Value
truth b = Int (pos (if b then 1 else 0))

abbrev pub or_null : Option (List ℕ) → Value
or_null None = Null
or_null (Some text) = Text text

-- ---- the versions of the tables

-- the version of these tables
abbrev pub tables_version : ℤ
tables_version = pos 2

-- the version before it, of tables without the days of interests
abbrev pub first_version : ℤ
first_version = pos 1

-- ---- the columns of a row

-- register: one, version, day, registrar
abbrev pub versioned_columns : ℤ → RegisterRow → Row
versioned_columns version r = Int (pos 1) ∷ Int version ∷ Int r.day ∷ Text r.registrar ∷ []

-- the columns of the register's row in the version of these tables
abbrev pub register_row_columns : RegisterRow → Row
register_row_columns r = versioned_columns tables_version r

abbrev pub register_columns : Register → Row
register_columns r = register_row_columns (register_row r)

-- agent: name, token
abbrev pub agent_row_columns : AgentRow → Row
agent_row_columns a = Text a.name ∷ Text a.token ∷ []

abbrev pub agent_columns : Member → Row
agent_columns m = agent_row_columns (agent_row m)

-- filing: agent, number, lodge_key, due, withdrawn, bytes
abbrev pub filing_columns : List ℕ → AcceptedFiling → Row
filing_columns agent f =
    Text agent ∷ Int (pos f.number) ∷ Text f.key ∷ Int f.due ∷ truth f.withdrawn ∷ Blob f.bytes ∷ []

-- statement: kind, the word of what its record is of
abbrev pub kind_word : Part → List ℕ
kind_word (part.Entity kind name) = type_word types.Entity
kind_word (part.Person kind name) = type_word types.Person
kind_word (part.Relationship subject party) = type_word types.Relationship

-- statement: sub_kind, name, subject, party
abbrev pub part_columns : Part → Row
part_columns (part.Entity kind name) = Text (entity_word kind) ∷ or_null name ∷ Null ∷ Null ∷ []
part_columns (part.Person kind name) = Text (person_word kind) ∷ or_null name ∷ Null ∷ Null ∷ []
part_columns (part.Relationship subject party) = Null ∷ Null ∷ or_null subject ∷ or_null party ∷ []

-- statement: agent, filing, place, id, day, declaration, rec, kind, status, and the four above; the
-- table has no statement without a status
abbrev pub statement_columns : StatementRow → Row
statement_columns s =
    Text s.at.agent ∷ Int (pos s.at.filing) ∷ Int (pos s.at.place) ∷ Text s.id ∷ Int s.day
    ∷ Text s.declaration ∷ Text s.rec
    ∷ Text (kind_word s.part) ∷ or_null (option_map status_word s.status) ∷ part_columns s.part

-- interest: low, low_open, high, high_open
abbrev pub share_columns : Option Range → Row
share_columns None = Null ∷ Null ∷ Null ∷ Null ∷ []
share_columns (Some s) =
    Int (pos s.low) ∷ truth s.low_open ∷ Int (pos s.high) ∷ truth s.high_open ∷ []

-- interest: agent, filing, place, item, kind, directness, and the four above; the days are in
-- period
abbrev pub interest_line_columns : InterestLine → Row
interest_line_columns i =
    Text i.at.agent ∷ Int (pos i.at.filing) ∷ Int (pos i.at.place) ∷ Int (pos i.item)
    ∷ Text (interest_word i.kind)
    ∷ Text (directness_word i.directness) ∷ share_columns i.share

abbrev pub interest_columns : InterestRow → Row
interest_columns i = interest_line_columns (interest_line i)

-- period: starts, ends
abbrev pub day_or_null : Option ℤ → Value
day_or_null None = Null
day_or_null (Some day) = Int day

-- period: agent, filing, place, item, starts, ends
abbrev pub period_columns : PeriodRow → Row
period_columns p =
    Text p.at.agent ∷ Int (pos p.at.filing) ∷ Int (pos p.at.place) ∷ Int (pos p.item)
    ∷ day_or_null p.starts ∷ day_or_null p.ends ∷ []

-- identifier: agent, filing, place, item, scheme, id
abbrev pub identifier_columns : IdentifierRow → Row
identifier_columns i =
    Text i.at.agent ∷ Int (pos i.at.filing) ∷ Int (pos i.at.place) ∷ Int (pos i.item)
    ∷ Text i.identifier.scheme ∷ Text i.identifier.id ∷ []

-- ---- the rows of a register

abbrev pub filing_rows : List Member → List Row
filing_rows [] = []
filing_rows (m ∷ ms) = map (filing_columns m.name) m.filings ++ filing_rows ms

-- the rows of the seven tables
pub record Contents : Type 0 where
  pub register : List Row
  pub agents : List Row
  pub filings : List Row
  pub statements : List Row
  pub interests : List Row
  pub periods : List Row
  pub identifiers : List Row

-- One row for the register, one for each agent, for each filing, for each statement of a filing,
-- for each interest, each interest with a day, and each identifier of a statement. A withdrawn
-- filing has no statements.
abbrev pub contents : Register → Contents
contents r = record {
  register = register_columns r ∷ [];
  agents = map agent_columns r.members;
  filings = filing_rows r.members;
  statements = map (λ p. statement_columns (bare p)) (placed r.members);
  interests = flat_map (λ p. map interest_columns (interest_rows p)) (placed r.members);
  periods = flat_map (λ p. flat_map (λ i. map period_columns (period_rows i)) (interest_rows p))
      (placed r.members);
  identifiers = flat_map (λ p. map identifier_columns (identifier_rows p)) (placed r.members);
}

-- ---- the rows of the queries on filings

-- agent, number, lodge_key, due, withdrawn
abbrev pub line_columns : FilingRow → Row
line_columns f = Text f.agent ∷ Int (pos f.number) ∷ Text f.key ∷ Int f.due ∷ truth f.withdrawn ∷ []

-- number, due, withdrawn, bytes
abbrev pub shown_columns : Filing → Row
shown_columns f = Int (pos f.number) ∷ Int f.due ∷ truth f.withdrawn ∷ Blob f.bytes ∷ []
