-- Each value from the columns that it has: no two values have the same.
use Rattle.std.proofs.Common.{◌≡◌, ℕ, zero, suc, ℤ, pos, negsuc, Bool, true, false, List, [], map, Option, Some, None, option_map, refl, sym, ap, ap₂, ◌∙◌, unwrap_or, rules}
use Rattle.sqlite.specs.declared.types.Value.{Value}
use Rattle.sqlite.specs.declared.types.Value.TheVariants.{Int, Text, Blob}
use Rattle.sqlite.specs.Order.{Row, column}
use Rattle.bor_terms.specs.Span.{Range}
use Rattle.bods_read.specs.Words.{type_worded, status_word, status_worded, entity_kind_of, person_kind_of, interest_kind_of, directness_named}
use Rattle.bods_read.specs.declared.statement.RecordType.{RecordType}
use Rattle.bods_read.specs.declared.statement.RecordType.TheVariants as types
use Rattle.bods_read.specs.declared.statement.Status.{Status}
use Rattle.bods_read.specs.declared.details.EntityKind.TheVariants as entities
use Rattle.bods_read.specs.declared.details.PersonKind.TheVariants as persons
use Rattle.bods_read.specs.declared.interest.InterestKind.TheVariants as interests
use Rattle.bods_read.specs.declared.interest.Directness.TheVariants as directness
use Rattle.bor_register.specs.declared.filing.AcceptedFiling.{AcceptedFiling}
use Rattle.bor_store_sql.specs.declared.rows.places.At.{At}
use Rattle.bor_store_sql.specs.declared.rows.typed.RegisterRow.{RegisterRow}
use Rattle.bor_store_sql.specs.declared.rows.typed.AgentRow.{AgentRow}
use Rattle.bor_store_sql.specs.declared.rows.typed.Part.{Part}
use Rattle.bor_store_sql.specs.declared.rows.typed.Part.TheVariants as part
use Rattle.bor_store_sql.specs.declared.rows.typed.StatementRow.{StatementRow}
use Rattle.bor_store_sql.specs.declared.rows.typed.InterestLine.{InterestLine}
use Rattle.bor_store_sql.specs.declared.rows.typed.PeriodRow.{PeriodRow}
use Rattle.bor_store_sql.specs.declared.rows.typed.IdentifierRow.{IdentifierRow}
use Rattle.bods_read.specs.WordLaws.{type_back, status_back, entity_back, person_back, interest_back, directness_back}
use Rattle.bor_store_sql.specs.Rows.Encoding.{truth, or_null, day_or_null, statement_columns, interest_line_columns, period_columns, identifier_columns, filing_columns}
use Rattle.sqlite_keyed.proofs.ListLemmas.{map_back}

-- ---- lists of rows

-- the same rows are those of the same values
pub same_values : {X Y : Type 0} (f : X → Y) (g : Y → X) → ((x : X) → g (f x) ≡ x) → (xs ys : List X) → map f xs ≡ map f ys → xs ≡ ys
same_values f g back xs ys same = sym (map_back f g back xs) ∙ ap (map g) same ∙ map_back f g back ys

-- ---- values

abbrev pub text_in : Value → List ℕ
text_in (Text t) = t
text_in _ = []

abbrev pub int_in : Value → ℤ
int_in (Int n) = n
int_in _ = pos 0

abbrev nat_of : ℤ → ℕ
nat_of (pos n) = n
nat_of (negsuc n) = 0

abbrev pub number_in : Value → ℕ
number_in v = nat_of (int_in v)

abbrev pub bytes_in : Value → List ℕ
bytes_in (Blob b) = b
bytes_in _ = []

abbrev is_some_number : ℕ → Bool
is_some_number zero = false
is_some_number (suc n) = true

abbrev flag_in : Value → Bool
flag_in v = is_some_number (number_in v)

flag_back : (b : Bool) → flag_in (truth b) ≡ b
flag_back b = search rules

abbrev text_or_none : Value → Option (List ℕ)
text_or_none (Text t) = Some t
text_or_none _ = None

text_back : (o : Option (List ℕ)) → text_or_none (or_null o) ≡ o
text_back o = search rules

abbrev day_or_none : Value → Option ℤ
day_or_none (Int z) = Some z
day_or_none _ = None

day_back : (o : Option ℤ) → day_or_none (day_or_null o) ≡ o
day_back o = search rules

abbrev status_in : Value → Option Status
status_in (Text t) = status_worded t
status_in _ = None

status_read : (o : Option Status) → status_in (or_null (option_map status_word o)) ≡ o
status_read None = refl
status_read (Some s) = status_back s

abbrev at_in : Row → At
at_in row = record { agent = text_in (column row 0); filing = number_in (column row 1); place = number_in (column row 2) }

-- ---- rows

abbrev pub agent_in : Row → AgentRow
agent_in row = record { name = text_in (column row 0); token = text_in (column row 1) }

abbrev pub register_in : Row → RegisterRow
register_in row = record { day = int_in (column row 2); registrar = text_in (column row 3) }

-- a filing with its agent's name, and without statements
pub record Filed : Type 0 where
  pub agent : List ℕ
  pub filing : AcceptedFiling

abbrev pub without_statements : AcceptedFiling → AcceptedFiling
without_statements f = record f { statements = [] }

abbrev pub filed : List ℕ → AcceptedFiling → Filed
filed agent f = record { agent = agent; filing = without_statements f }

abbrev pub filing_in : Row → Filed
filing_in row = record {
  agent = text_in (column row 0);
  filing = record {
    number = number_in (column row 1);
    key = text_in (column row 2);
    due = int_in (column row 3);
    withdrawn = flag_in (column row 4);
    bytes = bytes_in (column row 5);
    statements = [];
  };
}

pub filing_back : (agent : List ℕ) (f : AcceptedFiling) → filing_in (filing_columns agent f) ≡ filed agent f
filing_back agent f = ap (λ b. record { agent = agent; filing = record (without_statements f) { withdrawn = b } }) (flag_back f.withdrawn)

-- the part of a statement, by what its record is of
abbrev part_in : Option RecordType → Row → Part
part_in (Some types.Person) row = part.Person (unwrap_or (person_kind_of (text_in (column row 9))) persons.Other) (text_or_none (column row 10))
part_in (Some types.Relationship) row = part.Relationship (text_or_none (column row 11)) (text_or_none (column row 12))
part_in (Some types.Entity) row = part.Entity (unwrap_or (entity_kind_of (text_in (column row 9))) entities.Other) (text_or_none (column row 10))
part_in None row = part.Relationship None None

abbrev pub statement_in : Row → StatementRow
statement_in row = record {
  at = at_in row;
  id = text_in (column row 3);
  day = int_in (column row 4);
  declaration = text_in (column row 5);
  rec = text_in (column row 6);
  status = status_in (column row 8);
  part = part_in (type_worded (text_in (column row 7))) row;
}

pub statement_back : (s : StatementRow) → statement_in (statement_columns s) ≡ s
statement_back s = ap (λ o. record (statement_in (statement_columns s)) { status = o }) (status_read s.status) ∙ go s.part
  where
    go : (p : Part) → record (statement_in (statement_columns (record s { part = p }))) { status = s.status } ≡ record s { part = p }
    go (part.Entity kind name) = rw (type_back types.Entity, entity_back kind, text_back name) refl
    go (part.Person kind name) = rw (type_back types.Person, person_back kind, text_back name) refl
    go (part.Relationship subject party) = rw (type_back types.Relationship, text_back subject, text_back party) refl

abbrev share_in : Row → Value → Option Range
share_in row (Int n) = Some (record { low = nat_of n; low_open = flag_in (column row 7); high = number_in (column row 8); high_open = flag_in (column row 9) })
share_in row _ = None

abbrev pub line_in : Row → InterestLine
line_in row = record {
  at = at_in row;
  item = number_in (column row 3);
  kind = unwrap_or (interest_kind_of (text_in (column row 4))) interests.Other;
  directness = unwrap_or (directness_named (text_in (column row 5))) directness.Unknown;
  share = share_in row (column row 6);
}

pub line_back : (i : InterestLine) → line_in (interest_line_columns i) ≡ i
line_back i = go i.share
  where
    go : (o : Option Range) → line_in (interest_line_columns (record i { share = o })) ≡ record i { share = o }
    go None = rw (interest_back i.kind, directness_back i.directness) refl
    go (Some s) = rw (interest_back i.kind, directness_back i.directness, flag_back s.low_open, flag_back s.high_open) refl

abbrev pub period_in : Row → PeriodRow
period_in row = record { at = at_in row; item = number_in (column row 3); starts = day_or_none (column row 4); ends = day_or_none (column row 5) }

pub period_back : (p : PeriodRow) → period_in (period_columns p) ≡ p
period_back p = ap₂ (λ s e. record p { starts = s; ends = e }) (day_back p.starts) (day_back p.ends)

abbrev pub identifier_in : Row → IdentifierRow
identifier_in row = record { at = at_in row; item = number_in (column row 3); identifier = record { scheme = text_in (column row 4); id = text_in (column row 5) } }

pub identifier_back : (i : IdentifierRow) → identifier_in (identifier_columns i) ≡ i
identifier_back i = refl
