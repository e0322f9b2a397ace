-- What each text of `texts::queries` asks for.
use Rattle.std.specs.Prelude.{ℕ, pos, negsuc, List, [], ◌∷◌, None, true, false}
use Rattle.sqlite.specs.declared.types.Value.TheVariants.{Int}
use Rattle.sqlite.specs.Term.{Term, lit, col, op2}
use Rattle.sqlite.specs.Query.{Query, inner, end}
use Rattle.sqlite.specs.Collation.TheVariants.{Binary}
use Rattle.sqlite_value.specs.declared.keys.Key.{Key}
use Rattle.sqlite_value.specs.Keys.{ascending}
use Rattle.sqlite.specs.Command.{Command}
use Rattle.sqlite.specs.Command.TheVariants.{Select}
use Rattle.sqlite_sql.specs.declared.ops.BinaryOp.TheVariants.{Compare}
use Rattle.sqlite_sql.specs.declared.ops.CompareOp.TheVariants.{Eq}

-- Columns are counted from 1, parameters from 0.

-- the column equals the parameter
abbrev pub equals : ℕ → ℕ → Term
equals column parameter = op2 (Compare Eq Binary) (col 1 column) (col 0 parameter)

-- sorted by the column, up
abbrev pub rising : ℕ → Term × Key
rising column = (col 1 column, ascending Binary)

-- sorted by the column, down
abbrev pub falling : ℕ → Term × Key
falling column = (col 1 column, record { collation = Binary; descending = true })

-- a query over the rows of one tree
abbrev pub table_query : ℕ → List Term → List Term → List (Term × Key) → Query
table_query t tests project order = record {
  from = inner t end;
  filter = tests;
  group = None;
  project = project;
  distinct = false;
  collations = [];
  order = order;
  limit = lit (Int (negsuc 0));
  offset = lit (Int (pos 0));
}

-- the same, of which the first row alone is shown
abbrev pub first_query : ℕ → List Term → List Term → List (Term × Key) → Query
first_query t tests project order =
    record (table_query t tests project order) { limit = lit (Int (pos 1)) }

-- the same, of which one row is shown, with as many left out as the parameter says, in whatever
-- order
abbrev pub later_query : ℕ → List Term → List Term → ℕ → Query
later_query t tests project parameter =
    record (table_query t tests project []) { limit = lit (Int (pos 1)); offset = col 0 parameter }

-- the command that shows the rows of a query under these names
abbrev pub shows_rows : Query → List (List ℕ) → Command
shows_rows query names = Select (record { lets = []; body = query }) names

abbrev pub all_register_query : Query
all_register_query = table_query 0 ([]) (col 1 1 ∷ col 1 2 ∷ col 1 3 ∷ col 1 4 ∷ []) (rising 1 ∷ [])

abbrev pub all_agents_query : Query
all_agents_query = table_query 2 ([]) (col 1 1 ∷ col 1 2 ∷ []) (rising 1 ∷ [])

abbrev pub all_filings_query : Query
all_filings_query =
    table_query 5 ([]) (col 1 1 ∷ col 1 2 ∷ col 1 3 ∷ col 1 4 ∷ col 1 5 ∷ [])
    (rising 1 ∷ rising 2 ∷ [])

abbrev pub all_statements_query : Query
all_statements_query =
    table_query 8 ([]) (col 1 1 ∷ col 1 2 ∷ col 1 3 ∷ col 1 4 ∷ col 1 5 ∷ col 1 6 ∷ col 1 7
    ∷ col 1 8 ∷ col 1 9 ∷ col 1 10 ∷ col 1 11 ∷ col 1 12 ∷ col 1 13 ∷ [])
    (rising 1 ∷ rising 2 ∷ rising 3 ∷ [])

abbrev pub all_interests_query : Query
all_interests_query =
    table_query 11 ([]) (col 1 1 ∷ col 1 2 ∷ col 1 3 ∷ col 1 4 ∷ col 1 5 ∷ col 1 6 ∷ col 1 7
    ∷ col 1 8 ∷ col 1 9 ∷ col 1 10 ∷ []) (rising 1 ∷ rising 2 ∷ rising 3 ∷ rising 4 ∷ [])

abbrev pub all_identifiers_query : Query
all_identifiers_query =
    table_query 13 ([]) (col 1 1 ∷ col 1 2 ∷ col 1 3 ∷ col 1 4 ∷ col 1 5 ∷ col 1 6 ∷ [])
    (rising 1 ∷ rising 2 ∷ rising 3 ∷ rising 4 ∷ [])

abbrev pub agent_by_name_query : Query
agent_by_name_query = table_query 2 (equals 1 0 ∷ []) (col 1 1 ∷ col 1 2 ∷ []) (rising 1 ∷ [])

abbrev pub agent_by_token_query : Query
agent_by_token_query = table_query 2 (equals 2 0 ∷ []) (col 1 1 ∷ col 1 2 ∷ []) (rising 1 ∷ [])

abbrev pub filing_by_key_query : Query
filing_by_key_query =
    table_query 5 (equals 1 0 ∷ equals 3 1 ∷ []) (col 1 2 ∷ col 1 4 ∷ col 1 5 ∷ col 1 6 ∷ [])
    (rising 1 ∷ rising 2 ∷ [])

abbrev pub line_by_key_query : Query
line_by_key_query =
    table_query 5 (equals 1 0 ∷ equals 3 1 ∷ [])
    (col 1 1 ∷ col 1 2 ∷ col 1 3 ∷ col 1 4 ∷ col 1 5 ∷ []) (rising 1 ∷ rising 2 ∷ [])

abbrev pub line_by_number_query : Query
line_by_number_query =
    table_query 5 (equals 1 0 ∷ equals 2 1 ∷ [])
    (col 1 1 ∷ col 1 2 ∷ col 1 3 ∷ col 1 4 ∷ col 1 5 ∷ []) (rising 1 ∷ rising 2 ∷ [])

abbrev pub same_bytes_query : Query
same_bytes_query =
    table_query 5 (equals 1 0 ∷ equals 3 1 ∷ []) (equals 6 2 ∷ []) (rising 1 ∷ rising 2 ∷ [])

abbrev pub filings_of_agent_query : Query
filings_of_agent_query =
    table_query 5 (equals 1 0 ∷ []) (col 1 1 ∷ col 1 2 ∷ col 1 3 ∷ col 1 4 ∷ col 1 5 ∷ [])
    (rising 1 ∷ rising 2 ∷ [])

abbrev pub last_filing_query : Query
last_filing_query =
    first_query 5 (equals 1 0 ∷ []) (col 1 1 ∷ col 1 2 ∷ col 1 3 ∷ col 1 4 ∷ col 1 5 ∷ [])
    (falling 2 ∷ [])

abbrev pub last_of_series_query : Query
last_of_series_query =
    first_query 8 (equals 1 0 ∷ equals 6 1 ∷ equals 7 2 ∷ [])
    (col 1 1 ∷ col 1 2 ∷ col 1 3 ∷ col 1 4 ∷ col 1 5 ∷ col 1 6 ∷ col 1 7 ∷ col 1 8 ∷ col 1 9
    ∷ col 1 10 ∷ col 1 11 ∷ col 1 12 ∷ col 1 13 ∷ []) (falling 2 ∷ falling 3 ∷ [])

abbrev pub statement_by_id_query : Query
statement_by_id_query =
    table_query 8 (equals 1 0 ∷ equals 4 1 ∷ []) (col 1 2 ∷ col 1 3 ∷ [])
    (rising 1 ∷ rising 2 ∷ rising 3 ∷ [])

abbrev pub statements_of_filing_query : Query
statements_of_filing_query =
    table_query 8 (equals 1 0 ∷ equals 2 1 ∷ []) (col 1 1 ∷ col 1 2 ∷ col 1 3 ∷ col 1 4 ∷ col 1 5
    ∷ col 1 6 ∷ col 1 7 ∷ col 1 8 ∷ col 1 9 ∷ col 1 10 ∷ col 1 11 ∷ col 1 12 ∷ col 1 13 ∷ [])
    (rising 1 ∷ rising 2 ∷ rising 3 ∷ [])

abbrev pub statements_of_declaration_query : Query
statements_of_declaration_query =
    table_query 8 (equals 1 0 ∷ equals 6 1 ∷ []) (col 1 1 ∷ col 1 2 ∷ col 1 3 ∷ col 1 4 ∷ col 1 5
    ∷ col 1 6 ∷ col 1 7 ∷ col 1 8 ∷ col 1 9 ∷ col 1 10 ∷ col 1 11 ∷ col 1 12 ∷ col 1 13 ∷ [])
    (rising 1 ∷ rising 2 ∷ rising 3 ∷ [])

abbrev pub interests_of_statement_query : Query
interests_of_statement_query =
    table_query 11 (equals 1 0 ∷ equals 2 1 ∷ equals 3 2 ∷ []) (col 1 1 ∷ col 1 2 ∷ col 1 3
    ∷ col 1 4 ∷ col 1 5 ∷ col 1 6 ∷ col 1 7 ∷ col 1 8 ∷ col 1 9 ∷ col 1 10 ∷ [])
    (rising 1 ∷ rising 2 ∷ rising 3 ∷ rising 4 ∷ [])

abbrev pub identifiers_of_statement_query : Query
identifiers_of_statement_query =
    table_query 13 (equals 1 0 ∷ equals 2 1 ∷ equals 3 2 ∷ []) (col 1 1 ∷ col 1 2 ∷ col 1 3
    ∷ col 1 4 ∷ col 1 5 ∷ col 1 6 ∷ []) (rising 1 ∷ rising 2 ∷ rising 3 ∷ rising 4 ∷ [])

abbrev pub more_statements_query : Query
more_statements_query = later_query 8 [] (lit (Int (pos 1)) ∷ []) 0

abbrev pub statements_of_series_query : Query
statements_of_series_query =
    table_query 8 (equals 1 0 ∷ equals 6 1 ∷ equals 7 2 ∷ [])
    (col 1 1 ∷ col 1 2 ∷ col 1 3 ∷ col 1 4 ∷ col 1 5 ∷ col 1 6 ∷ col 1 7 ∷ col 1 8 ∷ col 1 9
    ∷ col 1 10 ∷ col 1 11 ∷ col 1 12 ∷ col 1 13 ∷ []) (rising 1 ∷ rising 2 ∷ rising 3 ∷ [])

abbrev pub statements_of_record_query : Query
statements_of_record_query =
    table_query 8 (equals 1 0 ∷ equals 7 1 ∷ []) (col 1 1 ∷ col 1 2 ∷ col 1 3 ∷ col 1 4 ∷ col 1 5
    ∷ col 1 6 ∷ col 1 7 ∷ col 1 8 ∷ col 1 9 ∷ col 1 10 ∷ col 1 11 ∷ col 1 12 ∷ col 1 13 ∷ [])
    (rising 1 ∷ rising 2 ∷ rising 3 ∷ [])

abbrev pub statements_of_subject_query : Query
statements_of_subject_query =
    table_query 8 (equals 1 0 ∷ equals 6 1 ∷ equals 12 2 ∷ [])
    (col 1 1 ∷ col 1 2 ∷ col 1 3 ∷ col 1 4 ∷ col 1 5 ∷ col 1 6 ∷ col 1 7 ∷ col 1 8 ∷ col 1 9
    ∷ col 1 10 ∷ col 1 11 ∷ col 1 12 ∷ col 1 13 ∷ []) (rising 1 ∷ rising 2 ∷ rising 3 ∷ [])

abbrev pub statement_by_place_query : Query
statement_by_place_query =
    table_query 8 (equals 1 0 ∷ equals 2 1 ∷ equals 3 2 ∷ [])
    (col 1 1 ∷ col 1 2 ∷ col 1 3 ∷ col 1 4 ∷ col 1 5 ∷ col 1 6 ∷ col 1 7 ∷ col 1 8 ∷ col 1 9
    ∷ col 1 10 ∷ col 1 11 ∷ col 1 12 ∷ col 1 13 ∷ []) (rising 1 ∷ rising 2 ∷ rising 3 ∷ [])

abbrev pub identifiers_by_id_query : Query
identifiers_by_id_query =
    table_query 13 (equals 5 0 ∷ equals 6 1 ∷ []) (col 1 1 ∷ col 1 2 ∷ col 1 3 ∷ col 1 4 ∷ col 1 5
    ∷ col 1 6 ∷ []) (rising 1 ∷ rising 2 ∷ rising 3 ∷ rising 4 ∷ [])

abbrev pub all_periods_query : Query
all_periods_query =
    table_query 19 ([]) (col 1 1 ∷ col 1 2 ∷ col 1 3 ∷ col 1 4 ∷ col 1 5 ∷ col 1 6 ∷ [])
    (rising 1 ∷ rising 2 ∷ rising 3 ∷ rising 4 ∷ [])

abbrev pub periods_of_statement_query : Query
periods_of_statement_query =
    table_query 19 (equals 1 0 ∷ equals 2 1 ∷ equals 3 2 ∷ []) (col 1 1 ∷ col 1 2 ∷ col 1 3
    ∷ col 1 4 ∷ col 1 5 ∷ col 1 6 ∷ []) (rising 1 ∷ rising 2 ∷ rising 3 ∷ rising 4 ∷ [])

abbrev pub file_by_number_query : Query
file_by_number_query =
    table_query 5 (equals 1 0 ∷ equals 2 1 ∷ []) (col 1 2 ∷ col 1 4 ∷ col 1 5 ∷ col 1 6 ∷ [])
    (rising 1 ∷ rising 2 ∷ [])
