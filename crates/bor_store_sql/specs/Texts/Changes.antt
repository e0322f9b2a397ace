-- What each text of `texts::changes` does.
use Rattle.std.specs.Prelude.{ℕ, pos, List, [], ◌∷◌}
use Rattle.sqlite.specs.declared.types.Value.TheVariants.{Null, Int}
use Rattle.sqlite.specs.Term.{Term, lit, col, op2}
use Rattle.sqlite.specs.Collation.TheVariants.{Binary}
use Rattle.sqlite_sql.specs.declared.ops.BinaryOp.TheVariants.{Compare}
use Rattle.sqlite_sql.specs.declared.ops.CompareOp.TheVariants.{Eq}
use Rattle.sqlite_schema.specs.declared.program.Program.{Program}
use Rattle.bor_store_sql.specs.Texts.Queries.{table_query, equals}

-- Columns are counted from 1, parameters from 0. An update gives the row's identity twice and then
-- its columns, a deletion its identity.

-- the column equals a number
abbrev pub equals_number : ℕ → ℕ → Term
equals_number column n = op2 (Compare Eq Binary) (col 1 column) (lit (Int (pos n)))

abbrev pub insert_register_terms : List Term
insert_register_terms = lit Null ∷ lit (Int (pos 1)) ∷ col 0 0 ∷ col 0 1 ∷ col 0 2 ∷ []

abbrev pub insert_agent_terms : List Term
insert_agent_terms = lit Null ∷ col 0 0 ∷ col 0 1 ∷ []

abbrev pub insert_filing_terms : List Term
insert_filing_terms =
    lit Null ∷ col 0 0 ∷ col 0 1 ∷ col 0 2 ∷ col 0 3 ∷ lit (Int (pos 0)) ∷ col 0 4 ∷ []

abbrev pub insert_statement_terms : List Term
insert_statement_terms =
    lit Null ∷ col 0 0 ∷ col 0 1 ∷ col 0 2 ∷ col 0 3 ∷ col 0 4 ∷ col 0 5 ∷ col 0 6 ∷ col 0 7
    ∷ col 0 8 ∷ col 0 9 ∷ col 0 10 ∷ col 0 11 ∷ col 0 12 ∷ []

abbrev pub insert_interest_terms : List Term
insert_interest_terms =
    lit Null ∷ col 0 0 ∷ col 0 1 ∷ col 0 2 ∷ col 0 3 ∷ col 0 4 ∷ col 0 5 ∷ col 0 6 ∷ col 0 7
    ∷ col 0 8 ∷ col 0 9 ∷ []

abbrev pub insert_identifier_terms : List Term
insert_identifier_terms = lit Null ∷ col 0 0 ∷ col 0 1 ∷ col 0 2 ∷ col 0 3 ∷ col 0 4 ∷ col 0 5 ∷ []

abbrev pub delete_identifiers_program : Program
delete_identifiers_program =
    record { lets = []; body = table_query 13 (equals 1 0 ∷ equals 2 1 ∷ []) (col 1 0 ∷ []) [] }

abbrev pub delete_interests_program : Program
delete_interests_program =
    record { lets = []; body = table_query 11 (equals 1 0 ∷ equals 2 1 ∷ []) (col 1 0 ∷ []) [] }

abbrev pub delete_statements_program : Program
delete_statements_program =
    record { lets = []; body = table_query 8 (equals 1 0 ∷ equals 2 1 ∷ []) (col 1 0 ∷ []) [] }

abbrev pub mark_withdrawn_program : Program
mark_withdrawn_program =
    record {
      lets = [];
      body = table_query 5 (equals 1 0 ∷ equals 2 1 ∷ []) (col 1 0 ∷ col 1 0
          ∷ col 1 1 ∷ col 1 2 ∷ col 1 3 ∷ col 1 4 ∷ lit (Int (pos 1)) ∷ col 1 6 ∷ []) [];
    }

abbrev pub update_token_program : Program
update_token_program =
    record {
      lets = [];
      body = table_query 2 (equals 1 0 ∷ []) (col 1 0 ∷ col 1 0 ∷ col 1 1 ∷ col 0 1 ∷ []) [];
    }

abbrev pub update_day_program : Program
update_day_program =
    record {
      lets = [];
      body = table_query 0 (equals_number 1 1 ∷ [])
          (col 1 0 ∷ col 1 0 ∷ col 1 1 ∷ col 1 2 ∷ col 0 0 ∷ col 1 4 ∷ []) [];
    }

abbrev pub insert_period_terms : List Term
insert_period_terms = lit Null ∷ col 0 0 ∷ col 0 1 ∷ col 0 2 ∷ col 0 3 ∷ col 0 4 ∷ col 0 5 ∷ []

abbrev pub delete_periods_program : Program
delete_periods_program =
    record { lets = []; body = table_query 19 (equals 1 0 ∷ equals 2 1 ∷ []) (col 1 0 ∷ []) [] }

abbrev pub update_version_program : Program
update_version_program =
    record {
      lets = [];
      body = table_query 0 (equals_number 1 1 ∷ [])
          (col 1 0 ∷ col 1 0 ∷ col 1 1 ∷ col 0 0 ∷ col 1 3 ∷ col 1 4 ∷ []) [];
    }
