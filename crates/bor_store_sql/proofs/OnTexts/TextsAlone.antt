-- The commands of the texts that make the tables and put down the register's row, whatever the schema.
use Rattle.std.proofs.Common.{◌≡◌, ℕ, Bool, false, List, [], Ok, Err, Result, refl}
use Rattle.sqlite.specs.Compile.{table_defined_by, first, index_defined_by}
use Rattle.sqlite.specs.Does.{sequence_text}
use Rattle.sqlite.specs.Source.TheVariants.{Values}
use Rattle.sqlite.specs.Table.{Table}
use Rattle.sqlite_resolve.specs.declared.error.CompileError.{CompileError}
use Rattle.sqlite_schema.specs.declared.schema.Index.{Index}
use Rattle.sqlite_tied.specs.Compute.{everything}
use Rattle.bor_store_sql.specs.Texts.Changes.{insert_register_terms}
use Rattle.bor_store_sql.specs.declared.texts.changes.TheConstants.{INSERT_REGISTER}
use Rattle.bor_store_sql.specs.Texts.Tables.{register_table, filing_table, statement_table, identifier_table, record_index, subject_index, identifier_index, line_index, agent_table, interest_table, period_table}
use Rattle.bor_store_sql.specs.declared.texts.tables.TheConstants.{REGISTER_TABLE, AGENT_TABLE, FILING_TABLE, STATEMENT_TABLE, INTEREST_TABLE, IDENTIFIER_TABLE, PERIOD_TABLE, RECORD_INDEX, SUBJECT_INDEX, IDENTIFIER_INDEX, LINE_INDEX}
use Rattle.bor_store_sql.proofs.Plain.{IsPutting, Indexes, Makes, Reads, untimed}

-- The text makes this table.
pub record IsTableText (text : List ℕ) (table : Table) : Type 0 where
  pub reads : Reads Makes text (first text)
  pub defined : table_defined_by text ≡ Ok table

pub register_table_text : IsTableText REGISTER_TABLE.now register_table
unfolding everything
register_table_text = record { reads = ((_, refl, refl), refl); defined = refl }

pub agent_table_text : IsTableText AGENT_TABLE.now agent_table
unfolding everything
agent_table_text = record { reads = ((_, refl, refl), refl); defined = refl }

pub filing_table_text : IsTableText FILING_TABLE.now filing_table
unfolding everything
filing_table_text = record { reads = ((_, refl, refl), refl); defined = refl }

pub statement_table_text : IsTableText STATEMENT_TABLE.now statement_table
unfolding everything
statement_table_text = record { reads = ((_, refl, refl), refl); defined = refl }

pub interest_table_text : IsTableText INTEREST_TABLE.now interest_table
unfolding everything
interest_table_text = record { reads = ((_, refl, refl), refl); defined = refl }

pub identifier_table_text : IsTableText IDENTIFIER_TABLE.now identifier_table
unfolding everything
identifier_table_text = record { reads = ((_, refl, refl), refl); defined = refl }

pub period_table_text : IsTableText PERIOD_TABLE.now period_table
unfolding everything
period_table_text = record { reads = ((_, refl, refl), refl); defined = refl }

-- the table has AUTOINCREMENT
abbrev pub counted_in : Result Table CompileError → Bool
counted_in (Ok t) = t.is_counted
counted_in (Err e) = false

pub sequence_uncounted : counted_in (table_defined_by sequence_text) ≡ false
unfolding everything
sequence_uncounted = refl

-- The text makes this index of a table like this one, whatever its tree.
pub record IsIndexText (text : List ℕ) (table : Table) (index : Index) : Type 0 where
  pub reads : Reads (Indexes table.name) text (first text)
  pub untimed : untimed (first text) ≡ []
  pub defined : (tree : ℕ) → index_defined_by (record table { tree = tree }) text ≡ Ok (record index { tree = 0; table = tree })

pub record_index_text : IsIndexText RECORD_INDEX.now statement_table record_index
unfolding everything
record_index_text = record { reads = ((_, refl, refl, refl), refl); untimed = refl; defined = λ tree. refl }

pub subject_index_text : IsIndexText SUBJECT_INDEX.now statement_table subject_index
unfolding everything
subject_index_text = record { reads = ((_, refl, refl, refl), refl); untimed = refl; defined = λ tree. refl }

pub identifier_index_text : IsIndexText IDENTIFIER_INDEX.now identifier_table identifier_index
unfolding everything
identifier_index_text = record { reads = ((_, refl, refl, refl), refl); untimed = refl; defined = λ tree. refl }

pub line_index_text : IsIndexText LINE_INDEX.now filing_table line_index
unfolding everything
line_index_text = record { reads = ((_, refl, refl, refl), refl); untimed = refl; defined = λ tree. refl }

pub insert_register_reads : IsPutting register_table (Values insert_register_terms 5) (first INSERT_REGISTER.now)
unfolding everything
insert_register_reads = ((_, _, refl, λ schema tree. refl), refl)
