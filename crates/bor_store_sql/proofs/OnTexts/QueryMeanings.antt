-- The meanings of the queries' texts.
use Rattle.std.proofs.Common.{refl}
use Rattle.sqlite.specs.Listing.{understood}
use Rattle.sqlite_tied.specs.Compute.{everything}
use Rattle.bor_store_sql.proofs.Plain.{IsSelect, IsSelectBoth}
use Rattle.bor_store_sql.specs.Texts.Queries.{all_register_query, all_agents_query, all_filings_query, all_statements_query, all_interests_query, all_identifiers_query, agent_by_name_query, agent_by_token_query, filing_by_key_query, line_by_key_query, line_by_number_query, same_bytes_query, filings_of_agent_query, last_filing_query, last_of_series_query, statement_by_id_query, statements_of_filing_query, statements_of_declaration_query, interests_of_statement_query, identifiers_of_statement_query, more_statements_query, statements_of_series_query, statements_of_record_query, statements_of_subject_query, statement_by_place_query, identifiers_by_id_query, all_periods_query, periods_of_statement_query, file_by_number_query}
use Rattle.bor_store_sql.specs.declared.texts.queries.TheConstants.{ALL_REGISTER, ALL_AGENTS, ALL_FILINGS, ALL_STATEMENTS, ALL_INTERESTS, ALL_IDENTIFIERS, AGENT_BY_NAME, AGENT_BY_TOKEN, FILING_BY_KEY, LINE_BY_KEY, LINE_BY_NUMBER, SAME_BYTES, FILINGS_OF_AGENT, LAST_FILING, LAST_OF_SERIES, STATEMENT_BY_ID, STATEMENTS_OF_FILING, STATEMENTS_OF_DECLARATION, INTERESTS_OF_STATEMENT, IDENTIFIERS_OF_STATEMENT, MORE_STATEMENTS, STATEMENTS_OF_SERIES, STATEMENTS_OF_RECORD, STATEMENTS_OF_SUBJECT, STATEMENT_BY_PLACE, IDENTIFIERS_BY_ID, ALL_PERIODS, PERIODS_OF_STATEMENT, FILE_BY_NUMBER}

pub all_register_is : IsSelect ALL_REGISTER.now all_register_query
unfolding understood everything
all_register_is = record { reads = (_, refl); asks = (_, refl, (refl, refl), refl) }

pub all_agents_is : IsSelect ALL_AGENTS.now all_agents_query
unfolding understood everything
all_agents_is = record { reads = (_, refl); asks = (_, refl, (refl, refl), refl) }

pub all_statements_is : IsSelect ALL_STATEMENTS.now all_statements_query
unfolding understood everything
all_statements_is = record { reads = (_, refl); asks = (_, refl, (refl, refl), refl) }

pub all_interests_is : IsSelect ALL_INTERESTS.now all_interests_query
unfolding understood everything
all_interests_is = record { reads = (_, refl); asks = (_, refl, (refl, refl), refl) }

pub all_identifiers_is : IsSelect ALL_IDENTIFIERS.now all_identifiers_query
unfolding understood everything
all_identifiers_is = record { reads = (_, refl); asks = (_, refl, (refl, refl), refl) }

pub agent_by_name_is : IsSelect AGENT_BY_NAME.now agent_by_name_query
unfolding understood everything
agent_by_name_is = record { reads = (_, refl); asks = (_, refl, (refl, refl), refl) }

pub agent_by_token_is : IsSelect AGENT_BY_TOKEN.now agent_by_token_query
unfolding understood everything
agent_by_token_is = record { reads = (_, refl); asks = (_, refl, (refl, refl), refl) }

pub filing_by_key_is : IsSelect FILING_BY_KEY.now filing_by_key_query
unfolding understood everything
filing_by_key_is = record { reads = (_, refl); asks = (_, refl, (refl, refl), refl) }

pub line_by_key_is : IsSelect LINE_BY_KEY.now line_by_key_query
unfolding understood everything
line_by_key_is = record { reads = (_, refl); asks = (_, refl, (refl, refl), refl) }

pub line_by_number_is : IsSelect LINE_BY_NUMBER.now line_by_number_query
unfolding understood everything
line_by_number_is = record { reads = (_, refl); asks = (_, refl, (refl, refl), refl) }

pub same_bytes_is : IsSelect SAME_BYTES.now same_bytes_query
unfolding understood everything
same_bytes_is = record { reads = (_, refl); asks = (_, refl, (refl, refl), refl) }

pub filings_of_agent_is : IsSelect FILINGS_OF_AGENT.now filings_of_agent_query
unfolding understood everything
filings_of_agent_is = record { reads = (_, refl); asks = (_, refl, (refl, refl), refl) }

pub last_filing_is : IsSelect LAST_FILING.now last_filing_query
unfolding understood everything
last_filing_is = record { reads = (_, refl); asks = (_, refl, (refl, refl), refl) }

pub last_of_series_is : IsSelect LAST_OF_SERIES.now last_of_series_query
unfolding understood everything
last_of_series_is = record { reads = (_, refl); asks = (_, refl, (refl, refl), refl) }

pub statement_by_id_is : IsSelect STATEMENT_BY_ID.now statement_by_id_query
unfolding understood everything
statement_by_id_is = record { reads = (_, refl); asks = (_, refl, (refl, refl), refl) }

pub statements_of_declaration_is : IsSelect STATEMENTS_OF_DECLARATION.now statements_of_declaration_query
unfolding understood everything
statements_of_declaration_is = record { reads = (_, refl); asks = (_, refl, (refl, refl), refl) }

pub more_statements_is : IsSelect MORE_STATEMENTS.now more_statements_query
unfolding understood everything
more_statements_is = record { reads = (_, refl); asks = (_, refl, (refl, refl), refl) }

pub statements_of_series_is : IsSelect STATEMENTS_OF_SERIES.now statements_of_series_query
unfolding understood everything
statements_of_series_is = record { reads = (_, refl); asks = (_, refl, (refl, refl), refl) }

pub statements_of_record_is : IsSelect STATEMENTS_OF_RECORD.now statements_of_record_query
unfolding understood everything
statements_of_record_is = record { reads = (_, refl); asks = (_, refl, (refl, refl), refl) }

pub statements_of_subject_is : IsSelect STATEMENTS_OF_SUBJECT.now statements_of_subject_query
unfolding understood everything
statements_of_subject_is = record { reads = (_, refl); asks = (_, refl, (refl, refl), refl) }

pub statement_by_place_is : IsSelect STATEMENT_BY_PLACE.now statement_by_place_query
unfolding understood everything
statement_by_place_is = record { reads = (_, refl); asks = (_, refl, (refl, refl), refl) }

pub identifiers_by_id_is : IsSelect IDENTIFIERS_BY_ID.now identifiers_by_id_query
unfolding understood everything
identifiers_by_id_is = record { reads = (_, refl); asks = (_, refl, (refl, refl), refl) }

pub all_periods_is : IsSelect ALL_PERIODS.now all_periods_query
unfolding understood everything
all_periods_is = record { reads = (_, refl); asks = (_, refl, (refl, refl), refl) }

pub periods_of_statement_is : IsSelect PERIODS_OF_STATEMENT.now periods_of_statement_query
unfolding understood everything
periods_of_statement_is = record { reads = (_, refl); asks = (_, refl, (refl, refl), refl) }

-- ---- those that are asked of version 1 too

pub all_filings_both : IsSelectBoth ALL_FILINGS.now all_filings_query
unfolding understood everything
all_filings_both = record { now = record { reads = (_, refl); asks = (_, refl, (refl, refl), refl) }; first = (_, refl, (refl, refl), refl) }

pub file_by_number_both : IsSelectBoth FILE_BY_NUMBER.now file_by_number_query
unfolding understood everything
file_by_number_both = record { now = record { reads = (_, refl); asks = (_, refl, (refl, refl), refl) }; first = (_, refl, (refl, refl), refl) }

pub statements_of_filing_both : IsSelectBoth STATEMENTS_OF_FILING.now statements_of_filing_query
unfolding understood everything
statements_of_filing_both = record { now = record { reads = (_, refl); asks = (_, refl, (refl, refl), refl) }; first = (_, refl, (refl, refl), refl) }

pub interests_of_statement_both : IsSelectBoth INTERESTS_OF_STATEMENT.now interests_of_statement_query
unfolding understood everything
interests_of_statement_both = record { now = record { reads = (_, refl); asks = (_, refl, (refl, refl), refl) }; first = (_, refl, (refl, refl), refl) }

pub identifiers_of_statement_both : IsSelectBoth IDENTIFIERS_OF_STATEMENT.now identifiers_of_statement_query
unfolding understood everything
identifiers_of_statement_both = record { now = record { reads = (_, refl); asks = (_, refl, (refl, refl), refl) }; first = (_, refl, (refl, refl), refl) }
