-- The meanings of the changes' texts.
use Rattle.std.proofs.Common.{refl}
use Rattle.sqlite.specs.Listing.{understood}
use Rattle.sqlite_tied.specs.Compute.{everything}
use Rattle.bor_store_sql.specs.Texts.Meanings.{Does}
use Rattle.bor_store_sql.specs.Texts.Changes.{insert_register_terms, insert_agent_terms, insert_filing_terms, insert_statement_terms, insert_interest_terms, insert_identifier_terms, delete_identifiers_program, delete_interests_program, delete_statements_program, mark_withdrawn_program, update_token_program, update_day_program, insert_period_terms, delete_periods_program, update_version_program}
use Rattle.bor_store_sql.specs.declared.texts.changes.TheConstants.{INSERT_REGISTER, INSERT_AGENT, INSERT_FILING, INSERT_STATEMENT, INSERT_INTEREST, INSERT_IDENTIFIER, DELETE_IDENTIFIERS, DELETE_INTERESTS, DELETE_STATEMENTS, MARK_WITHDRAWN, UPDATE_TOKEN, UPDATE_DAY, INSERT_PERIOD, DELETE_PERIODS, UPDATE_VERSION}
use Rattle.sqlite.specs.Command.TheVariants.{Insert, Update, Delete}
use Rattle.sqlite.specs.Source.TheVariants.{Values}

pub insert_register_is : Does INSERT_REGISTER.now (Insert 0 (Values insert_register_terms 5))
unfolding understood everything
insert_register_is = (refl, (refl, refl))

pub insert_agent_is : Does INSERT_AGENT.now (Insert 1 (Values insert_agent_terms 3))
unfolding understood everything
insert_agent_is = (refl, (refl, refl))

pub insert_filing_is : Does INSERT_FILING.now (Insert 2 (Values insert_filing_terms 7))
unfolding understood everything
insert_filing_is = (refl, (refl, refl))

pub insert_statement_is : Does INSERT_STATEMENT.now (Insert 3 (Values insert_statement_terms 14))
unfolding understood everything
insert_statement_is = (refl, (refl, refl))

pub insert_interest_is : Does INSERT_INTEREST.now (Insert 4 (Values insert_interest_terms 11))
unfolding understood everything
insert_interest_is = (refl, (refl, refl))

pub insert_identifier_is : Does INSERT_IDENTIFIER.now (Insert 5 (Values insert_identifier_terms 7))
unfolding understood everything
insert_identifier_is = (refl, (refl, refl))

pub delete_identifiers_is : Does DELETE_IDENTIFIERS.now (Delete 5 delete_identifiers_program)
unfolding understood everything
delete_identifiers_is = (refl, (refl, refl))

pub delete_interests_is : Does DELETE_INTERESTS.now (Delete 4 delete_interests_program)
unfolding understood everything
delete_interests_is = (refl, (refl, refl))

pub delete_statements_is : Does DELETE_STATEMENTS.now (Delete 3 delete_statements_program)
unfolding understood everything
delete_statements_is = (refl, (refl, refl))

pub mark_withdrawn_is : Does MARK_WITHDRAWN.now (Update 2 mark_withdrawn_program)
unfolding understood everything
mark_withdrawn_is = (refl, (refl, refl))

pub update_token_is : Does UPDATE_TOKEN.now (Update 1 update_token_program)
unfolding understood everything
update_token_is = (refl, (refl, refl))

pub update_day_is : Does UPDATE_DAY.now (Update 0 update_day_program)
unfolding understood everything
update_day_is = (refl, (refl, refl))

pub insert_period_is : Does INSERT_PERIOD.now (Insert 6 (Values insert_period_terms 7))
unfolding understood everything
insert_period_is = (refl, (refl, refl))

pub delete_periods_is : Does DELETE_PERIODS.now (Delete 6 delete_periods_program)
unfolding understood everything
delete_periods_is = (refl, (refl, refl))

pub update_version_is : Does UPDATE_VERSION.now (Update 0 update_version_program)
unfolding understood everything
update_version_is = (refl, (refl, refl))
