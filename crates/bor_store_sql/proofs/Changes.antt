-- The effects of the texts that change rows, and the register in tables whose day, version or tokens are new.
use Rattle.std.proofs.Common.{◌≡◌, ℕ, ℤ, pos, ◌/◌, cond, false, slice_get, List, [], ◌∷◌, ◌++◌, length, Option, Some, refl, ◌^◌, nat_le, drop, ◌≤◌, true, arith, subst, ◌∙◌, map, filter, inl, inr, sym, ap, Ok, if◌then◌else◌, All, rules}
use Rattle.sqlite.specs.declared.types.Value.TheVariants.{Null, Int, Text}
use Rattle.sqlite.specs.Kind.TheVariants.{Text as Words, Integer as Numbers}
use Rattle.sqlite.specs.Cast.{cast, cast_all, cast_row}
use Rattle.sqlite.specs.Command.TheVariants.{Insert, Delete}
use Rattle.sqlite.specs.Effect.{Database, value_rows}
use Rattle.sqlite.specs.Order.{Row, column}
use Rattle.sqlite.specs.Source.TheVariants.{Values}
use Rattle.sqlite.specs.Table.{Table}
use Rattle.sqlite.specs.Term.{Term, col, lit}
use Rattle.sqlite_rules.specs.Action.{works}
use Rattle.sqlite_schema.specs.declared.schema.Keys.TheVariants.{Enforced}
use Rattle.bor_store_sql.specs.Kept.{Keeps}
use Rattle.bor_store_sql.specs.Texts.Meanings.{Does}
use Rattle.bor_register.specs.declared.filing.AcceptedFiling.{AcceptedFiling}
use Rattle.bor_register.specs.declared.member.Member.{Member}
use Rattle.bor_store_sql.specs.Texts.Tables.{keep_schema, agent_at, filing_at, filing_table, statement_at, statement_table, interest_at, interest_table, identifier_at, identifier_table, period_at, period_table, register_at}
use Rattle.bor_store_sql.specs.Texts.Changes.{insert_agent_terms, insert_filing_terms, insert_statement_terms, insert_interest_terms, insert_identifier_terms, insert_period_terms, mark_withdrawn_program, equals_number, update_day_program, update_token_program, update_version_program}
use Rattle.bor_store_sql.specs.declared.texts.changes.TheConstants.{INSERT_AGENT, INSERT_FILING, INSERT_STATEMENT, INSERT_INTEREST, INSERT_IDENTIFIER, INSERT_PERIOD, MARK_WITHDRAWN, DELETE_IDENTIFIERS, DELETE_INTERESTS, DELETE_PERIODS, DELETE_STATEMENTS, UPDATE_DAY, UPDATE_TOKEN, UPDATE_VERSION}
use Rattle.bor_store_sql.proofs.OnTexts.ChangeMeanings.{insert_agent_is, insert_filing_is, insert_statement_is, insert_interest_is, insert_identifier_is, insert_period_is, mark_withdrawn_is, delete_identifiers_is, delete_interests_is, delete_periods_is, delete_statements_is, update_day_is, update_token_is, update_version_is}
use Rattle.bor_store_sql.specs.declared.rows.typed.StatementRow.{StatementRow}
use Rattle.bor_store_sql.specs.declared.rows.typed.InterestRow.{InterestRow}
use Rattle.bor_store_sql.specs.declared.rows.typed.IdentifierRow.{IdentifierRow}
use Rattle.bor_store_sql.specs.declared.rows.typed.PeriodRow.{PeriodRow}
use Rattle.bor_store_sql.specs.Rows.Encoding.{Contents, agent_columns, filing_columns, statement_columns, interest_columns, identifier_columns, period_columns, day_or_null, or_null, contents, register_columns, tables_version, filing_rows, first_version, versioned_columns}
use Rattle.bor_store_sql.specs.Shown.{ChangesContents, Has, first_contents}
use Rattle.bor_store_sql.proofs.Moves.{Making}
pub use Rattle.bor_store_sql.proofs.Moves.{moves_by}
use Rattle.bor_store_sql.specs.Changing.{Any, live_filing, given_filing, with_agent_row, with_filing_row, with_statement_row, with_interest_rows, with_identifier_rows, with_period_row, is_of_filing, marked, others, with_mark, IsOnce, without_identifiers, without_interests, without_periods, without_statements, is_the_one, dated, with_day, IsOneRegister, days_of, is_of_agent, renewed, with_token_row, IsOneAgent, all_periods}
use Rattle.bor_store_sql.proofs.Writes.{inserts, cast_int, cast_null, one_changed, with_rows, deletes, updates, no_key_acts}
use Rattle.bor_store_sql.proofs.Tables.{one_more, deleted, updated, int_test, text_test}
use Rattle.bor_store_sql.specs.Texts.Queries.{equals, table_query}
use Rattle.std.proofs.Math.Bool.{and-true}
use Rattle.bor_register.specs.Register.{Register, IsOrdered, with_token}
use Rattle.bor_terms.specs.Day.{IsDay}
use Rattle.bor_store_sql.specs.Rows.Stored.{IsStored, AllNumbered, AreCounted}
use Rattle.std.specs.List.{AllByRecursion, flat_map}
use Rattle.std.proofs.lemmas.Bool.{cases_Bool}
use Rattle.std.proofs.lemmas.List.Elements.{All-cons, All-head, All-tail}
use Rattle.bor_terms.specs.Texts.{is_same, is_token}
use Rattle.bor_register.specs.Additions.{with_renewal}
use Rattle.bor_register.specs.Forms.{IsFormedMember}
use Rattle.bor_register.proofs.Names.{ordered-with_token}
use Rattle.bor_store_sql.specs.Rows.Placed.{bare, placed, placed_by, interest_rows, identifier_rows, register_row}
use Rattle.bor_store_sql.proofs.Members.{apart_names}
use Rattle.bor_store_sql.proofs.StoredMembers.{stored_with}
use Rattle.sqlite.specs.State.{State, Executes}
use Rattle.bor_store_sql.proofs.Orders.{periods_are}
use Rattle.bor_store_sql.specs.Moving.{IsOneVersion, is_the_row, versioned, with_version}

-- ---- the INSERTs

-- a nullable text column keeps a text and a null
text_kept : (o : Option (List ℕ)) → cast Words (or_null o) ≡ or_null o
text_kept o = search rules

statement_kept : (s : StatementRow) → cast_all statement_table.columns (statement_columns s) ≡ statement_columns s
statement_kept s = search (rules, cast_int, text_kept)

statement_given : (s : StatementRow) → value_rows (statement_columns s) 14 (length insert_statement_terms / 14) insert_statement_terms ≡ (Null ∷ statement_columns s) ∷ []
statement_given s = search rules

interest_kept : (i : InterestRow) → cast_all interest_table.columns (interest_columns i) ≡ interest_columns i
interest_kept i = search (rules, cast_int, cast_null)

interest_given : (i : InterestRow) → value_rows (interest_columns i) 11 (length insert_interest_terms / 11) insert_interest_terms ≡ (Null ∷ interest_columns i) ∷ []
interest_given i = search rules

identifier_kept : (i : IdentifierRow) → cast_all identifier_table.columns (identifier_columns i) ≡ identifier_columns i
identifier_kept i = rw (cast_int (pos i.at.filing), cast_int (pos i.at.place), cast_int (pos i.item)) refl

filing_kept : (agent : List ℕ) (f : AcceptedFiling) → cast_all filing_table.columns (filing_columns agent f) ≡ filing_columns agent f
filing_kept agent f = rw (cast_int (pos f.number), cast_int f.due, cast_int (pos (cond f.withdrawn 1 0))) refl

-- a nullable column of numbers keeps a day and a null
day_kept : (o : Option ℤ) → cast Numbers (day_or_null o) ≡ day_or_null o
day_kept o = search (rules, cast_null, cast_int)

period_kept : (p : PeriodRow) → cast_all period_table.columns (period_columns p) ≡ period_columns p
period_kept p = rw (cast_int (pos p.at.filing), cast_int (pos p.at.place), cast_int (pos p.item), day_kept p.starts, day_kept p.ends) refl

-- a row is put into the table at a place
pub row_put : (sql : List ℕ) (params : Row) (at width : ℕ) (terms : List Term) (table : Table) (x : Row) (rows_of : Contents → List Row) → Does sql (Insert at (Values terms width)) → slice_get keep_schema.tables at ≡ Some table → table.is_counted ≡ false → table.stamps.terms ≡ []
    → value_rows params width (length terms / width) terms ≡ (Null ∷ x) ∷ [] → cast_all table.columns x ≡ x → ((new : Row) → works keep_schema Enforced 0 table.tree [] (new ∷ []) ≡ []) → ((t : Contents) (db : Database) → Has t db → Keeps (rows_of t) (db.trees table.tree))
    → Making sql params (ChangesContents Any (λ t. with_rows table.tree (rows_of t ++ x ∷ []) t))
row_put sql params at width terms table x rows_of is found uncounted unstamped given kept alone kept_in old new count h t has fit =
    let made = inserts sql params keep_schema at terms width table x is.0 is.1 found uncounted unstamped given kept alone old new count has.schema h in
    one_changed table.tree old.now new.now made.others _ (rw made.rows (one_more (rows_of t) (old.now.trees table.tree) x (kept_in t old.now has))) t made.sound made.schema_is has

pub agent_put : (m : Member) → Making INSERT_AGENT.now (agent_columns m) (ChangesContents Any (with_agent_row (agent_columns m)))
agent_put m = row_put INSERT_AGENT.now (agent_columns m) 1 3 insert_agent_terms agent_at (agent_columns m) (λ t. t.agents) insert_agent_is refl refl refl refl refl (λ new. refl) (λ t db has. has.agents)

pub filing_put : (agent : List ℕ) (number : ℕ) (key : List ℕ) (due : ℤ) (bytes : List ℕ) → Making INSERT_FILING.now (given_filing agent number key due bytes) (ChangesContents Any (with_filing_row agent (live_filing number key due bytes [])))
filing_put agent number key due bytes =
    let f = live_filing number key due bytes [] in
    row_put INSERT_FILING.now (given_filing agent number key due bytes) 2 7 insert_filing_terms filing_at (filing_columns agent f) (λ t. t.filings) insert_filing_is refl refl refl refl (filing_kept agent f) (λ new. refl) (λ t db has. has.filings)

pub statement_put : (s : StatementRow) → Making INSERT_STATEMENT.now (statement_columns s) (ChangesContents Any (with_statement_row s))
statement_put s = row_put INSERT_STATEMENT.now (statement_columns s) 3 14 insert_statement_terms statement_at (statement_columns s) (λ t. t.statements) insert_statement_is refl refl refl (statement_given s) (statement_kept s) (λ new. refl) (λ t db has. has.statements)

pub interest_put : (i : InterestRow) → Making INSERT_INTEREST.now (interest_columns i) (ChangesContents Any (with_interest_rows (i ∷ [])))
interest_put i = row_put INSERT_INTEREST.now (interest_columns i) 4 11 insert_interest_terms interest_at (interest_columns i) (λ t. t.interests) insert_interest_is refl refl refl (interest_given i) (interest_kept i) (λ new. refl) (λ t db has. has.interests)

pub identifier_put : (i : IdentifierRow) → Making INSERT_IDENTIFIER.now (identifier_columns i) (ChangesContents Any (with_identifier_rows (i ∷ [])))
identifier_put i = row_put INSERT_IDENTIFIER.now (identifier_columns i) 5 7 insert_identifier_terms identifier_at (identifier_columns i) (λ t. t.identifiers) insert_identifier_is refl refl refl refl (identifier_kept i) (λ new. refl) (λ t db has. has.identifiers)

pub period_put : (p : PeriodRow) → Making INSERT_PERIOD.now (period_columns p) (ChangesContents Any (with_period_row p))
period_put p = row_put INSERT_PERIOD.now (period_columns p) 6 7 insert_period_terms period_at (period_columns p) (λ t. t.periods) insert_period_is refl refl refl refl (period_kept p) (λ new. refl) (λ t db has. has.periods)

-- ---- the statements of a withdrawal

-- no key acts where a filing's row changes
filing_alone : (olds news : List Row) → works keep_schema Enforced 0 5 olds news ≡ []
filing_alone = no_key_acts 5 (λ olds news. refl) (λ olds news. refl)

abbrev filing_tests : List Term
filing_tests = equals 1 0 ∷ equals 2 1 ∷ []

abbrev mark_terms : List Term
mark_terms = col 1 0 ∷ col 1 0 ∷ col 1 1 ∷ col 1 2 ∷ col 1 3 ∷ col 1 4 ∷ lit (Int (pos 1)) ∷ col 1 6 ∷ []

-- the row that the UPDATE writes for a row
abbrev mark_of : Row → Row
mark_of r = column r 0 ∷ column r 0 ∷ column r 1 ∷ column r 2 ∷ column r 3 ∷ column r 4 ∷ Int (pos 1) ∷ column r 6 ∷ []

abbrev filing_params : List ℕ → ℕ → Row
filing_params agent number = Text agent ∷ Int (pos number) ∷ []

module _ (agent : List ℕ) (number : ℕ) where
  abbrev params : Row
  params = filing_params agent number

  -- the filing's rows are deleted from the table at a place
  rows_deleted : (sql : List ℕ) (at : ℕ) (table : Table) (rows_of : Contents → List Row) → Does sql (Delete at (record { lets = []; body = table_query table.tree filing_tests (col 1 0 ∷ []) [] })) → slice_get keep_schema.tables at ≡ Some table → nat_le (2 ^ 31) table.tree ≡ false
      → ((olds : List Row) → works keep_schema Enforced 0 table.tree olds [] ≡ []) → ((t : Contents) (db : Database) → Has t db → Keeps (rows_of t) (db.trees table.tree)) → Making sql params (ChangesContents Any (λ t. with_rows table.tree (others agent number (rows_of t)) t))
  rows_deleted sql at table rows_of is found low alone kept_in old new count h t has fit =
      let done = deletes sql params keep_schema at _ table is.0 is.1 found alone old new count has.schema h in
      let w = done.2 in
      one_changed table.tree old.now new.now w.others _
      (deleted table.tree low filing_tests params (is_of_filing agent number) (λ id x. refl) old.now.trees (rows_of t) done.0 (new.now.trees table.tree) (kept_in t old.now has) (done.1.answer Null) w.rows) t w.sound w.schema_is has

  pub identifiers_deleted : Making DELETE_IDENTIFIERS.now params (ChangesContents Any (without_identifiers agent number))
  identifiers_deleted = rows_deleted DELETE_IDENTIFIERS.now 5 identifier_at (λ t. t.identifiers) delete_identifiers_is refl refl (λ olds. refl) (λ t db has. has.identifiers)

  pub periods_deleted : Making DELETE_PERIODS.now params (ChangesContents Any (without_periods agent number))
  periods_deleted = rows_deleted DELETE_PERIODS.now 6 period_at (λ t. t.periods) delete_periods_is refl refl (λ olds. refl) (λ t db has. has.periods)

  pub interests_deleted : Making DELETE_INTERESTS.now params (ChangesContents Any (without_interests agent number))
  interests_deleted = rows_deleted DELETE_INTERESTS.now 4 interest_at (λ t. t.interests) delete_interests_is refl refl (λ olds. refl) (λ t db has. has.interests)

  pub statements_deleted : Making DELETE_STATEMENTS.now params (ChangesContents Any (without_statements agent number))
  statements_deleted = rows_deleted DELETE_STATEMENTS.now 3 statement_at (λ t. t.statements) delete_statements_is refl refl (λ olds. refl) (λ t db has. has.statements)

  pub filing_marked : Making MARK_WITHDRAWN.now params (ChangesContents (IsOnce agent number) (with_mark agent number))
  filing_marked old new count h t has once =
      let done = updates MARK_WITHDRAWN.now params keep_schema 2 mark_withdrawn_program filing_at mark_withdrawn_is.0 mark_withdrawn_is.1 refl filing_alone old new count has.schema h in
      let w = done.2 in
      one_changed 5 old.now new.now w.others _
      (updated 5 refl filing_tests params (is_of_filing agent number) (λ id x. refl) mark_terms mark_of (λ s. cast_row filing_at (drop 1 s)) marked
      (λ r. refl) (λ id x. refl) (λ id x. rw (cast_int (pos id)) refl) old.now.trees t.filings done.0 (new.now.trees 5) has.filings once (done.1.answer Null) w.rows_are) t w.sound w.schema_is has

-- ---- the UPDATE of the register's day

-- no key acts where the register's row changes
pub register_alone : (olds news : List Row) → works keep_schema Enforced 0 0 olds news ≡ []
register_alone = no_key_acts 0 (λ olds news. refl) (λ olds news. refl)

abbrev pub one_tests : List Term
one_tests = equals_number 1 1 ∷ []

abbrev day_terms : List Term
day_terms = col 1 0 ∷ col 1 0 ∷ col 1 1 ∷ col 1 2 ∷ col 0 0 ∷ col 1 4 ∷ []

module _ (day : ℤ) where
  -- the row that the UPDATE writes for a row
  abbrev day_of : Row → Row
  day_of r = column r 0 ∷ column r 0 ∷ column r 1 ∷ column r 2 ∷ Int day ∷ column r 4 ∷ []

  pub day_updated : Making UPDATE_DAY.now (Int day ∷ []) (ChangesContents (IsOneRegister day) (with_day day))
  day_updated old new count h t has one =
      let params = Int day ∷ [] in
      let done = updates UPDATE_DAY.now params keep_schema 0 update_day_program register_at update_day_is.0 update_day_is.1 refl register_alone old new count has.schema h in
      let w = done.2 in
      one_changed 0 old.now new.now w.others _
      (updated 0 refl one_tests params (is_the_one day) (λ id x. refl) day_terms day_of (λ s. cast_row register_at (drop 1 s)) (dated day)
      (λ r. refl) (λ id x. refl) (λ id x. rw (cast_int (pos id)) refl) old.now.trees t.register done.0 (new.now.trees 0) has.register one (done.1.answer Null) w.rows_are) t w.sound w.schema_is has

  pub one_register : (r : Register) → IsOneRegister day (contents r)
  one_register r = elim (is_the_one day (register_columns r)) as (λ b. length (cond b (register_columns r ∷ []) []) ≤ 1) [ true ↦ omega arith | false ↦ omega arith ]

  one_is : (r : Register) → is_the_one day (register_columns r) ≡ true
  one_is r = and-true _ ∙ int_test (pos 1) (pos 1)

  dated_is : (r : Register) → cond (is_the_one day (register_columns r)) (dated day (register_columns r)) (register_columns r) ≡ register_columns (record r { day = day })
  dated_is r = rw (one_is r) (rw (cast_int (pos 1), cast_int tables_version, cast_int day) refl)

  pub dated_has : (r : Register) (db : Database) → Has (with_day day (contents r)) db → Has (contents (record r { day = day })) db
  dated_has r db h = subst (λ (x : Row). Has (record (contents r) { register = x ∷ [] }) db) (dated_is r) h

  pub dated_stored : (r : Register) → IsDay day → IsStored r → IsStored (record r { day = day })
  dated_stored r is s = search rules

-- ---- the UPDATE of an agent's token

-- no key acts where an agent's row changes
agent_alone : (olds news : List Row) → works keep_schema Enforced 0 2 olds news ≡ []
agent_alone = no_key_acts 2 (λ olds news. refl) (λ olds news. refl)

abbrev agent_tests : List Term
agent_tests = equals 1 0 ∷ []

abbrev token_terms : List Term
token_terms = col 1 0 ∷ col 1 0 ∷ col 1 1 ∷ col 0 1 ∷ []

-- ---- the agents' rows

module _ (agent : List ℕ) where
  abbrev AreOthers : List Member → Type 0
  AreOthers ms = AllByRecursion (λ (m : Member). is_same m.name agent ≡ false) ms

  agent_is : (m : Member) → is_of_agent agent (agent_columns m) ≡ is_same m.name agent
  agent_is m = and-true _ ∙ text_test m.name agent

  none_found : (ms : List Member) → AreOthers ms → filter (is_of_agent agent) (map agent_columns ms) ≡ []
  none_found [] all = refl
  none_found (m ∷ ms) all = rw (agent_is m ∙ all.0) (none_found ms all.1)

  pub one_agent : (ms : List Member) → IsOrdered ms → length (filter (is_of_agent agent) (map agent_columns ms)) ≤ 1
  one_agent [] up = omega arith
  one_agent (m ∷ ms) up = elim (cases_Bool (is_same m.name agent)) [
    | inl e ↦ rw (agent_is m ∙ e, none_found ms (apart_names agent m.name ms e up.0)) (omega arith)
    | inr e ↦ rw (agent_is m ∙ e) (one_agent ms up.1)
  ]

module _ (agent token : List ℕ) where
  abbrev pub token_params : Row
  token_params = Text agent ∷ Text token ∷ []

  -- the row that the UPDATE writes for a row
  abbrev token_of : Row → Row
  token_of r = column r 0 ∷ column r 0 ∷ column r 1 ∷ Text token ∷ []

  pub token_updated : Making UPDATE_TOKEN.now token_params (ChangesContents (IsOneAgent agent) (with_token_row agent token))
  token_updated old new count h t has one =
      let done = updates UPDATE_TOKEN.now token_params keep_schema 1 update_token_program agent_at update_token_is.0 update_token_is.1 refl agent_alone old new count has.schema h in
      let w = done.2 in
      one_changed 2 old.now new.now w.others _
      (updated 2 refl agent_tests token_params (is_of_agent agent) (λ id x. refl) token_terms token_of (λ s. cast_row agent_at (drop 1 s)) (renewed token)
      (λ r. refl) (λ id x. refl) (λ id x. rw (cast_int (pos id)) refl) old.now.trees t.agents done.0 (new.now.trees 2) has.agents one (done.1.answer Null) w.rows_are) t w.sound w.schema_is has

  abbrev renew : Row → Row
  renew x = cond (is_of_agent agent x) (renewed token x) x

  others_stay : (ms : List Member) → AreOthers agent ms → map renew (map agent_columns ms) ≡ map agent_columns ms
  others_stay [] all = refl
  others_stay (m ∷ ms) all = rw (agent_is agent m ∙ all.0) (ap (λ l. agent_columns m ∷ l) (others_stay ms all.1))

  agents_renewed : (ms : List Member) → IsOrdered ms → map renew (map agent_columns ms) ≡ map agent_columns (with_token agent token ms)
  agents_renewed [] up = refl
  agents_renewed (m ∷ ms) up = elim (cases_Bool (is_same m.name agent)) [
    | inl e ↦ rw (agent_is agent m ∙ e, e) (ap (λ l. agent_columns (record m { token = token }) ∷ l) (others_stay ms (apart_names agent m.name ms e up.0)))
    | inr e ↦ rw (agent_is agent m ∙ e, e) (ap (λ l. agent_columns m ∷ l) (agents_renewed ms up.1))
  ]

  -- ---- what has no token in it

  module _ {X : Type 0} (own : List ℕ → List AcceptedFiling → List X) (all : List Member → List X) (some : (m : Member) (ms : List Member) → all (m ∷ ms) ≡ own m.name m.filings ++ all ms) where
    unread : (ms : List Member) → all (with_token agent token ms) ≡ all ms
    unread [] = refl
    unread (m ∷ ms) = search (rules, unread ms)

  pub renewed_has : (r : Register) (db : Database) → IsOrdered r.members → Has (with_token_row agent token (contents r)) db → Has (contents (with_renewal agent token r)) db
  renewed_has r db up h =
      let filings = sym (unread (λ name fs. map (filing_columns name) fs) filing_rows (λ m ms. refl) r.members) in
      let same = sym (unread placed_by placed (λ m ms. refl) r.members) in
      subst (λ (t : Contents). Has t db) (λ k. record (contents r) {
        agents = agents_renewed r.members up k;
        filings = filings k;
        statements = map (λ p. statement_columns (bare p)) (same k);
        interests = flat_map (λ p. map interest_columns (interest_rows p)) (same k);
        identifiers = flat_map (λ p. map identifier_columns (identifier_rows p)) (same k);
        periods = flat_map (λ p. flat_map days_of (interest_rows p)) (same k);
      }) h

  -- ---- what is stored stays in order

  still_numbered : (ms : List Member) → AllNumbered ms → AllNumbered (with_token agent token ms)
  still_numbered [] up = tt
  still_numbered (m ∷ ms) up = search (rules, still_numbered ms)

  -- what holds of each member, and of each with the token, holds still
  module _ (P : Member → Type 0) (so : (m : Member) → P m → P (record m { token = token })) where
    still_all : (ms : List Member) → All P ms → All P (with_token agent token ms)
    still_all [] all = all
    still_all (m ∷ ms) all = elim (is_same m.name agent) as (λ b. All P (if b then record m { token = token } ∷ ms else m ∷ with_token agent token ms)) [
      | true ↦ All-cons P (record m { token = token }) ms (so m (All-head P m ms all)) (All-tail P m ms all)
      | false ↦ All-cons P m (with_token agent token ms) (All-head P m ms all) (still_all ms (All-tail P m ms all))
    ]

  pub renewed_stored : (r : Register) → IsStored r → is_token token ≡ true → IsStored (with_renewal agent token r)
  renewed_stored r s is_its =
      stored_with (with_token agent token r.members) r s (ordered-with_token agent token r.members s.ordered) (still_numbered r.members s.numbered)
      (still_all IsFormedMember (λ m f. record { name = f.name; token = is_its; filings = f.filings }) r.members s.formed.members)
      (still_all (λ (m : Member). All (λ (f : AcceptedFiling). AreCounted f.statements) m.filings) (λ m all. all) r.members s.counted)

-- ---- the UPDATE of the version

abbrev version_terms : List Term
version_terms = col 1 0 ∷ col 1 0 ∷ col 1 1 ∷ col 0 0 ∷ col 1 3 ∷ col 1 4 ∷ []

abbrev first_row : Register → Row
first_row r = versioned_columns first_version (register_row r)

module _ (version : ℤ) where
  -- the row that the UPDATE writes for a row
  abbrev version_of : Row → Row
  version_of r = column r 0 ∷ column r 0 ∷ column r 1 ∷ Int version ∷ column r 3 ∷ column r 4 ∷ []

  pub version_updated : (old new : State) (count : ℕ) (t : Contents) → Has t old.now → IsOneVersion version t → Executes UPDATE_VERSION.now (Int version ∷ []) old new (Ok count)
      → Has (with_version version t) new.now
  version_updated old new count t has one h =
      let params = Int version ∷ [] in
      let done = updates UPDATE_VERSION.now params keep_schema 0 update_version_program register_at update_version_is.0 update_version_is.1 refl register_alone old new count has.schema h in
      let w = done.2 in
      one_changed 0 old.now new.now w.others _
      (updated 0 refl one_tests params (is_the_row version) (λ id x. refl) version_terms version_of (λ s. cast_row register_at (drop 1 s)) (versioned version)
      (λ r. refl) (λ id x. refl) (λ id x. rw (cast_int (pos id)) refl) old.now.trees t.register done.0 (new.now.trees 0) has.register one (done.1.answer Null) w.rows_are) t w.sound w.schema_is has

  pub one_version : (r : Register) → IsOneVersion version (first_contents r)
  one_version r = elim (is_the_row version (first_row r)) as (λ b. length (cond b (first_row r ∷ []) []) ≤ 1) [ true ↦ omega arith | false ↦ omega arith ]

first_is : (r : Register) → is_the_row tables_version (first_row r) ≡ true
first_is r = and-true _ ∙ int_test (pos 1) (pos 1)

versioned_is : (r : Register) → cond (is_the_row tables_version (first_row r)) (versioned tables_version (first_row r)) (first_row r) ≡ register_columns r
versioned_is r = rw (first_is r) (rw (cast_int (pos 1), cast_int tables_version, cast_int r.day) refl)

-- the tables of a register, once its periods are there and the version is set
moved_is : (r : Register) → with_version tables_version (record (first_contents r) { periods = (contents r).periods }) ≡ contents r
moved_is r = ap (λ (x : Row). record (contents r) { register = x ∷ [] }) (versioned_is r)

-- the tables once they are moved, with the rows of a register's days
pub moved_has : (ps : List PeriodRow) (r : Register) (db : Database) → ps ≡ all_periods r.members → Has (with_version tables_version (record (first_contents r) { periods = map period_columns ps })) db → Has (contents r) db
moved_has ps r db given has = search (rules, periods_are, moved_is)
