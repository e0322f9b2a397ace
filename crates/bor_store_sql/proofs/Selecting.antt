-- The rows that each query gives of a register that is shown.
use Rattle.std.proofs.Common.{◌≡◌, ℕ, pos, Bool, List, [], ◌∷◌, map, filter, Some, refl, sym, true, ◌++◌, ap, ◌∙◌, ◌<◌, false, ◌&&◌, ◌==◌, take, drop, reverse, ap₂, subst, flat_map, is_eq, bytes_eq, is_some, ◌||◌, rules}
use Rattle.sqlite.specs.declared.types.Value.TheVariants.{Null, Int, Text, Blob}
use Rattle.sqlite.specs.Order.{Row}
use Rattle.sqlite.specs.Term.{Term}
use Rattle.sqlite.specs.Query.{Query, output}
use Rattle.sqlite.specs.State.{State}
use Rattle.sqlite_value.specs.declared.keys.Key.{Key}
use Rattle.sqlite_keyed.proofs.ListLemmas.{ascending-filter, map-flat_map, all_of, map-map}
use Rattle.bor_register.specs.declared.member.Member.{Member}
use Rattle.bor_register.specs.declared.filing.AcceptedFiling.{AcceptedFiling}
use Rattle.bor_register.specs.Register.{Register, filings_of}
use Rattle.bor_store_sql.specs.Texts.Queries.{table_query, rising, all_statements_query, all_interests_query, falling, all_register_query, more_statements_query, last_filing_query, last_of_series_query, statements_of_subject_query}
use Rattle.bor_store_sql.specs.declared.rows.typed.Placed.{Placed}
use Rattle.bor_store_sql.specs.declared.rows.typed.StatementRow.{StatementRow}
use Rattle.bor_store_sql.specs.declared.rows.typed.InterestRow.{InterestRow}
use Rattle.bor_store_sql.specs.declared.rows.typed.IdentifierRow.{IdentifierRow}
use Rattle.bor_store_sql.specs.Rows.Placed.{bare, placed, interest_rows, identifier_rows, period_of, period_rows, same_place, filing_row, filing_lines}
use Rattle.bor_store_sql.specs.Rows.Encoding.{agent_columns, filing_rows, statement_columns, interest_columns, identifier_columns, contents, period_columns, truth, register_columns, line_columns, shown_columns}
use Rattle.bor_store_sql.specs.Changing.{row_passes, days_of}
use Rattle.bor_store_sql.proofs.Finding.{Asked, Found, lists_now, asked_now, found_as, has_now, answers, asked_both}
pub use Rattle.bor_store_sql.proofs.Finding.{finds}
use Rattle.bor_store_sql.proofs.Orders.{IsBefore, agents_rise, Owned, owned, whole, filing_rows_are, IsEarlier, owned_rise, IsPlacedBefore, placed_rise, IsInterestBefore, interest_rows_rise, IsIdentifierBefore, identifier_rows_rise, owned_filing, int_same, IsLower, interests_stand, periods_are, periods_of, place_params, place_test, rows_at, own_owned, own_filings, own_statements, number_test, identifiers_stand, lines_are, filings_rise, statements_rise}
use Rattle.bor_store_sql.proofs.Picking.{shown_as, picked_rows, all_pass, picked_last, picked_later}
use Rattle.bor_store_sql.proofs.Tables.{env, keeps, text_test, int_test, lower_id}
use Rattle.std.proofs.lemmas.List.Concat.{flat_map-append}
use Rattle.bor_store_sql.specs.declared.texts.queries.TheConstants.{ALL_PERIODS, PERIODS_OF_STATEMENT, ALL_REGISTER, ALL_AGENTS, ALL_STATEMENTS, ALL_INTERESTS, ALL_IDENTIFIERS, MORE_STATEMENTS, AGENT_BY_NAME, AGENT_BY_TOKEN, FILING_BY_KEY, LINE_BY_KEY, LINE_BY_NUMBER, SAME_BYTES, FILINGS_OF_AGENT, LAST_FILING, LAST_OF_SERIES, STATEMENT_BY_ID, STATEMENTS_OF_DECLARATION, STATEMENTS_OF_SERIES, STATEMENTS_OF_RECORD, STATEMENTS_OF_SUBJECT, STATEMENT_BY_PLACE, IDENTIFIERS_BY_ID, ALL_FILINGS, FILE_BY_NUMBER, IDENTIFIERS_OF_STATEMENT, INTERESTS_OF_STATEMENT, STATEMENTS_OF_FILING}
use Rattle.bor_store_sql.proofs.OnTexts.QueryMeanings.{all_periods_is, periods_of_statement_is, all_register_is, all_agents_is, all_statements_is, all_interests_is, all_identifiers_is, more_statements_is, agent_by_name_is, agent_by_token_is, filing_by_key_is, line_by_key_is, line_by_number_is, same_bytes_is, filings_of_agent_is, last_filing_is, last_of_series_is, statement_by_id_is, statements_of_declaration_is, statements_of_series_is, statements_of_record_is, statements_of_subject_is, statement_by_place_is, identifiers_by_id_is, all_filings_both, file_by_number_both, identifiers_of_statement_both, interests_of_statement_both, statements_of_filing_both}
use Rattle.bor_store_sql.specs.declared.rows.places.At.{At}
use Rattle.bor_store_sql.specs.declared.rows.typed.PeriodRow.{PeriodRow}
use Rattle.bor_store_sql.specs.Selected.{interests_at, members_named, members_having, keyed, numbered, last, placed_of, in_declaration, in_series, identified, place_columns, in_record, names_subject, with_subject, standing_at, identified_by, identifiers_at, in_filing}
use Rattle.bor_store_sql.specs.Shown.{ShowsIn, ShowsLists}
use Rattle.bor_store_sql.proofs.OnRows.SeenPlaced.{filters_swap}
use Rattle.std.proofs.lemmas.List.{take-map}
use Rattle.bor_records.proofs.Backwards.{map_reverse}
use Rattle.std.proofs.lemmas.Map.Text.{is_eq-slice_cmp}
use Rattle.std.proofs.Math.Bool.{and-true}
use Rattle.sqlite.specs.Tree.{IsAscending}
use Rattle.sqlite.specs.Ops.{binary, from_truth, is_true}
use Rattle.sqlite.specs.Collation.TheVariants.{Binary}
use Rattle.sqlite_sql.specs.declared.ops.BinaryOp.TheVariants.{Compare}
use Rattle.sqlite_sql.specs.declared.ops.CompareOp.TheVariants.{Eq}
use Rattle.sqlite_value.proofs.OrderLemmas.{value_cmp-Blob}
use Rattle.bor_terms.specs.Texts.{is_same}
use Rattle.bor_register.specs.Publication.{filing_shown}
use Rattle.bor_store_sql.proofs.Plain.{is_query}
use Rattle.bor_store_sql.proofs.StoredMembers.{numbered_of}

-- ---- what is shown of a row

pub statement_shown : (s : StatementRow) → (shown_as 8 refl [] [] all_statements_query.project all_statements_query.order (λ id x. refl) all_statements_query (statement_columns s)).1 ≡ statement_columns s
statement_shown s = search rules

pub interest_shown : (i : InterestRow) → (shown_as 11 refl [] [] all_interests_query.project all_interests_query.order (λ id x. refl) all_interests_query (interest_columns i)).1 ≡ interest_columns i
interest_shown i = search rules

-- ---- by table

-- whatever its rowid, a row passes the tests by its columns, and shows what they have
abbrev pub IsByColumns : ℕ → List Term → Row → Query → Type 0
IsByColumns t tests params query = (id : ℕ) (x : Row) → (keeps t tests params (Int (pos id) ∷ x) ≡ row_passes tests params x) × (output query (env t tests params (Int (pos id) ∷ x)) ≡ output query (params ∷ (Null ∷ x) ∷ []))

-- what it shows of columns
abbrev pub shown_of : Query → Row → Row → Row
shown_of query params x = (output query (params ∷ (Null ∷ x) ∷ [])).1

abbrev by_number : List (Term × Key)
by_number = rising 1 ∷ rising 2 ∷ []

abbrev by_place : List (Term × Key)
by_place = rising 1 ∷ rising 2 ∷ rising 3 ∷ []

abbrev pub by_item : List (Term × Key)
by_item = rising 1 ∷ rising 2 ∷ rising 3 ∷ rising 4 ∷ []

module _ {IsShown : Register → State → Type 0} {text : List ℕ} {params : Row} {tests project : List Term} where
  pub from_agents : Asked IsShown text (table_query 2 tests project (rising 1 ∷ [])) → (p : Member → Bool) → ((m : Member) → row_passes tests params (agent_columns m) ≡ p m)
      → IsByColumns 2 tests params (table_query 2 tests project (rising 1 ∷ [])) → ((m : Member) → shown_of (table_query 2 tests project (rising 1 ∷ [])) params (agent_columns m) ≡ agent_columns m)
      → Found IsShown text params (λ r. map agent_columns (filter p r.members))
  from_agents asked p same by_columns shown = record {
    query = asked.is_query;
    gives = λ r old new rows shows h.
        let it = asked.lists r old shows in
        picked_rows 2 refl tests params project (rising 1 ∷ []) (λ id x. (by_columns id x).0) agent_columns agent_columns p same r.members old.now.trees (map agent_columns r.members) rows refl (lists_now r old it h.0).agents (λ id x. (by_columns id x).1) shown
        (asked.answer r old new shows params rows h) IsBefore (λ a b lt. lt) (ascending-filter IsBefore p r.members (agents_rise r.members it.stored.ordered));
  }

  pub from_filings : Asked IsShown text (table_query 5 tests project by_number) → (out : Owned → Row) (p : Owned → Bool) → ((o : Owned) → row_passes tests params (whole o) ≡ p o)
      → IsByColumns 5 tests params (table_query 5 tests project by_number) → ((o : Owned) → shown_of (table_query 5 tests project by_number) params (whole o) ≡ out o) → Found IsShown text params (λ r. map out (filter p (owned r.members)))
  from_filings asked out p same by_columns shown = record {
    query = asked.is_query;
    gives = λ r old new rows shows h.
        let it = asked.lists r old shows in
        picked_rows 5 refl tests params project by_number (λ id x. (by_columns id x).0) whole out p same (owned r.members) old.now.trees (filing_rows r.members) rows (filing_rows_are r.members) (lists_now r old it h.0).filings (λ id x. (by_columns id x).1) shown
        (asked.answer r old new shows params rows h) IsEarlier (λ a b lt. lt) (ascending-filter IsEarlier p (owned r.members) (owned_rise r.members it.stored.ordered it.stored.numbered));
  }

  pub from_statements : Asked IsShown text (table_query 8 tests project by_place) → (out : Placed → Row) (p : Placed → Bool) → ((q : Placed) → row_passes tests params (statement_columns (bare q)) ≡ p q)
      → IsByColumns 8 tests params (table_query 8 tests project by_place) → ((q : Placed) → shown_of (table_query 8 tests project by_place) params (statement_columns (bare q)) ≡ out q)
      → Found IsShown text params (λ r. map out (filter p (placed r.members)))
  from_statements asked out p same by_columns shown = record {
    query = asked.is_query;
    gives = λ r old new rows shows h.
        let it = asked.lists r old shows in
        picked_rows 8 refl tests params project by_place (λ id x. (by_columns id x).0) (λ q. statement_columns (bare q)) out p same (placed r.members) old.now.trees (map (λ q. statement_columns (bare q)) (placed r.members)) rows refl
        (lists_now r old it h.0).statements (λ id x. (by_columns id x).1) shown (asked.answer r old new shows params rows h) IsPlacedBefore (λ a b lt. lt)
        (ascending-filter IsPlacedBefore p (placed r.members) (placed_rise r.members it.stored.ordered it.stored.numbered));
  }

  -- those of one agent
  own_filings_found : Asked IsShown text (table_query 5 tests project by_number) → (agent : List ℕ) (q : AcceptedFiling → Bool) (out : Owned → Row) → ((o : Owned) → row_passes tests params (whole o) ≡ (is_same o.agent agent && q o.filing))
      → IsByColumns 5 tests params (table_query 5 tests project by_number) → ((o : Owned) → shown_of (table_query 5 tests project by_number) params (whole o) ≡ out o) → Found IsShown text params (λ r. map (λ f. out (owned_filing agent f)) (filter q (filings_of agent r.members)))
  own_filings_found asked agent q out same by_columns shown =
      found_as (from_filings asked out (λ o. is_same o.agent agent && q o.filing) same by_columns shown) (λ r s shows. own_filings agent r.members (asked.lists r s shows).stored.ordered q out)

  own_statements_found : Asked IsShown text (table_query 8 tests project by_place) → (agent : List ℕ) (q : Placed → Bool) (out : Placed → Row) → ((p : Placed) → row_passes tests params (statement_columns (bare p)) ≡ (is_same p.at.agent agent && q p))
      → IsByColumns 8 tests params (table_query 8 tests project by_place) → ((p : Placed) → shown_of (table_query 8 tests project by_place) params (statement_columns (bare p)) ≡ out p) → Found IsShown text params (λ r. map out (filter q (placed_of agent r)))
  own_statements_found asked agent q out same by_columns shown =
      found_as (from_statements asked out (λ p. is_same p.at.agent agent && q p) same by_columns shown) (λ r s shows. ap (map out) (own_statements agent r.members (asked.lists r s shows).stored.ordered q))

  pub from_interests : Asked IsShown text (table_query 11 tests project by_item) → (p : InterestRow → Bool) → ((i : InterestRow) → row_passes tests params (interest_columns i) ≡ p i)
      → IsByColumns 11 tests params (table_query 11 tests project by_item) → ((i : InterestRow) → shown_of (table_query 11 tests project by_item) params (interest_columns i) ≡ interest_columns i)
      → Found IsShown text params (λ r. map interest_columns (filter p (flat_map interest_rows (placed r.members))))
  from_interests asked p same by_columns shown = record {
    query = asked.is_query;
    gives = λ r old new rows shows h.
        let it = asked.lists r old shows in
        let is = flat_map interest_rows (placed r.members) in
        picked_rows 11 refl tests params project by_item (λ id x. (by_columns id x).0) interest_columns interest_columns p same is old.now.trees
        (flat_map (λ q. map interest_columns (interest_rows q)) (placed r.members)) rows (sym (map-flat_map interest_columns interest_rows (placed r.members))) (lists_now r old it h.0).interests (λ id x. (by_columns id x).1) shown
        (asked.answer r old new shows params rows h) IsInterestBefore (λ a b lt. lt) (ascending-filter IsInterestBefore p is (interest_rows_rise r.members it.stored.ordered it.stored.numbered));
  }

  pub from_identifiers : Asked IsShown text (table_query 13 tests project by_item) → (p : IdentifierRow → Bool) → ((i : IdentifierRow) → row_passes tests params (identifier_columns i) ≡ p i)
      → IsByColumns 13 tests params (table_query 13 tests project by_item) → ((i : IdentifierRow) → shown_of (table_query 13 tests project by_item) params (identifier_columns i) ≡ identifier_columns i)
      → Found IsShown text params (λ r. map identifier_columns (filter p (flat_map identifier_rows (placed r.members))))
  from_identifiers asked p same by_columns shown = record {
    query = asked.is_query;
    gives = λ r old new rows shows h.
        let it = asked.lists r old shows in
        let is = flat_map identifier_rows (placed r.members) in
        picked_rows 13 refl tests params project by_item (λ id x. (by_columns id x).0) identifier_columns identifier_columns p same is old.now.trees
        (flat_map (λ q. map identifier_columns (identifier_rows q)) (placed r.members)) rows (sym (map-flat_map identifier_columns identifier_rows (placed r.members))) (lists_now r old it h.0).identifiers (λ id x. (by_columns id x).1) shown
        (asked.answer r old new shows params rows h) IsIdentifierBefore (λ a b lt. lt) (ascending-filter IsIdentifierBefore p is (identifier_rows_rise r.members it.stored.ordered it.stored.numbered));
  }

-- ---- the days of interests: the interests of which a day is said

abbrev pub is_said : InterestRow → Bool
is_said i = is_some i.interest.starts || is_some i.interest.ends

abbrev pub day_columns : InterestRow → Row
day_columns i = period_columns (period_of i)

-- its row, before those of others
one_listed : (i : InterestRow) (rows : List PeriodRow) (is : List InterestRow) → map period_columns rows ≡ map day_columns (filter is_said is)
    → map period_columns (period_rows i ++ rows) ≡ map day_columns (filter is_said (i ∷ is))
one_listed i rows is more = search rules

pub listed : (is : List InterestRow) → map period_columns (flat_map period_rows is) ≡ map day_columns (filter is_said is)
listed [] = refl
listed (i ∷ is) = one_listed i (flat_map period_rows is) is (listed is)

-- interest by interest, or statement by statement
all_listed : (ps : List Placed) → flat_map periods_of ps ≡ flat_map period_rows (flat_map interest_rows ps)
all_listed [] = refl
all_listed (p ∷ ps) = ap (λ l. periods_of p ++ l) (all_listed ps) ∙ sym (flat_map-append period_rows (interest_rows p) (flat_map interest_rows ps))

abbrev pub all_interests : List Member → List InterestRow
all_interests ms = flat_map interest_rows (placed ms)

pub table_is : (ms : List Member) → flat_map (λ (p : Placed). flat_map days_of (interest_rows p)) (placed ms) ≡ map day_columns (filter is_said (all_interests ms))
table_is ms = sym (periods_are (placed ms)) ∙ ap (map period_columns) (all_listed (placed ms)) ∙ listed (all_interests ms)

from_periods : {text : List ℕ} {params : Row} {tests project : List Term} → Asked ShowsIn text (table_query 19 tests project by_item) → (p : InterestRow → Bool) → ((i : InterestRow) → row_passes tests params (day_columns i) ≡ p i)
    → IsByColumns 19 tests params (table_query 19 tests project by_item) → ((i : InterestRow) → shown_of (table_query 19 tests project by_item) params (day_columns i) ≡ day_columns i)
    → Found ShowsIn text params (λ r. map day_columns (filter p (filter is_said (all_interests r.members))))
from_periods {text} {params} {tests} {project} asked p same by_columns shown = record {
  query = asked.is_query;
  gives = λ r old new rows shows h.
      let is = filter is_said (all_interests r.members) in
      picked_rows 19 refl tests params project by_item (λ id x. (by_columns id x).0) day_columns day_columns p same is old.now.trees (contents r).periods rows (table_is r.members) (has_now r old new shows h.0).periods (λ id x. (by_columns id x).1) shown
      (asked.answer r old new shows params rows h) IsInterestBefore (λ a b lt. lt)
      (ascending-filter IsInterestBefore p is (ascending-filter IsInterestBefore is_said (all_interests r.members) (interest_rows_rise r.members shows.stored.ordered shows.stored.numbered)));
}

pub all_periods_found : Found ShowsIn ALL_PERIODS.now [] (λ r. map period_columns (flat_map period_rows (flat_map interest_rows (placed r.members))))
all_periods_found =
    found_as (from_periods (asked_now all_periods_is) (λ i. true) (λ i. refl) (λ id x. (refl, refl)) (λ i. refl))
    (λ r s shows. ap (map day_columns) (all_pass (filter is_said (all_interests r.members))) ∙ sym (listed (all_interests r.members)))

pub periods_of_statement_found : (at : At) → Found ShowsIn PERIODS_OF_STATEMENT.now (place_params at) (λ r. map period_columns (flat_map period_rows (interests_at at r.members)))
periods_of_statement_found at =
    found_as (from_periods (asked_now periods_of_statement_is) (λ i. same_place i.at at) (λ i. place_test i.at at) (λ id x. (refl, refl)) (λ i. refl))
    (λ r s shows. ap (map day_columns) (filters_swap (λ (i : InterestRow). same_place i.at at) is_said (all_interests r.members) ∙ ap (filter is_said) (rows_at (λ (i : InterestRow). i.at) (λ a. same_place a at) interest_rows interests_stand (placed r.members))) ∙ sym (listed (interests_at at r.members)))

-- ---- the queries of version 2: tests of columns

as_truth : (b : Bool) → from_truth (Some b) ≡ truth b
as_truth b = search rules

blob_test : (a b : List ℕ) → binary (Compare Eq Binary) (Blob a) (Blob b) ≡ truth (is_same a b)
unfolding binary
blob_test a b = ap (λ t. from_truth (Some t)) (ap is_eq (value_cmp-Blob a b) ∙ is_eq-slice_cmp a b) ∙ as_truth (bytes_eq a b)

null_test : (a : List ℕ) → is_true (binary (Compare Eq Binary) Null (Text a)) ≡ false
unfolding binary
null_test a = refl

subject_test : (agent declaration rec : List ℕ) (q : Placed) → row_passes statements_of_subject_query.filter (Text agent ∷ Text declaration ∷ Text rec ∷ []) (statement_columns (bare q))
    ≡ (is_same q.at.agent agent && (is_same q.statement.declaration declaration && names_subject rec q.statement.details))
subject_test agent declaration rec q = search (rules, text_test, and-true, null_test)

-- ---- the last one

last_of_map : {X Y : Type 0} (f : X → Y) (xs : List X) → take 1 (reverse (map f xs)) ≡ map f (take 1 (reverse xs))
last_of_map f xs = ap (take 1) (sym (map_reverse f xs)) ∙ take-map f 1 (reverse xs)

abbrev IsLaterNumber : Owned → Owned → Type 0
IsLaterNumber a b = a.filing.number < b.filing.number

abbrev falling_keys : At → Row
falling_keys at = Int (pos at.filing) ∷ Int (pos at.place) ∷ []

abbrev IsLaterPlace : At → At → Type 0
IsLaterPlace a b = IsLower ((falling 2).1 ∷ (falling 3).1 ∷ []) (falling_keys b) (falling_keys a)

later_number : (name : List ℕ) (m n i j : ℕ) → m < n → IsLaterPlace (record { agent = name; filing = m; place = i }) (record { agent = name; filing = n; place = j })
later_number name m n i j lt = rw (lower_id m n lt) refl

later_place : (name : List ℕ) (n i j : ℕ) → i < j → IsLaterPlace (record { agent = name; filing = n; place = i }) (record { agent = name; filing = n; place = j })
later_place name n i j lt = rw (int_same (pos n), lower_id i j lt) refl

-- ---- the queries

pub all_register_found : Found ShowsIn ALL_REGISTER.now [] (λ r. register_columns r ∷ [])
all_register_found = record {
  query = is_query all_register_is;
  gives = λ r old new rows shows h.
      picked_rows 0 refl all_register_query.filter [] all_register_query.project all_register_query.order (λ id x. refl) register_columns register_columns (λ x. true) (λ x. refl) (r ∷ []) old.now.trees (register_columns r ∷ []) rows refl
      (has_now r old new shows h.0).register (λ id x. refl) (λ x. refl) (answers r old new shows h.0 ALL_REGISTER.now [] all_register_query all_register_is.asks rows h.1) (λ a b. ⊥)
      (λ a b lt. absurd lt) (tt, tt);
}

pub all_agents_found : Found ShowsIn ALL_AGENTS.now [] (λ r. map agent_columns r.members)
all_agents_found =
    found_as (from_agents (asked_now all_agents_is) (λ m. true) (λ m. refl) (λ id x. (refl, refl)) (λ m. refl))
    (λ r s shows. ap (map agent_columns) (all_pass r.members))

pub all_statements_found : Found ShowsIn ALL_STATEMENTS.now [] (λ r. map (λ p. statement_columns (bare p)) (placed r.members))
all_statements_found =
    found_as (from_statements (asked_now all_statements_is) (λ p. statement_columns (bare p)) (λ p. true) (λ p. refl) (λ id x. (refl, refl)) (λ p. statement_shown (bare p)))
    (λ r s shows. ap (map (λ p. statement_columns (bare p))) (all_pass (placed r.members)))

pub all_interests_found : Found ShowsIn ALL_INTERESTS.now [] (λ r. map interest_columns (flat_map interest_rows (placed r.members)))
all_interests_found =
    found_as (from_interests (asked_now all_interests_is) (λ i. true) (λ i. refl) (λ id x. (refl, refl)) interest_shown)
    (λ r s shows. ap (map interest_columns) (all_pass (flat_map interest_rows (placed r.members))))

pub all_identifiers_found : Found ShowsIn ALL_IDENTIFIERS.now [] (λ r. map identifier_columns (flat_map identifier_rows (placed r.members)))
all_identifiers_found =
    found_as (from_identifiers (asked_now all_identifiers_is) (λ i. true) (λ i. refl) (λ id x. (refl, refl)) (λ i. refl))
    (λ r s shows. ap (map identifier_columns) (all_pass (flat_map identifier_rows (placed r.members))))

pub more_statements_found : (count : ℕ) → Found ShowsIn MORE_STATEMENTS.now (Int (pos count) ∷ []) (λ r. map (λ p. Int (pos 1) ∷ []) (take 1 (drop count (placed r.members))))
more_statements_found count = record {
  query = is_query more_statements_is;
  gives = λ r old new rows shows h.
      let out : Placed → Row = λ p. Int (pos 1) ∷ [] in
      picked_later 8 refl more_statements_query.filter (Int (pos count) ∷ []) more_statements_query.project [] (λ id x. refl) (λ p. statement_columns (bare p)) out (λ p. true) (λ p. refl) (placed r.members) old.now.trees
      (map (λ p. statement_columns (bare p)) (placed r.members)) rows refl (has_now r old new shows h.0).statements 0 count refl (λ id x. refl) (λ p. refl)
      (answers r old new shows h.0 MORE_STATEMENTS.now (Int (pos count) ∷ []) more_statements_query more_statements_is.asks rows h.1) (Int (pos 1) ∷ []) (all_of (λ p. out p ≡ Int (pos 1) ∷ []) (λ p. refl) (filter (λ p. true) (placed r.members)))
      ∙ ap (λ l. map out (take 1 (drop count l))) (all_pass (placed r.members));
}

pub agent_by_name_found : (name : List ℕ) → Found ShowsIn AGENT_BY_NAME.now (Text name ∷ []) (λ r. map agent_columns (members_named name r.members))
agent_by_name_found name =
    from_agents (asked_now agent_by_name_is) (λ m. is_same m.name name) (λ m. and-true _ ∙ text_test m.name name) (λ id x. (refl, refl)) (λ m. refl)

pub agent_by_token_found : (token : List ℕ) → Found ShowsIn AGENT_BY_TOKEN.now (Text token ∷ []) (λ r. map agent_columns (members_having token r.members))
agent_by_token_found token =
    from_agents (asked_now agent_by_token_is) (λ m. is_same m.token token) (λ m. and-true _ ∙ text_test m.token token) (λ id x. (refl, refl)) (λ m. refl)

pub filing_by_key_found : (agent key : List ℕ) → Found ShowsIn FILING_BY_KEY.now (Text agent ∷ Text key ∷ []) (λ r. map (λ f. shown_columns (filing_shown f)) (keyed key (filings_of agent r.members)))
filing_by_key_found agent key = own_filings_found (asked_now filing_by_key_is) agent (λ f. is_same f.key key) (λ o. shown_columns (filing_shown o.filing)) (λ o. ap₂ (λ x y. x && y) (text_test o.agent agent) (and-true _ ∙ text_test o.filing.key key)) (λ id x. (refl, refl)) (λ o. refl)

pub line_by_key_found : (agent key : List ℕ) → Found ShowsIn LINE_BY_KEY.now (Text agent ∷ Text key ∷ []) (λ r. map (λ f. line_columns (filing_row agent f)) (keyed key (filings_of agent r.members)))
line_by_key_found agent key = own_filings_found (asked_now line_by_key_is) agent (λ f. is_same f.key key) (λ o. line_columns (filing_row o.agent o.filing)) (λ o. ap₂ (λ x y. x && y) (text_test o.agent agent) (and-true _ ∙ text_test o.filing.key key)) (λ id x. (refl, refl)) (λ o. refl)

pub line_by_number_found : (agent : List ℕ) (number : ℕ) → Found ShowsIn LINE_BY_NUMBER.now (Text agent ∷ Int (pos number) ∷ []) (λ r. map (λ f. line_columns (filing_row agent f)) (numbered number (filings_of agent r.members)))
line_by_number_found agent number = own_filings_found (asked_now line_by_number_is) agent (λ f. f.number == number) (λ o. line_columns (filing_row o.agent o.filing))
    (λ o. ap₂ (λ x y. x && y) (text_test o.agent agent) (and-true _ ∙ int_test (pos o.filing.number) (pos number) ∙ number_test o.filing.number number)) (λ id x. (refl, refl)) (λ o. refl)

pub same_bytes_found : (agent key bytes : List ℕ) → Found ShowsIn SAME_BYTES.now (Text agent ∷ Text key ∷ Blob bytes ∷ []) (λ r. map (λ f. truth (is_same f.bytes bytes) ∷ []) (keyed key (filings_of agent r.members)))
same_bytes_found agent key bytes = own_filings_found (asked_now same_bytes_is) agent (λ f. is_same f.key key) (λ o. truth (is_same o.filing.bytes bytes) ∷ [])
    (λ o. ap₂ (λ x y. x && y) (text_test o.agent agent) (and-true _ ∙ text_test o.filing.key key)) (λ id x. (refl, refl)) (λ o. ap (λ v. v ∷ []) (blob_test o.filing.bytes bytes))

pub filings_of_agent_found : (agent : List ℕ) → Found ShowsIn FILINGS_OF_AGENT.now (Text agent ∷ []) (λ r. map (λ f. line_columns (filing_row agent f)) (filings_of agent r.members))
filings_of_agent_found agent =
    found_as (from_filings (asked_now filings_of_agent_is) (λ o. line_columns (filing_row o.agent o.filing)) (λ o. is_same o.agent agent) (λ o. and-true _ ∙ text_test o.agent agent) (λ id x. (refl, refl)) (λ o. refl))
    (λ r s shows. ap (map (λ (o : Owned). line_columns (filing_row o.agent o.filing))) (own_owned agent r.members shows.stored.ordered) ∙ map-map (λ (o : Owned). line_columns (filing_row o.agent o.filing)) (owned_filing agent) (filings_of agent r.members))

pub last_filing_found : (agent : List ℕ) → Found ShowsIn LAST_FILING.now (Text agent ∷ []) (λ r. map (λ f. line_columns (filing_row agent f)) (last (filings_of agent r.members)))
last_filing_found agent = record {
  query = is_query last_filing_is;
  gives = λ r old new rows shows h.
      let fs = filings_of agent r.members in
      let out : Owned → Row = λ o. line_columns (filing_row o.agent o.filing) in
      let own = own_owned agent r.members shows.stored.ordered in
      let up = filings_rise IsLaterNumber (owned_filing agent) (λ f g lt. lt) 1 fs (numbered_of agent r.members shows.stored.numbered) in
      picked_last 5 refl last_filing_query.filter (Text agent ∷ []) last_filing_query.project last_filing_query.order (λ id x. refl) whole out (λ o. is_same o.agent agent) (λ o. and-true _ ∙ text_test o.agent agent) (owned r.members) old.now.trees
      (filing_rows r.members) rows (filing_rows_are r.members) (has_now r old new shows h.0).filings (λ id x. refl) (λ o. refl) (answers r old new shows h.0 LAST_FILING.now (Text agent ∷ []) last_filing_query last_filing_is.asks rows h.1)
      IsLaterNumber (λ a b lt. rw (lower_id a.filing.number b.filing.number lt) refl) (subst (IsAscending IsLaterNumber) (sym own) up)
      ∙ ap (λ l. map out (take 1 (reverse l))) own ∙ ap (map out) (last_of_map (owned_filing agent) fs) ∙ map-map out (owned_filing agent) (last fs);
}

pub last_of_series_found : (agent declaration rec : List ℕ) → Found ShowsIn LAST_OF_SERIES.now (Text agent ∷ Text declaration ∷ Text rec ∷ []) (λ r. map (λ p. statement_columns (bare p)) (last (in_series declaration rec (placed_of agent r))))
last_of_series_found agent declaration rec = record {
  query = is_query last_of_series_is;
  gives = λ r old new rows shows h.
      let out : Placed → Row = λ p. statement_columns (bare p) in
      let q : Placed → Bool = λ p. is_same p.statement.declaration declaration && is_same p.statement.rec rec in
      let own = own_statements agent r.members shows.stored.ordered q in
      let Up : Placed → Placed → Type 0 = λ a b. IsLaterPlace a.at b.at in
      let up = ascending-filter Up q (placed_of agent r) (statements_rise IsLaterPlace later_number later_place agent 1 (filings_of agent r.members) (numbered_of agent r.members shows.stored.numbered)) in
      picked_last 8 refl last_of_series_query.filter (Text agent ∷ Text declaration ∷ Text rec ∷ []) last_of_series_query.project last_of_series_query.order (λ id x. refl) out out (λ p. is_same p.at.agent agent && q p)
      (λ p. ap₂ (λ x y. x && y) (text_test p.at.agent agent) (ap₂ (λ x y. x && y) (text_test p.statement.declaration declaration) (and-true _ ∙ text_test p.statement.rec rec))) (placed r.members) old.now.trees
      (map out (placed r.members)) rows refl (has_now r old new shows h.0).statements (λ id x. refl) (λ p. statement_shown (bare p))
      (answers r old new shows h.0 LAST_OF_SERIES.now (Text agent ∷ Text declaration ∷ Text rec ∷ []) last_of_series_query last_of_series_is.asks rows h.1) Up (λ a b lt. lt) (subst (IsAscending Up) (sym own) up)
      ∙ ap (λ l. map out (last l)) own;
}

pub statement_by_id_found : (agent id : List ℕ) → Found ShowsIn STATEMENT_BY_ID.now (Text agent ∷ Text id ∷ []) (λ r. map place_columns (identified id (placed_of agent r)))
statement_by_id_found agent id = own_statements_found (asked_now statement_by_id_is) agent (λ p. is_same p.statement.id id) place_columns (λ p. ap₂ (λ x y. x && y) (text_test p.at.agent agent) (and-true _ ∙ text_test p.statement.id id)) (λ id x. (refl, refl)) (λ p. refl)

pub statements_of_declaration_found : (agent declaration : List ℕ) → Found ShowsIn STATEMENTS_OF_DECLARATION.now (Text agent ∷ Text declaration ∷ []) (λ r. map (λ p. statement_columns (bare p)) (in_declaration declaration (placed_of agent r)))
statements_of_declaration_found agent declaration = own_statements_found (asked_now statements_of_declaration_is) agent (λ p. is_same p.statement.declaration declaration) (λ p. statement_columns (bare p))
    (λ p. ap₂ (λ x y. x && y) (text_test p.at.agent agent) (and-true _ ∙ text_test p.statement.declaration declaration)) (λ id x. (refl, refl)) (λ p. statement_shown (bare p))

pub statements_of_series_found : (agent declaration rec : List ℕ) → Found ShowsIn STATEMENTS_OF_SERIES.now (Text agent ∷ Text declaration ∷ Text rec ∷ []) (λ r. map (λ p. statement_columns (bare p)) (in_series declaration rec (placed_of agent r)))
statements_of_series_found agent declaration rec = own_statements_found (asked_now statements_of_series_is) agent (λ p. is_same p.statement.declaration declaration && is_same p.statement.rec rec) (λ p. statement_columns (bare p))
    (λ p. ap₂ (λ x y. x && y) (text_test p.at.agent agent) (ap₂ (λ x y. x && y) (text_test p.statement.declaration declaration) (and-true _ ∙ text_test p.statement.rec rec))) (λ id x. (refl, refl)) (λ p. statement_shown (bare p))

pub statements_of_record_found : (agent rec : List ℕ) → Found ShowsIn STATEMENTS_OF_RECORD.now (Text agent ∷ Text rec ∷ []) (λ r. map (λ p. statement_columns (bare p)) (in_record rec (placed_of agent r)))
statements_of_record_found agent rec = own_statements_found (asked_now statements_of_record_is) agent (λ p. is_same p.statement.rec rec) (λ p. statement_columns (bare p)) (λ p. ap₂ (λ x y. x && y) (text_test p.at.agent agent) (and-true _ ∙ text_test p.statement.rec rec)) (λ id x. (refl, refl)) (λ p. statement_shown (bare p))

pub statements_of_subject_found : (agent declaration rec : List ℕ) → Found ShowsIn STATEMENTS_OF_SUBJECT.now (Text agent ∷ Text declaration ∷ Text rec ∷ []) (λ r. map (λ p. statement_columns (bare p)) (with_subject declaration rec (placed_of agent r)))
statements_of_subject_found agent declaration rec = own_statements_found (asked_now statements_of_subject_is) agent (λ p. is_same p.statement.declaration declaration && names_subject rec p.statement.details) (λ p. statement_columns (bare p)) (subject_test agent declaration rec) (λ id x. (refl, refl)) (λ p. statement_shown (bare p))

pub identifiers_by_id_found : (scheme id : List ℕ) → Found ShowsIn IDENTIFIERS_BY_ID.now (Text scheme ∷ Text id ∷ []) (λ r. map identifier_columns (identified_by scheme id r.members))
identifiers_by_id_found scheme id =
    from_identifiers (asked_now identifiers_by_id_is) (λ i. is_same i.identifier.scheme scheme && is_same i.identifier.id id) (λ i. ap₂ (λ x y. x && y) (text_test i.identifier.scheme scheme) (and-true _ ∙ text_test i.identifier.id id)) (λ id x. (refl, refl)) (λ i. refl)

pub statement_by_place_found : (at : At) → Found ShowsIn STATEMENT_BY_PLACE.now (place_params at) (λ r. map (λ p. statement_columns (bare p)) (standing_at at r.members))
statement_by_place_found at =
    from_statements (asked_now statement_by_place_is) (λ p. statement_columns (bare p)) (λ p. same_place p.at at) (λ p. place_test p.at at) (λ id x. (refl, refl)) (λ p. statement_shown (bare p))

-- ---- the queries of either version: all but the days of interests

pub all_filings_found : Found ShowsLists ALL_FILINGS.now [] (λ r. map line_columns (filing_lines r.members))
all_filings_found =
    found_as (from_filings (asked_both all_filings_both) (λ o. line_columns (filing_row o.agent o.filing)) (λ o. true) (λ o. refl) (λ id x. (refl, refl)) (λ o. refl))
    (λ r s shows. ap (map (λ (o : Owned). line_columns (filing_row o.agent o.filing))) (all_pass (owned r.members)) ∙ lines_are r.members)

pub file_by_number_found : (agent : List ℕ) (number : ℕ) → Found ShowsLists FILE_BY_NUMBER.now (Text agent ∷ Int (pos number) ∷ []) (λ r. map (λ f. shown_columns (filing_shown f)) (numbered number (filings_of agent r.members)))
file_by_number_found agent number = own_filings_found (asked_both file_by_number_both) agent (λ f. f.number == number) (λ o. shown_columns (filing_shown o.filing))
    (λ o. ap₂ (λ x y. x && y) (text_test o.agent agent) (and-true _ ∙ int_test (pos o.filing.number) (pos number) ∙ number_test o.filing.number number)) (λ id x. (refl, refl)) (λ o. refl)

pub statements_of_filing_found : (agent : List ℕ) (number : ℕ) → Found ShowsLists STATEMENTS_OF_FILING.now (Text agent ∷ Int (pos number) ∷ []) (λ r. map (λ p. statement_columns (bare p)) (in_filing number (placed_of agent r)))
statements_of_filing_found agent number = own_statements_found (asked_both statements_of_filing_both) agent (λ q. q.at.filing == number) (λ q. statement_columns (bare q))
    (λ q. ap₂ (λ x y. x && y) (text_test q.at.agent agent) (and-true _ ∙ int_test (pos q.at.filing) (pos number) ∙ number_test q.at.filing number)) (λ id x. (refl, refl)) (λ q. statement_shown (bare q))

pub interests_of_statement_found : (at : At) → Found ShowsLists INTERESTS_OF_STATEMENT.now (place_params at) (λ r. map interest_columns (interests_at at r.members))
interests_of_statement_found at =
    found_as (from_interests (asked_both interests_of_statement_both) (λ i. same_place i.at at) (λ i. place_test i.at at) (λ id x. (refl, refl)) interest_shown)
    (λ r s shows. ap (map interest_columns) (rows_at (λ (i : InterestRow). i.at) (λ a. same_place a at) interest_rows interests_stand (placed r.members)))

pub identifiers_of_statement_found : (at : At) → Found ShowsLists IDENTIFIERS_OF_STATEMENT.now (place_params at) (λ r. map identifier_columns (identifiers_at at r.members))
identifiers_of_statement_found at =
    found_as (from_identifiers (asked_both identifiers_of_statement_both) (λ i. same_place i.at at) (λ i. place_test i.at at) (λ id x. (refl, refl)) (λ i. refl))
    (λ r s shows. ap (map identifier_columns) (rows_at (λ (i : IdentifierRow). i.at) (λ a. same_place a at) identifier_rows identifiers_stand (placed r.members)))
