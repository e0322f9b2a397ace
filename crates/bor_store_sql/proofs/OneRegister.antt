-- The rows of a database are those of one register at most.
use Rattle.std.proofs.Common.{◌≡◌, ℕ, ℤ, zero, suc, pos, ◌+◌, List, [], ◌∷◌, map, refl, sym, ap, ap₂, subst, ◌∙◌, arith, IsPermutation, IsSorted, flat_map, rules}
use Rattle.std.specs.Ordering.{is_lt, ordering_reverse}
use Rattle.std.proofs.lemmas.List.{map-append}
use Rattle.std.proofs.lemmas.List.Sorted.{IsPermutation-trans, IsPermutation-sym}
use Rattle.sqlite.specs.Effect.{Database}
use Rattle.sqlite.specs.Order.{Row}
use Rattle.sqlite.specs.State.{State}
use Rattle.sqlite.specs.Tree.{IsAscending}
use Rattle.sqlite.specs.declared.types.Value.TheVariants.{Int}
use Rattle.sqlite_keyed.proofs.ListLemmas.{ascending-filter, ascending-map, map-flat_map, map-map}
use Rattle.sqlite_keyed.proofs.SortLemmas.{sorted_unique}
use Rattle.sqlite_sql.proofs.QueryLemmas.{key_cmp_total}
use Rattle.sqlite_sql.specs.Query.{key_cmp}
use Rattle.sqlite_value.specs.declared.keys.Key.{Key}
use Rattle.bor_register.specs.Register.{IsOrdered, Register}
use Rattle.bor_register.specs.declared.member.Member.{Member}
use Rattle.bor_store_sql.specs.Kept.{AreRows, Keeps}
use Rattle.bor_store_sql.specs.Rows.Encoding.{agent_columns, contents, filing_rows, identifier_columns, interest_columns, interest_line_columns, period_columns, statement_columns, tables_version, versioned_columns}
use Rattle.bor_store_sql.specs.Rows.Placed.{agent_row, bare, identifier_rows, interest_rows, interest_line, period_rows, placed, register_row}
use Rattle.bor_store_sql.specs.Rows.Stored.{AllNumbered, IsStored}
use Rattle.bor_store_sql.specs.Shown.{Has, HasLists, ShowsIn}
use Rattle.bor_store_sql.specs.declared.rows.typed.RegisterRow.{RegisterRow}
use Rattle.bor_store_sql.proofs.OnRows.Apart.{all_apart}
use Rattle.bor_store_sql.proofs.OnRows.Decoded.{agent_in, filing_back, filing_in, identifier_back, identifier_in, line_back, line_in, period_back, period_in, register_in, same_values, statement_back, statement_in}
use Rattle.bor_store_sql.proofs.OnRows.Once.{all_filed, same_joined, same_members, same_timed}
use Rattle.bor_store_sql.proofs.OnRows.Timings.{all_several}
use Rattle.bor_store_sql.proofs.Orders.{IsLower, agents_rise, filing_rows_are, identifier_rows_rise, interest_rows_rise, owned, owned_rise, placed_rise, up, whole}
use Rattle.bor_store_sql.proofs.Selecting.{all_interests, listed, table_is}
use Rattle.bor_store_sql.proofs.Finding.{lists_of}

-- ---- the rows of one table

-- what stands under rising rowids
same_stored : (low other : ℕ) (xs ys rows : List Row) → AreRows low xs rows → AreRows other ys rows → xs ≡ ys
same_stored low other [] [] rows a b = refl
same_stored low other [] (y ∷ ys) rows a b = let no : [] ≡ (Int (pos b.0) ∷ y) ∷ b.1 = sym a ∙ b.3 in absurd cc
same_stored low other (x ∷ xs) [] rows a b = let no : [] ≡ (Int (pos a.0) ∷ x) ∷ a.1 = sym b ∙ a.3 in absurd cc
same_stored low other (x ∷ xs) (y ∷ ys) rows a b =
    let both : (Int (pos a.0) ∷ x) ∷ a.1 ≡ (Int (pos b.0) ∷ y) ∷ b.1 = sym a.3 ∙ b.3 in
    let here : x ≡ y = cc in
    let more : a.1 ≡ b.1 = cc in
    ap₂ (λ z l. z ∷ l) here (same_stored (a.0 + 1) (b.0 + 1) xs ys a.1 a.4 (subst (λ l. AreRows (b.0 + 1) ys l) (sym more) b.4))

-- rows that rise are sorted
sorted_so : (keys : List Key) (xs : List Row) → IsAscending (IsLower keys) xs → IsSorted (key_cmp 0 keys) xs
sorted_so keys [] rise k d a b = absurd (omega (arith, b))
sorted_so keys (x ∷ []) rise k d a b = absurd (omega (arith, b))
sorted_so keys (x ∷ y ∷ xs) rise zero d a b = ap is_lt ((key_cmp_total keys 0).antisymm y x ∙ ap ordering_reverse rise.0.0)
sorted_so keys (x ∷ y ∷ xs) rise (suc k) d a b = search (rules, sorted_so keys (y ∷ xs))

-- a table has one list of rows that rise
same_rows : (keys : List Key) (xs ys rows : List Row) → IsAscending (IsLower keys) xs → IsAscending (IsLower keys) ys → Keeps xs rows → Keeps ys rows → xs ≡ ys
same_rows keys xs ys rows rise rise_too a b =
    let stored = same_stored 1 1 a.stored b.stored rows a.under b.under in
    sym (sorted_unique (key_cmp 0 keys) (key_cmp_total keys 0) xs ys rise (IsPermutation-trans _ _ _ (IsPermutation-sym _ _ a.same) (subst (λ l. IsPermutation l ys) (sym stored) b.same)) (sorted_so keys ys rise_too))

-- ---- the values of each table

filed_are : (ms : List Member) → map filing_in (filing_rows ms) ≡ all_filed ms
filed_are [] = refl
filed_are (m ∷ ms) = search (rules, map-append, map-map, filing_back, filed_are ms)

-- the row of the register in a version
pub one_row : (version : ℤ) (a b : RegisterRow) (rows : List Row) → Keeps (versioned_columns version a ∷ []) rows → Keeps (versioned_columns version b ∷ []) rows → a ≡ b
one_row version a b rows keeps keeps_too =
    let one : versioned_columns version a ∷ [] ≡ versioned_columns version b ∷ [] = same_rows [] (versioned_columns version a ∷ []) (versioned_columns version b ∷ []) rows (tt, tt) (tt, tt) keeps keeps_too in
    let row : versioned_columns version a ≡ versioned_columns version b = cc in
    ap register_in row

-- the names go up, and each agent's filings are numbered from 1 on
abbrev pub AreUp : Register → Type 0
AreUp r = IsOrdered r.members × AllNumbered r.members

-- ---- the lists that are alike in both versions

module _ (r q : Register) (db : Database) (rise : AreUp r) (rise_too : AreUp q) (has : HasLists (contents r) db) (has_too : HasLists (contents q) db) where
  agents : map agent_row r.members ≡ map agent_row q.members
  agents =
      sym (map-map agent_in agent_columns r.members)
      ∙ ap (map agent_in) (same_rows (up ∷ []) (map agent_columns r.members) (map agent_columns q.members) (db.trees 2)
      (ascending-map (IsLower (up ∷ [])) agent_columns r.members (agents_rise r.members rise.0)) (ascending-map (IsLower (up ∷ [])) agent_columns q.members (agents_rise q.members rise_too.0)) has.agents has_too.agents)
      ∙ map-map agent_in agent_columns q.members

  filings_up : (s : Register) → AreUp s → IsAscending (IsLower (up ∷ up ∷ [])) (filing_rows s.members)
  filings_up s is = subst (IsAscending (IsLower (up ∷ up ∷ []))) (sym (filing_rows_are s.members)) (ascending-map (IsLower (up ∷ up ∷ [])) whole (owned s.members) (owned_rise s.members is.0 is.1))

  filings : all_filed r.members ≡ all_filed q.members
  filings =
      sym (filed_are r.members) ∙ ap (map filing_in) (same_rows (up ∷ up ∷ []) (filing_rows r.members) (filing_rows q.members) (db.trees 5) (filings_up r rise) (filings_up q rise_too) has.filings has_too.filings) ∙ filed_are q.members

  statements_up : (s : Register) → AreUp s → IsAscending (IsLower (up ∷ up ∷ up ∷ [])) (map (λ p. statement_columns (bare p)) (placed s.members))
  statements_up s is = ascending-map (IsLower (up ∷ up ∷ up ∷ [])) (λ p. statement_columns (bare p)) (placed s.members) (placed_rise s.members is.0 is.1)

  statements : map bare (placed r.members) ≡ map bare (placed q.members)
  statements =
      same_values statement_columns statement_in statement_back (map bare (placed r.members)) (map bare (placed q.members))
      (map-map statement_columns bare (placed r.members) ∙ same_rows (up ∷ up ∷ up ∷ []) (map (λ p. statement_columns (bare p)) (placed r.members)) (map (λ p. statement_columns (bare p)) (placed q.members)) (db.trees 8) (statements_up r rise) (statements_up q rise_too) has.statements has_too.statements ∙ sym (map-map statement_columns bare (placed q.members)))

  interests_up : (s : Register) → AreUp s → IsAscending (IsLower (up ∷ up ∷ up ∷ up ∷ [])) (contents s).interests
  interests_up s is =
      subst (IsAscending (IsLower (up ∷ up ∷ up ∷ up ∷ []))) (map-flat_map interest_columns interest_rows (placed s.members))
      (ascending-map (IsLower (up ∷ up ∷ up ∷ up ∷ [])) interest_columns (all_interests s.members) (interest_rows_rise s.members is.0 is.1))

  lines : map interest_line (all_interests r.members) ≡ map interest_line (all_interests q.members)
  lines =
      same_values interest_line_columns line_in line_back (map interest_line (all_interests r.members)) (map interest_line (all_interests q.members))
      (map-map interest_line_columns interest_line (all_interests r.members) ∙ map-flat_map interest_columns interest_rows (placed r.members)
      ∙ same_rows (up ∷ up ∷ up ∷ up ∷ []) (contents r).interests (contents q).interests (db.trees 11) (interests_up r rise) (interests_up q rise_too) has.interests has_too.interests
      ∙ sym (map-flat_map interest_columns interest_rows (placed q.members)) ∙ sym (map-map interest_line_columns interest_line (all_interests q.members)))

  identifiers_up : (s : Register) → AreUp s → IsAscending (IsLower (up ∷ up ∷ up ∷ up ∷ [])) (contents s).identifiers
  identifiers_up s is =
      subst (IsAscending (IsLower (up ∷ up ∷ up ∷ up ∷ []))) (map-flat_map identifier_columns identifier_rows (placed s.members))
      (ascending-map (IsLower (up ∷ up ∷ up ∷ up ∷ [])) identifier_columns (flat_map identifier_rows (placed s.members)) (identifier_rows_rise s.members is.0 is.1))

  identifiers : flat_map identifier_rows (placed r.members) ≡ flat_map identifier_rows (placed q.members)
  identifiers =
      same_values identifier_columns identifier_in identifier_back (flat_map identifier_rows (placed r.members)) (flat_map identifier_rows (placed q.members))
      (map-flat_map identifier_columns identifier_rows (placed r.members)
      ∙ same_rows (up ∷ up ∷ up ∷ up ∷ []) (contents r).identifiers (contents q).identifiers (db.trees 13) (identifiers_up r rise) (identifiers_up q rise_too) has.identifiers has_too.identifiers
      ∙ sym (map-flat_map identifier_columns identifier_rows (placed q.members)))

  -- where the days of interests are the same too, so are the members
  pub one_list : flat_map period_rows (all_interests r.members) ≡ flat_map period_rows (all_interests q.members) → r.members ≡ q.members
  one_list periods = search (rules, all_apart, same_timed, all_several, lines, same_members, agents, filings, same_joined, statements, identifiers)

-- ---- version 2

module _ (r q : Register) (db : Database) (stored : IsStored r) (stored_too : IsStored q) (has : Has (contents r) db) (has_too : Has (contents q) db) where
  rise : AreUp r
  rise = (stored.ordered, stored.numbered)

  rise_too : AreUp q
  rise_too = (stored_too.ordered, stored_too.numbered)

  registers : register_row r ≡ register_row q
  registers = one_row tables_version (register_row r) (register_row q) (db.trees 0) has.register has_too.register

  periods_up : (s : Register) → AreUp s → IsAscending (IsLower (up ∷ up ∷ up ∷ up ∷ [])) (contents s).periods
  periods_up s is = search (rules, table_is, ascending-map, all_interests, ascending-filter, interest_rows_rise)

  periods : flat_map period_rows (all_interests r.members) ≡ flat_map period_rows (all_interests q.members)
  periods =
      same_values period_columns period_in period_back (flat_map period_rows (all_interests r.members)) (flat_map period_rows (all_interests q.members))
      (listed (all_interests r.members) ∙ sym (table_is r.members)
      ∙ same_rows (up ∷ up ∷ up ∷ up ∷ []) (contents r).periods (contents q).periods (db.trees 19) (periods_up r rise) (periods_up q rise_too) has.periods has_too.periods
      ∙ table_is q.members ∙ sym (listed (all_interests q.members)))

  pub one_register : r ≡ q
  one_register =
      let members = one_list r q db rise rise_too (lists_of has) (lists_of has_too) periods in
      λ k. record { day = (registers k).day; registrar = (registers k).registrar; members = members k }

-- the same of what the last commit left
pub one_shown : (r q : Register) (s : State) → ShowsIn r s → ShowsIn q s → r ≡ q
one_shown r q s shows too = one_register r q s.committed shows.stored too.stored shows.has too.has
