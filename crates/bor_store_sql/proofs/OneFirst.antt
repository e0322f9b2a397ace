-- Tables of version 1 tell all of a register but the days of its interests.
use Rattle.std.proofs.Common.{◌≡◌, ℕ, List, [], ◌∷◌, ◌++◌, map, refl, sym, ap, ap₂, subst, ◌∙◌, ◌+◌, flat_map, rules}
use Rattle.std.proofs.lemmas.List.{map-append}
use Rattle.std.proofs.lemmas.List.Concat.{flat_map-append}
use Rattle.sqlite.specs.Effect.{Database}
use Rattle.bods_read.specs.declared.details.Details.{Details}
use Rattle.bods_read.specs.declared.interest.Interest.{Interest}
use Rattle.bods_read.specs.declared.statement.Statement.{Statement}
use Rattle.bor_register.specs.Register.{AllAbove, IsOrdered, Register}
use Rattle.bor_register.specs.declared.filing.AcceptedFiling.{AcceptedFiling}
use Rattle.bor_register.specs.declared.member.Member.{Member}
use Rattle.bor_store_sql.specs.Laws.{FirstTablesTellAllButDays}
use Rattle.bor_store_sql.specs.Rows.Encoding.{agent_columns, contents, filing_columns, filing_rows, first_version, identifier_columns, interest_columns, statement_columns}
use Rattle.bor_store_sql.specs.Rows.Placed.{bare, identifier_rows, identifiers_listed, interest_rows, interests_from, interests_listed, period_rows, placed, placed_by, placed_from, register_row}
use Rattle.bor_store_sql.specs.Rows.Stored.{AllNumbered, AreNumbered}
use Rattle.bor_store_sql.specs.Shown.{HasFirst, HasLists, first_contents}
use Rattle.bor_store_sql.specs.Undated.{undated, undated_details, undated_filing, undated_member, undated_statement, without_days}
use Rattle.bor_store_sql.specs.declared.rows.places.At.{At}
use Rattle.bor_store_sql.specs.declared.rows.typed.Placed.{Placed}
use Rattle.bor_store_sql.proofs.OneRegister.{AreUp, one_list, one_row}
use Rattle.bor_store_sql.proofs.Selecting.{all_interests}
use Rattle.sqlite_keyed.proofs.ListLemmas.{flat_map-map, flat_map_same_on, map-map, map_same}
use Rattle.bor_store_sql.proofs.Finding.{lists_of_first}

-- ---- names and numbers

above_undated : (name : List ℕ) (ms : List Member) → AllAbove name ms → AllAbove name (map undated_member ms)
above_undated name [] h = tt
above_undated name (m ∷ ms) h = (h.0, above_undated name ms h.1)

ordered_undated : (ms : List Member) → IsOrdered ms → IsOrdered (map undated_member ms)
ordered_undated [] h = tt
ordered_undated (m ∷ ms) h = (above_undated m.name ms h.0, ordered_undated ms h.1)

numbers_undated : (n : ℕ) (fs : List AcceptedFiling) → AreNumbered n fs → AreNumbered n (map undated_filing fs)
numbers_undated n [] h = tt
numbers_undated n (f ∷ fs) h = (h.0, numbers_undated (n + 1) fs h.1)

numbered_undated : (ms : List Member) → AllNumbered ms → AllNumbered (map undated_member ms)
numbered_undated [] h = tt
numbered_undated (m ∷ ms) h = (numbers_undated 1 m.filings h.0, numbered_undated ms h.1)

up_undated : (r : Register) → AreUp r → AreUp (without_days r)
up_undated r rise = (ordered_undated r.members rise.0, numbered_undated r.members rise.1)

-- ---- the rows of statements

abbrev undated_placed : Placed → Placed
undated_placed p = record p { statement = undated_statement p.statement }

placed_from_undated : (agent : List ℕ) (filing place : ℕ) (ss : List Statement) → placed_from agent filing place (map undated_statement ss) ≡ map undated_placed (placed_from agent filing place ss)
placed_from_undated agent filing place [] = refl
placed_from_undated agent filing place (s ∷ ss) = ap (λ l. undated_placed (record { at = record { agent = agent; filing = filing; place = place }; statement = s }) ∷ l) (placed_from_undated agent filing (place + 1) ss)

placed_by_undated : (agent : List ℕ) (fs : List AcceptedFiling) → placed_by agent (map undated_filing fs) ≡ map undated_placed (placed_by agent fs)
placed_by_undated agent [] = refl
placed_by_undated agent (f ∷ fs) =
    ap₂ (λ x y. x ++ y) (placed_from_undated agent f.number 1 f.statements) (placed_by_undated agent fs) ∙ sym (map-append undated_placed (placed_from agent f.number 1 f.statements) (placed_by agent fs))

placed_undated : (ms : List Member) → placed (map undated_member ms) ≡ map undated_placed (placed ms)
placed_undated [] = refl
placed_undated (m ∷ ms) = ap₂ (λ x y. x ++ y) (placed_by_undated m.name m.filings) (placed_undated ms) ∙ sym (map-append undated_placed (placed_by m.name m.filings) (placed ms))

bare_undated : (p : Placed) → bare (undated_placed p) ≡ bare p
bare_undated p = search rules

identified_undated : (d : Details) → identifiers_listed (undated_details d) ≡ identifiers_listed d
identified_undated d = search rules

held_undated : (d : Details) → interests_listed (undated_details d) ≡ map undated (interests_listed d)
held_undated d = search rules

-- ---- the rows of the tables

agents_undated : (ms : List Member) → map agent_columns (map undated_member ms) ≡ map agent_columns ms
agents_undated ms = map-map agent_columns undated_member ms

filings_undated : (ms : List Member) → filing_rows (map undated_member ms) ≡ filing_rows ms
filings_undated [] = refl
filings_undated (m ∷ ms) = ap₂ (λ x y. x ++ y) (map-map (filing_columns m.name) undated_filing m.filings) (filings_undated ms)

statements_undated : (ps : List Placed) → map (λ p. statement_columns (bare p)) (map undated_placed ps) ≡ map (λ p. statement_columns (bare p)) ps
statements_undated ps = search (rules, map-map, map_same, bare_undated)

held_from : (at : At) (item : ℕ) (is : List Interest) → map interest_columns (interests_from at item (map undated is)) ≡ map interest_columns (interests_from at item is)
held_from at item [] = refl
held_from at item (i ∷ is) = ap (λ l. interest_columns (record { at = at; item = item; interest = i }) ∷ l) (held_from at (item + 1) is)

interests_undated : (ps : List Placed) → flat_map (λ p. map interest_columns (interest_rows p)) (map undated_placed ps) ≡ flat_map (λ p. map interest_columns (interest_rows p)) ps
interests_undated ps = search (rules, flat_map-map, flat_map_same_on, held_undated, held_from)

identifiers_undated : (ps : List Placed) → flat_map (λ p. map identifier_columns (identifier_rows p)) (map undated_placed ps) ≡ flat_map (λ p. map identifier_columns (identifier_rows p)) ps
identifiers_undated ps = search (rules, flat_map-map, flat_map_same_on, identified_undated)

first_undated : (r : Register) → first_contents (without_days r) ≡ first_contents r
first_undated r = search (rules, placed_undated, statements_undated, interests_undated, identifiers_undated, agents_undated, filings_undated)

-- ---- no days

no_days_from : (at : At) (item : ℕ) (is : List Interest) → flat_map period_rows (interests_from at item (map undated is)) ≡ []
no_days_from at item [] = refl
no_days_from at item (i ∷ is) = no_days_from at (item + 1) is

no_days_of : (ps : List Placed) → flat_map period_rows (flat_map interest_rows (map undated_placed ps)) ≡ []
no_days_of [] = refl
no_days_of (p ∷ ps) = search (rules, held_undated, no_days_from, flat_map-append, no_days_of ps)

no_days : (r : Register) → flat_map period_rows (all_interests (without_days r).members) ≡ []
no_days r = ap (λ ps. flat_map period_rows (flat_map interest_rows ps)) (placed_undated r.members) ∙ no_days_of (placed r.members)

-- ---- one register but for the days

lists_undated : (r : Register) (db : Database) → HasFirst (first_contents r) db → HasLists (contents (without_days r)) db
lists_undated r db has = lists_of_first (without_days r) (subst (λ t. HasFirst t db) (sym (first_undated r)) has)

pub one_but_days : (r q : Register) (db : Database) → AreUp r → AreUp q → HasFirst (first_contents r) db → HasFirst (first_contents q) db → without_days r ≡ without_days q
one_but_days r q db rise rise_too has has_too =
    let row = one_row first_version (register_row r) (register_row q) (db.trees 0) has.register has_too.register in
    let members = one_list (without_days r) (without_days q) db (up_undated r rise) (up_undated q rise_too) (lists_undated r db has) (lists_undated q db has_too) (no_days r ∙ sym (no_days q)) in
    λ k. record { day = (row k).day; registrar = (row k).registrar; members = members k }

-- each that differs in the days alone has the same rows
each_but_days : (r q : Register) (db : Database) → HasFirst (first_contents r) db → without_days r ≡ without_days q → HasFirst (first_contents q) db
each_but_days r q db has same = subst (λ t. HasFirst t db) (sym (first_undated r) ∙ ap first_contents same ∙ first_undated q) has

pub first_tables : FirstTablesTellAllButDays
first_tables = record {
  one = λ r q db stored stored_too. one_but_days r q db (stored.ordered, stored.numbered) (stored_too.ordered, stored_too.numbered);
  each = each_but_days;
}
