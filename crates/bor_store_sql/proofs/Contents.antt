-- The tables of a register in which a filing is withdrawn, or to which a filing or an agent is added.
use Rattle.std.proofs.Common.{◌≡◌, ℕ, pos, ◌+◌, ◌<◌, ◌≤◌, ◌==◌, ◌&&◌, Bool, true, false, not, cond, List, [], ◌∷◌, ◌++◌, map, filter, length, drop, refl, sym, ap, ap₂, subst, ◌∙◌, arith, ℤ, append-nil, IsPermutation, if◌then◌else◌, rules}
use Rattle.std.proofs.lemmas.List.Elements.{All-nil, All-cons, All-head, All-tail, filter-append}
use Rattle.std.specs.List.{AllByRecursion, flat_map}
use Rattle.std.proofs.lemmas.Bool.{cases_Bool}
use Rattle.std.proofs.lemmas.Bool.Decides.{nat_tests}
use Rattle.std.proofs.lemmas.List.{length-map, map-append, append_assoc}
use Rattle.std.proofs.Math.Bool.{and-true}
use Rattle.sqlite.specs.declared.types.Value.TheVariants.{Int, Text}
use Rattle.sqlite.specs.Order.{Row}
use Rattle.sqlite.specs.Effect.{Database}
use Rattle.bor_store_sql.specs.Shown.{Has}
use Rattle.sqlite_keyed.proofs.ListLemmas.{all_of, all_weaker, filter_all, filter_none, filter_same, filter-map, map-flat_map, IsPermutation-flat_map}
use Rattle.bor_terms.specs.Texts.{is_same}
use Rattle.bor_terms.proofs.Texts.{same_refl}
use Rattle.bor_register.specs.declared.filing.AcceptedFiling.{AcceptedFiling}
use Rattle.bor_register.specs.declared.member.Member.{Member}
use Rattle.bor_register.specs.Register.{Register, IsOrdered, with_filings, filings_of, is_enrolled, new_member, with_member}
use Rattle.bor_register.specs.Withdrawal.{as_withdrawn, with_withdrawn}
use Rattle.bor_store_sql.specs.declared.rows.typed.Placed.{Placed}
use Rattle.bor_store_sql.specs.declared.rows.places.At.{At}
use Rattle.bor_store_sql.specs.declared.rows.typed.InterestRow.{InterestRow}
use Rattle.bor_store_sql.specs.declared.rows.typed.IdentifierRow.{IdentifierRow}
use Rattle.bor_store_sql.specs.declared.rows.typed.PeriodRow.{PeriodRow}
use Rattle.bor_store_sql.specs.Rows.Placed.{bare, placed_from, placed_by, placed, interest_rows, identifier_rows}
use Rattle.bor_store_sql.specs.Rows.Encoding.{Contents, contents, agent_columns, filing_columns, filing_rows, statement_columns, interest_columns, identifier_columns, period_columns}
use Rattle.bor_register.proofs.Names.{ordered-with_filings}
use Rattle.bor_register.proofs.Forms.{formed-with_filings, formed-with_withdrawn, formed-filings_of}
use Rattle.bor_store_sql.specs.Rows.Stored.{AreNumbered, AllNumbered, IsCounted, AreCounted, IsStored}
use Rattle.bor_store_sql.specs.Changing.{days_of, is_of_filing, marked, others, withdrawn_in, withdrawn, live_filing, with_agent_row, with_filing_row, with_placed, added, enrolled}
use Rattle.bor_store_sql.proofs.Writes.{cast_int}
use Rattle.bor_store_sql.proofs.Members.{own_changed, with_one_more, with_new_agent, member_added}
use Rattle.bor_store_sql.proofs.Orders.{identifiers_stand, interests_stand, number_test, own_filings, periods_are, periods_of, periods_stand, rows_at, owned, whole, filing_rows_are}
use Rattle.bor_store_sql.proofs.StoredMembers.{AllCounted, stored_with, numbered_with, numbered_of, counted_of, counted_with}
use Rattle.bor_store_sql.proofs.Tables.{text_test, int_test, in_order}
use Rattle.bor_store_sql.proofs.OnRows.Each.{each_from, later_numbers, none_numbered}
use Rattle.std.proofs.lemmas.List.Concat.{flat_map-append}
use Rattle.std.proofs.lemmas.List.Sorted.{IsPermutation-map}
use Rattle.bods_read.specs.declared.statement.Statement.{Statement}
use Rattle.bor_store_sql.specs.Kept.{Keeps}

-- ---- a filing is withdrawn

-- a row that begins with an agent and a filing's number
begins : (agent : List ℕ) (number : ℕ) (a : List ℕ) (n : ℕ) (rest : Row) → is_of_filing agent number (Text a ∷ Int (pos n) ∷ rest) ≡ (is_same a agent && n == number)
begins agent number a n rest = ap₂ (λ x y. x && y) (text_test a agent) (and-true _ ∙ int_test (pos n) (pos number) ∙ number_test n number)

pub agents_with : (agent : List ℕ) (new : List AcceptedFiling) (ms : List Member) → map agent_columns (with_filings agent new ms) ≡ map agent_columns ms
agents_with agent new [] = refl
agents_with agent new (m ∷ ms) = search (rules, agents_with agent new ms)

module _ (agent : List ℕ) (number : ℕ) where
  -- ---- the filing among its agent's

  one_number : (n : ℕ) (fs : List AcceptedFiling) → AreNumbered n fs → length (filter (λ (f : AcceptedFiling). f.number == number) fs) ≤ 1
  one_number n [] up = omega arith
  one_number n (f ∷ fs) up = search (rules, cases_Bool, none_numbered, one_number (n + 1) fs)

  pub once : (ms : List Member) → IsOrdered ms → AllNumbered ms → length (filter (is_of_filing agent number) (filing_rows ms)) ≤ 1
  once ms up numbers =
      let is : filter (is_of_filing agent number) (filing_rows ms) ≡ map (filing_columns agent) (filter (λ (f : AcceptedFiling). f.number == number) (filings_of agent ms)) =
      ap (filter (is_of_filing agent number)) (filing_rows_are ms) ∙ filter-map (is_of_filing agent number) whole (owned ms)
      ∙ ap (map whole) (filter_same (λ o. is_of_filing agent number (whole o)) (λ o. is_same o.agent agent && o.filing.number == number) (λ o. begins agent number o.agent o.filing.number (drop 2 (whole o))) (owned ms))
      ∙ own_filings agent ms up (λ f. f.number == number) whole in
      rw (is, length-map (filter (λ (f : AcceptedFiling). f.number == number) (filings_of agent ms)) (filing_columns agent)) (one_number 1 (filings_of agent ms) (numbered_of agent ms numbers))

  abbrev is_it : List ℕ → AcceptedFiling → Bool
  is_it name f = is_same name agent && f.number == number

  abbrev AreOthers : List ℕ → List AcceptedFiling → Type 0
  AreOthers name fs = AllByRecursion (λ (f : AcceptedFiling). is_it name f ≡ false) fs

  abbrev changed : List Member → List Member
  changed ms = with_filings agent (with_withdrawn number (filings_of agent ms)) ms

  -- A change of what a list has of each filing, filing by filing: what it has of the one is what it has of that one withdrawn, and what it has of others stays.
  module _ {X : Type 0} (one : List ℕ → AcceptedFiling → List X) (own : List ℕ → List AcceptedFiling → List X) (all : List Member → List X)
      (first : (name : List ℕ) → own name [] ≡ []) (next : (name : List ℕ) (f : AcceptedFiling) (fs : List AcceptedFiling) → own name (f ∷ fs) ≡ one name f ++ own name fs)
      (none : all [] ≡ []) (some : (m : Member) (ms : List Member) → all (m ∷ ms) ≡ own m.name m.filings ++ all ms)
      (change : List X → List X) (nothing : change [] ≡ []) (apart : (xs ys : List X) → change (xs ++ ys) ≡ change xs ++ change ys)
      (turns : (name : List ℕ) (f : AcceptedFiling) (b : Bool) → is_it name f ≡ b → change (one name f) ≡ one name (cond b (as_withdrawn f) f)) where
    others_stay : (name : List ℕ) (fs : List AcceptedFiling) → AreOthers name fs → change (own name fs) ≡ own name fs
    others_stay name [] h = rw (first name) nothing
    others_stay name (f ∷ fs) h = rw (next name f fs) (apart (one name f) (own name fs) ∙ ap₂ (λ x y. x ++ y) (turns name f false h.0) (others_stay name fs h.1))

    one_turns : (n : ℕ) (fs : List AcceptedFiling) → AreNumbered n fs → change (own agent fs) ≡ own agent (with_withdrawn number fs)
    one_turns n [] up = rw (first agent) nothing
    one_turns n (f ∷ fs) up = ap change (next agent f fs) ∙ apart (one agent f) (own agent fs) ∙ go (f.number == number) refl (one_turns (n + 1) fs up.1)
      where
        go : (b : Bool) → (f.number == number) ≡ b → change (own agent fs) ≡ own agent (with_withdrawn number fs)
            → change (one agent f) ++ change (own agent fs) ≡ own agent (if b then as_withdrawn f ∷ fs else f ∷ with_withdrawn number fs)
        go true e more =
            let here : number < n + 1 = let g = up.0 in grind (arith, nat_tests) in
            let others : AreOthers agent fs = all_weaker (λ (g : AcceptedFiling). (g.number == number) ≡ false) (λ g. is_it agent g ≡ false) (λ g no. rw (same_refl agent) no) fs (later_numbers number (n + 1) fs here up.1) in
            ap₂ (λ x y. x ++ y) (turns agent f true (rw (same_refl agent) e)) (others_stay agent fs others) ∙ sym (next agent (as_withdrawn f) fs)
        go false e more = ap₂ (λ x y. x ++ y) (turns agent f false (rw (same_refl agent) e)) more ∙ sym (next agent f (with_withdrawn number fs))

    withdrawn_of : (ms : List Member) → IsOrdered ms → AllNumbered ms → change (all ms) ≡ all (changed ms)
    withdrawn_of ms up numbers =
        own_changed own all none some change nothing apart agent (λ name fs e. others_stay name fs (all_of (λ (f : AcceptedFiling). is_it name f ≡ false) (λ f. rw e refl) fs))
        (with_withdrawn number (filings_of agent ms)) ms up (one_turns 1 (filings_of agent ms) (numbered_of agent ms numbers))

  -- ---- the filings

  abbrev mark : Row → Row
  mark x = cond (is_of_filing agent number x) (marked x) x

  mark-of : (name : List ℕ) (f : AcceptedFiling) (b : Bool) → is_it name f ≡ b → mark (filing_columns name f) ≡ filing_columns name (cond b (as_withdrawn f) f)
  mark-of name f b e =
      ap (λ c. cond c (marked (filing_columns name f)) (filing_columns name f)) (begins agent number name f.number (drop 2 (filing_columns name f)) ∙ e)
      ∙ elim b as (λ b. cond b (marked (filing_columns name f)) (filing_columns name f) ≡ filing_columns name (cond b (as_withdrawn f) f)) [ true ↦ rw (cast_int (pos f.number), cast_int f.due, cast_int (pos 1)) refl | false ↦ refl ]

  filings_marked : (ms : List Member) → IsOrdered ms → AllNumbered ms → map mark (filing_rows ms) ≡ filing_rows (changed ms)
  filings_marked =
      withdrawn_of (λ name f. filing_columns name f ∷ []) (λ name fs. map (filing_columns name) fs) filing_rows (λ name. refl) (λ name f fs. refl) refl (λ m ms. refl)
      (map mark) refl (map-append mark) (λ name f b e. ap (λ x. x ∷ []) (mark-of name f b e))

  -- ---- the statements

  abbrev stays_at : At → Bool
  stays_at at = not (is_same at.agent agent && at.filing == number)

  abbrev stays : Placed → Bool
  stays p = stays_at p.at

  placed_turn : (name : List ℕ) (f : AcceptedFiling) (b : Bool) → is_it name f ≡ b → filter stays (placed_from name f.number 1 f.statements) ≡ placed_from name (cond b (as_withdrawn f) f).number 1 (cond b (as_withdrawn f) f).statements
  placed_turn name f true e = filter_none stays (placed_from name f.number 1 f.statements) (each_from (λ p. stays p ≡ false) name f.number 1 f.statements (λ place s low. ap not e))
  placed_turn name f false e = filter_all stays (placed_from name f.number 1 f.statements) (each_from (λ p. stays p ≡ true) name f.number 1 f.statements (λ place s low. ap not e))

  statements_gone : (ms : List Member) → IsOrdered ms → AllNumbered ms → filter stays (placed ms) ≡ placed (changed ms)
  statements_gone =
      withdrawn_of (λ name f. placed_from name f.number 1 f.statements) placed_by placed (λ name. refl) (λ name f fs. refl) refl (λ m ms. refl) (filter stays) refl (filter-append stays) placed_turn

  -- the rows that statements have, each of which begins with where its statement stands
  rows_gone : {T : Type 0} (columns : T → Row) (at_of : T → At) → ((x : T) → is_of_filing agent number (columns x) ≡ (is_same (at_of x).agent agent && (at_of x).filing == number)) → (rows : Placed → List T)
      → ((p : Placed) → AllByRecursion (λ x. at_of x ≡ p.at) (rows p)) → (table : List Placed → List Row) → ((ps : List Placed) → map columns (flat_map rows ps) ≡ table ps)
      → (ps qs : List Placed) → filter stays ps ≡ qs → others agent number (table ps) ≡ table qs
  rows_gone columns at_of begin rows stand table are ps qs gone =
      ap (others agent number) (sym (are ps)) ∙ filter-map (λ x. not (is_of_filing agent number x)) columns (flat_map rows ps)
      ∙ ap (map columns) (filter_same (λ x. not (is_of_filing agent number (columns x))) (λ x. stays_at (at_of x)) (λ x. ap not (begin x)) (flat_map rows ps) ∙ rows_at at_of stays_at rows stand ps ∙ ap (flat_map rows) gone) ∙ are qs

  statement_rows_gone : (ps : List Placed) → others agent number (map (λ p. statement_columns (bare p)) ps) ≡ map (λ p. statement_columns (bare p)) (filter stays ps)
  statement_rows_gone ps = search (rules, filter-map, begins)

  -- ---- what is stored stays in order

  still_numbered : (n : ℕ) (fs : List AcceptedFiling) → AreNumbered n fs → AreNumbered n (with_withdrawn number fs)
  still_numbered n [] up = tt
  still_numbered n (f ∷ fs) up = search (rules, still_numbered (n + 1) fs)

  none_counted : AreCounted []
  none_counted = record { few = omega arith; each = All-nil IsCounted }

  still_counted : (fs : List AcceptedFiling) → AllCounted agent fs → AllCounted agent (with_withdrawn number fs)
  still_counted [] all = all
  still_counted (f ∷ fs) all =
      let here = All-head (λ (f : AcceptedFiling). AreCounted f.statements) f fs all in
      let rest = All-tail (λ (f : AcceptedFiling). AreCounted f.statements) f fs all in
      elim (f.number == number) as (λ b. AllCounted agent (if b then as_withdrawn f ∷ fs else f ∷ with_withdrawn number fs)) [
        | true ↦ All-cons (λ (f : AcceptedFiling). AreCounted f.statements) (as_withdrawn f) fs none_counted rest
        | false ↦ All-cons (λ (f : AcceptedFiling). AreCounted f.statements) f (with_withdrawn number fs) here (still_counted fs rest)
      ]

  pub still_stored : (r : Register) → IsStored r → IsStored (withdrawn agent number r)
  still_stored r s =
      search (rules, stored_with, ordered-with_filings, numbered_with, still_numbered, numbered_of, formed-with_filings, formed-with_withdrawn, formed-filings_of, counted_with, still_counted, counted_of)

  -- the tables of the register once the filing is withdrawn
  pub now_has : (r : Register) (db : Database) → IsStored r → Has (withdrawn_in agent number (contents r)) db → Has (contents (withdrawn agent number r)) db
  now_has r db s h =
      let ps = placed r.members in
      let gone = statements_gone r.members s.ordered s.numbered in
      let agents = sym (agents_with agent (with_withdrawn number (filings_of agent r.members)) r.members) in
      let filings = filings_marked r.members s.ordered s.numbered in
      let statements = statement_rows_gone ps ∙ ap (map (λ p. statement_columns (bare p))) gone in
      let interests = rows_gone interest_columns (λ (i : InterestRow). i.at) (λ i. begins agent number i.at.agent i.at.filing (drop 2 (interest_columns i))) interest_rows interests_stand
      (flat_map (λ p. map interest_columns (interest_rows p))) (map-flat_map interest_columns interest_rows) ps (placed (changed r.members)) gone in
      let identifiers = rows_gone identifier_columns (λ (i : IdentifierRow). i.at) (λ i. begins agent number i.at.agent i.at.filing (drop 2 (identifier_columns i))) identifier_rows identifiers_stand
      (flat_map (λ p. map identifier_columns (identifier_rows p))) (map-flat_map identifier_columns identifier_rows) ps (placed (changed r.members)) gone in
      let periods = rows_gone period_columns (λ (q : PeriodRow). q.at) (λ q. begins agent number q.at.agent q.at.filing (drop 2 (period_columns q))) periods_of (λ p. periods_stand p.at (interest_rows p) (interests_stand p))
      (flat_map (λ p. flat_map days_of (interest_rows p))) periods_are ps (placed (changed r.members)) gone in
      subst (λ (t : Contents). Has t db) (λ k. record (contents r) {
        agents = agents k;
        filings = filings k;
        statements = statements k;
        interests = interests k;
        identifiers = identifiers k;
        periods = periods k;
      }) h

-- ---- a filing or an agent is added

placed_added : (agent : List ℕ) (f : AcceptedFiling) (fs : List AcceptedFiling) → placed_by agent (fs ++ f ∷ []) ≡ placed_by agent fs ++ placed_from agent f.number 1 f.statements
placed_added agent f [] = append-nil (placed_from agent f.number 1 f.statements)
placed_added agent f (e ∷ fs) = ap (λ l. placed_from agent e.number 1 e.statements ++ l) (placed_added agent f fs) ∙ sym (append_assoc (placed_from agent e.number 1 e.statements) (placed_by agent fs) _)

module _ (agent : List ℕ) (f : AcceptedFiling) (ms : List Member) (is_agent : is_enrolled agent ms ≡ true) where
  abbrev after : List Member
  after = with_filings agent (filings_of agent ms ++ f ∷ []) ms

  pub filings_after : IsPermutation (filing_rows ms ++ filing_columns agent f ∷ []) (filing_rows after)
  filings_after =
      with_one_more (λ name fs. map (filing_columns name) fs) filing_rows refl (λ m rest. refl) agent f (filing_columns agent f ∷ []) (λ fs. map-append (filing_columns agent) fs (f ∷ [])) ms is_agent

  pub placed_after : IsPermutation (placed ms ++ placed_from agent f.number 1 f.statements) (placed after)
  placed_after = with_one_more placed_by placed refl (λ m rest. refl) agent f (placed_from agent f.number 1 f.statements) (placed_added agent f) ms is_agent

module _ (agent : List ℕ) (number : ℕ) (key : List ℕ) (due : ℤ) (bytes : List ℕ) (ss : List Statement) (r : Register) (is_agent : is_enrolled agent r.members ≡ true)
    (next : number ≡ length (filings_of agent r.members) + 1) where
  abbrev new : AcceptedFiling
  new = live_filing number key due bytes ss

  abbrev all_new : List Placed
  all_new = placed_from agent number 1 ss

  same : record r { members = with_filings agent (filings_of agent r.members ++ new ∷ []) r.members } ≡ added agent key due bytes ss r
  same = ap (λ n. record r { members = with_filings agent (filings_of agent r.members ++ live_filing n key due bytes ss ∷ []) r.members }) next

  pub added_has : (db : Database) → Has (with_placed all_new (with_filing_row agent (live_filing number key due bytes []) (contents r))) db → Has (contents (added agent key due bytes ss r)) db
  added_has db h =
      let perm = placed_after agent new r.members is_agent in
      let after = with_filings agent (filings_of agent r.members ++ new ∷ []) r.members in
      let interests_of : Placed → List Row = λ p. map interest_columns (interest_rows p) in
      let identifiers_of : Placed → List Row = λ p. map identifier_columns (identifier_rows p) in
      let periods_of : Placed → List Row = λ p. flat_map days_of (interest_rows p) in
      let columns : Placed → Row = λ p. statement_columns (bare p) in
      subst (λ (x : Register). Has (contents x) db) same record {
        sound = h.sound;
        schema = h.schema;
        register = h.register;
        agents = subst (λ xs. Keeps xs (db.trees 2)) (sym (agents_with agent (filings_of agent r.members ++ new ∷ []) r.members)) h.agents;
        filings = in_order (filing_rows r.members ++ filing_columns agent new ∷ []) (filing_rows after) (db.trees 5) (filings_after agent new r.members is_agent) h.filings;
        statements = in_order (map columns (placed r.members ++ all_new)) (map columns (placed after)) (db.trees 8) (IsPermutation-map columns _ _ perm)
            (subst (λ xs. Keeps xs (db.trees 8)) (sym (map-append columns (placed r.members) all_new)) h.statements);
        interests = in_order (flat_map interests_of (placed r.members ++ all_new)) (flat_map interests_of (placed after)) (db.trees 11) (IsPermutation-flat_map interests_of _ _ perm)
            (subst (λ xs. Keeps xs (db.trees 11)) (sym (flat_map-append interests_of (placed r.members) all_new)) h.interests);
        identifiers = in_order (flat_map identifiers_of (placed r.members ++ all_new)) (flat_map identifiers_of (placed after)) (db.trees 13) (IsPermutation-flat_map identifiers_of _ _ perm)
            (subst (λ xs. Keeps xs (db.trees 13)) (sym (flat_map-append identifiers_of (placed r.members) all_new)) h.identifiers);
        periods = in_order (flat_map periods_of (placed r.members ++ all_new)) (flat_map periods_of (placed after)) (db.trees 19) (IsPermutation-flat_map periods_of _ _ perm)
            (subst (λ xs. Keeps xs (db.trees 19)) (sym (flat_map-append periods_of (placed r.members) all_new)) h.periods);
      }

module _ (agent token : List ℕ) (r : Register) where
  abbrev entrant : Member
  entrant = new_member agent token

  pub enrolled_has : (db : Database) → Has (with_agent_row (agent_columns entrant) (contents r)) db → Has (contents (enrolled agent token r)) db
  enrolled_has db h =
      let same : placed (with_member entrant r.members) ≡ placed r.members = with_new_agent placed_by placed refl (λ m rest. refl) entrant refl r.members in
      record {
        sound = h.sound;
        schema = h.schema;
        register = h.register;
        agents = in_order (map agent_columns (r.members ++ entrant ∷ [])) (map agent_columns (with_member entrant r.members)) (db.trees 2) (IsPermutation-map agent_columns _ _ (member_added entrant r.members))
            (subst (λ xs. Keeps xs (db.trees 2)) (sym (map-append agent_columns r.members (entrant ∷ []))) h.agents);
        filings = subst (λ xs. Keeps xs (db.trees 5)) (sym (with_new_agent (λ name fs. map (filing_columns name) fs) filing_rows refl (λ m rest. refl) entrant refl r.members)) h.filings;
        statements = subst (λ ps. Keeps (map (λ p. statement_columns (bare p)) ps) (db.trees 8)) (sym same) h.statements;
        interests = subst (λ ps. Keeps (flat_map (λ p. map interest_columns (interest_rows p)) ps) (db.trees 11)) (sym same) h.interests;
        identifiers = subst (λ ps. Keeps (flat_map (λ p. map identifier_columns (identifier_rows p)) ps) (db.trees 13)) (sym same) h.identifiers;
        periods = subst (λ ps. Keeps (flat_map (λ p. flat_map days_of (interest_rows p)) ps) (db.trees 19)) (sym same) h.periods;
      }
