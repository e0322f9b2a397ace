-- The rows of a register rise by the primary key of each table, and those of one agent and of one statement are together.
use Rattle.std.proofs.Common.{◌≡◌, ℕ, ◌+◌, ◌<◌, true, List, [], ◌∷◌, ◌++◌, map, refl, sym, ap, subst, ◌∙◌, arith, ℤ, pos, ap₂, Less, Equal, Bool, false, ◌&&◌, ◌==◌, filter, inl, inr, rules}
use Rattle.std.specs.List.{AllByRecursion, flat_map}
use Rattle.sqlite.specs.Tree.{IsAscending}
use Rattle.sqlite_keyed.proofs.ListLemmas.{all-append, all_weaker, all_both, all_of, ascending-append, all-map, map-map, all-flat_map, flat_map_same_on, map-flat_map, filter-map, filter_all, filter_none}
use Rattle.bor_terms.specs.Texts.{is_below, is_same}
use Rattle.bods_read.specs.declared.statement.Statement.{Statement}
use Rattle.bor_register.specs.declared.filing.AcceptedFiling.{AcceptedFiling}
use Rattle.bor_register.specs.declared.member.Member.{Member}
use Rattle.bor_register.specs.Register.{IsOrdered, AllAbove, filings_of}
use Rattle.bor_store_sql.specs.declared.rows.places.At.{At}
use Rattle.bor_store_sql.specs.declared.rows.typed.Placed.{Placed}
use Rattle.bor_store_sql.specs.Rows.Placed.{placed_from, placed_by, placed, interest_rows, identifier_rows, interests_from, identifiers_from, interests_listed, identifiers_listed, same_place, filing_row, filing_lines, period_of, period_rows}
use Rattle.bor_store_sql.specs.Rows.Stored.{AreNumbered, AllNumbered}
use Rattle.bor_store_sql.specs.Fitting.{standing}
use Rattle.bor_store_sql.proofs.OnRows.Each.{each_by, each_from, each_own, each_identifier, each_interest, all_said}
use Rattle.std.specs.Ordering.{is_lt, nat_cmp, ordering_then, is_eq, int_cmp}
use Rattle.std.specs.declared.cmp.Ordering.{Ordering}
use Rattle.std.specs.Cmp.Lexicographic.{slice_cmp}
use Rattle.std.proofs.lemmas.Cmp.{tied_itself}
use Rattle.std.proofs.lemmas.List.{map-append}
use Rattle.sqlite.specs.declared.types.Value.TheVariants.{Int, Text}
use Rattle.sqlite.specs.Order.{Row, value_cmp}
use Rattle.sqlite.specs.Collation.TheVariants.{Binary}
use Rattle.sqlite_sql.specs.Query.{key_cmp}
use Rattle.sqlite_value.specs.declared.keys.Key.{Key}
use Rattle.sqlite_value.specs.Keys.{ascending}
use Rattle.sqlite_value.proofs.OrderLemmas.{value_cmp-Text, value_cmp_total}
use Rattle.bods_read.specs.declared.details.Identifier.{Identifier}
use Rattle.bods_read.specs.declared.interest.Interest.{Interest}
use Rattle.bor_store_sql.specs.declared.rows.typed.InterestRow.{InterestRow}
use Rattle.bor_store_sql.specs.declared.rows.typed.IdentifierRow.{IdentifierRow}
use Rattle.bor_store_sql.specs.Rows.Encoding.{filing_columns, filing_rows, line_columns, period_columns}
use Rattle.bor_store_sql.proofs.Tables.{lower_id, are_equal, text_test, int_test}
use Rattle.std.proofs.lemmas.Int.{ints}
use Rattle.std.proofs.lemmas.Bool.{cases_Bool}
use Rattle.std.proofs.lemmas.Bool.Decides.{nat_tests}
use Rattle.std.proofs.Math.Bool.{and-false, and-true}
use Rattle.std.proofs.lemmas.List.Elements.{filter-append}
use Rattle.bor_store_sql.specs.declared.rows.typed.PeriodRow.{PeriodRow}
use Rattle.bor_store_sql.specs.Changing.{days_of}
use Rattle.bor_store_sql.proofs.Members.{own_alone}
use Rattle.bor_store_sql.proofs.Picking.{filter_both}

-- ---- agent by agent, rows rise where each agent's do

module _ {X : Type 0} (R : X → X → Type 0) (own : List ℕ → List AcceptedFiling → List X) (all : List Member → List X) (none : all [] ≡ []) (some : (m : Member) (ms : List Member) → all (m ∷ ms) ≡ own m.name m.filings ++ all ms)
    (owner : X → List ℕ) (owned : (name : List ℕ) (fs : List AcceptedFiling) → AllByRecursion (λ x. owner x ≡ name) (own name fs)) (by_name : (x y : X) → is_below (owner x) (owner y) ≡ true → R x y)
    (own_rise : (name : List ℕ) (fs : List AcceptedFiling) → AreNumbered 1 fs → IsAscending R (own name fs)) where
  above : (name : List ℕ) (ms : List Member) → AllAbove name ms → AllByRecursion (λ y. is_below name (owner y) ≡ true) (all ms)
  above name [] up = subst (AllByRecursion (λ y. is_below name (owner y) ≡ true)) (sym none) tt
  above name (m ∷ ms) up = search (rules, all-append, all_weaker, above name ms)

  pub members_rise : (ms : List Member) → IsOrdered ms → AllNumbered ms → IsAscending R (all ms)
  members_rise [] up numbers = subst (IsAscending R) (sym none) tt
  members_rise (m ∷ ms) up numbers = search (rules, ascending-append, all_weaker, above, members_rise ms)

-- lists that each rise, of elements that rise
module _ {A X : Type 0} (P : A → A → Type 0) (R : X → X → Type 0) (rows : A → List X) (within : (a : A) → IsAscending R (rows a)) (across : (a b : A) → P a b → AllByRecursion (λ x. AllByRecursion (R x) (rows b)) (rows a)) where
  before_rows : (a : A) (bs : List A) → AllByRecursion (P a) bs → AllByRecursion (λ x. AllByRecursion (R x) (flat_map rows bs)) (rows a)
  before_rows a [] h = all_of (λ x. Unit {0}) (λ x. tt) (rows a)
  before_rows a (b ∷ bs) h = all_both (λ x. AllByRecursion (R x) (rows b)) (λ x. AllByRecursion (R x) (flat_map rows bs)) _ (λ x one more. all-append (R x) (rows b) (flat_map rows bs) one more) (rows a) (across a b h.0) (before_rows a bs h.1)

  pub lists_rise : (xs : List A) → IsAscending P xs → IsAscending R (flat_map rows xs)
  lists_rise [] up = tt
  lists_rise (a ∷ xs) up = ascending-append R (rows a) (flat_map rows xs) (within a) (lists_rise xs up.1) (before_rows a xs up.0)

-- ---- an agent's filings

module _ {X : Type 0} (R : X → X → Type 0) (make : AcceptedFiling → X) (by_number : (f g : AcceptedFiling) → f.number < g.number → R (make f) (make g)) where
  later : (f : AcceptedFiling) (n : ℕ) (fs : List AcceptedFiling) → f.number < n → AreNumbered n fs → AllByRecursion (R (make f)) (map make fs)
  later f n [] lt up = tt
  later f n (g ∷ fs) lt up = (by_number f g (let e = up.0 in omega (arith, e, lt)), later f (n + 1) fs (omega (arith, lt)) up.1)

  pub filings_rise : (n : ℕ) (fs : List AcceptedFiling) → AreNumbered n fs → IsAscending R (map make fs)
  filings_rise n [] up = tt
  filings_rise n (f ∷ fs) up = (later f (n + 1) fs (let e = up.0 in omega (arith, e)) up.1, filings_rise (n + 1) fs up.1)

-- ---- an agent's statements

module _ (R : At → At → Type 0) (by_number : (name : List ℕ) (m n i j : ℕ) → m < n → R (record { agent = name; filing = m; place = i }) (record { agent = name; filing = n; place = j }))
    (by_place : (name : List ℕ) (n i j : ℕ) → i < j → R (record { agent = name; filing = n; place = i }) (record { agent = name; filing = n; place = j })) where
  abbrev Up : Placed → Placed → Type 0
  Up p q = R p.at q.at

  from_rise : (name : List ℕ) (filing n : ℕ) (ss : List Statement) → IsAscending Up (placed_from name filing n ss)
  from_rise name filing n [] = tt
  from_rise name filing n (s ∷ ss) = (each_from (Up (standing name filing n s)) name filing (n + 1) ss (λ place t low. by_place name filing n place (omega (arith, low))), from_rise name filing (n + 1) ss)

  pub statements_rise : (name : List ℕ) (n : ℕ) (fs : List AcceptedFiling) → AreNumbered n fs → IsAscending Up (placed_by name fs)
  statements_rise name n [] up = tt
  statements_rise name n (f ∷ fs) up =
      ascending-append Up (placed_from name f.number 1 f.statements) (placed_by name fs) (from_rise name f.number 1 f.statements) (statements_rise name (n + 1) fs up.1)
      (each_from (λ p. AllByRecursion (Up p) (placed_by name fs)) name f.number 1 f.statements
      (λ place s from. each_by (Up (standing name f.number place s)) name (n + 1) fs up.1 (λ filing other t low. by_number name f.number filing place other (let e = up.0 in omega (arith, e, low)))))

pub owned_by : (name : List ℕ) (fs : List AcceptedFiling) → AllByRecursion (λ (p : Placed). p.at.agent ≡ name) (placed_by name fs)
owned_by name fs = each_own (λ p. p.at.agent ≡ name) name fs (λ filing place s. refl)

-- ---- the rows of each table rise by its primary key

less_is : (o : Ordering) → is_lt o ≡ true → o ≡ Less
less_is o e = search rules

text_less : (a b : List ℕ) → is_below a b ≡ true → value_cmp (Text a) (Text b) ≡ Less
text_less a b lt = value_cmp-Text a b ∙ less_is (slice_cmp nat_cmp a b) lt

text_same : (a : List ℕ) → value_cmp (Text a) (Text a) ≡ Equal
text_same a = tied_itself value_cmp_total (Text a)

pub int_same : (n : ℤ) → value_cmp (Int n) (Int n) ≡ Equal
int_same n = tied_itself value_cmp_total (Int n)

abbrev pub up : Key
up = ascending Binary

-- one key is below the other, column by column
abbrev pub IsLower : List Key → Row → Row → Type 0
IsLower keys a b = key_cmp 0 keys a b ≡ Less

-- ---- agents

abbrev pub name_keys : Member → Row
name_keys m = Text m.name ∷ []

abbrev pub IsBefore : Member → Member → Type 0
IsBefore a b = IsLower (up ∷ []) (name_keys a) (name_keys b)

before_all : (a : Member) (ms : List Member) → AllAbove a.name ms → AllByRecursion (IsBefore a) ms
before_all a [] above = tt
before_all a (m ∷ ms) above = (rw (text_less a.name m.name above.0) refl, before_all a ms above.1)

pub agents_rise : (ms : List Member) → IsOrdered ms → IsAscending IsBefore ms
agents_rise [] h = tt
agents_rise (m ∷ ms) h = (before_all m ms h.0, agents_rise ms h.1)

-- ---- filings

-- a filing with its agent's name
pub record Owned : Type 0 where
  pub agent : List ℕ
  pub filing : AcceptedFiling

abbrev pub owned_filing : List ℕ → AcceptedFiling → Owned
owned_filing name f = record { agent = name; filing = f }

abbrev pub owned : List Member → List Owned
owned [] = []
owned (m ∷ ms) = map (owned_filing m.name) m.filings ++ owned ms

-- its row
abbrev pub whole : Owned → Row
whole o = filing_columns o.agent o.filing

pub filing_rows_are : (ms : List Member) → filing_rows ms ≡ map whole (owned ms)
filing_rows_are [] = refl
filing_rows_are (m ∷ ms) = ap₂ (λ x y. x ++ y) (sym (map-map whole (owned_filing m.name) m.filings)) (filing_rows_are ms) ∙ sym (map-append whole (map (owned_filing m.name) m.filings) (owned ms))

abbrev pub filing_keys : Owned → Row
filing_keys o = Text o.agent ∷ Int (pos o.filing.number) ∷ []

abbrev pub IsEarlier : Owned → Owned → Type 0
IsEarlier a b = IsLower (up ∷ up ∷ []) (filing_keys a) (filing_keys b)

pub owners : (name : List ℕ) (fs : List AcceptedFiling) → AllByRecursion (λ (o : Owned). o.agent ≡ name) (map (owned_filing name) fs)
owners name fs = all-map (λ (o : Owned). o.agent ≡ name) (owned_filing name) (λ f. refl) fs

earlier_number : (name : List ℕ) (f g : AcceptedFiling) → f.number < g.number → IsEarlier (owned_filing name f) (owned_filing name g)
earlier_number name f g lt = rw (text_same name, lower_id f.number g.number lt) refl

pub owned_rise : (ms : List Member) → IsOrdered ms → AllNumbered ms → IsAscending IsEarlier (owned ms)
owned_rise =
    members_rise IsEarlier (λ name fs. map (owned_filing name) fs) owned refl (λ m ms. refl) (λ o. o.agent) owners (λ a b lt. rw (text_less a.agent b.agent lt) refl)
    (λ name fs numbers. filings_rise IsEarlier (owned_filing name) (earlier_number name) 1 fs numbers)

-- ---- statements

abbrev pub place_keys : At → Row
place_keys at = Text at.agent ∷ Int (pos at.filing) ∷ Int (pos at.place) ∷ []

abbrev pub IsLowerPlace : At → At → Type 0
IsLowerPlace a b = IsLower (up ∷ up ∷ up ∷ []) (place_keys a) (place_keys b)

abbrev pub IsPlacedBefore : Placed → Placed → Type 0
IsPlacedBefore p q = IsLowerPlace p.at q.at

pub placed_rise : (ms : List Member) → IsOrdered ms → AllNumbered ms → IsAscending IsPlacedBefore (placed ms)
placed_rise =
    members_rise IsPlacedBefore placed_by placed refl (λ m ms. refl) (λ (p : Placed). p.at.agent) owned_by (λ p q lt. rw (text_less p.at.agent q.at.agent lt) refl)
    (λ name fs numbers. statements_rise IsLowerPlace (λ name m n i j lt. rw (text_same name, lower_id m n lt) refl) (λ name n i j lt. rw (text_same name, int_same (pos n), lower_id i j lt) refl) name 1 fs numbers)

-- ---- interests and identifiers

-- what is below by three columns is so by four
longer : (a b c d : Ordering) → ordering_then a (ordering_then b (ordering_then c Equal)) ≡ Less → ordering_then a (ordering_then b (ordering_then c (ordering_then d Equal))) ≡ Less
longer a b c d h = search rules

abbrev pub item_keys : At → ℕ → Row
item_keys at item = Text at.agent ∷ Int (pos at.filing) ∷ Int (pos at.place) ∷ Int (pos item) ∷ []

abbrev IsLowerItem : At → ℕ → At → ℕ → Type 0
IsLowerItem a m b n = IsLower (up ∷ up ∷ up ∷ up ∷ []) (item_keys a m) (item_keys b n)

at_lower_place : (a b : At) (m n : ℕ) → IsLowerPlace a b → IsLowerItem a m b n
at_lower_place a b m n lt = search (rules, longer)

at_same_place : (at : At) (m n : ℕ) → m < n → IsLowerItem at m at n
at_same_place at m n lt = rw (text_same at.agent, int_same (pos at.filing), int_same (pos at.place), lower_id m n lt) refl

abbrev pub IsInterestBefore : InterestRow → InterestRow → Type 0
IsInterestBefore i j = IsLowerItem i.at i.item j.at j.item

interests_rise : (at : At) (n : ℕ) (is : List Interest) → IsAscending IsInterestBefore (interests_from at n is)
interests_rise at n [] = tt
interests_rise at n (i ∷ is) = (each_interest (IsInterestBefore (record { at = at; item = n; interest = i })) at (n + 1) is (λ item j low. at_same_place at n item (omega (arith, low))), interests_rise at (n + 1) is)

pub interest_rows_rise : (ms : List Member) → IsOrdered ms → AllNumbered ms → IsAscending IsInterestBefore (flat_map interest_rows (placed ms))
interest_rows_rise ms names numbers =
    lists_rise IsPlacedBefore IsInterestBefore interest_rows (λ p. interests_rise p.at 1 (interests_listed p.statement.details))
    (λ p q lt. each_interest (λ x. AllByRecursion (IsInterestBefore x) (interest_rows q)) p.at 1 (interests_listed p.statement.details)
    (λ m i from. each_interest (IsInterestBefore (record { at = p.at; item = m; interest = i })) q.at 1 (interests_listed q.statement.details) (λ n j first. at_lower_place p.at q.at m n lt))) (placed ms) (placed_rise ms names numbers)

abbrev pub IsIdentifierBefore : IdentifierRow → IdentifierRow → Type 0
IsIdentifierBefore i j = IsLowerItem i.at i.item j.at j.item

identifiers_rise : (at : At) (n : ℕ) (is : List Identifier) → IsAscending IsIdentifierBefore (identifiers_from at n is)
identifiers_rise at n [] = tt
identifiers_rise at n (i ∷ is) = (each_identifier (IsIdentifierBefore (record { at = at; item = n; identifier = i })) at (n + 1) is (λ item j low. at_same_place at n item (omega (arith, low))), identifiers_rise at (n + 1) is)

pub identifier_rows_rise : (ms : List Member) → IsOrdered ms → AllNumbered ms → IsAscending IsIdentifierBefore (flat_map identifier_rows (placed ms))
identifier_rows_rise ms names numbers =
    lists_rise IsPlacedBefore IsIdentifierBefore identifier_rows (λ p. identifiers_rise p.at 1 (identifiers_listed p.statement.details))
    (λ p q lt. each_identifier (λ x. AllByRecursion (IsIdentifierBefore x) (identifier_rows q)) p.at 1 (identifiers_listed p.statement.details)
    (λ m i from. each_identifier (IsIdentifierBefore (record { at = p.at; item = m; identifier = i })) q.at 1 (identifiers_listed q.statement.details) (λ n j first. at_lower_place p.at q.at m n lt))) (placed ms) (placed_rise ms names numbers)

-- ---- the rows of one agent, and those of one statement

pub number_test : (m n : ℕ) → is_eq (int_cmp (pos m) (pos n)) ≡ (m == n)
number_test m n = grind (arith, ints, nat_tests)

-- ---- those of one agent

module _ (agent : List ℕ) (ms : List Member) (names : IsOrdered ms) where
  pub own_owned : filter (λ (o : Owned). is_same o.agent agent) (owned ms) ≡ map (owned_filing agent) (filings_of agent ms)
  own_owned = own_alone (λ name fs. map (owned_filing name) fs) owned refl (λ m rest. refl) (λ (o : Owned). o.agent) owners (λ name. refl) agent ms names

  pub own_filings : (q : AcceptedFiling → Bool) (out : Owned → Row) → map out (filter (λ (o : Owned). is_same o.agent agent && q o.filing) (owned ms)) ≡ map (λ f. out (owned_filing agent f)) (filter q (filings_of agent ms))
  own_filings q out =
      ap (map out) (filter_both (λ (o : Owned). is_same o.agent agent) (λ (o : Owned). q o.filing) (owned ms) ∙ ap (filter (λ (o : Owned). q o.filing)) own_owned ∙ filter-map (λ (o : Owned). q o.filing) (owned_filing agent) (filings_of agent ms))
      ∙ map-map out (owned_filing agent) (filter q (filings_of agent ms))

  own_placed : filter (λ (p : Placed). is_same p.at.agent agent) (placed ms) ≡ placed_by agent (filings_of agent ms)
  own_placed = own_alone placed_by placed refl (λ m rest. refl) (λ (p : Placed). p.at.agent) owned_by (λ name. refl) agent ms names

  pub own_statements : (q : Placed → Bool) → filter (λ (p : Placed). is_same p.at.agent agent && q p) (placed ms) ≡ filter q (placed_by agent (filings_of agent ms))
  own_statements q = filter_both (λ (p : Placed). is_same p.at.agent agent) q (placed ms) ∙ ap (filter q) own_placed

lines_of : (name : List ℕ) (fs : List AcceptedFiling) → map (λ (o : Owned). line_columns (filing_row o.agent o.filing)) (map (owned_filing name) fs) ≡ map line_columns (map (filing_row name) fs)
lines_of name fs = map-map (λ (o : Owned). line_columns (filing_row o.agent o.filing)) (owned_filing name) fs ∙ sym (map-map line_columns (filing_row name) fs)

pub lines_are : (ms : List Member) → map (λ (o : Owned). line_columns (filing_row o.agent o.filing)) (owned ms) ≡ map line_columns (filing_lines ms)
lines_are [] = refl
lines_are (m ∷ ms) = search (rules, map-append, lines_of, lines_are ms)

-- ---- those of one statement

abbrev pub place_params : At → Row
place_params at = Text at.agent ∷ Int (pos at.filing) ∷ Int (pos at.place) ∷ []

-- the first three columns are those of the place
pub place_test : (a b : At) → (are_equal (Text a.agent) (Text b.agent) && (are_equal (Int (pos a.filing)) (Int (pos b.filing)) && (are_equal (Int (pos a.place)) (Int (pos b.place)) && true))) ≡ same_place a b
place_test a b = search (rules, text_test, int_test, number_test, and-true, and-false)

module _ {X : Type 0} (at_of : X → At) (t : At → Bool) (rows : Placed → List X) (own : (p : Placed) → AllByRecursion (λ x. at_of x ≡ p.at) (rows p)) where
  passed : (p : Placed) (b : Bool) → t p.at ≡ b → AllByRecursion (λ x. t (at_of x) ≡ b) (rows p)
  passed p b e = all_weaker (λ x. at_of x ≡ p.at) (λ x. t (at_of x) ≡ b) (λ x same. ap t same ∙ e) (rows p) (own p)

  pub rows_at : (ps : List Placed) → filter (λ x. t (at_of x)) (flat_map rows ps) ≡ flat_map rows (filter (λ (p : Placed). t p.at) ps)
  rows_at [] = refl
  rows_at (p ∷ ps) = filter-append (λ x. t (at_of x)) (rows p) (flat_map rows ps) ∙ elim (cases_Bool (t p.at)) [
    | inl e ↦ rw e (ap₂ (λ x y. x ++ y) (filter_all (λ x. t (at_of x)) (rows p) (passed p true e)) (rows_at ps))
    | inr e ↦ rw e (ap₂ (λ x y. x ++ y) (filter_none (λ x. t (at_of x)) (rows p) (passed p false e)) (rows_at ps))
  ]

pub interests_stand : (p : Placed) → AllByRecursion (λ (i : InterestRow). i.at ≡ p.at) (interest_rows p)
interests_stand p = each_interest (λ i. i.at ≡ p.at) p.at 1 _ (λ item i low. refl)

pub identifiers_stand : (p : Placed) → AllByRecursion (λ (i : IdentifierRow). i.at ≡ p.at) (identifier_rows p)
identifiers_stand p = each_identifier (λ i. i.at ≡ p.at) p.at 1 _ (λ item i low. refl)

-- ---- the days of its interests

abbrev pub periods_of : Placed → List PeriodRow
periods_of p = flat_map period_rows (interest_rows p)

pub periods_are : (ps : List Placed) → map period_columns (flat_map periods_of ps) ≡ flat_map (λ p. flat_map days_of (interest_rows p)) ps
periods_are ps = search (rules, map-flat_map, flat_map_same_on)

period_stands : (i : InterestRow) → AllByRecursion (λ (q : PeriodRow). q.at ≡ i.at) (period_rows i)
period_stands i = all_said (λ (q : PeriodRow). q.at ≡ i.at) (period_of i) refl i.interest.starts i.interest.ends

pub periods_stand : (at : At) (is : List InterestRow) → AllByRecursion (λ (i : InterestRow). i.at ≡ at) is → AllByRecursion (λ (q : PeriodRow). q.at ≡ at) (flat_map period_rows is)
periods_stand at is own = search (rules, all-flat_map, all_weaker, period_stands)
