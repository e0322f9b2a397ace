-- What holds of each statement, interest and identifier that a register has, by where it stands.
use Rattle.std.proofs.Common.{◌≡◌, ℕ, ◌+◌, ◌≤◌, ◌<◌, ◌==◌, true, false, List, [], ◌∷◌, filter, Option, ℤ, arith, rules}
use Rattle.std.specs.List.{AllByRecursion, flat_map}
use Rattle.sqlite_keyed.proofs.ListLemmas.{all-append, all-flat_map, all_weaker, filter_none}
use Rattle.bor_terms.specs.Texts.{is_below}
use Rattle.bods_read.specs.declared.details.Identifier.{Identifier}
use Rattle.bods_read.specs.declared.interest.Interest.{Interest}
use Rattle.bods_read.specs.declared.statement.Statement.{Statement}
use Rattle.bor_register.specs.declared.filing.AcceptedFiling.{AcceptedFiling}
use Rattle.bor_register.specs.declared.member.Member.{Member}
use Rattle.bor_register.specs.Register.{AllAbove}
use Rattle.bor_store_sql.specs.declared.rows.places.At.{At}
use Rattle.bor_store_sql.specs.declared.rows.typed.Placed.{Placed}
use Rattle.bor_store_sql.specs.declared.rows.typed.InterestRow.{InterestRow}
use Rattle.bor_store_sql.specs.declared.rows.typed.IdentifierRow.{IdentifierRow}
use Rattle.bor_store_sql.specs.declared.rows.typed.PeriodRow.{PeriodRow}
use Rattle.bor_store_sql.specs.Fitting.{standing}
use Rattle.bor_store_sql.specs.Rows.Placed.{if_said, identifier_rows, identifiers_from, interest_rows, interests_from, placed, placed_by, placed_from}
use Rattle.bor_store_sql.specs.Rows.Stored.{AreNumbered}
use Rattle.bor_store_sql.proofs.OnRows.Numbers.{other_number}

module _ (P : Placed → Type 0) where
  -- a filing's statements, from a place on
  pub each_from : (agent : List ℕ) (filing n : ℕ) (ss : List Statement) → ((place : ℕ) (s : Statement) → n ≤ place → P (standing agent filing place s)) → AllByRecursion P (placed_from agent filing n ss)
  each_from agent filing n [] h = tt
  each_from agent filing n (s ∷ ss) h = (h n s (omega arith), each_from agent filing (n + 1) ss (λ place t low. h place t (omega (arith, low))))

  -- those of an agent's filings, which are numbered from a number on
  pub each_by : (agent : List ℕ) (n : ℕ) (fs : List AcceptedFiling) → AreNumbered n fs → ((filing place : ℕ) (s : Statement) → n ≤ filing → P (standing agent filing place s)) → AllByRecursion P (placed_by agent fs)
  each_by agent n [] up h = tt
  each_by agent n (f ∷ fs) up h = search (rules, all-append, each_from, each_by agent (n + 1) fs)

  -- the same, whatever the numbers
  pub each_own : (agent : List ℕ) (fs : List AcceptedFiling) → ((filing place : ℕ) (s : Statement) → P (standing agent filing place s)) → AllByRecursion P (placed_by agent fs)
  each_own agent [] h = tt
  each_own agent (f ∷ fs) h = all-append P (placed_from agent f.number 1 f.statements) (placed_by agent fs) (each_from agent f.number 1 f.statements (λ place s low. h f.number place s)) (each_own agent fs h)

  -- those of agents whose names are above one
  pub each_above : (low : List ℕ) (ms : List Member) → AllAbove low ms → ((agent : List ℕ) (filing place : ℕ) (s : Statement) → is_below low agent ≡ true → P (standing agent filing place s)) → AllByRecursion P (placed ms)
  each_above low [] up h = tt
  each_above low (m ∷ ms) up h = all-append P (placed_by m.name m.filings) (placed ms) (each_own m.name m.filings (λ filing place s. h m.name filing place s up.0)) (each_above low ms up.1 h)

module _ (P : InterestRow → Type 0) where
  -- a statement's interests, from an item on
  pub each_interest : (at : At) (n : ℕ) (is : List Interest) → ((item : ℕ) (i : Interest) → n ≤ item → P (record { at = at; item = item; interest = i })) → AllByRecursion P (interests_from at n is)
  each_interest at n [] h = tt
  each_interest at n (i ∷ is) h = (h n i (omega arith), each_interest at (n + 1) is (λ item j low. h item j (omega (arith, low))))

  -- those of statements of which something holds
  pub each_interest_of : (Q : Placed → Type 0) (ps : List Placed) → AllByRecursion Q ps → ((p : Placed) (item : ℕ) (i : Interest) → Q p → P (record { at = p.at; item = item; interest = i })) → AllByRecursion P (flat_map interest_rows ps)
  each_interest_of Q ps all h = all-flat_map P interest_rows ps (all_weaker Q (λ p. AllByRecursion P (interest_rows p)) (λ p q. each_interest p.at 1 _ (λ item i low. h p item i q)) ps all)

module _ (P : IdentifierRow → Type 0) where
  pub each_identifier : (at : At) (n : ℕ) (is : List Identifier) → ((item : ℕ) (i : Identifier) → n ≤ item → P (record { at = at; item = item; identifier = i })) → AllByRecursion P (identifiers_from at n is)
  each_identifier at n [] h = tt
  each_identifier at n (i ∷ is) h = (h n i (omega arith), each_identifier at (n + 1) is (λ item j low. h item j (omega (arith, low))))

  pub each_identifier_of : (Q : Placed → Type 0) (ps : List Placed) → AllByRecursion Q ps → ((p : Placed) (item : ℕ) (i : Identifier) → Q p → P (record { at = p.at; item = item; identifier = i })) → AllByRecursion P (flat_map identifier_rows ps)
  each_identifier_of Q ps all h = all-flat_map P identifier_rows ps (all_weaker Q (λ p. AllByRecursion P (identifier_rows p)) (λ p q. each_identifier p.at 1 _ (λ item i low. h p item i q)) ps all)

-- ---- the filing with a number

pub later_numbers : (number n : ℕ) (fs : List AcceptedFiling) → number < n → AreNumbered n fs → AllByRecursion (λ (f : AcceptedFiling). (f.number == number) ≡ false) fs
later_numbers number n [] low up = tt
later_numbers number n (f ∷ fs) low up = (other_number number f.number (let e = up.0 in omega (arith, e)), later_numbers number (n + 1) fs (omega (arith, low)) up.1)

pub none_numbered : (number n : ℕ) (fs : List AcceptedFiling) → number < n → AreNumbered n fs → filter (λ (f : AcceptedFiling). f.number == number) fs ≡ []
none_numbered number n fs low up = filter_none (λ (f : AcceptedFiling). f.number == number) fs (later_numbers number n fs low up)

-- ---- the row of an interest's days

pub all_said : (P : PeriodRow → Type 0) (p : PeriodRow) → P p → (starts ends : Option ℤ) → AllByRecursion P (if_said p starts ends)
all_said P p h starts ends = search rules
