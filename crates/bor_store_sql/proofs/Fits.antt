-- Whether what a file says is what is kept of its filing.
use Rattle.std.proofs.Common.{◌≡◌, ℕ, zero, suc, ◌+◌, ◌<◌, List, [], ◌∷◌, take, length, get_or, refl, sym, ap₂, subst, ◌∙◌, arith, ◌↔◌, Bool, true, false, true≢false, Vec, Result, Ok, IfOk, IsTrue, ◌⊎◌, ◌==◌, map, append-nil, is_some, Option, Some, None, option_map, ap, slice_set, All, flat_map, rules}
use Rattle.bor_store_sql.specs.Fitting.{Pairwise, TellsWhether, Fit, FitsAt, IsKept, columns_beside, standing, statements_kept, with_status}
use Rattle.std.specs.declared.alloc.Global.{Global}
use Rattle.std.proofs.lemmas.Result.{IfOk-weaker}
use Rattle.sqlite.specs.Order.{Row, column}
use Rattle.sqlite.specs.State.{State}
use Rattle.sqlite.specs.declared.error.Error.{Error}
use Rattle.bor_register.specs.Register.{Register, filings_of}
use Rattle.bor_store_sql.specs.Rows.Encoding.{contents, or_null, statement_columns}
use Rattle.bor_store_sql.specs.Found.{FindsRows, ReadsOnly}
use Rattle.bor_store_sql.specs.Shown.{HasLists, IsClean, ShowsLists}
use Rattle.bor_store_sql.proofs.Finding.{read_on}
use Rattle.std.proofs.lemmas.List.{map-set}
use Rattle.std.proofs.lemmas.Bool.{cases_Bool}
use Rattle.std.proofs.lemmas.List.Elements.{All-head, All-tail, All-filter, filter-append}
use Rattle.sqlite.specs.Values.{bound, bound_value}
use Rattle.sqlite_value.specs.Value.{owned}
use Rattle.sqlite_value.specs.declared.value.ValueRef.{ValueRef}
use Rattle.sqlite.specs.declared.types.Value.{Value}
use Rattle.sqlite.specs.declared.types.Value.TheVariants.{Text}
use Rattle.bods_read.specs.Words.{status_word, status_worded}
use Rattle.bods_read.specs.declared.statement.Statement.{Statement}
use Rattle.bods_read.specs.declared.statement.Status.{Status}
use Rattle.bor_register.specs.declared.filing.AcceptedFiling.{AcceptedFiling}
use Rattle.bor_register.specs.declared.member.Member.{Member}
use Rattle.bor_store_sql.specs.Rows.Placed.{bare, identifier_rows, interest_rows, placed, placed_by, placed_from}
use Rattle.bor_store_sql.specs.Rows.Stored.{AreNumbered, IsStored}
use Rattle.bods_read.specs.WordLaws.{status_back}
use Rattle.bor_store_sql.specs.declared.rows.typed.Placed.{Placed}
use Rattle.bor_store_sql.proofs.OnRows.Successors.{is_number, none_filed, other_filing, own_filing}
use Rattle.bor_store_sql.specs.Selected.{identifiers_at, in_filing, interests_at, numbered, placed_of}
use Rattle.bor_store_sql.proofs.Alone.{IsAlone, own_alone_at}
use Rattle.bor_store_sql.proofs.StoredMembers.{numbered_of}
use Rattle.bor_store_sql.proofs.OnRows.Each.{none_numbered}

-- ---- two lists, element by element

module _ {A B : Type 0} (P : ℕ → A → B → Type 0) where
  pub as_many : (n : ℕ) (xs : List A) (ys : List B) → Pairwise P n xs ys → length xs ≡ length ys
  as_many n [] [] h = refl
  as_many n [] (y ∷ ys) h = absurd h
  as_many n (x ∷ xs) [] h = absurd h
  as_many n (x ∷ xs) (y ∷ ys) h = omega (arith, as_many (n + 1) xs ys h.1)

  pub pair_at : (n i : ℕ) (xs : List A) (ys : List B) (x : A) (y : B) → i < length xs → x ≡ get_or xs i x → y ≡ get_or ys i y → Pairwise P n xs ys → P (n + i) x y
  pair_at n i [] ys x y lt e f h = absurd (omega (arith, lt))
  pair_at n i (a ∷ xs) [] x y lt e f h = absurd h
  pair_at n zero (a ∷ xs) (b ∷ ys) x y lt e f h = search rules
  pair_at n (suc i) (a ∷ xs) (b ∷ ys) x y lt e f h = search (rules, pair_at (n + 1) i xs ys x y)

  -- one pair more
  pub one_more : (n i m : ℕ) (xs : List A) (ys : List B) (x : A) (y : B) → i < length xs → i < length ys → x ≡ get_or xs i x → y ≡ get_or ys i y → m ≡ n + i
      → Pairwise P n (take i xs) (take i ys) → P m x y → Pairwise P n (take (i + 1) xs) (take (i + 1) ys)
  one_more n i m [] ys x y lt below e f is h p = absurd (omega (arith, lt))
  one_more n i m (a ∷ xs) [] x y lt below e f is h p = absurd (omega (arith, below))
  one_more n zero m (a ∷ xs) (b ∷ ys) x y lt below e f is h p = search rules
  one_more n (suc i) m (a ∷ xs) (b ∷ ys) x y lt below e f is h p = search (rules, one_more (n + 1) i m xs ys x y)

-- a list that is made of another's elements, each with its number
module _ {X Y : Type 0} (make : ℕ → X → Y) (from : ℕ → List X → List Y) (none : (n : ℕ) → from n [] ≡ []) (some : (n : ℕ) (x : X) (xs : List X) → from n (x ∷ xs) ≡ make n x ∷ from (n + 1) xs) where
  abbrev pub IsMade : ℕ → X → Y → Type 0
  IsMade n x y = y ≡ make n x

  pub made_from : (n : ℕ) (xs : List X) (ys : List Y) → Pairwise IsMade n xs ys → from n xs ≡ ys
  made_from n [] [] h = none n
  made_from n [] (y ∷ ys) h = absurd h
  made_from n (x ∷ xs) [] h = absurd h
  made_from n (x ∷ xs) (y ∷ ys) h = some n x xs ∙ ap₂ (λ z l. z ∷ l) (sym h.0) (made_from (n + 1) xs ys h.1)

  pub all_made : (n : ℕ) (xs : List X) (ys : List Y) → from n xs ≡ ys → Pairwise IsMade n xs ys
  all_made n [] [] e = tt
  all_made n [] (y ∷ ys) e = let no : [] ≡ y ∷ ys = sym (none n) ∙ e in absurd cc
  all_made n (x ∷ xs) [] e = let no : make n x ∷ from (n + 1) xs ≡ [] = sym (some n x xs) ∙ e in absurd cc
  all_made n (x ∷ xs) (y ∷ ys) e = search (rules, all_made (n + 1) xs ys)

-- ---- the answers of tables that are asked

-- tables that are left as they were show what they showed
pub still_lists : (r : Register) (old new : State) → new.committed ≡ old.committed → ShowsLists r old → ShowsLists r new
still_lists r old new same shows = record { has = subst (HasLists (contents r)) (sym same) shows.has; stored = shows.stored }

module _ (old new : State) (reads : ReadsOnly old new) where
  pub told_false : {Holds : Register → Type 0} → (IsClean new → (r : Register) → ShowsLists r old → Holds r → ⊥) → TellsWhether old new (Ok false) Holds
  told_false fails = record { reads = reads; told = λ clean r shows. (λ e. absurd (true≢false (sym e)), λ h. absurd (fails clean r shows h)) }

  -- what is told of the tables that were left
  pub told_after : {P Q : Register → Type 0} (last : State) (result : Result Bool Error) → TellsWhether new last result P → (IsClean new → (r : Register) → ShowsLists r old → P r ↔ Q r) → TellsWhether old last result Q
  told_after {P} {Q} last result tells same = record {
    reads = read_on reads tells.reads;
    told = λ clean r shows.
        let both = same (tells.reads.began clean) r shows in
        IfOk-weaker result (λ b. IsTrue b ↔ P r) (λ b. IsTrue b ↔ Q r) (λ b h. (λ e. both.0 (h.0 e), λ q. h.1 (both.1 q))) (tells.told clean r (still_lists r old new (reads.kept (tells.reads.began clean)) shows));
  }

-- what is told where one thing of several doesn't hold
pub told_unless : {P Q : Register → Type 0} (old new : State) (b : Bool) → b ≡ false → TellsWhether old new (Ok b) P → ((r : Register) → Q r → P r) → TellsWhether old new (Ok false) Q
told_unless old new b untrue tells needs = search rules

-- what is told of the rows that a query finds
pub told_of_rows : (P : List Row → Type 0) {Holds : Register → Type 0} (old new : State) (rows : Vec Row Global) (rows_of : Register → List Row) (given : List Row) (result : Result Bool Error) → FindsRows ShowsLists old new (Ok rows) rows_of → given ≡ rows.items
    → IfOk result (λ b. IsTrue b ↔ P given) → ((r : Register) → P (rows_of r) ↔ Holds r) → TellsWhether old new result Holds
told_of_rows P {Holds} old new rows rows_of given result found is h same = search rules

-- ---- the rows of statements that are kept, and of those that a file says: the status of a row

abbrev status_value : Option Status → Value
status_value status = or_null (option_map status_word status)

bound_status : (o : Option Status) → bound_value (status_value o) ≡ status_value o
bound_status o = search rules

same_status : (o : Option Status) (status : Status) → status_value o ≡ Text (status_word status) → o ≡ Some status
same_status None status e = absurd cc
same_status (Some other) status e = let words : status_word other ≡ status_word status = cc in sym (status_back other) ∙ ap status_worded words ∙ status_back status

-- the values of a statement that says no status, with the one that a row has, and those of one that says it
pub beside_none : (row : Row) (o : Option Status) (values : List ValueRef) (x : Row) (v : ValueRef) → is_some o ≡ false → bound values ≡ x → owned v ≡ column row 8 → bound (slice_set values 8 v) ≡ columns_beside row o x
beside_none row o values x v e is own = search (rules, map-set)

pub beside_some : (row : Row) (o : Option Status) (values : List ValueRef) (x : Row) → is_some o ≡ true → bound values ≡ x → bound values ≡ columns_beside row o x
beside_some row o values x e is = search rules

-- ---- one statement

module _ (agent : List ℕ) (number place : ℕ) (said kept : Statement) where
  abbrev as_said : Option Status → Row
  as_said status = statement_columns (bare (standing agent number place (with_status status said)))

  abbrev kept_row : Row
  kept_row = statement_columns (bare (standing agent number place kept))

  row_fits : (o : Option Status) → kept_row ≡ columns_beside kept_row o (as_said o) → ((o ≡ None) ⊎ (o ≡ kept.status)) × (as_said kept.status ≡ kept_row)
  row_fits o e = search (rules, bound_status, same_status)

  module _ (ms : List Member) (alone : IsAlone (placed ms) (standing agent number place kept)) where
    abbrev p : Placed
    p = standing agent number place kept

    own_interests : interests_at p.at ms ≡ interest_rows p
    own_interests = ap (flat_map interest_rows) alone ∙ append-nil (interest_rows p)

    own_identifiers : identifiers_at p.at ms ≡ identifier_rows p
    own_identifiers = ap (flat_map identifier_rows) alone ∙ append-nil (identifier_rows p)

    fits_of_kept : IsKept agent number ms place said kept_row → FitsAt agent number place said kept
    fits_of_kept h = search (rules, row_fits, own_interests, own_identifiers)

    kept_of_fits : FitsAt agent number place said kept → IsKept agent number ms place said kept_row
    kept_of_fits h = search rules

-- ---- all statements of a filing

module _ (agent : List ℕ) (number : ℕ) (ms : List Member) where
  abbrev pub rows_from : ℕ → List Statement → List Row
  rows_from place kept = map (λ p. statement_columns (bare p)) (placed_from agent number place kept)

  abbrev AllAlone : ℕ → List Statement → Type 0
  AllAlone place kept = All (IsAlone (placed ms)) (placed_from agent number place kept)

  rows_fit_all : (place : ℕ) (said kept : List Statement) → AllAlone place kept → Pairwise (IsKept agent number ms) place said (rows_from place kept) ↔ Fit agent number place said kept
  rows_fit_all place [] [] alone = (λ h. tt, λ h. tt)
  rows_fit_all place [] (t ∷ kept) alone = (λ h. absurd h, λ h. absurd h)
  rows_fit_all place (s ∷ said) [] alone = (λ h. absurd h, λ h. absurd h)
  rows_fit_all place (s ∷ said) (t ∷ kept) alone =
      let here = All-head (IsAlone (placed ms)) (standing agent number place t) (placed_from agent number (place + 1) kept) alone in
      let rest = rows_fit_all (place + 1) said kept (All-tail (IsAlone (placed ms)) (standing agent number place t) (placed_from agent number (place + 1) kept) alone) in
      (λ h. (fits_of_kept agent number place s t ms here h.0, rest.0 h.1), λ h. (kept_of_fits agent number place s t ms here h.0, rest.1 h.1))

-- ---- of a register

abbrev statements_of : List AcceptedFiling → List Statement
statements_of fs = flat_map (λ (f : AcceptedFiling). f.statements) fs

filed : (agent : List ℕ) (number n : ℕ) (fs : List AcceptedFiling) → AreNumbered n fs → in_filing number (placed_by agent fs) ≡ placed_from agent number 1 (statements_of (numbered number fs))
filed agent number n [] h = refl
filed agent number n (f ∷ fs) h = search (rules, filter-append, cases_Bool, is_number, none_numbered, append-nil, own_filing, none_filed, other_filing, filed agent number (n + 1) fs)

module _ (agent : List ℕ) (number : ℕ) (r : Register) (stored : IsStored r) where
  kept_filed : in_filing number (placed_of agent r) ≡ placed_from agent number 1 (statements_kept agent number r)
  kept_filed = filed agent number 1 (filings_of agent r.members) (numbered_of agent r.members stored.numbered)

  all_alone : All (IsAlone (placed r.members)) (placed_from agent number 1 (statements_kept agent number r))
  all_alone = subst (All (IsAlone (placed r.members))) kept_filed (All-filter (λ (p : Placed). p.at.filing == number) (IsAlone (placed r.members)) (placed_of agent r) (own_alone_at agent r stored))

  -- the rows that are found fit where the statements do
  pub rows_fit : (said : List Statement) (rows : List Row) → rows ≡ map (λ p. statement_columns (bare p)) (in_filing number (placed_of agent r))
      → Pairwise (IsKept agent number r.members) 1 said rows ↔ Fit agent number 1 said (statements_kept agent number r)
  rows_fit said rows are = search (rules, kept_filed, rows_fit_all, all_alone)
