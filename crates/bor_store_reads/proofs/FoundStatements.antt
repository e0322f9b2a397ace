-- An agent's live statements, as they are found by identifier and by record.
use Rattle.std.proofs.Common.{◌≡◌, ℕ, ℤ, pos, ◌+◌, ◌≤◌, List, [], ◌∷◌, ◌++◌, map, filter, length, not, Bool, Option, Some, None, option_map, Vec, Result, OnOk, IsOk, Global, flat_map, refl, sym, ap, ap₂, subst, ◌∙◌, slice_get, arith, All, IfSome, ◌==◌, ◌||◌}
use Rattle.std.specs.List.{list_any, last_or, AllByRecursion}
use Rattle.std.proofs.lemmas.List.{map-append}
use Rattle.std.proofs.lemmas.List.Elements.{All-nil, All-cons, All-head, All-tail, All-append, All-filter}
use Rattle.std.proofs.lemmas.List.Folds.{list_any-append}
use Rattle.std.proofs.lemmas.Option.{none-some, same_Some, slice_get-map}
use Rattle.std.proofs.lemmas.Simd.{map-map}
use Rattle.sqlite.specs.Order.{Row}
use Rattle.sqlite.specs.State.{State}
use Rattle.sqlite.specs.declared.error.Error.{Error}
use Rattle.sqlite_keyed.proofs.ListLemmas.{filter-map, all_weaker}
use Rattle.bor_terms.specs.Texts.{is_same}
use Rattle.bods_read.specs.Words.{type_of}
use Rattle.bods_read.specs.declared.details.Details.{Details}
use Rattle.bods_read.specs.declared.details.Details.TheVariants as details
use Rattle.bods_read.specs.declared.statement.Statement.{Statement}
use Rattle.bor_records.specs.Admission.{Live, is_of, known_of, last_of}
use Rattle.bor_records.specs.Settling.{as_live, has_id}
use Rattle.bor_register.specs.declared.filing.AcceptedFiling.{AcceptedFiling}
use Rattle.bor_register.specs.Register.{Register, filings_of}
use Rattle.bor_register.specs.Live.{live_of}
use Rattle.bor_register.specs.Withdrawal.{has_successor}
use Rattle.bor_register.proofs.LiveStatements.{has_id-live_of}
use Rattle.bor_store_sql.specs.declared.rows.typed.FilingRow.{FilingRow}
use Rattle.bor_store_sql.specs.declared.rows.typed.Placed.{Placed}
use Rattle.bor_store_sql.specs.declared.rows.typed.StatementRow.{StatementRow}
use Rattle.bor_store_sql.specs.declared.rows.places.At.{At}
use Rattle.bor_store_sql.specs.declared.rows.typed.IdentifierRow.{IdentifierRow}
use Rattle.bor_store_sql.specs.declared.rows.typed.InterestLine.{InterestLine}
use Rattle.bor_store_sql.specs.declared.rows.typed.PeriodRow.{PeriodRow}
use Rattle.bor_store_sql.specs.Found.{FindsRows}
use Rattle.bor_store_sql.specs.Shown.{ShowsIn}
use Rattle.bor_store_sql.specs.Rows.Encoding.{identifier_columns, interest_columns, interest_line_columns, period_columns, statement_columns}
use Rattle.bor_store_sql.specs.Rows.Placed.{bare, part_of, filing_row, identifier_rows, interest_line, interest_rows, period_rows, placed, placed_from, placed_by, same_place}
use Rattle.bor_store_sql.specs.Rows.RowForms.{IsFormedIdentifierRow, IsFormedInterestLine, IsFormedPeriodRow, IsFormedPlaced, IsFormedStatementRow}
use Rattle.bor_store_sql.specs.Rows.Stored.{AreNumbered, IsStored}
use Rattle.bor_register.proofs.OnMemory.Lists.{last_map}
use Rattle.bor_store_sql.proofs.OnRows.Numbers.{same_number, before_number}
use Rattle.bor_store_sql.proofs.OnRows.Each.{none_numbered}
use Rattle.bor_store_sql.proofs.OnRows.Successors.{successor_is}
use Rattle.bor_store_sql.proofs.OnRows.ByKey.{last_is as last_found}
pub use Rattle.bor_store_sql.proofs.OnRows.Formed.{placed_formed}
use Rattle.bor_store_sql.proofs.OnRows.Formed.{all_bare_formed, all_identifiers_formed, all_interests_formed, all_lines_formed, all_periods_formed}
use Rattle.bor_store_sql.specs.Selected.{numbered, in_filing, last, placed_of, in_series, identified, place_columns, standing_at}
use Rattle.bor_store_sql.specs.Rows.Seen.{known_at, type_of_part, is_later}
use Rattle.bor_store_sql.proofs.Alone.{own_placed}
use Rattle.bor_store_reads.specs.Answering.{ReadsAs}
use Rattle.bor_store_reads.specs.declared.fault.ReadError.{ReadError}
use Rattle.bor_store_reads.proofs.Found.{TellsAll, TellsAny, TellsFirst, all_told, any_left, first_told, told_any}
use Rattle.bor_store_reads.proofs.Lists.{all_taken}
use Rattle.bor_store_reads.proofs.Reading.{read_as}

-- ---- tests of statements

any_map : {A B : Type 0} (p : B → Bool) (g : A → B) (xs : List A) → list_any p (map g xs) ≡ list_any (λ x. p (g x)) xs
any_map p g [] = refl
any_map p g (x ∷ xs) = rw (any_map p g xs) refl

any_from : (t : Statement → Bool) (agent : List ℕ) (number place : ℕ) (ss : List Statement) → list_any (λ (p : Placed). t p.statement) (placed_from agent number place ss) ≡ list_any t ss
any_from t agent number place [] = refl
any_from t agent number place (s ∷ ss) = ap (λ b. t s || b) (any_from t agent number (place + 1) ss)

pub any_by : (t : Statement → Bool) (agent : List ℕ) (fs : List AcceptedFiling) → list_any (λ (p : Placed). t p.statement) (placed_by agent fs) ≡ list_any (λ f. list_any t f.statements) fs
any_by t agent [] = refl
any_by t agent (f ∷ fs) =
    list_any-append (λ (p : Placed). t p.statement) (placed_from agent f.number 1 f.statements) (placed_by agent fs) ∙ ap₂ (λ a b. a || b) (any_from t agent f.number 1 f.statements) (any_by t agent fs)

any_identified : (id agent : List ℕ) (fs : List AcceptedFiling) → not (length (map place_columns (identified id (placed_by agent fs))) == 0) ≡ has_id id (live_of fs)
any_identified id agent fs = any_left place_columns (λ (p : Placed). is_same p.statement.id id) (placed_by agent fs) ∙ any_by (λ s. is_same s.id id) agent fs ∙ sym (has_id-live_of id fs)

-- ---- rows

-- the statements at a place
pub standing_formed : (at : At) (r : Register) → IsStored r → All IsFormedPlaced (standing_at at r.members)
standing_formed at r stored = All-filter (λ (p : Placed). same_place p.at at) IsFormedPlaced (placed r.members) (placed_formed r stored)

-- those of an agent that pass a test
own_formed : (agent : List ℕ) (test : Placed → Bool) (r : Register) → IsStored r → All IsFormedPlaced (filter test (placed_of agent r))
own_formed agent test r stored = All-filter test IsFormedPlaced (placed_of agent r) (own_placed IsFormedPlaced agent r.members (placed_formed r stored))

abbrev statement_rows : List Placed → List Row
statement_rows ps = map (λ p. statement_columns (bare p)) ps

module _ {old new : State} {found : Result (Vec Row Global) Error} where
  module _ (pick : Register → List Placed) (formed : (r : Register) → IsStored r → All IsFormedPlaced (pick r)) where
    -- the rows of these statements
    pub statements_told : {result : Result (Vec StatementRow Global) ReadError} {picked : Register → List Placed} → FindsRows ShowsIn old new found (λ r. statement_rows (picked r)) → ((r : Register) → picked r ≡ pick r)
        → TellsAll statement_columns IsFormedStatementRow found result → OnOk result (IsOk found) → ReadsAs old new result (λ r rows. rows.items ≡ map bare (pick r))
    statements_told finds same values is_ok =
        all_told finds statement_columns IsFormedStatementRow (λ r. ap statement_rows (same r) ∙ sym (map-map statement_columns bare (pick r))) (λ r stored. all_bare_formed (pick r) (formed r stored)) values is_ok

    -- the row of the first of them
    pub first_statement_told : {result : Result (Option StatementRow) ReadError} {picked : Register → List Placed} → FindsRows ShowsIn old new found (λ r. statement_rows (picked r)) → ((r : Register) → picked r ≡ pick r)
        → TellsFirst statement_columns IsFormedStatementRow found result → OnOk result (IsOk found) → ReadsAs old new result (λ r row. row ≡ option_map bare (slice_get (pick r) 0))
    first_statement_told finds same value is_ok = read_as
        (first_told finds statement_columns IsFormedStatementRow (λ r. map bare (pick r)) (λ r. ap statement_rows (same r) ∙ sym (map-map statement_columns bare (pick r))) (λ r stored. all_bare_formed (pick r) (formed r stored)) value is_ok)
        (λ r row stored is. is ∙ slice_get-map bare (pick r) 0)

    -- the rows of their lists
    pub lines_told : {result : Result (Vec InterestLine Global) ReadError} → FindsRows ShowsIn old new found (λ r. map interest_columns (flat_map interest_rows (pick r)))
        → TellsAll interest_line_columns IsFormedInterestLine found result → OnOk result (IsOk found) → ReadsAs old new result (λ r rows. rows.items ≡ map interest_line (flat_map interest_rows (pick r)))
    lines_told finds values is_ok =
        all_told finds interest_line_columns IsFormedInterestLine (λ r. sym (map-map interest_line_columns interest_line (flat_map interest_rows (pick r))))
        (λ r stored. all_lines_formed (flat_map interest_rows (pick r)) (all_interests_formed (pick r) (formed r stored))) values is_ok

    pub periods_told : {result : Result (Vec PeriodRow Global) ReadError} → FindsRows ShowsIn old new found (λ r. map period_columns (flat_map period_rows (flat_map interest_rows (pick r))))
        → TellsAll period_columns IsFormedPeriodRow found result → OnOk result (IsOk found) → ReadsAs old new result (λ r rows. rows.items ≡ flat_map period_rows (flat_map interest_rows (pick r)))
    periods_told finds values is_ok =
        all_told finds period_columns IsFormedPeriodRow (λ r. refl) (λ r stored. all_periods_formed (flat_map interest_rows (pick r)) (all_interests_formed (pick r) (formed r stored))) values is_ok

    pub identifiers_told : {result : Result (Vec IdentifierRow Global) ReadError} → FindsRows ShowsIn old new found (λ r. map identifier_columns (flat_map identifier_rows (pick r)))
        → TellsAll identifier_columns IsFormedIdentifierRow found result → OnOk result (IsOk found) → ReadsAs old new result (λ r rows. rows.items ≡ flat_map identifier_rows (pick r))
    identifiers_told finds values is_ok = all_told finds identifier_columns IsFormedIdentifierRow (λ r. refl) (λ r stored. all_identifiers_formed (pick r) (formed r stored)) values is_ok

  -- the rows of those of an agent's statements that pass a test
  pub own_told : {result : Result (Vec StatementRow Global) ReadError} {picked : Register → List Placed} (agent : List ℕ) (test : Placed → Bool) → FindsRows ShowsIn old new found (λ r. statement_rows (picked r))
      → ((r : Register) → picked r ≡ filter test (placed_of agent r)) → TellsAll statement_columns IsFormedStatementRow found result → OnOk result (IsOk found) → ReadsAs old new result (λ r rows. rows.items ≡ map bare (filter test (placed_of agent r)))
  own_told agent test finds same values is_ok = statements_told (λ r. filter test (placed_of agent r)) (own_formed agent test) finds same values is_ok

  -- the row of the last of them
  pub last_told : {result : Result (Option StatementRow) ReadError} {picked : Register → List Placed} (agent : List ℕ) (test : Placed → Bool) → FindsRows ShowsIn old new found (λ r. statement_rows (picked r))
      → ((r : Register) → picked r ≡ last (filter test (placed_of agent r))) → TellsFirst statement_columns IsFormedStatementRow found result → OnOk result (IsOk found)
      → ReadsAs old new result (λ r row. row ≡ option_map bare (last_or None (filter test (placed_of agent r))))
  last_told agent test finds same value is_ok = read_as
      (first_statement_told (λ r. last (filter test (placed_of agent r))) (λ r stored. all_taken IsFormedPlaced (filter test (placed_of agent r)) (own_formed agent test r stored)) finds same value is_ok)
      (λ r row stored is. is ∙ ap (option_map bare) (last_found (filter test (placed_of agent r))))

  -- whether one has the identifier
  pub identified_told : {result : Result Bool ReadError} {a agent i id : List ℕ} → a ≡ agent → i ≡ id → FindsRows ShowsIn old new found (λ r. map place_columns (identified i (placed_of a r))) → TellsAny found result → OnOk result (IsOk found)
      → ReadsAs old new result (λ r has. has ≡ has_id id (live_of (filings_of agent r.members)))
  identified_told {agent = agent} {id = id} named is finds any is_ok = told_any finds (λ r. rw (named, is) (any_identified id agent (filings_of agent r.members))) any is_ok

-- ---- the due day of a statement's filing

-- the filing is the one of its number
pub record IsNumbered (whole : List AcceptedFiling) (low : ℕ) (f : AcceptedFiling) : Type 0 where
  pub found : numbered f.number whole ≡ f ∷ []
  pub from : low ≤ f.number

pub each_numbered : (n : ℕ) (fs : List AcceptedFiling) → AreNumbered n fs → AllByRecursion (IsNumbered fs n) fs
each_numbered n [] h = tt
each_numbered n (f ∷ fs) h =
    let is = h.0 in (
      record { found = rw (same_number f.number) (ap (λ l. f ∷ l) (none_numbered f.number (n + 1) fs (omega (arith, is)) h.1)); from = omega (arith, is) },
      all_weaker (IsNumbered fs (n + 1)) (IsNumbered (f ∷ fs) n)
          (λ g k. let low = k.from in record { found = rw (before_number f.number g.number (omega (arith, is, low))) k.found; from = omega (arith, low) }) fs (each_numbered (n + 1) fs h.1),
    )

abbrev due_in : Option AcceptedFiling → ℤ
due_in None = pos 0
due_in (Some f) = f.due

abbrev live_at : List AcceptedFiling → Placed → Live
live_at whole p = as_live (due_in (slice_get (numbered p.at.filing whole) 0)) p.statement

live_from : (whole : List AcceptedFiling) (agent : List ℕ) (f : AcceptedFiling) → slice_get (numbered f.number whole) 0 ≡ Some f → (place : ℕ) (ss : List Statement) → map (as_live f.due) ss ≡ map (live_at whole) (placed_from agent f.number place ss)
live_from whole agent f is place [] = refl
live_from whole agent f is place (s ∷ ss) = ap₂ (λ due l. as_live due s ∷ l) (sym (ap due_in is)) (live_from whole agent f is (place + 1) ss)

live_placed : (whole : List AcceptedFiling) (agent : List ℕ) (n : ℕ) (fs : List AcceptedFiling) → AllByRecursion (IsNumbered whole n) fs → live_of fs ≡ map (live_at whole) (placed_by agent fs)
live_placed whole agent n [] h = refl
live_placed whole agent n (f ∷ fs) h =
    ap₂ (λ xs ys. xs ++ ys) (live_from whole agent f (ap (λ l. slice_get l 0) h.0.found) 1 f.statements) (live_placed whole agent n fs h.1) ∙ sym (map-append (live_at whole) (placed_from agent f.number 1 f.statements) (placed_by agent fs))

-- its filing is there
abbrev HasFiling : List AcceptedFiling → Placed → Type 0
HasFiling whole p = (f : AcceptedFiling) × (slice_get (numbered p.at.filing whole) 0 ≡ Some f)

there_from : (whole : List AcceptedFiling) (agent : List ℕ) (f : AcceptedFiling) → slice_get (numbered f.number whole) 0 ≡ Some f → (place : ℕ) (ss : List Statement) → All (HasFiling whole) (placed_from agent f.number place ss)
there_from whole agent f is place [] = All-nil (HasFiling whole)
there_from whole agent f is place (s ∷ ss) =
    All-cons (HasFiling whole) (record { at = record { agent = agent; filing = f.number; place = place }; statement = s }) (placed_from agent f.number (place + 1) ss) (f, is) (there_from whole agent f is (place + 1) ss)

there : (whole : List AcceptedFiling) (agent : List ℕ) (n : ℕ) (fs : List AcceptedFiling) → AllByRecursion (IsNumbered whole n) fs → All (HasFiling whole) (placed_by agent fs)
there whole agent n [] h = All-nil (HasFiling whole)
there whole agent n (f ∷ fs) h = All-append (HasFiling whole) (placed_from agent f.number 1 f.statements) (placed_by agent fs) (there_from whole agent f (ap (λ l. slice_get l 0) h.0.found) 1 f.statements) (there whole agent n fs h.1)

-- ---- the last statement of a record

-- what holds of all holds of the last one
of_last : {X : Type 0} (P : X → Type 0) (o : Option X) (xs : List X) → IfSome o P → All P xs → IfSome (last_or o xs) P
of_last P o [] h all = h
of_last P o (x ∷ xs) h all = of_last P (Some x) xs (All-head P x xs all) (All-tail P x xs all)

type_is : (d : Details) → type_of_part (part_of d) ≡ type_of d
type_is (details.Entity kind name identifiers) = refl
type_is d = refl

module _ (agent declaration rec : List ℕ) (fs : List AcceptedFiling) (numbers : AreNumbered 1 fs) where
  abbrev pub series : List Placed
  series = in_series declaration rec (placed_by agent fs)

  last_is : last_of declaration rec (live_of fs) ≡ option_map known_of (option_map (live_at fs) (last_or None series))
  last_is =
      ap (last_of declaration rec) (live_placed fs agent 1 fs (each_numbered 1 fs numbers))
      ∙ ap (λ l. option_map known_of (last_or None l)) (filter-map (λ (l : Live). is_of declaration rec l.statement) (live_at fs) (placed_by agent fs))
      ∙ ap (option_map known_of) (last_map (live_at fs) None series)

  last_there : IfSome (last_or None series) (HasFiling fs)
  last_there = of_last (HasFiling fs) None series tt (All-filter (λ (p : Placed). is_of declaration rec p.statement) (HasFiling fs) (placed_by agent fs) (there fs agent 1 fs (each_numbered 1 fs numbers)))

  pub no_last : option_map bare (last_or None series) ≡ None → last_of declaration rec (live_of fs) ≡ None
  no_last e = last_is ∙ go (last_or None series) e
    where
      go : (o : Option Placed) → option_map bare o ≡ None → option_map known_of (option_map (live_at fs) o) ≡ None
      go None e = refl
      go (Some p) e = absurd (none-some (bare p) (sym e))

  module _ (row : StatementRow) (is : Some row ≡ option_map bare (last_or None series)) where
    pub last_known : (due : ℤ) → Some due ≡ option_map (λ (f : FilingRow). f.due) (option_map (filing_row agent) (slice_get (numbered row.at.filing fs) 0)) → Some (known_at due row) ≡ last_of declaration rec (live_of fs)
    last_known due found = go (last_or None series) is ∙ sym last_is
      where
        due_is : (o : Option AcceptedFiling) → Some due ≡ option_map (λ (f : FilingRow). f.due) (option_map (filing_row agent) o) → due ≡ due_in o
        due_is None e = absurd (none-some due (sym e))
        due_is (Some f) e = same_Some due f.due e

        go : (o : Option Placed) → Some row ≡ option_map bare o → Some (known_at due row) ≡ option_map known_of (option_map (live_at fs) o)
        go None e = absurd (none-some row (sym e))
        go (Some p) e =
            let same : row ≡ bare p = same_Some row (bare p) e in
            let is_due : due ≡ due_in (slice_get (numbered p.at.filing fs) 0) = subst (λ (x : StatementRow). due ≡ due_in (slice_get (numbered x.at.filing fs) 0)) same (due_is (slice_get (numbered row.at.filing fs) 0) found) in
            ap (λ x. Some (known_at due x)) same ∙ ap₂ (λ kind d. Some (record { kind = kind; status = (known_at d (bare p)).status; day = p.statement.day; due = d })) (type_is p.statement.details) is_due

    pub last_has_filing : None ≡ option_map (λ (f : FilingRow). f.due) (option_map (filing_row agent) (slice_get (numbered row.at.filing fs) 0)) → ⊥
    last_has_filing none = go (last_or None series) is last_there
      where
        go : (o : Option Placed) → Some row ≡ option_map bare o → IfSome o (HasFiling fs) → ⊥
        go None e h = none-some row (sym e)
        go (Some p) e h =
            let same : row ≡ bare p = same_Some row (bare p) e in
            let due_at : Option AcceptedFiling → Option ℤ = λ o. option_map (λ (f : FilingRow). f.due) (option_map (filing_row agent) o) in
            none-some h.0.due (none ∙ ap (λ (x : StatementRow). due_at (slice_get (numbered x.at.filing fs) 0)) same ∙ ap due_at h.1)

-- ---- successors

pub followed_is : (agent : List ℕ) (number : ℕ) (fs : List AcceptedFiling) → AreNumbered 1 fs
    → list_any (λ (row : StatementRow). is_later number (last_or None (in_series row.declaration row.rec (placed_by agent fs)))) (map bare (in_filing number (placed_by agent fs))) ≡ has_successor number fs
followed_is agent number fs numbers =
    any_map (λ (row : StatementRow). is_later number (last_or None (in_series row.declaration row.rec (placed_by agent fs)))) bare (in_filing number (placed_by agent fs)) ∙ successor_is agent number 1 fs numbers
