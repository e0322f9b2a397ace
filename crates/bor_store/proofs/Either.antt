-- The answers from the rows that a query finds in tables of either version.
use Rattle.std.proofs.Common.{◌≡◌, List, map, Vec, Result, IfOk, MatchResult, sym, subst, All, Global}
use Rattle.std.proofs.lemmas.Result.{MatchResult-weaker}
use Rattle.sqlite.specs.Order.{Row}
use Rattle.sqlite.specs.State.{State}
use Rattle.sqlite.specs.declared.error.Error.{Error}
use Rattle.bor_register.specs.Register.{Register}
use Rattle.bor_store_sql.specs.Rows.Encoding.{contents}
use Rattle.bor_store_sql.specs.Rows.Stored.{IsStored}
use Rattle.bor_store_sql.specs.Found.{FindsRows}
use Rattle.bor_store_sql.specs.Shown.{HasFirst, HasLists, ShowsFirst, ShowsLists, first_contents}
use Rattle.bor_store_reads.specs.Answering.{IsNoDamage}
use Rattle.bor_store_reads.specs.declared.fault.ReadError.{ReadError}
use Rattle.bor_store.specs.Migrating.{AnswersEither}

-- what is told of rows that are those of formed values
pub told_either : {X Y : Type 0} (columns : X → Row) (is_formed : X → Type 0) {old new : State} {found : Result (Vec Row Global) Error} {rows_of : Register → List Row} (result : Result Y ReadError) (Q : List X → Y → Type 0) (xs_of : Register → List X)
    → FindsRows ShowsLists old new found rows_of → ((r : Register) → rows_of r ≡ map columns (xs_of r)) → ((r : Register) → IsStored r → All is_formed (xs_of r))
    → ((xs : List X) → IfOk found (λ rows. rows.items ≡ map columns xs) → All is_formed xs → MatchResult result (Q xs) IsNoDamage) → AnswersEither old new result (λ r. Q (xs_of r))
told_either columns is_formed {found = found} result Q xs_of finds are formed h clean r shows = h (xs_of r) (subst (λ l. IfOk found (λ rows. rows.items ≡ l)) (are r) (finds.rows clean r shows)) (formed r shows.stored)

-- the same answer in other words
pub in_words : {X : Type 0} {old : State} (new : State) (result : Result X ReadError) {P Q : Register → X → Type 0} → ((r : Register) (x : X) → P r x → Q r x) → AnswersEither old new result P → AnswersEither old new result Q
in_words new result so told clean r shows = MatchResult-weaker result (told clean r shows) (so r) (λ e whole. whole)

-- a read leaves what is shown
pub still_lists : (r : Register) (old new : State) → new.committed ≡ old.committed → ShowsLists r old → ShowsLists r new
still_lists r old new same shows = record { has = subst (HasLists (contents r)) (sym same) shows.has; stored = shows.stored }

pub still_first : (r : Register) (old new : State) → new.committed ≡ old.committed → ShowsFirst r old → ShowsFirst r new
still_first r old new same shows = record { has = subst (HasFirst (first_contents r)) (sym same) shows.has; stored = shows.stored }
