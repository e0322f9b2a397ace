-- The effects of a transaction, one statement after the other.
use Rattle.std.proofs.Common.{◌≡◌, ◌⊎◌, ◌<◌, ◌≤◌, ◌+◌, ℕ, List, [], ◌∷◌, ◌++◌, map, take, length, get_or, append_assoc, Ok, IfOk, Result, IsTrue, IsErr, sym, ap, subst, ◌∙◌, arith, rules}
use Rattle.std.proofs.lemmas.List.{map-append, take_more}
use Rattle.sqlite.specs.Effect.{Database}
pub use Rattle.sqlite.specs.Held.{Held, state}
use Rattle.sqlite.specs.Order.{Row}
use Rattle.sqlite.specs.Store.{Ghosts}
use Rattle.sqlite.specs.declared.error.Error.{Error}
use Rattle.sqlite.specs.State.{State, Executes, HasCleanDisk, IsUnchanged, IsRolledBack, Survives}
use Rattle.sqlite.specs.Tree.{Trees}
use Rattle.bor_store_sql.specs.Changing.{Any}
use Rattle.bor_store_sql.specs.Moving.{PutsPeriods}
use Rattle.bor_store_sql.specs.Ran.{MovesTo, Ran, RanEach, RanInTurn}
use Rattle.bor_store_sql.specs.Rows.Encoding.{Contents, period_columns}
use Rattle.bor_store_sql.specs.Shown.{ChangesContents, Has, StepsTo}
use Rattle.bor_store_sql.specs.declared.rows.typed.PeriodRow.{PeriodRow}

-- ---- one text

no_less : (a b : ℕ) → a ≤ b → b ≡ 0 → a ≡ 0
no_less a b le none = omega arith

-- a disk that is clean was so before
pub was_clean : (old new : State) (Commits : Trees → Type 0) → Survives old new Commits → HasCleanDisk new → HasCleanDisk old
was_clean old new Commits survives clean = no_less _ _ survives.clean clean

-- ---- one statement

-- what is left by a failure, which may have ended the transaction
pub record Left (old new : State) : Type 0 where
  pub was_open : IsTrue new.is_open → IsTrue old.is_open
  pub committed : IsTrue new.is_open → new.committed ≡ old.committed

pub left : (old new : State) → IsUnchanged old new ⊎ IsRolledBack old new → Left old new
left old new h = search rules

-- a statement that goes well makes this of the database
abbrev pub Making : List ℕ → Row → (Database → Database → Type 0) → Type 1
Making sql params Makes = (old new : State) (count : ℕ) → Executes sql params old new (Ok count) → Makes old.now new.now

-- what a statement makes that is given what it is said to be given
pub moves_by : {Makes : Database → Database → Type 0} {sql : List ℕ} {given params : Row} {old new : State} {result : Result (Unit {0}) Error} → Ran sql given old new result → given ≡ params → Making sql params Makes → MovesTo Makes old new result
moves_by {Makes} {sql} {old = old} {new} {result} ran is does = search rules

-- ---- one after the other

-- one that went well, and another, which may fail
pub both_move : (First Then All : Database → Database → Type 0) (old mid new : State) (result : Result (Unit {0}) Error) → (First old.now mid.now → Then mid.now new.now → All old.now new.now)
    → MovesTo First old mid (Ok (tt {0})) → MovesTo Then mid new result → MovesTo All old new result
both_move First Then All old mid new result chain one two = search rules

-- a failure makes nothing, whatever was to be made
pub fails : {Then All : Database → Database → Type 0} {old new : State} {done result : Result (Unit {0}) Error} → IsErr result → MovesTo Then old new done → MovesTo All old new result
fails {All = All} {old} {new} {result = result} err one = search rules

-- one that went well, and another that failed
pub then_fails : {First Then All : Database → Database → Type 0} {old mid new : State} {done result : Result (Unit {0}) Error} → IsErr result → MovesTo First old mid (Ok (tt {0})) → MovesTo Then mid new done → MovesTo All old new result
then_fails {First} {All = All} {old} {mid} {new} {result = result} err one two = both_move First (λ was is. All old.now is) All old mid new result (λ first all. all) one (fails err two)

-- what was made, in other words
pub in_other_words : (Makes All : Database → Database → Type 0) (old new : State) (result : Result (Unit {0}) Error) → (Makes old.now new.now → All old.now new.now) → MovesTo Makes old new result → MovesTo All old new result
in_other_words Makes All old new result turn one = search rules

-- what is known of all that went well
pub with_known : (P : Type 0) (Makes : Database → Database → Type 0) (old new : State) (result : Result (Unit {0}) Error) → IfOk result (λ x. P) → MovesTo Makes old new result → MovesTo (λ was is. Makes was is × P) old new result
with_known P Makes old new result known one = search (rules, in_other_words, fails)

-- ---- texts, one after the other

-- texts that go well make this of the database
pub record MakingEach (texts : List (List ℕ)) (params : Row) (Makes : Database → Database → Type 0) : Type 1 where
  pub makes : (S : Type 0) (g : Ghosts S) (old new : Held S) (result : Result (Unit {0}) Error) → RanInTurn g texts params old new result → MovesTo Makes (state g old) (state g new) result

pub each_moves : {S : Type 0} {g : Ghosts S} {texts : List (List ℕ)} {given params : Row} {old new : Held S} {result : Result (Unit {0}) Error} {Makes : Database → Database → Type 0} → RanEach g texts given old new result → given ≡ params → MakingEach texts params Makes
    → MovesTo Makes (state g old) (state g new) result
each_moves {S} {g} {texts} {old = old} {new} {result} ran is each = each.makes S g old new result (subst (λ row. RanInTurn g texts row old new result) is ran.in_turn)

-- the last one
pub at_last : {text : List ℕ} {params : Row} {Makes : Database → Database → Type 0} → Making text params Makes → MakingEach (text ∷ []) params Makes
at_last {text} {params} {Makes} making = search rules

-- one, and then others
pub and_then : {text : List ℕ} {texts : List (List ℕ)} {params : Row} {First Then All : Database → Database → Type 0} → ((old mid new : Database) → First old mid → Then mid new → All old new) → Making text params First → MakingEach texts params Then
    → MakingEach (text ∷ texts) params All
and_then {text} {texts} {params} {First} {Then} {All} joined making rest = search rules

-- the same of changes of rows
pub then_change : {text : List ℕ} {texts : List (List ℕ)} {params : Row} {fits : Contents → Type 0} {f h : Contents → Contents} → Making text params (ChangesContents fits f) → MakingEach texts params (ChangesContents Any h)
    → MakingEach (text ∷ texts) params (ChangesContents fits (λ t. h (f t)))
then_change {f = f} making rest = and_then (λ old mid new to_f to_h t has fit. to_h (f t) (to_f t has fit) (tt {0})) making rest

-- ---- changes of rows

-- two changes are one
pub chained : (fits : Contents → Type 0) (f g h : Contents → Contents) (old mid new : Database) → ((t : Contents) → g (f t) ≡ h t) → ChangesContents fits f old mid → ChangesContents Any g mid new → ChangesContents fits h old new
chained fits f g h old mid new same one two t has fit = subst (λ x. Has x new) (same t) (two (f t) (one t has fit) (tt {0}))

-- one change after the other
pub both_step : {fits : Contents → Type 0} {f g : Contents → Contents} {old mid new : State} {result : Result (Unit {0}) Error} → StepsTo fits f old mid (Ok (tt {0})) → StepsTo Any g mid new result → StepsTo fits (λ t. g (f t)) old new result
both_step {fits} {f} {g} {old} {mid} {new} {result} one two = both_move (ChangesContents fits f) (ChangesContents Any g) (ChangesContents fits (λ t. g (f t))) old mid new result (λ to_f to_g t has fit. to_g (f t) (to_f t has fit) (tt {0})) one two

-- the same in other words
pub one_more : {f g h : Contents → Contents} {old mid new : State} → ((t : Contents) → g (f t) ≡ h t) → StepsTo Any f old mid (Ok (tt {0})) → StepsTo Any g mid new (Ok (tt {0})) → StepsTo Any h old new (Ok (tt {0}))
one_more {f} {g} {h} {old} {mid} {new} same one two = both_move (ChangesContents Any f) (ChangesContents Any g) (ChangesContents Any h) old mid new (Ok (tt {0})) (chained Any f g h old.now mid.now new.now same) one two

-- a change in other words
pub turned : {fits : Contents → Type 0} {f h : Contents → Contents} {old new : State} {result : Result (Unit {0}) Error} → ((t : Contents) → f t ≡ h t) → StepsTo fits f old new result → StepsTo fits h old new result
turned {fits} {f} {h} {old} {new} {result} same one = in_other_words (ChangesContents fits f) (ChangesContents fits h) old new result (λ to_f t has fit. subst (λ x. Has x new.now) (same t) (to_f t has fit)) one

-- ---- periods, one after the other

-- one row more of a list that is put down
one_more_of : {X Y : Type 0} (f : X → Y) (rows : List Y) (i : ℕ) (xs : List X) (x : X) → i < length xs → x ≡ get_or xs i x → (rows ++ map f (take i xs)) ++ f x ∷ [] ≡ rows ++ map f (take (i + 1) xs)
one_more_of f rows i xs x lt is =
    append_assoc rows (map f (take i xs)) (f x ∷ [])
    ∙ ap (λ l. rows ++ l) (sym (map-append f (take i xs) (x ∷ [])) ∙ ap (map f) (ap (λ y. take i xs ++ y ∷ []) is ∙ sym (take_more xs i x lt)))

pub one_more_period : (i : ℕ) (ps : List PeriodRow) (p : PeriodRow) (old now new : Database) → i < length ps → p ≡ get_or ps i p → PutsPeriods (take i ps) old now → PutsPeriods (p ∷ []) now new → PutsPeriods (take (i + 1) ps) old new
one_more_period i ps p old now new lt is first next t has =
    subst (λ l. Has (record t { periods = l }) new) (one_more_of period_columns t.periods i ps p lt is) (next (record t { periods = t.periods ++ map period_columns (take i ps) }) (first t has))
