-- The rows that a query gives of a register that is shown.
use Rattle.std.proofs.Common.{◌≡◌, inl, inr, ℕ, List, [], Vec, Result, IfOk, refl, sym, ap, subst, ◌∙◌, rules}
use Rattle.std.proofs.lemmas.Result.{IfOk-weaker}
use Rattle.std.specs.declared.alloc.Global.{Global}
use Rattle.sqlite.specs.declared.types.Value.TheVariants.{Null}
use Rattle.sqlite.specs.declared.error.Error.{Error}
use Rattle.sqlite.specs.Effect.{Database}
use Rattle.sqlite.specs.Order.{Row}
use Rattle.sqlite.specs.Query.{Query, IsAnswer}
use Rattle.sqlite.specs.Program.{overlay}
use Rattle.sqlite.specs.State.{State, Shown}
use Rattle.sqlite.proofs.Callers.{reads_as}
use Rattle.bor_register.specs.Register.{Register}
use Rattle.bor_store_sql.specs.Texts.Tables.{keep_schema}
use Rattle.bor_store_sql.specs.Texts.Queries.{shows_rows}
use Rattle.bor_store_sql.specs.Rows.Encoding.{Contents, contents}
use Rattle.bor_store_sql.specs.Texts.Meanings.{Asks}
use Rattle.bor_store_sql.specs.Shown.{Has, HasFirst, HasLists, first_contents, IsOfVersion, ShowsFirst, ShowsIn, ShowsLists}
use Rattle.bor_store_sql.specs.Found.{AnswersQuery, FindsRows, IsQuery, ReadsOnly}
use Rattle.bor_store_sql.proofs.Plain.{IsSelect, IsSelectBoth, is_query}

-- what a text shows of the last commit
abbrev pub Shows : List ℕ → Row → State → State → List Row → Type 0
Shows text params old new rows = (old.now ≡ old.committed) × Shown text params old new rows

pub settled_shown : (text : List ℕ) (params : Row) (old new : State) (settled : old.now ≡ old.committed) (result : Result (Vec Row Global) Error) → IfOk result (λ x. Shown text params old new x.items)
    → IfOk result (λ x. Shows text params old new x.items)
settled_shown text params old new settled result h = IfOk-weaker result (λ x. Shown text params old new x.items) (λ x. Shows text params old new x.items) (λ x shown. (settled, shown)) h

-- what is known is so where rows come
pub known : {X E P : Type 0} (result : Result X E) → P → IfOk result (λ x. P)
known result p = search rules

-- of a register that is shown in this way the query gives these rows
pub record Found (IsShown : Register → State → Type 0) (text : List ℕ) (params : Row) (rows_of : Register → List Row) : Type 1 where
  pub query : IsQuery text
  pub gives : (r : Register) (old new : State) (rows : List Row) → IsShown r old → Shows text params old new rows → rows ≡ rows_of r

-- the same rows in other words
pub found_as : {IsShown : Register → State → Type 0} {text : List ℕ} {params : Row} {rows_of other : Register → List Row} → Found IsShown text params rows_of → ((r : Register) (s : State) → IsShown r s → rows_of r ≡ other r) → Found IsShown text params other
found_as found same = record { query = found.query; gives = λ r old new rows shows h. found.gives r old new rows shows h ∙ same r old shows }

-- what is asked is found, if the query is given what it is said to be given
pub finds : {IsShown : Register → State → Type 0} {text : List ℕ} {params given : Row} {rows_of : Register → List Row} {old new : State} {result : Result (Vec Row Global) Error} → (IsQuery text → AnswersQuery text given old new result) → given ≡ params
    → Found IsShown text params rows_of → FindsRows IsShown old new result rows_of
finds {IsShown} {text} {params} {rows_of = rows_of} {old} {new} {result} answers is found = search rules

module _ (r : Register) (old new : State) (shows : ShowsIn r old) (settled : old.now ≡ old.committed) where
  pub has_now : Has (contents r) old.now
  has_now = subst (Has (contents r)) (sym settled) shows.has

  -- the rows are the query's answer
  pub answers : (text : List ℕ) (params : Row) (query : Query) → Asks text query → (rows : List Row) → Shown text params old new rows → IsAnswer query (overlay old.now.trees []) params rows
  answers text params query is rows h = (reads_as text params old new keep_schema has_now.schema (shows_rows query is.0) is.1 is.2 is.3 rows h).answer Null

-- ---- either version

pub lists_of : {t : Contents} {db : Database} → Has t db → HasLists t db
lists_of h = record { schema = inr h.schema; agents = h.agents; filings = h.filings; statements = h.statements; interests = h.interests; identifiers = h.identifiers }

pub lists_of_first : (r : Register) {db : Database} → HasFirst (first_contents r) db → HasLists (contents r) db
lists_of_first r h = record { schema = inl h.schema; agents = h.agents; filings = h.filings; statements = h.statements; interests = h.interests; identifiers = h.identifiers }

pub of_first : (r : Register) (s : State) → ShowsFirst r s → ShowsLists r s
of_first r s shows = record { has = lists_of_first r shows.has; stored = shows.stored }

pub of_now : (r : Register) (s : State) → ShowsIn r s → ShowsLists r s
of_now r s shows = record { has = lists_of shows.has; stored = shows.stored }

-- what is found of a register in either version is found of one in version 2
pub finds_now : {old new : State} {result : Result (Vec Row Global) Error} {rows_of : Register → List Row} → FindsRows ShowsLists old new result rows_of → FindsRows ShowsIn old new result rows_of
finds_now found = record { reads = found.reads; settled = found.settled; up = found.up; rows = λ clean r shows. found.rows clean r (of_now r _ shows) }

pub lists_now : (r : Register) (s : State) → ShowsLists r s → s.now ≡ s.committed → HasLists (contents r) s.now
lists_now r s shows settled = subst (HasLists (contents r)) (sym settled) shows.has

-- ---- the query that a text asks

-- of a register that is shown in this way the text asks this
pub record Asked (IsShown : Register → State → Type 0) (text : List ℕ) (query : Query) : Type 1 where
  pub is_query : IsQuery text
  pub lists : (r : Register) (s : State) → IsShown r s → ShowsLists r s
  pub answer : (r : Register) (old new : State) → IsShown r old → (params : Row) (rows : List Row) → Shows text params old new rows → IsAnswer query (overlay old.now.trees []) params rows

pub asked_now : {text : List ℕ} {query : Query} → IsSelect text query → Asked ShowsIn text query
asked_now {text} {query} is = record {
  is_query = is_query is;
  lists = of_now;
  answer = λ r old new shows params rows h. answers r old new shows h.0 text params query is.asks rows h.1;
}

pub asked_both : {text : List ℕ} {query : Query} → IsSelectBoth text query → Asked ShowsLists text query
asked_both {text} {query} is = record { is_query = is_query is.now; lists = λ r s shows. shows; answer = λ r old new shows params rows h. go old new params rows h.1 (subst IsOfVersion (ap (λ (db : Database). db.schema) (sym h.0)) shows.has.schema) }
  where
    go : (old new : State) (params : Row) (rows : List Row) → Shown text params old new rows → IsOfVersion old.now.schema → IsAnswer query (overlay old.now.trees []) params rows
    go old new params rows h (inl first) = (reads_as text params old new _ first (shows_rows query is.first.0) is.first.1 is.first.2 is.first.3 rows h).answer Null
    go old new params rows h (inr now) = (reads_as text params old new _ now (shows_rows query is.now.asks.0) is.now.asks.1 is.now.asks.2 is.now.asks.3 rows h).answer Null

-- ---- reads change nothing

pub nothing_read : {s : State} → ReadsOnly s s
nothing_read = record { mode = refl; clean = λ clean. clean; stops = λ clean trees left. left; began = λ clean. clean; kept = λ clean. refl }

pub read_on : {old mid new : State} → ReadsOnly old mid → ReadsOnly mid new → ReadsOnly old new
read_on first second = search rules
