-- The tables while they are made, all without rows; for clauses of private functions alone.
use Rattle.std.specs.Prelude.{◌≡◌, [], Result}
use Rattle.std.specs.List.{AllByRecursion}
use Rattle.sqlite.specs.Effect.{Database}
use Rattle.sqlite.specs.Held.{Held, state}
use Rattle.sqlite.specs.Schema.{Schema}
use Rattle.sqlite.specs.State.{State}
use Rattle.sqlite.specs.Store.{Ghosts}
use Rattle.sqlite.specs.declared.error.Error.{Error}
use Rattle.bor_store_sql.specs.Ran.{MovesTo}
use Rattle.bor_store_sql.specs.Rows.Encoding.{Contents}

-- the schema is this one, and no table has a row
pub record IsBlank (schema : Schema) (db : Database) : Type 0 where
  pub is : db.schema ≡ schema
  pub empty : AllByRecursion (λ t. db.trees t.tree ≡ []) schema.tables

-- statements of a transaction lead from one kind of database to another
abbrev pub LeadsBetween : (Database → Type 0) → (Database → Type 0) → State → State
    → Result (Unit {0}) Error → Type 0
LeadsBetween before after old new result = MovesTo (λ was is. before was → after is) old new result

-- the same of a connection
abbrev pub Leads : {S : Type 0} → Ghosts S → Held S → Held S → Result (Unit {0}) Error
    → (Database → Type 0) → (Database → Type 0) → Type 0
Leads g old new result before after = LeadsBetween before after (state g old) (state g new) result

-- the contents of seven tables without rows
abbrev pub no_contents : Contents
no_contents =
    record {
      register = [];
      agents = [];
      filings = [];
      statements = [];
      interests = [];
      identifiers = [];
      periods = [];
    }
