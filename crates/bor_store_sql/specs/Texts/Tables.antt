-- The seven tables and their indexes, as SQL makes them. Those of version 1 are six: all but
-- `period`.
use Rattle.std.specs.Prelude.{true, false, [], ◌∷◌, None, codes, List, ℕ}
use Rattle.sqlite.specs.Collation.TheVariants.{Binary}
use Rattle.sqlite.specs.declared.types.Value.TheVariants.{Null}
use Rattle.sqlite.specs.Table.{Table}
use Rattle.sqlite.specs.Schema.{Schema}
use Rattle.sqlite.specs.Kind.{Kind}
use Rattle.sqlite.specs.Kind.TheVariants.{Integer, Text, Blob}
use Rattle.sqlite.specs.Change.{created, indexed}
use Rattle.sqlite_schema.specs.declared.schema.Column.{Column}
use Rattle.sqlite_schema.specs.declared.schema.Index.{Index}
use Rattle.sqlite_schema.specs.declared.schema.Reference.{Reference}
use Rattle.sqlite_schema.specs.declared.schema.Action.TheVariants.{NoAction}
use Rattle.sqlite_value.specs.Keys.{plain}

-- a column that is never null
abbrev pub needed : List ℕ → Kind → Column
needed name kind =
    record {
      name = name;
      kind = kind;
      is_strict = true;
      not_null = true;
      default = Null;
      collation = Binary;
    }

-- a column that may be null
abbrev pub may_have : List ℕ → Kind → Column
may_have name kind =
    record {
      name = name;
      kind = kind;
      is_strict = true;
      not_null = false;
      default = Null;
      collation = Binary;
    }

-- these columns are those of a row of another table
abbrev pub refers_to : List ℕ → List ℕ → List (List ℕ) → Reference
refers_to columns parent names =
    record {
      columns = columns;
      parent = parent;
      parent_columns = names;
      on_delete = NoAction;
      on_update = NoAction;
      is_deferred = false;
    }

abbrev pub register_table : Table
register_table = record {
  name = codes "register";
  tree = 0;
  columns = needed (codes "one") Integer ∷ needed (codes "version") Integer
      ∷ needed (codes "day") Integer ∷ needed (codes "registrar") Text ∷ [];
  key = None;
  primary = 1 ∷ [];
  uniques = (1 ∷ []) ∷ [];
  orders = plain ∷ [];
  checks = [];
  references = [];
  computed = [];
  stamps = record { places = []; terms = []; formats = [] };
  is_counted = false;
}

abbrev pub agent_table : Table
agent_table = record {
  name = codes "agent";
  tree = 0;
  columns = needed (codes "name") Text ∷ needed (codes "token") Text ∷ [];
  key = None;
  primary = 1 ∷ [];
  uniques = (1 ∷ []) ∷ (2 ∷ []) ∷ [];
  orders = plain ∷ plain ∷ [];
  checks = [];
  references = [];
  computed = [];
  stamps = record { places = []; terms = []; formats = [] };
  is_counted = false;
}

abbrev pub filing_table : Table
filing_table = record {
  name = codes "filing";
  tree = 0;
  columns = needed (codes "agent") Text ∷ needed (codes "number") Integer
      ∷ needed (codes "lodge_key") Text ∷ needed (codes "due") Integer
      ∷ needed (codes "withdrawn") Integer ∷ needed (codes "bytes") Blob ∷ [];
  key = None;
  primary = 1 ∷ 2 ∷ [];
  uniques = (1 ∷ 2 ∷ []) ∷ (1 ∷ 3 ∷ []) ∷ [];
  orders = plain ∷ plain ∷ [];
  checks = [];
  references = refers_to (1 ∷ []) (codes "agent") (codes "name" ∷ []) ∷ [];
  computed = [];
  stamps = record { places = []; terms = []; formats = [] };
  is_counted = false;
}

abbrev pub statement_table : Table
statement_table = record {
  name = codes "statement";
  tree = 0;
  columns = needed (codes "agent") Text ∷ needed (codes "filing") Integer
      ∷ needed (codes "place") Integer ∷ needed (codes "id") Text ∷ needed (codes "day") Integer
      ∷ needed (codes "declaration") Text ∷ needed (codes "rec") Text ∷ needed (codes "kind") Text
      ∷ needed (codes "status") Text ∷ may_have (codes "sub_kind") Text
      ∷ may_have (codes "name") Text
      ∷ may_have (codes "subject") Text ∷ may_have (codes "party") Text ∷ [];
  key = None;
  primary = 1 ∷ 2 ∷ 3 ∷ [];
  uniques = (1 ∷ 2 ∷ 3 ∷ []) ∷ (1 ∷ 4 ∷ []) ∷ [];
  orders = plain ∷ plain ∷ [];
  checks = [];
  references = refers_to (1 ∷ 2 ∷ []) (codes "filing") (codes "agent" ∷ codes "number" ∷ []) ∷ [];
  computed = [];
  stamps = record { places = []; terms = []; formats = [] };
  is_counted = false;
}

abbrev pub interest_table : Table
interest_table = record {
  name = codes "interest";
  tree = 0;
  columns = needed (codes "agent") Text ∷ needed (codes "filing") Integer
      ∷ needed (codes "place") Integer ∷ needed (codes "item") Integer ∷ needed (codes "kind") Text
      ∷ needed (codes "directness") Text ∷ may_have (codes "low") Integer
      ∷ may_have (codes "low_open") Integer ∷ may_have (codes "high") Integer
      ∷ may_have (codes "high_open") Integer ∷ [];
  key = None;
  primary = 1 ∷ 2 ∷ 3 ∷ 4 ∷ [];
  uniques = (1 ∷ 2 ∷ 3 ∷ 4 ∷ []) ∷ [];
  orders = plain ∷ [];
  checks = [];
  references = refers_to (1 ∷ 2 ∷ 3 ∷ []) (codes "statement")
      (codes "agent" ∷ codes "filing" ∷ codes "place" ∷ []) ∷ [];
  computed = [];
  stamps = record { places = []; terms = []; formats = [] };
  is_counted = false;
}

abbrev pub identifier_table : Table
identifier_table = record {
  name = codes "identifier";
  tree = 0;
  columns = needed (codes "agent") Text ∷ needed (codes "filing") Integer
      ∷ needed (codes "place") Integer ∷ needed (codes "item") Integer
      ∷ needed (codes "scheme") Text
      ∷ needed (codes "id") Text ∷ [];
  key = None;
  primary = 1 ∷ 2 ∷ 3 ∷ 4 ∷ [];
  uniques = (1 ∷ 2 ∷ 3 ∷ 4 ∷ []) ∷ [];
  orders = plain ∷ [];
  checks = [];
  references = refers_to (1 ∷ 2 ∷ 3 ∷ []) (codes "statement")
      (codes "agent" ∷ codes "filing" ∷ codes "place" ∷ []) ∷ [];
  computed = [];
  stamps = record { places = []; terms = []; formats = [] };
  is_counted = false;
}

abbrev pub period_table : Table
period_table = record {
  name = codes "period";
  tree = 0;
  columns = needed (codes "agent") Text ∷ needed (codes "filing") Integer
      ∷ needed (codes "place") Integer ∷ needed (codes "item") Integer
      ∷ may_have (codes "starts") Integer ∷ may_have (codes "ends") Integer ∷ [];
  key = None;
  primary = 1 ∷ 2 ∷ 3 ∷ 4 ∷ [];
  uniques = (1 ∷ 2 ∷ 3 ∷ 4 ∷ []) ∷ [];
  orders = plain ∷ [];
  checks = [];
  references = refers_to (1 ∷ 2 ∷ 3 ∷ 4 ∷ []) (codes "interest")
      (codes "agent" ∷ codes "filing" ∷ codes "place" ∷ codes "item" ∷ []) ∷ [];
  computed = [];
  stamps = record { places = []; terms = []; formats = [] };
  is_counted = false;
}

-- ---- the tables at their trees

abbrev pub register_at : Table
register_at = record register_table { tree = 0 }

abbrev pub agent_at : Table
agent_at = record agent_table { tree = 2 }

abbrev pub filing_at : Table
filing_at = record filing_table { tree = 5 }

abbrev pub statement_at : Table
statement_at = record statement_table { tree = 8 }

abbrev pub interest_at : Table
interest_at = record interest_table { tree = 11 }

abbrev pub identifier_at : Table
identifier_at = record identifier_table { tree = 13 }

abbrev pub period_at : Table
period_at = record period_table { tree = 19 }

-- ---- indexes beside those of the keys

abbrev pub plain_index : ℕ → List ℕ → List ℕ → Index
plain_index table name columns =
    record {
      name = name;
      tree = 0;
      table = table;
      columns = columns;
      order = plain;
      is_unique = false;
    }

abbrev pub record_index : Index
record_index = plain_index 8 (codes "statement_record") (1 ∷ 7 ∷ 6 ∷ 2 ∷ 3 ∷ [])

abbrev pub subject_index : Index
subject_index = plain_index 8 (codes "statement_subject") (1 ∷ 6 ∷ 12 ∷ [])

abbrev pub identifier_index : Index
identifier_index = plain_index 13 (codes "identifier_id") (5 ∷ 6 ∷ [])

abbrev pub line_index : Index
line_index = plain_index 5 (codes "filing_line") (1 ∷ 2 ∷ 3 ∷ 4 ∷ 5 ∷ [])

-- ---- the schema, as the statements make it one after the other

abbrev pub no_schema : Schema
no_schema = record { tables = []; indexes = []; views = [] }

-- the six tables of version 1
abbrev pub first_tables : Schema
first_tables =
    created (created (created (created (created (created no_schema register_table) agent_table)
    filing_table) statement_table) interest_table) identifier_table

-- the tables and indexes of a register in version 1
abbrev pub first_schema : Schema
first_schema =
    indexed (indexed (indexed (indexed first_tables statement_at record_index) statement_at
    subject_index) identifier_at identifier_index) filing_at line_index

-- the tables and indexes of a register
abbrev pub keep_schema : Schema
keep_schema = created first_schema period_table
