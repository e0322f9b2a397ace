-- How a text means a command, under the schema of the register's tables.
use Rattle.std.specs.Prelude.{◌≡◌, ℕ, List, false}
use Rattle.sqlite.specs.Command.{Command}
use Rattle.sqlite.specs.Listing.{understood, reads_listing}
use Rattle.sqlite.specs.Schema.{Schema}
use Rattle.sqlite.proofs.Callers.{IsPlain, command_of}
use Rattle.bor_store_sql.specs.Texts.Tables.{keep_schema}
use Rattle.sqlite.specs.Query.{Query}
use Rattle.bor_store_sql.specs.Texts.Queries.{shows_rows}

-- under a schema the text is one query, and this one, under whatever names; it reads no list of the
-- schema
abbrev pub AsksIn : Schema → List ℕ → Query → Type 0
AsksIn schema text query =
    (names : List (List ℕ)) × (command_of (understood schema text) ≡ shows_rows query names)
    × IsPlain (understood schema text) × (reads_listing schema text ≡ false)

abbrev pub Asks : List ℕ → Query → Type 0
Asks text query = AsksIn keep_schema text query

-- the text is one change, and this one
abbrev pub Does : List ℕ → Command → Type 0
Does text command =
    (command_of (understood keep_schema text) ≡ command) × IsPlain (understood keep_schema text)
