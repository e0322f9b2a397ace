-- The reading of a file: no JSON, the first of its faults, or its statements.
use Rattle.std.specs.Prelude.{◌≡◌, ◌∷◌, [], ℕ, List, length, map, Option, Some, None, Result, Ok}
use Rattle.std.specs.Prelude.{Err, nat_lt, ◌==◌, if◌then◌else◌}
use Rattle.std.specs.Str.{is_utf8}
use Rattle.serde_json.specs.Data.{Data}
use Rattle.serde_json.specs.Read.{read}
use Rattle.bods_read.specs.declared.trouble.Trouble.{Trouble}
use Rattle.bods_read.specs.declared.trouble.Trouble.TheVariants as troubles
use Rattle.bods_read.specs.declared.fault.ReadFault.{ReadFault}
use Rattle.bods_read.specs.declared.fault.ReadFault.TheVariants.{File, Memory}
use Rattle.bods_read.specs.declared.fault.FileFault.{FileFault}
use Rattle.bods_read.specs.declared.fault.FileFault.TheVariants.{NotJson, NotAList, NoStatements}
use Rattle.bods_read.specs.declared.fault.FileFault.TheVariants.{TooMany, At}
use Rattle.bods_read.specs.declared.statement.Statement.{Statement}
use Rattle.bods_read.specs.Limits.{statements_limit}
use Rattle.bods_read.specs.Outcome.{outcome, lines_from}
use Rattle.bods_read.specs.Member.{items_in}
use Rattle.bods_read.specs.Statement.{statement_lines, statement_of}

-- ---- the faults

-- the lines about the statement at a place
abbrev pub lines_at : ℕ → Data → List FileFault
lines_at place d = map (λ fault. At place fault) (statement_lines d)

-- a file is a list of statements, at least one and at most the limit (this register's profile)
abbrev pub list_lines : Option (List Data) → List FileFault
list_lines None = NotAList ∷ []
list_lines (Some ds) =
    if length ds == 0 then NoStatements ∷ []
    else (if nat_lt statements_limit (length ds) then TooMany ∷ [] else lines_from lines_at 1 ds)

-- all lines that fail, in order; places count from 1
unfoldable pub faults : Data → List FileFault
faults d = list_lines (items_in d)

-- ---- the statements

-- the statements of a list, in order
abbrev pub statements_listed : Option (List Data) → List Statement
statements_listed None = []
statements_listed (Some ds) = map statement_of ds

-- the statements of a value
unfoldable pub statements : Data → List Statement
statements d = statements_listed (items_in d)

-- ---- reading

-- the value of the bytes, where they are JSON in UTF-8
unfoldable pub value_of : List ℕ → Option Data
value_of bytes = if is_utf8 bytes then read bytes else None

-- the first of the faults of a value, or its statements
unfoldable pub reading_of : Data → Result (List Statement) FileFault
reading_of d = outcome (faults d) (statements d)

-- without a value the bytes are no JSON
abbrev pub reading_in : Option Data → Result (List Statement) FileFault
reading_in None = Err NotJson
reading_in (Some d) = reading_of d

-- the reading of a file
unfoldable pub reading : List ℕ → Result (List Statement) FileFault
reading bytes = reading_in (value_of bytes)

-- a fault of the file that a reader returned is what reading gives; of want of memory nothing is
-- said
abbrev pub IsUnread : {Y : Type 0} → ReadFault → Result Y FileFault → Type 0
IsUnread (File fault) read = read ≡ Err fault
IsUnread Memory read = Unit {0}

-- the value that a reader returned, seen by view, is the reading
abbrev pub IsReadingBy : {X Y : Type 0} → (X → Y) → Result X ReadFault → Result Y FileFault → Type 0
IsReadingBy view (Ok x) read = read ≡ Ok (view x)
IsReadingBy view (Err why) read = IsUnread why read

-- ---- for clauses of private functions alone

-- why bytes have no value: memory was wanting, or they are no JSON
abbrev pub IsNoValue : Type 0 → ReadFault → Type 0
IsNoValue wanting (File fault) = ¬ wanting × (fault ≡ NotJson)
IsNoValue wanting Memory = wanting

-- the fault that is answered for a trouble with the statement at a place
abbrev pub fault_at : ℕ → Trouble → ReadFault
fault_at place troubles.Memory = Memory
fault_at place (troubles.Fault fault) = File (At place fault)
