-- The commands that words ask for.
use Rattle.std.specs.Prelude.{◌≡◌, ◌≢◌, ◌⊎◌, List, [], Option, Some, None, codes, map}
use Rattle.std.specs.Prelude.{option_and_then, option_map}
use Rattle.bor_terms.specs.Day.{day_of}
use Rattle.clap.specs.Words.{IsAmong, Row, Text, fault_of, first_of}
use Rattle.clap.specs.declared.error.kind.ErrorKind.{ErrorKind}
use Rattle.clap.specs.declared.error.kind.ErrorKind.TheVariants.{DisplayHelp}
use Rattle.bor_words.specs.declared.command.Command.{Command}
use Rattle.bor_words.specs.declared.command.Command.TheVariants as command
use Rattle.bor_words.specs.declared.exchange.Exchange.{Exchange}
use Rattle.bor_words.specs.declared.init.Init.{Init}
use Rattle.bor_words.specs.declared.migrate.Migrate.{Migrate}
use Rattle.bor_words.specs.declared.registrar.RegistrarSource.{RegistrarSource}
use Rattle.bor_words.specs.declared.registrar.RegistrarSource.TheVariants as registrar
use Rattle.bor_words.specs.declared.serve.Serve.{Serve}
use Rattle.bor_words.specs.declared.report.Report.{Report}
use Rattle.bor_words.specs.declared.source.Source.{Source}
use Rattle.bor_words.specs.declared.source.Source.TheVariants.{StandardInput, File}
use Rattle.bor_words.specs.Words.{Entered, bor_app, entered_by, file_at, files_named, found_behind}
use Rattle.bor_words.specs.Words.{given, is_set}
use Rattle.bor_words.specs.Values.{connections_of, first_unfit, memory_of, port_of, values_of}

-- ---- whether they ask for something

-- the words ask for a command: clap finds no fault in them, they don't ask for help, and each value
-- fits
abbrev pub IsCommand : List Text → Type 0
IsCommand words =
    (fault_of bor_app words ≡ []) × (first_unfit (values_of (entered_by words)) ≡ None)

-- the words may be answered by help
abbrev pub MayAskForHelp : List Text → Type 0
MayAskForHelp words = IsAmong DisplayHelp (fault_of bor_app words)

-- clap may find a fault in the words that isn't help, or it finds none and a value doesn't fit
abbrev pub IsWrong : List Text → Type 0
IsWrong words =
    ((kind : ErrorKind) × IsAmong kind (fault_of bor_app words) × (kind ≢ DisplayHelp))
    ⊎ ((fault_of bor_app words ≡ [])
    × ((word : Text) × (first_unfit (values_of (entered_by words)) ≡ Some word)))

-- ---- for what

-- the file that a check reads, unless it is standard input
abbrev pub name_of : Source → Option Text
name_of StandardInput = None
name_of (File name) = Some name.now

-- how a failure names it
abbrev pub source_text : Source → Text
source_text StandardInput = codes "standard input"
source_text (File name) = name.now

-- no other command is entered than check: that one, or none
abbrev pub EntersCheck : Entered → Type 0
EntersCheck entered =
    (found_behind (codes "exchange") entered ≡ None) × (found_behind (codes "serve") entered ≡ None)
    × (found_behind (codes "report") entered ≡ None)
    × (found_behind (codes "migrate") entered ≡ None)
    × (found_behind (codes "init") entered ≡ None)

-- the registrar's token as words give it: the token, or the name of the file that has it
abbrev pub IsRegistrar : List Row → RegistrarSource → Type 0
IsRegistrar rows (registrar.Token token) = Some token ≡ first_of (codes "registrar") rows
IsRegistrar rows (registrar.File name) = Some name.now ≡ first_of (codes "registrar-file") rows

-- the request for setting a register up
pub record IsInit (rows : List Row) (asked : Init) : Type 0 where
  pub db : asked.db.now ≡ given (codes "db") rows
  pub registrar : IsRegistrar rows asked.registrar
  pub day : Some asked.day ≡ day_of (given (codes "day") rows)

-- the request for an exchange
pub record IsExchange (rows : List Row) (asked : Exchange) : Type 0 where
  pub db : option_map (λ path. path.now) asked.db ≡ first_of (codes "db") rows
  pub registrar : IsRegistrar rows asked.registrar
  pub day : Some asked.day ≡ day_of (given (codes "day") rows)
  pub files : map (λ file. file.now) asked.files.items ≡ files_named rows

-- the request for a server
pub record IsServe (rows : List Row) (asked : Serve) : Type 0 where
  pub db : asked.db.now ≡ given (codes "db") rows
  pub port : Some asked.port ≡ port_of (given (codes "port") rows)
  pub connections : Some asked.connections ≡ connections_of (given (codes "connections") rows)
  pub memory : Some asked.memory ≡ memory_of (first_of (codes "memory") rows)
  pub log : asked.log ≡ is_set (codes "log") rows

-- the request for a report
pub record AsksReport (rows : List Row) (asked : Report) : Type 0 where
  pub db : asked.db.now ≡ given (codes "db") rows
  pub viewer : asked.viewer ≡ given (codes "viewer") rows
  pub agent : asked.agent ≡ given (codes "agent") rows
  pub declaration : asked.declaration ≡ given (codes "declaration") rows
  pub rec : asked.rec ≡ given (codes "record") rows
  pub date : asked.date ≡ option_and_then day_of (first_of (codes "date") rows)
  pub evidence : asked.evidence ≡ is_set (codes "evidence") rows

-- the request for a migration
pub record IsMigrate (rows : List Row) (asked : Migrate) : Type 0 where
  pub db : asked.db.now ≡ given (codes "db") rows

-- the command is what is asked for
abbrev pub IsAsked : Entered → Command → Type 0
IsAsked entered (command.Check source) = EntersCheck entered × (name_of source ≡ file_at entered)
IsAsked entered (command.Init asked) =
    (rows : List Row) × (found_behind (codes "init") entered ≡ Some rows) × IsInit rows asked
IsAsked entered (command.Exchange asked) =
    (rows : List Row) × (found_behind (codes "exchange") entered ≡ Some rows)
    × IsExchange rows asked
IsAsked entered (command.Serve asked) =
    (rows : List Row) × (found_behind (codes "serve") entered ≡ Some rows) × IsServe rows asked
IsAsked entered (command.Report asked) =
    (rows : List Row) × (found_behind (codes "report") entered ≡ Some rows) × AsksReport rows asked
IsAsked entered (command.Migrate asked) =
    (rows : List Row) × (found_behind (codes "migrate") entered ≡ Some rows) × IsMigrate rows asked
