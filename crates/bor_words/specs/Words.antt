-- The words that the program takes, as clap sees them.
use Rattle.std.specs.Prelude.{Bool, List, [], Option, Some, None, false, true, codes}
use Rattle.std.specs.Prelude.{option_and_then, unwrap_or, if◌then◌else◌}
use Rattle.std.specs.Option.{option_map_or}
use Rattle.std.specs.Str.{bytes_eq}
use Rattle.clap.specs.Words.{App, Row, Rule, Text, all_of, first_of, new_app, new_rule}
use Rattle.clap.specs.Words.{subcommand_of, with_rule, with_subcommand}
use Rattle.clap.specs.declared.builder.action.ArgAction.TheVariants.{Append, SetTrue}

-- ---- the words that clap is given

-- `--NAME VALUE`, which may be left out
abbrev pub option_rule : Text → Rule
option_rule name = record (new_rule name) { long = Some name; value_names = 1 }

-- `--NAME VALUE`, which has to be there
abbrev pub required_rule : Text → Rule
required_rule name = record (option_rule name) { required = true }

-- `--NAME`, which takes no value
abbrev pub flag_rule : Text → Rule
flag_rule name = record (new_rule name) { long = Some name; action = Some SetTrue }

-- one file or more
abbrev pub files_rule : Rule
files_rule = record (new_rule (codes "FILE")) { action = Some Append; required = true }

abbrev pub check_app : App
check_app = with_rule (new_app (codes "check")) (new_rule (codes "FILE"))

-- the words that a register is set up by beside its file: the registrar's token, by itself or by
-- the file that has it, and the day
abbrev pub with_setup : App → App
with_setup a =
    with_rule (with_rule (with_rule a (option_rule (codes "registrar")))
    (option_rule (codes "registrar-file"))) (required_rule (codes "day"))

-- a register that is set up
abbrev pub init_app : App
init_app = with_setup (with_rule (new_app (codes "init")) (required_rule (codes "db")))

abbrev pub exchange_app : App
exchange_app =
    with_rule
    (with_setup (with_rule (new_app (codes "exchange")) (option_rule (codes "db")))) files_rule

abbrev pub serve_app : App
serve_app =
    with_rule (with_rule (with_rule (with_rule (with_rule (new_app (codes "serve"))
    (required_rule (codes "db"))) (required_rule (codes "port")))
    (required_rule (codes "connections"))) (option_rule (codes "memory"))) (flag_rule (codes "log"))

-- which entity: who lodged it, in which declaration, as which record
abbrev pub with_entity : App → App
with_entity a =
    with_rule (with_rule (with_rule a (required_rule (codes "agent")))
    (required_rule (codes "declaration"))) (required_rule (codes "record"))

-- whose chains, seen by whom, on which day, and whether with their links
abbrev pub report_app : App
report_app =
    with_rule (with_rule (with_entity (with_rule (with_rule (new_app (codes "report"))
    (required_rule (codes "db"))) (required_rule (codes "viewer"))))
    (option_rule (codes "date"))) (flag_rule (codes "evidence"))

abbrev pub migrate_app : App
migrate_app = with_rule (new_app (codes "migrate")) (required_rule (codes "db"))

-- the words begin after the program's name
abbrev pub without_name : App → App
without_name a = record a { top = record a.top { no_binary_name = true } }

abbrev pub bor_app : App
bor_app =
    with_subcommand (with_subcommand (with_subcommand (with_subcommand
    (with_subcommand (with_subcommand (without_name (new_app (codes "bor"))) check_app.top)
    init_app.top) exchange_app.top) serve_app.top) report_app.top) migrate_app.top

-- ---- the words that clap finds

-- the command that words enter, by its name, with what is found behind it
abbrev pub Entered : Type 0
Entered = Option (Text × List Row)

abbrev pub entered_by : List Text → Entered
entered_by words = subcommand_of bor_app words

-- the words that are found behind the command that is entered
abbrev pub entered_rows : Entered → List Row
entered_rows entered = option_map_or (λ e. e.1) entered []

-- the words that are found behind the command of this name, where it is entered
abbrev pub found_behind : Text → Entered → Option (List Row)
found_behind name entered =
    option_and_then (λ e. if bytes_eq e.0 name then Some e.1 else None) entered

-- the value of a word; nothing where it is left out
abbrev pub given : Text → List Row → Text
given word rows = unwrap_or (first_of word rows) []

-- whether a word that takes no value is given
abbrev pub is_set : Text → List Row → Bool
is_set word rows = option_map_or (λ text. bytes_eq text (codes "true")) (first_of word rows) false

-- the files that are named
abbrev pub files_named : List Row → List Text
files_named rows = unwrap_or (all_of (codes "FILE") rows) []

-- the source that is named behind check
abbrev pub name_at : Entered → Option Text
name_at entered = option_and_then (first_of (codes "FILE")) (found_behind (codes "check") entered)

-- the file that a name stands for; a hyphen stands for none, but for standard input
abbrev pub file_named : Text → Option Text
file_named name = if bytes_eq name (codes "-") then None else Some name

-- the file that is named behind check
abbrev pub file_at : Entered → Option Text
file_at entered = option_and_then file_named (name_at entered)
