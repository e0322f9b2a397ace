-- The answers of clap to no words, and to each command.
use Rattle.std.proofs.Common.{◌≡◌, ◌==◌, ℕ, Bool, List, [], ◌∷◌, ◌++◌, Option, Some, None, false, true, refl, codes, if◌then◌else◌}
use Rattle.std.specs.List.{list_all}
use Rattle.std.specs.Option.{option_map, option_map_or}
use Rattle.clap.proofs.OnLiterals.{clap_on_literals}
use Rattle.clap.specs.Words.{Rule, Shape, Text, fault_of, first_of}
use Rattle.bor_words.specs.Asked.{EntersCheck}
use Rattle.bor_words.specs.declared.help.TheConstants.{HELP, CHECK_HELP, INIT_HELP}
use Rattle.bor_words.specs.Help.{help_for}
use Rattle.bor_words.specs.Words.{bor_app, entered_by, file_at, found_behind, given, is_set}
use Rattle.bor_words.specs.Joined.{is_flag, is_value, joined, takes_value}
use Rattle.bor_words.specs.Values.{first_unfit, memory_of, number_within, values_of}

pub no_words : (fault_of bor_app [] ≡ []) × (entered_by [] ≡ None)
unfolding clap_on_literals
no_words = (refl, refl)

pub check_alone : EntersCheck (entered_by (codes "check" ∷ [])) × (file_at (entered_by (codes "check" ∷ [])) ≡ None)
unfolding clap_on_literals
check_alone = ((refl, refl, refl, refl, refl), refl)

pub check_of_a_file : file_at (entered_by (codes "check" ∷ codes "a.json" ∷ [])) ≡ Some (codes "a.json")
unfolding clap_on_literals
check_of_a_file = refl

-- a hyphen is standard input, and any other way to spell it a file
pub check_of_input : (fault_of bor_app (codes "check" ∷ codes "-" ∷ []) ≡ []) × (file_at (entered_by (codes "check" ∷ codes "-" ∷ [])) ≡ None)
    × (file_at (entered_by (codes "check" ∷ codes "./-" ∷ [])) ≡ Some (codes "./-"))
unfolding clap_on_literals
check_of_input = (refl, refl, refl)

-- the words of an exchange that tell the registrar's token so
abbrev pub exchange_with : List Text → List Text
exchange_with told = codes "exchange" ∷ (told ++ codes "--day" ∷ codes "2024-02-01" ∷ codes "a.http" ∷ [])

-- clap takes a token that is told not at all, or twice; what is told doesn't fit then
pub no_token : (fault_of bor_app (exchange_with []) ≡ []) × (first_unfit (values_of (entered_by (exchange_with []))) ≡ Some (codes "registrar"))
unfolding clap_on_literals
no_token = (refl, refl)

abbrev pub two_tokens : List Text
two_tokens = codes "--registrar" ∷ codes "registrar-token-0001" ∷ codes "--registrar-file" ∷ codes "token" ∷ []

pub told_twice : (fault_of bor_app (exchange_with two_tokens) ≡ []) × (first_unfit (values_of (entered_by (exchange_with two_tokens))) ≡ Some (codes "registrar"))
unfolding clap_on_literals
told_twice = (refl, refl)

-- a server logs where it is asked to
abbrev pub serve_with : List Text → List Text
serve_with told = codes "serve" ∷ codes "--db" ∷ codes "a" ∷ codes "--port" ∷ codes "80" ∷ codes "--connections" ∷ codes "1" ∷ told

abbrev pub logs : List Text → Option Bool
logs words = option_map (is_set (codes "log")) (found_behind (codes "serve") (entered_by words))

pub logs_where_asked : (logs (serve_with (codes "--log" ∷ [])) ≡ Some true) × (logs (serve_with []) ≡ Some false)
unfolding clap_on_literals
logs_where_asked = (refl, refl)

-- a report tells its links where it is asked to
abbrev pub report_with : List Text → List Text
report_with told = codes "report" ∷ codes "--db" ∷ codes "a" ∷ codes "--viewer" ∷ codes "alder" ∷ codes "--agent" ∷ codes "birch"
    ∷ codes "--declaration" ∷ codes "c1" ∷ codes "--record" ∷ codes "e1" ∷ told

abbrev pub tells_links : List Text → Option Bool
tells_links words = option_map (is_set (codes "evidence")) (found_behind (codes "report") (entered_by words))

pub links_where_asked : (tells_links (report_with (codes "--evidence" ∷ [])) ≡ Some true) × (tells_links (report_with []) ≡ Some false)
unfolding clap_on_literals
links_where_asked = (refl, refl)

-- what a server's register may take in memory
abbrev pub memory_told : List Text → Option (Option ℕ)
memory_told words = option_map (λ rows. memory_of (first_of (codes "memory") rows)) (found_behind (codes "serve") (entered_by words))

pub memory_where_told : (memory_told (serve_with (codes "--memory" ∷ codes "0" ∷ [])) ≡ Some (Some 0)) × (memory_told (serve_with []) ≡ Some (Some 256))
unfolding clap_on_literals number_within
memory_where_told = (refl, refl)

-- the page of the command that is named, and all of them where none is
pub pages : (help_for (codes "help" ∷ codes "check" ∷ []) ≡ CHECK_HELP.now) × (help_for (codes "init" ∷ codes "--help" ∷ []) ≡ INIT_HELP.now)
    × (help_for (codes "help" ∷ []) ≡ HELP.now) × (help_for (codes "-h" ∷ codes "check" ∷ []) ≡ HELP.now)
pages = (refl, refl, refl, refl)

-- ---- values that begin with a hyphen

-- clap's option is one that takes a value, or one that takes none, as it is joined
abbrev pub is_known : Text → Rule → Bool
is_known command rule =
    option_map_or (λ name. if rule.value_names == 1 then takes_value command (codes "--" ++ name) else is_flag command (codes "--" ++ name)) rule.long true

pub options_are_known : list_all (λ (shape : Shape). list_all (is_known shape.name) shape.rules) bor_app.subs ≡ true
unfolding takes_value is_flag
options_are_known = refl

-- a value is joined with its option, and behind `--` each word stays
pub values_join : joined (codes "report" ∷ codes "--record" ∷ codes "-x" ∷ codes "--date" ∷ codes "-1" ∷ codes "--" ∷ codes "--db" ∷ codes "-y" ∷ [])
    ≡ codes "report" ∷ codes "--record=-x" ∷ codes "--date=-1" ∷ codes "--" ∷ codes "--db" ∷ codes "-y" ∷ []
unfolding takes_value is_flag is_value
values_join = refl

-- a command's own options are no values, and an option without a value has none
abbrev pub options : List Text
options = codes "report" ∷ codes "--record" ∷ codes "--date" ∷ codes "2024-01-01" ∷ codes "--viewer" ∷ codes "--agent=a" ∷ codes "--db" ∷ codes "-h" ∷ codes "--evidence" ∷ codes "-x" ∷ []

pub options_stay : joined options ≡ options
unfolding takes_value is_flag is_value
options_stay = refl

-- the record that a report is asked of
abbrev pub record_told : List Text → Option Text
record_told words = option_map (given (codes "record")) (found_behind (codes "report") (entered_by (joined words)))

pub hyphen_is_told : record_told (codes "report" ∷ codes "--db" ∷ codes "a" ∷ codes "--viewer" ∷ codes "alder" ∷ codes "--agent" ∷ codes "birch"
    ∷ codes "--declaration" ∷ codes "c1" ∷ codes "--record" ∷ codes "-x" ∷ []) ≡ Some (codes "-x")
unfolding clap_on_literals takes_value is_flag is_value
hyphen_is_told = refl
