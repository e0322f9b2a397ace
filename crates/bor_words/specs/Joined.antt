-- The words as clap takes them: a value that begins with a hyphen is joined with its option.
use Rattle.std.specs.Prelude.{◌&&◌, ◌==◌, ◌++◌, List, [], ◌∷◌, Bool, false, true, not, codes}
use Rattle.std.specs.Prelude.{if◌then◌else◌, slice_index}
use Rattle.std.specs.List.{before_first, list_any}
use Rattle.std.specs.Str.{bytes_eq}
use Rattle.clap.specs.Words.{Text}

-- ---- the options of a command

-- a word is among these
abbrev pub is_among : List Text → Text → Bool
is_among options word = list_any (λ option. bytes_eq word option) options

-- those that take a value, where a register is set up
abbrev pub setup_options : List Text
setup_options = codes "--db" ∷ codes "--registrar" ∷ codes "--registrar-file" ∷ codes "--day" ∷ []

-- of a server
abbrev pub serve_options : List Text
serve_options = codes "--db" ∷ codes "--port" ∷ codes "--connections" ∷ codes "--memory" ∷ []

-- of a report
abbrev pub report_options : List Text
report_options =
    codes "--db" ∷ codes "--viewer" ∷ codes "--agent" ∷ codes "--declaration" ∷ codes "--record"
    ∷ codes "--date" ∷ []

-- the word is an option of this command that takes a value
unfoldable pub takes_value : Text → Text → Bool
takes_value command word =
    if bytes_eq command (codes "init") then is_among setup_options word
    else (if bytes_eq command (codes "exchange") then is_among setup_options word
    else (if bytes_eq command (codes "serve") then is_among serve_options word
    else (if bytes_eq command (codes "report") then is_among report_options word
    else (if bytes_eq command (codes "migrate") then bytes_eq word (codes "--db") else false))))

-- the word is an option of this command that takes none
unfoldable pub is_flag : Text → Text → Bool
is_flag command word =
    if bytes_eq word (codes "-h") then true
    else (if bytes_eq word (codes "--help") then true
    else (if bytes_eq word (codes "--log") then bytes_eq command (codes "serve")
    else (if bytes_eq word (codes "--evidence") then bytes_eq command (codes "report") else false)))

-- ---- their values

-- the word begins with a hyphen, is not `--`, and what stands before its first `=` is no option of
-- the command
unfoldable pub is_value : Text → Text → Bool
is_value command word =
    let name = before_first (λ c. c == 61) word in
    slice_index word 0 == 45
    && (not (bytes_eq word (codes "--"))
    && (not (takes_value command name) && not (is_flag command name)))

-- the first of the words is such a value
abbrev pub begin_with_value : Text → List Text → Bool
begin_with_value command [] = false
begin_with_value command (word ∷ words) = is_value command word

-- an option, and the words behind it, of which the first is its value
abbrev pub with_value : Text → List Text → List Text
with_value option [] = option ∷ []
with_value option (value ∷ words) = (option ++ codes "=" ++ value) ∷ words

-- a word, the words behind it, and those as joined
abbrev pub joined_at : Text → Text → List Text → List Text → List Text
joined_at command word words joined =
    if bytes_eq word (codes "--") then word ∷ words
    else (if takes_value command word && begin_with_value command words then with_value word joined
    else word ∷ joined)

-- the words behind a command's name: an option's value that begins with a hyphen is joined with it
-- by `=`; behind `--` each word stays
abbrev pub joined_behind : Text → List Text → List Text
joined_behind command [] = []
joined_behind command (word ∷ words) = joined_at command word words (joined_behind command words)

-- the words behind the program's name
abbrev pub joined : List Text → List Text
joined [] = []
joined (command ∷ words) = command ∷ joined_behind command words
