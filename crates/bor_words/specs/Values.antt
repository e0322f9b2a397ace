-- The form of each word's value.
use Rattle.std.specs.Prelude.{◌&&◌, ℕ, List, [], ◌∷◌, Bool, not, Option, Some, None, codes, find}
use Rattle.std.specs.Prelude.{is_some, length, nat_le, nat_lt, option_map, if◌then◌else◌, false}
use Rattle.std.specs.Prelude.{true}
use Rattle.std.specs.Option.{option_map_or}
use Rattle.std.specs.List.{list_all}
use Rattle.std.specs.Char.{digit_value}
use Rattle.std.specs.Str.{bytes_eq}
use Rattle.std.specs.Str.Parse.{digits_value, without_leading_plus}
use Rattle.bor_terms.specs.Texts.{is_agent_name, is_ident, is_token}
use Rattle.bor_terms.specs.Day.{day_of}
use Rattle.clap.specs.Words.{Row, Text, first_of}
use Rattle.bor_words.specs.Words.{Entered, given}

-- ---- numbers

-- one digit or more, and nothing else
abbrev pub is_number_text : List ℕ → Bool
is_number_text digits = nat_lt 0 (length digits) && list_all (λ c. nat_lt (digit_value c) 10) digits

-- the number is from low to high
abbrev pub is_between : ℕ → ℕ → ℕ → Bool
is_between low high number = nat_le low number && nat_le number high

-- the number that a text spells in decimal digits, where it is from low to high; a plus may stand
-- first
unfoldable pub number_within : ℕ → ℕ → Text → Option ℕ
number_within low high text =
    let digits = without_leading_plus text in
    if is_number_text digits && is_between low high (digits_value 10 digits)
    then Some (digits_value 10 digits) else None

abbrev pub port_of : Text → Option ℕ
port_of text = number_within 1 65_535 text

abbrev pub connections_of : Text → Option ℕ
connections_of text = number_within 0 1_000_000 text

-- the megabytes that a register in memory may take; 256 where nothing is said
abbrev pub memory_of : Option Text → Option ℕ
memory_of None = Some 256
memory_of (Some text) = number_within 0 1_000_000 text

-- ---- the values behind each command

-- a word, and whether what is given for it fits
abbrev pub Value : Type 0
Value = Text × Bool

-- the registrar's token is given once: by itself, or by the file that has it
abbrev pub is_registrar : Option Text → Option Text → Bool
is_registrar (Some token) None = is_token token
is_registrar None (Some name) = true
is_registrar (Some token) (Some name) = false
is_registrar None None = false

-- of a register that is set up
abbrev pub init_values : List Row → List Value
init_values rows = (
  codes "registrar",
  is_registrar (first_of (codes "registrar") rows)
      (first_of (codes "registrar-file") rows),
)
    ∷ (codes "day", is_some (day_of (given (codes "day") rows))) ∷ []

abbrev pub exchange_values : List Row → List Value
exchange_values rows = init_values rows

abbrev pub serve_values : List Row → List Value
serve_values rows =
    (codes "port", is_some (port_of (given (codes "port") rows)))
    ∷ (codes "connections", is_some (connections_of (given (codes "connections") rows)))
    ∷ (codes "memory", is_some (memory_of (first_of (codes "memory") rows))) ∷ []

-- a date may be left out
abbrev pub is_date : Option Text → Bool
is_date date = option_map_or (λ text. is_some (day_of text)) date true

abbrev pub report_values : List Row → List Value
report_values rows =
    (codes "viewer", is_agent_name (given (codes "viewer") rows))
    ∷ (codes "agent", is_agent_name (given (codes "agent") rows))
    ∷ (codes "declaration", is_ident (given (codes "declaration") rows))
    ∷ (codes "record", is_ident (given (codes "record") rows))
    ∷ (codes "date", is_date (first_of (codes "date") rows)) ∷ []

abbrev pub values_behind : Text → List Row → List Value
values_behind name rows =
    if bytes_eq name (codes "exchange") then exchange_values rows
    else (if bytes_eq name (codes "serve") then serve_values rows
    else (if bytes_eq name (codes "report") then report_values rows
    else (if bytes_eq name (codes "init") then init_values rows else [])))

-- the values of the command that is entered
abbrev pub values_of : Entered → List Value
values_of entered = option_map_or (λ e. values_behind e.0 e.1) entered []

-- the first word whose value doesn't fit
abbrev pub first_unfit : List Value → Option Text
first_unfit values = option_map (λ v. v.0) (find (λ v. not v.1) values)
