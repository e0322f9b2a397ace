-- The lines of a server's log, each for a request that was answered.
use Rattle.std.specs.Prelude.{◌≡◌, ◌⊎◌, ◌+◌, ◌/◌, ◌%◌, ◌++◌, ℕ, List, [], ◌∷◌, length, Option, Some}
use Rattle.std.specs.Prelude.{None, codes, decimal}
use Rattle.std.specs.Borrow.{Bor}
use Rattle.std.specs.Option.{option_map_or}
use Rattle.bor_terms.specs.Day.{day_text}
use Rattle.bor_terms.specs.declared.agent_name.NameForm.{NameForm}
use Rattle.bor_terms.specs.declared.text.Text.{Text}
use Rattle.bor_register.specs.Register.{Register}
use Rattle.bor_http.specs.declared.incoming.fault.Path.{Path}
use Rattle.bor_http.specs.Incoming.Splitting.{before_byte, behind_byte}
use Rattle.bor_http.specs.Incoming.Words.{path_word}
use Rattle.bor_http.specs.Routes.Paths.{path_spelled}
use Rattle.bor_http.specs.Routes.Routes.{route_line, route_at}
use Rattle.bor_wire.specs.Exchanges.{NamesWhoAsks}
use Rattle.bor_wire.specs.Sent.{Sent, bytes_sent, status_sent}
use Rattle.bor_program.specs.declared.log.Asked.{Asked}
use Rattle.bor_program.specs.declared.log.Asked.TheVariants as asked
use Rattle.bor_program.specs.declared.log.Entry.{Entry}
use Rattle.bor_program.specs.declared.log.Moment.{Moment}
use Rattle.bor_program.specs.declared.log.Note.{Note}

-- ---- the request

-- the request of a path by a method, as far as there are such
abbrev pub asked_at : Option Path → List ℕ → Asked
asked_at None method = asked.Nothing
asked_at (Some path) method = option_map_or asked.Route (route_at path method) (asked.Path path)

-- the request of the first line of an input: a method, a space, a target up to its question mark, a
-- space
unfoldable pub asked_of : List ℕ → Asked
asked_of input =
    let first = before_byte 10 input in
    asked_at (path_spelled (before_byte 63 (before_byte 32 (behind_byte 32 first))))
    (before_byte 32 first)

-- a hyphen stands for a value that isn't shown
abbrev pub untold : List ℕ
untold = codes "-"

abbrev pub method_word : Asked → List ℕ
method_word (asked.Route route) = (route_line route).method
method_word (asked.Path path) = untold
method_word asked.Nothing = untold

-- the path as the table of routes writes it, with {key} for a key and {name} for a name
abbrev pub asked_path_word : Asked → List ℕ
asked_path_word (asked.Route route) = path_word (route_line route).path
asked_path_word (asked.Path path) = path_word path
asked_path_word asked.Nothing = untold

-- ---- notes

-- A note of a request that had this reply: what it asks for, and the reply's status and bytes. The
-- agent is the one that has the token which the request spells, in the register as it was, and none
-- where no agent has it or no request is spelled; with 503 it may be none.
pub record IsNoteOf (promised : (Register → Type 0) → Type 0) (request : List ℕ) (out : Sent)
    (note : Note) : Type 0 where
  pub asked : note.asked ≡ asked_of request
  pub status : note.status ≡ status_sent out
  pub bytes : note.bytes ≡ length (bytes_sent out)
  pub agent : promised (λ r. NamesWhoAsks r request (record { agent = note.agent; reply = out }))

-- the notes are as they were, or with one more, of which P holds
abbrev pub MayNote : (Note → Type 0) → List Note → List Note → Type 0
MayNote P old new = (new ≡ old) ⊎ ((note : Note) × (new ≡ old ++ note ∷ []) × P note)

-- ---- when

-- two digits
abbrev pub pair : ℕ → List ℕ
pair number = (48 + number / 10 % 10) ∷ (48 + number % 10) ∷ []

-- so many seconds after midnight, as hours, minutes and seconds
abbrev pub clock_text : ℕ → List ℕ
clock_text second =
    pair (second / 3600) ++ codes ":" ++ pair (second / 60 % 60) ++ codes ":" ++ pair (second % 60)

-- day and time in UTC, as ISO 8601 has them
abbrev pub moment_text : Moment → List ℕ
moment_text at = day_text at.day ++ codes "T" ++ clock_text at.second ++ codes "Z"

-- ---- the line

abbrev pub asked_text : Asked → List ℕ
asked_text asked = method_word asked ++ codes " " ++ asked_path_word asked

abbrev pub numbers_text : ℕ → ℕ → ℕ → List ℕ
numbers_text status bytes millis =
    decimal status ++ codes " " ++ decimal bytes ++ codes " " ++ decimal millis

abbrev pub agent_shown : Option (Bor (Text NameForm)) → List ℕ
agent_shown agent = option_map_or (λ name. name.now) agent untold

-- when, what was asked for, the reply's status and bytes, milliseconds, and the agent
abbrev pub entry_line : Entry → List ℕ
entry_line entry =
    moment_text entry.at ++ codes " " ++ asked_text entry.asked ++ codes " "
    ++ numbers_text entry.status entry.bytes entry.millis
    ++ codes " " ++ agent_shown entry.agent ++ codes "\n"
