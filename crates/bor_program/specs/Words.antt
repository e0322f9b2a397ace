-- The commands that words ask the program for.
use Rattle.std.specs.Prelude.{◌≡◌, List, Option, None}
use Rattle.clap.specs.Words.{Text}
use Rattle.bor_words.specs.Asked.{EntersCheck, IsCommand}
use Rattle.bor_words.specs.Words.{entered_by, file_at}

-- the file that the words name behind check
abbrev pub file_of : List Text → Option Text
file_of words = file_at (entered_by words)

-- the words ask for a check: by its name, or by no command at all
abbrev pub AsksForCheck : List Text → Type 0
AsksForCheck words = IsCommand words × EntersCheck (entered_by words)

-- the words ask for a check, and name no file: standard input is read
abbrev pub ChecksInput : List Text → Type 0
ChecksInput words = AsksForCheck words × (file_of words ≡ None)
