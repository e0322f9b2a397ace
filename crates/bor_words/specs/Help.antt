-- The text that is printed where words ask for help.
use Rattle.std.specs.Prelude.{List, [], ℕ, Option, Some, None, codes, if◌then◌else◌, slice_get}
use Rattle.std.specs.Prelude.{unwrap_or}
use Rattle.std.specs.Str.{bytes_eq}
use Rattle.clap.specs.Words.{Text}
use Rattle.bor_words.specs.declared.help.TheConstants.{HELP, CHECK_HELP, INIT_HELP, EXCHANGE_HELP}
use Rattle.bor_words.specs.declared.help.TheConstants.{SERVE_HELP, REPORT_HELP, MIGRATE_HELP}

-- the word in this place, from 0 on; nothing where there are fewer
abbrev pub word_at : List Text → ℕ → Text
word_at words place = unwrap_or (slice_get words place) []

-- the word that names what help is asked on: the first one, or the one behind `help`
abbrev pub topic_of : List Text → Text
topic_of words =
    if bytes_eq (word_at words 0) (codes "help") then word_at words 1 else word_at words 0

-- the page of the command of this name, where there is one
abbrev pub page_of : Text → Option Text
page_of topic =
    if bytes_eq topic (codes "check") then Some CHECK_HELP.now
    else (if bytes_eq topic (codes "init") then Some INIT_HELP.now
    else (if bytes_eq topic (codes "exchange") then Some EXCHANGE_HELP.now
    else (if bytes_eq topic (codes "serve") then Some SERVE_HELP.now
    else (if bytes_eq topic (codes "report") then Some REPORT_HELP.now
    else (if bytes_eq topic (codes "migrate") then Some MIGRATE_HELP.now else None)))))

-- the text that is printed where these words ask for help: the page of the command that they name
-- alone, and all pages where they name none
abbrev pub help_for : List Text → Text
help_for words = unwrap_or (page_of (topic_of words)) HELP.now
