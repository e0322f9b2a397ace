-- The registrar's token, in words or in a file.
use Rattle.std.specs.Prelude.{◌≡◌, ⊤, ℕ, List, Some, None}
use Rattle.std.specs.Borrow.{Bor}
use Rattle.clap.specs.Words.{Text}
use Rattle.bor_terms.specs.Texts.{is_token}
use Rattle.bor_wire.specs.Spelling.Parts.{text_in}
use Rattle.bor_words.specs.declared.registrar.RegistrarSource.{RegistrarSource}
use Rattle.bor_words.specs.declared.registrar.RegistrarSource.TheVariants as source
use Rattle.bor_words.specs.declared.source.Source.TheVariants.{File}
use Rattle.bor_program.specs.declared.failure.Failure.{Failure}
use Rattle.bor_program.specs.declared.failure.Failure.TheVariants.{Unreadable, NoToken, Memory}
use Rattle.bor_http.specs.Incoming.Splitting.{before_byte}

-- the first line: what stands before the first line feed or carriage return
abbrev pub first_line : List ℕ → List ℕ
first_line bytes = before_byte 13 (before_byte 10 bytes)

-- as many bytes are read of the file that has it: more than the longest token and the end of its
-- line
abbrev pub front_limit : ℕ
front_limit = 128

-- the words give this token: it is the one that they have, or the first line of the file that they
-- name
abbrev pub IsTokenOf : (ℕ → Bor Text → List ℕ → Type 0) → RegistrarSource → List ℕ → Type 0
IsTokenOf Reads (source.Token token) told = told ≡ token
IsTokenOf Reads (source.File name) told =
    (bytes : List ℕ) × Reads front_limit name bytes
    × (text_in is_token (first_line bytes) ≡ Some told)

-- the file that they name can't be read, or its first line is no token, or memory was wanting for
-- it
abbrev pub IsUntold : (ℕ → Bor Text → List ℕ → Type 0) → RegistrarSource → Failure → Type 0
IsUntold Reads (source.Token token) failure = ⊥
IsUntold Reads (source.File name) (Unreadable unread) = unread ≡ File name
IsUntold Reads (source.File name) (NoToken file) =
    (file ≡ name)
    × ((bytes : List ℕ) × Reads front_limit name bytes
    × (text_in is_token (first_line bytes) ≡ None))
IsUntold Reads (source.File name) Memory = ⊤
IsUntold Reads (source.File name) failure = ⊥
