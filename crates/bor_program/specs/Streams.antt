-- The bytes that are taken from an input and given to an output, where their bytes are known.
use Rattle.std.specs.Prelude.{◌≡◌, ◌≤◌, ◌+◌, ℕ, List, Option, IfSome, ◌++◌, length, take}
use Rattle.std.specs.Io.KnownBytes.{Appends, Consumes}
use Rattle.bor_desk.specs.Limits.{file_limit}

-- the bytes of a stream, where they are known
abbrev pub Known : Type 0
Known = Option (List ℕ)

-- The streams that a command writes to: the bytes on its output and on its errors, before it and
-- after it; and its exit status.
pub record Streams : Type 0 where
  pub output : Known
  pub printed : Known
  pub errors : Known
  pub told : Known
  pub status : ℕ

abbrev pub streams_of : (output printed errors told : Known) (status : ℕ) → Streams
streams_of output printed errors told status =
    record { output = output; printed = printed; errors = errors; told = told; status = status }

-- so many bytes of a file are read at most: one more than the greatest has that is taken
abbrev pub part_limit : ℕ
part_limit = file_limit + 1

-- as much of a file as is read
abbrev pub part_read : List ℕ → List ℕ
part_read bytes = take part_limit bytes

-- of known bytes that part was read, and no more
abbrev pub TakesPart : Option (List ℕ) → Option (List ℕ) → Type 0
TakesPart before after = IfSome before (λ bytes. Consumes before after (part_read bytes))

-- of known bytes no more was read than that part
abbrev pub TakesAtMostPart : Option (List ℕ) → Option (List ℕ) → Type 0
TakesAtMostPart before after =
    (front : List ℕ) × (length front ≤ part_limit) × Consumes before after front

-- the front of these bytes was written: all, some or none of them
abbrev pub AppendsPart : Option (List ℕ) → Option (List ℕ) → List ℕ → Type 0
AppendsPart before after bytes =
    (front : List ℕ) × (rest : List ℕ) × (bytes ≡ front ++ rest) × Appends before after front
