-- The places of clients: who has one, and at which something may be read or written.
use Rattle.std.specs.Prelude.{◌≡◌, ◌<◌, ℕ, List, Bool, true, false, count_by, get_or, set}
use Rattle.bor_program.specs.declared.connections.watch.Places.{Places}

-- so many clients have a place at once
abbrev pub place_count : ℕ
place_count = 256

-- a client has this place
abbrev pub is_place_taken : List Bool → ℕ → Bool
is_place_taken taken place = get_or taken place false

-- something may be read or written at this place
abbrev pub is_ready : Places → ℕ → Bool
is_ready places place = get_or places.ready place false

-- so many places are taken
abbrev pub taken_in : List Bool → ℕ
taken_in taken = count_by (λ is_taken. is_taken) taken

-- This place was free, and is taken. The others are as they were.
pub record Takes (old : List Bool) (place : ℕ) (new : List Bool) : Type 0 where
  pub there : place < place_count
  pub free : is_place_taken old place ≡ false
  pub has : is_place_taken new place ≡ true
  pub taken : new ≡ set old place true
