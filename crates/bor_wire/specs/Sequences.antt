-- Exchanges one after the other, as a run.
use Rattle.bor_register.specs.declared.fault.StoreFault.{StoreFault}
use Rattle.std.specs.Prelude.{ℕ, List, [], ◌∷◌, filter, map, Bool, true, false}
use Rattle.std.specs.List.{AllZip}
use Rattle.bor_records.specs.Promises.{Leaves, Meaning, Promised}
use Rattle.bor_register.specs.Register.{Register}
use Rattle.bor_desk.specs.Operations.Legality.{IsLegal}
use Rattle.bor_wire.specs.Spelling.Spell.{Spelled, Spells}
use Rattle.bor_wire.specs.Sent.{Sent, Full, Unavailable, bytes_sent}
use Rattle.bor_wire.specs.Replays.{IsRunOver}
use Rattle.bor_wire.specs.Exchanges.{IsExchanged, ShowsAfter}

-- One exchange of a sequence: an input, its reply, and the keep that it left. One whose reader
-- failed is none: it left the keep.
pub record Exchanged (K : Type 0) : Type 0 where
  pub input : List ℕ
  pub reply : Sent
  pub keep : K

-- the keep that they leave
abbrev pub keep_left : {K : Type 0} → K → List (Exchanged K) → K
keep_left keep [] = keep
keep_left keep (e ∷ rest) = keep_left e.keep rest

-- One exchange more, from the keep that the one before it left.
pub record IsNext {K W : Type 0} (meaning : Meaning K Register W StoreFault) (keep : K)
    (e : Exchanged K) : Type 0 where
  -- where it ends clean it began clean, and a stop leaves what one before might have left, or the
  -- register after it
  pub leaves : Leaves meaning keep e.keep (ShowsAfter meaning.left_shows e.input)
  -- where it ends clean, and a legal register was shown, it is as the contract of `respond` says
  pub exchanged : Promised meaning keep e.keep
      (λ r. IsLegal r → IsExchanged (meaning.shows e.keep) r e.input e.reply)

-- each of them
abbrev pub AreExchanged : {K W : Type 0} → Meaning K Register W StoreFault → K
    → List (Exchanged K) → Type 0
AreExchanged meaning keep [] = Unit {0}
AreExchanged meaning keep (e ∷ rest) = IsNext meaning keep e × AreExchanged meaning e.keep rest

-- whether the input was answered: its reply isn't the one with 503
abbrev pub is_answered : Sent → Bool
is_answered (Full status bytes) = true
is_answered Unavailable = false

abbrev pub answered : {K : Type 0} → List (Exchanged K) → List (Exchanged K)
answered exchanges = filter (λ e. is_answered e.reply) exchanges

-- each input spells this
abbrev pub AreSpelledBy : {K : Type 0} → List (Exchanged K) → List Spelled → Type 0
AreSpelledBy exchanges spelled = AllZip (λ e s. Spells e.input s) exchanges spelled

-- the bytes of each reply
abbrev pub bytes_in : {K : Type 0} → List (Exchanged K) → List (List ℕ)
bytes_in exchanges = map (λ e. bytes_sent e.reply) exchanges

-- The exchanges that were answered are a run: over what their inputs spell, with what was sent.
pub record IsRun {K : Type 0} (Shown : Register → Type 0) (r : Register)
    (exchanges : List (Exchanged K)) : Type 0 where
  pub spelled : List Spelled
  pub spells : AreSpelledBy (answered exchanges) spelled
  pub over : IsRunOver Shown r spelled (bytes_in (answered exchanges))

-- Exchanges one after the other, from a keep of a legal register, are a run over what their inputs
-- spell.
abbrev pub ExchangesAreARun : {K W : Type 0} → Meaning K Register W StoreFault → Type 0
ExchangesAreARun {K} {W} meaning =
    (keep : K) (exchanges : List (Exchanged K))
    → AreExchanged meaning keep exchanges →
    Promised meaning keep (keep_left keep exchanges)
    (λ r. IsLegal r → IsRun (meaning.shows (keep_left keep exchanges)) r exchanges)
