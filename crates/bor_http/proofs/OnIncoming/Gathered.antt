-- The bytes that were read of a request say what the whole input is.
use Rattle.std.proofs.Common.{◌≡◌, ◌≤◌, ◌<◌, ◌↔◌, ◌-◌, ℕ, List, ◌++◌, length, Bool, true, false, Option, Some, None, IfSome, Result, Ok, Err, sym, ap, subst, ◌∙◌, arith, inl, inr, ◌+◌, append-nil, length-append}
use Rattle.std.specs.Io.KnownBytes.{Consumes}
use Rattle.std.proofs.KnownBytes.{Consumes-trans}
use Rattle.std.proofs.lemmas.Bool.{cases_lt, iff_false}
use Rattle.bor_http.specs.Incoming.Message.{request_limit}
use Rattle.bor_http.specs.declared.incoming.progress.Progress.{Progress}
use Rattle.bor_http.specs.Incoming.Progress.{IsProgress, IsWhole, needs}
use Rattle.bor_http.specs.Incoming.Refusals.{IsMessage}
use Rattle.bor_http.specs.Incoming.Reading.{IsLost, IsReadInPart, SaysAll, TakesAtMost, TakesPiece}
use Rattle.bor_http.specs.declared.incoming.fault.WireFault.{WireFault}
use Rattle.bor_http.specs.declared.incoming.fault.WireFault.TheVariants.{Refused, Read, Memory}
use Rattle.bor_http.proofs.OnIncoming.ProgressLemmas.{needs_within}
use Rattle.bor_http.proofs.OnIncoming.Laws.{message_follows}

-- what is whole is what it is, whatever follows
pub whole_says : (known left : Option (List ℕ)) (bytes : List ℕ) → Consumes known left bytes → IsWhole bytes → IfSome known (SaysAll bytes)
whole_says None left bytes h whole = tt
whole_says (Some input) None bytes h whole = absurd h
whole_says (Some input) (Some rest) bytes h whole =
    subst (SaysAll bytes) (sym h) (λ read is. message_follows bytes rest read (λ cut. whole (subst (IsMessage bytes) cut is)) is)

-- some are missing where a test of it fails
pub not_reached : (needed count len : ℕ) (is_whole : Bool) → ((is_whole ≡ true) ↔ (needed ≤ len)) → is_whole ≡ false → len ≡ count → count < needed
not_reached needed count len is_whole both isnt same = elim (cases_lt count needed) [
  | inl lt ↦ lt
  | inr le ↦ absurd (iff_false both isnt (omega (arith, le, same)))
]

-- and what is read is no more than that
pub read_fits : (received more : List ℕ) (progress : Progress) → IsProgress received progress → length received + length more ≤ needs progress
    → length (received ++ more) ≤ request_limit
read_fits received more progress known within = omega (arith, length-append received more, within, needs_within received progress known)

-- ---- one read more, where some of the request is missing

module _ (known held left : Option (List ℕ)) (received new : List ℕ) (progress : Progress) (wanted len : ℕ) (is_whole : Bool) (consumed : Consumes known held received) (so_far : IsProgress received progress)
    (whole : (is_whole ≡ true) ↔ (needs progress ≤ len)) (isnt : is_whole ≡ false) (same : len ≡ length received) (most : wanted ≤ needs progress - length received) where
  less : length received < needs progress
  less = not_reached (needs progress) (length received) len is_whole whole isnt same

  pub taken_more : (result : Result ℕ WireFault) → TakesPiece held left received new wanted result → TakesAtMost request_limit known left
  taken_more result piece = (
    received ++ piece.bytes,
    Consumes-trans known held left received piece.bytes consumed piece.consumed,
    read_fits received piece.bytes progress so_far (omega (arith, less, most, piece.within)),
  )

  pub come_more : (count : ℕ) → TakesPiece held left received new wanted (Ok count) → (length new ≤ request_limit) × Consumes known left new
  unfolding taken_more
  come_more count piece = let taken = taken_more (Ok count) piece in rw piece.came.0 (taken.2, taken.1)

  -- where the read failed, what came before is all that was given
  pub unread_more : (fault : WireFault) → (IsWhole received → needs progress ≤ length received) → TakesPiece held left received new wanted (Err fault) → IsReadInPart known left fault
  unread_more fault enough piece = unread fault piece.bytes piece.consumed piece.came
    where
      unread : (fault : WireFault) (bytes : List ℕ) → Consumes held left bytes → IsLost bytes fault → IsReadInPart known left fault
      unread (Refused why) bytes taken lost = absurd lost
      unread Read bytes taken lost = (
        received,
        subst (Consumes known left) (ap (λ more. received ++ more) lost ∙ append-nil received) (Consumes-trans known held left received bytes consumed taken),
        λ is. omega (arith, less, enough is),
      )
      unread Memory bytes taken lost = tt
