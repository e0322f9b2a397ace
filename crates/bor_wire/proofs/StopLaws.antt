-- Laws of what a stop leaves.
use Rattle.bor_register.specs.declared.fault.StoreFault.{StoreFault}
use Rattle.bor_records.specs.Promises.{Meaning}
use Rattle.std.proofs.Common.{◌≡◌, ◌⊎◌, inl, inr, List, [], ◌∷◌, ◌++◌, append_assoc, append-nil, refl, sym, ap, subst, ◌∙◌}
use Rattle.bor_register.specs.Register.{Register}
use Rattle.bor_wire.specs.Exchanges.{ShowsAfter}
use Rattle.bor_wire.specs.Sequences.{AreExchanged, Exchanged, IsRun, keep_left}
use Rattle.bor_wire.specs.Stops.{AnswersLast, ShowsOrNext, StopsLeaveRuns}
use Rattle.bor_wire.proofs.TurnLaws.{answered_clean, fronts, left_more}

-- one exchange of these was the last that may have been made, from a clean keep
record IsStoppedAt {K W : Type 0} (meaning : Meaning K Register W StoreFault) (keep : K) (es : List (Exchanged K)) (found : W) : Type 0 where
  more : List (Exchanged K)
  e : Exchanged K
  later : List (Exchanged K)
  split : es ≡ more ++ e ∷ later
  clean : meaning.is_clean (keep_left keep more)
  made : (r : Register) → meaning.shows (keep_left keep more) r → ShowsAfter meaning.left_shows e.input r found

left_append : {K : Type 0} (keep : K) (front rest : List (Exchanged K)) → keep_left keep (front ++ rest) ≡ keep_left (keep_left keep front) rest
left_append keep [] rest = refl
left_append keep (e ∷ front) rest = left_append e.keep front rest

module _ {K W : Type 0} (meaning : Meaning K Register W StoreFault) where
  sound_before : (keep : K) (es : List (Exchanged K)) → AreExchanged meaning keep es → meaning.is_sound (keep_left keep es) → meaning.is_sound keep
  sound_before keep [] h sound = sound
  sound_before keep (e ∷ es) h sound = h.0.leaves.sound (sound_before e.keep es h.1 sound)

  rest_exchanged : (keep : K) (front rest : List (Exchanged K)) → AreExchanged meaning keep (front ++ rest)
      → AreExchanged meaning (keep_left keep front) rest
  rest_exchanged keep [] rest h = h
  rest_exchanged keep (e ∷ front) rest h = rest_exchanged e.keep front rest h.1

  -- what is found might have been left before all of them, or is of one of them
  stopped : (keep : K) (es : List (Exchanged K)) → AreExchanged meaning keep es → meaning.is_sound (keep_left keep es) → (found : W) → meaning.may_leave (keep_left keep es) found
      → meaning.may_leave keep found ⊎ IsStoppedAt meaning keep es found
  stopped keep [] h sound found may = inl may
  stopped keep (e ∷ es) h sound found may = elim (stopped e.keep es h.1 sound found may) [
    | inl was ↦ elim (h.0.leaves.stops (sound_before e.keep es h.1 sound) found was) [
      | inl before ↦ inl before
      | inr made ↦ inr (record { more = []; e = e; later = es; split = refl; clean = made.0; made = made.1 })
    ]
    | inr at ↦ inr (record { more = e ∷ at.more; e = at.e; later = at.later; split = ap (λ es. e ∷ es) at.split; clean = at.clean; made = at.made })
  ]

shown_next : {K W : Type 0} (left_shows : W → Register → Type 0) (found : W) (later : List (Exchanged K)) (r : Register) → left_shows found r → ShowsOrNext left_shows found later r
shown_next left_shows found [] r is = is
shown_next left_shows found (e ∷ later) r is = inl is

run_so : {K : Type 0} (Is IsSo : Register → Type 0) (r : Register) (es : List (Exchanged K)) → ((q : Register) → Is q → IsSo q) → IsRun Is r es → IsRun IsSo r es
run_so Is IsSo r es so run = record {
  spelled = run.spelled;
  spells = run.spells;
  over = record {
    replies = run.over.replies;
    left = so _ run.over.left;
    legal = run.over.legal;
    alone = run.over.alone;
    reports = run.over.reports;
    refused = run.over.refused;
  };
}

module _ {K W : Type 0} (meaning : Meaning K Register W StoreFault)
    (lasting : (k : K) → meaning.is_clean k → (found : W) → meaning.may_leave k found → (r : Register) → meaning.shows k r → meaning.left_shows found r) where
  pub stops : StopsLeaveRuns meaning
  stops keep done rest each clean sound r is legal found may =
      let at_done = keep_left keep done in
      let whole = left_append keep done rest in
      let after = rest_exchanged meaning keep done rest each in
      elim (stopped meaning at_done rest after (subst meaning.is_sound whole sound) found (subst (λ k. meaning.may_leave k found) whole may)) [
        | inl was ↦ record {
          more = [];
          later = rest;
          split = refl;
          clean = subst (λ es. meaning.is_clean (keep_left keep es)) (sym (append-nil done)) clean;
          run = subst (λ es. IsRun (ShowsOrNext meaning.left_shows found rest) r es) (sym (append-nil done))
              (run_so (meaning.shows at_done) (ShowsOrNext meaning.left_shows found rest) r done (λ q shown. shown_next meaning.left_shows found rest q (lasting at_done clean found was q shown))
              (fronts meaning keep done rest each r is clean legal));
        }
        | inr at ↦
            let here = left_append keep done at.more in
            let clean_here = subst meaning.is_clean (sym here) at.clean in
            record {
              more = at.more;
              later = at.e ∷ at.later;
              split = at.split;
              clean = clean_here;
              run = run_so (meaning.shows (keep_left keep (done ++ at.more))) (ShowsOrNext meaning.left_shows found (at.e ∷ at.later)) r (done ++ at.more)
                  (λ q shown. inr (at.made q (subst (λ k. meaning.shows k q) here shown)))
                  (fronts meaning keep (done ++ at.more) (at.e ∷ at.later)
                  (subst (AreExchanged meaning keep) (ap (λ es. done ++ es) at.split ∙ sym (append_assoc done at.more (at.e ∷ at.later))) each) r is clean_here legal);
            }
      ]

  pub answers_last : AnswersLast meaning
  answers_last keep front e rest each up answered sound r is legal found may =
      let same = sym (append_assoc front (e ∷ []) rest) in
      let each_so = subst (AreExchanged meaning keep) same each in
      let sound_so = subst (λ es. meaning.is_sound (keep_left keep es)) same sound in
      let after = rest_exchanged meaning keep (front ++ e ∷ []) rest each_so in
      let whole = left_append keep (front ++ e ∷ []) rest in
      let at_e = sound_before meaning (keep_left keep (front ++ e ∷ [])) rest after (subst meaning.is_sound whole sound_so) in
      let last = left_more keep front e in
      let clean = subst meaning.is_clean (sym last) (answered_clean meaning e up answered (subst meaning.is_sound last at_e)) in
      stops keep (front ++ e ∷ []) rest each_so clean sound_so r is legal found (subst (λ es. meaning.may_leave (keep_left keep es) found) same may)
