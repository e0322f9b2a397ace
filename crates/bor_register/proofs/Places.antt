-- Where an agent stands among the members, and a filing among those of its agent.
use Rattle.std.proofs.Common.{◌≡◌, ℕ, suc, ◌+◌, ◌<◌, List, ◌∷◌, ◌++◌, length, take, drop, get_or, set, refl, ◌∙◌, sym, ap, arith, true}
use Rattle.std.specs.Prelude.{insert}
use Rattle.std.proofs.lemmas.List.{drop_more, set_split, get_or_default}
use Rattle.std.proofs.lemmas.Bool.Decides.{nat_tests}
use Rattle.bor_terms.specs.Texts.{is_same}
use Rattle.bor_register.specs.declared.member.Member.{Member}
use Rattle.bor_register.specs.declared.filing.AcceptedFiling.{AcceptedFiling}
use Rattle.bor_register.specs.Register.{is_enrolled, filings_of, with_filings, with_member, with_token}
use Rattle.bor_register.specs.Places.{IsPlace, IsPlaceFor}
use Rattle.bor_register.specs.Withdrawal.{as_withdrawn, with_withdrawn}

pub place_here : (name : List ℕ) (ms : List Member) (i : ℕ) (d : Member) → i < length ms → is_same (get_or ms i d).name name ≡ true →
    is_enrolled name (drop i ms) ≡ is_enrolled name ms → filings_of name (drop i ms) ≡ filings_of name ms →
    ((fs : List AcceptedFiling) → with_filings name fs ms ≡ take i ms ++ with_filings name fs (drop i ms))
    → ((token : List ℕ) → with_token name token ms ≡ take i ms ++ with_token name token (drop i ms)) → IsPlace name ms i
place_here name ms i d lt same enrolled own written renewed =
    let more = drop_more ms i d lt in
    let one : i + 1 ≡ suc i = omega arith in
    record {
      below = lt;
      enrolled = rw (← enrolled, more, same) refl;
      own = λ e. rw (← own, more, same) (ap (λ (m : Member). m.filings) (get_or_default ms i d e lt));
      written = λ e fs. rw (written fs, more, same, one) (
          sym (set_split ms i (record (get_or ms i d) { filings = fs }) lt) ∙ ap (λ (m : Member). set ms i (record m { filings = fs })) (get_or_default ms i d e lt));
      renewed = λ e token. rw (renewed token, more, same, one) (
          sym (set_split ms i (record (get_or ms i d) { token = token }) lt) ∙ ap (λ (m : Member). set ms i (record m { token = token })) (get_or_default ms i d e lt));
    }

pub inserted_at : (new : Member) (ms : List Member) (i : ℕ) → IsPlaceFor new.name ms i → with_member new ms ≡ insert ms i new
inserted_at new ms i place = place.inserted new refl

-- ---- a filing

withdrawn_head : (number : ℕ) (f : AcceptedFiling) (fs : List AcceptedFiling) → f.number ≡ number → with_withdrawn number (f ∷ fs) ≡ as_withdrawn f ∷ fs
withdrawn_head number f fs same = grind (arith, nat_tests)

-- the filing at an index is withdrawn where it is the one with the number and none before it has that number
pub withdrawn_here : (number : ℕ) (fs : List AcceptedFiling) (i : ℕ) (f : AcceptedFiling) → i < length fs → f ≡ get_or fs i f → f.number ≡ number →
    with_withdrawn number fs ≡ take i fs ++ with_withdrawn number (drop i fs) → set fs i (as_withdrawn f) ≡ with_withdrawn number fs
withdrawn_here number fs i f lt is same rest =
    let more = drop_more fs i f lt ∙ ap (λ g. g ∷ drop (i + 1) fs) (sym is) in
    let one : i + 1 ≡ suc i = omega arith in
    rw (rest, more, withdrawn_head number f (drop (i + 1) fs) same, one) (set_split fs i (as_withdrawn f) lt)
