-- The members in the order of their names.
use Rattle.std.proofs.Common.{◌≡◌, ℕ, List, [], ◌∷◌, true, false, arith}
use Rattle.std.proofs.lemmas.Bool.{cond_both}
use Rattle.bor_terms.specs.Texts.{is_below, is_same}
use Rattle.bor_terms.proofs.Texts.{below_trans, above}
use Rattle.bor_register.specs.declared.member.Member.{Member}
use Rattle.bor_register.specs.declared.filing.AcceptedFiling.{AcceptedFiling}
use Rattle.bor_register.specs.Register.{is_enrolled, with_filings, with_member, with_token, AllAbove, IsOrdered}

above-with_member : (low : List ℕ) (new : Member) (ms : List Member) → is_below low new.name ≡ true → AllAbove low ms → AllAbove low (with_member new ms)
above-with_member low new [] lt h = (lt, tt)
above-with_member low new (m ∷ ms) lt h = cond_both (is_below m.name new.name) _ _ (AllAbove low) (λ e. (h.0, above-with_member low new ms lt h.1)) (λ e. (lt, h))

above-lower : (low name : List ℕ) (ms : List Member) → is_below low name ≡ true → AllAbove name ms → AllAbove low ms
above-lower low name [] lt h = tt
above-lower low name (m ∷ ms) lt h = (below_trans low name m.name lt h.0, above-lower low name ms lt h.1)

-- a member whose name is new goes to its place
pub ordered-with_member : (new : Member) (ms : List Member) → is_enrolled new.name ms ≡ false → IsOrdered ms → IsOrdered (with_member new ms)
ordered-with_member new [] fresh h = (tt, tt)
ordered-with_member new (m ∷ ms) fresh h = cond_both (is_below m.name new.name) _ _ IsOrdered
    (λ e. (above-with_member m.name new ms e h.0, ordered-with_member new ms (grind (arith, fresh)) h.1))
    (λ e. let lt = above m.name new.name e (grind (arith, fresh)) in ((lt, above-lower new.name m.name ms lt h.0), h))

-- ---- an agent's filings are written

above-with_filings : (low name : List ℕ) (fs : List AcceptedFiling) (ms : List Member) → AllAbove low ms → AllAbove low (with_filings name fs ms)
above-with_filings low name fs [] h = tt
above-with_filings low name fs (m ∷ ms) h = cond_both (is_same m.name name) _ _ (AllAbove low) (λ e. h) (λ e. (h.0, above-with_filings low name fs ms h.1))

pub ordered-with_filings : (name : List ℕ) (fs : List AcceptedFiling) (ms : List Member) → IsOrdered ms → IsOrdered (with_filings name fs ms)
ordered-with_filings name fs [] h = tt
ordered-with_filings name fs (m ∷ ms) h = cond_both (is_same m.name name) _ _ IsOrdered (λ e. h) (λ e. (above-with_filings m.name name fs ms h.0, ordered-with_filings name fs ms h.1))

-- ---- an agent's token is another

above-with_token : (low name token : List ℕ) (ms : List Member) → AllAbove low ms → AllAbove low (with_token name token ms)
above-with_token low name token [] h = tt
above-with_token low name token (m ∷ ms) h = cond_both (is_same m.name name) _ _ (AllAbove low) (λ e. h) (λ e. (h.0, above-with_token low name token ms h.1))

pub ordered-with_token : (name token : List ℕ) (ms : List Member) → IsOrdered ms → IsOrdered (with_token name token ms)
ordered-with_token name token [] h = tt
ordered-with_token name token (m ∷ ms) h = cond_both (is_same m.name name) _ _ IsOrdered (λ e. h) (λ e. (above-with_token m.name name token ms h.0, ordered-with_token name token ms h.1))
