-- Laws of the members of a register.
use Rattle.std.proofs.Common.{◌≡◌, ℕ, List, [], ◌∷◌, length, refl, arith, false, true}
use Rattle.bor_terms.specs.Texts.{is_same}
use Rattle.bor_terms.proofs.Texts.{same_is}
use Rattle.bor_register.specs.declared.member.Member.{Member}
use Rattle.bor_register.specs.declared.filing.AcceptedFiling.{AcceptedFiling}
use Rattle.bor_register.specs.Register.{is_enrolled, filings_of, with_filings, with_token}

-- to write an agent's filings back changes nothing
pub with_filings_same : (name : List ℕ) (ms : List Member) → with_filings name (filings_of name ms) ms ≡ ms
with_filings_same name [] = refl
with_filings_same name (m ∷ ms) = grind (arith, with_filings_same name ms)

-- an agent that isn't enrolled has no filings to be written
pub with_filings_absent : (name : List ℕ) (fs : List AcceptedFiling) (ms : List Member) → is_enrolled name ms ≡ false → with_filings name fs ms ≡ ms
with_filings_absent name fs [] h = refl
with_filings_absent name fs (m ∷ ms) h = grind (arith, with_filings_absent name fs ms)

-- an agent that isn't enrolled has no token to be changed
pub with_token_absent : (name token : List ℕ) (ms : List Member) → is_enrolled name ms ≡ false → with_token name token ms ≡ ms
with_token_absent name token [] h = refl
with_token_absent name token (m ∷ ms) h = grind (arith, with_token_absent name token ms)

-- ---- the filings of one agent, once some agent's are written

pub filings_absent : (name : List ℕ) (ms : List Member) → is_enrolled name ms ≡ false → filings_of name ms ≡ []
filings_absent name [] h = refl
filings_absent name (m ∷ ms) h = grind (arith, filings_absent name ms)

pub filings_written : (name : List ℕ) (fs : List AcceptedFiling) (ms : List Member) → is_enrolled name ms ≡ true → filings_of name (with_filings name fs ms) ≡ fs
filings_written name fs [] h = absurd cc
filings_written name fs (m ∷ ms) h = grind (arith, filings_written name fs ms)

pub other_filings : (name other : List ℕ) (fs : List AcceptedFiling) (ms : List Member) → is_same name other ≡ false → filings_of other (with_filings name fs ms) ≡ filings_of other ms
other_filings name other fs [] h = refl
other_filings name other fs (m ∷ ms) h = grind (arith, other_filings name other fs ms h, same_is m.name name)

pub long-with_filings : (name : List ℕ) (fs : List AcceptedFiling) (ms : List Member) → length (with_filings name fs ms) ≡ length ms
long-with_filings name fs [] = refl
long-with_filings name fs (m ∷ ms) = grind (arith, long-with_filings name fs ms)

-- ---- an agent's token is another

pub filings-with_token : (name agent token : List ℕ) (ms : List Member) → filings_of name (with_token agent token ms) ≡ filings_of name ms
filings-with_token name agent token [] = refl
filings-with_token name agent token (m ∷ ms) = grind (arith, filings-with_token name agent token ms)

pub long-with_token : (name token : List ℕ) (ms : List Member) → length (with_token name token ms) ≡ length ms
long-with_token name token [] = refl
long-with_token name token (m ∷ ms) = grind (arith, long-with_token name token ms)
