-- Where an agent stands among the members. Clauses of private functions alone cite it.
use Rattle.std.specs.Prelude.{◌≡◌, ℕ, ◌<◌, ◌≤◌, List, insert, length, slice_index_or, slice_set}
use Rattle.std.specs.Prelude.{true}
use Rattle.bor_register.specs.declared.member.Member.{Member}
use Rattle.bor_register.specs.declared.filing.AcceptedFiling.{AcceptedFiling}
use Rattle.bor_register.specs.Register.{is_enrolled, filings_of, with_filings, with_member}
use Rattle.bor_register.specs.Register.{with_token}

-- the agent stands at this index
pub record IsPlace (name : List ℕ) (ms : List Member) (i : ℕ) : Type 0 where
  pub below : i < length ms
  pub enrolled : is_enrolled name ms ≡ true
  pub own : (d : Member) → filings_of name ms ≡ (slice_index_or ms i d).filings
  pub written : (d : Member) (fs : List AcceptedFiling)
      → with_filings name fs ms ≡ slice_set ms i (record (slice_index_or ms i d) { filings = fs })
  pub renewed : (d : Member) (token : List ℕ)
      → with_token name token ms ≡ slice_set ms i (record (slice_index_or ms i d) { token = token })

-- a member of that name goes to this index
pub record IsPlaceFor (name : List ℕ) (ms : List Member) (i : ℕ) : Type 0 where
  pub within : i ≤ length ms
  pub inserted : (new : Member) → new.name ≡ name → with_member new ms ≡ insert ms i new
