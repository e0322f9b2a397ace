-- Laws of what stands once it is published, and of what the registrar is told.
use Rattle.std.specs.Prelude.{◌≡◌, ◌≢◌, ◌⊎◌, ℕ, int_le, List, [], ◌∷◌, filter, true, Some, None}
use Rattle.std.specs.Prelude.{Ok}
use Rattle.bor_register.specs.declared.caller.Caller.TheVariants.{Registrar, Agent}
use Rattle.bor_register.specs.declared.filing.AcceptedFiling.{AcceptedFiling}
use Rattle.bor_register.specs.Live.{live_of}
use Rattle.bor_register.specs.Publication.{is_published, published}
use Rattle.bor_register.specs.Register.{Register, caller_of, filings_of}
use Rattle.bor_desk.specs.declared.request.Request.{Request}
use Rattle.bor_desk.specs.Operations.Laws.{IsPrefix, agents_of, live_series}
use Rattle.bor_desk.specs.Operations.Legality.{IsLegal}
use Rattle.bor_desk.specs.Operations.Registrar.{renew_step}
use Rattle.bor_desk.specs.Runs.{Asked, register_after}
use Rattle.bor_desk.specs.Step.{step}

-- ---- what is published

-- the one list is the other with some elements left out
abbrev pub IsSublist : {X : Type 0} → List X → List X → Type 0
IsSublist [] ys = Unit {0}
IsSublist (x ∷ xs) [] = ⊥
IsSublist (x ∷ xs) (y ∷ ys) = ((x ≡ y) × IsSublist xs ys) ⊎ IsSublist (x ∷ xs) ys

-- the filings that the agent has published, in order of acceptance
abbrev pub published_by : List ℕ → Register → List AcceptedFiling
published_by name r = filter (is_published r.day) (filings_of name r.members)

-- The day doesn't go back. Each filing that an agent has published stays as it is, among those that
-- it has published later; a filing with a later due day may have been accepted before it. Of each
-- record, what is published later stands behind what was published.
pub record IsStanding (old new : Register) : Type 0 where
  pub day : int_le old.day new.day ≡ true
  pub filings : (name : List ℕ) → IsSublist (published_by name old) (published_by name new)
  pub records : (name declaration rec : List ℕ)
      → IsPrefix (live_series declaration rec (live_of (published_by name old)))
      (live_series declaration rec (live_of (published_by name new)))

-- What is published in a legal register stands after each run.
abbrev pub PublishedStays : Type 0
PublishedStays =
    (r : Register) (run : List Asked) → IsLegal r → IsStanding r (register_after r run)

-- ---- what the registrar is told

-- Two registers have the same day, the same tokens and agents, and the same published filings in
-- their outward forms.
pub record IsOutwardlySame (r q : Register) : Type 0 where
  pub day : r.day ≡ q.day
  pub registrar : r.registrar ≡ q.registrar
  pub agents : agents_of r.members ≡ agents_of q.members
  pub published : published r.day r.members ≡ published q.day q.members

-- Of two such registers the registrar is told the same: nothing of drafts, of withdrawn filings, of
-- keys, numbers or files.
abbrev pub RegistrarSeesNoDraft : Type 0
RegistrarSeesNoDraft =
    (r q : Register) (request : Request) → IsLegal r → IsLegal q → IsOutwardlySame r q
    → (step r (Some Registrar) request).answer ≡ (step q (Some Registrar) request).answer

-- ---- a token that is renewed

-- After a renewal the token is the agent's, and another one that it had is nobody's.
pub record TokenIsRenewed : Type 0 where
  pub opens : (r : Register) (name token : List ℕ) → IsLegal r →
      (renew_step r name token).answer ≡ Ok name
      → caller_of token (renew_step r name token).register ≡ Some (Agent name)
  pub closes : (r : Register) (name token old : List ℕ) → IsLegal r → old ≢ token →
      (renew_step r name token).answer ≡ Ok name → caller_of old r ≡ Some (Agent name)
      → caller_of old (renew_step r name token).register ≡ None
