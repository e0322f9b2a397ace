use Rattle.std.proofs.Common.{◌≡◌, true, false, sym, ◌∙◌, inl, inr}
use Rattle.bor_chains.proofs.trail.Trail.mark_person.Goals as goal

pub returns-then-not-is_new-clause-gives : goal.returns-then-not-is_new-clause-gives
returns-then-not-is_new-clause-gives c = elim c.in_ok-is_new.ensures.is_new [
  | inl p ↦ let no : true ≡ false = sym p.0 ∙ c.if-not-is_new.true in absurd cc
  | inr q ↦ inl (
    rw c.in_ok-marked.ensures at q.1,
    λ i. record { marks = q.2 i; steps = c.args.self.now.steps },
  )
]

pub returns-clause-gives : goal.returns-clause-gives
returns-clause-gives c = elim c.in_ok-is_new.ensures.is_new [
  | inr q ↦ let no : false ≡ true = sym q.0 ∙ c.if-not-is_new.false in absurd cc
  | inl p ↦ inr (
    (λ h. p.1 (rw (← c.in_ok-marked.ensures) at h)),
    record { marks = simp c.in_ok-marked.ensures at c.in_ok-is_new.ensures.grown; steps = rw c.len.ensures at c.in_ok-fill.ensures },
  )
]
