-- The statements that are kept of a filing are its own: no other filing of its agent has its number.
use Rattle.std.proofs.Common.{◌≡◌, ◌⊎◌, inl, inr, ◌+◌, ◌==◌, ℕ, Bool, true, false, cond, List, [], ◌∷◌, append-nil, slice_get, Some, refl, sym, ap, subst, ◌∙◌, arith, ◌↔◌, IsTrue, flat_map}
use Rattle.std.proofs.lemmas.Option.{none-some, same_Some}
use Rattle.bods_read.specs.declared.statement.Statement.{Statement}
use Rattle.bor_register.specs.Register.{Register, filings_of}
use Rattle.bor_register.specs.declared.filing.AcceptedFiling.{AcceptedFiling}
use Rattle.bor_store_sql.specs.Rows.Stored.{AllNumbered, AreNumbered, IsStored}
use Rattle.bor_store_sql.specs.Fitting.{Fit, statements_kept}
use Rattle.bor_store_sql.specs.Selected.{numbered}
use Rattle.bor_store.specs.Migrating.{filed_at}
use Rattle.bor_store_sql.proofs.OnRows.Each.{none_numbered}
use Rattle.bor_store_sql.proofs.OnRows.Successors.{is_number}
use Rattle.bor_store_sql.proofs.StoredMembers.{numbered_of}

-- at most one has the number
abbrev IsAtMost : List AcceptedFiling → Type 0
IsAtMost fs = (fs ≡ []) ⊎ ((f : AcceptedFiling) × (fs ≡ f ∷ []))

one_numbered : (number n : ℕ) (fs : List AcceptedFiling) → AreNumbered n fs → IsAtMost (numbered number fs)
one_numbered number n [] h = inl refl
one_numbered number n (f ∷ fs) h = go (f.number == number) refl (one_numbered number (n + 1) fs h.1)
  where
    go : (b : Bool) → (f.number == number) ≡ b → IsAtMost (numbered number fs) → IsAtMost (cond b (f ∷ numbered number fs) (numbered number fs))
    go true e more =
        let is = h.0 in
        let same = is_number f.number number e in
        inr (f, ap (λ l. f ∷ l) (none_numbered number (n + 1) fs (omega (arith, is, same)) h.1))
    go false e more = more

pub kept_is : (agent : List ℕ) (number : ℕ) (r : Register) (f : AcceptedFiling) → AllNumbered r.members → filed_at agent number r.members ≡ Some f → statements_kept agent number r ≡ f.statements
kept_is agent number r f numbers found = elim (one_numbered number 1 (filings_of agent r.members) (numbered_of agent r.members numbers)) [
  | inl none ↦ absurd (none-some f (sym (ap (λ (l : List AcceptedFiling). slice_get l 0) none) ∙ found))
  | inr one ↦
      let is : one.0 ≡ f = same_Some one.0 f (sym (ap (λ (l : List AcceptedFiling). slice_get l 0) one.1) ∙ found) in
      ap (flat_map (λ (g : AcceptedFiling). g.statements)) one.1 ∙ append-nil one.0.statements ∙ ap (λ (g : AcceptedFiling). g.statements) is
]

-- whether the statements of a filing fit those that are kept of it, asked by the names that a call is given
pub fits_so : (agent name : List ℕ) (number : ℕ) (r : Register) (f : AcceptedFiling) (said given : List Statement) (b : Bool) → name ≡ agent → given ≡ said → IsStored r → filed_at agent number r.members ≡ Some f
    → IsTrue b ↔ Fit name number 1 given (statements_kept name number r) → IsTrue b ↔ Fit agent number 1 said f.statements
fits_so agent name number r f said given b same is stored found told =
    subst (λ ss. IsTrue b ↔ Fit agent number 1 said ss) (kept_is agent number r f stored.numbered found)
    (subst (λ ss. IsTrue b ↔ Fit agent number 1 ss (statements_kept agent number r)) is (subst (λ a. IsTrue b ↔ Fit a number 1 given (statements_kept a number r)) same told))
