use Rattle.std.proofs.Common.{Bool, false, List, [], ◌∷◌, length, arith, sym, ap, inl, inr, length-append}
use Rattle.std.proofs.lemmas.List.Elements.{Contains-push_cases}
use Rattle.bor_records.proofs.OnLinks.Found.{none}
use Rattle.bor_chains.proofs.branches.none_of.Goals as goal

pub loop-init : goal.loop-init
loop-init c = record {
  long = ap (λ (xs : List Bool). length xs) c.in_ok-list.ensures.items;
  all = λ x h. absurd (none x (rw c.in_ok-list.ensures.items at h));
}

pub loop-preserved : goal.loop-preserved
loop-preserved c =
    let invariant = c.loop.invariant in
    let pushed = ap (λ (xs : List Bool). length xs) c.in_ok-push.ensures.items in
    let long = invariant.long in
    record {
      long = omega (arith, length-append c.loop.list.items (false ∷ []));
      all = λ x h. elim (Contains-push_cases c.loop.list.items false x (rw c.in_ok-push.ensures.items at h)) [
        | inl was ↦ invariant.all x was
        | inr new ↦ sym new
      ];
    }
