-- A set beside a list, with the same elements.
use Rattle.std.proofs.Common.{◌≡◌, ◌↔◌, ◌++◌, ◌-◌, Some, ap, sym, refl, ◌∙◌, ℕ, true, false, cond, IsTrue, List, [], ◌∷◌, Contains, subst, inl, inr, arith, take, length, length-append}
use Rattle.std.specs.declared.cmp.Ordering.{Ordering}
use Rattle.std.specs.Ordering.{is_eq}
use Rattle.std.specs.Cmp.{IsTotalOrder}
use Rattle.std.specs.Prelude.{Result, Ok, Err, OnOk, OnErr, drop, slice_get}
use Rattle.std.specs.Result.{is_err}
use Rattle.std.specs.BTreeSet.{BTreeSet, contains}
use Rattle.std.proofs.lemmas.Map.Lookups.{CmpEqualImpliesEq}
use Rattle.std.proofs.lemmas.Bool.{cond_both}
use Rattle.std.proofs.lemmas.Map.Views.{btree_set_contains_iff, tells_apart}
use Rattle.std.proofs.lemmas.Option.{same_Some}
use Rattle.std.proofs.lemmas.List.{take_all, take-append-le}
use Rattle.std.proofs.lemmas.List.Elements.{Contains-append_left, Contains-push, Contains-push_cases}
use Rattle.bor_records.specs.Links.Growth.{AreGiven}
use Rattle.bor_records.proofs.OnLinks.Found.{cases, there}

-- the set has it
pub given_has : {X : Type 0} (cmp : X → X → Ordering) → IsTotalOrder cmp → CmpEqualImpliesEq cmp → (order : List X) (s : BTreeSet X) (m : X) → AreGiven order s.keys → IsTrue (contains cmp s m) ↔ Contains order m
given_has {X} cmp total exact order s m g =
    let k = btree_set_contains_iff total exact s m in
    ((λ t. (g m).1 (k.0 t)), (λ h. k.1 ((g m).0 h)))

-- the set has those behind the first
pub rest_has : {X : Type 0} (cmp : X → X → Ordering) → IsTotalOrder cmp → CmpEqualImpliesEq cmp → (order : List X) (s : BTreeSet X) (first m : X) → Some first ≡ slice_get order 0 → (first ≡ m → ⊥)
    → AreGiven (drop 1 order) s.keys → IsTrue (contains cmp s m) ↔ Contains order m
rest_has {X} cmp total exact [] s first m at other g = absurd cc
rest_has {X} cmp total exact (x ∷ order) s first m at other g =
    let k = given_has cmp total exact order s m g in (
      (λ t. there x order m (k.0 t)),
      (λ h. elim (cases x order m h) [ inl e ↦ absurd (other (same_Some first x at ∙ e)) | inr r ↦ k.1 r ]),
    )

-- one more in both
pub given_more : {X : Type 0} (cmp : X → X → Ordering) → IsTotalOrder cmp → CmpEqualImpliesEq cmp → (order : List X) (s n : BTreeSet X) (x : X) → AreGiven order s.keys
    → ((q : X) → contains cmp n q ≡ cond (is_eq (cmp x q)) true (contains cmp s q)) → contains cmp n x ≡ true
    → AreGiven (order ++ x ∷ []) n.keys
given_more {X} cmp total exact order s n x g updates added m = (
  (λ h. elim (Contains-push_cases order x m h) [
    | inl old ↦
        let was = (given_has cmp total exact order s m g).1 old in
        (btree_set_contains_iff total exact n m).0 (updates m ∙ cond_both (is_eq (cmp x m)) true (contains cmp s m) (λ t. t ≡ true) (λ is. refl) (λ other. was))
    | inr e ↦ subst (λ (y : X). Contains n.keys y) e ((btree_set_contains_iff total exact n x).0 added)
  ]),
  (λ h. cond_both (is_eq (cmp x m)) true (contains cmp s m) (λ t. t ≡ true → Contains (order ++ x ∷ []) m)
      (λ is t. subst (λ (y : X). Contains (order ++ x ∷ []) y) (tells_apart exact x m is) (Contains-push order x))
      (λ other t. Contains-append_left order (x ∷ []) m ((given_has cmp total exact order s m g).0 t)) (sym (updates m) ∙ (btree_set_contains_iff total exact n m).1 h)),
)

-- those behind the first, where there is one more
pub rest_begun : {X : Type 0} (order others : List X) (x : X) → length order ≡ 0 → AreGiven (drop 1 order) others → AreGiven (drop 1 (order ++ x ∷ [])) others
rest_begun [] others x empty g = g
rest_begun (y ∷ order) others x empty g = absurd (let no : ⊥ = omega (arith, empty) in no)

pub rest_more : {X : Type 0} (order : List X) (x : X) → (length order ≡ 0 → ⊥) → drop 1 order ++ x ∷ [] ≡ drop 1 (order ++ x ∷ [])
rest_more [] x some = absurd (some refl)
rest_more (y ∷ order) x some = refl

-- what a pop after a push leaves
pub popped : {X : Type 0} (order pushed left : List X) (x : X) (n : ℕ) → pushed ≡ order ++ x ∷ [] → n ≡ length pushed → left ≡ take (n - 1) pushed → left ≡ order
popped {X} order pushed left x n e len l =
    l ∙ ap (λ (k : ℕ). take k pushed) fewer ∙ ap (λ (xs : List X). take (length order) xs) e ∙ take-append-le (length order) order (x ∷ []) (omega arith) ∙ take_all (length order) order (omega arith)
  where
    fewer : n - 1 ≡ length order
    fewer = let z = ap (λ (xs : List X). length xs) e in omega (arith, length-append order (x ∷ []))

-- the same, where the set has another copy
pub given_copied : {X : Type 0} (cmp : X → X → Ordering) → IsTotalOrder cmp → CmpEqualImpliesEq cmp → (order : List X) (s n : BTreeSet X) (x y : X) → y ≡ x → AreGiven order s.keys
    → ((q : X) → contains cmp n q ≡ cond (is_eq (cmp y q)) true (contains cmp s q)) → contains cmp n y ≡ true
    → AreGiven (order ++ x ∷ []) n.keys
given_copied {X} cmp total exact order s n x y e g updates added =
    given_more cmp total exact order s n x g (λ q. subst (λ (z : X). contains cmp n q ≡ cond (is_eq (cmp z q)) true (contains cmp s q)) e (updates q))
    (subst (λ (z : X). contains cmp n z ≡ true) e added)

pub on_ok : {T E : Type 0} (r : Result T E) (P : Type 0) → is_err r ≡ false → OnOk r P → P
on_ok (Ok x) P h p = p
on_ok (Err x) P h p = absurd (cc)

pub on_err : {T E : Type 0} (r : Result T E) (P : Type 0) → is_err r ≡ true → OnErr r P → P
on_err (Ok x) P h p = absurd (cc)
on_err (Err x) P h p = p
