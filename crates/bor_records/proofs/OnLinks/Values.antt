-- Maps that have several values under a key, one value after the other.
use Rattle.std.proofs.Common.{◌≡◌, ◌⊎◌, ◌++◌, cond, Some, None, List, [], ◌∷◌, Contains, sym, ap, subst, inl, inr, arith}
use Rattle.std.specs.BTreeMap.{BTreeMap, get, is_at}
use Rattle.std.specs.Map.{lookup}
use Rattle.std.specs.Ordering.{is_eq}
use Rattle.std.specs.declared.cmp.Ordering.{Ordering}
use Rattle.std.proofs.lemmas.Bool.{cond_both}
use Rattle.std.proofs.lemmas.List.Elements.{Contains-append_left, Contains-push, Contains-push_cases}
use Rattle.std.proofs.lemmas.Map.Lookups.{CmpEqualImpliesEq}
use Rattle.std.proofs.lemmas.Map.Views.{tells_apart}
use Rattle.bor_records.specs.declared.links.node.Node.{Node}
use Rattle.bor_records.specs.declared.links.values.Values.{Values}
use Rattle.bor_records.specs.Links.Values.{values_in, values_under, under}

-- ---- no value

pub empty_under : {K X : Type 0} (cmp : K → K → Ordering) (m : BTreeMap K (Values X)) (k : K) → m.entries ≡ [] → under cmp m k ≡ []
empty_under {K} {X} cmp m k e = ap (λ (es : List (K × Values X)). values_under (lookup (is_at (cmp k)) es)) e

-- ---- one value

-- a value is put after those under a key
pub put_under : {K X : Type 0} (cmp : K → K → Ordering) (m less more : BTreeMap K (Values X)) (key : K) (new : Values X) (x : X) → values_in new ≡ under cmp m key ++ x ∷ []
    → ((q : K) → get cmp less q ≡ cond (is_eq (cmp key q)) None (get cmp m q))
    → ((q : K) → get cmp more q ≡ cond (is_eq (cmp key q)) (Some new) (get cmp less q))
    → (q : K) → under cmp more q ≡ cond (is_eq (cmp key q)) (under cmp m key ++ x ∷ []) (under cmp m q)
put_under cmp m less more key new x is removed put q = grind (arith, removed q, put q)

-- ---- nodes under keys

module _ {K : Type 0} (cmp : K → K → Ordering) (exact : CmpEqualImpliesEq cmp) where
  -- what one value more keeps
  pub stays_put : (key : K) (n : Node) (was now : K → List Node) → ((q : K) → now q ≡ cond (is_eq (cmp key q)) (was key ++ n ∷ []) (was q)) → (k : K) (m : Node) → Contains (was k) m → Contains (now k) m
  stays_put key n was now put k m h =
      subst (λ (ns : List Node). Contains ns m) (sym (put k)) (cond_both (is_eq (cmp key k)) (was key ++ n ∷ []) (was k) (λ ns. Contains ns m)
      (λ e. Contains-append_left (was key) (n ∷ []) m (subst (λ (z : K). Contains (was z) m) (sym (tells_apart exact key k e)) h)) (λ e. h))

  -- a key is put, and those before it are left
  pub put_there : (ks js : List K) (key : K) (n m : Node) (was now : K → List Node) → js ≡ ks ++ key ∷ [] → n ≡ m → now key ≡ was key ++ n ∷ []
      → ((q : K) → now q ≡ cond (is_eq (cmp key q)) (was key ++ n ∷ []) (was q))
      → (k : K) → Contains js k ⊎ Contains (was k) m → Contains ks k ⊎ Contains (now k) m
  put_there ks js key n m was now is same at put k (inr h) = inr (stays_put key n was now put k m h)
  put_there ks js key n m was now is same at put k (inl h) = elim (Contains-push_cases ks key k (subst (λ (xs : List K). Contains xs k) is h)) [
    | inl old ↦ inl old
    | inr e ↦ inr (subst (λ (z : K). Contains (now z) m) e (subst (λ (ns : List Node). Contains ns m) (sym at) (subst (λ (x : Node). Contains (was key ++ n ∷ []) x) same (Contains-push (was key) n))))
  ]

  -- what one value more adds
  pub only_put : (key : K) (n : Node) (was now : K → List Node) → ((q : K) → now q ≡ cond (is_eq (cmp key q)) (was key ++ n ∷ []) (was q)) → (k : K) (m : Node) → Contains (now k) m → Contains (was k) m ⊎ ((key ≡ k) × (m ≡ n))
  only_put key n was now put k m h =
      cond_both (is_eq (cmp key k)) (was key ++ n ∷ []) (was k) (λ ns. Contains ns m → Contains (was k) m ⊎ ((key ≡ k) × (m ≡ n)))
      (λ e on. elim (Contains-push_cases (was key) n m on) [
        | inl old ↦ inl (subst (λ (z : K). Contains (was z) m) (tells_apart exact key k e) old)
        | inr is ↦ inr (tells_apart exact key k e, sym is)
      ])
      (λ e on. inl on) (subst (λ (ns : List Node). Contains ns m) (put k) h)
