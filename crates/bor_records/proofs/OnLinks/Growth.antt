-- How a list grows at its end.
use Rattle.std.proofs.Common.{◌≡◌, ◌⊎◌, ◌+◌, ◌<◌, ◌++◌, ℕ, List, [], ◌∷◌, Contains, take, length, get_or, sym, refl, ap, ◌∙◌, subst, inl, inr, append_assoc}
use Rattle.std.proofs.lemmas.List.{append-nil}
use Rattle.std.proofs.lemmas.List.Elements.{Contains-append_left, Contains-append_cases, Contains-push, Contains-push_cases}
use Rattle.std.proofs.lemmas.List.{take_more}
use Rattle.bor_records.specs.Links.Growth.{Grown}
use Rattle.bor_records.proofs.OnLinks.Found.{none}

-- what a grown list keeps
pub kept : {X : Type 0} {P : X → Type 0} {old new : List X} → Grown P old new → (n : X) → Contains old n → Contains new n
kept {X} {old} {new} g n h = subst (λ (xs : List X). Contains xs n) (sym g.begins) (Contains-append_left old g.rest n h)

-- an element of a grown list was there, or is one of P
pub grown_cases : {X : Type 0} {P : X → Type 0} {old new : List X} → Grown P old new → (n : X) → Contains new n → Contains old n ⊎ P n
grown_cases {X} {P} {old} {new} g n h = elim (Contains-append_cases old g.rest n (subst (λ (xs : List X). Contains xs n) g.begins h)) [
  | inl a ↦ inl a
  | inr b ↦ inr (g.only n b)
]

pub grown_none : {X : Type 0} (P : X → Type 0) (xs : List X) → ((n : X) → P n → Contains xs n) → Grown P xs xs
grown_none P xs there = record {
  rest = [];
  begins = sym (append-nil xs);
  only = λ n h. absurd (none n h);
  every = there;
}

-- it was there
pub grown_there : {X : Type 0} (xs : List X) (x : X) → Contains xs x → Grown (λ n. n ≡ x) xs xs
grown_there {X} xs x h = grown_none (λ n. n ≡ x) xs (λ n e. subst (λ (y : X). Contains xs y) (sym e) h)

-- it was added
pub grown_push : {X : Type 0} (xs : List X) (x : X) → Grown (λ n. n ≡ x) xs (xs ++ x ∷ [])
grown_push {X} xs x = record {
  rest = x ∷ [];
  begins = refl;
  only = λ n h. elim (Contains-push_cases [] x n h) [ inl a ↦ absurd (none n a) | inr e ↦ sym e ];
  every = λ n e. subst (λ (y : X). Contains (xs ++ x ∷ []) y) (sym e) (Contains-push xs x);
}

-- one growth after another
pub grown_more : {X : Type 0} (P Q R : X → Type 0) (a b c : List X) → Grown P a b → Grown Q b c → ((n : X) → P n ⊎ Q n → R n) → ((n : X) → R n → P n ⊎ Q n) → Grown R a c
grown_more {X} P Q R a b c g h into from = record {
  rest = g.rest ++ h.rest;
  begins = h.begins ∙ ap (λ (xs : List X). xs ++ h.rest) g.begins ∙ append_assoc a g.rest h.rest;
  only = λ n k. elim (Contains-append_cases g.rest h.rest n k) [ inl i ↦ into n (inl (g.only n i)) | inr j ↦ into n (inr (h.only n j)) ];
  every = λ n r. elim (from n r) [ inl p ↦ kept h n (g.every n p) | inr q ↦ h.every n q ];
}

-- the same, said in other words
pub grown_like : {X : Type 0} (P R : X → Type 0) (a b : List X) → Grown P a b → ((n : X) → P n → R n) → ((n : X) → R n → P n) → Grown R a b
grown_like P R a b g into from = record {
  rest = g.rest;
  begins = g.begins;
  only = λ n k. into n (g.only n k);
  every = λ n r. g.every n (from n r);
}

-- the elements before i + 1 are those before i, and the one at i
pub Contains-take_more : {X : Type 0} (xs : List X) (i : ℕ) (d y : X) → i < length xs → Contains (take (i + 1) xs) y → Contains (take i xs) y ⊎ (y ≡ get_or xs i d)
Contains-take_more {X} xs i d y l h =
    elim (Contains-push_cases (take i xs) (get_or xs i d) y (subst (λ (zs : List X). Contains zs y) (take_more xs i d l) h)) [ inl a ↦ inl a | inr e ↦ inr (sym e) ]

pub Contains-take_front : {X : Type 0} (xs : List X) (i : ℕ) (d y : X) → i < length xs → Contains (take i xs) y → Contains (take (i + 1) xs) y
Contains-take_front {X} xs i d y l h = subst (λ (zs : List X). Contains zs y) (sym (take_more xs i d l)) (Contains-append_left (take i xs) (get_or xs i d ∷ []) y h)

pub Contains-take_last : {X : Type 0} (xs : List X) (i : ℕ) (d y : X) → i < length xs → y ≡ get_or xs i d → Contains (take (i + 1) xs) y
Contains-take_last {X} xs i d y l e =
    subst (λ (zs : List X). Contains zs y) (sym (take_more xs i d l)) (subst (λ (z : X). Contains (take i xs ++ get_or xs i d ∷ []) z) (sym e) (Contains-push (take i xs) (get_or xs i d)))
