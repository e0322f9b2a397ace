-- Places that are taken, and left again.
use Rattle.std.proofs.Common.{◌≡◌, ◌≢◌, ◌+◌, ◌<◌, ℕ, List, [], ◌∷◌, ◌++◌, Bool, true, false, arith, ap, cond, get_or, length, refl, set, subst, suc, sym, zero, ◌∙◌, remove}
use Rattle.std.proofs.lemmas.List.{get_or-set_other, set_comm}
use Rattle.std.proofs.lemmas.List.Sums.{sum_by-cons}
use Rattle.bor_program.specs.declared.connections.server.Client.{Client}
use Rattle.bor_program.specs.Connections.Places.{is_place_taken, taken_in}
use Rattle.bor_program.specs.Connections.Servers.{AreSeated}

-- a place that was free, and is left, is as it was
pub set_back : (places : List Bool) (place : ℕ) → get_or places place false ≡ false → set (set places place true) place false ≡ places
set_back [] place free = refl
set_back (x ∷ rest) zero free = ap (λ y. y ∷ rest) (sym free)
set_back (x ∷ rest) (suc place) free = ap (λ l. x ∷ l) (set_back rest place free)

-- a place that is left is free
left_is_free : (taken : List Bool) (place : ℕ) → is_place_taken (set taken place false) place ≡ false
left_is_free [] place = refl
left_is_free (x ∷ rest) zero = refl
left_is_free (x ∷ rest) (suc place) = left_is_free rest place

-- and one less is taken
one_less : (taken : List Bool) (place : ℕ) → is_place_taken taken place ≡ true → taken_in (set taken place false) + 1 ≡ taken_in taken
one_less [] place is = cc
one_less (x ∷ rest) zero is =
    omega (arith, sum_by-cons (λ t. cond t 1 0) false rest, sum_by-cons (λ t. cond t 1 0) true rest, ap (λ t. taken_in (t ∷ rest)) is)
one_less (x ∷ rest) (suc place) is =
    omega (arith, sum_by-cons (λ t. cond t 1 0) x rest, sum_by-cons (λ t. cond t 1 0) x (set rest place false), one_less rest place is)

apart : (taken : List Bool) (one other : ℕ) → is_place_taken (set taken one false) other ≡ true → one ≢ other
apart taken one other is = λ same. let free = left_is_free taken one in cc (ap (λ place. is_place_taken (set taken one false) place) same)

-- ---- the places of clients

-- as many places are taken as there are clients
pub as_many : {S : Type 0} (taken : List Bool) (clients : List (Client S)) → AreSeated taken clients → taken_in taken ≡ length clients
as_many taken [] none = none
as_many taken (client ∷ rest) h =
    omega (arith, one_less taken client.place h.0, as_many (set taken client.place false) rest h.1)

-- the order of two clients is all the same
pub swapped : {S : Type 0} (taken : List Bool) (one two : Client S) (rest : List (Client S)) → AreSeated taken (one ∷ two ∷ rest) → AreSeated taken (two ∷ one ∷ rest)
swapped taken one two rest h =
    let other : one.place ≢ two.place = apart taken one.place two.place h.1.0 in (
      sym (get_or-set_other taken one.place two.place false false (λ is. other (sym is))) ∙ h.1.0,
      (
        get_or-set_other taken two.place one.place false false other ∙ h.0,
        subst (λ t. AreSeated t rest) (set_comm taken one.place two.place false false other) h.1.1,
      ),
    )

-- a client goes behind the others
pub seated_last : {S : Type 0} (taken : List Bool) (client : Client S) (rest : List (Client S)) → AreSeated taken (client ∷ rest) → AreSeated taken (rest ++ client ∷ [])
seated_last taken client [] h = h
seated_last taken client (next ∷ rest) h =
    let both = swapped taken client next rest h in
    (both.0, seated_last (set taken next.place false) client rest both.1)

-- or before them
pub seated_first : {S : Type 0} (taken : List Bool) (clients : List (Client S)) (i : ℕ) (client : Client S) → i < length clients → client ≡ get_or clients i client
    → AreSeated taken clients → AreSeated taken (client ∷ remove clients i)
seated_first taken [] i client lt is h = absurd (omega (arith, lt))
seated_first taken (c ∷ rest) zero client lt is h = subst (λ x. AreSeated taken (x ∷ rest)) (sym is) h
seated_first taken (c ∷ rest) (suc i) client lt is h =
    swapped taken c client (remove rest i) (h.0, seated_first (set taken c.place false) rest i client (omega (arith, lt)) is h.1)
