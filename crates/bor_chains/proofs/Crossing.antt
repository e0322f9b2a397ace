-- One mark of a level after another.
use Rattle.std.proofs.Common.{◌≡◌, ◌⊎◌, ◌+◌, ◌<◌, ◌≤◌, ◌++◌, ℕ, List, [], ◌∷◌, Contains, take, drop, length, get_or, sym, ap, ◌∙◌, subst, inl, inr, arith}
use Rattle.std.proofs.lemmas.List.{take_more, drop-append-le, length-drop, length-take, length-take-le}
use Rattle.std.proofs.lemmas.List.Elements.{Contains-append_left, Contains-push, Contains-push_cases}
use Rattle.std.proofs.Math.ListN.{get_or-append}
use Rattle.bor_chains.specs.declared.marks.Marked.{Marked}
use Rattle.bor_chains.specs.declared.walk.Walk.{Walk}
use Rattle.bor_records.specs.Links.Shown.{Shown}
use Rattle.bor_chains.specs.Marks.{LeadsByLink, Names}
use Rattle.bor_chains.specs.Walk.{GoesOnClosed, LeadsFrom, NamesFrom}
use Rattle.bor_records.proofs.OnLinks.Growth.{grown_none, grown_more}
use Rattle.bor_chains.proofs.Growing.{lines_none, lines_more}

-- no mark
pub cross_none : (s : Shown) (start count : ℕ) (w : Walk) → GoesOnClosed s (LeadsFrom s (drop start (take start w.marks))) (NamesFrom s (drop start (take start w.marks))) count w w
cross_none s start count w closed = (
  closed,
  record {
    marks = grown_none (LeadsFrom s front) w.marks (λ n h. absurd (empty h.0 h.1));
    found = lines_none (NamesFrom s front) count w.found.items (λ person info h. empty h.0 h.1);
  },
)
  where
    front : List Marked
    front = drop start (take start w.marks)

    empty : (m : Marked) → Contains front m → ⊥
    empty m h = omega (arith, h.1, length-drop start (take start w.marks), length-take start w.marks)

-- the marks of a level up to a place
front_more : (xs : List Marked) (start i : ℕ) (d : Marked) → start ≤ i → i < length xs → drop start (take (i + 1) xs) ≡ drop start (take i xs) ++ get_or xs i d ∷ []
front_more xs start i d le lt =
    ap (λ (ys : List Marked). drop start ys) (take_more xs i d lt)
    ∙ drop-append-le start (take i xs) (get_or xs i d ∷ []) (omega (arith, length-take-le i xs (omega arith)))

-- a mark more
pub cross_more : (s : Shown) (start i count : ℕ) (m : Marked) (a b c : Walk) → start ≤ i → i < length a.marks → m ≡ get_or b.marks i m
    → GoesOnClosed s (LeadsFrom s (drop start (take i a.marks))) (NamesFrom s (drop start (take i a.marks))) count a b → GoesOnClosed s (LeadsByLink s m) (Names s m) count b c
    → GoesOnClosed s (LeadsFrom s (drop start (take (i + 1) a.marks))) (NamesFrom s (drop start (take (i + 1) a.marks))) count a c
cross_more s start i count m a b c le lt at first then closed = let f = first closed in let t = then f.0 in let g = f.1 in let h = t.1 in (
  t.0,
  record {
    marks = grown_more (LeadsFrom s before) (LeadsByLink s m) (LeadsFrom s after) a.marks b.marks c.marks g.marks h.marks
        (λ n. elim [ inl p ↦ (p.0, old p.0 p.1, p.2) | inr q ↦ (m, here g.marks.rest g.marks.begins, q) ])
        (λ n r. elim (split g.marks.rest g.marks.begins r.0 r.1) [ inl o ↦ inl (r.0, o, r.2) | inr e ↦ inr (subst (λ (x : Marked). LeadsByLink s x n) (sym e) r.2) ]);
    found = lines_more (NamesFrom s before) (Names s m) (NamesFrom s after) count a.found.items b.found.items c.found.items g.found h.found
        (λ person info. elim [ inl p ↦ (p.0, old p.0 p.1, p.2) | inr q ↦ (m, here g.marks.rest g.marks.begins, q) ])
        (λ person info r. elim (split g.marks.rest g.marks.begins r.0 r.1) [ inl o ↦ inl (r.0, o, r.2) | inr e ↦ inr (subst (λ (x : Marked). Names s x person info) (sym e) r.2) ]);
  },
)
  where
    before : List Marked
    before = drop start (take i a.marks)

    after : List Marked
    after = drop start (take (i + 1) a.marks)

    old : (x : Marked) → Contains before x → Contains after x
    old x on = subst (λ (ms : List Marked). Contains ms x) (sym (front_more a.marks start i m le lt)) (Contains-append_left before (get_or a.marks i m ∷ []) x on)

    is_here : (rest : List Marked) → b.marks ≡ a.marks ++ rest → m ≡ get_or a.marks i m
    is_here rest begins = at ∙ ap (λ (ms : List Marked). get_or ms i m) begins ∙ get_or-append a.marks rest m i lt

    is_after : (rest : List Marked) → b.marks ≡ a.marks ++ rest → after ≡ before ++ m ∷ []
    is_after rest begins = front_more a.marks start i m le lt ∙ ap (λ (x : Marked). before ++ x ∷ []) (sym (is_here rest begins))

    here : (rest : List Marked) → b.marks ≡ a.marks ++ rest → Contains after m
    here rest begins = subst (λ (ms : List Marked). Contains ms m) (sym (is_after rest begins)) (Contains-push before m)

    split : (rest : List Marked) → b.marks ≡ a.marks ++ rest → (x : Marked) → Contains after x → Contains before x ⊎ (m ≡ x)
    split rest begins x on = Contains-push_cases before m x (subst (λ (ms : List Marked). Contains ms x) (is_after rest begins) on)
