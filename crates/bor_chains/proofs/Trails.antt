-- Marks and their steps: the chains that lead down from marks, the links that are crossed, and a walk that keeps the reason for each mark, level by level.
use Rattle.std.proofs.Common.{◌≡◌, ◌+◌, ◌<◌, ◌≤◌, ◌++◌, ℕ, Some, Bool, true, false, cond, IsTrue, List, [], ◌∷◌, Contains, length, get_or, sym, refl, ap, ◌∙◌, subst, inl, inr, arith, append-nil, append_assoc, Option, length-append, ◌⊎◌, None}
use Rattle.std.specs.List.{slice_get}
use Rattle.std.proofs.lemmas.Option.{same_Some, slice_get_read, slice_get_within, get_or_from_slice_get}
use Rattle.std.proofs.lemmas.List.Elements.{Contains-append_left, Contains-push, Contains-push_cases, Contains-append_cases, Contains-append_right}
use Rattle.std.proofs.iter.runs.Lists.{nth_seam}
use Rattle.std.specs.Prelude.{slice_index_or}
use Rattle.std.specs.List.Sorted.{IsSorted}
use Rattle.std.specs.Ordering.{nat_cmp, ordering_then, ordering_reverse, is_lt}
use Rattle.std.specs.declared.cmp.Ordering.{Ordering}
use Rattle.std.specs.declared.cmp.Ordering.TheVariants.{Less, Equal}
use Rattle.std.specs.Cmp.{IsTotalOrder, on_total, then_total, nat_cmp_total}
use Rattle.std.proofs.lemmas.Bool.{cases_lt, cases_order}
use Rattle.std.proofs.lemmas.List.Sorted.{ranks_by, sorted_far}
use Rattle.bor_records.specs.declared.links.node.Link.{Link}
use Rattle.bor_records.specs.Links.Shown.{Shown, IsLegalEntity, IsPerson, info_of}
use Rattle.bor_records.specs.Links.Answers.{AreLinksInto, AreSame}
use Rattle.bor_records.specs.Links.Growth.{Grown}
use Rattle.bor_records.proofs.OnLinks.Found.{none, one_of, here}
use Rattle.bor_records.proofs.OnLinks.Growth.{kept, grown_cases, grown_none, grown_like}
use Rattle.bor_records.specs.declared.links.node.Node.{Node}
use Rattle.bor_records.specs.Links.Aliases.{Same}
use Rattle.bor_records.proofs.OnLinks.Sames.{same_turn, same_more, same_reached}
use Rattle.bor_records.specs.declared.links.node.NodeInfo.{NodeInfo}
use Rattle.bor_records.specs.declared.links.node.NodeInfo.TheVariants as infos
use Rattle.bor_records.specs.declared.links.node.PersonInfo.{PersonInfo}
use Rattle.bor_records.specs.Links.Nodes.{link_cmp}
use Rattle.bor_records.proofs.OnLinks.Exact.{exact_link}
use Rattle.bor_chains.specs.declared.crossed.Crossing.{Crossing}
use Rattle.bor_chains.specs.declared.marks.Mark.{Mark}
use Rattle.bor_chains.specs.declared.marks.Marked.{Marked}
use Rattle.bor_chains.specs.Marks.{counts_at, is_holder, CountsAt, IsSameAs, IsOneOf}
use Rattle.bor_chains.specs.Crossings.{counted_at, IsCountedOf, AreCountedSoFar, IsCrossingInto, AreCrossings, crossing_cmp, IsCrossing}
use Rattle.bor_chains.proofs.Places.{up_to, got_there, got_left, got_cases, got, got_is}
use Rattle.bor_chains.specs.declared.marks.Mark.TheVariants.{Target, Middle, Holder}
use Rattle.bor_chains.specs.Chains.{IsChain}
use Rattle.bor_chains.specs.Trail.{Down, DownAs, LeadsAs, LeadsTo, IsFilled, step_by, ReadsOff, StandsAt, AreBeside, GivesMarks, GivesUnlessThere, AreWhole, IsLonger, Follows, FollowsTo, IsLeastDown, IsByFirst, TellsAs, IsReached, IsAtLevel, IsAll}
use Rattle.bor_chains.proofs.Reach.{chain_starts, chain_on}
use Rattle.bor_chains.specs.declared.trail.Step.{Step}
use Rattle.bor_chains.specs.declared.trail.Trail.{Trail}
use Rattle.bor_chains.specs.Evidence.{IsNotAfter}
use Rattle.bor_chains.specs.Lines.{link_total}
use Rattle.bor_chains.proofs.OneEvidence.{less_first, same_first, shorter, itself}

-- ---- the links that are crossed: those of one mark

pub counted_none : (links : List Link) (mark : Mark) (below : ℕ) (a : List Crossing) → AreCountedSoFar links mark below links a a
counted_none links mark below a = record { rest = []; begins = sym (append-nil a); only = λ c h. absurd (none c h); within = λ l h. h; every = λ c h. inl h.listed }

pub counted_more : (links : List Link) (mark : Mark) (below : ℕ) (left fewer : List Link) (l : Link) (a b c : List Crossing) → left ≡ fewer ++ l ∷ [] → c ≡ b ++ counted_at mark below l → AreCountedSoFar links mark below left a b → AreCountedSoFar links mark below fewer a c
counted_more links mark below left fewer l a b c e more g = subst (λ (xs : List Crossing). AreCountedSoFar links mark below fewer a xs) (sym more) (record {
  rest = g.rest ++ counted_at mark below l;
  begins = ap (λ (cs : List Crossing). cs ++ counted_at mark below l) g.begins ∙ append_assoc a g.rest (counted_at mark below l);
  only = λ d h. elim (Contains-append_cases g.rest (counted_at mark below l) d h) [ inl p ↦ g.only d p | inr q ↦ one d (counts_at mark l) refl q ];
  within = λ k h. g.within k (subst (λ (ls : List Link). Contains ls k) (sym e) (Contains-append_left fewer (l ∷ []) k h));
  every = λ d h. elim (g.every d h) [
    | inl on ↦ elim (Contains-push_cases fewer l d.link (subst (λ (ls : List Link). Contains ls d.link) e on)) [
      | inl p ↦ inl p
      | inr q ↦ inr (Contains-append_right b (counted_at mark below l) d (there d h (sym q)))
    ]
    | inr on ↦ inr (Contains-append_left b (counted_at mark below l) d on)
  ];
})
  where
    -- what is put there counts
    one : (d : Crossing) (t : Bool) → counts_at mark l ≡ t → Contains (cond t (record { link = l; below = below } ∷ []) []) d → IsCountedOf links mark below d
    one d false miss h = absurd (none d h)
    one d true hits h = subst (λ (x : Crossing). IsCountedOf links mark below x) (one_of (record { link = l; below = below }) d h)
        (record { listed = g.within l (subst (λ (ls : List Link). Contains ls l) (sym e) (Contains-push fewer l)); place = refl; counted = hits })

    -- .. and what counts is put there
    there : (d : Crossing) → IsCountedOf links mark below d → d.link ≡ l → Contains (counted_at mark below l) d
    there d h same =
        let hits : true ≡ counts_at mark l = sym h.counted ∙ ap (λ (k : Link). counts_at mark k) same in
        let is : record { link = l; below = below } ≡ d = λ i. record { link = sym same i; below = sym h.place i } in
        subst (λ (t : Bool). Contains (cond t (record { link = l; below = below } ∷ []) []) d) hits
        (subst (λ (x : Crossing). Contains (record { link = l; below = below } ∷ []) x) is (here (record { link = l; below = below }) []))

pub counted_all : (links : List Link) (mark : Mark) (below : ℕ) (left : List Link) (a b : List Crossing) → left ≡ [] → AreCountedSoFar links mark below left a b → Grown (IsCountedOf links mark below) a b
counted_all links mark below left a b e g = record {
  rest = g.rest;
  begins = g.begins;
  only = g.only;
  every = λ c h. elim (g.every c h) [ inl on ↦ absurd (none c.link (subst (λ (ls : List Link). Contains ls c.link) e on)) | inr on ↦ on ];
}

-- ---- what a source answers

pub none_crossed : (s : Shown) (m : Marked) (below : ℕ) (a : List Crossing) → is_holder m.mark ≡ true → Grown (IsCrossingInto s m below) a a
none_crossed s m below a is = grown_none (IsCrossingInto s m below) a (λ c h. let k = (h.is_counted).counted in absurd (grind (arith, k)))

pub links_crossed : (s : Shown) (m : Marked) (below : ℕ) (links : List Link) (a b : List Crossing) → AreLinksInto s m.node links → Grown (IsCountedOf links m.mark below) a b → Grown (IsCrossingInto s m below) a b
links_crossed s m below links a b into g = grown_like (IsCountedOf links m.mark below) (IsCrossingInto s m below) a b g
    (λ c h. let l = (into.each c.link).0 h.listed in record { is_counted = record { listed = l.0; into = l.1; counted = h.counted }; place = h.place })
    (λ c h. record { listed = (into.each c.link).1 ((h.is_counted).listed, (h.is_counted).into); place = h.place; counted = (h.is_counted).counted })

-- ---- one mark after another

pub crossings_none : (s : Shown) (marks : List Marked) (start : ℕ) (cs : List Crossing) → cs ≡ [] → AreCrossings s marks start start cs
crossings_none s marks start cs e c = ((λ h. absurd (none c (subst (λ (xs : List Crossing). Contains xs c) e h))), (λ h. absurd (let a = h.above in let b = h.before in omega (arith, a, b))))

pub crossings_more : (s : Shown) (marks : List Marked) (start i : ℕ) (m : Marked) (a b : List Crossing) → start ≤ i → i < length marks → m ≡ get_or marks i m → AreCrossings s marks start i a → Grown (IsCrossingInto s m i) a b → AreCrossings s marks start (i + 1) b
crossings_more s marks start i m a b le lt at was g c = (
  (λ h. elim (grown_cases g c h) [
    | inl old ↦ let x = (was c).0 old in record { mark = x.mark; is = x.is; above = x.above; before = (let z = x.before in omega (arith, z)); is_counted = x.is_counted }
    | inr new ↦ record {
      mark = m;
      is = ap (λ (n : ℕ). slice_get marks n) new.place ∙ here;
      above = (let z = new.place in omega (arith, z, le));
      before = (let z = new.place in omega (arith, z));
      is_counted = new.is_counted;
    }
  ]),
  (λ x. elim (up_to c.below i x.before) [
    | inl before ↦ kept g c ((was c).1 (record { mark = x.mark; is = x.is; above = x.above; before = before; is_counted = x.is_counted }))
    | inr now ↦ g.every c (record { is_counted = subst (λ (n : Marked). CountsAt s n c.link) (same_Some x.mark m (sym x.is ∙ ap (λ (n : ℕ). slice_get marks n) now ∙ here)) x.is_counted; place = now })
  ]),
)
  where
    here : slice_get marks i ≡ Some m
    here = slice_get_read marks (length marks) i m refl lt at

-- ---- chains from marks

pub same_then : (s : Shown) (a b c : Node) → Same s a b → Same s b c → Same s a c
same_then s a b c h k = same_reached s (λ n. Same s a n) (λ x y p l. same_more s a p.0 x y p.1 l) b k.0 c k.1 h

-- a link that counts at a mark is the first of a chain
pub link_down : (s : Shown) (e : Node) (m : Marked) (l : Link) (ls : List Link) → Down s e m ls → CountsAt s m l → IsChain s l.party (l ∷ ls) e
link_down s e m l ls down c = at m.mark down c.counted
  where
    at : (mark : Mark) → DownAs s e m.node mark ls → IsTrue (counts_at mark l) → IsChain s l.party (l ∷ ls) e
    at Target h k = subst (λ (zs : List Link). IsChain s l.party (l ∷ zs) e) (sym h.1) (c.listed, refl, k, subst (λ (n : Node). Same s n e) (sym c.into) h.0)
    at Middle h k = chain_on s l h.0 ls e c.listed k (subst (λ (n : Node). Same s n h.0) (sym c.into) h.1) h.2 h.3
    at Holder h k = let no : false ≡ true = k in absurd cc

-- .. and it leads up from there
pub down_more : (s : Shown) (e : Node) (m n : Marked) (l : Link) (ls : List Link) → Down s e m ls → CountsAt s m l → LeadsTo s l n → Down s e n (l ∷ ls)
down_more s e m n l ls down c leads = to n.mark leads
  where
    chain : IsChain s l.party (l ∷ ls) e
    chain = link_down s e m l ls down c

    to : (mark : Mark) → LeadsAs s l n.node mark → DownAs s e n.node mark (l ∷ ls)
    to Target h = absurd h
    to Middle h = (l.party, same_turn s l.party n.node h.1, h.0, chain)
    to Holder h = (h.0, subst (λ (x : Node). IsPerson s x h.0) (sym h.1) h.2, subst (λ (x : Node). IsChain s x (l ∷ ls) e) (sym h.1) chain)

-- the first link of a chain from a mark counts at another, and leads up from there
pub record IsFirstDown (s : Shown) (e : Node) (n : Marked) (l : Link) (ls : List Link) : Type 0 where
  pub mark : Marked
  pub down : Down s e mark ls
  pub is_counted : CountsAt s mark l
  pub leads : LeadsTo s l n

first_below : (s : Shown) (e a : Node) (l : Link) (ls : List Link) → IsChain s a (l ∷ ls) e → (m : Marked) × Down s e m ls × CountsAt s m l
first_below s e a l [] h = (record { node = l.subject; mark = Target }, (h.3, refl), record { listed = h.0; into = refl; counted = h.2 })
first_below s e a l (k ∷ ls) h = (record { node = l.subject; mark = Middle }, (k.party, h.3, h.4, h.5), record { listed = h.0; into = refl; counted = h.2 })

pub down_first : (s : Shown) (e : Node) (n : Marked) (l : Link) (ls : List Link) → Down s e n (l ∷ ls) → IsFirstDown s e n l ls
down_first s e n l ls down = at n.mark refl down
  where
    by : (q : Node) → IsChain s q (l ∷ ls) e → (l.party ≡ q → LeadsTo s l n) → IsFirstDown s e n l ls
    by q chain leads = let b = first_below s e q l ls chain in record { mark = b.0; down = b.1; is_counted = b.2; leads = leads (chain_starts s q l ls e chain) }

    leads_as : (mark : Mark) → n.mark ≡ mark → LeadsAs s l n.node mark → LeadsTo s l n
    leads_as mark is h = subst (λ (k : Mark). LeadsAs s l n.node k) (sym is) h

    at : (mark : Mark) → n.mark ≡ mark → DownAs s e n.node mark (l ∷ ls) → IsFirstDown s e n l ls
    at Target is h = let no : (l ∷ ls) ≡ [] = h.1 in absurd cc
    at Middle is h = by h.0 h.3 (λ q. leads_as Middle is (subst (λ (x : Node). IsLegalEntity s x) (sym q) h.2, subst (λ (x : Node). Same s x n.node) (sym q) (same_turn s n.node h.0 h.1)))
    at Holder is h = by n.node h.2 (λ q. leads_as Holder is (h.0, sym q, subst (λ (x : Node). IsPerson s x h.0) (sym q) h.1))

-- without a link there is the target alone
pub down_none : (s : Shown) (e : Node) (m : Marked) → Down s e m [] → (m.mark ≡ Target) × Same s m.node e
down_none s e m down = at m.mark refl down
  where
    at : (mark : Mark) → m.mark ≡ mark → DownAs s e m.node mark [] → (m.mark ≡ Target) × Same s m.node e
    at Target is h = (is, h.0)
    at Middle is h = absurd h.3
    at Holder is h = absurd h.2

pub marked_is : (m n : Marked) → m.node ≡ n.node → m.mark ≡ n.mark → m ≡ n
marked_is m n e f = λ i. record { node = e i; mark = f i }

-- two marks of one level at which one link counts are one
pub one_mark : (s : Shown) (e : Node) (m n : Marked) (l : Link) (ls ks : List Link) → Down s e m ls → Down s e n ks → length ls ≡ length ks → CountsAt s m l → CountsAt s n l → m ≡ n
one_mark s e m n l ls ks a b long c d = marked_is m n (sym c.into ∙ d.into) (at m.mark n.mark ls ks a b long c.counted d.counted)
  where
    at : (x y : Mark) (us vs : List Link) → DownAs s e m.node x us → DownAs s e n.node y vs → length us ≡ length vs → IsTrue (counts_at x l) → IsTrue (counts_at y l) → x ≡ y
    at Target Target us vs h k g p q = refl
    at Middle Middle us vs h k g p q = refl
    at Holder y us vs h k g p q = let no : false ≡ true = p in absurd cc
    at x Holder us vs h k g p q = let no : false ≡ true = q in absurd cc
    at Target Middle us [] h k g p q = absurd k.3
    at Target Middle us (v ∷ vs) h k g p q = absurd (let z = ap (λ (xs : List Link). length xs) h.1 in omega (arith, z, g))
    at Middle Target [] vs h k g p q = absurd h.3
    at Middle Target (u ∷ us) vs h k g p q = absurd (let z = ap (λ (xs : List Link). length xs) k.1 in omega (arith, z, g))

-- ---- steps that are put at the end

-- so far, copies of the step
pub record AreFilled (count : ℕ) (step : Option Step) (old new : List (Option Step)) : Type 0 where
  pub rest : List (Option Step)
  pub begins : new ≡ old ++ rest
  pub all : (x : Option Step) → Contains rest x → x ≡ step
  pub fits : length old ≤ count → length new ≤ count

pub filled_none : (count : ℕ) (step : Option Step) (old : List (Option Step)) → AreFilled count step old old
filled_none count step old = record { rest = []; begins = sym (append-nil old); all = λ x h. absurd (none x h); fits = λ le. le }

pub filled_more : (count : ℕ) (step one : Option Step) (a b c : List (Option Step)) → one ≡ step → length b < count → c ≡ b ++ one ∷ [] → AreFilled count step a b → AreFilled count step a c
filled_more count step one a b c is lt pushed f = subst (λ (xs : List (Option Step)). AreFilled count step a xs) (sym pushed) (record {
  rest = f.rest ++ one ∷ [];
  begins = ap (λ (xs : List (Option Step)). xs ++ one ∷ []) f.begins ∙ append_assoc a f.rest (one ∷ []);
  all = λ x h. elim (Contains-push_cases f.rest one x h) [ inl p ↦ f.all x p | inr q ↦ sym q ∙ is ];
  fits = λ le. omega (arith, lt, length-append b (one ∷ []));
})

pub filled_all : (count : ℕ) (step : Option Step) (a b : List (Option Step)) → count ≤ length b → AreFilled count step a b → IsFilled count step a b
filled_all count step a b le f = record { rest = f.rest; begins = f.begins; all = f.all; long = λ few. (let most = f.fits few in omega (arith, le, most)) }

-- ---- longer trails

pub longer_none : (a : Trail) → IsLonger a a
longer_none a = record { rest = []; begins = sym (append-nil a.marks); more = []; steps_begin = sym (append-nil a.steps.items); beside = λ e. e }

pub longer_then : (a b c : Trail) → IsLonger a b → IsLonger b c → IsLonger a c
longer_then a b c f g = record {
  rest = f.rest ++ g.rest;
  begins = g.begins ∙ ap (λ (xs : List Marked). xs ++ g.rest) f.begins ∙ append_assoc a.marks f.rest g.rest;
  more = f.more ++ g.more;
  steps_begin = g.steps_begin ∙ ap (λ (xs : List (Option Step)). xs ++ g.more) f.steps_begin ∙ append_assoc a.steps.items f.more g.more;
  beside = λ e. g.beside (f.beside e);
}

pub still_marked : (a b : Trail) → IsLonger a b → (m : Marked) → Contains a.marks m → Contains b.marks m
still_marked a b l m h = subst (λ (xs : List Marked). Contains xs m) (sym l.begins) (Contains-append_left a.marks l.rest m h)

pub still_reads : (a b : Trail) → IsLonger a b → (i : ℕ) (ls : List Link) → ReadsOff a.steps.items i ls → ReadsOff b.steps.items i ls
still_reads a b l i [] h = ap (λ (xs : List (Option Step)). slice_get xs i) l.steps_begin ∙ got_left a.steps.items l.more i None h
still_reads a b l i (k ∷ ks) h =
    (h.0, ap (λ (xs : List (Option Step)). slice_get xs i) l.steps_begin ∙ got_left a.steps.items l.more i (Some h.0) h.1, h.2, h.3, still_reads a b l (h.0).below ks h.4)

-- a mark and its step were there, or both are new
pub stands_cases : (a b : Trail) → (l : IsLonger a b) → AreBeside a → (i : ℕ) (m : Marked) (o : Option Step) → StandsAt b i m o
    → StandsAt a i m o ⊎ ((length a.marks ≤ i) × Contains l.rest m × Contains l.more o)
stands_cases a b l beside i m o h = at (got_cases a.marks l.rest i m (ap (λ (xs : List Marked). slice_get xs i) (sym l.begins) ∙ h.0)) (got_cases a.steps.items l.more i o (ap (λ (xs : List (Option Step)). slice_get xs i) (sym l.steps_begin) ∙ h.1))
  where
    at : (slice_get a.marks i ≡ Some m) ⊎ ((length a.marks ≤ i) × Contains l.rest m) → (slice_get a.steps.items i ≡ Some o) ⊎ ((length a.steps.items ≤ i) × Contains l.more o)
        → StandsAt a i m o ⊎ ((length a.marks ≤ i) × Contains l.rest m × Contains l.more o)
    at (inl p) (inl q) = inl (p, q)
    at (inr p) (inr q) = inr (p.0, p.1, q.1)
    at (inl p) (inr q) = let lt = slice_get_within a.marks i m p in absurd (omega (arith, lt, q.0, beside))
    at (inr p) (inl q) = let lt = slice_get_within a.steps.items i o q in absurd (omega (arith, lt, p.0, beside))

-- the step beside a mark
pub step_beside : (a : Trail) → AreBeside a → (i : ℕ) (m : Marked) → slice_get a.marks i ≡ Some m → (o : Option Step) × StandsAt a i m o
step_beside a beside i m h =
    let lt = slice_get_within a.marks i m h in
    let s = got_there a.steps.items i (omega (arith, lt, beside)) in (s.0, (h, s.1))

-- ---- one crossing

-- nothing is led to
pub follows_none : (s : Shown) (c : Crossing) (a : Trail) → ((m : Marked) → LeadsTo s c.link m → Contains a.marks m) → Follows s c a a
unfolding longer_none
follows_none s c a there = record {
  longer = longer_none a;
  only = λ m h. absurd (none m h);
  fresh = λ m h. absurd (none m h);
  every = there;
  steps = λ o h. absurd (none o h);
}

pub follows_given : (s : Shown) (c : Crossing) (info : NodeInfo) (marked : Marked) (P : Marked → Type 0) (a b : Trail) → Some info ≡ info_of s c.link.party
    → ((m : Marked) → P m → LeadsTo s c.link m) → ((m : Marked) → LeadsTo s c.link m → P m)
    → ((m : Marked) → P m → Contains a.marks m → Contains a.marks marked) → (Contains a.marks marked → (m : Marked) → P m → Contains a.marks m)
    → GivesUnlessThere marked P (Some (step_by c info)) a b → Follows s c a b
follows_given s c info marked P a b told into from back all h = elim h [
  | inl p ↦ subst (λ (t : Trail). Follows s c a t) (sym p.1) (follows_none s c a (λ m l. all p.0 m (from m l)))
  | inr p ↦ given p.0 p.1
]
  where
    given : (Contains a.marks marked → ⊥) → GivesMarks P (Some (step_by c info)) a b → Follows s c a b
    given gone g = record {
      longer = record {
        rest = g.marks.rest;
        begins = g.marks.begins;
        more = g.steps.rest;
        steps_begin = g.steps.begins;
        beside = λ e. g.steps.long (let n = ap (λ (xs : List Marked). length xs) g.marks.begins in omega (arith, n, e, length-append a.marks g.marks.rest));
      };
      only = λ m on. into m (g.marks.only m on);
      fresh = λ m on was. gone (back m (g.marks.only m on) was);
      every = λ m l. g.marks.every m (from m l);
      steps = λ o on. record { step = step_by c info; is = g.steps.all o on; link = refl; below = refl; info = told };
    }

-- the party is a person
pub follows_person : (s : Shown) (c : Crossing) (info : PersonInfo) (a b : Trail) → Some (infos.Person info) ≡ info_of s c.link.party
    → GivesUnlessThere (record { node = c.link.party; mark = Holder }) (λ n. n ≡ record { node = c.link.party; mark = Holder }) (Some (step_by c (infos.Person info))) a b → Follows s c a b
follows_person s c info a b told g = follows_given s c (infos.Person info) marked (λ n. n ≡ marked) a b told into (λ m. from m m.mark refl)
    (λ m e on. subst (λ (x : Marked). Contains a.marks x) e on) (λ on m e. subst (λ (x : Marked). Contains a.marks x) (sym e) on) g
  where
    marked : Marked
    marked = record { node = c.link.party; mark = Holder }

    into : (m : Marked) → m ≡ marked → LeadsTo s c.link m
    into m e = subst (λ (x : Marked). LeadsTo s c.link x) (sym e) (info, refl, sym told)

    from : (m : Marked) (mark : Mark) → m.mark ≡ mark → LeadsAs s c.link m.node mark → m ≡ marked
    from m Target is h = absurd h
    from m Middle is h = let no : Some (infos.Person info) ≡ Some (infos.Entity true) = told ∙ h.0 in absurd cc
    from m Holder is h = marked_is m marked h.1 is

-- the party is a legal entity
pub follows_class : (s : Shown) (c : Crossing) (a b : Trail) → Some (infos.Entity true) ≡ info_of s c.link.party → AreWhole s a.marks
    → GivesUnlessThere (record { node = c.link.party; mark = Middle }) (IsSameAs s c.link.party Middle) (Some (step_by c (infos.Entity true))) a b → Follows s c a b
follows_class s c a b told whole g = follows_given s c (infos.Entity true) marked (IsSameAs s c.link.party Middle) a b told into (λ m. from m m.mark refl) back all g
  where
    marked : Marked
    marked = record { node = c.link.party; mark = Middle }

    into : (m : Marked) → IsSameAs s c.link.party Middle m → LeadsTo s c.link m
    into m h = subst (λ (k : Mark). LeadsAs s c.link m.node k) (sym h.1) (sym told, h.0)

    from : (m : Marked) (mark : Mark) → m.mark ≡ mark → LeadsAs s c.link m.node mark → IsSameAs s c.link.party Middle m
    from m Target is h = absurd h
    from m Middle is h = (h.1, is)
    from m Holder is h = let no : Some (infos.Entity true) ≡ Some (infos.Person h.0) = told ∙ h.2 in absurd cc

    in_middle : (m : Marked) → m.mark ≡ Middle → m ≡ record { node = m.node; mark = Middle }
    in_middle m is = λ i. record { node = m.node; mark = is i }

    back : (m : Marked) → IsSameAs s c.link.party Middle m → Contains a.marks m → Contains a.marks marked
    back m h on = whole m.node c.link.party (same_turn s c.link.party m.node h.0) (subst (λ (x : Marked). Contains a.marks x) (in_middle m h.1) on)

    all : Contains a.marks marked → (m : Marked) → IsSameAs s c.link.party Middle m → Contains a.marks m
    all on m h = subst (λ (x : Marked). Contains a.marks x) (sym (in_middle m h.1)) (whole c.link.party m.node h.0 on)

-- what is neither, or isn't open, leads to nothing
pub follows_nothing : (s : Shown) (c : Crossing) (a : Trail) → (IsLegalEntity s c.link.party → ⊥) → ((info : PersonInfo) → Some (infos.Person info) ≡ info_of s c.link.party → ⊥) → Follows s c a a
follows_nothing s c a no_entity no_person = follows_none s c a (λ m l. absurd (by m.node m.mark l))
  where
    by : (n : Node) (mark : Mark) → LeadsAs s c.link n mark → ⊥
    by n Target h = h
    by n Middle h = no_entity h.0
    by n Holder h = no_person h.0 (sym h.2)

-- entities in the middle stay whole
pub whole_more : (s : Shown) (c : Crossing) (a b : Trail) → Follows s c a b → AreWhole s a.marks → AreWhole s b.marks
whole_more s c a b f whole x y same on =
    elim (Contains-append_cases a.marks f.longer.rest (record { node = x; mark = Middle }) (subst (λ (ms : List Marked). Contains ms (record { node = x; mark = Middle })) f.longer.begins on)) [
      | inl was ↦ still_marked a b f.longer (record { node = y; mark = Middle }) (whole x y same was)
      | inr new ↦ let l = f.only (record { node = x; mark = Middle }) new in f.every (record { node = y; mark = Middle }) (l.0, same_then s c.link.party x y l.1 same)
    ]

-- ---- one crossing after another

pub to_none : (s : Shown) (cs : List Crossing) (a : Trail) → FollowsTo s cs 0 a a
to_none s cs a = record {
  longer = longer_none a;
  every = λ j c m lt. absurd (omega (arith, lt));
  given = λ i m o h le. let lt = slice_get_within a.marks i m h.0 in absurd (omega (arith, lt, le));
}

-- as many of a longer list
to_longer : (s : Shown) (cs ds : List Crossing) (a b : Trail) → FollowsTo s cs (length cs) a b → FollowsTo s (cs ++ ds) (length cs) a b
to_longer s cs ds a b f = record {
  longer = f.longer;
  every = λ j c m lt is l. f.every j c m lt (left j c lt is) l;
  given = λ i m o h le. let g = f.given i m o h le in (
    g.0,
    record {
      place = (g.1).place;
      crossing = (g.1).crossing;
      is = got_left cs ds (g.1).place (g.1).crossing (g.1).is;
      leads = (g.1).leads;
      over = (g.1).over;
      first = λ j c lt is. (g.1).first j c lt (left j c (omega (arith, lt, slice_get_within cs (g.1).place (g.1).crossing (g.1).is)) is);
    },
  );
}
  where
    left : (j : ℕ) (c : Crossing) → j < length cs → slice_get (cs ++ ds) j ≡ Some c → slice_get cs j ≡ Some c
    left j c lt is = elim (got_cases cs ds j c is) [ inl h ↦ h | inr p ↦ absurd (omega (arith, lt, p.0)) ]

pub to_more : (s : Shown) (cs : List Crossing) (n : ℕ) (c : Crossing) (a b w : Trail) → AreBeside a → slice_get cs n ≡ Some c → FollowsTo s cs n a b → Follows s c b w → FollowsTo s cs (n + 1) a w
to_more s cs n c a b w beside at f g = record {
  longer = longer_then a b w f.longer g.longer;
  every = λ j d m lt is l. elim (up_to j n lt) [
    | inl before ↦ still_marked b w g.longer m (f.every j d m before is l)
    | inr now ↦ g.every m (subst (λ (x : Crossing). LeadsTo s x.link m) (same_Some d c (sym is ∙ ap (λ (k : ℕ). slice_get cs k) now ∙ at)) l)
  ];
  given = λ i m o h le. elim (stands_cases b w g.longer (f.longer.beside beside) i m o h) [
    | inl was ↦ f.given i m o was le
    | inr new ↦ (
      (λ was. g.fresh m new.1 (still_marked a b f.longer m was)),
      record {
        place = n;
        crossing = c;
        is = at;
        leads = g.only m new.1;
        over = g.steps o new.2;
        first = λ j d lt is l. g.fresh m new.1 (f.every j d m lt is l);
      },
    )
  ];
}

-- one more behind them
pub to_next : (s : Shown) (cs : List Crossing) (c : Crossing) (a b w : Trail) → AreBeside a → FollowsTo s cs (length cs) a b → Follows s c b w → FollowsTo s (cs ++ c ∷ []) (length (cs ++ c ∷ [])) a w
to_next s cs c a b w beside f g =
    subst (λ (n : ℕ). FollowsTo s (cs ++ c ∷ []) n a w) (sym (length-append cs (c ∷ [])))
    (to_more s (cs ++ c ∷ []) (length cs) c a b w beside (nth_seam cs c) (to_longer s cs (c ∷ []) a b f) g)

-- ---- crossings in order

crossing_total : IsTotalOrder crossing_cmp
crossing_total = then_total (on_total (λ (c : Crossing). c.link) link_total) (on_total (λ (c : Crossing). c.below) nat_cmp_total)

less_or_tied : (o p q : Ordering) → p ≡ ordering_reverse o → is_lt (ordering_then o q) ≡ false → (p ≡ Less) ⊎ (o ≡ Equal)
less_or_tied o p q e h = grind arith

not_greater : (c d : Crossing) → is_lt (crossing_cmp d c) ≡ false → (link_cmp c.link d.link ≡ Less) ⊎ (c.link ≡ d.link)
not_greater c d h = elim (less_or_tied (link_cmp d.link c.link) (link_cmp c.link d.link) (nat_cmp d.below c.below) (link_total.antisymm c.link d.link) h) [
  | inl less ↦ inl less
  | inr tied ↦ inr (sym (exact_link d.link c.link tied))
]

-- what stands before has a link that is less, or the same
in_turn : (cs : List Crossing) → IsSorted crossing_cmp cs → (i j : ℕ) (c d : Crossing) → i ≤ j → slice_get cs i ≡ Some c → slice_get cs j ≡ Some d → (link_cmp c.link d.link ≡ Less) ⊎ (c.link ≡ d.link)
in_turn cs sorted i j c d le one two = not_greater c d
    (subst (λ (x : Crossing). is_lt (crossing_cmp d x) ≡ false) (get_or_from_slice_get cs i c c one)
    (subst (λ (x : Crossing). is_lt (crossing_cmp x (slice_index_or cs i c)) ≡ false) (get_or_from_slice_get cs j d c two)
    (sorted_far (λ x y. is_lt (crossing_cmp x y)) (ranks_by crossing_total (λ (x : Crossing). x)) cs sorted i j c le (slice_get_within cs j d two))))

-- ---- the start

pub level_start : (s : Shown) (e : Node) (nodes : List Node) (w : Trail) → AreSame s e nodes → Grown (IsOneOf nodes Target) [] w.marks → IsFilled (length w.marks) None [] w.steps.items → IsAtLevel s e 0 0 w
level_start s e nodes w all marks steps = record { whole = whole; beside = beside; each = each; near = near; tells = tells }
  where
    is_target : (m : Marked) → Contains w.marks m → Same s m.node e × (m.mark ≡ Target)
    is_target m h = elim (grown_cases marks m h) [
      | inl was ↦ absurd (none m was)
      | inr p ↦ (same_turn s e m.node ((all.each m.node).0 p.0), p.1)
    ]

    no_step : (o : Option Step) → Contains w.steps.items o → o ≡ None
    no_step o h = steps.all o (subst (λ (xs : List (Option Step)). Contains xs o) steps.begins h)

    beside : length w.steps.items ≡ length w.marks
    beside = steps.long (omega arith)

    whole : AreWhole s w.marks
    whole x y same on = let no : Middle ≡ Target = (is_target (record { node = x; mark = Middle }) on).1 in absurd cc

    least : (m : Marked) → Contains w.marks m → IsLeastDown s e m []
    least m on = let t = is_target m on in record {
      down = subst (λ (k : Mark). DownAs s e m.node k []) (sym t.1) (t.0, refl);
      least = λ ks d. subst (λ (us : List Link). IsNotAfter [] us) (sym (subst (λ (k : Mark). DownAs s e m.node k ks) t.1 d).1) (itself []);
    }

    each : (i : ℕ) (m : Marked) → slice_get w.marks i ≡ Some m → IsReached s e 0 0 w.steps.items i m
    each i m h = let o = step_beside w beside i m h in record {
      chain = [];
      reads = (o.1).1 ∙ ap (λ (x : Option Step). Some x) (no_step o.0 (got_is w.steps.items i o.0 (o.1).1));
      least = least m (got_is w.marks i m h);
      few = λ lt. absurd (omega (arith, lt));
      now = λ le. refl;
    }

    near : (m : Marked) (ks : List Link) → Down s e m ks → length ks ≤ 0 → Contains w.marks m
    near m [] d le = let t = down_none s e m d in marks.every m ((all.each m.node).1 (same_turn s m.node e t.1), t.0)
    near m (k ∷ ks) d le = absurd (omega (arith, le))

    tells : (i : ℕ) (m : Marked) (step : Step) → StandsAt w i m (Some step) → TellsAs s m.node m.mark step
    tells i m step h = let no : Some step ≡ None = no_step (Some step) (got_is w.steps.items i (Some step) h.1) in absurd cc

-- ---- a level more

-- the link is crossed from a mark of the level, and leads to the mark
record IsCrossedTo (s : Shown) (e : Node) (start : ℕ) (a : Trail) (m : Marked) (k : Link) (ks : List Link) : Type 0 where
  first : IsFirstDown s e m k ks
  below : ℕ
  is : slice_get a.marks below ≡ Some first.mark
  above : start ≤ below

crossed_to : (s : Shown) (e : Node) (start level : ℕ) (a : Trail) → IsAtLevel s e start level a → (m : Marked) (k : Link) (ks : List Link) → Down s e m (k ∷ ks) → length ks ≤ level → Contains a.marks m ⊎ IsCrossedTo s e start a m k ks
crossed_to s e start level a at m k ks down le =
    let f = down_first s e m k ks down in
    let g = got a.marks f.mark (at.near f.mark ks f.down le) in
    let r = at.each g.0 f.mark g.1 in
    elim (cases_lt g.0 start) [
      | inl lt ↦ inl (at.near m (k ∷ r.chain) (down_more s e f.mark m k r.chain (r.least).down f.is_counted f.leads) (let few = r.few lt in omega (arith, few)))
      | inr ge ↦ inr (record { first = f; below = g.0; is = g.1; above = ge })
    ]

pub level_step : (s : Shown) (e : Node) (start level : ℕ) (a w : Trail) (cs : List Crossing) → IsAtLevel s e start level a → AreCrossings s a.marks start (length a.marks) cs → IsSorted crossing_cmp cs
    → AreWhole s w.marks → FollowsTo s cs (length cs) a w → IsAtLevel s e (length a.marks) (level + 1) w
level_step s e start level a w cs at all sorted whole f = record { whole = whole; beside = f.longer.beside at.beside; each = each; near = near; tells = tells }
  where
    -- a link that is crossed is one of the crossings
    crossing_of : (m : Marked) (k : Link) (ks : List Link) (t : IsCrossedTo s e start a m k ks) → (j : ℕ) × (slice_get cs j ≡ Some (record { link = k; below = t.below }))
    crossing_of m k ks t =
        let d : Crossing = record { link = k; below = t.below } in
        got cs d ((all d).1 (record { mark = (t.first).mark; is = t.is; above = t.above; before = slice_get_within a.marks t.below (t.first).mark t.is; is_counted = (t.first).is_counted }))

    -- the step over the first crossing that leads to a new mark begins its least chain
    least : (m : Marked) (o : Option Step) → (Contains a.marks m → ⊥) → (b : IsByFirst s cs m o) → (x : IsCrossing s a.marks start (length a.marks) b.crossing) (r : IsReached s e start level a.steps.items (b.crossing).below x.mark)
        → length r.chain ≡ level → (ks : List Link) → Down s e m ks → IsNotAfter ((b.crossing).link ∷ r.chain) ks
    least m o gone b x r long [] d = absurd (gone (at.near m [] d (omega arith)))
    least m o gone b x r long (k ∷ ks) d = elim (cases_order (length ks) level) [
      | inl same ↦ by same (crossed_to s e start level a at m k ks d (omega (arith, same)))
      | inr q ↦ elim q [
        | inl lt ↦ absurd (gone (at.near m (k ∷ ks) d (omega (arith, lt))))
        | inr gt ↦ shorter ((b.crossing).link ∷ r.chain) (k ∷ ks) (omega (arith, gt, long))
      ]
    ]
      where
        with_link : (t : IsCrossedTo s e start a m k ks) → length r.chain ≡ length ks → (link_cmp (b.crossing).link k ≡ Less) ⊎ ((b.crossing).link ≡ k) → IsNotAfter ((b.crossing).link ∷ r.chain) (k ∷ ks)
        with_link t lens (inl less) = less_first (b.crossing).link k r.chain ks lens less
        with_link t lens (inr same) =
            let f = t.first in
            let one = one_mark s e x.mark f.mark (b.crossing).link r.chain ks (r.least).down f.down lens x.is_counted (subst (λ (z : Link). CountsAt s f.mark z) (sym same) f.is_counted) in
            let rest = (r.least).least ks (subst (λ (n : Marked). Down s e n ks) (sym one) f.down) in
            subst (λ (z : Link). IsNotAfter ((b.crossing).link ∷ r.chain) (z ∷ ks)) same (same_first (b.crossing).link r.chain ks lens rest)

        by : length ks ≡ level → Contains a.marks m ⊎ IsCrossedTo s e start a m k ks → IsNotAfter ((b.crossing).link ∷ r.chain) (k ∷ ks)
        by same (inl on) = absurd (gone on)
        by same (inr t) = let j = crossing_of m k ks t in elim (cases_lt j.0 b.place) [
          | inl lt ↦ absurd (b.first j.0 (record { link = k; below = t.below }) lt j.1 (t.first).leads)
          | inr ge ↦ with_link t (long ∙ sym same) (in_turn cs sorted b.place j.0 b.crossing (record { link = k; below = t.below }) ge b.is j.1)
        ]

    old : (i : ℕ) (m : Marked) → slice_get a.marks i ≡ Some m → IsReached s e (length a.marks) (level + 1) w.steps.items i m
    old i m h = let r = at.each i m h in record {
      chain = r.chain;
      reads = still_reads a w f.longer i r.chain r.reads;
      least = r.least;
      few = λ lt. elim (cases_lt i start) [ inl before ↦ (let few = r.few before in omega (arith, few)) | inr on ↦ (let same = r.now on in omega (arith, same)) ];
      now = λ le. absurd (let lt = slice_get_within a.marks i m h in omega (arith, lt, le));
    }

    new : (i : ℕ) (m : Marked) (o : Option Step) → StandsAt w i m o → length a.marks ≤ i → IsReached s e (length a.marks) (level + 1) w.steps.items i m
    new i m o st le =
        let given = f.given i m o st le in
        let b = given.1 in
        let x = (all b.crossing).0 (got_is cs b.place b.crossing b.is) in
        let r = at.each (b.crossing).below x.mark x.is in
        let long = r.now x.above in
        let over = b.over in
        record {
          chain = (b.crossing).link ∷ r.chain;
          reads = (
            over.step,
            st.1 ∙ ap (λ (y : Option Step). Some y) over.is,
            (let low = over.below in let before = x.before in omega (arith, low, before, le)),
            over.link,
            still_reads a w f.longer (over.step).below r.chain (subst (λ (n : ℕ). ReadsOff a.steps.items n r.chain) (sym over.below) r.reads),
          );
          least = record { down = down_more s e x.mark m (b.crossing).link r.chain (r.least).down x.is_counted b.leads; least = least m o given.0 b x r long };
          few = λ lt. absurd (omega (arith, lt, le));
          now = λ z. omega (arith, long);
        }

    each : (i : ℕ) (m : Marked) → slice_get w.marks i ≡ Some m → IsReached s e (length a.marks) (level + 1) w.steps.items i m
    each i m h =
        let o = step_beside w (f.longer.beside at.beside) i m h in
        elim (stands_cases a w f.longer at.beside i m o.0 o.1) [ inl was ↦ old i m was.0 | inr more ↦ new i m o.0 o.1 more.0 ]

    near : (m : Marked) (ks : List Link) → Down s e m ks → length ks ≤ level + 1 → Contains w.marks m
    near m [] d le = still_marked a w f.longer m (at.near m [] d (omega arith))
    near m (k ∷ ks) d le = elim (crossed_to s e start level a at m k ks d (omega (arith, le))) [
      | inl on ↦ still_marked a w f.longer m on
      | inr t ↦
          let j = crossing_of m k ks t in
          f.every j.0 (record { link = k; below = t.below }) m (slice_get_within cs j.0 (record { link = k; below = t.below }) j.1) j.1 (t.first).leads
    ]

    tells : (i : ℕ) (m : Marked) (step : Step) → StandsAt w i m (Some step) → TellsAs s m.node m.mark step
    tells i m step st = elim (stands_cases a w f.longer at.beside i m (Some step) st) [
      | inl was ↦ at.tells i m step was
      | inr more ↦ by (f.given i m (Some step) st more.0).1
    ]
      where
        told : (l : Link) → Some step.info ≡ info_of s l.party → step.link.party ≡ l.party → (mark : Mark) → LeadsAs s l m.node mark → TellsAs s m.node mark step
        told l info party Target h = absurd h
        told l info party Middle h = same_Some step.info (infos.Entity true) (info ∙ h.0)
        told l info party Holder h = (h.1 ∙ sym party, info ∙ ap (λ (n : Node). info_of s n) (sym h.1))

        by : IsByFirst s cs m (Some step) → TellsAs s m.node m.mark step
        by b =
            let is = same_Some step (b.over).step (b.over).is in
            let info : Some step.info ≡ info_of s (b.crossing).link.party = ap (λ (x : Step). Some x.info) is ∙ (b.over).info in
            let party : step.link.party ≡ (b.crossing).link.party = ap (λ (x : Step). x.link.party) is ∙ ap (λ (l : Link). l.party) (b.over).link in
            told (b.crossing).link info party m.mark b.leads

-- ---- the end

pub level_all : (s : Shown) (e : Node) (start level : ℕ) (w : Trail) → length w.marks ≤ start → IsAtLevel s e start level w → IsAll s e w
level_all s e start level w all at = record { beside = at.beside; each = λ i m h. let r = at.each i m h in (r.chain, r.reads, r.least); every = every; tells = at.tells }
  where
    every : (m : Marked) (ks : List Link) → Down s e m ks → Contains w.marks m
    every m [] d = at.near m [] d (omega arith)
    every m (k ∷ ks) d = by (down_first s e m k ks d) (λ n down. every n ks down)
      where
        by : IsFirstDown s e m k ks → ((n : Marked) → Down s e n ks → Contains w.marks n) → Contains w.marks m
        by f more =
            let g = got w.marks f.mark (more f.mark f.down) in
            let r = at.each g.0 f.mark g.1 in
            let lt = slice_get_within w.marks g.0 f.mark g.1 in
            let few = r.few (omega (arith, lt, all)) in
            at.near m (k ∷ r.chain) (down_more s e f.mark m k r.chain (r.least).down f.is_counted f.leads) (omega (arith, few))
