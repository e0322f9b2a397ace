-- Maps beside lists, and listed entities by their signs.
use Rattle.std.proofs.Common.{ℤ, ◌≡◌, ◌⊎◌, ◌+◌, ◌<◌, ℕ, zero, suc, Bool, true, false, cond, Option, Some, None, IsSome, option_map, List, map, ◌∷◌, drop, length, get_or, Contains, [], ◌++◌, nat_eq, sym, refl, ap, subst, inl, inr, arith, ◌∙◌, Bor, Vec, Global, take}
use Rattle.std.specs.List.{slice_get, filter_map, list_any, IsDistinct, AllByRecursion}
use Rattle.std.specs.Cmp.{nat_eq_equiv}
use Rattle.std.specs.Ordering.{is_eq}
use Rattle.std.proofs.Math.ListN.{set}
use Rattle.std.proofs.lemmas.List.{drop_more}
use Rattle.std.proofs.lemmas.List.Elements.{Contains-push, Contains-push_cases, Contains-append_left, All-from_recursion, All-contains}
use Rattle.std.proofs.lemmas.Option.{same_Some, slice_get-get_or, slice_get_within, slice_get_cases, get_or_from_slice_get, slice_get_read}
use Rattle.std.proofs.lemmas.Map.Keys.{IsDistinct-push}
use Rattle.std.proofs.lemmas.Bool.{eqb-true, eqb-false, cases_eq, false_from_ne_true}
use Rattle.bor_records.specs.declared.row.Row.{Row}
use Rattle.bor_records.specs.declared.links.node.Node.{Node}
use Rattle.bor_records.specs.declared.links.node.Link.{Link}
use Rattle.bor_records.specs.declared.links.node.OpenNode.{OpenNode}
use Rattle.bor_records.specs.Links.Nodes.{same_node, node_cmp, link_record}
use Rattle.bor_records.specs.Links.Orders.{node_equiv, node_ties}
use Rattle.bor_records.specs.Links.Shown.{Shown, listed_at}
use Rattle.bor_records.specs.Links.Rows.{link_in, link_stated, between_open}
use Rattle.bor_records.specs.Links.Answers.{AreLinksInto, only_into, HaveSigned}
use Rattle.bor_records.specs.Links.Series.{series_of}
use Rattle.bor_records.proofs.OnLinks.Found.{none, Contains-filter_map, Contains-from_filter_map, Contains-map}
use Rattle.bor_records.proofs.OnLinks.Once.{made_distinct}
use Rattle.bor_records.proofs.OnLinks.SameNode.{same_node_is}
use Rattle.bor_records.proofs.OnLinks.Signs.{same_any}
use Rattle.bor_records.specs.declared.links.sign.Sign.{Sign}
use Rattle.bor_records.specs.Links.Signs.{HasSign}
use Rattle.bor_records.proofs.OnLinks.Growth.{Contains-take_more}
use Rattle.bor_records.proofs.OnLinks.Listed.{found_is}
use Rattle.bor_chains.specs.Tables.{node_at_place, items_of, items_at, GrowAt, ArePlaces, AreInto, IsBelow, links_at}
use Rattle.bor_chains.proofs.Places.{got_is, set_there, set_other, up_to}
use Rattle.bor_chains.specs.Likeness.{Stays, AreUnder}

-- what is told of a place is the link there, with the subject
link_is : (n : Node) (o : Option Link) (l : Link) → only_into n o ≡ Some l → (o ≡ Some l) × (same_node l.subject n ≡ true)
link_is n o l e = grind arith

-- a link is made where its subject is listed
subject_listed : (day : ℤ) (nodes : List OpenNode) (r : Row) (l : Link) → link_in day nodes r ≡ Some l → IsSome (listed_at nodes l.subject)
subject_listed day nodes r l h =
    let made : between_open nodes (link_stated day (series_of r) r.statement.details) ≡ Some l = h in
    grind (arith, made)

-- a node before those that have a place
pub places_before : (nodes : List OpenNode) (next k : ℕ) (x : OpenNode) (key : Node) (was now : Node → Option ℕ) → k + 1 ≡ next → k < length nodes → x ≡ get_or nodes k x → key ≡ x.node
    → ((q : Node) → node_at_place nodes (was q) ≡ listed_at (drop next nodes) q) → ((q : Node) → now q ≡ cond (is_eq (node_cmp key q)) (Some k) (was q))
    → (q : Node) → node_at_place nodes (now q) ≡ listed_at (drop k nodes) q
places_before nodes next k x key was now one lt at named before more q =
    let row = more q in
    let rest = before q in
    grind (arith, row, rest, named, node_ties x.node q, drop_more nodes k x lt, at, slice_get-get_or nodes k x lt, one)

-- ---- the links into a node

pub some_place : (o : Option (Bor ℕ)) (place : Bor ℕ) (i : ℕ) → o ≡ Some place → option_map (λ x. x.now) o ≡ Some i → place.now ≡ i
some_place o place i is at = same_Some place.now i (sym (ap (λ (p : Option (Bor ℕ)). option_map (λ x. x.now) p) is) ∙ at)

-- an item more in the list at a place
pub list_there : (lists : List (Vec ℕ Global)) (i : ℕ) (old new : Vec ℕ Global) (x : ℕ) → i < length lists → new.items ≡ old.items ++ x ∷ [] → Contains (items_at (λ v. v.items) (set lists i new) (Some i)) x
list_there lists i old new x lt is =
    subst (λ (o : Option (Vec ℕ Global)). Contains (items_of (λ v. v.items) o) x) (sym (set_there lists i new lt))
    (subst (λ (xs : List ℕ). Contains xs x) (sym is) (Contains-push old.items x))

-- where it is put at the end of one list, the others are as they were
pub lists_grow : (lists : List (Vec ℕ Global)) (i : ℕ) (old new : Vec ℕ Global) (x : ℕ) → i < length lists → old ≡ get_or lists i old → new.items ≡ old.items ++ x ∷ [] → GrowAt (λ v. v.items) lists (set lists i new) x
lists_grow lists i old new x lt at is None = inl refl
lists_grow lists i old new x lt at is (Some j) = elim (cases_eq j i) [
  | inl same ↦
      let was : slice_get lists j ≡ Some old = ap (λ (k : ℕ). slice_get lists k) same ∙ slice_get_read lists (length lists) i old refl lt at in
      let now : slice_get (set lists i new) j ≡ Some new = ap (λ (k : ℕ). slice_get (set lists i new) k) same ∙ set_there lists i new lt in
      inr (ap (items_of (λ v. v.items)) now ∙ is ∙ ap (λ (o : Option (Vec ℕ Global)). items_of (λ v. v.items) o ++ x ∷ []) (sym was))
  | inr other ↦ inl (ap (items_of (λ v. v.items)) (set_other lists i j new other))
]

-- an empty list more
pub empty_more : (lists : List (Vec ℕ Global)) (v : Vec ℕ Global) → v.items ≡ [] → ((place : Option ℕ) → items_at (λ w. w.items) lists place ≡ []) → (place : Option ℕ) → items_at (λ w. w.items) (lists ++ v ∷ []) place ≡ []
empty_more lists v e before None = refl
empty_more [] v e before (Some zero) = e
empty_more [] v e before (Some (suc j)) = refl
empty_more (w ∷ lists) v e before (Some zero) = before (Some zero)
empty_more (w ∷ lists) v e before (Some (suc j)) =
    empty_more lists v e (λ place. elim place as (λ o. items_at (λ z. z.items) lists o ≡ []) [ None ↦ refl | Some k ↦ before (Some (suc k)) ]) (Some j)

-- no link
pub into_none : (links : List Link) (into : Node → List ℕ) → ((m : Node) → into m ≡ []) → AreInto 0 links into
unfolding IsDistinct
into_none links into no_place = record {
  found = λ i l below at. absurd (omega (arith, below));
  below = λ m i h. absurd (none i (subst (λ (is : List ℕ). Contains is i) (no_place m) h));
  once = λ m. subst (λ (is : List ℕ). IsDistinct nat_eq is) (sym (no_place m)) tt;
}

-- a link more
pub into_more : (links : List Link) (n : ℕ) (one : Link) (was now : Node → List ℕ) → n < length links → one ≡ get_or links n one → AreInto n links was
    → ((m : Node) → (now m ≡ was m) ⊎ (now m ≡ was m ++ n ∷ [])) → Contains (now one.subject) n → AreInto (n + 1) links now
into_more links n one was now lt is before grown there = record {
  found = λ i l below at. elim (up_to i n below) [
    | inl less ↦ stays l.subject i (before.found i l less at)
    | inr e ↦ subst (λ (j : ℕ). Contains (now l.subject) j) (sym e) (subst (λ (k : Link). Contains (now k.subject) n) (sym (same i l e at)) there)
  ];
  below = λ m i h. elim (grown m) [
    | inl e ↦ (let lt = before.below m i (subst (λ (is : List ℕ). Contains is i) e h) in omega (arith, lt))
    | inr e ↦ elim (Contains-push_cases (was m) n i (subst (λ (is : List ℕ). Contains is i) e h)) [
      | inl old ↦ (let lt = before.below m i old in omega (arith, lt))
      | inr new ↦ omega (arith, new)
    ]
  ];
  once = λ m. elim (grown m) [
    | inl e ↦ subst (λ (is : List ℕ). IsDistinct nat_eq is) (sym e) (before.once m)
    | inr e ↦ subst (λ (is : List ℕ). IsDistinct nat_eq is) (sym e) (IsDistinct-push nat_eq_equiv (was m) n (before.once m) (fresh m))
  ];
}
  where
    same : (i : ℕ) (l : Link) → i ≡ n → slice_get links i ≡ Some l → l ≡ one
    same i l e at = same_Some l one (sym at ∙ ap (λ (j : ℕ). slice_get links j) e ∙ slice_get-get_or links n one lt ∙ ap (λ (k : Link). Some k) (sym is))

    stays : (m : Node) (i : ℕ) → Contains (was m) i → Contains (now m) i
    stays m i h = elim (grown m) [
      | inl e ↦ subst (λ (is : List ℕ). Contains is i) (sym e) h
      | inr e ↦ subst (λ (is : List ℕ). Contains is i) (sym e) (Contains-append_left (was m) (n ∷ []) i h)
    ]

    fresh : (m : Node) → list_any (nat_eq n) (was m) ≡ false
    fresh m = false_from_ne_true (list_any (nat_eq n) (was m)) (λ e.
        let old = same_any (nat_eq n) (was m) e in
        let lt = before.below m old.0 old.1 in
        let is : n ≡ old.0 = eqb-true n old.0 old.2 in omega (arith, lt, is))

-- of links of distinct records those at two places have two
past_first : (m : Node) (links : List Link) → AllByRecursion (λ n. same_node m n ≡ false) (map link_record links) → (j : ℕ) (k : Link) → slice_get links j ≡ Some k → same_node m (link_record k) ≡ false
past_first m links h j k e =
    All-contains (λ n. same_node m n ≡ false) (map link_record links) (link_record k) (All-from_recursion (λ n. same_node m n ≡ false) (map link_record links) h) (Contains-map link_record links k (got_is links j k e))

places_apart : (links : List Link) → IsDistinct same_node (map link_record links) → (i j : ℕ) (l k : Link) → slice_get links i ≡ Some l → slice_get links j ≡ Some k → (i ≡ j → ⊥) → same_node (link_record l) (link_record k) ≡ false
unfolding IsDistinct
places_apart [] d i j l k e q differ = let no : None ≡ Some l = e in absurd cc
places_apart (x ∷ links) d zero zero l k e q differ = absurd (differ refl)
places_apart (x ∷ links) d zero (suc j) l k e q differ = ap (λ (z : Link). same_node (link_record z) (link_record k)) (sym (same_Some x l e)) ∙ past_first (link_record x) links d.0 j k q
places_apart (x ∷ links) d (suc i) zero l k e q differ =
    node_equiv.symm (link_record l) (link_record k) ∙ ap (λ (z : Link). same_node (link_record z) (link_record l)) (sym (same_Some x k q)) ∙ past_first (link_record x) links d.0 i l e
places_apart (x ∷ links) d (suc i) (suc j) l k e q differ = places_apart links d.1 i j l k e q (λ is. differ (ap (λ (n : ℕ). suc n) is))

-- the links at the places that are found by a node are those into it, each once
pub into_told : (s : Shown) (n : Node) (into : Node → List ℕ) → IsDistinct same_node (map link_record s.links) → AreInto (length s.links) s.links into → AreLinksInto s n (links_at s.links n (into n))
into_told s n into distinct under = record {
  each = λ l. (
    (λ h.
        let p = Contains-from_filter_map (λ i. only_into n (slice_get s.links i)) (into n) l h in
        let k = link_is n (slice_get s.links p.0) l p.2 in
        ((p.0, slice_get_within s.links p.0 l k.0, get_or_from_slice_get s.links p.0 l l k.0), same_node_is l.subject n k.1)),
    (λ h.
        let at : slice_get s.links (h.0).0 ≡ Some l = slice_get-get_or s.links (h.0).0 l (h.0).1 ∙ ap (λ (k : Link). Some k) (h.0).2 in
        let found : Contains (into n) (h.0).0 = subst (λ (m : Node). Contains (into m) (h.0).0) h.1 (under.found (h.0).0 l (h.0).1 at) in
        Contains-filter_map (λ i. only_into n (slice_get s.links i)) (into n) (h.0).0 l found
        (ap (λ (o : Option Link). only_into n o) at ∙ ap (λ (b : Bool). cond b (Some l) None) (ap (λ (m : Node). same_node l.subject m) (sym h.1) ∙ node_equiv.refl l.subject))),
  );
  once = made_distinct nat_eq link_record (λ i. only_into n (slice_get s.links i))
      (λ i j l k e q differ. places_apart s.links distinct i j l k (link_is n (slice_get s.links i) l e).0 (link_is n (slice_get s.links j) k q).0 (eqb-false i j differ)) (into n) (under.once n);
}

pub below_is : (n : ℕ) (o : Option ℕ) → IsBelow n o → (i : ℕ) × (o ≡ Some i) × (i < n)
below_is n None h = absurd h
below_is n (Some i) h = (i, refl, h)

-- a link's subject is listed, so it has a place
pub subject_placed : (day : ℤ) (nodes : List OpenNode) (rows : List Row) (place_of : Node → Option ℕ) → ArePlaces nodes place_of → (l : Link) → Contains (filter_map (link_in day nodes) rows) l → IsBelow (length nodes) (place_of l.subject)
subject_placed day nodes rows place_of are l h =
    let p = Contains-from_filter_map (link_in day nodes) rows l h in
    below (place_of l.subject) (subst (λ (x : Option OpenNode). IsSome x) (sym (are l.subject)) (subject_listed day nodes p.0 l p.2))
  where
    below : (o : Option ℕ) → IsSome (node_at_place nodes o) → IsBelow (length nodes) o
    below None some = absurd cc
    below (Some i) some = elim (slice_get_cases nodes i).1 [ inl found ↦ found.1 | inr past ↦ absurd (let no : IsSome {T = OpenNode} None = subst (λ (x : Option OpenNode). IsSome x) past.1 some in cc) ]

-- ---- an entity more

pub entities_none : (now : Sign → List Node) → AreUnder [] now
entities_none now x k h = absurd (none x h)

pub entities_more : (nodes : List OpenNode) (i : ℕ) (one : OpenNode) (was now : Sign → List Node) → i < length nodes → one ≡ get_or nodes i one → AreUnder (take i nodes) was → Stays was now → ((k : Sign) → HasSign one k → Contains (now k) one.node)
    → AreUnder (take (i + 1) nodes) now
entities_more nodes i one was now lt is before stays these x k on has = elim (Contains-take_more nodes i one x lt on) [
  | inl old ↦ stays k x.node (before x k old has)
  | inr e ↦ subst (λ (y : OpenNode). Contains (now k) y.node) (is ∙ sym e) (these k (subst (λ (y : OpenNode). HasSign y k) (e ∙ sym is) has))
]

-- what is listed of a node is in the lists
pub under_all : (s : Shown) (signed : Sign → List Node) (k : Sign) → AreUnder s.nodes signed → HaveSigned s k (signed k)
under_all s signed k are x at has = are x k (found_is s.nodes x.node x at).0 has
