-- The search for ways by aliases, level by level; and that the way that is read off is the least.
use Rattle.std.proofs.Common.{◌≡◌, ◌⊎◌, ◌↔◌, ◌+◌, ◌<◌, ◌≤◌, ◌-◌, ◌++◌, ℕ, nat_lt, Bool, true, false, cond, Option, Some, None, List, [], ◌∷◌, Contains, IsTrue, length, sym, refl, ap, ◌∙◌, subst, inl, inr, arith, length-append, Vec, Global, append_assoc, append-nil}
use Rattle.std.specs.Prelude.{◌==◌, IfSome, IsSome, is_some, slice_index_or}
use Rattle.std.specs.BTreeMap.{BTreeMap, get}
use Rattle.std.specs.List.{slice_get}
use Rattle.std.specs.List.Sorted.{IsSorted}
use Rattle.std.specs.Ordering.{is_eq, is_le, is_lt, ordering_reverse}
use Rattle.std.specs.declared.cmp.Ordering.{Ordering}
use Rattle.std.specs.declared.cmp.Ordering.TheVariants.{Less, Equal, Greater}
use Rattle.std.proofs.lemmas.Bool.{eqb-true, ltb-true, ltb-false}
use Rattle.std.proofs.lemmas.Cmp.{tied_itself}
use Rattle.std.proofs.lemmas.List.Elements.{Contains-append_cases, Contains-append_left, Contains-append_right, Contains-push, Contains-push_cases}
use Rattle.std.proofs.lemmas.List.{nil_from_length}
use Rattle.std.proofs.lemmas.List.Sorted.{ranks_by, sorted_far}
use Rattle.std.proofs.lemmas.Option.{IfSome_then, same_Some, slice_get_within, get_or_from_slice_get, slice_get-get_or}
use Rattle.std.specs.Option.{option_and_then}
use Rattle.std.specs.Cmp.{IsTotalOrder, on_total, then_total, nat_cmp_total}
use Rattle.std.specs.Cmp.Lexicographic.{lists_total}
use Rattle.bor_records.specs.declared.links.node.Node.{Node}
use Rattle.bor_records.specs.Links.Nodes.{node_cmp}
use Rattle.bor_records.specs.Links.Orders.{node_total}
use Rattle.bor_records.specs.Links.Shown.{Shown}
use Rattle.bor_records.specs.Links.Aliases.{Alias, Same, IsAliasPath}
use Rattle.bor_records.specs.Links.Answers.{AreAliases}
use Rattle.bor_records.proofs.OnLinks.Exact.{exact_node}
use Rattle.bor_records.proofs.OnLinks.Found.{here, none, cases, one_of}
use Rattle.bor_records.proofs.OnLinks.Sames.{alias_turn}
use Rattle.bor_desk.specs.declared.evidence.kin.Kin.{Kin}
use Rattle.bor_desk.specs.declared.evidence.ways.Ways.{Ways}
use Rattle.bor_desk.specs.Kin.{AreTaken, IsKinOf, signed_in, signs_listed}
use Rattle.bor_desk.specs.Ways.{IsAway, IsNearer, Followers, AreAdded, IsFirstAlias, AreAll, AreFoundFrom, AreKnown, AreOfClass, AreWaysTo}
use Rattle.bor_desk.proofs.OnEvidence.Kin.{alias_taken, kin_taken, kin_then, put_at, put_here, taken_alias}
use Rattle.bor_register.proofs.OnMemory.Lists.{get_next}
use Rattle.bor_desk.specs.Evidence.{IsWay, way_cmp, IsLeastWay}

-- ---- what is there

value : {X : Type 0} (o : Option X) → IsSome o → (x : X) × (o ≡ Some x)
value None h = absurd cc
value (Some x) h = (x, refl)

some : {X : Type 0} (o : Option X) (x : X) → o ≡ Some x → IsSome o
some o x e = ap is_some e

either : {X : Type 0} (o : Option X) → (o ≡ None) ⊎ ((x : X) × (o ≡ Some x))
either None = inl refl
either (Some x) = inr (x, refl)

not_both : {X : Type 0} (o : Option X) (x : X) → o ≡ None → o ≡ Some x → ⊥
not_both o x e f = let no : None ≡ Some x = sym e ∙ f in cc

not_some : {X : Type 0} (o : Option X) → o ≡ None → IsSome o → ⊥
not_some o e h = let v = value o h in not_both o v.0 e v.1

pub not_there : {X : Type 0} (o : Option X) → is_some o ≡ false → o ≡ None
not_there o h = grind arith

got : (xs : List Node) (x : Node) → Contains xs x → (i : ℕ) × (slice_get xs i ≡ Some x)
got xs x h = (h.0, slice_get-get_or xs h.0 x h.1 ∙ ap (λ y. Some y) h.2)

got_is : (xs : List Node) (i : ℕ) (x : Node) → slice_get xs i ≡ Some x → Contains xs x
got_is xs i x h = (i, slice_get_within xs i x h, get_or_from_slice_get xs i x x h)

-- ---- one more

pub added_one : (node x : Node) (a b : Followers) (found : List Node) → a x ≡ None → ((q : Node) → b q ≡ cond (is_eq (node_cmp x q)) (Some (Some node)) (a q)) → AreAdded node (x ∷ []) a b found (found ++ x ∷ [])
added_one node x a b found gone put = record {
  stays = λ q next e. grind (arith, put_at x q (b q) (Some (Some node)) (a q) (put q), gone);
  each = λ q next was is. grind (arith, put_at x q (b q) (Some (Some node)) (a q) (put q), Contains-push [] x);
  every = λ q h. grind (arith, one_of x q h, put_here x (b x) (Some (Some node)) (a x) (put x));
  told = λ q. (
    λ h. grind (arith, Contains-push_cases found x q h, gone, put_here x (b x) (Some (Some node)) (a x) (put x)),
    λ h. grind (arith, h, Contains-append_left found (x ∷ []) q, put_at x q (b q) (Some (Some node)) (a q) (put q), Contains-push found x),
  );
}

-- ---- one after another

-- what stays is there
still : (a b : Followers) → ((x : Node) (next : Option Node) → a x ≡ Some next → b x ≡ Some next) → (x : Node) → IsSome (a x) → IsSome (b x)
still a b stays x h = let v = value (a x) h in some (b x) v.0 (stays x v.0 v.1)

pub added_more : (node : Node) (xs ys : List Node) (a b c : Followers) (f g h : List Node) → AreAdded node xs a b f g → AreAdded node ys b c g h → AreAdded node (xs ++ ys) a c f h
added_more node xs ys a b c f g h one two = record {
  stays = λ x next e. two.stays x next (one.stays x next e);
  each = λ x next gone is. grind (arith, two.each x next, one.each x, two.stays x, Contains-append_left xs ys x, Contains-append_right xs ys x);
  every = λ x on. elim (Contains-append_cases xs ys x on) [ inl p ↦ still b c two.stays x (one.every x p) | inr q ↦ two.every x q ];
  told = λ x. grind (arith, two.told x, one.told x, two.stays x, one.stays x);
}

-- ---- along a level

pub or_less : (m n : ℕ) → m ≤ n → (m ≡ n) ⊎ (m < n)
or_less m n le = grind arith

-- Each of the nodes that wasn't found before is an alias of y, and each alias of y is one of them, or was found before.
pub record AreNear (s : Shown) (y : Node) (nodes : List Node) (before : Followers) : Type 0 where
  pub each : (x : Node) → Contains nodes x → before x ≡ None → Alias s y x
  pub every : (x : Node) → Alias s y x → Contains nodes x ⊎ IsSome (before x)

pub found_more : (s : Shown) (level : List Node) (i : ℕ) (y : Node) (nodes : List Node) (a b c : Followers) (f g : List Node) → slice_get level i ≡ Some y → AreNear s y nodes b
    → AreFoundFrom s level i a b f → AreAdded y nodes b c f g → AreFoundFrom s level (i + 1) a c g
found_more s level i y nodes a b c f g is_y near one two = record {
  stays = λ x next e. two.stays x next (one.stays x next e);
  each = λ x next gone is. elim (either (b x)) [
    | inl e ↦ let t = two.each x next e is in (y, t.1, record { place = i; is = is_y; before = omega arith; alias = near.each x t.0 e; first = λ j z lt is_z alias. not_some (b x) e (one.every j z x lt is_z alias) })
    | inr v ↦
        let o = one.each x v.0 gone v.1 in
        let first = o.2 in
        let lt = first.before in
        (o.0, same_Some next v.0 (sym is ∙ two.stays x v.0 v.1) ∙ o.1, record { place = first.place; is = first.is; before = omega (arith, lt); alias = first.alias; first = first.first })
  ];
  every = λ j z x lt is_z alias. grind (arith, one.every j z x, near.every x, two.every x, two.stays x, is_y);
  told = λ x. grind (arith, two.told x, one.told x, two.stays x, one.stays x);
}

-- all of a level is the goal alone
pub found_goal : (s : Shown) (goal : Node) (level aliases : List Node) (a c : Followers) (f : List Node) → ((x : Node) → Contains level x ↔ (x ≡ goal)) → AreAliases s goal aliases → AreAdded goal aliases a c [] f
    → AreFoundFrom s level (length level) a c f
found_goal s goal [] aliases a c f alone are added = absurd (none goal ((alone goal).1 refl))
found_goal s goal (y ∷ ys) aliases a c f alone are added = record {
  stays = added.stays;
  each = λ x next gone is.
      let t = added.each x next gone is in
      (goal, t.1, record { place = 0; is = ap (λ (z : Node). Some z) ((alone y).0 (here y ys)); before = omega arith; alias = (are.each x).0 t.0; first = λ j z lt is_z alias. absurd (omega (arith, lt)) });
  every = λ i z x lt is_z alias. added.every x ((are.each x).1 (subst (λ (n : Node). Alias s n x) ((alone z).0 (got_is (y ∷ ys) i z is_z)) alias));
  told = λ x. (λ on. elim ((added.told x).0 on) [ inl was ↦ absurd (none x was) | inr new ↦ new ], λ new. (added.told x).1 (inr new));
}

-- ---- the start

no_steps : (s : Shown) (goal : Node) {x : Node} (cs : List Node) → IsAliasPath s x cs goal → length cs ≡ 0 → x ≡ goal
no_steps s goal [] st e = st
no_steps s goal (c ∷ cs) st e = absurd (omega (arith, e))

pub known_none : (s : Shown) (goal : Node) (a b : Followers) → ((q : Node) → a q ≡ None) → ((q : Node) → b q ≡ cond (is_eq (node_cmp goal q)) (Some None) (a q)) → IsSorted node_cmp (goal ∷ []) → AreKnown s goal 0 b (goal ∷ [])
known_none s goal a b empty put sorted = record {
  goal_found = put_here goal (b goal) (Some None) (a goal) (put goal);
  goal_alone = λ x is. elim (put_at goal x (b x) (Some None) (a x) (put x)) [ inl p ↦ sym p.0 | inr e ↦ absurd (not_both (b x) None (e ∙ empty x) is) ];
  each = λ x y is. absurd (grind (arith, put_at goal x (b x) (Some None) (a x) (put x), empty x));
  every = every;
  level_is = λ x. (
    λ h. elim (cases goal [] x h) [ inl e ↦ record { through = []; steps = sym e; long = refl; least = λ cs st. omega arith } | inr never ↦ absurd (none x never) ],
    λ away. subst (λ (z : Node). Contains (goal ∷ []) z) (sym (no_steps s goal away.through away.steps away.long)) (Contains-push [] goal),
  );
  sorted = sorted;
}
  where
    every : (x : Node) (cs : List Node) → IsAliasPath s x cs goal → length cs ≤ 0 → IsSome (b x)
    every x [] st le = subst (λ (z : Node). IsSome (b z)) (sym st) (some (b goal) None (put_here goal (b goal) (Some None) (a goal) (put goal)))
    every x (c ∷ cs) st le = absurd (omega (arith, le))

-- ---- a level more

not_greater : (o p : Ordering) → o ≡ ordering_reverse p → is_lt p ≡ false → IsTrue (is_le o)
not_greater o p turned h = grind arith

in_turn : (xs : List Node) → IsSorted node_cmp xs → (i j : ℕ) (y z : Node) → i ≤ j → slice_get xs i ≡ Some y → slice_get xs j ≡ Some z → IsTrue (is_le (node_cmp y z))
in_turn xs sorted i j y z le one two = not_greater (node_cmp y z) (node_cmp z y) (node_total.antisymm y z)
    (subst (λ (x : Node). is_lt (node_cmp z x) ≡ false) (get_or_from_slice_get xs i y y one)
    (subst (λ (x : Node). is_lt (node_cmp x (slice_index_or xs i y)) ≡ false) (get_or_from_slice_get xs j z y two)
    (sorted_far (λ x y. is_lt (node_cmp x y)) (ranks_by node_total (λ (x : Node). x)) xs sorted i j y le (slice_get_within xs j z two))))

or_more : (m n : ℕ) → (m ≤ n) ⊎ (n + 1 ≤ m)
or_more m n = grind arith

-- what is known is so many aliases away
away : (s : Shown) (goal : Node) (depth : ℕ) (a : Followers) (level : List Node) → AreKnown s goal depth a level → (x : Node) → IsSome (a x) → (n : ℕ) × (n ≤ depth) × IsAway s goal x n
away s goal depth a level known x h = at (a x) refl h
  where
    at : (o : Option (Option Node)) → a x ≡ o → IsSome o → (n : ℕ) × (n ≤ depth) × IsAway s goal x n
    at None e h = absurd cc
    at (Some None) e h = (0, omega arith, record { through = []; steps = known.goal_alone x e; long = refl; least = λ cs st. omega arith })
    at (Some (Some y)) e h = let n = known.each x y e in let nearer = n.0 in (nearer.count + 1, omega (arith, n.1), nearer.away)

-- what is one alias from what is known is known, or from the last level
one_more : (s : Shown) (goal : Node) (depth : ℕ) (a : Followers) (level : List Node) → AreKnown s goal depth a level → (x c : Node) → Alias s x c → IsSome (a c) → IsSome (a x) ⊎ Contains level c
one_more s goal depth a level known x c alias h =
    let d = away s goal depth a level known c h in
    let w = d.2 in
    elim (or_less d.0 depth d.1) [
      | inl same ↦ inr ((known.level_is c).1 (subst (λ (n : ℕ). IsAway s goal c n) same w))
      | inr less ↦ inl (known.every x (c ∷ w.through) (alias, w.steps) (let long = w.long in omega (arith, long, less)))
    ]

pub known_more : (s : Shown) (goal : Node) (depth : ℕ) (a b : Followers) (level found next : List Node) → AreKnown s goal depth a level → AreFoundFrom s level (length level) a b found
    → ((x : Node) → Contains next x ↔ Contains found x) → IsSorted node_cmp next → AreKnown s goal (depth + 1) b next
known_more s goal depth a b level found next known from same sorted = record {
  goal_found = from.stays goal None known.goal_found;
  goal_alone = λ x is. grind (arith, from.each x None, from.stays x, known.goal_alone x);
  each = each;
  every = every;
  level_is = λ x. (
    λ on. let new = (from.told x).0 ((same x).0 on) in let v = value (b x) new.1 in new_away x v.0 new.0 v.1,
    λ w. (same x).1 ((from.told x).1 (not_yet x w, every x w.through w.steps (let long = w.long in omega (arith, long)))),
  );
  sorted = sorted;
}
  where
    new_away : (x : Node) (o : Option Node) → a x ≡ None → b x ≡ Some o → IsAway s goal x (depth + 1)
    new_away x o gone is =
        let f = from.each x o gone is in
        let first = f.2 in
        let w = (known.level_is f.0).0 (got_is level first.place f.0 first.is) in
        record {
          through = f.0 ∷ w.through;
          steps = (alias_turn s f.0 x first.alias, w.steps);
          long = let long = w.long in omega (arith, long);
          least = λ cs st. elim (or_more (length cs) depth) [ inl le ↦ absurd (not_some (a x) gone (known.every x cs st le)) | inr gt ↦ gt ];
        }

    each : (x y : Node) → b x ≡ Some (Some y) → (nearer : IsNearer s goal x y) × (nearer.count < depth + 1)
    each x y is = elim (either (a x)) [
      | inr v ↦
          let k = known.each x y (v.1 ∙ ap (λ z. Some z) (same_Some v.0 (Some y) (sym (from.stays x v.0 v.1) ∙ is))) in
          (k.0, let lt = k.1 in omega (arith, lt))
      | inl gone ↦
          let f = from.each x (Some y) gone is in
          let first : IsFirstAlias s level (length level) x y = subst (λ (z : Node). IsFirstAlias s level (length level) x z) (sym (same_Some y f.0 f.1)) f.2 in
          let w = (known.level_is y).0 (got_is level first.place y first.is) in
          (record { count = depth; away = new_away x (Some y) gone is; alias = alias_turn s y x first.alias; nearer = w; first = λ z alias z_away. least first z alias ((known.level_is z).1 z_away) }, omega arith)
    ]
      where
        least : IsFirstAlias s level (length level) x y → (z : Node) → Alias s x z → Contains level z → IsTrue (is_le (node_cmp y z))
        least first z alias on = at (got level z on).0 (got level z on).1 (nat_lt (got level z on).0 first.place) refl
          where
            at : (j : ℕ) → slice_get level j ≡ Some z → (c : Bool) → nat_lt j first.place ≡ c → IsTrue (is_le (node_cmp y z))
            at j is_z true e = absurd (first.first j z (ltb-true j first.place e) is_z (alias_turn s x z alias))
            at j is_z false e = in_turn level known.sorted first.place j y z (ltb-false j first.place e) first.is is_z

    every : (x : Node) (cs : List Node) → IsAliasPath s x cs goal → length cs ≤ depth + 1 → IsSome (b x)
    every x [] st le = still a b from.stays x (known.every x [] st (omega arith))
    every x (c ∷ cs) st le = elim (one_more s goal depth a level known x c st.0 (known.every c cs st.1 (omega (arith, le)))) [
      | inl on ↦ still a b from.stays x on
      | inr last ↦ let g = got level c last in from.every g.0 c x (slice_get_within level g.0 c g.1) g.1 (alias_turn s x c st.0)
    ]

    not_yet : (x : Node) → IsAway s goal x (depth + 1) → a x ≡ None
    not_yet x w = elim (either (a x)) [
      | inl gone ↦ gone
      | inr v ↦
          let d = away s goal depth a level known x (some (a x) v.0 v.1) in
          let near = d.2 in
          absurd (let no = w.least near.through near.steps in let long = near.long in let le = d.1 in omega (arith, no, long, le))
    ]

-- ---- the end

-- after an empty level all are found
pub known_all : (s : Shown) (goal : Node) (depth : ℕ) (a : Followers) (level : List Node) → AreKnown s goal depth a level → level ≡ [] → (x : Node) (cs : List Node) → IsAliasPath s x cs goal → IsSome (a x)
known_all s goal depth a level known empty x [] st = known.every x [] st (omega arith)
known_all s goal depth a level known empty x (c ∷ cs) st = elim (one_more s goal depth a level known x c st.0 (known_all s goal depth a level known empty c cs st.1)) [
  | inl on ↦ on
  | inr last ↦ absurd (none c (subst (λ (xs : List Node). Contains xs c) empty last))
]

-- ---- the search as a value

pub no_items : (v : Vec Node Global) → (v.len == 0) ≡ true → v.items ≡ []
no_items v h = nil_from_length v.items (let same = v.ok.0 in let zero = eqb-true v.len 0 h in omega (arith, zero, same))

abbrev pub last_level : Ways → Option (Vec Node Global)
last_level w = slice_get w.levels.items (length w.levels.items - 1)

last_is : (s : Shown) (goal : Node) (w : Ways) (level : Vec Node Global) → (known : AreWaysTo s goal w) → last_level w ≡ Some level → known.level ≡ level
last_is s goal w level known is =
    let long = known.long in
    let at : length w.levels.items - 1 ≡ known.depth = omega (arith, long) in
    same_Some known.level level (sym known.last ∙ ap (slice_get w.levels.items) (sym at) ∙ is)

pub ways_all : (s : Shown) (goal : Node) (w : Ways) (level : Vec Node Global) → AreWaysTo s goal w → last_level w ≡ Some level → level.items ≡ [] → AreAll s goal w
ways_all s goal w level known is empty x same =
    known_all s goal known.depth (λ x. get node_cmp w.after x) (known.level).items known.known (ap (λ (v : Vec Node Global). v.items) (last_is s goal w level known is) ∙ empty) x same.0 same.1

with_kin : (s : Shown) (goal : Node) (a w : Ways) → w.levels ≡ a.levels → w.after ≡ a.after → IfSome w.kin (IsKinOf s goal (λ x. IsSome (get node_cmp w.after x))) → AreWaysTo s goal a → AreWaysTo s goal w
with_kin s goal a w levels after kin known = record {
  depth = known.depth;
  level = known.level;
  last = ap (λ (vs : Vec (Vec Node Global) Global). slice_get vs.items known.depth) levels ∙ known.last;
  long = ap (λ (vs : Vec (Vec Node Global) Global). length vs.items) levels ∙ known.long;
  known = subst (λ (m : BTreeMap Node (Option Node)). AreKnown s goal known.depth (λ x. get node_cmp m x) (known.level).items) (sym after) known.known;
  kin = kin;
}

last_of : (s : Shown) (goal : Node) (w : Ways) → (known : AreWaysTo s goal w) → last_level w ≡ Some known.level
last_of s goal w known =
    let long = known.long in
    let at : length w.levels.items - 1 ≡ known.depth = omega (arith, long) in
    ap (slice_get w.levels.items) at ∙ known.last

pub ways_more : (s : Shown) (goal : Node) (a w : Ways) (level next : Vec Node Global) (found : List Node) → last_level a ≡ Some level
    → AreFoundFrom s level.items (length level.items) (λ x. get node_cmp a.after x) (λ x. get node_cmp w.after x) found
    → ((x : Node) → Contains next.items x ↔ Contains found x) → IsSorted node_cmp next.items → w.levels.items ≡ a.levels.items ++ next ∷ [] → w.kin ≡ a.kin → AreWaysTo s goal a → AreWaysTo s goal w
ways_more s goal a w level next found is from same sorted more kin known = record {
  depth = known.depth + 1;
  level = next;
  last = ap (λ (xs : List (Vec Node Global)). slice_get xs (known.depth + 1)) more ∙ ap (λ (n : ℕ). slice_get (a.levels.items ++ next ∷ []) n) (sym known.long) ∙ get_next a.levels.items next [];
  long = ap length more ∙ length-append a.levels.items (next ∷ []) ∙ ap (λ (n : ℕ). n + 1) known.long;
  known = known_more s goal known.depth (λ x. get node_cmp a.after x) (λ x. get node_cmp w.after x) level.items found next.items
      (subst (λ (v : Vec Node Global). AreKnown s goal known.depth (λ x. get node_cmp a.after x) v.items) (last_is s goal a level known is) known.known) from same sorted;
  kin = subst (λ (o : Option Kin). IfSome o (IsKinOf s goal (λ x. IsSome (get node_cmp w.after x)))) (sym kin)
      (IfSome_then a.kin known.kin (λ k h. kin_then s goal (λ x. IsSome (get node_cmp a.after x)) (λ x. IsSome (get node_cmp w.after x)) k (still (λ x. get node_cmp a.after x) (λ x. get node_cmp w.after x) from.stays) h));
}

-- the aliases of the goal are the second level
pub ways_near : (s : Shown) (goal : Node) (a w : Ways) (next : Vec Node Global) (aliases found : List Node) → length a.levels.items ≤ 1 → AreAliases s goal aliases
    → AreAdded goal aliases (λ x. get node_cmp a.after x) (λ x. get node_cmp w.after x) [] found
    → ((x : Node) → Contains next.items x ↔ Contains found x) → IsSorted node_cmp next.items → w.levels.items ≡ a.levels.items ++ next ∷ [] → w.kin ≡ a.kin → AreWaysTo s goal a → AreWaysTo s goal w
ways_near s goal a w next aliases found few are added same sorted more kin known =
    ways_more s goal a w known.level next found (last_of s goal a known) (found_goal s goal (known.level).items aliases (λ x. get node_cmp a.after x) (λ x. get node_cmp w.after x) found alone are added) same sorted more kin known
  where
    start : known.depth ≡ 0
    start = let long = known.long in omega (arith, long, few)

    alone : (x : Node) → Contains (known.level).items x ↔ (x ≡ goal)
    alone x = (
      λ on. let away = ((known.known).level_is x).0 on in no_steps s goal away.through away.steps (away.long ∙ start),
      λ is. ((known.known).level_is x).1 (record { through = []; steps = is; long = sym start; least = λ cs st. omega (arith, start) }),
    )

-- each of the last level is one with the goal, and found
pub level_known : (s : Shown) (goal : Node) (w : Ways) (level : Vec Node Global) → AreWaysTo s goal w → last_level w ≡ Some level → AreOfClass s goal level.items (λ x. get node_cmp w.after x)
level_known s goal w level known is x on =
    let away = ((known.known).level_is x).0 (subst (λ (v : Vec Node Global). Contains v.items x) (sym (last_is s goal w level known is)) on) in
    let long = away.long in
    ((away.through, away.steps), (known.known).every x away.through away.steps (omega (arith, long)))

-- one of a level leads to more
pub found_kin : (s : Shown) (goal : Node) (level : List Node) (i : ℕ) (y : Node) (near : List Node) (kin new : Kin) (a b c : Followers) (f g : List Node) → slice_get level i ≡ Some y → AreOfClass s goal level a → new.signs ≡ kin.signs
    → AreTaken (signs_listed kin y) (signed_in kin) (signed_in new) [] near → AreAdded y near b c f g → AreFoundFrom s level i a b f × IsKinOf s goal (λ x. IsSome (b x)) kin
    → AreFoundFrom s level (i + 1) a c g × IsKinOf s goal (λ x. IsSome (c x)) new
found_kin s goal level i y near kin new a b c f g is_y class signs taken added so_far = (
  found_more s level i y near a b c f g is_y (record { each = each; every = alias_taken s goal y (λ x. IsSome (b x)) kin new near so_far.1 taken here.0 }) so_far.0 added,
  kin_taken s goal y (λ x. IsSome (b x)) (λ x. IsSome (c x)) kin new near so_far.1 taken signs (still b c added.stays) added.every,
)
  where
    here : Same s y goal × IsSome (b y)
    here = let on = class y (got_is level i y is_y) in (on.0, still a b (so_far.0).stays y on.1)

    each : (x : Node) → Contains near x → b x ≡ None → Alias s y x
    each x on gone = elim (taken_alias s goal y (λ x. IsSome (b x)) kin new near so_far.1 taken x on) [ inl e ↦ absurd (not_some (b y) (subst (λ (z : Node). b z ≡ None) (sym e) gone) here.1) | inr alias ↦ alias ]

-- the class is taken out, and put back
pub kin_out : (s : Shown) (goal : Node) (a w : Ways) → w.levels ≡ a.levels → w.after ≡ a.after → w.kin ≡ None → AreWaysTo s goal a → AreWaysTo s goal w
kin_out s goal a w levels after kin known = with_kin s goal a w levels after (subst (λ (o : Option Kin). IfSome o (IsKinOf s goal (λ x. IsSome (get node_cmp w.after x)))) (sym kin) tt) known

pub kin_in : (s : Shown) (goal : Node) (a w : Ways) (kin : Kin) → w.levels ≡ a.levels → w.after ≡ a.after → w.kin ≡ Some kin → IsKinOf s goal (λ x. IsSome (get node_cmp a.after x)) kin → AreWaysTo s goal a → AreWaysTo s goal w
kin_in s goal a w kin levels after put of known = with_kin s goal a w levels after
    (subst (λ (o : Option Kin). IfSome o (IsKinOf s goal (λ x. IsSome (get node_cmp w.after x)))) (sym put) (subst (λ (m : BTreeMap Node (Option Node)). IsKinOf s goal (λ x. IsSome (get node_cmp m x)) kin) (sym after) of)) known

pub ways_none : (s : Shown) (goal : Node) (w : Ways) (level : Vec Node Global) (empty : Followers) → w.levels.items ≡ level ∷ [] → level.items ≡ goal ∷ [] → ((q : Node) → empty q ≡ None)
    → ((q : Node) → get node_cmp w.after q ≡ cond (is_eq (node_cmp goal q)) (Some None) (empty q)) → w.kin ≡ None → AreWaysTo s goal w
ways_none s goal w level empty one alone none_there put kin = record {
  depth = 0;
  level = level;
  last = ap (λ (xs : List (Vec Node Global)). slice_get xs 0) one;
  long = ap length one;
  known = subst (λ (xs : List Node). AreKnown s goal 0 (λ x. get node_cmp w.after x) xs) (sym alone)
      (known_none s goal empty (λ x. get node_cmp w.after x) none_there put (λ k d le lt. absurd (omega (arith, lt))));
  kin = subst (λ (o : Option Kin). IfSome o (IsKinOf s goal (λ x. IsSome (get node_cmp w.after x)))) (sym kin) tt;
}

-- ways are put at a goal
pub goals_put : (s : Shown) (a b : Node → Option Ways) (key : Node) (ways : Ways) → ((q : Node) → b q ≡ cond (is_eq (node_cmp key q)) (Some ways) (a q))
    → ((goal : Node) (w : Ways) → a goal ≡ Some w → AreWaysTo s goal w) → AreWaysTo s key ways → (goal : Node) (w : Ways) → b goal ≡ Some w → AreWaysTo s goal w
goals_put s a b key ways put known to goal w is = elim (put_at key goal (b goal) (Some ways) (a goal) (put goal)) [
  | inl p ↦ subst (λ (n : Node). AreWaysTo s n w) p.0 (subst (λ (v : Ways). AreWaysTo s key v) (same_Some ways w (sym p.1 ∙ is)) to)
  | inr e ↦ known goal w (sym e ∙ is)
]

-- ---- the order of ways

abbrev IsNotAfter : List Node → List Node → Type 0
IsNotAfter cs ds = IsTrue (is_le (way_cmp cs ds))

-- a first record that is less
less_first : (c d : Node) (cs ds : List Node) → length cs ≡ length ds → node_cmp c d ≡ Less → IsNotAfter (c ∷ cs) (d ∷ ds)
less_first c d cs ds long less = grind arith

-- one first record
same_first : (c : Node) (cs ds : List Node) → length cs ≡ length ds → IsNotAfter cs ds → IsNotAfter (c ∷ cs) (c ∷ ds)
same_first c cs ds long h = grind (arith, tied_itself node_total c)

shorter : (cs ds : List Node) → length cs < length ds → IsNotAfter cs ds
shorter cs ds lt = grind arith

pub way_total : IsTotalOrder way_cmp
way_total = then_total (on_total (λ (cs : List Node). length cs) nat_cmp_total) (lists_total node_total)

itself : (cs : List Node) → IsNotAfter cs cs
itself cs = ap (λ (o : Ordering). is_le o) (tied_itself way_total cs)

-- ---- along the least

-- the goal alone
pub least_goal : (s : Shown) (goal : Node) → IsLeastWay s goal (goal ∷ []) goal
least_goal s goal = record { is_way = (refl, refl); least = least }
  where
    least : (other : List Node) → IsWay s goal other goal → IsNotAfter (goal ∷ []) other
    least [] w = absurd w
    least (c ∷ []) w = subst (λ (z : Node). IsNotAfter (goal ∷ []) (z ∷ [])) (sym w.0) (itself (goal ∷ []))
    least (c ∷ d ∷ ds) w = shorter (goal ∷ []) (c ∷ d ∷ ds) (omega arith)

-- from the first of the nearer ones its least way, from the entity before it the least too
pub least_more : (s : Shown) (goal x y : Node) (ys : List Node) → IsNearer s goal x y → IsLeastWay s y (y ∷ ys) goal → IsLeastWay s x (x ∷ y ∷ ys) goal
least_more s goal x y ys nearer way = record { is_way = (refl, (nearer.alias, way.is_way.1)); least = least }
  where
    count : ℕ
    count = nearer.count

    long : length ys ≡ count
    long =
        let near = nearer.nearer in
        let le = no_longer (y ∷ ys) (y ∷ near.through) (way.least (y ∷ near.through) (refl, near.steps)) in
        let same = near.long in
        let ge = near.least ys way.is_way.1 in
        omega (arith, le, same, ge)
      where
        no_longer : (cs ds : List Node) → IsNotAfter cs ds → length cs ≤ length ds
        no_longer cs ds h = grind (arith, h)

    least : (other : List Node) → IsWay s x other goal → IsNotAfter (x ∷ y ∷ ys) other
    least [] w = absurd w
    least (c ∷ []) w = absurd (let no = nearer.away.least [] w.1 in omega (arith, no))
    least (c ∷ d ∷ ds) w = subst (λ (z : Node). IsNotAfter (x ∷ y ∷ ys) (z ∷ d ∷ ds)) (sym w.0) (elim (or_less count (length ds) (let le = nearer.away.least (d ∷ ds) w.1 in omega (arith, le))) [
      | inr lt ↦ shorter (x ∷ y ∷ ys) (x ∷ d ∷ ds) (omega (arith, lt, long))
      | inl same ↦ same_first x (y ∷ ys) (d ∷ ds) (omega (arith, same, long)) (second same (node_cmp y d) refl)
    ])
      where
        d_away : count ≡ length ds → IsAway s goal d count
        d_away same = record { through = ds; steps = w.1.1; long = sym same; least = λ cs st. let le = nearer.away.least (d ∷ cs) (w.1.0, st) in omega (arith, le) }

        second : count ≡ length ds → (o : Ordering) → node_cmp y d ≡ o → IsNotAfter (y ∷ ys) (d ∷ ds)
        second same Less e = less_first y d ys ds (omega (arith, same, long)) e
        second same Equal e =
            let one = exact_node y d e in
            way.least (d ∷ ds) (sym one, subst (λ (z : Node). IsAliasPath s z ds goal) (sym one) w.1.1)
        second same Greater e = absurd (let no : false ≡ true = ap (λ (o : Ordering). is_le o) (sym e) ∙ nearer.first d w.1.0 (d_away same) in cc)

-- ---- as it is read off

-- the rest of the way from a node on it gives the whole
pub record IsOnWay (s : Shown) (goal node at : Node) (way : List Node) : Type 0 where
  pub rest : (cs : List Node) → IsLeastWay s at (at ∷ cs) goal → IsLeastWay s node (way ++ cs) goal

pub way_goes_on : (s : Shown) (goal node at next : Node) (way : List Node) → IsNearer s goal at next → IsOnWay s goal node at way → IsOnWay s goal node next (way ++ next ∷ [])
way_goes_on s goal node at next way nearer on = record {
  rest = λ cs h. subst (λ (ds : List Node). IsLeastWay s node ds goal) (sym (append_assoc way (next ∷ []) cs)) (on.rest (next ∷ cs) (least_more s goal at next cs nearer h));
}

pub way_ends : (s : Shown) (goal node at : Node) (way : List Node) → at ≡ goal → IsOnWay s goal node at way → IsLeastWay s node way goal
way_ends s goal node at way here on =
    subst (λ (ds : List Node). IsLeastWay s node ds goal) (append-nil way)
    (on.rest [] (subst (λ (z : Node). IsLeastWay s z (z ∷ []) goal) (sym here) (least_goal s goal)))

-- what follows is known
pub follows_known : (s : Shown) (goal : Node) (depth : ℕ) (a : Followers) (level : List Node) → AreKnown s goal depth a level → (x y : Node) → a x ≡ Some (Some y) → IsNearer s goal x y × IsSome (a y)
follows_known s goal depth a level known x y is =
    let k = known.each x y is in
    let near = (k.0).nearer in
    (k.0, known.every y near.through near.steps (let long = near.long in let lt = k.1 in omega (arith, long, lt)))

pub followed : (o : Option (Option Node)) (n : Node) → Some n ≡ option_and_then (λ x. x) o → o ≡ Some (Some n)
followed o n e = grind arith

pub unfollowed : (o : Option (Option Node)) → IsSome o → None ≡ option_and_then (λ x. x) o → o ≡ Some None
unfollowed o h e = grind arith
