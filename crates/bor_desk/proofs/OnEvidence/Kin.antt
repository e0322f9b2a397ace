-- The entities of a class by their signs.
use Rattle.std.proofs.Common.{◌≡◌, ◌⊎◌, ◌&&◌, ◌||◌, not, ◌++◌, ◌<◌, ◌+◌, ℕ, ℤ, option_and_then, Bool, true, false, cond, Option, Some, None, List, [], ◌∷◌, Contains, IsTrue, length, take, get_or, sym, ap, ◌∙◌, subst, inl, inr, arith, Vec, Global}
use Rattle.std.specs.BTreeMap.{BTreeMap, get}
use Rattle.std.specs.Ordering.{is_eq}
use Rattle.std.specs.declared.cmp.Ordering.{Ordering}
use Rattle.std.proofs.lemmas.Cmp.{tied_itself}
use Rattle.std.specs.Prelude.{IfSome}
use Rattle.std.proofs.lemmas.Bool.{and_parts, both_ways, cases_Bool, cond-false, cond-true}
use Rattle.std.proofs.lemmas.List.{take_more}
use Rattle.std.proofs.lemmas.List.Elements.{Contains-append_cases, Contains-append_left, Contains-append_right, Contains-push_cases}
use Rattle.std.proofs.lemmas.Map.Views.{tells_apart}
use Rattle.std.proofs.lemmas.Option.{same_Some}
use Rattle.bor_records.specs.declared.links.node.Node.{Node}
use Rattle.bor_records.specs.declared.links.node.OpenNode.{OpenNode}
use Rattle.bor_records.specs.declared.links.sign.Sign.{Sign}
use Rattle.bor_records.specs.Links.Aliases.{Alias, Same}
use Rattle.bor_records.specs.Links.Nodes.{node_cmp, same_node}
use Rattle.bor_records.specs.Links.Orders.{node_total}
use Rattle.bor_records.specs.Links.Shown.{Shown, is_entity, listed_at, same_record, share_identifier}
use Rattle.bor_records.specs.declared.row.Row.{Row}
use Rattle.bor_records.specs.Links.Rows.{node_in, nodes_of}
use Rattle.bor_records.specs.Links.Series.{open_at}
use Rattle.bor_records.proofs.OnLinks.ByKey.{listed_by_key}
use Rattle.bor_records.specs.Links.Signs.{sign_cmp, signs}
use Rattle.bor_records.proofs.OnLinks.Exact.{exact_node, exact_sign}
use Rattle.bor_records.proofs.OnLinks.Found.{here, none, one_of}
use Rattle.bor_records.proofs.OnLinks.Listed.{found_is}
use Rattle.bor_records.proofs.OnLinks.Sames.{alias_turn, same_turn}
use Rattle.bor_records.proofs.OnLinks.Signs.{in_common, common_alike}
use Rattle.bor_desk.specs.declared.evidence.kin.Kin.{Kin}
use Rattle.bor_desk.specs.Kin.{AreKin, AreTaken, HasSignAt, IsKinOf, NoneFound, signed_in, signs_listed, signs_under}
use Rattle.bor_records.specs.declared.links.values.Values.{Values}
use Rattle.bor_records.specs.Links.Values.{IsNoted, values_under, under}

-- ---- a value is put at a node, and nowhere else

pub put_here : {X : Type 0} (key : Node) (now new was : X) → now ≡ cond (is_eq (node_cmp key key)) new was → now ≡ new
put_here key now new was put = put ∙ ap (λ (o : Ordering). cond (is_eq o) new was) (tied_itself node_total key)

pub put_at : {X : Type 0} (key q : Node) (now new was : X) → now ≡ cond (is_eq (node_cmp key q)) new was → ((key ≡ q) × (now ≡ new)) ⊎ (now ≡ was)
put_at key q now new was put = elim (cases_Bool (is_eq (node_cmp key q))) [
  | inl e ↦ inl (tells_apart exact_node key q e, put ∙ cond-true _ new was e)
  | inr e ↦ inr (put ∙ cond-false _ new was e)
]

-- ---- aliases share a sign

pub with_sign : (s : Shown) (a b : Node) (k : Sign) → HasSignAt s a k → HasSignAt s b k → (a ≡ b) ⊎ Alias s a b
with_sign s a b k x y = elim (common_alike x.0 y.0 k x.2 y.2) [
  | inl same ↦ inl (sym (found_is s.nodes a x.0 x.1).1 ∙ same ∙ (found_is s.nodes b y.0 y.1).1)
  | inr alike ↦ inr (record { one = x.0; two = y.0; one_is = x.1; two_is = y.1; alike = alike })
]

pub sign_shared : (s : Shown) (a b : Node) → Alias s a b → (k : Sign) × HasSignAt s a k × HasSignAt s b k
sign_shared s a b h =
    let k = in_common h.one h.two h.alike in
    let both = and_parts (is_entity h.one.info && is_entity h.two.info) (same_record h.one.node h.two.node || share_identifier h.one.identifiers h.two.identifiers && not (same_node h.one.node h.two.node)) h.alike in
    let each = and_parts (is_entity h.one.info) (is_entity h.two.info) both.0 in
    (k.0, (h.one, h.one_is, (each.0, k.1)), (h.two, h.two_is, (each.1, k.2)))

-- ---- nodes are taken by signs

pub taken_more : (ks js : List Sign) (a b c : Sign → List Node) (u v w : List Node) → AreTaken ks a b u v → AreTaken js b c v w → AreTaken (ks ++ js) a c u w
taken_more ks js a b c u v w one two = record {
  kept = λ n h. two.kept n (one.kept n h);
  each = λ n h. grind (arith, two.each n h, one.each n, one.stays, Contains-append_left ks js, Contains-append_right ks js);
  every = λ k n on there. grind (arith, Contains-append_cases ks js k on, two.kept n, one.every k n, one.left k n there, two.every k n);
  stays = λ k n h. one.stays k n (two.stays k n h);
  left = λ k n h. elim (one.left k n h) [ inl left ↦ two.left k n left | inr now ↦ inr (two.kept n now) ];
}

pub taken_next : (ks : List Sign) (i : ℕ) (k : Sign) (a b c : Sign → List Node) (u v w : List Node) → i < length ks → k ≡ get_or ks i k → AreTaken (take i ks) a b u v → AreTaken (k ∷ []) b c v w → AreTaken (take (i + 1) ks) a c u w
taken_next ks i k a b c u v w lt at one two =
    subst (λ (js : List Sign). AreTaken js a c u w) (ap (λ (z : Sign). take i ks ++ z ∷ []) at ∙ sym (take_more ks i k lt)) (taken_more (take i ks) (k ∷ []) a b c u v w one two)

-- what a sign leads to is taken
pub taken_one : (m less : BTreeMap Sign (Values Node)) (k : Sign) (o : Option (Values Node)) (was now : List Node) → o ≡ get sign_cmp m k → ((q : Sign) → get sign_cmp less q ≡ cond (is_eq (sign_cmp k q)) None (get sign_cmp m q))
    → now ≡ was ++ values_under o → AreTaken (k ∷ []) (under sign_cmp m) (under sign_cmp less) was now
taken_one m less k o was now found removed more = record {
  kept = λ n h. subst (λ (ns : List Node). Contains ns n) (sym more) (Contains-append_left was (values_under o) n h);
  each = λ n h. elim (Contains-append_cases was (values_under o) n (subst (λ (ns : List Node). Contains ns n) more h)) [
    | inl old ↦ inl old
    | inr new ↦ inr (k, here k [], subst (λ (p : Option (Values Node)). Contains (values_under p) n) found new)
  ];
  every = λ j n on there. new n (subst (λ (z : Sign). Contains (under sign_cmp m z) n) (sym (one_of k j on)) there);
  stays = λ j n h. stays j n (is_eq (sign_cmp k j)) (subst (λ (p : Option (Values Node)). Contains (values_under p) n) (removed j) h);
  left = λ j n h. grind (arith, removed j, tells_apart exact_sign k j, new n);
}
  where
    new : (n : Node) → Contains (under sign_cmp m k) n → Contains now n
    new n h = subst (λ (ns : List Node). Contains ns n) (sym more) (Contains-append_right was (values_under o) n (subst (λ (p : Option (Values Node)). Contains (values_under p) n) (sym found) h))

    stays : (j : Sign) (n : Node) (b : Bool) → Contains (values_under (cond b None (get sign_cmp m j))) n → Contains (under sign_cmp m j) n
    stays j n true h = absurd (none n h)
    stays j n false h = h

-- ---- one entity after the other

-- what is listed of a record is what its latest statement makes
pub listed_of : (day : ℤ) (rows : List Row) (node : Node) (row : Option Row) (one : Option OpenNode) → row ≡ open_at day node rows → one ≡ option_and_then node_in row → listed_at (nodes_of day rows) node ≡ one
listed_of day rows node row one latest made = listed_by_key day node rows ∙ ap (λ (o : Option Row). option_and_then node_in o) (sym latest) ∙ sym made

-- a record that is no open entity has no sign
pub kin_same : (s : Shown) (nodes : List Node) (node : Node) (kin : Kin) (one : Option OpenNode) → listed_at s.nodes node ≡ one
    → IfSome one (λ x. is_entity x.info ≡ false) → AreKin s nodes NoneFound kin → AreKin s (nodes ++ node ∷ []) NoneFound kin
kin_same s nodes node kin one listed closed of = record {
  of_node = of.of_node;
  of_sign = of.of_sign;
  each = λ n k on has. of.each n k (old n k on has) has;
  every = λ n k on has. of.every n k (old n k on has) has;
}
  where
    old : (n : Node) (k : Sign) → Contains (nodes ++ node ∷ []) n → HasSignAt s n k → Contains nodes n
    old n k on has = elim (Contains-push_cases nodes node n on) [
      | inl was ↦ was
      | inr e ↦
          let is : one ≡ Some has.0 = sym listed ∙ ap (λ (z : Node). listed_at s.nodes z) e ∙ has.1 in
          let no : is_entity has.0.info ≡ false = subst (λ (o : Option OpenNode). IfSome o (λ x. is_entity x.info ≡ false)) is closed in
          absurd (both_ways (is_entity has.0.info) no (has.2).0)
    ]

module _ (s : Shown) (nodes : List Node) (one : OpenNode) (kin new : Kin) (key : Node) (v : Vec Sign Global) (keyed : key ≡ one.node) (own : v.items ≡ signs one)
    (put : (q : Node) → get node_cmp new.signs q ≡ cond (is_eq (node_cmp key q)) (Some v) (get node_cmp kin.signs q)) (noted : IsNoted (signs one) one.node (signed_in kin) (signed_in new))
    (listed : listed_at s.nodes one.node ≡ Some one) (entity : IsTrue (is_entity one.info)) where
  -- the signs of a node are its own, or as before
  signs_put : (n : Node) → ((one.node ≡ n) × (signs_listed new n ≡ signs one)) ⊎ (signs_listed new n ≡ signs_listed kin n)
  signs_put n = elim (put_at key n (get node_cmp new.signs n) (Some v) (get node_cmp kin.signs n) (put n)) [
    | inl p ↦ inl (sym keyed ∙ p.0, ap (λ (o : Option (Vec Sign Global)). signs_under o) p.1 ∙ own)
    | inr e ↦ inr (ap (λ (o : Option (Vec Sign Global)). signs_under o) e)
  ]

  has : (n : Node) (k : Sign) → one.node ≡ n → Contains (signs one) k → HasSignAt s n k
  has n k e h = subst (λ (z : Node). HasSignAt s z k) e (one, listed, (entity, h))

  own_sign : (n : Node) (k : Sign) → one.node ≡ n → HasSignAt s n k → Contains (signs one) k
  own_sign n k e x = subst (λ (y : OpenNode). Contains (signs y) k) (same_Some x.0 one (sym x.1 ∙ ap (λ (z : Node). listed_at s.nodes z) (sym e) ∙ listed)) (x.2).1

  pub kin_added : AreKin s nodes NoneFound kin → AreKin s (nodes ++ one.node ∷ []) NoneFound new
  kin_added of = record {
    of_node = λ n k h. elim (signs_put n) [
      | inl p ↦ has n k p.0 (subst (λ (ks : List Sign). Contains ks k) p.1 h)
      | inr e ↦ of.of_node n k (subst (λ (ks : List Sign). Contains ks k) e h)
    ];
    of_sign = λ n k h. elim (noted.only k n h) [ inl was ↦ of.of_sign n k was | inr p ↦ has n k (sym p.1) p.0 ];
    each = λ n k on x. elim (signs_put n) [
      | inl p ↦ subst (λ (ks : List Sign). Contains ks k) (sym p.1) (own_sign n k p.0 x)
      | inr e ↦ elim (Contains-push_cases nodes one.node n on) [
        | inl was ↦ subst (λ (ks : List Sign). Contains ks k) (sym e) (of.each n k was x)
        | inr is ↦ subst (λ (z : Node). Contains (signs_listed new z) k) is (subst (λ (ks : List Sign). Contains ks k) (sym at_own) (own_sign n k is x))
      ]
    ];
    every = λ n k on x. grind (arith, Contains-push_cases nodes one.node n on, of.every n k, noted.stays k n, noted.there k, own_sign n k);
  }
    where
      at_own : signs_listed new one.node ≡ signs one
      at_own = ap (λ (o : Option (Vec Sign Global)). signs_under o) (subst (λ (z : Node). get node_cmp new.signs z ≡ Some v) keyed (put_here key _ (Some v) (get node_cmp kin.signs key) (put key))) ∙ own

-- ---- the class of a goal

pub kin_then : (s : Shown) (goal : Node) (P Q : Node → Type 0) (kin : Kin) → ((x : Node) → P x → Q x) → IsKinOf s goal P kin → IsKinOf s goal Q kin
kin_then s goal P Q kin so of = record {
  nodes = of.nodes;
  same = of.same;
  told = record {
    of_node = (of.told).of_node;
    of_sign = (of.told).of_sign;
    each = (of.told).each;
    every = λ n k on has. elim ((of.told).every n k on has) [ inl there ↦ inl there | inr found ↦ inr (so n found) ];
  };
}

module _ (s : Shown) (goal y : Node) (P : Node → Type 0) (kin new : Kin) (near : List Node) (of : IsKinOf s goal P kin) (taken : AreTaken (signs_listed kin y) (signed_in kin) (signed_in new) [] near) where
  in_class : (n : Node) → Same s n goal → Contains of.nodes n
  in_class n h = ((of.same).each n).1 (same_turn s n goal h)

  -- what is taken by the signs of an entity is that one, or an alias
  pub taken_alias : (x : Node) → Contains near x → (y ≡ x) ⊎ Alias s y x
  taken_alias x h = elim (taken.each x h) [
    | inl was ↦ absurd (none x was)
    | inr t ↦ with_sign s y x t.0 ((of.told).of_node y t.0 t.1) ((of.told).of_sign x t.0 t.2)
  ]

  -- each alias is taken, or was found
  pub alias_taken : Same s y goal → (x : Node) → Alias s y x → Contains near x ⊎ P x
  alias_taken same x alias =
      let k = sign_shared s y x alias in
      let listed = (of.told).every x k.0 (in_class x (y ∷ same.0, (alias_turn s y x alias, same.1))) k.2 in
      grind (arith, listed, taken.every k.0 x ((of.told).each y k.0 (in_class y same) k.1))

-- once what is taken is found, too, the class is told as before
pub kin_taken : (s : Shown) (goal y : Node) (P Q : Node → Type 0) (kin new : Kin) (near : List Node) → IsKinOf s goal P kin → AreTaken (signs_listed kin y) (signed_in kin) (signed_in new) [] near → new.signs ≡ kin.signs
    → ((x : Node) → P x → Q x) → ((x : Node) → Contains near x → Q x) → IsKinOf s goal Q new
kin_taken s goal y P Q kin new near of taken signs so now = record {
  nodes = of.nodes;
  same = of.same;
  told = record {
    of_node = λ n k h. (of.told).of_node n k (subst (λ (m : BTreeMap Node (Vec Sign Global)). Contains (signs_under (get node_cmp m n)) k) signs h);
    of_sign = λ n k h. (of.told).of_sign n k (taken.stays k n h);
    each = λ n k on has. subst (λ (m : BTreeMap Node (Vec Sign Global)). Contains (signs_under (get node_cmp m n)) k) (sym signs) ((of.told).each n k on has);
    every = λ n k on has. grind (arith, (of.told).every n k on has, taken.left k n, now n, so n);
  };
}
