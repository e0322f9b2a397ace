-- The signs of what is listed: candidates that have one, what has an identifier, and nodes that stand for one entity, sign by sign.
use Rattle.std.proofs.Common.{◌≡◌, ◌↔◌, ◌⊎◌, ◌+◌, ◌<◌, ◌&&◌, ◌||◌, not, ℕ, Bool, true, false, cond, Option, Some, None, option_map, option_and_then, List, [], Contains, IsTrue, map, take, length, get_or, refl, sym, ap, ◌∙◌, subst, inl, inr, ◌≢◌, ◌≤◌, ◌++◌, ◌∷◌, arith, append-nil, append_assoc}
use Rattle.std.specs.List.{IsDistinct, list_any}
use Rattle.std.specs.Ordering.{is_eq}
use Rattle.std.proofs.lemmas.Bool.{and_parts, cond_both}
use Rattle.std.proofs.Math.Bool.{and-false}
use Rattle.std.proofs.lemmas.List.{take-append-le, take_all}
use Rattle.std.proofs.lemmas.List.Elements.{Contains-get_or, Contains-append_left, Contains-append_right, Contains-append_cases}
use Rattle.std.proofs.lemmas.Map.Views.{tells_apart}
use Rattle.bor_terms.specs.Texts.{is_same}
use Rattle.bor_terms.proofs.Texts.{is_same-of, same_is, same_refl}
use Rattle.bods_read.specs.declared.details.Identifier.{Identifier}
use Rattle.bor_records.specs.declared.links.node.Node.{Node}
use Rattle.bor_records.specs.declared.links.node.OpenNode.{OpenNode}
use Rattle.bor_records.specs.declared.links.sign.Sign.{Sign}
use Rattle.bor_records.specs.Links.Aliases.{Alias, Same}
use Rattle.bor_records.specs.Links.Answers.{AreDistinct, AreIdentified, HaveSigned, Identified, AreAliases, AreSame}
use Rattle.bor_records.specs.Links.Candidates.{IsFound, IsFoundIn}
use Rattle.bor_records.specs.Links.Growth.{Grown}
use Rattle.bor_records.specs.Links.Nodes.{same_node}
use Rattle.bor_records.specs.Links.Shown.{Shown, entity_identifiers, identifiers_in, is_entity, listed_at, same_identifier, same_record, share_identifier, are_alike}
use Rattle.bor_records.specs.Links.Signs.{HasSign, by_identifier, by_record, signs, signs_given, signs_in, signs_with, sign_cmp}
use Rattle.bor_records.specs.Links.Alike.{Expands}
use Rattle.bor_records.proofs.OnLinks.Exact.{sign_is, exact_sign}
use Rattle.bor_records.proofs.OnLinks.Found.{cases, here, none, Contains-from_map, one_of}
use Rattle.bor_records.proofs.OnLinks.Growth.{grown_cases, grown_like, grown_more, grown_none, Contains-take_front, Contains-take_last, Contains-take_more}
use Rattle.bor_records.proofs.OnLinks.Listed.{found_is, listed_is}
use Rattle.bor_records.proofs.OnLinks.Signs.{common_alike, identified_by, in_common, identifiers_more}
use Rattle.bor_records.proofs.OnLinks.Sames.{same_more, same_reached}

-- ---- the test of a sign

pub record_has : (k : Sign) (n : Node) (ids : List Identifier) (b : Bool) → k.of_record ≡ true → b ≡ (is_same k.name n.rec && is_same k.group n.agent) → IsTrue b ↔ Contains (signs_with n ids) k
record_has k n ids b kind is = (
  (λ t.
      let p = and_parts (is_same k.name n.rec) (is_same k.group n.agent) (sym is ∙ t) in
      subst (λ (z : Sign). Contains (signs_with n ids) z) (sign_is (by_record n) k (sym kind) (sym (same_is k.group n.agent p.1)) (sym (same_is k.name n.rec p.0))) (here (by_record n) (map by_identifier ids))),
  (λ h. elim (cases (by_record n) (map by_identifier ids) k h) [
    | inl e ↦ is ∙ ap (λ (t : Bool). t && is_same k.group n.agent) (is_same-of k.name n.rec (sym (ap (λ (z : Sign). z.name) e))) ∙ is_same-of k.group n.agent (sym (ap (λ (z : Sign). z.group) e))
    | inr r ↦ grind (arith, Contains-from_map by_identifier ids k r, kind)
  ]),
)

module _ (s : Shown) where
  -- ---- the signs of a node that is listed

  pub signs_listed : (n : Node) (x : OpenNode) → listed_at s.nodes n ≡ Some x → is_entity x.info ≡ true → signs_in s n ≡ signs x
  signs_listed n x at entity = grind (arith, found_is s.nodes n x at)

  pub signed_is : (n : Node) (k : Sign) → Contains (signs_in s n) k → (x : OpenNode) × (listed_at s.nodes n ≡ Some x) × HasSign x k
  signed_is n k h = go (listed_at s.nodes n) refl h
    where
      go : (o : Option OpenNode) → listed_at s.nodes n ≡ o → Contains (signs_given n (option_and_then entity_identifiers o)) k → (y : OpenNode) × (listed_at s.nodes n ≡ Some y) × HasSign y k
      go None at c = absurd (none k c)
      go (Some x) at c = cond_both (is_entity x.info) (Some x.identifiers) None (λ o. Contains (signs_given n o) k → (y : OpenNode) × (listed_at s.nodes n ≡ Some y) × HasSign y k)
          (λ entity own. (x, at, (entity, subst (λ (m : Node). Contains (signs_with m x.identifiers) k) (sym (found_is s.nodes n x at).1) own))) (λ other own. absurd (none k own)) c

  -- what is told of the node
  module _ {I : Type 0} (items : I → List Identifier) (n : Node) (found : Option I) (told : option_map items found ≡ identifiers_in s.nodes n) where
    pub no_signs : found ≡ None → signs_in s n ≡ []
    no_signs gone = ap (λ (o : Option (List Identifier)). signs_given n o) (sym told ∙ ap (λ (o : Option I). option_map items o) gone)

    pub signs_told : (one : I) → found ≡ Some one → signs_in s n ≡ signs_with n (items one)
    signs_told one is = ap (λ (o : Option (List Identifier)). signs_given n o) (sym told ∙ ap (λ (o : Option I). option_map items o) is)

    pub has_none : (k : Sign) → found ≡ None → IsTrue false ↔ Contains (signs_in s n) k
    has_none k gone = (
      (λ t. absurd (let no : false ≡ true = t in cc)),
      (λ h. absurd (none k (subst (λ (ks : List Sign). Contains ks k) (no_signs gone) h))),
    )

    pub has_told : (k : Sign) (one : I) (ids : List Identifier) (has : Bool) → found ≡ Some one → ids ≡ items one → IsTrue has ↔ Contains (signs_with n ids) k → IsTrue has ↔ Contains (signs_in s n) k
    has_told k one ids has is same h = subst (λ (ks : List Sign). IsTrue has ↔ Contains ks k) (ap (λ (is : List Identifier). signs_with n is) same ∙ sym (signs_told one is)) h

  -- two that have a sign in common are one node, or aliases
  pub sharing : (a b : Node) (k : Sign) → Contains (signs_in s a) k → Contains (signs_in s b) k → (a ≡ b) ⊎ Alias s a b
  sharing a b k own other =
      let x = signed_is a k own in
      let y = signed_is b k other in
      elim (common_alike x.0 y.0 k x.2 y.2) [
        | inl e ↦ inl (sym (found_is s.nodes a x.0 x.1).1 ∙ e ∙ (found_is s.nodes b y.0 y.1).1)
        | inr alike ↦ inr (record { one = x.0; two = y.0; one_is = x.1; two_is = y.1; alike = alike })
      ]

  -- aliases have one
  pub shared : (a b : Node) → Alias s a b → (k : Sign) × Contains (signs_in s a) k × Contains (signs_in s b) k
  shared a b l =
      let k = in_common l.one l.two l.alike in
      (k.0, rw (signs_listed a l.one l.one_is (grind (arith, l.alike))) k.1, rw (signs_listed b l.two l.two_is (grind (arith, l.alike))) k.2)

  -- ---- candidates that have a sign

  module _ (k : Sign) where
    pub found_none : (nodes : List Node) → Grown (IsFoundIn s k []) nodes nodes
    found_none nodes = grown_none (IsFoundIn s k []) nodes (λ n h. absurd (none n h.0))

    pub found_there : (candidate : Node) (nodes : List Node) → Contains nodes candidate → Grown (IsFound s k candidate) nodes nodes
    found_there candidate nodes at = grown_none (IsFound s k candidate) nodes (λ n h. subst (λ (m : Node). Contains nodes m) (sym h.0) at)

    pub found_not : (candidate : Node) (nodes : List Node) → (Contains (signs_in s candidate) k → ⊥) → Grown (IsFound s k candidate) nodes nodes
    found_not candidate nodes gone = grown_none (IsFound s k candidate) nodes (λ n h. absurd (gone (subst (λ (m : Node). Contains (signs_in s m) k) h.0 h.1)))

    pub found_added : (candidate added : Node) (a b : List Node) → Contains (signs_in s candidate) k → added ≡ candidate → Grown (λ n. n ≡ added) a b → Grown (IsFound s k candidate) a b
    found_added candidate added a b own is g = grown_like (λ n. n ≡ added) (IsFound s k candidate) a b g
        (λ n e. (e ∙ is, subst (λ (m : Node). Contains (signs_in s m) k) (sym (e ∙ is)) own)) (λ n h. h.0 ∙ sym is)

    pub found_more : (candidates : List Node) (i : ℕ) (x : Node) (a b c : List Node) → i < length candidates → x ≡ get_or candidates i x
        → Grown (IsFoundIn s k (take i candidates)) a b → Grown (IsFound s k x) b c → Grown (IsFoundIn s k (take (i + 1) candidates)) a c
    found_more candidates i x a b c lt at g h = grown_more (IsFoundIn s k (take i candidates)) (IsFound s k x) (IsFoundIn s k (take (i + 1) candidates)) a b c g h
        (λ n. elim [
          | inl p ↦ (Contains-take_front candidates i x n lt p.0, p.1)
          | inr p ↦ (Contains-take_last candidates i x n lt (p.0 ∙ at), p.1)
        ])
        (λ n r. elim (Contains-take_more candidates i x n lt r.0) [
          | inl p ↦ inl (p, r.1)
          | inr e ↦ inr (e ∙ sym at, r.1)
        ])

    -- all that have it are among the candidates
    pub found_all : (candidates a b : List Node) → HaveSigned s k candidates → Grown (IsFoundIn s k candidates) a b → Grown (λ n. Contains (signs_in s n) k) a b
    found_all candidates a b have g = grown_like (IsFoundIn s k candidates) (λ n. Contains (signs_in s n) k) a b g (λ n h. h.1) (λ n h. (among n h, h))
      where
        among : (n : Node) → Contains (signs_in s n) k → Contains candidates n
        among n h =
            let x = signed_is n k h in
            let f = found_is s.nodes n x.0 x.1 in
            subst (λ (m : Node). Contains candidates m) f.1 (have x.0 (ap (listed_at s.nodes) f.1 ∙ x.1) x.2)

-- ---- the open entities that have an identifier are those that have its sign

pub are_identified : (s : Shown) (i : Identifier) (k : Sign) (old new nodes : List Node) → k ≡ by_identifier i → AreDistinct s.nodes → old ≡ [] → Grown (λ n. Contains (signs_in s n) k) old new → nodes ≡ new → IsDistinct same_node nodes → AreIdentified s i nodes
are_identified s i k old new nodes sign distinct empty g same once = record { each = λ n. (sound n, complete n); once = once }
  where
    sound : (n : Node) → Contains nodes n → Identified s i n
    sound n h = elim (grown_cases g n (subst (λ (ns : List Node). Contains ns n) same h)) [
      | inl before ↦ absurd (none n (subst (λ (ns : List Node). Contains ns n) empty before))
      | inr own ↦
          let x = signed_is s n k own in
          let f = found_is s.nodes n x.0 x.1 in
          (x.0, f.0, f.1, ap (λ (b : Bool). b && list_any (same_identifier i) (x.0).identifiers) x.2.0 ∙ (identified_by i (x.0).node (x.0).identifiers).1 (subst (λ (z : Sign). Contains (signs x.0) z) sign x.2.1))
    ]

    complete : (n : Node) → Identified s i n → Contains nodes n
    complete n h =
        let at = listed_is s.nodes h.0 distinct h.1 in
        let has = (identified_by i (h.0).node (h.0).identifiers).0 (grind (arith, h.3)) in
        let own : Contains (signs_in s (h.0).node) k = rw (signs_listed s (h.0).node h.0 at (grind (arith, h.3)), sign) has in
        rw same (subst (λ (m : Node). Contains new m) h.2 (g.every (h.0).node own))

-- ---- reached sign by sign

-- All are the same as the first; all that have a sign that was seen are there, and so are those that share one with a node before a place.
pub record AreGathered (s : Shown) (first : Node) (next : ℕ) (nodes : List Node) (seen : Sign → Bool) : Type 0 where
  pub own : Contains nodes first
  pub sound : (b : Node) → Contains nodes b → Same s first b
  pub covered : (k : Sign) (n : Node) → seen k ≡ true → Contains (signs_in s n) k → Contains nodes n
  pub signed : (b : Node) (k : Sign) (n : Node) → Contains (take next nodes) b → Contains (signs_in s b) k → Contains (signs_in s n) k → Contains nodes n

-- where no place is left, what is added is what is answered
pub gathered_told : (s : Shown) (first : Node) (next : ℕ) (class nodes : List Node) (seen : Sign → Bool) → nodes ≡ class → length class ≤ next → AreGathered s first next class seen → IsDistinct same_node nodes → AreSame s first nodes
gathered_told s first next class nodes seen is all g once = record {
  each = λ b. ((λ h. g.sound b (rw is at h)), (λ h. rw is (same_reached s (λ n. Contains class n) closed first h.0 b h.1 g.own)));
  once = once;
}
  where
    closed : (b c : Node) → Contains class b → Alias s b c → Contains class c
    closed b c h l = let k = shared s b c l in g.signed b k.0 c (subst (λ (ns : List Node). Contains ns b) (sym (take_all next class all)) h) k.1 k.2

-- ---- signs looked up

module _ (s : Shown) where
  -- nothing is added
  expands_same : (ks : List Sign) (nodes : List Node) (seen : Sign → Bool) → ((k : Sign) → Contains ks k → seen k ≡ true) → Expands s ks nodes nodes seen seen
  expands_same ks nodes seen were = record {
    rest = [];
    begins = sym (append-nil nodes);
    signed = λ n h. absurd (none n h);
    looked = λ k h. inl (were k h);
    noted = λ k h. inl h;
  }

  pub expands_none : (nodes : List Node) (seen : Sign → Bool) → Expands s [] nodes nodes seen seen
  expands_none nodes seen = expands_same [] nodes seen (λ k h. absurd (none k h))

  -- a sign that was looked up before
  pub expands_seen : (key : Sign) (nodes : List Node) (seen : Sign → Bool) → seen key ≡ true → Expands s (key ∷ []) nodes nodes seen seen
  expands_seen key nodes seen was = expands_same (key ∷ []) nodes seen (λ k h. subst (λ (z : Sign). seen z ≡ true) (one_of key k h) was)

  -- a sign that is looked up
  expands_looked : (key : Sign) (old new : List Node) (was now : Sign → Bool) → Grown (λ n. Contains (signs_in s n) key) old new
      → ((k : Sign) → now k ≡ true → (was k ≡ true) ⊎ ((n : Node) → Contains (signs_in s n) k → Contains new n)) → Expands s (key ∷ []) old new was now
  expands_looked key old new was now g noted = record {
    rest = g.rest;
    begins = g.begins;
    signed = λ n h. (key, here key [], g.only n h);
    looked = λ k h. inr (λ n own. g.every n (subst (λ (z : Sign). Contains (signs_in s n) z) (sym (one_of key k h)) own));
    noted = noted;
  }

  -- and not noted
  pub expands_alone : (key : Sign) (old new : List Node) (seen : Sign → Bool) → Grown (λ n. Contains (signs_in s n) key) old new → Expands s (key ∷ []) old new seen seen
  expands_alone key old new seen g = expands_looked key old new seen seen g (λ k h. inl h)

  -- or noted
  pub expands_sign : (key : Sign) (old new : List Node) (was now : Sign → Bool) → Grown (λ n. Contains (signs_in s n) key) old new
      → ((q : Sign) → now q ≡ cond (is_eq (sign_cmp key q)) true (was q)) → Expands s (key ∷ []) old new was now
  expands_sign key old new was now g up = expands_looked key old new was now g
      (λ k h. cond_both (is_eq (sign_cmp key k)) true (was k) (λ t. t ≡ true → (was k ≡ true) ⊎ ((n : Node) → Contains (signs_in s n) k → Contains new n))
      (λ same q. inr (λ n own. g.every n (subst (λ (z : Sign). Contains (signs_in s n) z) (sym (tells_apart exact_sign key k same)) own))) (λ other q. inl q) (sym (up k) ∙ h))

  -- signs after signs
  pub expands_more : (ks js : List Sign) (a b c : List Node) (p q r : Sign → Bool) → Expands s ks a b p q → Expands s js b c q r → Expands s (ks ++ js) a c p r
  expands_more ks js a b c p q r g h = record {
    rest = g.rest ++ h.rest;
    begins = h.begins ∙ ap (λ (xs : List Node). xs ++ h.rest) g.begins ∙ append_assoc a g.rest h.rest;
    signed = λ n k. elim (Contains-append_cases g.rest h.rest n k) [
      | inl x ↦ let m = g.signed n x in (m.0, Contains-append_left ks js m.0 m.1, m.2)
      | inr y ↦ let m = h.signed n y in (m.0, Contains-append_right ks js m.0 m.1, m.2)
    ];
    looked = λ k x. elim (Contains-append_cases ks js k x) [ inl y ↦ still k (g.looked k y) | inr y ↦ then k (h.looked k y) ];
    noted = λ k x. then k (h.noted k x);
  }
    where
      still : (k : Sign) → (p k ≡ true) ⊎ ((n : Node) → Contains (signs_in s n) k → Contains b n) → (p k ≡ true) ⊎ ((n : Node) → Contains (signs_in s n) k → Contains c n)
      still k (inl old) = inl old
      still k (inr all) = inr (λ n own. subst (λ (xs : List Node). Contains xs n) (sym h.begins) (Contains-append_left b h.rest n (all n own)))

      then : (k : Sign) → (q k ≡ true) ⊎ ((n : Node) → Contains (signs_in s n) k → Contains c n) → (p k ≡ true) ⊎ ((n : Node) → Contains (signs_in s n) k → Contains c n)
      then k (inl was) = still k (g.noted k was)
      then k (inr all) = inr all

  -- the sign of a record, and those of its identifiers
  pub expands_both : (key : Sign) (n : Node) (ids : List Identifier) (a b c : List Node) (p q r : Sign → Bool) → key ≡ by_record n → signs_in s n ≡ signs_with n ids
      → Expands s (key ∷ []) a b p q → Expands s (map by_identifier ids) b c q r → Expands s (signs_in s n) a c p r
  expands_both key n ids a b c p q r is signs_are g h =
      subst (λ (ks : List Sign). Expands s ks a c p r) (ap (λ (z : Sign). z ∷ map by_identifier ids) is ∙ sym signs_are) (expands_more (key ∷ []) (map by_identifier ids) a b c p q r g h)

  -- an identifier more
  pub expands_identifier : (ids : List Identifier) (i : ℕ) (d : Identifier) (key : Sign) (a b c : List Node) (p q r : Sign → Bool) → i < length ids → key ≡ by_identifier (get_or ids i d)
      → Expands s (map by_identifier (take i ids)) a b p q → Expands s (key ∷ []) b c q r → Expands s (map by_identifier (take (i + 1) ids)) a c p r
  expands_identifier ids i d key a b c p q r lt is g h =
      subst (λ (ks : List Sign). Expands s ks a c p r) (ap (λ (z : Sign). map by_identifier (take i ids) ++ z ∷ []) is ∙ sym (identifiers_more ids i d lt))
      (expands_more (map by_identifier (take i ids)) (key ∷ []) a b c p q r g h)

-- ---- one node after the other

pub gathered_start : (s : Shown) (first node : Node) (before nodes : List Node) (seen : Sign → Bool) → before ≡ [] → node ≡ first → Grown (λ n. n ≡ node) before nodes → ((k : Sign) → seen k ≡ false) → AreGathered s first 0 nodes seen
gathered_start s first node before nodes seen empty is g unseen = record {
  own = g.every first (sym is);
  sound = λ b h. elim (grown_cases g b h) [ inl a ↦ absurd (none b (subst (λ (ns : List Node). Contains ns b) empty a)) | inr e ↦ ([], sym (e ∙ is)) ];
  covered = λ k n seen_k. absurd (let no : false ≡ true = sym (unseen k) ∙ seen_k in cc);
  signed = λ b k n h. absurd (none b h);
}

pub gathered_more : (s : Shown) (first : Node) (next : ℕ) (node : Node) (a b : List Node) (was now : Sign → Bool) → next < length a → node ≡ get_or a next node → AreGathered s first next a was
    → Expands s (signs_in s node) a b was now → AreGathered s first (next + 1) b now
gathered_more s first next node a b was now lt at g x = record {
  own = still first g.own;
  sound = λ n h. elim (Contains-append_cases a x.rest n (subst (λ (ns : List Node). Contains ns n) x.begins h)) [
    | inl o ↦ g.sound n o
    | inr f ↦
        let m = x.signed n f in
        let reached = g.sound node own in
        elim (sharing s node n m.0 m.1 m.2) [
          | inl e ↦ subst (λ (c : Node). Same s first c) e reached
          | inr alias ↦ same_more s first reached.0 node n reached.1 alias
        ]
  ];
  covered = λ k n seen has. there k n has (x.noted k seen);
  signed = λ m k n h own has. elim (Contains-take_more a next node m lt (subst (λ (xs : List Node). Contains xs m) (ap (λ (xs : List Node). take (next + 1) xs) x.begins ∙ take-append-le (next + 1) a x.rest (omega arith)) h)) [
    | inl o ↦ still n (g.signed m k n o own has)
    | inr e ↦ there k n has (x.looked k (subst (λ (m : Node). Contains (signs_in s m) k) (e ∙ sym at) own))
  ];
}
  where
    own : Contains a node
    own = subst (λ (m : Node). Contains a m) (sym at) (Contains-get_or a next node lt)

    still : (n : Node) → Contains a n → Contains b n
    still n h = subst (λ (ns : List Node). Contains ns n) (sym x.begins) (Contains-append_left a x.rest n h)

    there : (k : Sign) (n : Node) → Contains (signs_in s n) k → (was k ≡ true) ⊎ ((m : Node) → Contains (signs_in s m) k → Contains b m) → Contains b n
    there k n has (inl o) = still n (g.covered k n o has)
    there k n has (inr all) = all n has

-- ---- all aliases

apart : (n : Node) (share : Bool) → (same_record n n || share && not (same_node n n)) ≡ false
apart n share = rw (same_refl n.agent, same_refl n.declaration, same_refl n.rec) (and-false share)

-- what is alike are two
two_nodes : (x y : OpenNode) → are_alike x y ≡ true → y.node ≡ x.node → ⊥
two_nodes x y alike same = grind (arith, apart x.node (share_identifier x.identifiers y.identifiers))

-- those that have a sign of the node, but for the node
pub aliases_found : (s : Shown) (n : Node) (before class nodes : List Node) (was now : Sign → Bool) → before ≡ [] → ((k : Sign) → was k ≡ false) → Expands s (signs_in s n) before class was now
    → ((b : Node) → Contains nodes b ↔ Contains class b × (b ≢ n)) → IsDistinct same_node nodes → AreAliases s n nodes
aliases_found s n before class nodes was now empty none_seen x others once = record { each = λ b. (sound b, complete b); once = once }
  where
    sound : (b : Node) → Contains nodes b → Alias s n b
    sound b h =
        let parts = (others b).0 h in
        let m = x.signed b (subst (λ (ns : List Node). Contains ns b) (x.begins ∙ ap (λ (ns : List Node). ns ++ x.rest) empty) parts.0) in
        elim (sharing s n b m.0 m.1 m.2) [ inl e ↦ absurd (parts.1 (sym e)) | inr alias ↦ alias ]

    complete : (b : Node) → Alias s n b → Contains nodes b
    complete b l =
        let k = shared s n b l in
        elim (x.looked k.0 k.1) [
          | inl before_is ↦ absurd (let no : true ≡ false = sym before_is ∙ none_seen k.0 in cc)
          | inr all ↦ (others b).1 (all b k.2, λ e. two_nodes l.one l.two l.alike ((found_is s.nodes b l.two l.two_is).1 ∙ e ∙ sym (found_is s.nodes n l.one l.one_is).1))
        ]
