-- The sign of an identifier. Two that are alike have a sign in common, and two entities that have one are alike, or one.
use Rattle.std.proofs.Common.{◌≡◌, ◌↔◌, ◌⊎◌, ◌+◌, ◌<◌, ◌++◌, ◌&&◌, ℕ, Bool, true, false, IsTrue, List, [], ◌∷◌, Contains, take, length, get_or, map, refl, sym, ap, ◌∙◌, subst, inl, inr, arith}
use Rattle.std.specs.BTreeSet.{BTreeSet, IsEmpty, contains}
use Rattle.std.specs.List.{list_any}
use Rattle.std.specs.Ordering.{is_eq}
use Rattle.std.specs.declared.cmp.Ordering.{Ordering}
use Rattle.std.proofs.Math.Bool.{and_comm}
use Rattle.std.proofs.lemmas.Bool.{and_parts, or_cases, or_left, or_right}
use Rattle.std.proofs.lemmas.List.{take_more, map-append}
use Rattle.bor_terms.specs.Texts.{is_same}
use Rattle.bor_terms.proofs.Texts.{is_same-of, same_is, same_sym}
use Rattle.bods_read.specs.declared.details.Identifier.{Identifier}
use Rattle.bor_records.specs.declared.links.node.Node.{Node}
use Rattle.bor_records.specs.declared.links.node.OpenNode.{OpenNode}
use Rattle.bor_records.specs.declared.links.sign.Sign.{Sign}
use Rattle.bor_records.specs.Links.Nodes.{same_node}
use Rattle.bor_records.specs.Links.Shown.{are_alike, same_record, share_identifier, same_identifier}
use Rattle.bor_records.specs.Links.Signs.{HasSign, by_record, by_identifier, signs, signs_with}
use Rattle.bor_records.proofs.OnLinks.Exact.{sign_is}
use Rattle.bor_records.proofs.OnLinks.Found.{cases, here, there, none, Contains-from_map, Contains-map}
use Rattle.bor_records.proofs.OnLinks.SameNode.{same_node_is}
use Rattle.bor_records.proofs.OnLinks.Sames.{any_like}

-- one of some passes a test
pub same_any : {X : Type 0} (p : X → Bool) (xs : List X) → list_any p xs ≡ true → (x : X) × Contains xs x × (p x ≡ true)
same_any p [] e = absurd cc
same_any {X} p (x ∷ xs) e = elim (or_cases (p x) (list_any p xs) e) [
  | inl h ↦ (x, here x xs, h)
  | inr h ↦ let m = same_any p xs h in (m.0, there x xs m.0 m.1, m.2)
]

pub any_is : {X : Type 0} (p : X → Bool) (xs : List X) (x : X) → Contains xs x → p x ≡ true → list_any p xs ≡ true
any_is p [] x h t = absurd (none x h)
any_is p (y ∷ ys) x h t = elim (cases y ys x h) [ inl e ↦ or_left (p y) (list_any p ys) (ap p e ∙ t) | inr k ↦ or_right (p y) (list_any p ys) (any_is p ys x k t) ]

-- ---- the sign of an identifier

pub identifiers_have : (k : Sign) (n : Node) (ids : List Identifier) (b : Bool) → k.of_record ≡ false → b ≡ list_any (λ i. is_same i.id k.name && is_same i.scheme k.group) ids → IsTrue b ↔ Contains (signs_with n ids) k
identifiers_have k n ids b kind is = (
  (λ t.
      let m = same_any (λ (i : Identifier). is_same i.id k.name && is_same i.scheme k.group) ids (sym is ∙ t) in
      let p = and_parts (is_same (m.0).id k.name) (is_same (m.0).scheme k.group) m.2 in
      subst (λ (z : Sign). Contains (signs_with n ids) z) (sign_is (by_identifier m.0) k (sym kind) (same_is (m.0).scheme k.group p.1) (same_is (m.0).id k.name p.0))
      (there (by_record n) (map by_identifier ids) (by_identifier m.0) (Contains-map by_identifier ids m.0 m.1))),
  (λ h. elim (cases (by_record n) (map by_identifier ids) k h) [
    | inl e ↦ absurd (let no : true ≡ false = ap (λ (z : Sign). z.of_record) e ∙ kind in cc)
    | inr r ↦
        let j = Contains-from_map by_identifier ids k r in
        is ∙ any_is (λ (i : Identifier). is_same i.id k.name && is_same i.scheme k.group) ids j.0 j.1 (grind (arith, j.2, is_same-of (j.0).id k.name, is_same-of (j.0).scheme k.group))
  ]),
)

-- among the signs of a node that has the identifier, and of no other
pub identified_by : (i : Identifier) (n : Node) (ids : List Identifier) → IsTrue (list_any (same_identifier i) ids) ↔ Contains (signs_with n ids) (by_identifier i)
identified_by i n ids = identifiers_have (by_identifier i) n ids (list_any (same_identifier i) ids) refl
    (any_like (same_identifier i) (λ j. is_same j.id i.id && is_same j.scheme i.scheme) ids
    (λ j. and_comm (is_same i.scheme j.scheme) (is_same i.id j.id) ∙ (λ t. same_sym i.id j.id t && same_sym i.scheme j.scheme t)))

-- ---- what is alike has a sign in common

abbrev pub InCommon : OpenNode → OpenNode → Type 0
InCommon a b = (k : Sign) × Contains (signs a) k × Contains (signs b) k

by_same_record : (a b : OpenNode) → same_record a.node b.node ≡ true → InCommon a b
by_same_record a b h =
    let e : by_record a.node ≡ by_record b.node = grind (arith, same_is a.node.agent b.node.agent, same_is a.node.rec b.node.rec) in
    (by_record a.node, here (by_record a.node) (map by_identifier a.identifiers), subst (λ (z : Sign). Contains (signs b) z) (sym e) (here (by_record b.node) (map by_identifier b.identifiers)))

by_same_identifier : (a b : OpenNode) → share_identifier a.identifiers b.identifiers ≡ true → InCommon a b
by_same_identifier a b h =
    let x = same_any (λ i. list_any (same_identifier i) b.identifiers) a.identifiers h in
    (by_identifier x.0, there (by_record a.node) (map by_identifier a.identifiers) (by_identifier x.0) (Contains-map by_identifier a.identifiers x.0 x.1), (identified_by x.0 b.node b.identifiers).0 x.2)

pub in_common : (a b : OpenNode) → are_alike a b ≡ true → InCommon a b
in_common a b h = elim (or_cases (same_record a.node b.node) (share_identifier a.identifiers b.identifiers) (grind (arith, h))) [ inl r ↦ by_same_record a b r | inr s ↦ by_same_identifier a b s ]

-- ---- identifiers

pub identifiers_more : (ids : List Identifier) (i : ℕ) (d : Identifier) → i < length ids → map by_identifier (take (i + 1) ids) ≡ map by_identifier (take i ids) ++ by_identifier (get_or ids i d) ∷ []
identifiers_more ids i d lt = ap (λ (xs : List Identifier). map by_identifier xs) (take_more ids i d lt) ∙ map-append by_identifier (take i ids) (get_or ids i d ∷ [])

-- ---- two entities with one sign are alike, or one

kinds_differ : (n : Node) (i : Identifier) → by_record n ≡ by_identifier i → ⊥
kinds_differ n i e = let no : true ≡ false = ap (λ (k : Sign). k.of_record) e in cc

record_alike : (a b : Node) → by_record a ≡ by_record b → same_node a b ≡ false → same_record a b ≡ true
record_alike a b e differ = grind (arith, is_same-of a.agent b.agent (λ i. (e i).group), is_same-of a.rec b.rec (λ i. (e i).name))

pub common_alike : (a b : OpenNode) (k : Sign) → HasSign a k → HasSign b k → (a.node ≡ b.node) ⊎ (are_alike a b ≡ true)
common_alike a b k ha hb = grind (arith, ha.0, hb.0, same_node_is a.node b.node, alike)
  where
    alike : same_node a.node b.node ≡ false → (same_record a.node b.node ≡ true) ⊎ (share_identifier a.identifiers b.identifiers ≡ true)
    alike differ = elim (cases (by_record a.node) (map by_identifier a.identifiers) k ha.1) [
      | inl e ↦ elim (cases (by_record b.node) (map by_identifier b.identifiers) k hb.1) [
        | inl f ↦ inl (record_alike a.node b.node (e ∙ sym f) differ)
        | inr f ↦ let j = Contains-from_map by_identifier b.identifiers k f in absurd (kinds_differ a.node j.0 (e ∙ sym j.2))
      ]
      | inr e ↦
          let i = Contains-from_map by_identifier a.identifiers k e in
          let has = (identified_by i.0 b.node b.identifiers).1 (subst (λ (z : Sign). Contains (signs b) z) (sym i.2) hb.1) in
          inr (any_is (λ j. list_any (same_identifier j) b.identifiers) a.identifiers i.0 i.1 has)
    ]

-- no sign is in an empty set
pub empty_has : {K : Type 0} (R : K → K → Ordering) (s : BTreeSet K) (k : K) → IsEmpty s → contains R s k ≡ false
empty_has {K} R s k e = ap (λ (ks : List K). list_any (λ j. is_eq (R k j)) ks) e
