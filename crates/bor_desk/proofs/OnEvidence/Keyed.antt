-- Records, gathered as a set of their keys.
use Rattle.std.proofs.Common.{◌≡◌, ◌↔◌, ◌⊎◌, ◌+◌, ◌<◌, ◌++◌, ◌∙◌, ℕ, true, cond, List, [], ◌∷◌, Contains, map, take, length, get_or, sym, ap, subst, inl, inr, arith, Result, Ok, Err, IfOk}
use Rattle.std.specs.BTreeSet.{BTreeSet, contains}
use Rattle.std.specs.Cmp.{IsTotalOrder, on_total, then_total}
use Rattle.std.specs.Cmp.Lexicographic.{nat_list_cmp_total}
use Rattle.std.specs.List.{AllByRecursion}
use Rattle.std.specs.List.Sorted.{IsStrictlySortedBy}
use Rattle.std.specs.Ordering.{is_eq, ordering_then}
use Rattle.std.specs.declared.cmp.Ordering.{Ordering}
use Rattle.std.specs.declared.cmp.Ordering.TheVariants.{Less}
use Rattle.std.proofs.lemmas.List.Elements.{Contains-append_left, Contains-push, Contains-push_cases}
use Rattle.std.proofs.lemmas.Map.Lookups.{CmpEqualImpliesEq, exact_bytes}
use Rattle.bor_records.specs.declared.links.node.Node.{Node}
use Rattle.bor_records.specs.Links.Nodes.{link_record, text_cmp}
use Rattle.bor_records.proofs.OnLinks.Exact.{parts}
use Rattle.bor_records.proofs.OnLinks.Found.{none, Contains-map, Contains-from_map}
use Rattle.bor_records.proofs.OnLinks.Given.{given_more}
use Rattle.bor_records.proofs.OnLinks.Growth.{Contains-take_more, Contains-take_front, Contains-take_last}
use Rattle.bor_chains.specs.declared.tree.Evidence.{Evidence}
use Rattle.bor_chains.specs.declared.tree.EvidenceLink.{EvidenceLink}
use Rattle.bor_chains.specs.Lines.{reading_cmp}
use Rattle.bor_desk.specs.declared.evidence.keys.Key.{Key}
use Rattle.bor_desk.specs.declared.evidence.lines.LinkEvidence.{LinkEvidence}
use Rattle.bor_desk.specs.Evidence.{IsMentioned, as_entity, as_person, as_link, as_subject, as_party, as_same}
use Rattle.bor_desk.specs.Mentioned.{AreMentioned, IsGained, IsOfAny, IsOfLink, is_record, is_subject, is_party, key_of, node_of, nodes_in}

-- ---- the order of keys

abbrev pub key_cmp : Key → Key → Ordering
key_cmp a b = ordering_then (text_cmp a.agent b.agent) (ordering_then (text_cmp a.declaration b.declaration) (text_cmp a.rec b.rec))

key_total : IsTotalOrder key_cmp
key_total = then_total (on_total (λ (k : Key). k.agent) nat_list_cmp_total) (then_total (on_total (λ (k : Key). k.declaration) nat_list_cmp_total) (on_total (λ (k : Key). k.rec) nat_list_cmp_total))

key_is : (a b : Key) → a.agent ≡ b.agent → a.declaration ≡ b.declaration → a.rec ≡ b.rec → a ≡ b
key_is a b p q r = grind arith

exact_key : CmpEqualImpliesEq key_cmp
exact_key a b h =
    let one = parts (text_cmp a.agent b.agent) (ordering_then (text_cmp a.declaration b.declaration) (text_cmp a.rec b.rec)) h in
    let two = parts (text_cmp a.declaration b.declaration) (text_cmp a.rec b.rec) one.1 in
    key_is a b (exact_bytes a.agent b.agent one.0) (exact_bytes a.declaration b.declaration two.0) (exact_bytes a.rec b.rec two.1)

-- ---- one record more

pub gained_key : (s n : BTreeSet Key) (k : Key) (m : Node) → k ≡ key_of m → ((q : Key) → contains key_cmp n q ≡ cond (is_eq (key_cmp k q)) true (contains key_cmp s q)) → contains key_cmp n k ≡ true
    → IsGained (λ x. x ≡ m) (nodes_in s) (nodes_in n)
gained_key s n k m is updates added = record { kept = kept; every = every; only = only }
  where
    given : (q : Key) → Contains (s.keys ++ k ∷ []) q ↔ Contains n.keys q
    given = given_more key_cmp key_total exact_key s.keys s n k (λ q. (λ h. h, λ h. h)) updates added

    kept : (x : Node) → Contains (nodes_in s) x → Contains (nodes_in n) x
    kept x h =
        let f = Contains-from_map node_of s.keys x h in
        subst (λ (y : Node). Contains (nodes_in n) y) f.2 (Contains-map node_of n.keys f.0 ((given f.0).0 (Contains-append_left s.keys (k ∷ []) f.0 f.1)))

    every : (x : Node) → x ≡ m → Contains (nodes_in n) x
    every x e =
        let its : node_of k ≡ x = ap node_of is ∙ sym e in
        subst (λ (y : Node). Contains (nodes_in n) y) its (Contains-map node_of n.keys k ((given k).0 (Contains-push s.keys k)))

    only : (x : Node) → Contains (nodes_in n) x → Contains (nodes_in s) x ⊎ (x ≡ m)
    only x h =
        let f = Contains-from_map node_of n.keys x h in
        elim (Contains-push_cases s.keys k f.0 ((given f.0).1 f.1)) [
          | inl old ↦ inl (subst (λ (y : Node). Contains (nodes_in s) y) f.2 (Contains-map node_of s.keys f.0 old))
          | inr e ↦ inr (sym f.2 ∙ ap node_of (sym e ∙ is))
        ]

-- ---- one addition after the other

pub gained_then : (P Q R : Node → Type 0) (a b c : List Node) → ((n : Node) → R n → P n ⊎ Q n) → ((n : Node) → P n ⊎ Q n → R n) → IsGained P a b → IsGained Q b c → IsGained R a c
gained_then P Q R a b c apart join p q = grind (arith, apart, join, p.kept, p.every, p.only, q.kept, q.every, q.only)

-- those of one more of a list
pub gained_more : {X : Type 0} (xs : List X) (P : X → Node → Type 0) (i : ℕ) (x : X) (a b c : List Node) → i < length xs → x ≡ get_or xs i x → IsGained (IsOfAny (take i xs) P) a b → IsGained (P x) b c
    → IsGained (IsOfAny (take (i + 1) xs) P) a c
gained_more {X} xs P i x a b c lt is p q = gained_then (IsOfAny (take i xs) P) (P x) (IsOfAny (take (i + 1) xs) P) a b c apart join p q
  where
    apart : (n : Node) → IsOfAny (take (i + 1) xs) P n → IsOfAny (take i xs) P n ⊎ P x n
    apart n h = elim (Contains-take_more xs i x h.0 lt h.1) [
      | inl k ↦ inl (h.0, k, h.2)
      | inr e ↦ inr (subst (λ (y : X). P y n) (e ∙ sym is) h.2)
    ]

    join : (n : Node) → IsOfAny (take i xs) P n ⊎ P x n → IsOfAny (take (i + 1) xs) P n
    join n h = elim h [
      | inl k ↦ (k.0, Contains-take_front xs i x k.0 lt k.1, k.2)
      | inr k ↦ (x, Contains-take_last xs i x x lt is, k)
    ]

-- one more of a list of records
pub gained_node : (ns : List Node) (i : ℕ) (m : Node) (a b c : List Node) → i < length ns → m ≡ get_or ns i m → IsGained (λ n. Contains (take i ns) n) a b → IsGained (λ n. n ≡ m) b c → IsGained (λ n. Contains (take (i + 1) ns) n) a c
gained_node ns i m a b c lt is p q = gained_then (λ n. Contains (take i ns) n) (λ n. n ≡ m) (λ n. Contains (take (i + 1) ns) n) a b c
    (λ n h. elim (Contains-take_more ns i m n lt h) [ inl k ↦ inl k | inr e ↦ inr (e ∙ sym is) ])
    (λ n h. elim h [ inl k ↦ Contains-take_front ns i m n lt k | inr e ↦ Contains-take_last ns i m n lt (e ∙ is) ]) p q

-- one more after those that are all there is
pub gained_next : (ns : List Node) (m : Node) (a b : List Node) → ((n : Node) → Contains a n ↔ Contains ns n) → IsGained (λ n. n ≡ m) a b → (n : Node) → Contains b n ↔ Contains (ns ++ m ∷ []) n
gained_next ns m a b so p n = (
  (λ h. elim (p.only n h) [
    | inl old ↦ Contains-append_left ns (m ∷ []) n ((so n).0 old)
    | inr e ↦ subst (λ (x : Node). Contains (ns ++ m ∷ []) x) (sym e) (Contains-push ns m)
  ]),
  (λ h. elim (Contains-push_cases ns m n h) [ inl old ↦ p.kept n ((so n).1 old) | inr e ↦ p.every n (sym e) ]),
)

-- a link's record, then its subject, then its party
pub gained_link : (x : EvidenceLink) (r : Node) (a b c d : List Node) → r ≡ link_record x.link → IsGained (λ n. n ≡ r) a b → IsGained (λ n. n ≡ x.link.subject) b c → IsGained (λ n. n ≡ x.link.party) c d → IsGained (IsOfLink x) a d
gained_link x r a b c d is p q t =
    gained_then (λ n. (n ≡ r) ⊎ (n ≡ x.link.subject)) (λ n. n ≡ x.link.party) (IsOfLink x) a c d apart join
    (gained_then (λ n. n ≡ r) (λ n. n ≡ x.link.subject) (λ n. (n ≡ r) ⊎ (n ≡ x.link.subject)) a b c (λ n h. h) (λ n h. h) p q) t
  where
    apart : (n : Node) → IsOfLink x n → ((n ≡ r) ⊎ (n ≡ x.link.subject)) ⊎ (n ≡ x.link.party)
    apart n h = elim h [ is_record e ↦ inl (inl (e ∙ sym is)) | is_subject e ↦ inl (inr e) | is_party e ↦ inr e ]

    join : (n : Node) → ((n ≡ r) ⊎ (n ≡ x.link.subject)) ⊎ (n ≡ x.link.party) → IsOfLink x n
    join n h = grind (arith, h, is_record, is_subject, is_party)

-- ---- all of them

module _ (entity : Node) (tree : Evidence) (links : List LinkEvidence) (a b c d e : List Node) where
  pub all_mentioned : a ≡ [] → IsGained (λ n. n ≡ entity) a b → IsGained (IsOfAny tree.persons (λ person n. n ≡ person.node)) b c → IsGained (IsOfAny tree.links IsOfLink) c d
      → IsGained (IsOfAny links (λ line n. Contains line.same n)) d e → (n : Node) → Contains e n ↔ IsMentioned entity tree links n
  all_mentioned empty one persons lines sames n = (
    (λ h. elim (sames.only n h) [
      | inl before ↦ elim (lines.only n before) [
        | inl earlier ↦ elim (persons.only n earlier) [
          | inl first ↦ elim (one.only n first) [
            | inl nothing ↦ absurd (none n (subst (λ (ns : List Node). Contains ns n) empty nothing))
            | inr is ↦ as_entity is
          ]
          | inr p ↦ as_person p.0 p.1 p.2
        ]
        | inr x ↦ elim x.2 [ is_record is ↦ as_link x.0 x.1 is | is_subject is ↦ as_subject x.0 x.1 is | is_party is ↦ as_party x.0 x.1 is ]
      ]
      | inr l ↦ as_same l.0 l.1 l.2
    ]),
    (λ h. elim h [
      | as_entity is ↦ sames.kept n (lines.kept n (persons.kept n (one.every n is)))
      | as_person p on is ↦ sames.kept n (lines.kept n (persons.every n (p, on, is)))
      | as_link x on is ↦ sames.kept n (lines.every n (x, on, is_record is))
      | as_subject x on is ↦ sames.kept n (lines.every n (x, on, is_subject is))
      | as_party x on is ↦ sames.kept n (lines.every n (x, on, is_party is))
      | as_same l on has ↦ sames.every n (l, on, has)
    ]),
  )

pub mentioned_are : (entity : Node) (tree : Evidence) (links : List LinkEvidence) (all : List Node) → ((n : Node) → Contains all n ↔ IsMentioned entity tree links n) → (nodes : List Node) → nodes ≡ all → IsStrictlySortedBy reading_cmp nodes
    → AreMentioned entity tree links nodes
mentioned_are entity tree links all each nodes is sorted = record { each = subst (λ (ns : List Node). (n : Node) → Contains ns n ↔ IsMentioned entity tree links n) (sym is) each; sorted = sorted }

-- what two facts of a value give
pub both_so : {T E : Type 0} (r : Result T E) (P Q R : T → Type 0) → ((x : T) → P x → Q x → R x) → IfOk r P → IfOk r Q → IfOk r R
both_so (Ok x) P Q R so p q = so x p q
both_so (Err e) P Q R so p q = tt

-- ---- in order

below_first : (k : Key) (ks : List Key) → AllByRecursion (λ q. key_cmp k q ≡ Less) ks → AllByRecursion (λ n. reading_cmp (node_of k) n ≡ Less) (map node_of ks)
below_first k [] h = h
below_first k (q ∷ qs) h = (h.0, below_first k qs h.1)

pub sorted_nodes : (ks : List Key) → IsStrictlySortedBy key_cmp ks → IsStrictlySortedBy reading_cmp (map node_of ks)
unfolding IsStrictlySortedBy
sorted_nodes [] h = h
sorted_nodes (k ∷ ks) h = (below_first k ks h.0, sorted_nodes ks h.1)
