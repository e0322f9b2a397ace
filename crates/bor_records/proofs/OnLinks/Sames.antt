-- Nodes that stand for one entity, both ways and one after another.
use Rattle.std.proofs.Common.{◌≡◌, ◌||◌, Bool, false, List, [], ◌∷◌, IsTrue, sym, refl, ap, ◌∙◌, subst, arith}
use Rattle.std.specs.List.{list_any}
use Rattle.bor_terms.proofs.Texts.{same_sym}
use Rattle.bods_read.specs.declared.details.Identifier.{Identifier}
use Rattle.bor_records.specs.declared.links.node.Node.{Node}
use Rattle.bor_records.specs.declared.links.node.OpenNode.{OpenNode}
use Rattle.bor_records.specs.Links.Orders.{node_equiv}
use Rattle.bor_records.specs.Links.Shown.{Shown, same_identifier, share_identifier, same_record, are_alike}
use Rattle.bor_records.specs.Links.Aliases.{Alias, IsAliasPath, Same}

-- ---- aliases go both ways
any_none : {X : Type 0} (xs : List X) → list_any (λ x. false) xs ≡ false
any_none [] = refl
any_none (x ∷ xs) = any_none xs

any_or : {X : Type 0} (f g : X → Bool) (xs : List X) → list_any (λ x. f x || g x) xs ≡ (list_any f xs || list_any g xs)
any_or f g [] = refl
any_or f g (x ∷ xs) = grind (arith, any_or f g xs)

pub any_turn : {X Y : Type 0} (f : X → Y → Bool) (xs : List X) (ys : List Y) → list_any (λ x. list_any (λ y. f x y) ys) xs ≡ list_any (λ y. list_any (λ x. f x y) xs) ys
any_turn f [] ys = sym (any_none ys)
any_turn f (x ∷ xs) ys = ap (λ (b : Bool). list_any (λ y. f x y) ys || b) (any_turn f xs ys) ∙ sym (any_or (λ y. f x y) (λ y. list_any (λ z. f z y) xs) ys)

pub any_like : {X : Type 0} (f g : X → Bool) (xs : List X) → ((x : X) → f x ≡ g x) → list_any f xs ≡ list_any g xs
any_like f g xs e = λ i. list_any (λ x. e x i) xs

identifier_turn : (i j : Identifier) → same_identifier i j ≡ same_identifier j i
identifier_turn i j = rw (same_sym i.scheme j.scheme, same_sym i.id j.id)

share_turn : (xs ys : List Identifier) → share_identifier xs ys ≡ share_identifier ys xs
share_turn xs ys =
    any_turn (λ i j. same_identifier i j) xs ys
    ∙ any_like (λ j. list_any (λ i. same_identifier i j) xs) (λ j. list_any (λ i. same_identifier j i) xs) ys
    (λ j. any_like (λ i. same_identifier i j) (λ i. same_identifier j i) xs (λ i. identifier_turn i j))

same_record_turn : (a b : Node) → same_record a b ≡ same_record b a
same_record_turn a b = rw (same_sym a.agent b.agent, same_sym a.declaration b.declaration, same_sym a.rec b.rec)

alike_turn : (x y : OpenNode) → are_alike x y ≡ are_alike y x
alike_turn x y = grind (arith, same_record_turn x.node y.node, share_turn x.identifiers y.identifiers, node_equiv.symm x.node y.node)

pub alias_turn : (s : Shown) (a b : Node) → Alias s a b → Alias s b a
alias_turn s a b h = record {
  one = h.two;
  two = h.one;
  one_is = h.two_is;
  two_is = h.one_is;
  alike = subst (λ (t : Bool). IsTrue t) (alike_turn h.one h.two) h.alike;
}

-- ---- so do steps
-- a step more at the end
pub same_more : (s : Shown) (a : Node) (cs : List Node) (b c : Node) → IsAliasPath s a cs b → Alias s b c → Same s a c
same_more s a [] b c h step = (c ∷ [], (subst (λ (n : Node). Alias s n c) (sym h) step, refl))
same_more s a (d ∷ ds) b c h step = let r = same_more s d ds b c h.1 step in (d ∷ r.0, (h.0, r.1))

steps_turn : (s : Shown) (a : Node) (cs : List Node) (b : Node) → IsAliasPath s a cs b → Same s b a
steps_turn s a [] b h = ([], sym h)
steps_turn s a (c ∷ cs) b h = let r = steps_turn s c cs b h.1 in same_more s b r.0 c a r.1 (alias_turn s a c h.0)

pub same_turn : (s : Shown) (a b : Node) → Same s a b → Same s b a
same_turn s a b h = steps_turn s a h.0 b h.1

-- what has a node and, with a node, its aliases, has all that are the same
pub same_reached : (s : Shown) (P : Node → Type 0) → ((b c : Node) → P b → Alias s b c → P c) → (a : Node) (cs : List Node) (b : Node) → IsAliasPath s a cs b → P a → P b
same_reached s P closed a [] b h p = subst P h p
same_reached s P closed a (c ∷ cs) b h p = same_reached s P closed c cs b h.1 (closed a c p h.0)
