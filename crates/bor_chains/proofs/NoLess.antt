-- More interests take nobody out of a report.
use Rattle.std.proofs.Common.{◌≡◌, ◌⊎◌, ◌&&◌, ◌++◌, ℕ, ℤ, Bool, true, false, cond, Option, Some, None, option_map, option_and_then, List, [], ◌∷◌, Contains, length, sym, refl, ap, ◌∙◌, subst, inl, inr, arith}
use Rattle.std.specs.List.{filter, last_or, list_any}
use Rattle.std.proofs.lemmas.Option.{cond_some}
use Rattle.std.proofs.lemmas.List.Elements.{filter-append}
use Rattle.std.proofs.lemmas.List.Folds.{list_any_at}
use Rattle.bods_read.specs.declared.details.Details.{Details}
use Rattle.bods_read.specs.declared.details.Details.TheVariants as details
use Rattle.bods_read.specs.declared.interest.Interest.{Interest}
use Rattle.bor_records.specs.declared.row.Row.{Row}
use Rattle.bor_records.specs.Admission.{is_closed}
use Rattle.bor_records.specs.Snapshot.{is_dated, unless_closed}
use Rattle.bor_records.specs.declared.links.node.Node.{Node}
use Rattle.bor_records.specs.declared.links.node.OpenNode.{OpenNode}
use Rattle.bor_records.specs.declared.links.node.Link.{Link}
use Rattle.bor_records.specs.Links.Series.{series_of, is_of, open_at}
use Rattle.bor_records.specs.Links.Shown.{Shown, info_in, info_of, listed_at}
use Rattle.bor_records.specs.Links.Aliases.{Alias, IsAliasPath, Same}
use Rattle.bor_records.specs.Links.Stakes.{is_stake, is_holding, is_voting_majority, is_board_majority, is_membership}
use Rattle.bor_records.specs.Links.Rows.{node_in, node_with, nodes_of, is_entity_info, is_some_info, link_with, link_in, shown_of}
use Rattle.bor_records.specs.Links.Candidates.{beside}
use Rattle.bor_records.proofs.Lists.{none_pass}
use Rattle.bor_records.proofs.Rows.{last_or-push}
use Rattle.bor_records.proofs.OnLinks.SameNode.{same_node_is}
use Rattle.bor_records.proofs.OnLinks.Series.{both_tests}
use Rattle.bor_records.proofs.OnLinks.ByKey.{listed_by_key, link_found, link_made, open_at_in}
use Rattle.bor_records.proofs.OnLinks.Signs.{same_any}
use Rattle.bor_chains.specs.declared.line.PersonLine.{PersonLine}
use Rattle.bor_chains.specs.Chains.{IsChain, AreJoined}
use Rattle.bor_chains.specs.NoLess.{AreAmong, StatesNoLess, IsOpenNoLess, AreOpenNoLess, with_details, IsNoLess, ShowsNoLess, NamesNoFewer, MoreVotesTakeNobodyOut}
use Rattle.bor_chains.proofs.Reach.{chain_on}

-- ---- interests

any_more : (p : Interest → Bool) (xs ys : List Interest) → AreAmong xs ys → list_any p xs ≡ true → list_any p ys ≡ true
any_more p xs ys among e = let x = same_any p xs e in let on = among x.0 x.1 in list_any_at p ys on.0 x.0 on.1 (ap p on.2 ∙ x.2)

stakes : (day : ℤ) (is more : List Interest) → AreAmong is more → is_stake day is ≡ true → is_stake day more ≡ true
stakes day is more among h =
    grind (arith, any_more (is_voting_majority day) is more among, any_more (is_board_majority day) is more among, any_more (is_membership day) is more among)

holdings : (day : ℤ) (is more : List Interest) → AreAmong is more → is_holding day is ≡ true → is_holding day more ≡ true
holdings day is more among h = any_more _ is more among h

-- ---- rows

states_itself : (d : Details) → StatesNoLess d d
states_itself (details.Entity kind name identifiers) = refl
states_itself (details.Person kind name) = refl
states_itself (details.Relationship subject party interests) = (interests, refl, λ i on. on)

open_itself : (o : Option Row) → IsOpenNoLess o o
open_itself None = refl
open_itself (Some r) = (r, refl, states_itself r.statement.details)

open_same : (o p : Option Row) → o ≡ p → IsOpenNoLess o p
open_same o p e = subst (λ (q : Option Row). IsOpenNoLess o q) e (open_itself o)

-- both tests of a row of a series
abbrev tests : ℤ → Node → Row → Bool
tests day n r = is_of n r && is_dated day r

open_is : (day : ℤ) (n : Node) (rows : List Row) → open_at day n rows ≡ option_and_then unless_closed (last_or None (filter (tests day n) rows))
open_is day n rows = ap (λ (xs : List Row). option_and_then unless_closed (last_or None xs)) (both_tests (is_dated day) (is_of n) rows)

-- a row stands in place of another, and a test tells the same of both: the last that passes is the same, or the one in place of the other
abbrev AreInPlace : Row → Row → Option Row → Option Row → Type 0
AreInPlace r q o p = (o ≡ p) ⊎ ((o ≡ Some r) × (p ≡ Some q))

last_in_place : (p : Row → Bool) (r q : Row) → p q ≡ p r → (o : Option Row) (before after : List Row)
    → AreInPlace r q (last_or o (filter p (before ++ r ∷ after))) (last_or o (filter p (before ++ q ∷ after)))
last_in_place p r q same o [] after = at (filter p after)
  where
    at : (xs : List Row) → AreInPlace r q (last_or o (cond (p r) (r ∷ xs) xs)) (last_or o (cond (p q) (q ∷ xs) xs))
    at [] = grind (arith, same)
    at (x ∷ xs) = grind (arith, same)
last_in_place p r q same o (x ∷ before) after = grind (arith, last_in_place p r q same (Some x) before after, last_in_place p r q same o before after)

by_interest : (day : ℤ) (before after : List Row) (r : Row) (d : Details) → StatesNoLess r.statement.details d → AreOpenNoLess day (before ++ r ∷ after) (before ++ with_details d r ∷ after)
by_interest day before after r d states n =
    rw (open_is day n (before ++ r ∷ after), open_is day n (before ++ q ∷ after))
    (elim (last_in_place (tests day n) r q refl None before after) [
      | inl same ↦ open_same (option_and_then unless_closed old) (option_and_then unless_closed new) (ap (λ (o : Option Row). option_and_then unless_closed o) same)
      | inr two ↦ rw (two.0, two.1) (at (is_closed r.status))
    ])
  where
    q : Row
    q = with_details d r

    old : Option Row
    old = last_or None (filter (tests day n) (before ++ r ∷ after))

    new : Option Row
    new = last_or None (filter (tests day n) (before ++ with_details d r ∷ after))

    at : (b : Bool) → IsOpenNoLess (cond b None (Some r)) (cond b None (Some (with_details d r)))
    at true = refl
    at false = (with_details d r, refl, states)

by_statement : (day : ℤ) (before after : List Row) (r : Row) → is_dated day r ≡ true → is_closed r.status ≡ false → list_any (is_of (series_of r)) after ≡ false
    → IsOpenNoLess (open_at day (series_of r) (before ++ after)) (Some r) → AreOpenNoLess day (before ++ after) (before ++ r ∷ after)
by_statement day before after r dated still last no_less n = of_series (is_of n r) refl
  where
    F : List Row → List Row
    F rows = filter (is_of n) rows

    split : F (before ++ r ∷ after) ≡ F before ++ cond (is_of n r) (r ∷ F after) (F after)
    split = filter-append (is_of n) before (r ∷ after)

    -- another series
    other : is_of n r ≡ false → F (before ++ after) ≡ F (before ++ r ∷ after)
    other e = filter-append (is_of n) before after ∙ sym (split ∙ ap (λ (b : Bool). F before ++ cond b (r ∷ F after) (F after)) e)

    -- the row is the last of its own
    own : is_of n r ≡ true → series_of r ≡ n → open_at day n (before ++ r ∷ after) ≡ Some r
    own e same =
        let past : F after ≡ [] = none_pass (is_of n) after (ap (λ (m : Node). list_any (is_of m) after) (sym same) ∙ last) in
        grind (arith, e, past, split, filter-append (is_dated day) (F before) (r ∷ []), dated, last_or-push None (filter (is_dated day) (F before)) r, still)

    of_series : (b : Bool) → is_of n r ≡ b → IsOpenNoLess (open_at day n (before ++ after)) (open_at day n (before ++ r ∷ after))
    of_series true e =
        let same = same_node_is (series_of r) n e in
        subst (λ (o : Option Row). IsOpenNoLess (open_at day n (before ++ after)) o) (sym (own e same))
        (subst (λ (m : Node). IsOpenNoLess (open_at day m (before ++ after)) (Some r)) same no_less)
    of_series false e = open_same (open_at day n (before ++ after)) (open_at day n (before ++ r ∷ after))
        (ap (λ (xs : List Row). option_and_then unless_closed (last_or None (filter (is_dated day) xs))) (other e))

-- ---- nodes

node_same : (n : Node) (d e : Details) → StatesNoLess d e → node_with n e ≡ node_with n d
node_same n (details.Entity kind name identifiers) e h = ap (λ (x : Details). node_with n x) h
node_same n (details.Person kind name) e h = ap (λ (x : Details). node_with n x) h
node_same n (details.Relationship subject party interests) e h = ap (λ (x : Details). node_with n x) h.1

nodes_same : (day : ℤ) (rows more : List Row) → AreOpenNoLess day rows more → (n : Node) → listed_at (nodes_of day more) n ≡ listed_at (nodes_of day rows) n
nodes_same day rows more no_less n = listed_by_key day n more ∙ at (open_at day n rows) refl (no_less n) ∙ sym (listed_by_key day n rows)
  where
    at : (o : Option Row) → open_at day n rows ≡ o → IsOpenNoLess o (open_at day n more) → option_and_then node_in (open_at day n more) ≡ option_and_then node_in o
    at None is h = h
    at (Some r) is h =
        let of_q = (open_at_in day n more h.0 h.1).1 in
        let of_r = (open_at_in day n rows r is).1 in
        rw h.1 (ap (λ (m : Node). node_with m h.0.statement.details) (of_q ∙ sym of_r) ∙ node_same (series_of r) r.statement.details (h.0).statement.details h.2)

-- ---- links

abbrev linked : List OpenNode → Node → Node → Bool
linked nodes party subject = is_entity_info (info_in nodes subject) && is_some_info (info_in nodes party)

link_no_less : (day : ℤ) (nodes more : List OpenNode) (r q : Row) (l : Link) → ((n : Node) → listed_at more n ≡ listed_at nodes n) → series_of q ≡ series_of r
    → (d : Details) → StatesNoLess d q.statement.details → link_with day nodes r d ≡ Some l → (k : Link) × (link_in day more q ≡ Some k) × IsNoLess l k
link_no_less day nodes more r q l same series (details.Relationship (Some subject) (Some party) interests) states h = (k, made, no_less)
  where
    at_q : (rec : List ℕ) → beside q rec ≡ beside r rec
    at_q rec = ap (λ (n : Node). let m : Node = record { agent = n.agent; declaration = n.declaration; rec = rec } in m) series

    info : (rec : List ℕ) → info_in more (beside q rec) ≡ info_in nodes (beside r rec)
    info rec = ap (λ (n : Node). info_in more n) (at_q rec) ∙ ap (λ (o : Option OpenNode). option_map (λ x. x.info) o) (same (beside r rec))

    k : Link
    k = record { rec = q.statement.rec; party = beside q party; subject = beside q subject; stake = is_stake day states.0; holding = is_holding day states.0 }

    was : (linked nodes (beside r party) (beside r subject) ≡ true) × (record { rec = r.statement.rec; party = beside r party; subject = beside r subject; stake = is_stake day interests; holding = is_holding day interests } ≡ l)
    was = cond_some (linked nodes (beside r party) (beside r subject)) _ l h

    made : link_in day more q ≡ Some k
    made = rw (states.1, info subject, info party, was.0)

    no_less : IsNoLess l k
    no_less = subst (λ (x : Link). IsNoLess x k) was.1 (record {
      party = at_q party;
      subject = at_q subject;
      stake = λ e. stakes day interests states.0 states.2 e;
      holding = λ e. holdings day interests states.0 states.2 e;
    })
link_no_less day nodes more r q l same series d states h = let no : None ≡ Some l = h in absurd cc

shown : (day : ℤ) (rows more : List Row) → AreOpenNoLess day rows more → ShowsNoLess (shown_of day rows) (shown_of day more)
shown day rows more no_less = record { nodes = nodes_same day rows more no_less; links = links }
  where
    links : (l : Link) → Contains (shown_of day rows).links l → (k : Link) × Contains (shown_of day more).links k × IsNoLess l k
    links l on =
        let f = link_found day rows l on in
        let r = f.0 in
        let o : IsOpenNoLess (Some r) (open_at day (series_of r) more) = subst (λ (x : Option Row). IsOpenNoLess x (open_at day (series_of r) more)) f.2 (no_less (series_of r)) in
        let of_q = (open_at_in day (series_of r) more o.0 o.1).1 in
        let k = link_no_less day (nodes_of day rows) (nodes_of day more) r o.0 l (nodes_same day rows more no_less) of_q r.statement.details o.2 f.3 in
        (k.0, link_made day (series_of r) more o.0 k.0 o.1 k.1, k.2)

-- ---- chains and reports

module _ (s t : Shown) (no_less : ShowsNoLess s t) where
  info_same : (n : Node) → info_of t n ≡ info_of s n
  info_same n = ap (λ (o : Option OpenNode). option_map (λ x. x.info) o) (no_less.nodes n)

  alias_kept : (a b : Node) → Alias s a b → Alias t a b
  alias_kept a b h = record { one = h.one; two = h.two; one_is = no_less.nodes a ∙ h.one_is; two_is = no_less.nodes b ∙ h.two_is; alike = h.alike }

  steps_kept : (a : Node) (cs : List Node) (b : Node) → IsAliasPath s a cs b → IsAliasPath t a cs b
  steps_kept a [] b h = h
  steps_kept a (c ∷ cs) b h = (alias_kept a c h.0, steps_kept c cs b h.1)

  same_kept : (a b : Node) → Same s a b → Same t a b
  same_kept a b h = (h.0, steps_kept a h.0 b h.1)

  chain_kept : (a e : Node) (ls : List Link) → IsChain s a ls e → (ks : List Link) × IsChain t a ks e × (length ks ≡ length ls)
  chain_kept a e [] h = absurd h
  chain_kept a e (l ∷ []) h =
      let k = no_less.links l h.0 in
      (k.0 ∷ [], (k.1, (k.2).party ∙ h.1, (k.2).holding h.2, subst (λ (n : Node). Same t n e) (sym (k.2).subject) (same_kept l.subject e h.3)), refl)
  chain_kept a e (l ∷ m ∷ ls) h =
      let k = no_less.links l h.0 in
      let rest = chain_kept m.party e (m ∷ ls) h.5 in
      let chain = chain_on t k.0 m.party rest.0 e k.1 ((k.2).stake h.2) (subst (λ (n : Node). Same t n m.party) (sym (k.2).subject) (same_kept l.subject m.party h.3)) (info_same m.party ∙ h.4) rest.1 in
      (k.0 ∷ rest.0, subst (λ (n : Node). IsChain t n (k.0 ∷ rest.0) e) ((k.2).party ∙ h.1) chain, let long = rest.2 in omega arith)

  named_again : (e : Node) (lines more : List PersonLine) → AreJoined s e lines → AreJoined t e more → NamesNoFewer lines more
  named_again e lines more a b x on =
      let j = a.each x on in
      let c = (j.1).some in
      let k = chain_kept x.node e c.0 c.1 in
      let m = b.every x.node x.info k.0 (info_same x.node ∙ j.0, k.1) in
      let few = ((b.each m.0 m.1).1).none_fewer k.0 (subst (λ (n : Node). IsChain t n k.0 e) (sym m.2) k.1) in
      (m.0, m.1, m.2, m.3, let long = k.2 in let was = c.2 in omega arith)

pub more_votes_take_nobody_out : MoreVotesTakeNobodyOut
more_votes_take_nobody_out = record {
  stakes = stakes;
  holdings = holdings;
  by_interest = by_interest;
  by_statement = by_statement;
  shown = shown;
  chains = λ s t person e ls no_less h. chain_kept s t no_less person e ls h;
  reports = λ s t e lines more no_less a b. named_again s t no_less e lines more a b;
}
