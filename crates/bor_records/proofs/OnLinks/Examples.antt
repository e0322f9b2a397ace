-- The definitions, tried: interests that are a stake or a holding and interests that aren't, rows on
-- days, and nodes that are aliases.
use Rattle.std.proofs.Common.{◌≡◌, ℕ, ℤ, pos, Bool, true, false, Option, Some, None, List, [], ◌∷◌, codes, refl, map, sym, ap, subst, inl, inr}
use Rattle.std.specs.List.{IsDistinct}
use Rattle.bor_terms.specs.Points.{points}
use Rattle.bor_terms.specs.Span.{Range, range}
use Rattle.bods_read.specs.declared.interest.Interest.{Interest}
use Rattle.bods_read.specs.declared.interest.InterestKind.{InterestKind}
use Rattle.bods_read.specs.declared.interest.InterestKind.TheVariants.{Shareholding, VotingRights, AppointmentOfBoard, Other}
use Rattle.bods_read.specs.declared.interest.Directness.TheVariants.{Direct, Indirect, Unknown}
use Rattle.bods_read.specs.declared.details.Details.{Details}
use Rattle.bods_read.specs.declared.details.Details.TheVariants as details
use Rattle.bods_read.specs.declared.details.EntityKind.TheVariants as kinds
use Rattle.bods_read.specs.declared.details.PersonKind.TheVariants.{KnownPerson}
use Rattle.bods_read.specs.declared.details.Identifier.{Identifier}
use Rattle.bods_read.specs.declared.statement.Status.{Status}
use Rattle.bods_read.specs.declared.statement.Status.TheVariants.{New, Updated, Closed}
use Rattle.bor_records.specs.declared.row.Row.{Row}
use Rattle.bor_records.specs.declared.links.node.Node.{Node}
use Rattle.bor_records.specs.declared.links.node.NodeInfo.TheVariants.{Entity, Person}
use Rattle.bor_records.specs.declared.links.node.OpenNode.{OpenNode}
use Rattle.bor_records.specs.declared.links.node.Link.{Link}
use Rattle.bor_records.specs.Links.Stakes.{is_stake, is_holding}
use Rattle.bor_records.specs.OpenRows.{open_rows}
use Rattle.bor_records.specs.Links.Shown.{Shown, are_alike, listed_at}
use Rattle.bor_records.specs.Links.Aliases.{Alias, Same}
use Rattle.bor_records.specs.Links.Answers.{AreLinksInto}
use Rattle.bor_records.specs.Links.Rows.{is_legal_kind, shown_of}
use Rattle.bor_records.proofs.OnLinks.Found.{none, cases}

-- ---- stakes and holdings

abbrev a_day : ℤ
a_day = pos 19754

abbrev of_kind : InterestKind → Option Range → Interest
of_kind kind share = record { kind = kind; directness = Unknown; share = share; starts = None; ends = None }

abbrev exactly : ℕ → Option Range
exactly percent = Some (range percent false percent false)

abbrev votes : Option Range → Interest
votes share = of_kind VotingRights share

abbrev shares : Option Range → Interest
shares share = of_kind Shareholding share

abbrev board : Option Range → Interest
board share = of_kind AppointmentOfBoard share

-- half of the votes is no majority: exactly 50, from 50; above 50; from 51
majorities : map (is_stake a_day)
    ((votes (exactly 50) ∷ []) ∷ (votes (Some (range 50 false 100 false)) ∷ []) ∷ (votes (Some (range 50 true 100 false)) ∷ []) ∷ (votes (Some (range 51 false 100 false)) ∷ []) ∷ [])
    ≡ false ∷ false ∷ true ∷ true ∷ []
unfolding points
majorities = refl

-- a majority of the shares is no majority stake, and neither is a vote of an unknown size
other_majorities : map (is_stake a_day) ((shares (exactly 100) ∷ []) ∷ (votes None ∷ []) ∷ (of_kind Other (exactly 100) ∷ []) ∷ []) ≡ false ∷ false ∷ false ∷ []
unfolding points
other_majorities = refl

-- two halves aren't added up
not_added : is_stake a_day (votes (exactly 40) ∷ votes (exactly 40) ∷ []) ≡ false
unfolding points
not_added = refl

-- a right to appoint a majority of the board: alone; of a member with 1 percent of the shares, and with
-- 0 percent; of half of the board; of 51 percent of it; of a member by votes
boards : map (is_stake a_day) (
    (board None ∷ [])
    ∷ (board None ∷ shares (exactly 1) ∷ [])
    ∷ (board None ∷ shares (exactly 0) ∷ [])
    ∷ (board (exactly 50) ∷ shares (exactly 1) ∷ [])
    ∷ (board (exactly 51) ∷ shares (exactly 1) ∷ [])
    ∷ (votes (exactly 1) ∷ board None ∷ [])
    ∷ []
    ) ≡ false ∷ true ∷ false ∷ false ∷ true ∷ true ∷ []
unfolding points
boards = refl

-- a share of the board that says nothing of its size is no majority; a right with no share is one
board_shares : map (is_stake a_day) ((board None ∷ shares (exactly 1) ∷ []) ∷ (board (Some (range 0 false 100 false)) ∷ shares (exactly 1) ∷ []) ∷ []) ≡ true ∷ false ∷ []
unfolding points
board_shares = refl

-- of any size above nothing: none; exactly 0; below 1; up to 1; unknown; a seat on the board; another kind
holdings : map (is_holding a_day) (
    []
    ∷ (shares (exactly 0) ∷ [])
    ∷ (shares (Some (range 0 false 1 true)) ∷ [])
    ∷ (shares (Some (range 0 false 1 false)) ∷ [])
    ∷ (shares None ∷ [])
    ∷ (board (exactly 1) ∷ [])
    ∷ (of_kind Other (exactly 100) ∷ [])
    ∷ []
    ) ≡ false ∷ false ∷ true ∷ true ∷ true ∷ true ∷ false ∷ []
unfolding points
holdings = refl

-- what is held indirectly counts for nothing, and a membership that is held indirectly makes no member
abbrev indirectly : Interest → Interest
indirectly i = record i { directness = Indirect }

indirect_holding : is_holding a_day (indirectly (votes (exactly 100)) ∷ []) ≡ false
unfolding points
indirect_holding = refl

indirect_stakes : map (is_stake a_day)
    ((indirectly (votes (exactly 100)) ∷ []) ∷ (indirectly (board None) ∷ shares (exactly 1) ∷ []) ∷ (board None ∷ indirectly (shares (exactly 1)) ∷ []) ∷ [])
    ≡ false ∷ false ∷ false ∷ []
unfolding points
indirect_stakes = refl

direct_stake : is_stake a_day (record (votes (exactly 51)) { directness = Direct } ∷ []) ≡ true
unfolding points
direct_stake = refl

-- an interest that runs from a day to a day: before the first, on it, on the last, after it; a start after the end; no days
abbrev running : Option ℤ → Option ℤ → List Interest
running starts ends = record (votes (exactly 100)) { starts = starts; ends = ends } ∷ []

periods : map (λ day. is_stake day (running (Some (pos 10)) (Some (pos 20)))) (pos 9 ∷ pos 10 ∷ pos 20 ∷ pos 21 ∷ []) ≡ false ∷ true ∷ true ∷ false ∷ []
unfolding points
periods = refl

no_periods : map (λ is. is_holding (pos 15) is) (running (Some (pos 16)) (Some (pos 14)) ∷ running None None ∷ running (Some (pos 16)) None ∷ running None (Some (pos 14)) ∷ []) ≡ false ∷ true ∷ false ∷ false ∷ []
unfolding points
no_periods = refl

-- ---- legal entities

-- which of the eight kinds make a legal entity: a registered one and a legal one, and these alone may stand in the middle of a chain
legal_kinds : map is_legal_kind (kinds.RegisteredEntity ∷ kinds.LegalEntity ∷ kinds.Arrangement ∷ kinds.AnonymousEntity ∷ kinds.UnknownEntity ∷ kinds.State ∷ kinds.StateBody ∷ kinds.Other ∷ [])
    ≡ true ∷ true ∷ false ∷ false ∷ false ∷ false ∷ false ∷ false ∷ []
legal_kinds = refl

-- ---- rows on days

abbrev of_record : List ℕ → ℕ → Status → Details → Row
of_record rec day status said = record {
  agent = codes "alder";
  filing = 1;
  place = 1;
  status = status;
  statement = record { id = codes "s"; day = pos day; declaration = codes "c1"; rec = rec; status = None; details = said };
}

abbrev company : Details
company = details.Entity kinds.RegisteredEntity None []

abbrev opened_row : Row
opened_row = of_record (codes "e1") 10 New company

abbrev closed_row : Row
closed_row = of_record (codes "e1") 12 Closed company

-- an entity that is closed on the 12th day: before it is dated, while it is open, and from then on
by_day : map (λ day. open_rows (pos day) (opened_row ∷ closed_row ∷ [])) (9 ∷ 10 ∷ 11 ∷ 12 ∷ 13 ∷ []) ≡ [] ∷ (opened_row ∷ []) ∷ (opened_row ∷ []) ∷ [] ∷ [] ∷ []
by_day = refl

-- the last in order is the latest, whatever the dates
last_in_order : open_rows (pos 12) (of_record (codes "e1") 12 New company ∷ of_record (codes "e1") 10 Updated company ∷ []) ≡ of_record (codes "e1") 10 Updated company ∷ []
last_in_order = refl

abbrev pub node : List ℕ → List ℕ → Node
node declaration rec = record { agent = codes "alder"; declaration = declaration; rec = rec }

abbrev pub of_c1 : List ℕ → Node
of_c1 rec = node (codes "c1") rec

abbrev held_by : List ℕ → List ℕ → List Interest → Details
held_by subject party interests = details.Relationship (Some subject) (Some party) interests

abbrev person_row : Row
person_row = of_record (codes "p1") 10 New (details.Person KnownPerson (Some (codes "Ann Moss")))

abbrev link_row : Row
link_row = of_record (codes "r1") 10 New (held_by (codes "e1") (codes "p1") (votes (exactly 60) ∷ []))

abbrev p1_in_e1 : Bool → Bool → Link
p1_in_e1 stake holding = record { rec = codes "r1"; party = of_c1 (codes "p1"); subject = of_c1 (codes "e1"); stake = stake; holding = holding }

-- an entity, a person and a relationship are two nodes and a link
shown_rows : shown_of (pos 10) (opened_row ∷ person_row ∷ link_row ∷ []) ≡ record {
  nodes = record { node = of_c1 (codes "e1"); info = Entity true; identifiers = [] } ∷ record { node = of_c1 (codes "p1"); info = Person (record { name = Some (codes "Ann Moss") }); identifiers = [] } ∷ [];
  links = p1_in_e1 true true ∷ [];
}
unfolding points
shown_rows = refl

-- the links into e1 are this one, once; with a copy of it beside they aren't
into_e1 : AreLinksInto (shown_of (pos 10) (opened_row ∷ person_row ∷ link_row ∷ [])) (of_c1 (codes "e1")) (p1_in_e1 true true ∷ [])
unfolding IsDistinct
into_e1 = subst (λ (s : Shown). AreLinksInto s (of_c1 (codes "e1")) (p1_in_e1 true true ∷ [])) (sym shown_rows) (record {
  each = λ l. ((λ h. elim (cases (p1_in_e1 true true) [] l h) [ inl e ↦ (h, ap (λ (k : Link). k.subject) (sym e)) | inr gone ↦ absurd (none l gone) ]), (λ h. h.0));
  once = (tt, tt);
})

not_twice : (s : Shown) (n : Node) → AreLinksInto s n (p1_in_e1 true true ∷ p1_in_e1 true true ∷ []) → ⊥
unfolding IsDistinct
not_twice s n h = let both = h.once in absurd (let no : true ≡ false = (both.0).0 in cc)

-- where an end is closed or a person is held, there is no link
unlinked : map (λ rows. (shown_of (pos 12) rows).links) (
    (opened_row ∷ closed_row ∷ person_row ∷ link_row ∷ [])
    ∷ (opened_row ∷ person_row ∷ of_record (codes "p1") 11 Closed (details.Person KnownPerson None) ∷ link_row ∷ [])
    ∷ (opened_row ∷ person_row ∷ link_row ∷ of_record (codes "r1") 11 Closed (held_by (codes "e1") (codes "p1") []) ∷ [])
    ∷ (opened_row ∷ person_row ∷ of_record (codes "r1") 10 New (held_by (codes "p1") (codes "e1") (votes (exactly 60) ∷ [])) ∷ [])
    ∷ []
    ) ≡ [] ∷ [] ∷ [] ∷ [] ∷ []
unlinked = refl

-- a relationship that is updated from 60 percent of the votes to 40, and then to what is held indirectly
updated_away : map (λ day. (shown_of (pos day) (
    opened_row ∷ person_row ∷ link_row
    ∷ of_record (codes "r1") 11 Updated (held_by (codes "e1") (codes "p1") (votes (exactly 40) ∷ []))
    ∷ of_record (codes "r1") 12 Updated (held_by (codes "e1") (codes "p1") (indirectly (votes (exactly 60)) ∷ []))
    ∷ []
    )).links) (10 ∷ 11 ∷ 12 ∷ []) ≡ (p1_in_e1 true true ∷ []) ∷ (p1_in_e1 false true ∷ []) ∷ (p1_in_e1 false false ∷ []) ∷ []
unfolding points
updated_away = refl

abbrev in_c2 : Row → Row
in_c2 r = record r { statement = record r.statement { declaration = codes "c2" } }

-- an end that names no record, and ends that are open in another declaration alone: no link
no_ends : map (λ rows. (shown_of (pos 10) rows).links) (
    (opened_row ∷ person_row ∷ of_record (codes "r1") 10 New (details.Relationship None (Some (codes "p1")) (votes (exactly 60) ∷ [])) ∷ [])
    ∷ (opened_row ∷ person_row ∷ of_record (codes "r1") 10 New (details.Relationship (Some (codes "e1")) None (votes (exactly 60) ∷ [])) ∷ [])
    ∷ (opened_row ∷ in_c2 person_row ∷ link_row ∷ [])
    ∷ (in_c2 opened_row ∷ person_row ∷ link_row ∷ [])
    ∷ []
    ) ≡ [] ∷ [] ∷ [] ∷ [] ∷ []
no_ends = refl

-- ---- aliases

abbrev pub entity : Node → List Identifier → OpenNode
entity n identifiers = record { node = n; info = Entity true; identifiers = identifiers }

abbrev numbered : List ℕ → List ℕ → Identifier
numbered scheme id = record { scheme = scheme; id = id }

abbrev pub registered : Identifier
registered = numbered (codes "GB-COH") (codes "00000001")

-- equal record: in two declarations of one agent, in one declaration, of two agents
by_record : map (λ b. are_alike (entity (of_c1 (codes "e1")) []) (entity b [])) (
    node (codes "c2") (codes "e1")
    ∷ of_c1 (codes "e1")
    ∷ record { agent = codes "birch"; declaration = codes "c2"; rec = codes "e1" }
    ∷ []
    ) ≡ true ∷ false ∷ false ∷ []
by_record = refl

-- an equal identifier: of two nodes, whosever; of one node; another id; another scheme
by_identifier : map (λ b. are_alike (entity (of_c1 (codes "e1")) (registered ∷ [])) b) (
    entity (of_c1 (codes "a1")) (numbered (codes "X") (codes "1") ∷ registered ∷ [])
    ∷ entity (record { agent = codes "birch"; declaration = codes "c9"; rec = codes "b1" }) (registered ∷ [])
    ∷ entity (of_c1 (codes "e1")) (registered ∷ [])
    ∷ entity (of_c1 (codes "a1")) (numbered (codes "GB-COH") (codes "00000002") ∷ [])
    ∷ entity (of_c1 (codes "a1")) (numbered (codes "X") (codes "00000001") ∷ [])
    ∷ []
    ) ≡ true ∷ true ∷ false ∷ false ∷ false ∷ []
by_identifier = refl

-- a person is nobody's alias
no_person : are_alike (entity (of_c1 (codes "p1")) []) (record { node = node (codes "c2") (codes "p1"); info = Person (record { name = None }); identifiers = [] }) ≡ false
no_person = refl

aliased : (s : Shown) (one two : OpenNode) → listed_at s.nodes one.node ≡ Some one → listed_at s.nodes two.node ≡ Some two → are_alike one two ≡ true → Alias s one.node two.node
aliased s one two one_is two_is alike = record { one = one; two = two; one_is = one_is; two_is = two_is; alike = alike }

-- the rows of one record in two declarations show two nodes that stand for one entity
in_two_declarations : Alias (shown_of (pos 10) (opened_row ∷ in_c2 opened_row ∷ [])) (of_c1 (codes "e1")) (node (codes "c2") (codes "e1"))
in_two_declarations = aliased (shown_of (pos 10) (opened_row ∷ in_c2 opened_row ∷ [])) (entity (of_c1 (codes "e1")) []) (entity (node (codes "c2") (codes "e1")) []) refl refl refl

-- e1 shares an identifier with e2, and e2 another one with e3: two steps, where one is none
abbrev e1 : OpenNode
e1 = entity (of_c1 (codes "e1")) (registered ∷ [])

abbrev e2 : OpenNode
e2 = entity (of_c1 (codes "e2")) (registered ∷ numbered (codes "X") (codes "1") ∷ [])

abbrev e3 : OpenNode
e3 = entity (of_c1 (codes "e3")) (numbered (codes "X") (codes "1") ∷ [])

abbrev two_steps : Shown
two_steps = record { nodes = e1 ∷ e2 ∷ e3 ∷ []; links = [] }

over_two_steps : Same two_steps (of_c1 (codes "e1")) (of_c1 (codes "e3"))
over_two_steps = (of_c1 (codes "e2") ∷ of_c1 (codes "e3") ∷ [], (aliased two_steps e1 e2 refl refl refl, (aliased two_steps e2 e3 refl refl refl, refl)))

no_single_step : are_alike e1 e3 ≡ false
no_single_step = refl
