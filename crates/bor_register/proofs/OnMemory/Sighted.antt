-- What a viewer sees at the places of statements: rows, nodes and links; and which statements of an agent are live.
use Rattle.std.proofs.Common.{◌≡◌, ℕ, ℤ, ◌+◌, ◌&&◌, List, [], ◌∷◌, map, Bool, true, false, cond, Option, Some, None, option_map, option_and_then, Contains, refl, ◌∙◌, sym, ap, ap₂, subst, inl, inr, arith}
use Rattle.std.specs.Prelude.{int_le, is_some, ◌||◌, IsTrue}
use Rattle.std.proofs.Math.Bool.{or-false}
use Rattle.std.specs.Cmp.Lexicographic.{texts_ties}
use Rattle.std.specs.List.{filter, filter_map, last_or, list_any}
use Rattle.std.proofs.lemmas.List.{map-append}
use Rattle.std.proofs.lemmas.List.Elements.{filter-append, filter_agree, Contains-append_cases, Contains-append_left, Contains-append_right}
use Rattle.std.proofs.lemmas.Bool.{and_parts}
use Rattle.std.proofs.lemmas.Option.{same_Some}
use Rattle.bor_terms.specs.Texts.{is_same}
use Rattle.bor_terms.proofs.Texts.{same_refl, same_is}
use Rattle.bods_read.specs.declared.statement.Statement.{Statement}
use Rattle.bods_read.specs.declared.details.Details.{Details}
use Rattle.bods_read.specs.declared.details.Details.TheVariants as details
use Rattle.bor_records.specs.Admission.{Live, is_of as is_of_record, known_of, last_of}
use Rattle.bor_records.specs.declared.links.node.Node.{Node}
use Rattle.bor_records.specs.declared.row.Row.{Row}
use Rattle.bor_records.specs.Links.Orders.{node_equiv, node_ties}
use Rattle.bor_records.specs.Links.Series.{is_of, open_at, series, series_of, stated}
use Rattle.bor_records.specs.Settling.{as_live, has_id}
use Rattle.bor_records.specs.Snapshot.{is_dated, latest, unless_closed as row_unless_closed}
use Rattle.bor_records.proofs.OnLinks.Found.{Contains-filter, Contains-from_filter, cases, here, none, there}
use Rattle.bor_records.specs.declared.links.node.OpenNode.{OpenNode}
use Rattle.bor_records.specs.declared.links.sign.Sign.{Sign}
use Rattle.bor_records.specs.Links.Answers.{only_into}
use Rattle.bor_records.specs.Links.Rows.{link_stated, node_with, nodes_of}
use Rattle.bor_records.specs.Links.Shown.{entity_identifiers, identifiers_in, is_entity}
use Rattle.bor_records.specs.Links.Signs.{signs}
use Rattle.bor_records.proofs.OnLinks.ByKey.{listed_by_key}
use Rattle.bor_records.proofs.OnLinks.Stated.{node_open}
use Rattle.bor_records.specs.Links.Alike.{CoverSign}
use Rattle.bor_records.specs.Links.Candidates.{is_into, names, stated_at}
use Rattle.bor_register.specs.declared.filing.AcceptedFiling.{AcceptedFiling}
use Rattle.bor_register.specs.declared.memory.index.Place.{Place}
use Rattle.bor_register.specs.declared.memory.index.StatementKey.{StatementKey}
use Rattle.bor_register.specs.declared.member.Member.{Member}
use Rattle.bor_register.specs.Live.{live_of}
use Rattle.bor_register.specs.Register.{IsOrdered, filings_of}
use Rattle.bor_register.specs.Rows.{is_visible, row_of, rows_from, rows_in, visible, visible_in}
use Rattle.bor_register.specs.Memory.Indexed.{has_key, has_record, statements_in, AllNoted, record_beside, signs_stated, signs_of, subjects_in, subjects_of}
use Rattle.bor_register.specs.Memory.Sighted.{statement_unless_closed, identifiers_stated}
use Rattle.bor_register.specs.Memory.Sited.{Sited, ArePlacesOf, is_told, passes, row_sited, sited_at, sited_from, sited_in}
use Rattle.bor_register.proofs.OneAgent.{one_agent}
use Rattle.bor_register.proofs.OnMemory.Lists.{filter-map, filter_between, filter_true, last_map}
use Rattle.bor_register.proofs.OnMemory.Sited.{picked}

-- ---- rows

rows_sited : (name : List ℕ) (i : ℕ) (f : AcceptedFiling) (j : ℕ) (ss : List Statement) → map (row_sited name) (sited_from i f j ss) ≡ rows_from name f.number (j + 1) ss
rows_sited name i f j [] = refl
rows_sited name i f j (s ∷ ss) = ap (λ (rs : List Row). row_of name f.number (j + 1) s ∷ rs) (rows_sited name i f (j + 1) ss)

module _ (viewer : List ℕ) (today : ℤ) (name : List ℕ) where
  filing_seen : (b : Bool) (i : ℕ) (f : AcceptedFiling) (j : ℕ) (ss : List Statement) → is_visible viewer today name f ≡ b → filter (λ (x : Sited). is_visible viewer today name x.filing) (sited_from i f j ss) ≡ cond b (sited_from i f j ss) []
  filing_seen true i f j [] e = refl
  filing_seen false i f j [] e = refl
  filing_seen true i f j (s ∷ ss) e = rw (e, filing_seen true i f (j + 1) ss e) refl
  filing_seen false i f j (s ∷ ss) e = rw (e, filing_seen false i f (j + 1) ss e) refl

  visible_sited : (i : ℕ) (fs : List AcceptedFiling) → map (row_sited name) (filter (λ (x : Sited). is_visible viewer today name x.filing) (sited_in i fs)) ≡ visible_in viewer today name fs
  visible_sited i [] = refl
  visible_sited i (f ∷ fs) =
      let seen = λ (x : Sited). is_visible viewer today name x.filing in
      let from = sited_from i f 0 f.statements in
      let rest = sited_in (i + 1) fs in
      grind (
        arith,
        filter-append seen from rest,
        map-append (row_sited name) (filter seen from) (filter seen rest),
        filing_seen (is_visible viewer today name f) i f 0 f.statements refl,
        rows_sited name i f 0 f.statements,
        visible_sited (i + 1) fs,
      )

-- ---- the latest statement of a record

module _ (viewer : List ℕ) (today day : ℤ) (n : Node) (ms : List Member) (ordered : IsOrdered ms) (ps : List Place) (places : ArePlacesOf (filings_of n.agent ms) (has_record n) ps) where
  series_sited : series n (visible viewer today ms) ≡ map (row_sited n.agent) (filter (λ (x : Sited). has_record n x.statement) (filter (λ (x : Sited). is_visible viewer today n.agent x.filing) (sited_in 0 (filings_of n.agent ms))))
  series_sited =
      let seen : List Sited = filter (λ (x : Sited). is_visible viewer today n.agent x.filing) (sited_in 0 (filings_of n.agent ms)) in
      one_agent viewer today n ms ordered
      ∙ ap (series n) (sym (visible_sited viewer today n.agent 0 (filings_of n.agent ms)))
      ∙ filter-map (is_of n) (row_sited n.agent) seen
      ∙ ap (map (row_sited n.agent)) (filter_agree (λ (x : Sited). is_of n (row_sited n.agent x)) (λ (x : Sited). has_record n x.statement) (λ x. node_ties (stated n.agent x.statement) n) seen)

  pub latest_sited : latest day (series n (visible viewer today ms)) ≡ option_map (row_sited n.agent) (option_and_then (sited_at (filings_of n.agent ms)) (last_or None (filter (λ p. passes (is_told viewer today day n.agent) (sited_at (filings_of n.agent ms) p)) ps)))
  latest_sited =
      let all : List Sited = sited_in 0 (filings_of n.agent ms) in
      let seen : List Sited = filter (λ (x : Sited). is_visible viewer today n.agent x.filing) all in
      let own : List Sited = filter (λ (x : Sited). has_record n x.statement) seen in
      ap (latest day) series_sited
      ∙ ap (last_or None) (filter-map (is_dated day) (row_sited n.agent) own)
      ∙ last_map (row_sited n.agent) None (filter (λ (x : Sited). int_le x.statement.day day) own)
      ∙ ap (λ (xs : List Sited). option_map (row_sited n.agent) (last_or None xs))
      (filter_between (λ (x : Sited). int_le x.statement.day day) (λ (x : Sited). has_record n x.statement) (λ (x : Sited). is_visible viewer today n.agent x.filing) all
      ∙ ap (filter (is_told viewer today day n.agent)) (sym places.told))
      ∙ ap (option_map (row_sited n.agent)) (sym (picked (sited_at (filings_of n.agent ms)) (is_told viewer today day n.agent) None ps))

  -- what stands at the last place that is told is what the record shows, where it isn't closed
  pub shown_sited : (o : Option Place) (t : Option Statement) → o ≡ last_or None (filter (λ p. passes (is_told viewer today day n.agent) (sited_at (filings_of n.agent ms) p)) ps)
      → t ≡ option_map (λ (x : Sited). x.statement) (option_and_then (sited_at (filings_of n.agent ms)) o)
      → option_and_then statement_unless_closed t ≡ option_map (λ (r : Row). r.statement) (open_at day n (visible viewer today ms))
  shown_sited o t last is = grind (arith, is, last, latest_sited)

  -- so is its row
  pub opened_sited : (o : Option Place) → o ≡ last_or None (filter (λ p. passes (is_told viewer today day n.agent) (sited_at (filings_of n.agent ms) p)) ps)
      → option_and_then row_unless_closed (option_map (row_sited n.agent) (option_and_then (sited_at (filings_of n.agent ms)) o)) ≡ open_at day n (visible viewer today ms)
  opened_sited o last = rw last (ap (option_and_then row_unless_closed) (sym latest_sited))

-- ---- an agent's live statements

live_from : (i : ℕ) (f : AcceptedFiling) (j : ℕ) (ss : List Statement) → map (as_live f.due) ss ≡ map (λ (x : Sited). as_live x.filing.due x.statement) (sited_from i f j ss)
live_from i f j [] = refl
live_from i f j (s ∷ ss) = ap (λ (ls : List Live). as_live f.due s ∷ ls) (live_from i f (j + 1) ss)

live_sited : (i : ℕ) (fs : List AcceptedFiling) → live_of fs ≡ map (λ (x : Sited). as_live x.filing.due x.statement) (sited_in i fs)
live_sited i [] = refl
live_sited i (f ∷ fs) =
    grind (arith, live_from i f 0 f.statements, live_sited (i + 1) fs, map-append (λ (x : Sited). as_live x.filing.due x.statement) (sited_from i f 0 f.statements) (sited_in (i + 1) fs))

-- a statement is of a record of its agent
pub record_is : (n : Node) (s : Statement) → is_of_record n.declaration n.rec s ≡ has_record n s
record_is n s = ap (λ (b : Bool). b && is_of_record n.declaration n.rec s) (sym (same_refl n.agent)) ∙ node_ties (stated n.agent s) n

known_map : (o : Option Sited) → option_map known_of (option_map (λ (x : Sited). as_live x.filing.due x.statement) o) ≡ option_map (λ (x : Sited). known_of (as_live x.filing.due x.statement)) o
known_map o = grind arith

-- the last place at which a statement stands is that of the last one
pub last_sited : (n : Node) (fs : List AcceptedFiling) (ps : List Place) → ArePlacesOf fs (has_record n) ps
    → option_map (λ (x : Sited). known_of (as_live x.filing.due x.statement)) (option_and_then (sited_at fs) (last_or None (filter (λ p. passes (λ x. true) (sited_at fs p)) ps))) ≡ last_of n.declaration n.rec (live_of fs)
last_sited n fs ps places =
    let all : List Sited = sited_in 0 fs in
    let of_live : Live → Bool = λ l. is_of_record n.declaration n.rec l.statement in
    ap (option_map (λ (x : Sited). known_of (as_live x.filing.due x.statement)))
    (picked (sited_at fs) (λ x. true) None ps ∙ ap (last_or None) (filter_true (filter_map (sited_at fs) ps) ∙ places.told
    ∙ sym (filter_agree (λ (x : Sited). is_of_record n.declaration n.rec x.statement) (λ (x : Sited). has_record n x.statement) (λ x. record_is n x.statement) all)))
    ∙ sym (known_map (last_or None (filter (λ (x : Sited). is_of_record n.declaration n.rec x.statement) all)))
    ∙ ap (option_map known_of) (sym (ap (λ (ls : List Live). last_or None (filter of_live ls)) (live_sited 0 fs)
    ∙ ap (last_or None) (filter-map of_live (λ (x : Sited). as_live x.filing.due x.statement) all)
    ∙ last_map (λ (x : Sited). as_live x.filing.due x.statement) None (filter (λ (x : Sited). is_of_record n.declaration n.rec x.statement) all)))

-- ---- what is seen is live

rows_from-live : (name : List ℕ) (number place : ℕ) (ss : List Statement) (r : Row) → Contains (rows_from name number place ss) r → Contains ss r.statement
rows_from-live name number place [] r h = absurd (none r h)
rows_from-live name number place (s ∷ ss) r h = elim (cases (row_of name number place s) (rows_from name number (place + 1) ss) r h) [
  | inl e ↦ subst (λ (q : Row). Contains (s ∷ ss) q.statement) e (here s ss)
  | inr k ↦ there s ss r.statement (rows_from-live name number (place + 1) ss r k)
]

visible-live : (viewer : List ℕ) (today : ℤ) (name : List ℕ) (fs : List AcceptedFiling) (r : Row) → Contains (rows_in name (filter (is_visible viewer today name) fs)) r → Contains (statements_in fs) r.statement
visible-live viewer today name [] r h = absurd (none r h)
visible-live viewer today name (f ∷ fs) r h = go (is_visible viewer today name f) (λ k. visible-live viewer today name fs r k) h
  where
    left : List AcceptedFiling
    left = filter (is_visible viewer today name) fs

    go : (b : Bool) → (Contains (rows_in name left) r → Contains (statements_in fs) r.statement) → Contains (rows_in name (cond b (f ∷ left) left)) r → Contains (statements_in (f ∷ fs)) r.statement
    go true more k = elim (Contains-append_cases (rows_from name f.number 1 f.statements) (rows_in name left) r k) [
      | inl q ↦ Contains-append_left f.statements (statements_in fs) r.statement (rows_from-live name f.number 1 f.statements r q)
      | inr q ↦ Contains-append_right f.statements (statements_in fs) r.statement (more q)
    ]
    go false more k = Contains-append_right f.statements (statements_in fs) r.statement (more k)

-- a row that is seen is of a live statement of its agent
pub seen-live : (viewer : List ℕ) (today : ℤ) (ms : List Member) → IsOrdered ms → (r : Row) → Contains (visible viewer today ms) r → Contains (statements_in (filings_of r.agent ms)) r.statement
seen-live viewer today ms ordered r h =
    let n : Node = series_of r in
    let own = subst (λ (rows : List Row). Contains rows r) (one_agent viewer today n ms ordered) (Contains-filter (is_of n) (visible viewer today ms) r h (node_equiv.refl n)) in
    visible-live viewer today r.agent (filings_of r.agent ms) r (Contains-from_filter (is_of n) (visible_in viewer today r.agent (filings_of r.agent ms)) r own).0

-- ---- identifiers

key_is : (k : StatementKey) (s : Statement) → is_same s.id k.id ≡ has_key k s
key_is k s = grind (arith, texts_ties s.id k.id, texts_ties k.agent k.agent, same_refl k.agent)

some_passes : {X : Type 0} (p : X → Bool) (o : Option X) (xs : List X) → is_some (last_or o (filter p xs)) ≡ (is_some o || list_any p xs)
some_passes p o [] = sym (or-false (is_some o))
some_passes p o (x ∷ xs) = grind (arith, some_passes p (Some x) xs, some_passes p o xs)

any_stands : (at : Place → Option Sited) (ps : List Place) → list_any (λ p. passes (λ x. true) (at p)) ps ≡ list_any (λ (x : Sited). true) (filter_map at ps)
any_stands at [] = refl
any_stands at (p ∷ ps) = grind (arith, any_stands at ps)

any_filtered : {X : Type 0} (p : X → Bool) (xs : List X) → list_any (λ x. true) (filter p xs) ≡ list_any p xs
any_filtered p [] = refl
any_filtered p (x ∷ xs) = grind (arith, any_filtered p xs)

any_live : (k : StatementKey) (xs : List Sited) → list_any (λ (x : Sited). has_key k x.statement) xs ≡ has_id k.id (map (λ (x : Sited). as_live x.filing.due x.statement) xs)
any_live k [] = refl
any_live k (x ∷ xs) = ap₂ (λ (a b : Bool). a || b) (sym (key_is k x.statement)) (any_live k xs)

-- a statement stands at one of the places where one has the identifier
pub any_sited : (k : StatementKey) (fs : List AcceptedFiling) (ps : List Place) → ArePlacesOf fs (has_key k) ps
    → is_some (last_or None (filter (λ p. passes (λ x. true) (sited_at fs p)) ps)) ≡ has_id k.id (live_of fs)
any_sited k fs ps places =
    some_passes (λ p. passes (λ x. true) (sited_at fs p)) None ps ∙ any_stands (sited_at fs) ps ∙ ap (list_any (λ (x : Sited). true)) places.told
    ∙ any_filtered (λ (x : Sited). has_key k x.statement) (sited_in 0 fs) ∙ any_live k (sited_in 0 fs) ∙ ap (has_id k.id) (sym (live_sited 0 fs))

-- ---- nodes

identifiers_made : (n : Node) (d : Details) → identifiers_stated d ≡ option_and_then entity_identifiers (node_with n d)
identifiers_made n d = grind arith

module _ (day : ℤ) (rows : List Row) (n : Node) where
  pub identifiers_open : (t : Option Statement) → t ≡ option_map (λ (r : Row). r.statement) (open_at day n rows) → option_and_then (λ (s : Statement). identifiers_stated s.details) t ≡ identifiers_in (nodes_of day rows) n
  identifiers_open t is = grind (arith, identifiers_made n, node_open day rows n t is, listed_by_key day n rows)

-- the link that a record states is the one that its statement states
pub link_open : (day : ℤ) (rows : List Row) (n k : Node) (t : Option Statement) → t ≡ option_map (λ (r : Row). r.statement) (open_at day k rows)
    → only_into n (option_and_then (λ (s : Statement). link_stated day k s.details) t) ≡ stated_at day rows n k
link_open day rows n k t is = grind (arith, is)

-- a relationship into a node names it
named_in : (n : Node) (agent : List ℕ) (s : Statement) (d : Details) → is_same agent n.agent ≡ true → is_same s.declaration n.declaration ≡ true → names n.rec d ≡ true → Contains (subjects_in agent s d) n
named_in n agent s (details.Relationship (Some subject) party interests) a d h =
    let one = same_is agent n.agent a in
    let two = same_is s.declaration n.declaration d in
    let three = same_is subject n.rec h in
    let is : record_beside agent s subject ≡ n = λ i. record { agent = one i; declaration = two i; rec = three i } in
    subst (λ (m : Node). Contains (m ∷ []) n) (sym is) (here n [])
named_in n agent s other a d h = absurd cc

subject_named : (n : Node) (agent : List ℕ) (s : Statement) → is_into n agent s ≡ true → Contains (subjects_of agent s) n
subject_named n agent s h =
    let one = and_parts (is_same agent n.agent) (is_same s.declaration n.declaration && names n.rec s.details) h in
    let two = and_parts (is_same s.declaration n.declaration) (names n.rec s.details) one.1 in
    named_in n agent s s.details one.0 two.0 two.1

module _ (viewer : List ℕ) (today : ℤ) (ms : List Member) (ordered : IsOrdered ms) where
  -- the records that have named a node are those of the rows into it, and more
  pub naming_covered : (naming : Node → List Node) → AllNoted subjects_of ms naming → (n : Node) (r : Row) → Contains (visible viewer today ms) r → is_into n r.agent r.statement ≡ true → Contains (naming n) (series_of r)
  naming_covered naming noted n r h into = noted r.agent r.statement n (seen-live viewer today ms ordered r h) (subject_named n r.agent r.statement into)

  -- ---- signs

  entity_signs : (n : Node) (d : Details) (x : OpenNode) → node_with n d ≡ Some x → IsTrue (is_entity x.info) → signs_stated n d ≡ signs x
  entity_signs n (details.Entity kind name identifiers) x e entity = ap signs (same_Some _ x e)
  entity_signs n (details.Person kind name) x e entity =
      let no : false ≡ true = ap (λ (y : OpenNode). is_entity y.info) (same_Some _ x e) ∙ entity in absurd cc
  entity_signs n (details.Relationship subject party interests) x e entity = let no : None ≡ Some x = e in absurd cc

  -- the records that have had a sign are those of the rows of entities that have it, and more
  pub sign_covered : (signed : Sign → List Node) → AllNoted signs_of ms signed → (k : Sign) → CoverSign (visible viewer today ms) k (signed k)
  sign_covered signed noted k row x h at entity has =
      noted row.agent row.statement k (seen-live viewer today ms ordered row h)
      (subst (λ (ks : List Sign). Contains ks k) (sym (entity_signs (stated row.agent row.statement) row.statement.details x at entity)) has)
