-- Which records are found by what their statements name, and by a sign.
use Rattle.std.proofs.Common.{◌≡◌, ◌↔◌, ◌&&◌, ℕ, ℤ, List, map, true, None, Some, Contains, refl, sym, ap, ◌∙◌, subst, ◌+◌, Bool, Option, option_map, [], ◌∷◌, slice_get, ap₂, inl, inr, if◌then◌else◌}
use Rattle.std.proofs.lemmas.Bool.{and_parts}
use Rattle.bor_terms.specs.Texts.{is_same}
use Rattle.bor_terms.proofs.Texts.{same_is, is_same-of}
use Rattle.bods_read.specs.declared.details.Details.{Details}
use Rattle.bods_read.specs.declared.details.Details.TheVariants as details
use Rattle.bor_records.specs.declared.row.Row.{Row}
use Rattle.bor_records.specs.declared.links.node.Node.{Node}
use Rattle.bor_records.specs.Links.Series.{series_of}
use Rattle.bor_records.proofs.OnLinks.Found.{Contains-filter, Contains-from_filter, Contains-map, none, here, there, cases, Contains-from_map, Contains-filter_map}
use Rattle.bor_register.specs.Register.{Register}
use Rattle.bor_register.specs.Rows.{visible}
use Rattle.bor_records.specs.Links.Candidates.{is_into, names}
use Rattle.bor_store_sql.specs.declared.rows.typed.Placed.{Placed}
use Rattle.bor_store_sql.specs.declared.rows.typed.StatementRow.{StatementRow}
use Rattle.bor_store_sql.specs.Rows.Placed.{bare, placed, identifier_rows, identifiers_from, identifiers_listed}
use Rattle.bor_store_sql.specs.Rows.Stored.{IsStored}
use Rattle.bor_store_sql.specs.Selected.{names_subject, placed_of, with_subject, identified_by, in_record}
use Rattle.bor_store_keys.specs.Recorded.{CoverRecords, record_at, placed_record}
use Rattle.bor_store_keys.proofs.SeriesSeen.{Stands, stands}
use Rattle.std.specs.List.{filter_map, flat_map, list_any}
use Rattle.std.proofs.lemmas.Option.{same_Some}
use Rattle.std.proofs.lemmas.List.Elements.{All-contains, All-contains_itself, Contains-append_left, Contains-append_right}
use Rattle.bods_read.specs.declared.details.Identifier.{Identifier}
use Rattle.bor_records.specs.declared.links.node.OpenNode.{OpenNode}
use Rattle.bor_records.specs.declared.links.sign.Sign.{Sign}
use Rattle.bor_records.specs.Links.Rows.{node_in}
use Rattle.bor_records.specs.Links.Signs.{by_identifier, by_record, signs}
use Rattle.bor_records.proofs.OnLinks.Signs.{same_any, any_is}
use Rattle.bor_store_sql.specs.declared.rows.places.At.{At}
use Rattle.bor_store_sql.specs.declared.rows.typed.IdentifierRow.{IdentifierRow}
use Rattle.bor_store_sql.specs.Rows.Seen.{row_placed}
use Rattle.bor_store_sql.proofs.OnRows.Apart.{all_apart}
use Rattle.bor_store_sql.proofs.Alone.{IsAlone, each_alone, own_placed}
use Rattle.bor_records.specs.Links.Alike.{CoverSign}
use Rattle.bor_store_keys.specs.Signed.{record_standing, with_identifier, with_sign}
use Rattle.bor_store_keys.specs.Viewed.{rows_seen}
use Rattle.bor_store_keys.specs.declared.view.View.{View}

module _ (r : Register) (row : Row) where
  -- where a row stands among its agent's statements
  pub placed_there : (s : Stands r row) → Contains (placed_of row.agent r) s.at
  placed_there s = (Contains-from_filter (λ (p : Placed). is_same p.statement.declaration row.statement.declaration && is_same p.statement.rec row.statement.rec) (placed_of row.agent r) s.at s.own).0

  -- its record is one of those of the statements that it stands among
  pub recorded : (s : Stands r row) (ps : List Placed) (nodes : List Node) → CoverRecords ps nodes → Contains ps s.at → Contains nodes (series_of row)
  recorded s ps nodes cover h = subst (λ (x : Row). Contains nodes (series_of x)) (sym s.is) (cover s.at h)

-- records that are made row by row, and then taken once each
pub records_cover : (ps : List Placed) (rows : List StatementRow) (made nodes : List Node) → rows ≡ map bare ps → made ≡ map record_at rows → ((n : Node) → Contains nodes n ↔ Contains made n) → CoverRecords ps nodes
records_cover ps rows made nodes is made_is same p h =
    (same (placed_record p)).1 (subst (λ (ns : List Node). Contains ns (placed_record p)) (sym (made_is ∙ ap (map record_at) is)) (Contains-map record_at (map bare ps) (bare p) (Contains-map bare ps p h)))

names_alike : (rec : List ℕ) (d : Details) → names rec d ≡ names_subject rec d
names_alike rec (details.Relationship (Some subject) party interests) = refl
names_alike rec d = refl

-- the records of the statements that name a subject are those of all rows into it
pub into_covered : (viewer : List ℕ) (today : ℤ) (r : Register) → IsStored r → (n : Node) (nodes : List Node) → CoverRecords (with_subject n.declaration n.rec (placed_of n.agent r)) nodes
    → (row : Row) → Contains (visible viewer today r.members) row → is_into n row.agent row.statement ≡ true → Contains nodes (series_of row)
into_covered viewer today r stored n nodes cover row h into =
    let s : Stands r row = stands viewer today r stored row h in
    let parts = and_parts (is_same row.agent n.agent) (is_same row.statement.declaration n.declaration && names n.rec row.statement.details) into in
    let own : Contains (placed_of n.agent r) s.at = subst (λ a. Contains (placed_of a r) s.at) (same_is row.agent n.agent parts.0) (placed_there r row s) in
    let passes : (is_same (s.at).statement.declaration n.declaration && names_subject n.rec (s.at).statement.details) ≡ true =
    subst (λ (x : Row). (is_same x.statement.declaration n.declaration && names_subject n.rec x.statement.details) ≡ true) s.is
    (ap (λ b. is_same row.statement.declaration n.declaration && b) (sym (names_alike n.rec row.statement.details)) ∙ parts.1) in
    recorded r row s (with_subject n.declaration n.rec (placed_of n.agent r)) nodes cover
    (Contains-filter (λ (p : Placed). is_same p.statement.declaration n.declaration && names_subject n.rec p.statement.details) (placed_of n.agent r) s.at own passes)

-- ---- records by an identifier

-- the record of a statement, by its row
pub standing_found : (o : Option Placed) (row : StatementRow) → Some row ≡ option_map bare o → Some (record_at row) ≡ option_map placed_record o
standing_found None row e = let no : Some row ≡ None = e in absurd cc
standing_found (Some p) row e = ap (λ (x : StatementRow). Some (record_at x)) (same_Some row (bare p) e)

pub standing_none : (o : Option Placed) → None ≡ option_map bare o → None ≡ option_map placed_record o
standing_none None e = refl
standing_none (Some p) e = let no : None ≡ Some (bare p) = e in absurd cc

identifier_there : (at : At) (n : ℕ) (is : List Identifier) (i : Identifier) → Contains is i → (j : IdentifierRow) × Contains (identifiers_from at n is) j × (j.identifier ≡ i) × (j.at ≡ at)
identifier_there at n [] i h = absurd (none i h)
identifier_there at n (x ∷ xs) i h =
    let first : IdentifierRow = record { at = at; item = n; identifier = x } in
    elim (cases x xs i h) [
      | inl e ↦ (first, here first (identifiers_from at (n + 1) xs), e, refl)
      | inr k ↦ let m = identifier_there at (n + 1) xs i k in (m.0, there first (identifiers_from at (n + 1) xs) m.0 m.1, m.2, m.3)
    ]

flat_there : {X Y : Type 0} (f : X → List Y) (xs : List X) (x : X) (y : Y) → Contains xs x → Contains (f x) y → Contains (flat_map f xs) y
flat_there f [] x y h k = absurd (none x h)
flat_there {X} {Y} f (z ∷ zs) x y h k = elim (cases z zs x h) [
  | inl e ↦ Contains-append_left (f z) (flat_map f zs) y (subst (λ (q : X). Contains (f q) y) (sym e) k)
  | inr q ↦ Contains-append_right (f z) (flat_map f zs) y (flat_there f zs x y q k)
]

-- the records of the statements whose identifiers are found are those with the identifier
pub identified_cover : (r : Register) → IsStored r → (scheme id : List ℕ) (rows : List IdentifierRow) (made nodes : List Node) → rows ≡ identified_by scheme id r.members → made ≡ filter_map (λ (row : IdentifierRow). record_standing r.members row.at) rows
    → ((n : Node) → Contains nodes n ↔ Contains made n) → CoverRecords (with_identifier scheme id (placed r.members)) nodes
identified_cover r stored scheme id rows made nodes is made_is same p h =
    let fits : Identifier → Bool = λ i. is_same i.scheme scheme && is_same i.id id in
    let own = Contains-from_filter (λ (q : Placed). list_any fits (identifiers_listed q.statement.details)) (placed r.members) p h in
    let i = same_any fits (identifiers_listed p.statement.details) own.1 in
    let j = identifier_there p.at 1 (identifiers_listed p.statement.details) i.0 i.1 in
    let found = Contains-filter (λ (row : IdentifierRow). fits row.identifier) (flat_map identifier_rows (placed r.members)) j.0 (flat_there identifier_rows (placed r.members) p j.0 own.0 j.1) (ap fits j.2 ∙ i.2) in
    let alone : IsAlone (placed r.members) p = All-contains (IsAlone (placed r.members)) (placed r.members) p (each_alone (placed r.members) (all_apart r.members stored.ordered stored.numbered)) own.0 in
    let stands_there : record_standing r.members (j.0).at ≡ Some (placed_record p) = ap (record_standing r.members) j.3 ∙ ap (λ (ps : List Placed). option_map placed_record (slice_get ps 0)) alone in
    (same (placed_record p)).1 (subst (λ (ns : List Node). Contains ns (placed_record p)) (sym (made_is ∙ ap (filter_map (λ (row : IdentifierRow). record_standing r.members row.at)) is))
    (Contains-filter_map (λ (row : IdentifierRow). record_standing r.members row.at) (identified_by scheme id r.members) j.0 (placed_record p) found stands_there))

-- ---- what has a sign is found by it

-- the node of a statement, and its identifiers
node_parts : (p : Placed) (x : OpenNode) → node_in (row_placed p) ≡ Some x → (placed_record p ≡ x.node) × (identifiers_listed p.statement.details ≡ x.identifiers)
node_parts p x e = go p.statement.details e
  where
    go : (d : Details) → node_in (row_placed (record p { statement = record p.statement { details = d } })) ≡ Some x → (placed_record p ≡ x.node) × (identifiers_listed d ≡ x.identifiers)
    go (details.Relationship subject party interests) h = let no : None ≡ Some x = h in absurd cc
    go d h = let q = same_Some _ x h in (ap (λ (y : OpenNode). y.node) q, ap (λ (y : OpenNode). y.identifiers) q)

module _ (view : View) (r : Register) (stored : IsStored r) (k : Sign) (row : Row) (x : OpenNode) (at : Contains (rows_seen view r) row) (is : node_in row ≡ Some x) where
  stand : Stands r row
  stand = stands view.viewer view.today r stored row at

  module _ (s : Stands r row) where
    parts : (placed_record s.at ≡ x.node) × (identifiers_listed (s.at).statement.details ≡ x.identifiers)
    parts = node_parts s.at x (ap node_in (sym s.is) ∙ is)

    by_record_there : by_record x.node ≡ k → Contains (with_sign k r) s.at
    by_record_there e =
        let agent : row.agent ≡ k.group = ap (λ (z : Row). z.agent) s.is ∙ ap (λ (n : Node). n.agent) parts.0 ∙ ap (λ (z : Sign). z.group) e in
        let name : (s.at).statement.rec ≡ k.name = ap (λ (n : Node). n.rec) parts.0 ∙ ap (λ (z : Sign). z.name) e in
        let own : Contains (placed_of k.group r) s.at = subst (λ a. Contains (placed_of a r) s.at) agent (placed_there r row s) in
        subst (λ (b : Bool). Contains (if b then in_record k.name (placed_of k.group r) else with_identifier k.group k.name (placed r.members)) s.at) (ap (λ (z : Sign). z.of_record) e)
        (Contains-filter (λ (p : Placed). is_same p.statement.rec k.name) (placed_of k.group r) s.at own (is_same-of (s.at).statement.rec k.name name))

    by_identifier_there : (i : Identifier) → Contains x.identifiers i → by_identifier i ≡ k → Contains (with_sign k r) s.at
    by_identifier_there i h e =
        let fits : Identifier → Bool = λ (j : Identifier). is_same j.scheme k.group && is_same j.id k.name in
        let all : Contains (placed r.members) s.at = All-contains (Contains (placed r.members)) (placed_of row.agent r) s.at (own_placed (Contains (placed r.members)) row.agent r.members (All-contains_itself (placed r.members))) (placed_there r row s) in
        let fit : fits i ≡ true = ap₂ (λ a b. a && b) (is_same-of i.scheme k.group (ap (λ (z : Sign). z.group) e)) (is_same-of i.id k.name (ap (λ (z : Sign). z.name) e)) in
        subst (λ (b : Bool). Contains (if b then in_record k.name (placed_of k.group r) else with_identifier k.group k.name (placed r.members)) s.at) (ap (λ (z : Sign). z.of_record) e)
        (Contains-filter (λ (p : Placed). list_any fits (identifiers_listed p.statement.details)) (placed r.members) s.at all
        (any_is fits (identifiers_listed (s.at).statement.details) i (subst (λ is. Contains is i) (sym parts.1) h) fit))

  has_sign : Contains (signs x) k → Contains (with_sign k r) stand.at
  has_sign has = elim (cases (by_record x.node) (map by_identifier x.identifiers) k has) [
    | inl e ↦ by_record_there stand e
    | inr h ↦ let i = Contains-from_map by_identifier x.identifiers k h in by_identifier_there stand i.0 i.1 i.2
  ]

pub sign_covered : (view : View) (r : Register) → IsStored r → (k : Sign) (nodes : List Node) → CoverRecords (with_sign k r) nodes → CoverSign (rows_seen view r) k nodes
sign_covered view r stored k nodes cover row x at is entity has =
    recorded r row (stand view r stored k row x at is) (with_sign k r) nodes cover (has_sign view r stored k row x at is has)
