-- The statements of a declaration with their lists, and which of them a viewer sees.
use Rattle.std.proofs.Common.{◌≡◌, ℕ, ℤ, ◌+◌, ◌<◌, List, [], ◌∷◌, ◌++◌, map, append-nil, append_assoc, Bool, true, false, cond, Option, Some, None, option_map, unwrap_or, refl, sym, ap, ap₂, ◌∙◌, slice_get, arith, All, ◌==◌, ◌&&◌, ◌||◌, filter, if◌then◌else◌}
use Rattle.std.specs.List.{flat_map, list_any}
use Rattle.std.proofs.lemmas.List.Elements.{All-head, All-tail, All-filter}
use Rattle.std.proofs.lemmas.List.Folds.{flat_map-map}
use Rattle.bor_terms.specs.Texts.{is_same}
use Rattle.bods_read.specs.declared.details.Details.{Details}
use Rattle.bods_read.specs.declared.details.Details.TheVariants as details
use Rattle.bor_register.specs.declared.filing.AcceptedFiling.{AcceptedFiling}
use Rattle.bor_register.specs.declared.member.Member.{Member}
use Rattle.bor_register.specs.Register.{Register}
use Rattle.bor_register.specs.Rows.{is_visible}
use Rattle.bor_store_sql.specs.declared.rows.places.At.{At}
use Rattle.bor_store_sql.specs.declared.rows.typed.FilingRow.{FilingRow}
use Rattle.bor_store_sql.specs.declared.rows.typed.Part.{Part}
use Rattle.bor_store_sql.specs.declared.rows.typed.Placed.{Placed}
use Rattle.bor_store_sql.specs.declared.rows.typed.StatementRow.{StatementRow}
use Rattle.bor_store_sql.specs.Rows.Placed.{bare, filing_row, identifier_rows, identifiers_from, identifiers_listed, interest_rows, interests_from, interests_listed, part_of, placed}
use Rattle.bor_records.specs.declared.row.Row.{Row}
use Rattle.bor_store_sql.specs.Rows.Seen.{is_line_visible, row_placed}
use Rattle.bor_store_sql.specs.Rows.Stored.{AreNumbered, IsStored}
use Rattle.bor_store_sql.proofs.OnRows.Numbers.{other_number}
use Rattle.bor_store_sql.proofs.OnRows.Successors.{is_number}
use Rattle.bor_store_sql.specs.Selected.{in_declaration, numbered, placed_of}
use Rattle.bor_store_sql.proofs.Alone.{IsAlone, own_alone_at}
use Rattle.bor_store_reads.specs.Asking.{is_number_seen, part_identifiers, part_interests}

-- ---- the lists of one statement

-- the lists that are found statement by statement, each by its row, are those of the statements
module _ {Y : Type 0} (rows : Placed → List Y) (of_row : Part → At → List Member → List Y)
    (is : (ms : List Member) (p : Placed) → IsAlone (placed ms) p → of_row (part_of p.statement.details) p.at ms ≡ rows p) where
  lists_are : (ms : List Member) (qs : List Placed) → All (IsAlone (placed ms)) qs → flat_map (λ (q : Placed). of_row (part_of q.statement.details) q.at ms) qs ≡ flat_map rows qs
  lists_are ms [] h = refl
  lists_are ms (q ∷ qs) h = ap₂ (λ xs ys. xs ++ ys) (is ms q (All-head (IsAlone (placed ms)) q qs h)) (lists_are ms qs (All-tail (IsAlone (placed ms)) q qs h))

  lists_of : (agent declaration : List ℕ) (r : Register) → IsStored r
      → flat_map (λ (row : StatementRow). of_row row.part row.at r.members) (map bare (in_declaration declaration (placed_of agent r))) ≡ flat_map rows (in_declaration declaration (placed_of agent r))
  lists_of agent declaration r stored =
      flat_map-map (λ (row : StatementRow). of_row row.part row.at r.members) bare (in_declaration declaration (placed_of agent r))
      ∙ lists_are r.members (in_declaration declaration (placed_of agent r))
      (All-filter (λ (p : Placed). is_same p.statement.declaration declaration) (IsAlone (placed r.members)) (placed_of agent r) (own_alone_at agent r stored))

-- a relationship's interests, and no others' are there
interests_are : (ms : List Member) (p : Placed) → IsAlone (placed ms) p → part_interests (part_of p.statement.details) p.at ms ≡ interest_rows p
interests_are ms p alone = go p.statement.details refl
  where
    go : (d : Details) → p.statement.details ≡ d → part_interests (part_of d) p.at ms ≡ interests_from p.at 1 (interests_listed d)
    go (details.Relationship subject party interests) e =
        ap (flat_map interest_rows) alone ∙ append-nil (interest_rows p) ∙ ap (λ d. interests_from p.at 1 (interests_listed d)) e
    go d e = refl

-- an entity's identifiers, and no others' are there
identifiers_are : (ms : List Member) (p : Placed) → IsAlone (placed ms) p → part_identifiers (part_of p.statement.details) p.at ms ≡ identifier_rows p
identifiers_are ms p alone = go p.statement.details refl
  where
    go : (d : Details) → p.statement.details ≡ d → part_identifiers (part_of d) p.at ms ≡ identifiers_from p.at 1 (identifiers_listed d)
    go (details.Entity kind name identifiers) e =
        ap (flat_map identifier_rows) alone ∙ append-nil (identifier_rows p) ∙ ap (λ d. identifiers_from p.at 1 (identifiers_listed d)) e
    go d e = refl

pub declared_interests : (agent declaration : List ℕ) (r : Register) → IsStored r
    → flat_map (λ (row : StatementRow). part_interests row.part row.at r.members) (map bare (in_declaration declaration (placed_of agent r))) ≡ flat_map interest_rows (in_declaration declaration (placed_of agent r))
declared_interests agent declaration r stored = lists_of interest_rows part_interests interests_are agent declaration r stored

pub declared_identifiers : (agent declaration : List ℕ) (r : Register) → IsStored r
    → flat_map (λ (row : StatementRow). part_identifiers row.part row.at r.members) (map bare (in_declaration declaration (placed_of agent r))) ≡ flat_map identifier_rows (in_declaration declaration (placed_of agent r))
declared_identifiers agent declaration r stored = lists_of identifier_rows part_identifiers identifiers_are agent declaration r stored

-- ---- which filings a viewer sees

none_later : (v : AcceptedFiling → Bool) (number n : ℕ) (fs : List AcceptedFiling) → number < n → AreNumbered n fs → list_any (λ f. f.number == number && v f) fs ≡ false
none_later v number n [] low h = refl
none_later v number n (f ∷ fs) low h = rw (other_number number f.number (let is = h.0 in omega (arith, is, low))) (none_later v number (n + 1) fs (omega (arith, low)) h.1)

abbrev passes : (AcceptedFiling → Bool) → Option AcceptedFiling → Bool
passes v None = false
passes v (Some f) = v f

first_passes : (v : AcceptedFiling → Bool) (number n : ℕ) (fs : List AcceptedFiling) → AreNumbered n fs → list_any (λ f. f.number == number && v f) fs ≡ passes v (slice_get (numbered number fs) 0)
first_passes v number n [] h = refl
first_passes v number n (f ∷ fs) h = go (f.number == number) refl (first_passes v number (n + 1) fs h.1)
  where
    or_false : (b : Bool) → (b || false) ≡ b
    or_false true = refl
    or_false false = refl

    go : (b : Bool) → (f.number == number) ≡ b → list_any (λ f. f.number == number && v f) fs ≡ passes v (slice_get (numbered number fs) 0)
        → ((b && v f) || list_any (λ f. f.number == number && v f) fs) ≡ passes v (slice_get (cond b (f ∷ numbered number fs) (numbered number fs)) 0)
    go true e rest =
        let same = is_number f.number number e in
        ap (λ b. v f || b) (none_later v number (n + 1) fs (let is = h.0 in omega (arith, is, same)) h.1) ∙ or_false (v f)
    go false e rest = rest

module _ (viewer : List ℕ) (day : ℤ) (agent : List ℕ) (number : ℕ) (fs : List AcceptedFiling) (numbers : AreNumbered 1 fs) where
  -- whether the filing that is found is seen
  pub seen_is : (found : Option FilingRow) → found ≡ option_map (filing_row agent) (slice_get (numbered number fs) 0)
      → unwrap_or (option_map (is_line_visible viewer day) found) false ≡ list_any (λ f. f.number == number && is_visible viewer day agent f) fs
  seen_is found is = ap (λ o. unwrap_or (option_map (is_line_visible viewer day) o) false) is ∙ go (slice_get (numbered number fs) 0) ∙ sym (first_passes (is_visible viewer day agent) number 1 fs numbers)
    where
      go : (o : Option AcceptedFiling) → unwrap_or (option_map (is_line_visible viewer day) (option_map (filing_row agent) o)) false ≡ passes (is_visible viewer day agent) o
      go None = refl
      go (Some f) = refl

-- nobody sees a filing with the number 0
pub nothing_seen : (viewer : List ℕ) (day : ℤ) (agent : List ℕ) (fs : List AcceptedFiling) → AreNumbered 1 fs → false ≡ is_number_seen viewer day agent fs 0
nothing_seen viewer day agent fs numbers = sym (none_later (is_visible viewer day agent) 0 1 fs (omega arith) numbers)

-- one more statement, whose row is told where it is seen
pub next_seen : (s : Placed → Bool) (out more : List Row) (b : Bool) (p : Placed) (left rest : List Placed) (total : List Row) → out ++ map row_placed (filter s left) ≡ total → left ≡ p ∷ rest → s p ≡ b
    → more ≡ out ++ (if b then row_placed p ∷ [] else []) → more ++ map row_placed (filter s rest) ≡ total
next_seen s out more true p left rest total whole steps seen pushed =
    let after : map row_placed (filter s (p ∷ rest)) ≡ row_placed p ∷ map row_placed (filter s rest) = rw seen refl in
    ap (λ l. l ++ map row_placed (filter s rest)) pushed ∙ append_assoc out (row_placed p ∷ []) (map row_placed (filter s rest))
    ∙ ap (λ l. out ++ l) (sym (ap (λ l. map row_placed (filter s l)) steps ∙ after)) ∙ whole
next_seen s out more false p left rest total whole steps seen pushed =
    let after : map row_placed (filter s (p ∷ rest)) ≡ map row_placed (filter s rest) = rw seen refl in
    ap (λ l. l ++ map row_placed (filter s rest)) (pushed ∙ append-nil out) ∙ ap (λ l. out ++ l) (sym (ap (λ l. map row_placed (filter s l)) steps ∙ after)) ∙ whole
