-- The rows of the statements that are left, and one statement more.
use Rattle.std.proofs.Common.{◌≡◌, ℕ, ◌+◌, true, false, List, [], ◌∷◌, ◌++◌, map, append-nil, append_assoc, refl, sym, ap, ◌∙◌, rules}
use Rattle.std.specs.List.{AllByRecursion, flat_map}
use Rattle.bor_terms.proofs.Texts.{same_refl}
use Rattle.bods_read.specs.declared.details.Details.{Details}
use Rattle.bods_read.specs.declared.details.Identifier.{Identifier}
use Rattle.bods_read.specs.declared.interest.Interest.{Interest}
use Rattle.bor_store_sql.specs.declared.rows.places.At.{At}
use Rattle.bor_store_sql.specs.declared.rows.typed.Placed.{Placed}
use Rattle.bor_store_sql.specs.declared.rows.typed.StatementRow.{StatementRow}
use Rattle.bor_store_sql.specs.declared.rows.typed.InterestRow.{InterestRow}
use Rattle.bor_store_sql.specs.declared.rows.typed.IdentifierRow.{IdentifierRow}
use Rattle.bor_store_sql.specs.Rows.Placed.{same_place, bare, interest_rows, identifier_rows, interests_from, identifiers_from, interests_listed, identifiers_listed, part_of, details_with, with_lists, AreApart}
use Rattle.bor_store_sql.proofs.OnRows.Numbers.{same_number}
use Rattle.bor_store_sql.proofs.OnRows.Each.{each_identifier, each_identifier_of, each_interest, each_interest_of}
use Rattle.bor_store_sql.proofs.OnRows.Lists.{Splits, no_values}

pub at_itself : (at : At) → same_place at at ≡ true
at_itself at = rw (same_refl at.agent, same_number at.filing, same_number at.place) refl

pub interests_at : (at : At) (item : ℕ) (is : List Interest) → AllByRecursion (λ (row : InterestRow). same_place row.at at ≡ true) (interests_from at item is)
interests_at at item is = each_interest (λ row. same_place row.at at ≡ true) at item is (λ k i low. at_itself at)

pub identifiers_at : (at : At) (item : ℕ) (is : List Identifier) → AllByRecursion (λ (row : IdentifierRow). same_place row.at at ≡ true) (identifiers_from at item is)
identifiers_at at item is = each_identifier (λ row. same_place row.at at ≡ true) at item is (λ k i low. at_itself at)

pub no_interests_at : (at : At) (ps : List Placed) → AllByRecursion (λ (q : Placed). same_place q.at at ≡ false) ps → AllByRecursion (λ (row : InterestRow). same_place row.at at ≡ false) (flat_map interest_rows ps)
no_interests_at at ps all = each_interest_of (λ row. same_place row.at at ≡ false) (λ (q : Placed). same_place q.at at ≡ false) ps all (λ p item i off. off)

pub no_identifiers_at : (at : At) (ps : List Placed) → AllByRecursion (λ (q : Placed). same_place q.at at ≡ false) ps → AllByRecursion (λ (row : IdentifierRow). same_place row.at at ≡ false) (flat_map identifier_rows ps)
no_identifiers_at at ps all = each_identifier_of (λ row. same_place row.at at ≡ false) (λ (q : Placed). same_place q.at at ≡ false) ps all (λ p item i off. off)

interests_back : (at : At) (item : ℕ) (is : List Interest) → map (λ (row : InterestRow). row.interest) (interests_from at item is) ≡ is
interests_back at item [] = refl
interests_back at item (i ∷ is) = ap (λ l. i ∷ l) (interests_back at (item + 1) is)

identifiers_back : (at : At) (item : ℕ) (is : List Identifier) → map (λ (row : IdentifierRow). row.identifier) (identifiers_from at item is) ≡ is
identifiers_back at item [] = refl
identifiers_back at item (i ∷ is) = ap (λ l. i ∷ l) (identifiers_back at (item + 1) is)

details_back : (d : Details) → details_with (part_of d) (interests_listed d) (identifiers_listed d) ≡ d
details_back d = search rules

-- the row and its lists are those of the statement
pub back : (p : Placed) → with_lists (bare p) (map (λ (row : InterestRow). row.interest) (interest_rows p)) (map (λ (row : IdentifierRow). row.identifier) (identifier_rows p)) ≡ p
back p = rw (interests_back p.at 1 (interests_listed p.statement.details), identifiers_back p.at 1 (identifiers_listed p.statement.details), details_back p.statement.details) refl

-- some statements are made of all, and the lists are those of the others
pub record Left (all out : List Placed) (rows : List StatementRow) (is : List InterestRow) (ds : List IdentifierRow) : Type 0 where
  pub left : List Placed
  pub whole : out ++ left ≡ all
  pub apart : AreApart left
  pub rows_are : rows ≡ map bare left
  pub interests_are : is ≡ flat_map interest_rows left
  pub identifiers_are : ds ≡ flat_map identifier_rows left

pub none_left : (all out : List Placed) (rows : List StatementRow) (is : List InterestRow) (ds : List IdentifierRow) → Left all out rows is ds → rows ≡ [] → out ≡ all
none_left all out rows is ds l none = sym (append-nil out) ∙ ap (λ left. out ++ left) (sym (no_values bare l.left (sym l.rows_are ∙ none))) ∙ l.whole

pub one_more : (all out : List Placed) (rows more : List StatementRow) (row : StatementRow) (is is_left own_is : List InterestRow) (ds ds_left own_ds : List IdentifierRow) (made : Placed)
    → Left all out rows is ds → rows ≡ row ∷ more → Splits (λ (r : InterestRow). same_place r.at row.at) is own_is is_left → Splits (λ (r : IdentifierRow). same_place r.at row.at) ds own_ds ds_left
    → made ≡ with_lists row (map (λ (r : InterestRow). r.interest) own_is) (map (λ (r : IdentifierRow). r.identifier) own_ds) → Left all (out ++ made ∷ []) more is_left ds_left
one_more all out rows more row is is_left own_is ds ds_left own_ds made l first split_is split_ds made_is =
    go l.left l.whole l.apart (sym first ∙ l.rows_are) l.interests_are l.identifiers_are
  where
    go : (left : List Placed) → out ++ left ≡ all → AreApart left → row ∷ more ≡ map bare left → is ≡ flat_map interest_rows left → ds ≡ flat_map identifier_rows left → Left all (out ++ made ∷ []) more is_left ds_left
    go [] whole apart e i d = absurd cc
    go (p ∷ left) whole apart e i d =
        let same : row ≡ bare p = cc in
        let rest : more ≡ map bare left = cc in
        let at : row.at ≡ p.at = ap (λ (r : StatementRow). r.at) same in
        let one = (rw at at split_is) (interest_rows p) (flat_map interest_rows left) i (interests_at p.at 1 (interests_listed p.statement.details)) (no_interests_at p.at left apart.0) in
        let two = (rw at at split_ds) (identifier_rows p) (flat_map identifier_rows left) d (identifiers_at p.at 1 (identifiers_listed p.statement.details)) (no_identifiers_at p.at left apart.0) in
        let it : made ≡ p = made_is ∙ rw (same, one.0, two.0) (back p) in
        record {
          left = left;
          whole = append_assoc out (made ∷ []) left ∙ ap (λ x. out ++ x ∷ left) it ∙ whole;
          apart = apart.1;
          rows_are = rest;
          interests_are = one.1;
          identifiers_are = two.1;
        }
