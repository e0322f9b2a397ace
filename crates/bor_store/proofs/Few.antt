-- The statements that a file is read to are few, and so are their interests and identifiers.
use Rattle.std.proofs.Common.{◌≡◌, ◌≤◌, ◌==◌, ℕ, false, nat_le, nat_lt, List, [], ◌∷◌, length, map, filter_map, Option, Some, None, refl, arith, leb-true, All, IfOk, unwrap_or, option_and_then}
use Rattle.std.specs.List.{cons_option}
use Rattle.std.proofs.lemmas.Bool.{cond_both, ltb-false}
use Rattle.std.proofs.lemmas.List.{length-map}
use Rattle.std.proofs.lemmas.List.Elements.{All-nil, All-cons}
use Rattle.serde_json.specs.Data.{Data, null}
use Rattle.bods_read.specs.Details.{details_of, entity_of, identifier_in, identifiers_of, person_of, relationship_of}
use Rattle.bods_read.specs.File.{faults, list_lines, reading, reading_in, reading_of, statements, statements_listed, value_of}
use Rattle.bods_read.specs.Interests.{interest_of, interests_of}
use Rattle.bods_read.specs.Limits.{items_limit, statements_limit}
use Rattle.bods_read.specs.Member.{array_items, items_in, member, object_in, required_value, type_in}
use Rattle.bods_read.specs.Outcome.{outcome}
use Rattle.bods_read.specs.Statement.{statement_of}
use Rattle.bods_read.specs.Words.{field_word}
use Rattle.bods_read.specs.declared.fault.Field.{Field}
use Rattle.bods_read.specs.declared.fault.Field.TheVariants as fields
use Rattle.bods_read.specs.declared.fault.FileFault.{FileFault}
use Rattle.bods_read.specs.declared.statement.RecordType.{RecordType}
use Rattle.bods_read.specs.declared.statement.RecordType.TheVariants as types
use Rattle.bods_read.specs.declared.statement.Statement.{Statement}
use Rattle.bor_store_sql.specs.Rows.Placed.{identifiers_listed as identifiers_in, interests_listed as interests_in}

-- ---- a statement

-- as many interests and identifiers as a member may have
pub record HasFew (s : Statement) : Type 0 where
  pub interests : length (interests_in s.details) ≤ items_limit
  pub identifiers : length (identifiers_in s.details) ≤ items_limit

few_items : (field : Field) (d : Data) → length (array_items field d) ≤ items_limit
few_items field d =
    let ds = unwrap_or (option_and_then items_in (member (field_word field) d)) [] in
    cond_both (nat_le (length ds) items_limit) ds [] (λ l. length l ≤ items_limit) (λ few. leb-true (length ds) items_limit few) (λ more. omega arith)

fewer : {X Y : Type 0} (f : X → Option Y) (xs : List X) → length (filter_map f xs) ≤ length xs
fewer f [] = omega arith
fewer {X} {Y} f (x ∷ xs) = go (f x) (filter_map f xs) (fewer f xs)
  where
    go : (o : Option Y) (l : List Y) → length l ≤ length xs → length (cons_option o l) ≤ length (x ∷ xs)
    go None l le = omega (arith, le)
    go (Some y) l le = omega (arith, le)

few_interests : (kind : RecordType) (d : Data) → length (interests_in (details_of kind d)) ≤ items_limit
unfolding entity_of person_of relationship_of interests_of
few_interests types.Relationship d = let few = few_items fields.Interests d in let same = length-map (array_items fields.Interests d) interest_of in omega (arith, few, same)
few_interests kind d = omega arith

few_identifiers : (kind : RecordType) (d : Data) → length (identifiers_in (details_of kind d)) ≤ items_limit
unfolding entity_of person_of relationship_of identifiers_of
few_identifiers types.Entity d = let few = few_items fields.Identifiers d in let less = fewer identifier_in (array_items fields.Identifiers d) in omega (arith, few, less)
few_identifiers kind d = omega arith

statement_few : (d : Data) → HasFew (statement_of d)
unfolding statement_of
statement_few d =
    let kind = required_value fields.RecordType type_in types.Entity d in
    let details = required_value fields.RecordDetails object_in null d in
    record { interests = few_interests kind details; identifiers = few_identifiers kind details }

-- ---- a file

pub record AreFew (ss : List Statement) : Type 0 where
  pub few : length ss ≤ statements_limit
  pub each : All HasFew ss

each_few : (ds : List Data) → All HasFew (map statement_of ds)
each_few [] = All-nil HasFew
each_few (d ∷ ds) = All-cons HasFew (statement_of d) (map statement_of ds) (statement_few d) (each_few ds)

of_lines : {X F : Type 0} (P : X → Type 0) (lines : List F) (x : X) → (lines ≡ [] → P x) → IfOk (outcome lines x) P
of_lines P [] x h = h refl
of_lines P (f ∷ lines) x h = tt

of_items : (o : Option (List Data)) → IfOk (outcome (list_lines o) (statements_listed o)) AreFew
of_items None = tt
of_items (Some ds) =
    let P : List FileFault → Type 0 = λ lines. lines ≡ [] → AreFew (map statement_of ds) in
    let listed : nat_lt statements_limit (length ds) ≡ false → AreFew (map statement_of ds) =
    λ most. (let le = ltb-false statements_limit (length ds) most in let same = length-map ds statement_of in record { few = omega (arith, le, same); each = each_few ds }) in
    of_lines AreFew _ _ (cond_both (length ds == 0) _ _ P (λ a e. absurd cc) (λ a. cond_both (nat_lt statements_limit (length ds)) _ _ P (λ b e. absurd cc) (λ b e. listed b)))

of_value : (o : Option Data) → IfOk (reading_in o) AreFew
unfolding reading_of faults statements
of_value None = tt
of_value (Some d) = of_items (items_in d)

pub reading_few : (bytes : List ℕ) → IfOk (reading bytes) AreFew
unfolding reading value_of
reading_few bytes = of_value (value_of bytes)
