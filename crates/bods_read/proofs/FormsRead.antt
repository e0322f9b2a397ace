-- What is read has its form.
use Rattle.std.proofs.Common.{◌≡◌, ℕ, pos, ◌+◌, ◌==◌, nat_lt, nat_le, List, [], ◌∷◌, ◌++◌, length, map, filter_map, Option, Some, None, refl, ap, subst}
use Rattle.std.specs.Prelude.{All, IfSome, IfOk, option_and_then, unwrap_or, is_some, slice_get}
use Rattle.std.specs.List.{cons_option}
use Rattle.std.specs.Str.{is_utf8}
use Rattle.std.proofs.lemmas.Bool.{cond_both}
use Rattle.std.proofs.lemmas.Option.{IfSome_then}
use Rattle.std.proofs.lemmas.Str.{IsUtf8-from_is_utf8, is_utf8-from_IsUtf8}
use Rattle.std.proofs.lemmas.List.Elements.{All-nil, All-cons, All-head, All-tail, All-map}
use Rattle.serde_json.specs.Data.{Data, null, string, array, object, Items, no_items, item, Members, no_members, member as one_member}
use Rattle.serde_json.specs.Find.{get_member, get, as_null, as_str, as_array, as_object}
use Rattle.bor_terms.specs.Day.{IsDay, day_of}
use Rattle.bor_terms.specs.Period.{start_of, end_of}
use Rattle.bor_terms.specs.Texts.{is_ident}
use Rattle.bor_terms.proofs.Shown.{IsRead, shown-IsRead}
use Rattle.bor_terms.proofs.DaysRead.{day_of-IsDay, start_of-IsDay, end_of-IsDay}
use Rattle.bods_read.specs.declared.details.Identifier.{Identifier}
use Rattle.bods_read.specs.declared.interest.InterestKind.{InterestKind}
use Rattle.bods_read.specs.declared.statement.RecordType.{RecordType}
use Rattle.bods_read.specs.declared.statement.RecordType.TheVariants as types
use Rattle.bods_read.specs.declared.fault.Field.{Field}
use Rattle.bods_read.specs.declared.fault.Field.TheVariants as fields
use Rattle.bods_read.specs.declared.fault.Fault.TheVariants.{Bad}
use Rattle.bods_read.specs.declared.fault.FileFault.{FileFault}
use Rattle.bods_read.specs.declared.fault.FileFault.TheVariants.{At}
use Rattle.bods_read.specs.Forms.{IsFreeText, IsIdent, IsFormedIdentifier, IsShare, IsFormedInterest, IsFormedDetails, IsFormedStatement}
use Rattle.bods_read.specs.Limits.{statements_limit, items_limit}
use Rattle.bods_read.specs.Words.{field_word}
use Rattle.bods_read.specs.Outcome.{outcome, lines_from}
use Rattle.bods_read.specs.Member.{member, present, ident_text, ident_in, day_in, object_in, end_in, required, required_value, member_text, listed, items_in, array_items}
use Rattle.bods_read.specs.Share.{range_of, share_bounds, members_of}
use Rattle.bods_read.specs.Interests.{share_of, is_share_read, interest_kind, interest_of, interests_of}
use Rattle.bods_read.specs.Details.{filled, filled_at, identifier, identifier_in, identifiers_of, entity_of, first_name, person_of, relationship_of, details_of}
use Rattle.bods_read.specs.Statement.{statement_object_lines, statement_lines, statement_of}
use Rattle.bods_read.specs.File.{lines_at, list_lines, statements_listed, faults, statements, value_of, reading_of, reading_in, reading}
use Rattle.bods_read.proofs.Tables.{required_is}
use Rattle.bods_read.proofs.TextsRead.{HasTexts, ItemsHaveTexts, MembersHaveTexts, ordered, mapped, then, and_then, read_texts}

-- ---- members

or_any : {A : Type 0} (P : A → Type 0) (o : Option A) (any : A) → IfSome o P → P any → P (unwrap_or o any)
or_any P None any h p = p
or_any P (Some a) any h p = h

found : (name : List ℕ) (ms : Members) → MembersHaveTexts ms → IfSome (get_member name ms) HasTexts
found name no_members h = tt
found name (one_member k d ms) h = ordered (λ o. IfSome o HasTexts) _ _ (Some d) _ (found name ms h.1) h.0 (found name ms h.1)

got : (name : List ℕ) (d : Data) → HasTexts d → IfSome (get name d) HasTexts
got name (object ms) h = found name ms h
got name d h = tt

member_texts : (name : List ℕ) (d : Data) → HasTexts d → IfSome (member name d) HasTexts
unfolding member
member_texts name d h = and_then HasTexts HasTexts present (λ e t. cond_both (is_some (as_null e)) None (Some e) (λ o. IfSome o HasTexts) (λ x. tt) (λ x. t)) _ (got name d h)

str_text : (d : Data) → HasTexts d → IfSome (as_str d) IsFreeText
str_text (string s) h = is_utf8-from_IsUtf8 s h
str_text d h = tt

member_free : (name : List ℕ) (d : Data) → HasTexts d → IfSome (member_text name d) IsFreeText
member_free name d h = and_then HasTexts IsFreeText as_str str_text _ (member_texts name d h)

listed_texts : (ds : Items) → ItemsHaveTexts ds → All HasTexts (listed ds)
listed_texts no_items h = All-nil HasTexts
listed_texts (item d ds) h = All-cons HasTexts d (listed ds) h.0 (listed_texts ds h.1)

in_array : (d : Data) → HasTexts d → IfSome (as_array d) ItemsHaveTexts
in_array (array ds) h = h
in_array d h = tt

items_texts : (d : Data) → HasTexts d → IfSome (items_in d) (All HasTexts)
unfolding items_in
items_texts d h = mapped ItemsHaveTexts (All HasTexts) listed listed_texts _ (in_array d h)

array_texts : (field : Field) (d : Data) → HasTexts d → All HasTexts (array_items field d)
array_texts field d h =
    let ds = unwrap_or (option_and_then items_in (member (field_word field) d)) [] in
    let all = or_any (All HasTexts) _ [] (and_then HasTexts (All HasTexts) items_in items_texts _ (member_texts (field_word field) d h)) (All-nil HasTexts) in
    cond_both (nat_le (length ds) items_limit) ds [] (All HasTexts) (λ e. all) (λ e. All-nil HasTexts)

-- ---- forms of members

ident_form : (d : Data) → IfSome (ident_in d) IsIdent
unfolding ident_in
ident_form d = then IsIdent ident_text _ (λ s e. cond_both (is_ident s) (Some s) None (λ o. IfSome o IsIdent) (λ e. e) (λ e. tt))

day_form : (d : Data) → IfSome (day_in d) IsDay
unfolding day_in
day_form d = then IsDay day_of _ (λ s e. day_of-IsDay s)

end_form : (d : Data) → IfSome (end_in d) (λ o. IfSome o IsIdent)
unfolding end_in
end_form d = cond_both (is_some (as_object d)) (Some None) _ (λ o. IfSome o (λ p. IfSome p IsIdent)) (λ e. tt) (λ e. mapped IsIdent (λ o. IfSome o IsIdent) Some (λ s h. h) _ (ident_form d))

object_texts : (d : Data) → HasTexts d → IfSome (object_in d) HasTexts
unfolding object_in
object_texts d h = cond_both (is_some (as_object d)) (Some d) None (λ o. IfSome o HasTexts) (λ e. h) (λ e. tt)

-- where no line about it fails, a required member stands for a value of its form
required_form : {X : Type 0} (P : X → Type 0) (field : Field) (form : Data → Option X) (any : X) → ((d : Data) → IfSome (form d) P) → (d : Data) → required field form d ≡ [] → P (required_value field form any d)
required_form P field form any h d none =
    let value = required_value field form any d in
    subst (λ o. IfSome o P) (required_is field form any d value (ap (λ lines. outcome lines value) none)) (then P form (member (field_word field) d) (λ e is. h e))

-- ---- details

identifier_form : (d : Data) → HasTexts d → IfSome (identifier_in d) IsFormedIdentifier
unfolding identifier_in
identifier_form d h =
    and_then IsFreeText IsFormedIdentifier _ (λ scheme s. mapped IsFreeText IsFormedIdentifier (identifier scheme) (λ id i. record { scheme = s; id = i }) _ (at _)) _ (at _)
  where
    kept : (text : List ℕ) → IsFreeText text → IfSome (filled text) IsFreeText
    kept [] h = tt
    kept (byte ∷ bytes) h = h

    at : (name : List ℕ) → IfSome (filled_at name d) IsFreeText
    at name = and_then IsFreeText IsFreeText filled kept _ (member_free name d h)

identifier_forms : (ds : List Data) → All HasTexts ds → All IsFormedIdentifier (filter_map identifier_in ds)
identifier_forms [] h = All-nil IsFormedIdentifier
identifier_forms (d ∷ ds) h = kept (identifier_in d) _ (identifier_form d (All-head HasTexts d ds h)) (identifier_forms ds (All-tail HasTexts d ds h))
  where
    kept : (o : Option Identifier) (rest : List Identifier) → IfSome o IsFormedIdentifier → All IsFormedIdentifier rest → All IsFormedIdentifier (cons_option o rest)
    kept None rest i all = all
    kept (Some id) rest i all = All-cons IsFormedIdentifier id rest i all

share_form : (kind : InterestKind) (d : Data) → IfSome (share_of kind d) IsShare
unfolding share_of range_of
share_form kind d =
    cond_both (is_share_read kind) _ None (λ o. IfSome o IsShare)
    (λ e. then IsShare range_of _ (λ s i. IfSome_then _ {P = IsRead} {Q = IsShare} (shown-IsRead (share_bounds (members_of s))) (λ r i. record { high = i.0; points = i.1 }))) (λ e. tt)

interest_form : (d : Data) → IsFormedInterest (interest_of d)
unfolding interest_of
interest_form d = record { share = share_form (interest_kind d) d; starts = then IsDay start_of _ (λ s e. start_of-IsDay s); ends = then IsDay end_of _ (λ s e. end_of-IsDay s) }

first_texts : (d : Data) → HasTexts d → IfSome (first_name d) HasTexts
first_texts d h = and_then (All HasTexts) HasTexts _ first _ (and_then HasTexts (All HasTexts) items_in items_texts _ (member_texts _ d h))
  where
    first : (ds : List Data) → All HasTexts ds → IfSome (slice_get ds 0) HasTexts
    first [] h = tt
    first (e ∷ ds) h = All-head HasTexts e ds h

end_of_member : (field : Field) (d : Data) → IfSome (required_value field end_in None d) IsIdent
end_of_member field d = or_any (λ o. IfSome o IsIdent) _ None (then (λ o. IfSome o IsIdent) end_in (member (field_word field) d) (λ e is. end_form e)) tt

details_form : (kind : RecordType) (d : Data) → HasTexts d → IsFormedDetails (details_of kind d)
unfolding entity_of identifiers_of person_of relationship_of interests_of
details_form types.Entity d h = record { name_is = member_free _ d h; identifiers_are = identifier_forms _ (array_texts _ d h) }
details_form types.Person d h = and_then HasTexts IsFreeText _ (member_free _) _ (first_texts d h)
details_form types.Relationship d h = record {
  subject_is = end_of_member fields.Subject d;
  party_is = end_of_member fields.InterestedParty d;
  interests_are = All-map IsFormedInterest interest_of _ (λ k e lt. interest_form _);
}

-- ---- statements

both_none : {X : Type 0} (lines more : List X) → lines ++ more ≡ [] → (lines ≡ []) × (more ≡ [])
both_none [] more e = (refl, e)
both_none (x ∷ lines) more e = absurd cc

map_none : {X Y : Type 0} (f : X → Y) (lines : List X) → map f lines ≡ [] → lines ≡ []
map_none f [] e = refl
map_none f (x ∷ lines) e = absurd cc

statement_form : (d : Data) → HasTexts d → statement_lines d ≡ [] → IsFormedStatement (statement_of d)
unfolding statement_lines statement_object_lines statement_of
statement_form d h none =
    cond_both (is_some (object_in d)) (statement_object_lines d) (Bad fields.Statement ∷ []) (λ lines. lines ≡ [] → IsFormedStatement (statement_of d))
    (λ o lines.
    let id = both_none (required fields.StatementId ident_in d) _ lines in
    let day = both_none (required fields.StatementDate day_in d) _ id.1 in
    let declaration = both_none (required fields.DeclarationSubject ident_in d) _ day.1 in
    let rec = both_none (required fields.RecordId ident_in d) _ declaration.1 in
    record {
      id = required_form IsIdent fields.StatementId ident_in [] ident_form d id.0;
      day = required_form IsDay fields.StatementDate day_in (pos 0) day_form d day.0;
      declaration = required_form IsIdent fields.DeclarationSubject ident_in [] ident_form d declaration.0;
      rec = required_form IsIdent fields.RecordId ident_in [] ident_form d rec.0;
      details = details_form _ _ (or_any HasTexts _ null (and_then HasTexts HasTexts object_in object_texts _ (member_texts _ d h)) tt);
    }) (λ o lines. absurd cc) none

each_form : (place : ℕ) (ds : List Data) → All HasTexts ds → lines_from lines_at place ds ≡ [] → All IsFormedStatement (map statement_of ds)
each_form place [] h none = All-nil IsFormedStatement
each_form place (d ∷ ds) h none =
    let p = both_none (lines_at place d) _ none in
    All-cons IsFormedStatement (statement_of d) _ (statement_form d (All-head HasTexts d ds h) (map_none (At place) (statement_lines d) p.0)) (each_form (place + 1) ds (All-tail HasTexts d ds h) p.1)

-- ---- files

of_lines : {X F : Type 0} (P : X → Type 0) (lines : List F) (x : X) → (lines ≡ [] → P x) → IfOk (outcome lines x) P
of_lines P [] x h = h refl
of_lines P (f ∷ lines) x h = tt

of_items : (o : Option (List Data)) → IfSome o (All HasTexts) → IfOk (outcome (list_lines o) (statements_listed o)) (All IsFormedStatement)
of_items None h = tt
of_items (Some ds) h =
    let P : List FileFault → Type 0 = λ lines. lines ≡ [] → All IsFormedStatement (map statement_of ds) in
    of_lines (All IsFormedStatement) _ _ (cond_both (length ds == 0) _ _ P (λ a e. absurd cc) (λ a. cond_both (nat_lt statements_limit (length ds)) _ _ P (λ b e. absurd cc) (λ b. each_form 1 ds h)))

of_value : (o : Option Data) → IfSome o HasTexts → IfOk (reading_in o) (All IsFormedStatement)
unfolding reading_of faults statements
of_value None h = tt
of_value (Some d) h = of_items (items_in d) (items_texts d h)

pub reading_formed : (bytes : List ℕ) → IfOk (reading bytes) (All IsFormedStatement)
unfolding reading value_of
reading_formed bytes = of_value _ (cond_both (is_utf8 bytes) _ None (λ o. IfSome o HasTexts) (λ e. read_texts bytes (IsUtf8-from_is_utf8 bytes e)) (λ e. tt))
