-- The length of a body by one pass over the fields.
use Rattle.std.proofs.Common.{◌≡◌, ◌<◌, ◌+◌, ℕ, List, [], ◌∷◌, length, drop, map, get_or, Option, Some, None, Err, true, false, cond, codes, refl, sym, ap, ◌∙◌, arith, drop-cons, add-one}
use Rattle.std.specs.Prelude.{Result, nat_lt, if◌then◌else◌}
use Rattle.std.specs.Option.{is_some, option_map}
use Rattle.std.proofs.lemmas.Bool.{cond_both}
use Rattle.std.proofs.lemmas.Bool.Decides.{nat_tests}
use Rattle.std.proofs.lemmas.List.Sums.{sum_by-append}
use Rattle.bor_http.specs.declared.incoming.fault.Refusal.{Refusal}
use Rattle.bor_http.specs.declared.incoming.fault.Refusal.TheVariants.{BadLength}
use Rattle.bor_http.specs.Incoming.Message.{FieldText, is_named, how_many, body_limit}
use Rattle.bor_http.specs.Incoming.Steps.{length_of, body_len}

abbrev encoding : List ℕ
encoding = codes "transfer-encoding"

abbrev content : List ℕ
content = codes "content-length"

-- the length that the fields give, after those with this length and with no encoding
abbrev pub len_after : Option (List ℕ) → List FieldText → Result ℕ Refusal
len_after None fields = body_len fields
len_after (Some value) fields =
    if nat_lt 0 (how_many encoding fields) then Err BadLength
    else (if nat_lt 0 (how_many content fields) then Err BadLength else length_of body_limit value)

counted : (name : List ℕ) (field : FieldText) (fields : List FieldText) → is_named name field ≡ true
    → how_many name (field ∷ fields) ≡ 1 + how_many name fields
counted name field fields e =
    sum_by-append (λ f. cond (is_named name f) 1 0) (field ∷ []) fields ∙ rw e refl

not_counted : (name : List ℕ) (field : FieldText) (fields : List FieldText) → is_named name field ≡ false
    → how_many name (field ∷ fields) ≡ how_many name fields
not_counted name field fields e =
    sum_by-append (λ f. cond (is_named name f) 1 0) (field ∷ []) fields ∙ rw e (omega arith)

some_more : (n : ℕ) → nat_lt 0 (1 + n) ≡ true
some_more n = grind (arith, nat_tests)

two_more : (n : ℕ) → nat_lt 1 (1 + n) ≡ nat_lt 0 n
two_more n = grind (arith, nat_tests)

pub encoded : (found : Option (List ℕ)) (field : FieldText) (fields : List FieldText) → is_named encoding field ≡ true
    → len_after found (field ∷ fields) ≡ Err BadLength
encoded None field fields e = rw (counted encoding field fields e, some_more (how_many encoding fields)) refl
encoded (Some value) field fields e = rw (counted encoding field fields e, some_more (how_many encoding fields)) refl

pub twice : (value : List ℕ) (field : FieldText) (fields : List FieldText) → is_named content field ≡ true
    → len_after (Some value) (field ∷ fields) ≡ Err BadLength
twice value field fields e =
    rw (counted content field fields e, some_more (how_many content fields))
    (cond_both (nat_lt 0 (how_many encoding (field ∷ fields))) (Err BadLength) (Err BadLength) (λ read. read ≡ Err BadLength) (λ _. refl) (λ _. refl))

pub taken : (field : FieldText) (fields : List FieldText) → is_named encoding field ≡ false → is_named content field ≡ true
    → len_after None (field ∷ fields) ≡ len_after (Some field.1) fields
taken field fields e f = rw (not_counted encoding field fields e, counted content field fields f, two_more (how_many content fields), f) refl

pub passed : (found : Option (List ℕ)) (field : FieldText) (fields : List FieldText) → is_named encoding field ≡ false → is_named content field ≡ false
    → len_after found (field ∷ fields) ≡ len_after found fields
passed None field fields e f = rw (not_counted encoding field fields e, not_counted content field fields f, f) refl
passed (Some value) field fields e f = rw (not_counted encoding field fields e, not_counted content field fields f) refl

-- ---- the fields from one place on

module _ {X : Type 0} (f : X → FieldText) (xs : List X) (i : ℕ) (d : X) where
  from_here : i < length xs → map f (drop i xs) ≡ f (get_or xs i d) ∷ map f (drop (i + 1) xs)
  from_here lt =
      let e : drop i xs ≡ get_or xs i d ∷ drop (i + 1) xs = rw (add-one, drop-cons xs i d) refl in
      ap (map f) e

  pub encoded_at : (found : Option (List ℕ)) → i < length xs → is_named encoding (f (get_or xs i d)) ≡ true
      → len_after found (map f (drop i xs)) ≡ Err BadLength
  encoded_at found lt e = ap (len_after found) (from_here lt) ∙ encoded found (f (get_or xs i d)) (map f (drop (i + 1) xs)) e

  pub twice_at : (found : Option (List ℕ)) → i < length xs → is_some found ≡ true → is_named content (f (get_or xs i d)) ≡ true
      → len_after found (map f (drop i xs)) ≡ Err BadLength
  twice_at None lt some e = cc
  twice_at (Some value) lt some e = ap (len_after (Some value)) (from_here lt) ∙ twice value (f (get_or xs i d)) (map f (drop (i + 1) xs)) e

  pub taken_at : (found : Option (List ℕ)) → i < length xs → is_some found ≡ false
      → is_named encoding (f (get_or xs i d)) ≡ false → is_named content (f (get_or xs i d)) ≡ true
      → len_after (Some (f (get_or xs i d)).1) (map f (drop (i + 1) xs)) ≡ len_after found (map f (drop i xs))
  taken_at (Some value) lt none e here = cc
  taken_at None lt none e here =
      sym (ap (len_after None) (from_here lt) ∙ taken (f (get_or xs i d)) (map f (drop (i + 1) xs)) e here)

  pub passed_at : (found : Option (List ℕ)) → i < length xs
      → is_named encoding (f (get_or xs i d)) ≡ false → is_named content (f (get_or xs i d)) ≡ false
      → len_after found (map f (drop (i + 1) xs)) ≡ len_after found (map f (drop i xs))
  passed_at found lt e other =
      sym (ap (len_after found) (from_here lt) ∙ passed found (f (get_or xs i d)) (map f (drop (i + 1) xs)) e other)

pub is_some-mapped : {A B : Type 0} (f : A → B) (found : Option A) → is_some (option_map f found) ≡ is_some found
is_some-mapped f None = refl
is_some-mapped f (Some value) = refl
