-- Statements that are settled, one more each time, and what is found of them.
use Rattle.std.proofs.Common.{◌≡◌, ◌++◌, ◌&&◌, ◌||◌, ℕ, Bool, true, false, cond, Option, Some, None, List, [], ◌∷◌, refl, sym, ap, ◌∙◌, if◌then◌else◌}
use Rattle.std.specs.Prelude.{option_map}
use Rattle.std.specs.Option.{option_or}
use Rattle.std.specs.List.{last_or}
use Rattle.std.specs.declared.cmp.Ordering.{Ordering}
use Rattle.std.specs.declared.cmp.Ordering.TheVariants.{Less, Equal, Greater}
use Rattle.std.specs.Ordering.{is_eq, nat_cmp, ordering_then}
use Rattle.std.specs.Cmp.Lexicographic.{slice_cmp, texts_ties}
use Rattle.std.proofs.Math.Bool.{or-false, or-true}
use Rattle.bor_terms.specs.Texts.{is_same}
use Rattle.bods_read.specs.declared.statement.Statement.{Statement}
use Rattle.bor_records.specs.declared.admission.Last.{Last}
use Rattle.bor_records.specs.Admission.{Live, is_of, known_of, last_of}
use Rattle.bor_records.specs.Settling.{has_id}
use Rattle.bor_records.proofs.Settled.{has_id-append, last_of-append}
use Rattle.bor_desk.specs.declared.operations.earlier.RecordKey.{RecordKey}
use Rattle.bor_desk.specs.Operations.Earlier.{record_cmp, record_of}

-- ---- those before the file, and those of the file

pub taken_in_file : (id : List ℕ) (before live : List Live) → has_id id live ≡ true → has_id id (before ++ live) ≡ true
taken_in_file id before live h = has_id-append id before live ∙ ap (λ b. has_id id before || b) h ∙ or-true (has_id id before)

pub free_in_file : (id : List ℕ) (before live : List Live) → has_id id live ≡ false → has_id id (before ++ live) ≡ has_id id before
free_in_file id before live h = has_id-append id before live ∙ ap (λ b. has_id id before || b) h ∙ or-false (has_id id before)

pub last_in_file : (d r : List ℕ) (before live : List Live) (l : Last) → last_of d r live ≡ Some l → last_of d r (before ++ live) ≡ Some l
last_in_file d r before live l h = last_of-append d r before live ∙ ap (λ (o : Option Last). option_or o (last_of d r before)) h

pub last_before : (d r : List ℕ) (before live : List Live) → last_of d r live ≡ None → last_of d r (before ++ live) ≡ last_of d r before
last_before d r before live h = last_of-append d r before live ∙ ap (λ (o : Option Last). option_or o (last_of d r before)) h

pub ruleset file_rules = (taken_in_file, free_in_file, last_in_file, last_before)

-- ---- one more

or_is : (a b : Bool) → cond a true b ≡ (b || (a || false))
or_is true true = refl
or_is true false = refl
or_is false true = refl
or_is false false = refl

-- an identifier more
pub ids_more : (live : List Live) (l : Live) (one : List ℕ) (was now : List ℕ → Bool) → one ≡ l.statement.id → ((id : List ℕ) → was id ≡ has_id id live)
    → ((id : List ℕ) → now id ≡ cond (is_eq (slice_cmp nat_cmp one id)) true (was id)) → (id : List ℕ) → now id ≡ has_id id (live ++ l ∷ [])
ids_more live l one was now its before more id =
    more id ∙ ap (λ (t : List ℕ). cond (is_eq (slice_cmp nat_cmp t id)) true (was id)) its
    ∙ ap (λ (b : Bool). cond b true (was id)) (sym (texts_ties l.statement.id id))
    ∙ ap (λ (b : Bool). cond (is_same l.statement.id id) true b) (before id) ∙ or_is (is_same l.statement.id id) (has_id id live)
    ∙ sym (has_id-append id live (l ∷ []))

no : (b : Bool) → (b && false) ≡ false
no true = refl
no false = refl

yes : (b : Bool) → (b && true) ≡ b
yes true = refl
yes false = refl

two : (d r : Ordering) → (is_eq d && is_eq r) ≡ is_eq (ordering_then r d)
two d Less = no (is_eq d)
two d Greater = no (is_eq d)
two d Equal = yes (is_eq d)

-- a statement is of a record where its own compares alike
of_ties : (s : Statement) (key : RecordKey) → is_of key.declaration key.rec s ≡ is_eq (record_cmp (record_of s) key)
of_ties s key =
    ap (λ (b : Bool). b && is_same s.rec key.rec) (texts_ties s.declaration key.declaration)
    ∙ ap (λ (b : Bool). is_eq (slice_cmp nat_cmp s.declaration key.declaration) && b) (texts_ties s.rec key.rec)
    ∙ two (slice_cmp nat_cmp s.declaration key.declaration) (slice_cmp nat_cmp s.rec key.rec)

last_one : (d r : List ℕ) (l : Live) (o : Option Last) → cond (is_of d r l.statement) (Some (known_of l)) o ≡ option_or (last_of d r (l ∷ [])) o
last_one d r l o = by (is_of d r l.statement)
  where
    by : (b : Bool) → cond b (Some (known_of l)) o ≡ option_or (option_map known_of (last_or None (if b then l ∷ [] else []))) o
    by true = refl
    by false = refl

-- a last statement more
pub lasts_more : (live : List Live) (l : Live) (one : RecordKey) (last : Last) (was now : RecordKey → Option Last) → one ≡ record_of l.statement → last ≡ known_of l
    → ((key : RecordKey) → was key ≡ last_of key.declaration key.rec live) → ((key : RecordKey) → now key ≡ cond (is_eq (record_cmp one key)) (Some last) (was key))
    → (key : RecordKey) → now key ≡ last_of key.declaration key.rec (live ++ l ∷ [])
lasts_more live l one last was now its known before more key =
    more key ∙ ap (λ (k : RecordKey). cond (is_eq (record_cmp k key)) (Some last) (was key)) its
    ∙ ap (λ (x : Last). cond (is_eq (record_cmp (record_of l.statement) key)) (Some x) (was key)) known
    ∙ ap (λ (b : Bool). cond b (Some (known_of l)) (was key)) (sym (of_ties l.statement key))
    ∙ ap (λ (o : Option Last). cond (is_of key.declaration key.rec l.statement) (Some (known_of l)) o) (before key)
    ∙ last_one key.declaration key.rec l (last_of key.declaration key.rec live)
    ∙ sym (last_of-append key.declaration key.rec live (l ∷ []))
