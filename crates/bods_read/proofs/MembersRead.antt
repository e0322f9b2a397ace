-- A statement and an interest whose members were read one by one.
use Rattle.std.proofs.Common.{◌≡◌, ℕ, ℤ, List, [], ◌++◌, Option, Ok, pos, refl}
use Rattle.serde_json.specs.Data.{Data, null}
use Rattle.bor_terms.specs.Span.{Range}
use Rattle.bods_read.specs.declared.fault.Field.TheVariants as fields
use Rattle.bods_read.specs.declared.trouble.Trouble.{Trouble}
use Rattle.bods_read.specs.declared.interest.InterestKind.{InterestKind}
use Rattle.bods_read.specs.declared.interest.Directness.{Directness}
use Rattle.bods_read.specs.declared.statement.RecordType.{RecordType}
use Rattle.bods_read.specs.declared.statement.RecordType.TheVariants as types
use Rattle.bods_read.specs.declared.statement.Status.{Status}
use Rattle.bods_read.specs.declared.details.Details.{Details}
use Rattle.bods_read.specs.Outcome.{outcome, Fails}
use Rattle.bods_read.specs.Member.{required, required_value, optional, optional_value, ident_in, day_in, type_in, status_in, object_in}
use Rattle.bods_read.specs.Interests.{interest_kind, directness_of, starts_in, ends_in, share_lines, share_of, interest_object_lines, interest_of}
use Rattle.bods_read.specs.Details.{details_lines, details_of}
use Rattle.bods_read.specs.Statement.{statement_object_lines, statement_of, further_lines}
use Rattle.bods_read.proofs.Tables.{ok_lines, ok_is, fails_here, required_is}

pub interest_read : (d : Data) (kind : InterestKind) (directness : Directness) (share : Option Range) (starts ends : Option ℤ) → starts ≡ starts_in d → ends ≡ ends_in d → kind ≡ interest_kind d → directness ≡ directness_of d → outcome (share_lines kind d) (share_of kind d) ≡ Ok share
    → outcome (interest_object_lines d) (interest_of d) ≡ Ok (record { kind = kind; directness = directness; share = share; starts = starts; ends = ends })
unfolding interest_object_lines interest_of
interest_read d kind directness share starts ends first last k i s =
    let known : outcome (share_lines (interest_kind d) d) (share_of (interest_kind d) d) ≡ Ok share = rw (← k) s in
    ok_lines _ _ _ _ _ _ known (rw (k, i, first, last, ok_is _ _ _ known) refl)

pub interest_fails : (d : Data) (kind : InterestKind) (e : Trouble) → kind ≡ interest_kind d → Fails e (outcome (share_lines kind d) (share_of kind d)) → Fails e (outcome (interest_object_lines d) (interest_of d))
unfolding interest_object_lines
interest_fails d kind e k s =
    let known : Fails e (outcome (share_lines (interest_kind d) d) (share_of (interest_kind d) d)) = rw (← k) s in
    fails_here e _ _ _ _ known

pub ruleset interest_rules = (interest_read, interest_fails)

pub statement_read : (d : Data) (id : List ℕ) (day : ℤ) (declaration : List ℕ) (rec : List ℕ) (kind : RecordType) (status : Option Status) (inner : Data) (details : Details)
    → outcome (required fields.StatementId ident_in d) (required_value fields.StatementId ident_in [] d) ≡ Ok id
    → outcome (required fields.StatementDate day_in d) (required_value fields.StatementDate day_in (pos 0) d) ≡ Ok day
    → outcome (required fields.DeclarationSubject ident_in d) (required_value fields.DeclarationSubject ident_in [] d) ≡ Ok declaration
    → outcome (required fields.RecordId ident_in d) (required_value fields.RecordId ident_in [] d) ≡ Ok rec
    → outcome (required fields.RecordType type_in d) (required_value fields.RecordType type_in types.Entity d) ≡ Ok kind
    → outcome (optional fields.RecordStatus status_in d) (optional_value fields.RecordStatus status_in d) ≡ Ok status
    → outcome (required fields.RecordDetails object_in d) (required_value fields.RecordDetails object_in null d) ≡ Ok inner
    → outcome (details_lines kind inner) (details_of kind inner) ≡ Ok details
    → outcome (statement_object_lines d) (statement_of d) ≡ Ok (record { id = id; day = day; declaration = declaration; rec = rec; status = status; details = details })
unfolding statement_object_lines statement_of
statement_read d id day declaration rec kind status inner details i t s r k u o h =
    let kind_is = required_is fields.RecordType type_in types.Entity d kind k in
    let inner_is = required_is fields.RecordDetails object_in null d inner o in
    let further : outcome (further_lines (optional_value fields.RecordType type_in d) (optional_value fields.RecordDetails object_in d)) (details_of kind inner) ≡ Ok details =
    rw (kind_is, inner_is) h in
    ok_lines _ _ _ _ _ _ i (ok_lines _ _ _ _ _ _ t (ok_lines _ _ _ _ _ _ s (ok_lines _ _ _ _ _ _ r
    (ok_lines _ _ _ _ _ _ k (ok_lines _ _ _ _ _ _ u (ok_lines _ _ _ _ _ _ o (ok_lines _ _ _ _ _ _ further
    (rw (ok_is _ _ _ i, ok_is _ _ _ t, ok_is _ _ _ s, ok_is _ _ _ r, ok_is _ _ _ k, ok_is _ _ _ u, ok_is _ _ _ o, ok_is _ _ _ h) refl))))))))

-- a fault of the details fails the statement
pub details_fail : {X : Type 0} (d : Data) (kind : RecordType) (inner : Data) (e : Trouble) (x : X)
    → outcome (required fields.RecordType type_in d) (required_value fields.RecordType type_in types.Entity d) ≡ Ok kind
    → outcome (required fields.RecordDetails object_in d) (required_value fields.RecordDetails object_in null d) ≡ Ok inner
    → Fails e (outcome (details_lines kind inner) (details_of kind inner))
    → Fails e (outcome (further_lines (optional_value fields.RecordType type_in d) (optional_value fields.RecordDetails object_in d) ++ []) x)
details_fail d kind inner e x k o h =
    let kind_is = required_is fields.RecordType type_in types.Entity d kind k in
    let inner_is = required_is fields.RecordDetails object_in null d inner o in
    fails_here e _ [] (details_of kind inner) x (rw (kind_is, inner_is) h)
