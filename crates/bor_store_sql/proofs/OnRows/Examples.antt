-- The rows of a register with two agents: alder has lodged a file of three statements and withdrawn another, birch nothing.
use Rattle.std.proofs.Common.{◌≡◌, ◌≢◌, ℕ, ℤ, pos, true, false, [], ◌∷◌, map, Option, Some, None, codes, refl, ap, arith}
use Rattle.sqlite.specs.declared.types.Value.TheVariants.{Null, Int, Text, Blob}
use Rattle.bor_terms.specs.Span.{Range}
use Rattle.bods_read.specs.Words.{type_word, type_worded, status_word, status_worded, entity_word, person_word, interest_word, directness_word, entity_kind_of, person_kind_of, interest_kind_of, directness_named}
use Rattle.bods_read.specs.declared.statement.Statement.{Statement}
use Rattle.bods_read.specs.declared.statement.Status.TheVariants.{New}
use Rattle.bods_read.specs.declared.details.Details.TheVariants.{Entity, Person, Relationship}
use Rattle.bods_read.specs.declared.details.EntityKind.TheVariants.{RegisteredEntity}
use Rattle.bods_read.specs.declared.details.PersonKind.TheVariants.{KnownPerson}
use Rattle.bods_read.specs.declared.interest.InterestKind.TheVariants.{VotingRights, Other}
use Rattle.bods_read.specs.declared.interest.Directness.TheVariants.{Direct, Unknown}
use Rattle.bods_read.specs.declared.interest.Interest.{Interest}
use Rattle.bor_register.specs.Register.{Register}
use Rattle.bor_register.specs.declared.filing.AcceptedFiling.{AcceptedFiling}
use Rattle.bor_store_sql.specs.Rows.Encoding.{contents}
use Rattle.bor_store_sql.specs.Shown.{first_contents}
use Rattle.bor_store_sql.specs.Undated.{undated, undated_filing, undated_statement, without_days}

-- ---- the register

company : Statement
company = record {
  id = codes "s1";
  day = pos 19732;
  declaration = codes "c1";
  rec = codes "e1";
  status = Some New;
  details = Entity RegisteredEntity (Some (codes "Alder Ltd")) (record { scheme = codes "GB-COH"; id = codes "01234567" } ∷ []);
}

owner : Statement
owner = record {
  id = codes "s2";
  day = pos 19732;
  declaration = codes "c1";
  rec = codes "p1";
  status = Some New;
  details = Person KnownPerson None;
}

abbrev held : ℕ → Option ℤ → Option ℤ → Interest
held low starts ends = record { kind = VotingRights; directness = Direct; share = Some (record { low = low; low_open = true; high = 50; high_open = false }); starts = starts; ends = ends }

abbrev other : Interest
other = record { kind = Other; directness = Unknown; share = None; starts = None; ends = None }

holding : Statement
holding = record {
  id = codes "s3";
  day = pos 19732;
  declaration = codes "c1";
  rec = codes "r1";
  status = Some New;
  details = Relationship (Some (codes "e1")) (Some (codes "p1")) (held 25 (Some (pos 19754)) None ∷ other ∷ []);
}

lodged : AcceptedFiling
lodged = record { number = 1; key = codes "f1"; due = pos 19754; withdrawn = false; bytes = codes "[..]"; statements = company ∷ owner ∷ holding ∷ [] }

withdrawn : AcceptedFiling
withdrawn = record { number = 2; key = codes "f2"; due = pos 19800; withdrawn = true; bytes = codes "[]"; statements = [] }

kept : Register
kept = record {
  day = pos 19754;
  registrar = codes "registrar-token-1";
  members = record { name = codes "alder"; token = codes "alder-token-000001"; filings = lodged ∷ withdrawn ∷ [] }
      ∷ record { name = codes "birch"; token = codes "birch-token-000001"; filings = [] } ∷ [];
}

-- ---- its tables

-- one, version, day, registrar
register_row : (contents kept).register ≡ (Int (pos 1) ∷ Int (pos 2) ∷ Int (pos 19754) ∷ Text (codes "registrar-token-1") ∷ []) ∷ []
unfolding kept
register_row = refl

-- name, token
agent_rows : (contents kept).agents ≡ (Text (codes "alder") ∷ Text (codes "alder-token-000001") ∷ []) ∷ (Text (codes "birch") ∷ Text (codes "birch-token-000001") ∷ []) ∷ []
unfolding kept
agent_rows = refl

-- agent, number, lodge_key, due, withdrawn, bytes
filing_rows : (contents kept).filings ≡ (Text (codes "alder") ∷ Int (pos 1) ∷ Text (codes "f1") ∷ Int (pos 19754) ∷ Int (pos 0) ∷ Blob (codes "[..]") ∷ [])
    ∷ (Text (codes "alder") ∷ Int (pos 2) ∷ Text (codes "f2") ∷ Int (pos 19800) ∷ Int (pos 1) ∷ Blob (codes "[]") ∷ []) ∷ []
unfolding kept lodged withdrawn
filing_rows = refl

-- agent, filing, place, id, day, declaration, rec, kind, status, sub_kind, name, subject, party
statement_rows : (contents kept).statements ≡
    (Text (codes "alder") ∷ Int (pos 1) ∷ Int (pos 1) ∷ Text (codes "s1") ∷ Int (pos 19732) ∷ Text (codes "c1") ∷ Text (codes "e1") ∷ Text (codes "entity") ∷ Text (codes "new")
    ∷ Text (codes "registeredEntity") ∷ Text (codes "Alder Ltd") ∷ Null ∷ Null ∷ [])
    ∷ (Text (codes "alder") ∷ Int (pos 1) ∷ Int (pos 2) ∷ Text (codes "s2") ∷ Int (pos 19732) ∷ Text (codes "c1") ∷ Text (codes "p1") ∷ Text (codes "person") ∷ Text (codes "new")
    ∷ Text (codes "knownPerson") ∷ Null ∷ Null ∷ Null ∷ [])
    ∷ (Text (codes "alder") ∷ Int (pos 1) ∷ Int (pos 3) ∷ Text (codes "s3") ∷ Int (pos 19732) ∷ Text (codes "c1") ∷ Text (codes "r1") ∷ Text (codes "relationship") ∷ Text (codes "new")
    ∷ Null ∷ Null ∷ Text (codes "e1") ∷ Text (codes "p1") ∷ []) ∷ []
unfolding kept lodged withdrawn company owner holding type_word status_word entity_word person_word
statement_rows = refl

-- agent, filing, place, item, kind, directness, low, low_open, high, high_open
interest_rows : (contents kept).interests ≡
    (Text (codes "alder") ∷ Int (pos 1) ∷ Int (pos 3) ∷ Int (pos 1) ∷ Text (codes "votingRights") ∷ Text (codes "direct") ∷ Int (pos 25) ∷ Int (pos 1) ∷ Int (pos 50) ∷ Int (pos 0) ∷ [])
    ∷ (Text (codes "alder") ∷ Int (pos 1) ∷ Int (pos 3) ∷ Int (pos 2) ∷ Text (codes "other") ∷ Text (codes "unknown") ∷ Null ∷ Null ∷ Null ∷ Null ∷ []) ∷ []
unfolding kept lodged withdrawn company owner holding interest_word directness_word
interest_rows = refl

-- agent, filing, place, item, starts, ends; of the interest with a day alone
period_rows : (contents kept).periods ≡ (Text (codes "alder") ∷ Int (pos 1) ∷ Int (pos 3) ∷ Int (pos 1) ∷ Int (pos 19754) ∷ Null ∷ []) ∷ []
unfolding kept lodged withdrawn company owner holding
period_rows = refl

-- agent, filing, place, item, scheme, id
identifier_rows : (contents kept).identifiers ≡ (Text (codes "alder") ∷ Int (pos 1) ∷ Int (pos 1) ∷ Int (pos 1) ∷ Text (codes "GB-COH") ∷ Text (codes "01234567") ∷ []) ∷ []
unfolding kept lodged withdrawn company owner holding
identifier_rows = refl

-- ---- its tables of version 1

-- the holding without the day on which it starts
undated_holding : undated_statement holding ≡ record holding {
  details = Relationship (Some (codes "e1")) (Some (codes "p1")) (held 25 None None ∷ other ∷ []);
}
unfolding holding
undated_holding = refl

-- all else stays, the bytes of the file too
undated_alder : map undated_filing (lodged ∷ withdrawn ∷ []) ≡ record lodged { statements = company ∷ owner ∷ undated_statement holding ∷ [] } ∷ withdrawn ∷ []
unfolding lodged withdrawn company owner
undated_alder = refl

-- other days, and a greater share
other_days : undated (held 25 (Some (pos 19755)) (Some (pos 19800))) ≡ undated (held 25 None None)
other_days = refl

abbrev low_of : Option Range → ℕ
low_of None = 0
low_of (Some share) = share.low

other_share : undated (held 26 None None) ≢ undated (held 25 None None)
other_share same = let no : 26 ≡ 25 = ap (λ (i : Interest). low_of i.share) same in absurd (omega (arith, no))

first_register_row : (first_contents kept).register ≡ (Int (pos 1) ∷ Int (pos 1) ∷ Int (pos 19754) ∷ Text (codes "registrar-token-1") ∷ []) ∷ []
unfolding kept
first_register_row = refl

no_period_rows : (first_contents kept).periods ≡ []
no_period_rows = refl

undated_rows : first_contents (without_days kept) ≡ first_contents kept
unfolding kept lodged withdrawn company owner holding
undated_rows = refl

-- ---- texts that are no words

no_kind : entity_kind_of (codes "ship") ≡ None
unfolding entity_kind_of entity_word
no_kind = refl

no_person : person_kind_of (codes "registeredEntity") ≡ None
unfolding person_kind_of person_word
no_person = refl

no_interest : interest_kind_of (codes "boardMember") ≡ None
unfolding interest_kind_of interest_word
no_interest = refl

no_directness : directness_named (codes "") ≡ None
unfolding directness_named directness_word
no_directness = refl

no_type : type_worded (codes "ship") ≡ None
unfolding type_worded type_word
no_type = refl

no_status : status_worded (codes "NEW") ≡ None
unfolding status_worded status_word
no_status = refl
