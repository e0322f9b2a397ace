-- The forms that the values of a statement have: what their types ask for.
use Rattle.std.specs.Prelude.{◌≡◌, ◌≤◌, ℕ, List, Option, All, IfSome, true}
use Rattle.std.specs.Str.{is_utf8}
use Rattle.bor_terms.specs.Day.{IsDay}
use Rattle.bor_terms.specs.Span.{Range, HasPoints}
use Rattle.bor_terms.specs.Texts.{is_ident}
use Rattle.bods_read.specs.declared.details.Identifier.{Identifier}
use Rattle.bods_read.specs.declared.details.Details.{Details}
use Rattle.bods_read.specs.declared.details.Details.TheVariants.{Entity, Person, Relationship}
use Rattle.bods_read.specs.declared.interest.Interest.{Interest}
use Rattle.bods_read.specs.declared.statement.Statement.{Statement}

-- a text of any length
abbrev pub IsFreeText : List ℕ → Type 0
IsFreeText text = is_utf8 text ≡ true

-- an identifier of BODS
abbrev pub IsIdent : List ℕ → Type 0
IsIdent id = is_ident id ≡ true

-- an identifier under a scheme
pub record IsFormedIdentifier (i : Identifier) : Type 0 where
  pub scheme : IsFreeText i.scheme
  pub id : IsFreeText i.id

-- a share: percents to 100, and a point between its ends
pub record IsShare (share : Range) : Type 0 where
  pub high : share.high ≤ 100
  pub points : HasPoints share

-- an interest
pub record IsFormedInterest (i : Interest) : Type 0 where
  pub share : IfSome i.share IsShare
  pub starts : IfSome i.starts IsDay
  pub ends : IfSome i.ends IsDay

-- an entity
pub record IsFormedEntity (name : Option (List ℕ)) (identifiers : List Identifier) : Type 0 where
  pub name_is : IfSome name IsFreeText
  pub identifiers_are : All IsFormedIdentifier identifiers

-- a relationship
pub record IsFormedRelationship (subject party : Option (List ℕ))
    (interests : List Interest) : Type 0 where
  pub subject_is : IfSome subject IsIdent
  pub party_is : IfSome party IsIdent
  pub interests_are : All IsFormedInterest interests

abbrev pub IsFormedDetails : Details → Type 0
IsFormedDetails (Entity kind name identifiers) = IsFormedEntity name identifiers
IsFormedDetails (Person kind name) = IfSome name IsFreeText
IsFormedDetails (Relationship subject party interests) =
    IsFormedRelationship subject party interests

-- Each value of a statement has its form; its words have one by themselves.
pub record IsFormedStatement (s : Statement) : Type 0 where
  pub id : IsIdent s.id
  pub day : IsDay s.day
  pub declaration : IsIdent s.declaration
  pub rec : IsIdent s.rec
  pub details : IsFormedDetails s.details
