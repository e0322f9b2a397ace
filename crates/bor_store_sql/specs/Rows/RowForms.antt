-- The forms that the values of a row have: what their types ask for.
use Rattle.std.specs.Prelude.{◌≡◌, ◌<◌, ◌^◌, IfSome, true}
use Rattle.bor_terms.specs.Day.{IsDay}
use Rattle.bor_terms.specs.Texts.{is_agent_name, is_lodge_key, is_token}
use Rattle.bods_read.specs.Forms.{IsFreeText, IsIdent, IsShare, IsFormedIdentifier}
use Rattle.bods_read.specs.Forms.{IsFormedInterest, IsFormedStatement}
use Rattle.bor_register.specs.declared.filing.Filing.{Filing}
use Rattle.bor_store_sql.specs.declared.rows.places.At.{At}
use Rattle.bor_store_sql.specs.declared.rows.typed.RegisterRow.{RegisterRow}
use Rattle.bor_store_sql.specs.declared.rows.typed.AgentRow.{AgentRow}
use Rattle.bor_store_sql.specs.declared.rows.typed.FilingRow.{FilingRow}
use Rattle.bor_store_sql.specs.declared.rows.typed.Part.{Part}
use Rattle.bor_store_sql.specs.declared.rows.typed.Part.TheVariants.{Entity, Person, Relationship}
use Rattle.bor_store_sql.specs.declared.rows.typed.StatementRow.{StatementRow}
use Rattle.bor_store_sql.specs.declared.rows.typed.Placed.{Placed}
use Rattle.bor_store_sql.specs.declared.rows.typed.InterestRow.{InterestRow}
use Rattle.bor_store_sql.specs.declared.rows.typed.InterestLine.{InterestLine}
use Rattle.bor_store_sql.specs.declared.rows.typed.PeriodRow.{PeriodRow}
use Rattle.bor_store_sql.specs.declared.rows.typed.IdentifierRow.{IdentifierRow}
use Rattle.bor_store_sql.specs.Rows.Stored.{IsCounted}

pub record IsFormedRegisterRow (r : RegisterRow) : Type 0 where
  pub day : IsDay r.day
  pub registrar : is_token r.registrar ≡ true

pub record IsFormedAgentRow (a : AgentRow) : Type 0 where
  pub name : is_agent_name a.name ≡ true
  pub token : is_token a.token ≡ true

pub record IsFormedFilingRow (f : FilingRow) : Type 0 where
  pub agent : is_agent_name f.agent ≡ true
  pub number : f.number < 2 ^ 32
  pub key : is_lodge_key f.key ≡ true
  pub due : IsDay f.due

-- the filing as its agent reads it
pub record IsFormedShown (f : Filing) : Type 0 where
  pub number : f.number < 2 ^ 32
  pub due : IsDay f.due

pub record IsFormedAt (at : At) : Type 0 where
  pub agent : is_agent_name at.agent ≡ true
  pub filing : at.filing < 2 ^ 32
  pub place : at.place < 2 ^ 32

abbrev pub IsFormedPart : Part → Type 0
IsFormedPart (Entity kind name) = IfSome name IsFreeText
IsFormedPart (Person kind name) = IfSome name IsFreeText
IsFormedPart (Relationship subject party) = IfSome subject IsIdent × IfSome party IsIdent

pub record IsFormedStatementRow (s : StatementRow) : Type 0 where
  pub at : IsFormedAt s.at
  pub id : IsIdent s.id
  pub day : IsDay s.day
  pub declaration : IsIdent s.declaration
  pub rec : IsIdent s.rec
  pub part : IsFormedPart s.part

pub record IsFormedInterestLine (i : InterestLine) : Type 0 where
  pub at : IsFormedAt i.at
  pub item : i.item < 2 ^ 32
  pub share : IfSome i.share IsShare

pub record IsFormedPeriodRow (p : PeriodRow) : Type 0 where
  pub at : IsFormedAt p.at
  pub item : p.item < 2 ^ 32
  pub starts : IfSome p.starts IsDay
  pub ends : IfSome p.ends IsDay

pub record IsFormedInterestRow (i : InterestRow) : Type 0 where
  pub at : IsFormedAt i.at
  pub item : i.item < 2 ^ 32
  pub interest : IsFormedInterest i.interest

pub record IsFormedIdentifierRow (i : IdentifierRow) : Type 0 where
  pub at : IsFormedAt i.at
  pub item : i.item < 2 ^ 32
  pub identifier : IsFormedIdentifier i.identifier

-- a statement where it stands, with its lists
pub record IsFormedPlaced (p : Placed) : Type 0 where
  pub at : IsFormedAt p.at
  pub statement : IsFormedStatement p.statement
  pub counted : IsCounted p.statement
