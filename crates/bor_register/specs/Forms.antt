-- The forms that the values of a register have: what their types ask for. What a store returns is
-- checked against them.
use Rattle.std.specs.Prelude.{◌≡◌, ◌<◌, ◌^◌, All, true}
use Rattle.bor_terms.specs.Day.{IsDay}
use Rattle.bor_terms.specs.Texts.{is_agent_name, is_lodge_key, is_token}
use Rattle.bods_read.specs.Forms.{IsFormedStatement}
use Rattle.bor_register.specs.declared.member.Member.{Member}
use Rattle.bor_register.specs.declared.filing.AcceptedFiling.{AcceptedFiling}
use Rattle.bor_register.specs.Register.{Register}

-- a filing: a number of 32 bits, a key, a day, bytes, and statements of their forms
pub record IsFormedFiling (f : AcceptedFiling) : Type 0 where
  pub number : f.number < 2 ^ 32
  pub key : is_lodge_key f.key ≡ true
  pub due : IsDay f.due
  pub bytes : All (λ b. b < 256) f.bytes
  pub statements : All IsFormedStatement f.statements

-- an agent with its filings
pub record IsFormedMember (m : Member) : Type 0 where
  pub name : is_agent_name m.name ≡ true
  pub token : is_token m.token ≡ true
  pub filings : All IsFormedFiling m.filings

-- Each value of the register has its form.
pub record IsFormed (r : Register) : Type 0 where
  pub day : IsDay r.day
  pub registrar : is_token r.registrar ≡ true
  pub members : All IsFormedMember r.members
