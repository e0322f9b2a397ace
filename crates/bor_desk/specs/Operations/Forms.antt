-- The forms of a register's values stay.
use Rattle.std.specs.Prelude.{◌≡◌, ℕ, ℤ, ◌<◌, List, All, true}
use Rattle.bor_terms.specs.Day.{IsDay}
use Rattle.bor_terms.specs.Texts.{is_agent_name, is_lodge_key, is_token}
use Rattle.bor_register.specs.Register.{Register, empty_register}
use Rattle.bor_register.specs.Forms.{IsFormed}
use Rattle.bor_desk.specs.Operations.Lodging.{lodge_step}
use Rattle.bor_desk.specs.Operations.Withdrawing.{withdraw_step}
use Rattle.bor_desk.specs.Operations.Registrar.{advance_step, enrol_step, renew_step}

-- A new register has values of their forms, and so has the one that each operation on such values
-- leaves. Of a file nothing is asked but that its bytes are bytes.
pub record StaysFormed : Type 0 where
  pub at_first : (registrar : List ℕ) (day : ℤ) → is_token registrar ≡ true → IsDay day
      → IsFormed (empty_register registrar day)
  pub by_lodging : (r : Register) (name key : List ℕ) (due : ℤ) (bytes : List ℕ) → IsFormed r
      → is_lodge_key key ≡ true → IsDay due → All (λ b. b < 256) bytes
      → IsFormed (lodge_step r name key due bytes).register
  pub by_withdrawal : (r : Register) (name key : List ℕ) → IsFormed r
      → IsFormed (withdraw_step r name key).register
  pub by_advance : (r : Register) (day : ℤ) → IsFormed r → IsDay day
      → IsFormed (advance_step r day).register
  pub by_enrolment : (r : Register) (name token : List ℕ) → IsFormed r → is_agent_name name ≡ true
      → is_token token ≡ true → IsFormed (enrol_step r name token).register
  pub by_renewal : (r : Register) (name token : List ℕ) → IsFormed r → is_token token ≡ true
      → IsFormed (renew_step r name token).register
