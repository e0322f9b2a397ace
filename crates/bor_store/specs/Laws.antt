-- Laws of registers in tables: which ones tables show.
use Rattle.std.specs.Prelude.{◌≡◌, ◌<◌, ℕ, ℤ, List, All, true}
use Rattle.sqlite.specs.Effect.{Database}
use Rattle.bor_terms.specs.Day.{IsDay}
use Rattle.bor_terms.specs.Texts.{is_agent_name, is_lodge_key, is_token}
use Rattle.bor_register.specs.Forms.{IsFormed}
use Rattle.bor_register.specs.Register.{Register, empty_register}
use Rattle.bor_desk.specs.Operations.Legality.{IsLegal}
use Rattle.bor_desk.specs.Runs.{Asked, register_after}
use Rattle.bor_desk.specs.declared.request.Request.{Request}
use Rattle.bor_desk.specs.declared.request.Request.TheVariants as of
use Rattle.bor_desk.specs.declared.request.AgentRequest.TheVariants as ask
use Rattle.bor_desk.specs.declared.request.RegistrarRequest.TheVariants as office
use Rattle.bor_store_sql.specs.Rows.Stored.{IsStored}
use Rattle.bor_store_sql.specs.Shown.{HasFirst, first_contents}

-- The values that a request brings into the register have the forms that their types ask for; of a
-- file nothing is asked but that its bytes are bytes.
abbrev pub IsFormedRequest : Request → Type 0
IsFormedRequest (of.Agent (ask.Lodge key due file)) =
    (is_lodge_key key ≡ true) × IsDay due × All (λ b. b < 256) file
IsFormedRequest (of.Registrar (office.Day date)) = IsDay date
IsFormedRequest (of.Registrar (office.Enrol name token)) =
    (is_agent_name name ≡ true) × (is_token token ≡ true)
IsFormedRequest (of.Registrar (office.Renew name token)) = is_token token ≡ true
IsFormedRequest request = Unit {0}

abbrev pub AreFormedRequests : List Asked → Type 0
AreFormedRequests run = All (λ a. IsFormedRequest a.request) run

-- Each legal register whose values have their forms is stored: tables that have its rows show it.
-- So is each that requests lead to from such a one, and from a new one.
pub record LegalAreStored : Type 0 where
  pub each : (r : Register) → IsLegal r → IsFormed r → IsStored r
  pub after : (r : Register) (run : List Asked) → IsLegal r → IsFormed r → AreFormedRequests run
      → IsStored (register_after r run)
  pub from_new : (registrar : List ℕ) (day : ℤ) (run : List Asked) → is_token registrar ≡ true
      → IsDay day → AreFormedRequests run
      → IsStored (register_after (empty_register registrar day) run)

-- Tables of version 1 have the rows of one legal register at most: its files say the days of its
-- interests.
abbrev pub FirstTablesTellOneLegal : Type 0
FirstTablesTellOneLegal =
    (r q : Register) (db : Database) → IsLegal r → IsLegal q → HasFirst (first_contents r) db
    → HasFirst (first_contents q) db → r ≡ q
