-- A register of one agent to which requests lead from a new one: it is stored. One whose first filing has the number 2 isn't.
use Rattle.std.proofs.Common.{◌≡◌, ◌<◌, pos, true, false, true≢false, [], ◌∷◌, codes, refl, sym, arith, All}
use Rattle.std.proofs.lemmas.Int.{ints}
use Rattle.std.proofs.lemmas.List.Elements.{All-nil, All-cons}
use Rattle.bor_terms.specs.Day.{IsDay}
use Rattle.bor_terms.specs.Texts.{is_agent_name, is_lodge_key, is_token}
use Rattle.bor_register.specs.Register.{Register, empty_register}
use Rattle.bor_register.specs.declared.filing.AcceptedFiling.{AcceptedFiling}
use Rattle.bor_desk.specs.Runs.{Asked, register_after}
use Rattle.bor_desk.specs.declared.request.Request.TheVariants as of
use Rattle.bor_desk.specs.declared.request.AgentRequest.TheVariants as ask
use Rattle.bor_desk.specs.declared.request.RegistrarRequest.TheVariants as office
use Rattle.bor_store_sql.specs.Rows.Stored.{IsStored}
use Rattle.bor_store.specs.Laws.{IsFormedRequest}
use Rattle.bor_store.proofs.Stored.{legal_are_stored}

enrolment : Asked
enrolment = record { token = codes "registrar-token-0001"; request = of.Registrar (office.Enrol (codes "cedar") (codes "cedar-token-000001")) }

lodging : Asked
lodging = record { token = codes "cedar-token-000001"; request = of.Agent (ask.Lodge (codes "f1") (pos 19754) (codes "[]")) }

is_a_day : IsDay (pos 19754)
is_a_day = (omega (arith, ints), omega (arith, ints))

is_registrars : is_token (codes "registrar-token-0001") ≡ true
unfolding is_token
is_registrars = refl

are_bytes : All (λ b. b < 256) (codes "[]")
are_bytes = All-cons (λ b. b < 256) 91 (93 ∷ []) (omega arith) (All-cons (λ b. b < 256) 93 [] (omega arith) (All-nil (λ b. b < 256)))

enrolment_is : IsFormedRequest enrolment.request
unfolding enrolment is_agent_name is_token
enrolment_is = (refl, refl)

lodging_is : IsFormedRequest lodging.request
unfolding lodging is_lodge_key
lodging_is = (refl, is_a_day, are_bytes)

abbrev IsFormedAsked : Asked → Type 0
IsFormedAsked a = IsFormedRequest a.request

-- what requests leave, whatever they are answered
it_is_stored : IsStored (register_after (empty_register (codes "registrar-token-0001") (pos 19754)) (enrolment ∷ lodging ∷ []))
it_is_stored =
    legal_are_stored.from_new (codes "registrar-token-0001") (pos 19754) (enrolment ∷ lodging ∷ []) is_registrars is_a_day
    (All-cons IsFormedAsked enrolment (lodging ∷ []) enrolment_is (All-cons IsFormedAsked lodging [] lodging_is (All-nil IsFormedAsked)))

-- ---- not stored

second : AcceptedFiling
second = record { number = 2; key = codes "f2"; due = pos 19754; withdrawn = true; bytes = []; statements = [] }

gap : Register
gap = record { day = pos 19754; registrar = codes "registrar-token-0001"; members = record { name = codes "cedar"; token = codes "cedar-token-000001"; filings = second ∷ [] } ∷ [] }

gap_is_not_stored : IsStored gap → ⊥
unfolding gap second
gap_is_not_stored stored = let no : 2 ≡ 1 = stored.numbered.0.0 in omega (arith, no)

-- nor are names that go down
down : Register
down = record gap { members = record { name = codes "cedar"; token = codes "cedar-token-000001"; filings = [] } ∷ record { name = codes "alder"; token = codes "alder-token-000001"; filings = [] } ∷ [] }

down_is_not_stored : IsStored down → ⊥
unfolding down
down_is_not_stored stored = let no : false ≡ true = stored.ordered.0.0 in absurd (true≢false (sym no))
