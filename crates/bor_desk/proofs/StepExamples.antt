-- Who asks decides first, and what is asked next: each refusal of the desk on an instance, and its place before the next one.
use Rattle.std.proofs.Common.{◌≡◌, ℕ, ℤ, pos, List, [], ◌∷◌, Some, None, codes, refl}
use Rattle.bor_register.specs.Register.{Register, empty_register, new_member, with_member, caller_of}
use Rattle.bor_desk.specs.declared.request.Request.{Request}
use Rattle.bor_desk.specs.declared.request.Request.TheVariants as of
use Rattle.bor_desk.specs.declared.request.AgentRequest.TheVariants as ask
use Rattle.bor_desk.specs.declared.request.RegistrarRequest.TheVariants as office
use Rattle.bor_desk.specs.declared.refusal.Refusal.TheVariants.{NoAgent, NotRegistrar, NotAgent, NoSuchFiling, NoEntity, DayBack, NameTaken, TokenTaken, NoSuchAgent}
use Rattle.bor_desk.specs.declared.reply.DeskReply.TheVariants as tell
use Rattle.bor_desk.specs.Step.{Answer, exactly, refused, step}

abbrev today : ℤ
today = pos 19754

-- alder alone, with no filings
abbrev start : Register
start =
    let empty = empty_register (codes "registrar-token-0001") today in
    record empty { members = with_member (new_member (codes "alder") (codes "alder-token-000001")) empty.members }

-- what whoever has the token is answered
abbrev answer : List ℕ → Request → Answer
answer token request = (step start (caller_of token start) request).answer

abbrev nobody : List ℕ
nobody = codes "nobody-token-0001"

abbrev alder : List ℕ
alder = codes "alder-token-000001"

abbrev registrar : List ℕ
registrar = codes "registrar-token-0001"

-- an unknown token is told so before what it asks for is looked at
unknown : answer nobody (of.Agent ask.Filings) ≡ refused NoAgent
unknown = refl

unknown_before_registrar : answer nobody (of.Registrar (office.Day (pos 19753))) ≡ refused NoAgent
unknown_before_registrar = refl

-- an agent that asks for the registrar's doing is told so before it is looked at whether it may be done
day_is_the_registrars : answer alder (of.Registrar (office.Day (pos 19753))) ≡ refused NotRegistrar
day_is_the_registrars = refl

enrolment_is_the_registrars : answer alder (of.Registrar (office.Enrol (codes "alder") alder)) ≡ refused NotRegistrar
enrolment_is_the_registrars = refl

-- the registrar is no agent, whatever it asks of an agent's
registrar_lodges : answer registrar (of.Agent (ask.Lodge (codes "f1") (pos 19753) [])) ≡ refused NotAgent
registrar_lodges = refl

registrar_withdraws : answer registrar (of.Agent (ask.Withdraw (codes "f1"))) ≡ refused NotAgent
registrar_withdraws = refl

registrar_reads : answer registrar (of.Agent ask.Published) ≡ refused NotAgent
registrar_reads = refl

registrar_asks_for_chains : answer registrar (of.Agent (ask.Chains (record { agent = codes "alder"; declaration = codes "c1"; rec = codes "e1" }) None)) ≡ refused NotAgent
registrar_asks_for_chains = refl

registrar_asks_for_evidence : answer registrar (of.Agent (ask.Evidence (record { agent = codes "alder"; declaration = codes "c1"; rec = codes "e1" }) None)) ≡ refused NotAgent
registrar_asks_for_evidence = refl

-- what the registrar's own requests are refused for
day_back : answer registrar (of.Registrar (office.Day (pos 19753))) ≡ refused DayBack
day_back = refl

same_day : answer registrar (of.Registrar (office.Day today)) ≡ exactly (tell.Day today)
same_day = refl

name_taken : answer registrar (of.Registrar (office.Enrol (codes "alder") alder)) ≡ refused NameTaken
name_taken = refl

token_taken : answer registrar (of.Registrar (office.Enrol (codes "birch") alder)) ≡ refused TokenTaken
token_taken = refl

registrars_token_taken : answer registrar (of.Registrar (office.Enrol (codes "birch") registrar)) ≡ refused TokenTaken
registrars_token_taken = refl

enrolled : answer registrar (of.Registrar (office.Enrol (codes "birch") (codes "birch-token-000001"))) ≡ exactly (tell.Enrolled (codes "birch"))
enrolled = refl

-- a renewal, and the register at a glance
renewal_is_the_registrars : answer alder (of.Registrar (office.Renew (codes "alder") (codes "alder-token-000002"))) ≡ refused NotRegistrar
renewal_is_the_registrars = refl

no_such_agent : answer registrar (of.Registrar (office.Renew (codes "birch") alder)) ≡ refused NoSuchAgent
no_such_agent = refl

renewal_taken : answer registrar (of.Registrar (office.Renew (codes "alder") registrar)) ≡ refused TokenTaken
renewal_taken = refl

renewed : answer registrar (of.Registrar (office.Renew (codes "alder") (codes "alder-token-000002"))) ≡ exactly (tell.Renewed (codes "alder"))
renewed = refl

glance_is_the_registrars : answer alder (of.Registrar office.Register) ≡ refused NotRegistrar
glance_is_the_registrars = refl

glance : answer registrar (of.Registrar office.Register) ≡ exactly (tell.Register (record { agent = codes "alder"; published = 0 } ∷ []) today)
glance = refl

-- what isn't there
no_filing : answer alder (of.Agent (ask.Withdraw (codes "f1"))) ≡ refused NoSuchFiling
no_filing = refl

no_file : answer alder (of.Agent (ask.File (codes "f1"))) ≡ refused NoSuchFiling
no_file = refl

no_entity : answer alder (of.Agent (ask.Chains (record { agent = codes "birch"; declaration = codes "c1"; rec = codes "e1" }) None)) ≡ refused NoEntity
no_entity = refl

no_entity_of_evidence : answer alder (of.Agent (ask.Evidence (record { agent = codes "birch"; declaration = codes "c1"; rec = codes "e1" }) None)) ≡ refused NoEntity
no_entity_of_evidence = refl

-- an agent and a declaration that aren't there give an empty snapshot, on the register's day where none is asked for
empty_snapshot : answer alder (of.Agent (ask.Snapshot (codes "birch") (codes "c9") None)) ≡ exactly (tell.Snapshot today [])
empty_snapshot = refl

snapshot_on_a_date : answer alder (of.Agent (ask.Snapshot (codes "alder") (codes "c1") (Some (pos 19000)))) ≡ exactly (tell.Snapshot (pos 19000) [])
snapshot_on_a_date = refl
