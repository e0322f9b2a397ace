-- The request that a message spells, one part looked at after the other: each refuses, or the next
-- is looked at.
use Rattle.std.specs.Prelude.{◌≡◌, ℕ, ℤ, List, Option, Some, None, Result, Ok, Err, ⊤}
use Rattle.bor_terms.specs.Day.{day_of}
use Rattle.bor_terms.specs.Texts.{is_agent_name, is_ident, is_token}
use Rattle.bods_read.specs.declared.details.Identifier.{Identifier}
use Rattle.bor_records.specs.declared.links.node.Node.{Node}
use Rattle.bor_desk.specs.declared.request.Request.{Request}
use Rattle.bor_desk.specs.declared.request.Request.TheVariants as of
use Rattle.bor_desk.specs.declared.request.AgentRequest.TheVariants as ask
use Rattle.bor_desk.specs.declared.request.RegistrarRequest.TheVariants as office
use Rattle.bor_http.specs.declared.incoming.fault.Name.{Name}
use Rattle.bor_http.specs.declared.incoming.fault.Name.TheVariants as names
use Rattle.bor_http.specs.declared.incoming.fault.Refusal.{Refusal}
use Rattle.bor_http.specs.declared.incoming.fault.Refusal.TheVariants.{NoPath, WrongMethod, NoToken}
use Rattle.bor_http.specs.declared.incoming.fault.Refusal.TheVariants.{BadQuery}
use Rattle.bor_http.specs.declared.incoming.fault.WireFault.{WireFault}
use Rattle.bor_http.specs.declared.incoming.fault.WireFault.TheVariants.{Refused, Read, Memory}
use Rattle.bor_http.specs.Incoming.Message.{Message}
use Rattle.bor_http.specs.Incoming.Steps.{◌>>=◌}
use Rattle.bor_http.specs.declared.routes.route.Route.{Route}
use Rattle.bor_http.specs.declared.routes.route.Route.TheVariants as routes
use Rattle.bor_http.specs.Routes.Routes.{route_at}
use Rattle.bor_wire.specs.Spelling.Parts as part
use Rattle.bor_wire.specs.Spelling.Query.{TextPair}
use Rattle.bor_wire.specs.Spelling.Spell.{Spelled}

-- a fault that is returned is the refusal that is stated, or want of memory; nothing was read
abbrev pub StatesFault : {Y : Type 0} → WireFault → Result Y Refusal → Type 0
StatesFault (Refused why) stated = stated ≡ Err why
StatesFault Read stated = ⊥
StatesFault Memory stated = ⊤

-- the value that is found, seen by view, is the one that is stated
abbrev pub FindsStated : {X Y : Type 0} → (X → Y) → Result X WireFault → Result Y Refusal → Type 0
FindsStated view (Ok x) stated = stated ≡ Ok (view x)
FindsStated view (Err fault) stated = StatesFault fault stated

-- the part, or why there is none
abbrev pub or_refuse : {A : Type 0} → Refusal → Option A → Result A Refusal
or_refuse why None = Err why
or_refuse why (Some x) = Ok x

-- the name's part, or that it is bad
abbrev pub named : {A : Type 0} → Name → Option A → Result A Refusal
named name value = or_refuse (BadQuery name) value

-- the record that the pairs of a query name
unfoldable pub node_by_steps : List TextPair → Result Node Refusal
node_by_steps pairs = do
  agent ← named names.Agent (part.once (part.fitting is_agent_name) names.Agent pairs)
  declaration ← named names.Declaration (part.once (part.fitting is_ident) names.Declaration pairs)
  rec ← named names.Record (part.once (part.fitting is_ident) names.Record pairs)
  Ok (record { agent = agent; declaration = declaration; rec = rec })

-- the identifier that they name
unfoldable pub identifier_by_steps : List TextPair → Result Identifier Refusal
identifier_by_steps pairs = do
  scheme ← named names.Scheme (part.once (part.fitting is_ident) names.Scheme pairs)
  id ← named names.Id (part.once (part.fitting is_ident) names.Id pairs)
  Ok (record { scheme = scheme; id = id })

-- the lodging that a path, a query and a body ask for
unfoldable pub lodging_by_steps : List ℕ → List TextPair → List ℕ → Result Request Refusal
lodging_by_steps path pairs body = do
  key ← named names.Key (part.key_in path)
  due ← named names.Due (part.once day_of names.Due pairs)
  Ok (of.Agent (ask.Lodge key due body))

-- the snapshot that a query asks for
unfoldable pub snapshot_by_steps : List TextPair → Result Request Refusal
snapshot_by_steps pairs = do
  agent ← named names.Agent (part.once (part.fitting is_agent_name) names.Agent pairs)
  declaration ← named names.Declaration (part.once (part.fitting is_ident) names.Declaration pairs)
  date ← named names.Date (part.at_most_once day_of names.Date pairs)
  Ok (of.Agent (ask.Snapshot agent declaration date))

-- the entity that a query names, and the date, where it has one
unfoldable pub entity_by_steps : List TextPair → Result (Node × Option ℤ) Refusal
entity_by_steps pairs = do
  node ← node_by_steps pairs
  date ← named names.Date (part.at_most_once day_of names.Date pairs)
  Ok (node, date)

-- the entities that a query asks for
unfoldable pub entities_by_steps : List TextPair → Result Request Refusal
entities_by_steps pairs = do
  identifier ← identifier_by_steps pairs
  date ← named names.Date (part.at_most_once day_of names.Date pairs)
  Ok (of.Agent (ask.Entities identifier date))

-- the enrolment that a query and a body ask for
unfoldable pub enrolment_by_steps : List TextPair → List ℕ → Result Request Refusal
enrolment_by_steps pairs body = do
  name ← named names.Name (part.once (part.fitting is_agent_name) names.Name pairs)
  token ← named names.Token (part.text_in is_token body)
  Ok (of.Registrar (office.Enrol name token))

-- the renewal that a path and a body ask for
unfoldable pub renewal_by_steps : List ℕ → List ℕ → Result Request Refusal
renewal_by_steps path body = do
  name ← named names.Name (part.name_in path)
  token ← named names.Token (part.text_in is_token body)
  Ok (of.Registrar (office.Renew name token))

unfoldable pub request_by_steps : Route → Message → Result Request Refusal
request_by_steps routes.Lodge m = lodging_by_steps (part.path_text m) (part.query m) m.body
request_by_steps routes.Withdraw m = do
  key ← named names.Key (part.key m)
  Ok (of.Agent (ask.Withdraw key))
request_by_steps routes.Filings m = Ok (of.Agent ask.Filings)
request_by_steps routes.File m = do
  key ← named names.Key (part.key m)
  Ok (of.Agent (ask.File key))
request_by_steps routes.Published m = Ok (of.Agent ask.Published)
request_by_steps routes.Snapshot m = snapshot_by_steps (part.query m)
request_by_steps routes.Chains m = do
  entity ← entity_by_steps (part.query m)
  Ok (of.Agent (ask.Chains entity.0 entity.1))
request_by_steps routes.Evidence m = do
  entity ← entity_by_steps (part.query m)
  Ok (of.Agent (ask.Evidence entity.0 entity.1))
request_by_steps routes.Entities m = entities_by_steps (part.query m)
request_by_steps routes.Day m = do
  date ← named names.Date (part.date m)
  Ok (of.Registrar (office.Day date))
request_by_steps routes.Enrol m = enrolment_by_steps (part.query m) m.body
request_by_steps routes.Renew m = renewal_by_steps (part.path_text m) m.body
request_by_steps routes.Register m = Ok (of.Registrar office.Register)

unfoldable pub spell_by_steps : Message → Spelled
spell_by_steps m = do
  path ← or_refuse NoPath (part.path m)
  route ← or_refuse (WrongMethod path) (route_at path m.parts.method)
  token ← or_refuse NoToken (part.token m.parts.fields)
  request ← request_by_steps route m
  Ok (record { token = token; request = request })
