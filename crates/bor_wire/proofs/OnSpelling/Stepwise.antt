-- One part looked at after the other refuses as the first line of the table that holds.
use Rattle.std.proofs.Common.{◌≡◌, ℕ, List, [], ◌∷◌, Option, Some, None, Ok, refl, sym, ap, ◌∙◌}
use Rattle.std.specs.Prelude.{unwrap_or, option_and_then, pos}
use Rattle.std.specs.Option.{is_none}
use Rattle.bor_terms.specs.Tables.{table, outcome}
use Rattle.bods_read.specs.declared.details.Identifier.{Identifier}
use Rattle.bor_records.specs.declared.links.node.Node.{Node}
use Rattle.bor_desk.specs.declared.request.Request.{Request}
use Rattle.bor_desk.specs.declared.request.Request.TheVariants as of
use Rattle.bor_desk.specs.declared.request.AgentRequest.TheVariants as ask
use Rattle.bor_desk.specs.declared.request.RegistrarRequest.TheVariants as office
use Rattle.bor_desk.specs.Runs.{Asked}
use Rattle.bor_http.specs.declared.incoming.fault.Path.{Path}
use Rattle.bor_http.specs.declared.incoming.fault.Name.{Name}
use Rattle.bor_http.specs.declared.incoming.fault.Name.TheVariants as names
use Rattle.bor_http.specs.declared.incoming.fault.Refusal.{Refusal}
use Rattle.bor_http.specs.declared.incoming.fault.Refusal.TheVariants.{NoPath, WrongMethod, NoToken}
use Rattle.bor_http.specs.Incoming.Message.{Message}
use Rattle.bor_http.specs.Incoming.Steps.{◌>>=◌}
use Rattle.bor_http.specs.declared.routes.route.Route.{Route}
use Rattle.bor_http.specs.declared.routes.route.Route.TheVariants as routes
use Rattle.bor_http.specs.Routes.Routes.{route_at}
use Rattle.bor_wire.specs.Spelling.Parts as part
use Rattle.bor_http.specs.Incoming.Refusals.{refuse}
use Rattle.bor_wire.specs.Spelling.Refusals.{asks, lines_of_method, lines_of_names, lines_of_message}
use Rattle.bor_wire.specs.Spelling.Spell.{request_of, asked, spell}
use Rattle.bor_wire.specs.Spelling.Steps.{or_refuse, named, entities_by_steps, entity_by_steps, identifier_by_steps, node_by_steps, lodging_by_steps, snapshot_by_steps, enrolment_by_steps, renewal_by_steps, request_by_steps, spell_by_steps}

abbrev asking : List ℕ → Request → Asked
asking token request = record { token = token; request = request }

-- so many names, each in its turn

one_name : {A X : Type 0} (n : Name) (a : Option A) (any : A) (f : A → X)
    → (named n a >>= λ x. Ok (f x)) ≡ outcome (table (asks n a ∷ [])) (f (unwrap_or a any))
one_name n None any f = refl
one_name n (Some a) any f = refl

two_names : {A B X : Type 0} (n m : Name) (a : Option A) (b : Option B) (any : A) (other : B) (f : A → B → X)
    → (named n a >>= λ x. named m b >>= λ y. Ok (f x y))
    ≡ outcome (table (asks n a ∷ asks m b ∷ [])) (f (unwrap_or a any) (unwrap_or b other))
two_names n m (Some a) (Some b) any other f = refl
two_names n m a b any other f = refl

three_names : {A B C X : Type 0} (n m k : Name) (a : Option A) (b : Option B) (c : Option C) (any : A) (other : B) (third : C) (f : A → B → C → X)
    → (named n a >>= λ x. named m b >>= λ y. named k c >>= λ z. Ok (f x y z))
    ≡ outcome (table (asks n a ∷ asks m b ∷ asks k c ∷ [])) (f (unwrap_or a any) (unwrap_or b other) (unwrap_or c third))
three_names n m k (Some a) (Some b) (Some c) any other third f = refl
three_names n m k a b c any other third f = refl

-- two names that make one value, and a third
two_and_one : {A B C Y X : Type 0} (n m k : Name) (a : Option A) (b : Option B) (c : Option C)
    (any : A) (other : B) (third : C) (g : A → B → Y) (f : Y → C → X)
    → ((named n a >>= λ x. named m b >>= λ y. Ok (g x y)) >>= λ v. named k c >>= λ w. Ok (f v w))
    ≡ outcome (table (asks n a ∷ asks m b ∷ asks k c ∷ [])) (f (g (unwrap_or a any) (unwrap_or b other)) (unwrap_or c third))
two_and_one n m k (Some a) (Some b) (Some c) any other third g f = refl
two_and_one n m k a b c any other third g f = refl

abbrev both : {A B : Type 0} → A → B → A × B
both a b = (a, b)

-- three names that make one value, and a fourth
four_names : {A B C D Y X : Type 0} (n m k l : Name) (a : Option A) (b : Option B) (c : Option C) (d : Option D)
    (any : A) (other : B) (third : C) (fourth : D) (g : A → B → C → Y) (f : Y → D → X)
    → (((named n a >>= λ x. named m b >>= λ y. named k c >>= λ z. Ok (g x y z)) >>= λ v. named l d >>= λ w. Ok (both v w)) >>= λ e. Ok (f e.0 e.1))
    ≡ outcome (table (asks n a ∷ asks m b ∷ asks k c ∷ asks l d ∷ [])) (f (g (unwrap_or a any) (unwrap_or b other) (unwrap_or c third)) (unwrap_or d fourth))
four_names n m k l (Some a) (Some b) (Some c) (Some d) any other third fourth g f = refl
four_names n m k l a b c d any other third fourth g f = refl

abbrev node : List ℕ → List ℕ → List ℕ → Node
node agent declaration rec = record { agent = agent; declaration = declaration; rec = rec }

abbrev identifier : List ℕ → List ℕ → Identifier
identifier scheme id = record { scheme = scheme; id = id }

request_stepwise : (r : Route) (m : Message) → request_by_steps r m ≡ outcome (lines_of_names (Some r) m) (request_of (Some r) m)
unfolding request_by_steps node_by_steps entity_by_steps entities_by_steps identifier_by_steps lodging_by_steps snapshot_by_steps enrolment_by_steps renewal_by_steps
request_stepwise routes.Lodge m = two_names names.Key names.Due (part.key m) (part.due m) [] (pos 0) (λ key due. of.Agent (ask.Lodge key due m.body))
request_stepwise routes.Withdraw m = one_name names.Key (part.key m) [] (λ key. of.Agent (ask.Withdraw key))
request_stepwise routes.File m = one_name names.Key (part.key m) [] (λ key. of.Agent (ask.File key))
request_stepwise routes.Snapshot m =
    three_names names.Agent names.Declaration names.Date (part.agent m) (part.declaration m) (part.date_or_none m) [] [] None
    (λ agent declaration date. of.Agent (ask.Snapshot agent declaration date))
request_stepwise routes.Chains m =
    four_names names.Agent names.Declaration names.Record names.Date (part.agent m) (part.declaration m) (part.rec m) (part.date_or_none m) [] [] [] None
    node (λ node date. of.Agent (ask.Chains node date))
request_stepwise routes.Evidence m =
    four_names names.Agent names.Declaration names.Record names.Date (part.agent m) (part.declaration m) (part.rec m) (part.date_or_none m) [] [] [] None
    node (λ node date. of.Agent (ask.Evidence node date))
request_stepwise routes.Entities m =
    two_and_one names.Scheme names.Id names.Date (part.scheme m) (part.id m) (part.date_or_none m) [] [] None
    identifier (λ identifier date. of.Agent (ask.Entities identifier date))
request_stepwise routes.Day m = one_name names.Date (part.date m) (pos 0) (λ date. of.Registrar (office.Day date))
request_stepwise routes.Enrol m =
    two_names names.Name names.Token (part.new_name m) (part.new_token m) [] [] (λ name token. of.Registrar (office.Enrol name token))
request_stepwise routes.Renew m =
    two_names names.Name names.Token (part.name m) (part.new_token m) [] [] (λ name token. of.Registrar (office.Renew name token))
request_stepwise route m = refl

-- ---- the lines about the whole message

only_lines : {X Y : Type 0} (lines : List Refusal) (x : X) (f : X → Y)
    → outcome (table (lines ∷ [])) (f x) ≡ (outcome lines x >>= λ y. Ok (f y))
only_lines [] x f = refl
only_lines (why ∷ more) x f = refl

by_route : (p : Path) (r : Option Route) (t : Option (List ℕ)) (m : Message)
    → outcome
    (table (refuse (WrongMethod p) (is_none r) ∷ refuse NoToken (is_none t) ∷ lines_of_names r m ∷ []))
    (asking (unwrap_or t []) (request_of r m))
    ≡ (or_refuse (WrongMethod p) r >>= λ route. or_refuse NoToken t >>= λ token. request_by_steps route m >>= λ request. Ok (asking token request))
by_route p None t m = refl
by_route p (Some r) None m = refl
by_route p (Some r) (Some t) m =
    only_lines (lines_of_names (Some r) m) (request_of (Some r) m) (λ request. asking t request)
    ∙ ap (λ read. read >>= λ request. Ok (asking t request)) (sym (request_stepwise r m))

by_path : (p : Option Path) (t : Option (List ℕ)) (m : Message)
    → outcome
    (table (refuse NoPath (is_none p) ∷ lines_of_method p m.parts.method ∷ refuse NoToken (is_none t)
    ∷ lines_of_names (option_and_then (λ q. route_at q m.parts.method) p) m ∷ []))
    (asking (unwrap_or t []) (request_of (option_and_then (λ q. route_at q m.parts.method) p) m))
    ≡ (or_refuse NoPath p >>= λ path. or_refuse (WrongMethod path) (route_at path m.parts.method) >>= λ route.
    or_refuse NoToken t >>= λ token. request_by_steps route m >>= λ request. Ok (asking token request))
by_path None t m = refl
by_path (Some p) t m = by_route p (route_at p m.parts.method) t m

pub stepwise : (m : Message) → spell m ≡ spell_by_steps m
unfolding spell asked lines_of_message spell_by_steps
stepwise m = by_path (part.path m) (part.token m.parts.fields) m
