-- Inputs beside what the table says of them: all refusals that hold, in order. Each line holds alone of some input, and each together with the next where both can hold.
use Rattle.std.proofs.Common.{◌≡◌, ℕ, zero, suc, List, [], ◌∷◌, ◌++◌, Option, Some, None, Ok, Err, map, codes, refl, pos}
use Rattle.std.specs.Prelude.{ℤ, unwrap_or, ⊤}
use Rattle.std.specs.List.{flat_map}
use Rattle.std.specs.Str.{is_utf8, chars}
use lib.Utf8.{encode}
use Rattle.form_urlencoded.proofs.OnLiterals.{form_urlencoded_on_literals}
use Rattle.bor_terms.specs.Texts.{is_agent_name, is_lodge_key, is_ident, is_token}
use Rattle.bor_terms.specs.Day.{pair_at, number_of, has_marks, digits_day, day_of}
use Rattle.bor_desk.specs.declared.request.Request.{Request}
use Rattle.bor_desk.specs.declared.request.Request.TheVariants as of
use Rattle.bor_desk.specs.declared.request.AgentRequest.TheVariants as ask
use Rattle.bor_desk.specs.declared.request.RegistrarRequest.TheVariants as office
use Rattle.bor_http.specs.declared.incoming.fault.Path.TheVariants as paths
use Rattle.bor_http.specs.declared.incoming.fault.Name.TheVariants as names
use Rattle.bor_http.specs.declared.incoming.fault.Refusal.{Refusal}
use Rattle.bor_http.specs.declared.incoming.fault.Refusal.TheVariants.{HeadTooLarge, CutShort, BadHead, BadLength, BodyTooLarge, NoPath, WrongMethod, NoToken, BadQuery}
use Rattle.bor_http.specs.Incoming.Words.{name_word}
use Rattle.bor_http.specs.Incoming.Head.{head_len, head_limit}
use Rattle.bor_http.specs.Incoming.Message.{Parts, FieldText}
use Rattle.bor_http.specs.Routes.Paths.{path_spelled}
use Rattle.bor_http.proofs.OnRoutes.OnLiterals.{routes_on_literals}
use Rattle.bor_wire.specs.Spelling.Query.{as_text}
use Rattle.bor_wire.specs.Spelling.Parts.{text_in, bearer_token, token, once, at_most_once, key_in, name_in}
use Rattle.bor_wire.specs.Spelling.Refusals.{lines_of_message, refusals_spelled}
use Rattle.bor_wire.specs.Spelling.Spell.{Spelled, Spells, asked, spell, spelling}
use Rattle.bor_http.proofs.OnIncoming.Examples.{begins, of_literal}

-- what is opened to compute what an input spells
unfoldable pub speller : ⊤
unfolding is_utf8 chars encode as_text form_urlencoded_on_literals is_agent_name is_lodge_key is_ident is_token pair_at number_of has_marks digits_day day_of name_word head_len routes_on_literals text_in path_spelled bearer_token token once at_most_once key_in name_in lines_of_message refusals_spelled asked spell spelling
speller = tt

-- ---- inputs

abbrev line_end : List ℕ
line_end = 13 ∷ 10 ∷ []

-- a head as it is written
abbrev printed : Parts → List ℕ
printed p =
    p.method ++ codes " " ++ p.target ++ codes " HTTP/1.1" ++ line_end
    ++ flat_map (λ field. field.0 ++ codes ": " ++ field.1 ++ line_end) p.fields ++ line_end

-- an input, with its head taken apart, and all refusals that hold of it
abbrev Cases : Type 0
Cases = List ((List ℕ × Option Parts) × List Refusal)

abbrev found : Cases → List (List Refusal)
found cases = map (λ c. refusals_spelled c.0.0 c.0.1) cases

abbrev expected : Cases → List (List Refusal)
expected cases = map (λ c. c.1) cases

-- a request with these fields, and what stands behind its head
abbrev request : List ℕ → List ℕ → List FieldText → List ℕ → List ℕ × Option Parts
request method target fields behind =
    (printed (record { method = method; target = target; fields = fields }) ++ behind, Some (record { method = method; target = target; fields = fields }))

abbrev by_alder : FieldText
by_alder = (codes "Authorization", codes "Bearer alder-token-000001")

abbrev length_is : List ℕ → FieldText
length_is value = (codes "Content-Length", value)

abbrev get : List ℕ → List ℕ × Option Parts
get target = request (codes "GET") target (by_alder ∷ []) []

-- ---- 1 to 3

-- so many fields and the empty line, each ended by a line feed
abbrev fields_and_end : ℕ → List ℕ
fields_and_end zero = 10 ∷ []
fields_and_end (suc n) = codes "a:b" ++ 10 ∷ fields_and_end n

-- so many bytes
abbrev many : ℕ → List ℕ
many zero = []
many (suc n) = 97 ∷ many n

-- a head that is too large isn't taken apart; where there is no head, nothing else is said
abbrev heads : Cases
heads =
    (([], None), CutShort ∷ [])
    ∷ ((codes "GET /day HTTP/1.1" ++ line_end, None), CutShort ∷ [])
    ∷ ((codes "GET /day" ++ line_end ++ line_end, None), BadHead ∷ [])
    ∷ ((codes "a:b" ++ 10 ∷ fields_and_end 64, None), BadHead ∷ [])
    ∷ ((codes "a:b" ++ 10 ∷ fields_and_end 65, None), HeadTooLarge ∷ BadHead ∷ [])
    ∷ []

-- 16,384 bytes without a head, and one byte less
no_head_in_many : refusals_spelled (many head_limit) None ≡ HeadTooLarge ∷ []
unfolding speller
no_head_in_many = refl

no_head_in_less : refusals_spelled (many 16383) None ≡ CutShort ∷ []
unfolding speller
no_head_in_less = refl

-- ---- 4 to 6

-- a list of the filings, asked for with these lengths, and what stands behind its head
abbrev with_lengths : List FieldText → List ℕ → List ℕ × Option Parts
with_lengths lengths behind = request (codes "GET") (codes "/filings") (by_alder ∷ lengths) behind

abbrev encoded : FieldText
encoded = (codes "transfer-ENCODING", codes "chunked")

abbrev bodies : Cases
bodies =
    (with_lengths [] [], [])
    ∷ (with_lengths [] (codes "more"), [])
    ∷ (with_lengths (length_is (codes "4") ∷ []) (codes "four"), [])
    ∷ (with_lengths (length_is (codes "004") ∷ []) (codes "four, and more"), [])
    ∷ (with_lengths (encoded ∷ []) [], BadLength ∷ [])
    ∷ (with_lengths (length_is (codes "0") ∷ length_is (codes "0") ∷ []) [], BadLength ∷ [])
    ∷ (with_lengths (length_is [] ∷ []) [], BadLength ∷ [])
    ∷ (with_lengths (length_is (codes "+4") ∷ []) (codes "four"), BadLength ∷ [])
    ∷ (with_lengths (length_is (codes "5") ∷ []) (codes "four"), CutShort ∷ [])
    ∷ (with_lengths (length_is (codes "1048576") ∷ []) [], CutShort ∷ [])
    -- together
    ∷ (with_lengths (length_is (codes "1048577") ∷ []) [], BodyTooLarge ∷ CutShort ∷ [])
    ∷ (with_lengths (length_is (codes "1048577") ∷ encoded ∷ []) [], BadLength ∷ BodyTooLarge ∷ CutShort ∷ [])
    ∷ []

-- ---- 7 to 9

abbrev targets : Cases
targets =
    (get (codes "/nothing"), NoPath ∷ [])
    ∷ (get (codes "/filings/"), NoPath ∷ [])
    ∷ (get (codes "filings"), NoPath ∷ [])
    ∷ (get (codes "*"), NoPath ∷ [])
    ∷ (get (codes "/day"), WrongMethod paths.Day ∷ [])
    ∷ (request (codes "HEAD") (codes "/filings") (by_alder ∷ []) [], WrongMethod paths.Filings ∷ [])
    ∷ (request (codes "get") (codes "/filings") (by_alder ∷ []) [], WrongMethod paths.Filings ∷ [])
    ∷ (get (codes "/filings/f1"), WrongMethod paths.Filing ∷ [])
    -- together, and with what stands before and behind in the order; of what is no path no method is wrong
    ∷ (request (codes "GET") (codes "/nothing") (length_is (codes "1") ∷ []) [], CutShort ∷ NoPath ∷ NoToken ∷ [])
    ∷ (request (codes "PUT") (codes "/filings") [] [], WrongMethod paths.Filings ∷ NoToken ∷ [])
    ∷ []

-- a list of the filings, asked for with this field
abbrev with_field : List ℕ → List ℕ → List ℕ × Option Parts
with_field name value = request (codes "GET") (codes "/filings") ((name, value) ∷ []) []

abbrev tokens : Cases
tokens =
    (with_field (codes "authorization") (codes "bEARER   alder-token-000001"), [])
    ∷ (request (codes "GET") (codes "/filings") [] [], NoToken ∷ [])
    ∷ (with_field (codes "Authorization") (codes "Bearer"), NoToken ∷ [])
    ∷ (with_field (codes "Authorization") (codes "Beareralder-token-000001"), NoToken ∷ [])
    ∷ (with_field (codes "Authorization") (codes "alder-token-000001"), NoToken ∷ [])
    ∷ (with_field (codes "Authorization") (codes "Basic alder-token-000001"), NoToken ∷ [])
    ∷ (with_field (codes "Authorization") (codes "Bearer alder-token-0001"), [])
    ∷ (with_field (codes "Authorization") (codes "Bearer alder-token-001"), NoToken ∷ [])
    ∷ (with_field (codes "Authorization") (codes "Bearer alder token 000001"), NoToken ∷ [])
    -- a field of another name is none, and two are none
    ∷ (with_field (codes "X-Authorization") (codes "Bearer alder-token-000001"), NoToken ∷ [])
    ∷ (with_field (codes "Authorizatio") (codes "Bearer alder-token-000001"), NoToken ∷ [])
    ∷ (request (codes "GET") (codes "/filings") (by_alder ∷ by_alder ∷ []) [], NoToken ∷ [])
    ∷ []

abbrev about_messages : Cases
about_messages = heads ++ bodies ++ targets ++ tokens

about_messages_found : found about_messages ≡ expected about_messages
unfolding speller
about_messages_found = refl

-- ---- 10

abbrev put : List ℕ → List ℕ × Option Parts
put target = request (codes "PUT") target (by_alder ∷ []) []

-- the key comes from the path and due from the query; what else stands in the query is passed over
abbrev lodgings : Cases
lodgings =
    (put (codes "/filings/f1?due=2024-02-01"), [])
    ∷ (put (codes "/filings/f1?due=2024-02-01T09:00"), [])
    ∷ (put (codes "/filings/f1?%64ue=2024%2D02-01"), [])
    ∷ (put (codes "/filings/f1?a=b&key=,&due=2024-02-01&date="), [])
    ∷ (put (codes "/filings/f1?due=2024-02-01?"), BadQuery names.Due ∷ [])
    ∷ (put (codes "/filings/f1"), BadQuery names.Due ∷ [])
    ∷ (put (codes "/filings/f1?"), BadQuery names.Due ∷ [])
    ∷ (put (codes "/filings/f1?due"), BadQuery names.Due ∷ [])
    ∷ (put (codes "/filings/f1?Due=2024-02-01"), BadQuery names.Due ∷ [])
    ∷ (put (codes "/filings/f1?due=2024-02-30"), BadQuery names.Due ∷ [])
    ∷ (put (codes "/filings/f1?due=2024-02-01&due=2024-02-01"), BadQuery names.Due ∷ [])
    ∷ (put (codes "/filings/f%31?due=2024-02-01"), BadQuery names.Key ∷ [])
    ∷ (put (codes "/filings/f,?key=f1&due=2024-02-01"), BadQuery names.Key ∷ [])
    -- together, and with the line before
    ∷ (put (codes "/filings/f,?due="), BadQuery names.Key ∷ BadQuery names.Due ∷ [])
    ∷ (request (codes "PUT") (codes "/filings/f1") [] [], NoToken ∷ BadQuery names.Due ∷ [])
    ∷ []

abbrev keys : Cases
keys =
    (request (codes "DELETE") (codes "/filings/f1") (by_alder ∷ []) [], [])
    ∷ (request (codes "DELETE") (codes "/filings/f+1") (by_alder ∷ []) [], BadQuery names.Key ∷ [])
    ∷ (get (codes "/filings/f/file"), [])
    ∷ (get (codes "/filings/,/file"), BadQuery names.Key ∷ [])
    ∷ []

abbrev snapshots : Cases
snapshots =
    (get (codes "/snapshot?agent=alder&declaration=c1"), [])
    ∷ (get (codes "/snapshot?date=2024-01-11&declaration=c+1&agent=alder"), [])
    ∷ (get (codes "/snapshot?declaration=c1"), BadQuery names.Agent ∷ [])
    ∷ (get (codes "/snapshot?agent=alder"), BadQuery names.Declaration ∷ [])
    ∷ (get (codes "/snapshot?agent=alder&declaration=c1&date="), BadQuery names.Date ∷ [])
    ∷ (get (codes "/snapshot?agent=alder&declaration=c1&date=2024-01-11&date=2024-01-11"), BadQuery names.Date ∷ [])
    -- together
    ∷ (get (codes "/snapshot?agent=Alder&declaration=%01"), BadQuery names.Agent ∷ BadQuery names.Declaration ∷ [])
    ∷ (get (codes "/snapshot?agent=alder&date=x"), BadQuery names.Declaration ∷ BadQuery names.Date ∷ [])
    ∷ []

abbrev chains : Cases
chains =
    (get (codes "/chains?agent=alder&declaration=c1&record=e1"), [])
    ∷ (get (codes "/chains?agent=alder&declaration=c1&record=e1&date=2024-01-11"), [])
    ∷ (get (codes "/chains?agent=&declaration=c1&record=e1"), BadQuery names.Agent ∷ [])
    ∷ (get (codes "/chains?agent=alder&declaration=&record=e1"), BadQuery names.Declaration ∷ [])
    ∷ (get (codes "/chains?agent=alder&declaration=c1"), BadQuery names.Record ∷ [])
    ∷ (get (codes "/chains?agent=alder&declaration=c1&record=e1&date=1"), BadQuery names.Date ∷ [])
    -- together
    ∷ (get (codes "/chains?record=e1"), BadQuery names.Agent ∷ BadQuery names.Declaration ∷ [])
    ∷ (get (codes "/chains?agent=alder"), BadQuery names.Declaration ∷ BadQuery names.Record ∷ [])
    ∷ (get (codes "/chains?agent=alder&declaration=c1&date"), BadQuery names.Record ∷ BadQuery names.Date ∷ [])
    ∷ []

abbrev evidence : Cases
evidence =
    (get (codes "/evidence?agent=alder&declaration=c1&record=e1"), [])
    ∷ (get (codes "/evidence?agent=alder&declaration=c1&record=e1&date=2024-01-11"), [])
    ∷ (get (codes "/evidence?agent=alder&declaration=c1"), BadQuery names.Record ∷ [])
    -- together
    ∷ (get (codes "/evidence?record=e1&date=1"), BadQuery names.Agent ∷ BadQuery names.Declaration ∷ BadQuery names.Date ∷ [])
    ∷ []

abbrev entities : Cases
entities =
    (get (codes "/entities?scheme=GB-COH&id=00000001"), [])
    ∷ (get (codes "/entities?date=2024-01-11&id=1&scheme=50%25"), [])
    ∷ (get (codes "/entities?id=1"), BadQuery names.Scheme ∷ [])
    ∷ (get (codes "/entities?scheme=a&id="), BadQuery names.Id ∷ [])
    ∷ (get (codes "/entities?scheme=a&id=1&id=1"), BadQuery names.Id ∷ [])
    ∷ (get (codes "/entities?scheme=a&id=1&date=1"), BadQuery names.Date ∷ [])
    -- together
    ∷ (get (codes "/entities?scheme=%01"), BadQuery names.Scheme ∷ BadQuery names.Id ∷ [])
    ∷ (get (codes "/entities?scheme=a&date"), BadQuery names.Id ∷ BadQuery names.Date ∷ [])
    ∷ []

-- a request with a body of so many digits' length
abbrev post : List ℕ → List ℕ → List ℕ → List ℕ × Option Parts
post target length body = request (codes "POST") target (by_alder ∷ length_is length ∷ []) body

-- the token of a new agent is the whole body as it stands
abbrev by_the_registrar : Cases
by_the_registrar =
    (post (codes "/day?date=2024-03-01") (codes "0") [], [])
    ∷ (post (codes "/day?day=2024-03-01") (codes "0") [], BadQuery names.Date ∷ [])
    ∷ (post (codes "/day?date=2024-03-01&date=2024-03-01") (codes "0") [], BadQuery names.Date ∷ [])
    ∷ (post (codes "/agents?name=cedar") (codes "18") (codes "cedar-token-000001"), [])
    ∷ (post (codes "/agents?name=cedar") (codes "18") (codes "cedar-token-000001 and more"), [])
    ∷ (post (codes "/agents?name=cedar") (codes "19") (codes "cedar-token-000001 and more"), BadQuery names.Token ∷ [])
    ∷ (post (codes "/agents?name=cedar&token=cedar-token-000001") (codes "0") [], BadQuery names.Token ∷ [])
    ∷ (post (codes "/agents") (codes "18") (codes "cedar-token-000001"), BadQuery names.Name ∷ [])
    -- together
    ∷ (post (codes "/agents") (codes "0") [], BadQuery names.Name ∷ BadQuery names.Token ∷ [])
    ∷ []

-- the agent's name is the segment of the path as it stands, and its new token the whole body
abbrev renew : List ℕ → List ℕ → List ℕ → List ℕ × Option Parts
renew target length body = request (codes "PUT") target (by_alder ∷ length_is length ∷ []) body

abbrev renewals : Cases
renewals =
    (renew (codes "/agents/cedar") (codes "18") (codes "cedar-token-000002"), [])
    ∷ (renew (codes "/agents/cedar?name=alder") (codes "18") (codes "cedar-token-000002 and more"), [])
    ∷ (renew (codes "/agents/ced%61r") (codes "18") (codes "cedar-token-000002"), BadQuery names.Name ∷ [])
    ∷ (renew (codes "/agents/Cedar") (codes "18") (codes "cedar-token-000002"), BadQuery names.Name ∷ [])
    ∷ (renew (codes "/agents/cedar") (codes "19") (codes "cedar-token-000002 and more"), BadQuery names.Token ∷ [])
    -- together
    ∷ (renew (codes "/agents/cedar,?token=cedar-token-000002") (codes "0") [], BadQuery names.Name ∷ BadQuery names.Token ∷ [])
    ∷ []

abbrev about_names : Cases
about_names = lodgings ++ keys ++ snapshots ++ chains ++ evidence ++ entities ++ by_the_registrar ++ renewals

about_names_found : found about_names ≡ expected about_names
unfolding speller
about_names_found = refl

-- ---- what is asked where no refusal holds

abbrev Askings : Type 0
Askings = List ((List ℕ × Option Parts) × Request)

abbrev spelled : Askings → List Spelled
spelled askings = map (λ a. spelling a.0.0 a.0.1) askings

-- alder asks for this
abbrev asked_by_alder : Askings → List Spelled
asked_by_alder askings = map (λ a. Ok (record { token = codes "alder-token-000001"; request = a.1 })) askings

-- the day that a text names
abbrev day : List ℕ → ℤ
day text = unwrap_or (day_of text) (pos 0)

abbrev of_each_route : Askings
of_each_route =
    (request (codes "PUT") (codes "/filings/f1?key=f2&due=2024-02-01") (by_alder ∷ length_is (codes "2") ∷ []) (codes "[]{}"), of.Agent (ask.Lodge (codes "f1") (day (codes "2024-02-01")) (codes "[]")))
    ∷ (request (codes "DELETE") (codes "/filings/f1?due=x") (by_alder ∷ []) [], of.Agent (ask.Withdraw (codes "f1")))
    ∷ (get (codes "/filings"), of.Agent ask.Filings)
    ∷ (get (codes "/filings/f1/file"), of.Agent (ask.File (codes "f1")))
    ∷ (get (codes "/published"), of.Agent ask.Published)
    ∷ (get (codes "/snapshot?agent=alder&declaration=c+1&date=2024-01-11"), of.Agent (ask.Snapshot (codes "alder") (codes "c 1") (Some (day (codes "2024-01-11")))))
    ∷ (get (codes "/snapshot?declaration=c1&agent=alder"), of.Agent (ask.Snapshot (codes "alder") (codes "c1") None))
    ∷ (get (codes "/chains?agent=alder&declaration=c1&record=e%31"), of.Agent (ask.Chains (record { agent = codes "alder"; declaration = codes "c1"; rec = codes "e1" }) None))
    ∷ (get (codes "/evidence?agent=alder&declaration=c1&record=e1&date=2024-01-11"), of.Agent (ask.Evidence (record { agent = codes "alder"; declaration = codes "c1"; rec = codes "e1" }) (Some (day (codes "2024-01-11")))))
    ∷ (get (codes "/entities?scheme=50%25&id=00000001"), of.Agent (ask.Entities (record { scheme = codes "50%"; id = codes "00000001" }) None))
    ∷ (post (codes "/day?date=2024-03-01") (codes "0") [], of.Registrar (office.Day (day (codes "2024-03-01"))))
    ∷ (post (codes "/agents?name=cedar&token=x") (codes "18") (codes "cedar-token-000001, and more"), of.Registrar (office.Enrol (codes "cedar") (codes "cedar-token-000001")))
    ∷ (renew (codes "/agents/cedar") (codes "18") (codes "cedar-token-000002, and more"), of.Registrar (office.Renew (codes "cedar") (codes "cedar-token-000002")))
    ∷ (get (codes "/register?date=1"), of.Registrar office.Register)
    ∷ []

of_each_route_spelled : spelled of_each_route ≡ asked_by_alder of_each_route
unfolding speller
of_each_route_spelled = refl

-- the first refusal is the answer
abbrev refused : List ((List ℕ × Option Parts) × Refusal)
refused =
    ((codes "a:b" ++ 10 ∷ fields_and_end 65, None), HeadTooLarge)
    ∷ (with_lengths (length_is (codes "1048577") ∷ encoded ∷ []) [], BadLength)
    ∷ (with_lengths (length_is (codes "1048577") ∷ []) [], BodyTooLarge)
    ∷ (request (codes "GET") (codes "/nothing") (length_is (codes "1") ∷ []) [], CutShort)
    ∷ (request (codes "GET") (codes "/nothing") [] [], NoPath)
    ∷ (request (codes "PUT") (codes "/filings") [] [], WrongMethod paths.Filings)
    ∷ (request (codes "PUT") (codes "/filings/f,") [] [], NoToken)
    ∷ (put (codes "/filings/f,"), BadQuery names.Key)
    ∷ []

first_refusals : map (λ c. spelling c.0.0 c.0.1) refused ≡ map (λ c. Err c.1) refused
unfolding speller
first_refusals = refl

-- ---- a whole input

-- its head is the one that it begins with, and of the lines that are about it the first that holds is that no token is there
without_token : Spells (codes "GET /filings HTTP/1.1\r\nHost:  localhost \r\n\r\nGET /") (Err NoToken)
unfolding speller
without_token = (Some of_literal, begins, refl)
