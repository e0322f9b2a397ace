-- The registrar's answers hang on the day, the tokens, the names, and what is published.
use Rattle.std.proofs.Common.{◌≡◌, ℕ, ℤ, Bool, true, false, List, [], ◌∷◌, ◌++◌, map, length, Contains, Option, Some, None, option_map, is_some, append-nil, refl, sym, ap, ap₂, ◌∙◌, arith}
use Rattle.std.specs.Prelude.{if◌then◌else◌, ◌||◌, int_lt, filter}
use Rattle.std.proofs.lemmas.List.{length-map}
use Rattle.std.proofs.lemmas.List.Elements.{filter-append}
use Rattle.bor_terms.specs.Texts.{is_below, is_same}
use Rattle.bor_terms.proofs.Texts.{below_differs, same_refl, same_sym}
use Rattle.bor_records.proofs.OnLinks.Found.{cases, here, none, there}
use Rattle.bor_register.specs.declared.agents.AgentLine.{AgentLine}
use Rattle.bor_register.specs.declared.caller.Caller.{Caller}
use Rattle.bor_register.specs.declared.caller.Caller.TheVariants.{Registrar, Agent}
use Rattle.bor_register.specs.declared.filing.AcceptedFiling.{AcceptedFiling}
use Rattle.bor_register.specs.declared.filing.Outward.{Outward}
use Rattle.bor_register.specs.declared.member.Member.{Member}
use Rattle.bor_register.specs.Publication.{agent_line, is_published, outward, outwards_of, published, published_count}
use Rattle.bor_register.specs.Register.{AllAbove, IsOrdered, Register, agent_with, caller_of, is_enrolled, is_taken}
use Rattle.bor_register.proofs.Callers.{taken-caller}
use Rattle.bor_desk.specs.declared.request.Request.TheVariants as of
use Rattle.bor_desk.specs.declared.request.RegistrarRequest.TheVariants as office
use Rattle.bor_desk.specs.declared.reply.DeskReply.TheVariants as tell
use Rattle.bor_desk.specs.Operations.Laws.{agents_of}
use Rattle.bor_desk.specs.Operations.Registrar.{advance_step, enrol_step, renew_step, renewal}
use Rattle.bor_desk.specs.Refusals.{of_advance, of_enrolment, of_renewal}
use Rattle.bor_desk.specs.Step.{exactly, told}
use Rattle.bor_desk.specs.Standing.{IsOutwardlySame, RegistrarSeesNoDraft}

-- ---- an agent's lines among what is published

by_agent : List ℕ → Outward → Bool
by_agent name o = is_same o.agent name

own_outwards : (name : List ℕ) (fs : List AcceptedFiling) → filter (by_agent name) (map (outward name) fs) ≡ map (outward name) fs
unfolding by_agent
own_outwards name [] = refl
own_outwards name (f ∷ fs) = rw (same_refl name, own_outwards name fs) refl

other_outwards : (name other : List ℕ) (fs : List AcceptedFiling) → is_same other name ≡ false → filter (by_agent name) (map (outward other) fs) ≡ []
unfolding by_agent
other_outwards name other [] e = refl
other_outwards name other (f ∷ fs) e = rw (e, other_outwards name other fs e) refl

none_above : (name : List ℕ) (day : ℤ) (ms : List Member) → AllAbove name ms → filter (by_agent name) (published day ms) ≡ []
none_above name day [] h = refl
none_above name day (m ∷ ms) h =
    filter-append (by_agent name) (outwards_of day m.name m.filings) (published day ms)
    ∙ ap₂ (λ (xs ys : List Outward). xs ++ ys) (other_outwards name m.name (filter (is_published day) m.filings) (same_sym m.name name ∙ below_differs name m.name h.0)) (none_above name day ms h.1)

above_in : (name : List ℕ) (ms : List Member) (m : Member) → AllAbove name ms → Contains ms m → is_below name m.name ≡ true
above_in name [] m h on = absurd (none m on)
above_in name (x ∷ xs) m h on = grind (arith, cases x xs m on, above_in name xs m h.1, h.0)

-- each agent's are its own
of_member : (day : ℤ) (ms : List Member) (m : Member) → IsOrdered ms → Contains ms m → filter (by_agent m.name) (published day ms) ≡ outwards_of day m.name m.filings
of_member day [] m h on = absurd (none m on)
of_member day (x ∷ xs) m h on =
    let apart = filter-append (by_agent m.name) (outwards_of day x.name x.filings) (published day xs) in
    let own = own_outwards x.name (filter (is_published day) x.filings) in
    let other = other_outwards m.name x.name (filter (is_published day) x.filings) in
    let alone = append-nil (outwards_of day x.name x.filings) in
    grind (arith, apart, cases x xs m on, own, none_above x.name day xs h.0, alone, other, below_differs x.name m.name, above_in x.name xs m h.0, of_member day xs m h.1)

line_from : List Outward → List ℕ × List ℕ → AgentLine
line_from os agent = record { agent = agent.0; published = length (filter (by_agent agent.0) os) }

lines_among : (day : ℤ) (os : List Outward) (ms : List Member) → ((m : Member) → Contains ms m → filter (by_agent m.name) os ≡ outwards_of day m.name m.filings) → map (agent_line day) ms ≡ map (line_from os) (agents_of ms)
unfolding line_from
lines_among day os [] all = refl
lines_among day os (m ∷ ms) all =
    let count : published_count day m.filings ≡ length (filter (by_agent m.name) os) = sym (ap (λ (xs : List Outward). length xs) (all m (here m ms)) ∙ length-map (filter (is_published day) m.filings) (outward m.name)) in
    ap₂ (λ (n : ℕ) (ls : List AgentLine). let line : AgentLine = record { agent = m.name; published = n } in line ∷ ls) count (lines_among day os ms (λ x on. all x (there m ms x on)))

lines_are : (r : Register) → IsOrdered r.members → map (agent_line r.day) r.members ≡ map (line_from (published r.day r.members)) (agents_of r.members)
lines_are r ordered = lines_among r.day (published r.day r.members) r.members (λ m on. of_member r.day r.members m ordered on)

-- ---- who has a token, and which names there are

has_name : List ℕ → List (List ℕ × List ℕ) → Bool
has_name name [] = false
has_name name (a ∷ rest) = is_same a.0 name || has_name name rest

name_with : List ℕ → List (List ℕ × List ℕ) → Option (List ℕ)
name_with token [] = None
name_with token (a ∷ rest) = if is_same a.1 token then Some a.0 else name_with token rest

enrolled_by : (name : List ℕ) (ms : List Member) → is_enrolled name ms ≡ has_name name (agents_of ms)
unfolding has_name
enrolled_by name [] = refl
enrolled_by name (m ∷ ms) = ap (λ (b : Bool). is_same m.name name || b) (enrolled_by name ms)

with_by : (token : List ℕ) (ms : List Member) → agent_with token ms ≡ name_with token (agents_of ms)
unfolding name_with
with_by token [] = refl
with_by token (m ∷ ms) = ap (λ (o : Option (List ℕ)). if is_same m.token token then Some m.name else o) (with_by token ms)

module _ (r q : Register) (same : IsOutwardlySame r q) where
  enrolled_same : (name : List ℕ) → is_enrolled name r.members ≡ is_enrolled name q.members
  enrolled_same name = enrolled_by name r.members ∙ ap (has_name name) same.agents ∙ sym (enrolled_by name q.members)

  caller_same : (token : List ℕ) → caller_of token r ≡ caller_of token q
  caller_same token =
      ap₂ (λ (registrar : List ℕ) (o : Option (List ℕ)). if is_same registrar token then Some Registrar else option_map Agent o) same.registrar
      (with_by token r.members ∙ ap (name_with token) same.agents ∙ sym (with_by token q.members))

  taken_same : (token : List ℕ) → is_taken token r ≡ is_taken token q
  taken_same token = taken-caller token r ∙ ap (λ (o : Option Caller). is_some o) (caller_same token) ∙ sym (taken-caller token q)

advance_told : (date : ℤ) (r q : Register) → int_lt date r.day ≡ int_lt date q.day → (advance_step r date).answer ≡ (advance_step q date).answer
advance_told date r q same = grind arith

enrolment_told : (name token : List ℕ) (r q : Register) → is_enrolled name r.members ≡ is_enrolled name q.members → is_taken token r ≡ is_taken token q → (enrol_step r name token).answer ≡ (enrol_step q name token).answer
enrolment_told name token r q named taken = grind arith

renewal_told : (name token : List ℕ) (r q : Register) (known : Option Caller) → (renewal r name token known).answer ≡ (renewal q name token known).answer
renewal_told name token r q known = grind arith

renew_told : (name token : List ℕ) (r q : Register) → is_enrolled name r.members ≡ is_enrolled name q.members → caller_of token r ≡ caller_of token q → (renew_step r name token).answer ≡ (renew_step q name token).answer
renew_told name token r q named known =
    let renewed = renewal_told name token r q (caller_of token r) ∙ ap (λ (c : Option Caller). (renewal q name token c).answer) known in
    grind (arith, renewed)

pub registrar_sees_no_draft : RegistrarSeesNoDraft
registrar_sees_no_draft r q (of.Registrar (office.Day date)) legal lawful same = ap (told tell.Day of_advance) (advance_told date r q (ap (int_lt date) same.day))
registrar_sees_no_draft r q (of.Registrar (office.Enrol name token)) legal lawful same = ap (told tell.Enrolled of_enrolment) (enrolment_told name token r q (enrolled_same r q same name) (taken_same r q same token))
registrar_sees_no_draft r q (of.Registrar (office.Renew name token)) legal lawful same = ap (told tell.Renewed of_renewal) (renew_told name token r q (enrolled_same r q same name) (caller_same r q same token))
registrar_sees_no_draft r q (of.Registrar office.Register) legal lawful same =
    ap₂ (λ (ls : List AgentLine) (day : ℤ). exactly (tell.Register ls day))
    (lines_are r legal.names ∙ ap₂ (λ (os : List Outward) (names : List (List ℕ × List ℕ)). map (line_from os) names) same.published same.agents ∙ sym (lines_are q lawful.names)) same.day
registrar_sees_no_draft r q (of.Agent request) legal lawful same = refl
