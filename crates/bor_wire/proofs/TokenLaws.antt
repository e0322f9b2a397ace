-- An agent keeps its token until it is renewed, and from then on has the new one; a renewal that was told acts once.
use Rattle.std.proofs.Common.{◌≡◌, ℕ, ℤ, List, [], ◌∷◌, Bool, true, false, Option, Some, None, option_map, Result, Ok, Err, refl, ap, subst, ◌∙◌, arith}
use Rattle.std.specs.Prelude.{if◌then◌else◌, int_lt, is_some}
use Rattle.std.specs.List.{list_any}
use Rattle.std.proofs.lemmas.Bool.{cond_both, false_from_ne_true, or_parts}
use Rattle.bor_terms.specs.Texts.{is_same}
use Rattle.bor_terms.proofs.Texts.{same_is, same_refl, same_sym}
use Rattle.bor_register.specs.declared.caller.Caller.{Caller}
use Rattle.bor_register.specs.declared.caller.Caller.TheVariants.{Registrar, Agent}
use Rattle.bor_register.specs.declared.member.Member.{Member}
use Rattle.bor_register.specs.declared.filing.AcceptedFiling.{AcceptedFiling}
use Rattle.bor_register.specs.Additions.{with_renewal}
use Rattle.bor_register.specs.Register.{Register, agent_with, caller_of, is_enrolled, is_taken, new_member, with_filings, with_member, with_token}
use Rattle.bor_register.proofs.Callers.{caller_is_enrolled, taken-caller}
use Rattle.bor_desk.specs.declared.operations.fault.RenewFault.{RenewFault}
use Rattle.bor_desk.specs.declared.operations.fault.RenewFault.TheVariants as renewals
use Rattle.bor_desk.specs.declared.request.Request.{Request}
use Rattle.bor_desk.specs.declared.request.Request.TheVariants as of
use Rattle.bor_desk.specs.declared.request.RegistrarRequest.TheVariants as office
use Rattle.bor_desk.specs.declared.reply.DeskReply.TheVariants as tell
use Rattle.bor_desk.specs.Operations.Sight.{Outcome, sight_of}
use Rattle.bor_desk.specs.Operations.Registrar.{advance_step, enrol_step, renew_step}
use Rattle.bor_desk.specs.Refusals.{of_renewal}
use Rattle.bor_desk.specs.Outcomes.{IsTold}
use Rattle.bor_desk.specs.Runs.{Asked}
use Rattle.bor_desk.specs.Step.{exactly, told, own_after, step}
use Rattle.bor_wire.specs.Spelling.Spell.{Spelled}
use Rattle.bor_wire.specs.Rendering.Replies.{answered}
use Rattle.bor_wire.specs.Inputs.{after}
use Rattle.bor_wire.specs.Runs.{register_left}
use Rattle.bor_wire.specs.Repeats.{IsRenewed, IsRenewedAgain, asks_renewal, renews}

-- ---- who has the token

agent_with-filings : (token name : List ℕ) (fs : List AcceptedFiling) (ms : List Member) → agent_with token (with_filings name fs ms) ≡ agent_with token ms
agent_with-filings token name fs [] = refl
agent_with-filings token name fs (m ∷ ms) = grind (arith, agent_with-filings token name fs ms)

agent_with-member : (token : List ℕ) (new : Member) (ms : List Member) → is_same new.token token ≡ false → agent_with token (with_member new ms) ≡ agent_with token ms
agent_with-member token new [] other = rw other refl
agent_with-member token new (m ∷ ms) other = grind (arith, agent_with-member token new ms other)

-- the caller, by who among the members has the token
abbrev caller_by : Register → List ℕ → Option (List ℕ) → Option Caller
caller_by q token agent = if is_same q.registrar token then Some Registrar else option_map Agent agent

caller-agent : (q : Register) (token asking : List ℕ) (request : Request) → caller_of token (step q (Some (Agent asking)) request).register ≡ caller_of token q
caller-agent q token asking (of.Registrar request) = refl
caller-agent q token asking (of.Agent request) = ap (caller_by q token) (agent_with-filings token asking (own_after (sight_of asking q) request) q.members)

-- a token that somebody has is none of a new agent's
not_taken : (q : Register) (token new : List ℕ) (caller : Caller) → caller_of token q ≡ Some caller → is_taken new q ≡ false → is_same new token ≡ false
not_taken q token new caller is free = false_from_ne_true (is_same new token) (λ same.
    let has = taken-caller token q ∙ ap is_some is in let other = ap (λ t. is_taken t q) (same_is new token same) in cc)

caller-enrolled : (q : Register) (token name new : List ℕ) (caller : Caller) (b c : Bool) → is_enrolled name q.members ≡ b → is_taken new q ≡ c → caller_of token q ≡ Some caller → caller_of token (enrol_step q name new).register ≡ Some caller
caller-enrolled q token name new caller true c e f is = rw e is
caller-enrolled q token name new caller false true e f is = rw (e, f) is
caller-enrolled q token name new caller false false e f is =
    rw (e, f) (ap (caller_by q token) (agent_with-member token (new_member name new) q.members (not_taken q token new caller is f)) ∙ is)

caller-advanced : (q : Register) (token : List ℕ) (caller : Caller) (date : ℤ) (b : Bool) → int_lt date q.day ≡ b → caller_of token q ≡ Some caller → caller_of token (advance_step q date).register ≡ Some caller
caller-advanced q token caller date true e is = rw e is
caller-advanced q token caller date false e is = rw e is

-- a renewal of another agent's token
agent_with-token : (token other new name : List ℕ) (ms : List Member) → is_same new token ≡ false → is_same other name ≡ false → agent_with token ms ≡ Some name
    → agent_with token (with_token other new ms) ≡ Some name
agent_with-token token other new name [] free differs is = absurd cc
agent_with-token token other new name (m ∷ ms) free differs is = grind (arith, same_sym, agent_with-token token other new name ms free differs)

no_registrar : (agent : Option (List ℕ)) → option_map Agent agent ≡ Some Registrar → ⊥
no_registrar agent h = grind arith

no_agent : (agent : Option (List ℕ)) → option_map Agent agent ≡ None → agent ≡ None
no_agent agent h = grind arith

an_agent : (agent : Option (List ℕ)) (name : List ℕ) → option_map Agent agent ≡ Some (Agent name) → agent ≡ Some name
an_agent agent name h = grind arith

-- whether the request may take the caller's token away
abbrev takes : Caller → Request → Bool
takes Registrar request = false
takes (Agent name) request = asks_renewal name request

caller-with_renewal : (q : Register) (token other new : List ℕ) (caller : Caller) (b : Bool) → is_same q.registrar token ≡ b → is_same new token ≡ false → takes caller (of.Registrar (office.Renew other new)) ≡ false
    → caller_of token q ≡ Some caller → caller_of token (with_renewal other new q) ≡ Some caller
caller-with_renewal q token other new caller true e free kept is = rw e (rw e at is)
caller-with_renewal q token other new Registrar false e free kept is = absurd (no_registrar (agent_with token q.members) (rw e at is))
caller-with_renewal q token other new (Agent name) false e free kept is =
    rw e (ap (option_map Agent) (agent_with-token token other new name q.members free kept (an_agent (agent_with token q.members) name (rw e at is))))

caller-renewed : (q : Register) (token other new : List ℕ) (caller : Caller) (b : Bool) (c : Option Caller) → is_enrolled other q.members ≡ b → caller_of new q ≡ c → takes caller (of.Registrar (office.Renew other new)) ≡ false
    → caller_of token q ≡ Some caller → caller_of token (renew_step q other new).register ≡ Some caller
caller-renewed q token other new caller false c e f kept is = rw e is
caller-renewed q token other new caller true None e f kept is =
    let free : is_taken new q ≡ false = taken-caller new q ∙ ap is_some f in
    rw (e, f) (caller-with_renewal q token other new caller (is_same q.registrar token) refl (not_taken q token new caller is free) kept is)
caller-renewed q token other new caller true (Some Registrar) e f kept is = rw (e, f) is
caller-renewed q token other new caller true (Some (Agent owner)) e f kept is =
    rw (e, f) (cond_both (is_same owner other) (record { answer = Ok other; register = q }) (record { answer = Err renewals.TokenTaken; register = q }) (λ (o : Outcome (Result (List ℕ) RenewFault)). caller_of token o.register ≡ Some caller) (λ _. is) (λ _. is))

caller-registrar : (q : Register) (token : List ℕ) (caller : Caller) (request : Request) → takes caller request ≡ false → caller_of token q ≡ Some caller → caller_of token (step q (Some Registrar) request).register ≡ Some caller
caller-registrar q token caller (of.Registrar (office.Day date)) kept is = caller-advanced q token caller date (int_lt date q.day) refl is
caller-registrar q token caller (of.Registrar (office.Enrol name new)) kept is = caller-enrolled q token name new caller (is_enrolled name q.members) (is_taken new q) refl refl is
caller-registrar q token caller (of.Registrar (office.Renew name new)) kept is = caller-renewed q token name new caller (is_enrolled name q.members) (caller_of new q) refl refl kept is
caller-registrar q token caller request kept is = is

-- whoever asks
caller-step : (q : Register) (token : List ℕ) (caller : Caller) (asker : Option Caller) (request : Request) → takes caller request ≡ false → caller_of token q ≡ Some caller
    → caller_of token (step q asker request).register ≡ Some caller
caller-step q token caller None request kept is = is
caller-step q token caller (Some Registrar) request kept is = caller-registrar q token caller request kept is
caller-step q token caller (Some (Agent asking)) request kept is = caller-agent q token asking request ∙ is

pub kept_by : (q : Register) (token name : List ℕ) (ss : List Spelled) → caller_of token q ≡ Some (Agent name) → list_any (renews name) ss ≡ false → caller_of token (register_left q ss) ≡ Some (Agent name)
kept_by q token name [] is none = is
kept_by q token name (Err why ∷ ss) is none = kept_by q token name ss is none
kept_by q token name (Ok asked ∷ ss) is none =
    let both = or_parts (asks_renewal name asked.request) (list_any (renews name) ss) none in
    kept_by (after q (Ok asked)) token name ss (caller-step q token (Agent name) (caller_of asked.token q) asked.request both.0 is) both.1

registrar_kept : (q : Register) (token : List ℕ) (ss : List Spelled) → caller_of token q ≡ Some Registrar → caller_of token (register_left q ss) ≡ Some Registrar
registrar_kept q token [] is = is
registrar_kept q token (Err why ∷ ss) is = registrar_kept q token ss is
registrar_kept q token (Ok asked ∷ ss) is =
    registrar_kept (after q (Ok asked)) token ss (caller-step q token Registrar (caller_of asked.token q) asked.request refl is)

-- ---- a renewal

-- an answer that tells a renewal is no refusal
renewal_ok : (o : Result (List ℕ) RenewFault) (name : List ℕ) → IsTold (told tell.Renewed of_renewal o) (tell.Renewed name) → o ≡ Ok name
renewal_ok (Ok told) name h = let same : told ≡ name = cc in ap Ok same
renewal_ok (Err renewals.NoSuchAgent) name h = absurd cc
renewal_ok (Err fault) name h = absurd cc

-- the registrar asked, and nobody else
record ByRegistrar (r : Register) (asked : Asked) (name token : List ℕ) : Type 0 where
  caller : caller_of asked.token r ≡ Some Registrar
  answer : (renew_step r name token).answer ≡ Ok name

renewed_by : (r : Register) (asked : Asked) (name token : List ℕ) (caller : Option Caller) → caller_of asked.token r ≡ caller → IsTold (step r caller (of.Registrar (office.Renew name token))).answer (tell.Renewed name) → ByRegistrar r asked name token
renewed_by r asked name token (Some Registrar) is h = record { caller = is; answer = renewal_ok (renew_step r name token).answer name h }
renewed_by r asked name token caller is h = absurd cc

by_registrar : (r : Register) (asked : Asked) (name token : List ℕ) → IsRenewed r asked name token → ByRegistrar r asked name token
by_registrar r asked name token h =
    let caller = caller_of asked.token r in
    let reply : h.said.0 ≡ tell.Renewed name = let e = h.said.2 in cc in
    let tells : IsTold (step r caller asked.request).answer (tell.Renewed name) = subst (IsTold (step r caller asked.request).answer) reply h.said.1 in
    renewed_by r asked name token caller refl (subst (λ request. IsTold (step r caller request).answer (tell.Renewed name)) h.request tells)

-- what it leaves is what the operation does
left_by_renewal : (r : Register) (asked : Asked) (name token : List ℕ) → asked.request ≡ of.Registrar (office.Renew name token) → caller_of asked.token r ≡ Some Registrar → after r (Ok asked) ≡ (renew_step r name token).register
left_by_renewal r asked name token request caller =
    ap (λ c. (step r c asked.request).register) caller ∙ ap (λ x. (step r (Some Registrar) x).register) request

-- a token that nobody had is the agent's
agent_with-new : (name token : List ℕ) (ms : List Member) → is_enrolled name ms ≡ true → agent_with token ms ≡ None → agent_with token (with_token name token ms) ≡ Some name
agent_with-new name token [] on none = absurd cc
agent_with-new name token (m ∷ ms) on none = grind (arith, same_refl token, same_is m.name name, agent_with-new name token ms)

given-new : (r : Register) (name token : List ℕ) (b : Bool) → is_same r.registrar token ≡ b → is_enrolled name r.members ≡ true → caller_of token r ≡ None → caller_of token (with_renewal name token r) ≡ Some (Agent name)
given-new r name token true e on none = absurd (let at = rw e at none in cc)
given-new r name token false e on none = rw e (ap (option_map Agent) (agent_with-new name token r.members on (no_agent (agent_with token r.members) (rw e at none))))

given : (r : Register) (name token : List ℕ) (b : Bool) (c : Option Caller) → is_enrolled name r.members ≡ b → caller_of token r ≡ c → (renew_step r name token).answer ≡ Ok name
    → caller_of token (renew_step r name token).register ≡ Some (Agent name)
given r name token false c e f h = absurd (let at = rw e at h in cc)
given r name token true None e f h = rw (e, f) (given-new r name token (is_same r.registrar token) refl e f)
given r name token true (Some Registrar) e f h = absurd (let at = rw (e, f) at h in cc)
given r name token true (Some (Agent owner)) e f h = by_owner (is_same owner name) refl
  where
    by_owner : (d : Bool) → is_same owner name ≡ d → caller_of token (renew_step r name token).register ≡ Some (Agent name)
    by_owner true g = rw (e, f, g) (f ∙ ap (λ n. Some (Agent n)) (same_is owner name g))
    by_owner false g = absurd (let at = rw (e, f, g) at h in cc)

-- an agent's own token again
own_again : (q : Register) (name token : List ℕ) → caller_of token q ≡ Some (Agent name) → renew_step q name token ≡ record { answer = Ok name; register = q }
own_again q name token has = rw (caller_is_enrolled q token name has, has, same_refl name) refl

pub renewed_again : (r : Register) (asked : Asked) (name token : List ℕ) (between : List Spelled) → IsRenewed r asked name token → list_any (renews name) between ≡ false
    → IsRenewedAgain (register_left (after r (Ok asked)) between) asked name token
renewed_again r asked name token between h none =
    let q : Register = register_left (after r (Ok asked)) between in
    let first = by_registrar r asked name token h in
    let has : caller_of token (after r (Ok asked)) ≡ Some (Agent name) =
    ap (caller_of token) (left_by_renewal r asked name token h.request first.caller) ∙ given r name token (is_enrolled name r.members) (caller_of token r) refl refl first.answer in
    let now : caller_of token q ≡ Some (Agent name) = kept_by (after r (Ok asked)) token name between has none in
    let registrar : caller_of asked.token q ≡ Some Registrar =
    registrar_kept (after r (Ok asked)) asked.token between (caller-step r asked.token Registrar (caller_of asked.token r) asked.request refl first.caller) in
    let answer : (step q (caller_of asked.token q) asked.request).answer ≡ exactly (tell.Renewed name) =
    ap (λ c. (step q c asked.request).answer) registrar ∙ ap (λ x. (step q (Some Registrar) x).answer) h.request
    ∙ ap (λ (o : Outcome (Result (List ℕ) RenewFault)). told tell.Renewed of_renewal o.answer) (own_again q name token now) in
    record {
      caller = now;
      said = λ said s. s.2 ∙ ap answered (subst (λ a. IsTold a s.0) answer s.1);
      left = left_by_renewal q asked name token h.request registrar ∙ ap (λ (o : Outcome (Result (List ℕ) RenewFault)). o.register) (own_again q name token now);
    }
