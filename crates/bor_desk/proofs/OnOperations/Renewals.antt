-- The renewal of a token: it leaves a legal register legal, values in their forms, and all but the one token.
use Rattle.std.proofs.Common.{◌≡◌, ℕ, List, [], ◌∷◌, true, false, All, Option, Some, None, Ok, Err, Contains, inl, inr, is_some, refl, ◌∙◌, sym, ap, subst, arith}
use Rattle.std.proofs.lemmas.Bool.{cond_both, false_from_ne_true, or_parts}
use Rattle.std.proofs.lemmas.List.Elements.{All-cons, All-head, All-tail}
use Rattle.bor_records.proofs.OnLinks.Found.{cases, here, there}
use Rattle.bor_terms.specs.Texts.{is_same, is_token}
use Rattle.bor_terms.proofs.Texts.{is_same-of, same_is, same_refl, same_sym}
use Rattle.bor_register.specs.Additions.{with_renewal}
use Rattle.bor_register.specs.Forms.{IsFormed, IsFormedMember}
use Rattle.bor_register.specs.Register.{IsOrdered, Register, agent_with, caller_of, filings_of, is_agents_token, is_enrolled, is_taken, with_token}
use Rattle.bor_register.specs.declared.caller.Caller.{Caller}
use Rattle.bor_register.specs.declared.caller.Caller.TheVariants.{Agent}
use Rattle.bor_register.specs.declared.member.Member.{Member}
use Rattle.bor_register.proofs.Callers.{taken-caller}
use Rattle.bor_register.proofs.Members.{filings-with_token}
use Rattle.bor_register.proofs.Names.{ordered-with_token}
use Rattle.bor_desk.specs.declared.operations.fault.RenewFault.{RenewFault}
use Rattle.bor_desk.specs.Operations.Laws.{RenewsToken, filings_by_name}
use Rattle.bor_desk.specs.Operations.Legality.{AllLegal, AreTokensDistinct, IsLegal}
use Rattle.bor_desk.specs.Operations.Registrar.{renew_step}
use Rattle.bor_desk.specs.Standing.{TokenIsRenewed}
use Rattle.bor_desk.proofs.OnOperations.Alone.{above-not_enrolled}
use Rattle.bor_desk.proofs.OnOperations.Changes.{by_renewal}

-- ---- a legal register

token-with_token : (other name token : List ℕ) (ms : List Member) → is_agents_token other ms ≡ false → is_same token other ≡ false → is_agents_token other (with_token name token ms) ≡ false
token-with_token other name token [] h free = refl
token-with_token other name token (m ∷ ms) h free = grind (arith, token-with_token other name token ms)

distinct-with_token : (name token : List ℕ) (ms : List Member) → AreTokensDistinct ms → is_agents_token token ms ≡ false → AreTokensDistinct (with_token name token ms)
distinct-with_token name token [] h free = tt
distinct-with_token name token (m ∷ ms) h free =
    grind (arith, token-with_token m.token name token ms h.0, same_sym token m.token, distinct-with_token name token ms h.1)

all-with_token : (name token : List ℕ) (ms : List Member) → AllLegal ms → AllLegal (with_token name token ms)
all-with_token name token [] h = tt
all-with_token name token (m ∷ ms) h = cond_both (is_same m.name name) _ _ AllLegal (λ own. h) (λ other. (h.0, all-with_token name token ms h.1))

pub renewed-legal : (r : Register) (name token : List ℕ) → IsLegal r → is_taken token r ≡ false → IsLegal (with_renewal name token r)
renewed-legal r name token legal free =
    let both = or_parts (is_same r.registrar token) (is_agents_token token r.members) free in
    record {
      names = ordered-with_token name token r.members legal.names;
      tokens = distinct-with_token name token r.members legal.tokens both.1;
      registrar = token-with_token r.registrar name token r.members legal.registrar (same_sym token r.registrar ∙ both.0);
      own = all-with_token name token r.members legal.own;
    }

pub renewal-stays_legal : (r : Register) (name token : List ℕ) → IsLegal r → IsLegal (renew_step r name token).register
renewal-stays_legal r name token legal = by_renewal r name token (λ o. IsLegal o.register) (λ fault. legal) (λ own. legal)
    (λ on nobody. renewed-legal r name token legal (taken-caller token r ∙ ap (λ (o : Option Caller). is_some o) nobody))

-- ---- forms

formed-with_token : (name token : List ℕ) (ms : List Member) → is_token token ≡ true → All IsFormedMember ms → All IsFormedMember (with_token name token ms)
formed-with_token name token [] is h = h
formed-with_token name token (m ∷ ms) is h =
    let first = All-head IsFormedMember m ms h in
    let rest = All-tail IsFormedMember m ms h in
    cond_both (is_same m.name name) _ _ (All IsFormedMember)
    (λ own. All-cons IsFormedMember (record m { token = token }) ms (record { name = first.name; token = is; filings = first.filings }) rest)
    (λ other. All-cons IsFormedMember m (with_token name token ms) first (formed-with_token name token ms is rest))

pub formed-by_renewal : (r : Register) (name token : List ℕ) → IsFormed r → is_token token ≡ true → IsFormed (renew_step r name token).register
formed-by_renewal r name token h is = by_renewal r name token (λ o. IsFormed o.register) (λ fault. h) (λ own. h)
    (λ on nobody. record { day = h.day; registrar = h.registrar; members = formed-with_token name token r.members is h.members })

-- ---- all but the token stays

names-with_token : (name token : List ℕ) (ms : List Member) → filings_by_name (with_token name token ms) ≡ filings_by_name ms
names-with_token name token [] = refl
names-with_token name token (m ∷ ms) = grind (arith, names-with_token name token ms)

kept-with_token : (name token : List ℕ) (m : Member) (ms : List Member) → is_same m.name name ≡ false → Contains ms m → Contains (with_token name token ms) m
kept-with_token name token m [] other h = h
kept-with_token name token m (x ∷ xs) other h = elim (cases x xs m h) [
  | inl e ↦ subst (λ (y : Member). Contains (with_token name token (x ∷ xs)) y) e (rw (ap (λ (y : Member). is_same y.name name) e ∙ other) (here x (with_token name token xs)))
  | inr k ↦ cond_both (is_same x.name name) _ _ (λ ms. Contains ms m) (λ own. there (record x { token = token }) xs m k)
      (λ apart. there x (with_token name token xs) m (kept-with_token name token m xs other k))
]

pub renewal-renews_token : (r : Register) (name token : List ℕ) → RenewsToken name r (renew_step r name token).register
renewal-renews_token r name token =
    let same : RenewsToken name r r = record { day = refl; registrar = refl; filings = refl; others = λ m other on. on } in
    by_renewal r name token (λ o. RenewsToken name r o.register) (λ fault. same) (λ own. same) (λ on nobody. record {
      day = refl;
      registrar = refl;
      filings = names-with_token name token r.members;
      others = λ m other on. kept-with_token name token m r.members other on;
    })

pub renewal-filings : (r : Register) (name token asked : List ℕ) → filings_of asked (renew_step r name token).register.members ≡ filings_of asked r.members
renewal-filings r name token asked =
    by_renewal r name token (λ o. filings_of asked o.register.members ≡ filings_of asked r.members) (λ fault. refl) (λ own. refl) (λ on nobody. filings-with_token asked name token r.members)

-- ---- a refusal

pub refused_renewal : (r : Register) (name token : List ℕ) (fault : RenewFault) → (renew_step r name token).answer ≡ Err fault → (renew_step r name token).register ≡ r
refused_renewal r name token fault = by_renewal r name token (λ o. o.answer ≡ Err fault → o.register ≡ r) (λ f h. refl) (λ own h. refl) (λ on nobody h. absurd cc)

-- ---- who has which token after it

agent_with_token : (name token : List ℕ) (ms : List Member) → is_enrolled name ms ≡ true → agent_with token ms ≡ None → agent_with token (with_token name token ms) ≡ Some name
agent_with_token name token [] on free = absurd cc
agent_with_token name token (m ∷ ms) on free = grind (arith, same_refl token, same_is m.name name, agent_with_token name token ms)

-- nobody below the one that has the token has it
none_with : (token : List ℕ) (ms : List Member) → is_agents_token token ms ≡ false → agent_with token ms ≡ None
none_with token [] h = refl
none_with token (m ∷ ms) h = grind (arith, none_with token ms)

named_in : (token name : List ℕ) (ms : List Member) → agent_with token ms ≡ Some name → is_enrolled name ms ≡ true
named_in token name [] h = absurd cc
named_in token name (m ∷ ms) h = grind (arith, same_refl name, named_in token name ms)

-- the agent's old token is nobody's
closed-with_token : (name token old : List ℕ) (ms : List Member) → IsOrdered ms → AreTokensDistinct ms → is_same token old ≡ false → agent_with old ms ≡ Some name → agent_with old (with_token name token ms) ≡ None
closed-with_token name token old [] ordered distinct other had = absurd cc
closed-with_token name token old (m ∷ ms) ordered distinct other had =
    let later = closed-with_token name token old ms ordered.1 distinct.1 other in
    grind (arith, later, none_with old ms, named_in old name ms, above-not_enrolled m.name ms ordered.0, same_is m.token old, same_is m.name name, is_same-of m.name name)

caller_none : (token : List ℕ) (r : Register) → caller_of token r ≡ None → (is_same r.registrar token ≡ false) × (agent_with token r.members ≡ None)
caller_none token r h = grind arith

caller_agent : (token name : List ℕ) (r : Register) → caller_of token r ≡ Some (Agent name) → (is_same r.registrar token ≡ false) × (agent_with token r.members ≡ Some name)
caller_agent token name r h = grind arith

-- an agent has one token
one_token : (name t u : List ℕ) (ms : List Member) → IsOrdered ms → agent_with t ms ≡ Some name → agent_with u ms ≡ Some name → t ≡ u
one_token name t u [] ordered h k = absurd cc
one_token name t u (m ∷ ms) ordered h k =
    grind (arith, one_token name t u ms ordered.1, named_in t name ms, named_in u name ms, above-not_enrolled m.name ms ordered.0, same_is m.token t, same_is m.token u)

pub token_is_renewed : TokenIsRenewed
token_is_renewed = record {
  opens = λ r name token legal. by_renewal r name token (λ o. o.answer ≡ Ok name → caller_of token o.register ≡ Some (Agent name)) (λ fault done. absurd cc) (λ own done. own)
      (λ on free done. let none = caller_none token r free in rw (none.0, agent_with_token name token r.members on none.1) refl);
  closes = λ r name token old legal other done had. by_renewal r name token (λ o. o.answer ≡ Ok name → caller_of old o.register ≡ None) (λ fault told. absurd cc)
      (λ own told. absurd (other (one_token name old token r.members legal.names (caller_agent old name r had).1 (caller_agent token name r own).1)))
      (λ on free told.
      let was = caller_agent old name r had in
      let differs = false_from_ne_true (is_same token old) (λ e. other (sym (same_is token old e))) in
      rw (was.0, closed-with_token name token old r.members legal.names legal.tokens differs was.1) refl) done;
}
