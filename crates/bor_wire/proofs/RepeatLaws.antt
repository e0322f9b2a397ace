-- A lodging that was told stands under its key, with its number, its due day and its file, whatever is asked after it.
use Rattle.std.proofs.Common.{◌≡◌, ◌≢◌, ◌⊎◌, inl, inr, ℕ, ℤ, List, [], ◌∷◌, ◌++◌, Bool, true, false, ◌==◌, ◌&&◌, Option, Some, None, Result, Ok, Err, refl, sym, ap, subst, ◌∙◌, arith}
use Rattle.std.specs.Prelude.{if◌then◌else◌, int_le}
use Rattle.std.specs.Ordering.{int_eq}
use Rattle.std.proofs.lemmas.Bool.{and_parts, cond-false, false_from_ne_true}
use Rattle.std.proofs.lemmas.Bool.Decides.{Decides-int_eq}
use Rattle.bor_terms.specs.Texts.{is_same}
use Rattle.bor_terms.proofs.Texts.{same_is, same_refl, is_same-of}
use Rattle.bor_register.specs.declared.caller.Caller.{Caller}
use Rattle.bor_register.specs.declared.caller.Caller.TheVariants.{Registrar, Agent}
use Rattle.bor_register.specs.declared.filing.AcceptedFiling.{AcceptedFiling}
use Rattle.bor_register.specs.Register.{Register, caller_of, is_enrolled, filings_of, filing_keyed}
use Rattle.bor_register.specs.Live.{accepted}
use Rattle.bor_register.specs.Withdrawal.{has_successor, as_withdrawn, with_withdrawn}
use Rattle.bor_register.proofs.Callers.{caller_is_enrolled}
use Rattle.bor_register.proofs.Members.{filings_written}
use Rattle.bor_desk.specs.declared.operations.fault.LodgeFault.{LodgeFault}
use Rattle.bor_desk.specs.declared.operations.fault.LodgeFault.TheVariants as lodges
use Rattle.bor_desk.specs.declared.operations.lodging.Lodged.{Lodged}
use Rattle.bor_desk.specs.declared.refusal.Refusal.TheVariants.{KeyReused}
use Rattle.bor_desk.specs.declared.request.Request.{Request}
use Rattle.bor_desk.specs.declared.request.Request.TheVariants as of
use Rattle.bor_desk.specs.declared.request.AgentRequest.{AgentRequest}
use Rattle.bor_desk.specs.declared.request.AgentRequest.TheVariants as ask
use Rattle.bor_desk.specs.declared.reply.DeskReply.{DeskReply}
use Rattle.bor_desk.specs.declared.reply.DeskReply.TheVariants as tell
use Rattle.bor_desk.specs.Operations.Sight.{Sight, sight_of}
use Rattle.bor_desk.specs.Operations.Lodging.{told_of, told_added, addition, repeated, lodging_at, own_added, own_lodged_at}
use Rattle.bor_desk.specs.Operations.Withdrawing.{own_withdrawn_at}
use Rattle.bor_desk.specs.Refusals.{of_lodging}
use Rattle.bor_desk.specs.Laws.{is_agent}
use Rattle.bor_desk.specs.Outcomes.{IsTold}
use Rattle.bor_desk.specs.Runs.{Asked}
use Rattle.bor_desk.specs.Step.{Answer, exactly, told, own_after, agent_step, step}
use Rattle.bor_desk.proofs.Isolation.{own_filings}
use Rattle.bor_desk.proofs.OnOperations.Lodgings.{addition_is}
use Rattle.bor_desk.proofs.Unchanged.{left_by_agent}
use Rattle.bor_wire.specs.Spelling.Spell.{Spelled, Spells}
use Rattle.bor_wire.proofs.OnSpelling.Messages.{one_spelling}
use Rattle.bor_wire.specs.Rendering.Replies.{Said, answered, status_of, reply_body, bytes_of}
use Rattle.bor_wire.specs.Inputs.{IsSaid, IsReplyTo, after}
use Rattle.bor_wire.specs.Refused.{HasStatus}
use Rattle.bor_wire.specs.Runs.{register_left}
use Rattle.bor_wire.proofs.RefusalLaws.{line_first}
use Rattle.bor_wire.proofs.TokenLaws.{kept_by, renewed_again}
use Rattle.bor_wire.specs.Repeats.{AreOneAgents, IsLodged, IsRepliedAgain, IsToldAgain, IsReused, RepeatsActOnce, told_again}

-- ---- an agent's filings

-- the filing has this number, due day and file
record IsOf (number : ℕ) (due : ℤ) (file : List ℕ) (f : AcceptedFiling) : Type 0 where
  number_is : f.number ≡ number
  due_is : f.due ≡ due
  file_is : f.bytes ≡ file

-- under the key there is a filing with these
record Keyed (number : ℕ) (due : ℤ) (key file : List ℕ) (own : List AcceptedFiling) : Type 0 where
  filing : AcceptedFiling
  found : filing_keyed key own ≡ Some filing
  is : IsOf number due file filing

found-push : (key : List ℕ) (own : List AcceptedFiling) (f g : AcceptedFiling) → filing_keyed key own ≡ Some f → filing_keyed key (own ++ g ∷ []) ≡ Some f
found-push key [] f g h = absurd cc
found-push key (x ∷ xs) f g h = grind (arith, found-push key xs f g)

found-last : (own : List AcceptedFiling) (f : AcceptedFiling) → filing_keyed f.key own ≡ None → filing_keyed f.key (own ++ f ∷ []) ≡ Some f
found-last [] f h = rw (same_refl f.key) refl
found-last (x ∷ xs) f h = grind (arith, found-last xs f)

-- a withdrawal leaves a filing's key, number, due day and file
keyed-withdrawn : (n number : ℕ) (due : ℤ) (key file : List ℕ) (own : List AcceptedFiling) (f : AcceptedFiling) → filing_keyed key own ≡ Some f → IsOf number due file f → Keyed number due key file (with_withdrawn n own)
keyed-withdrawn n number due key file [] f h is = absurd cc
keyed-withdrawn n number due key file (x ∷ xs) f h is = by_tests (is_same x.key key) (x.number == n) refl refl (keyed-withdrawn n number due key file xs f)
  where
    by_tests : (b c : Bool) → is_same x.key key ≡ b → (x.number == n) ≡ c → (filing_keyed key xs ≡ Some f → IsOf number due file f → Keyed number due key file (with_withdrawn n xs)) → Keyed number due key file (if c then as_withdrawn x ∷ xs else x ∷ with_withdrawn n xs)
    by_tests true true same that rest =
        let it : x ≡ f = let at = rw same at h in cc in
        let its : IsOf number due file x = subst (IsOf number due file) (sym it) is in
        record { filing = as_withdrawn x; found = rw same refl; is = record { number_is = its.number_is; due_is = its.due_is; file_is = its.file_is } }
    by_tests true false same other rest =
        let it : x ≡ f = let at = rw same at h in cc in
        record { filing = x; found = rw same refl; is = subst (IsOf number due file) (sym it) is }
    by_tests false true same that rest =
        let behind : filing_keyed key xs ≡ Some f = rw same at h in
        record { filing = f; found = rw same behind; is = is }
    by_tests false false same other rest =
        let k = rest (rw same at h) is in
        record { filing = k.filing; found = rw same k.found; is = k.is }

-- ---- what an agent asks leaves its filing

keyed-added : (s : Sight) (number : ℕ) (due : ℤ) (key file : List ℕ) (added : Result AcceptedFiling LodgeFault) → Keyed number due key file s.own → Keyed number due key file (own_added s.own added)
keyed-added s number due key file (Ok g) k = record { filing = k.filing; found = found-push key s.own k.filing g k.found; is = k.is }
keyed-added s number due key file (Err fault) k = k

keyed-lodged : (s : Sight) (number : ℕ) (due : ℤ) (key file other : List ℕ) (date : ℤ) (bytes : List ℕ) (at : Option AcceptedFiling) → Keyed number due key file s.own → Keyed number due key file (own_lodged_at s other date bytes at)
keyed-lodged s number due key file other date bytes (Some f) k = k
keyed-lodged s number due key file other date bytes None k = keyed-added s number due key file (addition s other date bytes) k

keyed-withdrawal : (s : Sight) (number : ℕ) (due : ℤ) (key file : List ℕ) (at : Option AcceptedFiling) → Keyed number due key file s.own → Keyed number due key file (own_withdrawn_at s at)
keyed-withdrawal s number due key file None k = k
keyed-withdrawal s number due key file (Some f) k = by_tests f.withdrawn (int_le f.due s.day) (has_successor f.number s.own)
  where
    by_tests : (withdrawn published stood : Bool) → Keyed number due key file (if withdrawn then s.own else (if published then s.own else (if stood then s.own else with_withdrawn f.number s.own)))
    by_tests false false false = keyed-withdrawn f.number number due key file s.own k.filing k.found k.is
    by_tests withdrawn published stood = k

keyed-after : (s : Sight) (request : AgentRequest) (number : ℕ) (due : ℤ) (key file : List ℕ) → Keyed number due key file s.own → Keyed number due key file (own_after s request)
keyed-after s (ask.Lodge other date bytes) number due key file k = keyed-lodged s number due key file other date bytes (filing_keyed other s.own) k
keyed-after s (ask.Withdraw other) number due key file k = keyed-withdrawal s number due key file (filing_keyed other s.own) k
keyed-after s request number due key file k = k

-- ---- the filing stands

-- the agent's filing stands under the key
abbrev Stands : List ℕ → ℕ → ℤ → List ℕ → List ℕ → Register → Type 0
Stands name number due key file q = Keyed number due key file (filings_of name q.members)

stands-own : (name : List ℕ) (number : ℕ) (due : ℤ) (key file : List ℕ) (q : Register) (request : Request) → is_enrolled name q.members ≡ true → Stands name number due key file q
    → Stands name number due key file (step q (Some (Agent name)) request).register
stands-own name number due key file q (of.Registrar request) on h = h
stands-own name number due key file q (of.Agent request) on h =
    subst (Keyed number due key file) (sym (filings_written name (own_after (sight_of name q) request) q.members on)) (keyed-after (sight_of name q) request number due key file h)

stands-others : (name : List ℕ) (number : ℕ) (due : ℤ) (key file : List ℕ) (q : Register) (caller : Option Caller) (request : Request) → is_agent name caller ≡ false → Stands name number due key file q
    → Stands name number due key file (step q caller request).register
stands-others name number due key file q caller request other h = subst (Keyed number due key file) (sym (own_filings.by_others q caller request name other)) h

stands-agent : (name : List ℕ) (number : ℕ) (due : ℤ) (key file : List ℕ) (q : Register) (asking : List ℕ) (request : Request) (b : Bool) → is_same asking name ≡ b → is_enrolled asking q.members ≡ true
    → Stands name number due key file q → Stands name number due key file (step q (Some (Agent asking)) request).register
stands-agent name number due key file q asking request true same on h =
    let is : asking ≡ name = same_is asking name same in
    subst (λ n. Stands name number due key file (step q (Some (Agent n)) request).register) (sym is) (stands-own name number due key file q request (ap (λ n. is_enrolled n q.members) (sym is) ∙ on) h)
stands-agent name number due key file q asking request false other on h = stands-others name number due key file q (Some (Agent asking)) request other h

stands-step : (name : List ℕ) (number : ℕ) (due : ℤ) (key file : List ℕ) (q : Register) (token : List ℕ) (caller : Option Caller) (request : Request) → caller_of token q ≡ caller → Stands name number due key file q
    → Stands name number due key file (step q caller request).register
stands-step name number due key file q token None request is h = h
stands-step name number due key file q token (Some Registrar) request is h = stands-others name number due key file q (Some Registrar) request refl h
stands-step name number due key file q token (Some (Agent asking)) request is h =
    stands-agent name number due key file q asking request (is_same asking name) refl (caller_is_enrolled q token asking is) h

stands-left : (name : List ℕ) (number : ℕ) (due : ℤ) (key file : List ℕ) (q : Register) (ss : List Spelled) → Stands name number due key file q → Stands name number due key file (register_left q ss)
stands-left name number due key file q [] h = h
stands-left name number due key file q (Err why ∷ ss) h = stands-left name number due key file q ss h
stands-left name number due key file q (Ok asked ∷ ss) h =
    stands-left name number due key file (after q (Ok asked)) ss (stands-step name number due key file q asked.token (caller_of asked.token q) asked.request refl h)

-- ---- the lodging that is told

-- what an agent's lodging leaves, where it is told
own_told : (s : Sight) (key : List ℕ) (due : ℤ) (file : List ℕ) (told : Lodged) (at : Option AcceptedFiling) → filing_keyed key s.own ≡ at → lodging_at s key due file at ≡ Ok told
    → Keyed told.number due key file (own_lodged_at s key due file at) × (told.due ≡ due)
own_told s key due file told (Some f) found h = by_tests (int_eq f.due due) (is_same f.bytes file) refl refl h
  where
    by_tests : (b c : Bool) → int_eq f.due due ≡ b → is_same f.bytes file ≡ c → (if b && c then Ok (told_of false s.day f) else Err lodges.KeyReused) ≡ Ok told → Keyed told.number due key file s.own × (told.due ≡ due)
    by_tests true true day bytes h =
        let is : told_of false s.day f ≡ told = cc in
        let due_is : f.due ≡ due = (Decides-int_eq f.due due).0 day in
        (record { filing = f; found = found; is = record { number_is = ap (λ (l : Lodged). l.number) is; due_is = due_is; file_is = same_is f.bytes file bytes } }, sym (ap (λ (l : Lodged). l.due) is) ∙ due_is)
    by_tests b c day bytes h = absurd cc
own_told s key due file told None found h = by_addition (addition s key due file) refl h
  where
    by_addition : (added : Result AcceptedFiling LodgeFault) → addition s key due file ≡ added → told_added s.day added ≡ Ok told → Keyed told.number due key file (own_added s.own added) × (told.due ≡ due)
    by_addition (Err fault) e h = absurd cc
    by_addition (Ok f) e h =
        let is : told_of true s.day f ≡ told = cc in
        let new : f ≡ accepted s.own key due file f.statements = (addition_is s key due file f e).1 in
        let key_is : f.key ≡ key = ap (λ (g : AcceptedFiling). g.key) new in
        let due_is : f.due ≡ due = ap (λ (g : AcceptedFiling). g.due) new in (
          record {
            filing = f;
            found = subst (λ k. filing_keyed k (s.own ++ f ∷ []) ≡ Some f) key_is (found-last s.own f (ap (λ k. filing_keyed k s.own) key_is ∙ found));
            is = record { number_is = ap (λ (l : Lodged). l.number) is; due_is = due_is; file_is = ap (λ (g : AcceptedFiling). g.bytes) new };
          },
          sym (ap (λ (l : Lodged). l.due) is) ∙ due_is,
        )

-- an answer that tells a lodging is no refusal
told_ok : (o : Result Lodged LodgeFault) (lodged : Lodged) → IsTold (told tell.Lodged of_lodging o) (tell.Lodged lodged) → o ≡ Ok lodged
told_ok (Ok l) lodged h = let same : l ≡ lodged = cc in ap Ok same
told_ok (Err lodges.KeyReused) lodged h = absurd cc
told_ok (Err fault) lodged h = absurd cc

-- the filing of the agent that lodged, and the due day that it is told
record IsFiled (name : List ℕ) (due : ℤ) (key file : List ℕ) (told : Lodged) (q : Register) : Type 0 where
  stands : Stands name told.number due key file q
  due_is : told.due ≡ due

filed_by : (r : Register) (token name key : List ℕ) (due : ℤ) (file : List ℕ) (told : Lodged) → caller_of token r ≡ Some (Agent name) → IsTold (agent_step r name (ask.Lodge key due file)).answer (tell.Lodged told)
    → IsFiled name due key file told (agent_step r name (ask.Lodge key due file)).register
filed_by r token name key due file told is h =
    let s = sight_of name r in
    let own = own_told s key due file told (filing_keyed key s.own) refl (told_ok (lodging_at s key due file (filing_keyed key s.own)) told h) in
    record {
      stands = subst (Keyed told.number due key file) (sym (filings_written name (own_after s (ask.Lodge key due file)) r.members (caller_is_enrolled r token name is))) own.0;
      due_is = own.1;
    }

filed : (r : Register) (asked : Asked) (name key : List ℕ) (due : ℤ) (file : List ℕ) (told : Lodged) → caller_of asked.token r ≡ Some (Agent name) → IsLodged r asked key due file told
    → IsFiled name due key file told (after r (Ok asked))
filed r asked name key due file told is h =
    let reply : h.said.0 ≡ tell.Lodged told = let e = h.said.2 in cc in
    let tells : IsTold (step r (caller_of asked.token r) asked.request).answer (tell.Lodged told) = subst (IsTold (step r (caller_of asked.token r) asked.request).answer) reply h.said.1 in
    let by_name : IsTold (step r (Some (Agent name)) asked.request).answer (tell.Lodged told) = subst (λ c. IsTold (step r c asked.request).answer (tell.Lodged told)) is tells in
    subst (λ c. IsFiled name due key file told (step r c asked.request).register) (sym is)
    (subst (λ request. IsFiled name due key file told (step r (Some (Agent name)) request).register) (sym h.request)
    (filed_by r asked.token name key due file told is (subst (λ request. IsTold (step r (Some (Agent name)) request).answer (tell.Lodged told)) h.request by_name)))

-- ---- the key again

-- a lodging under a key that is there leaves the agent's filings
own_there : (q : Register) (name key : List ℕ) (date : ℤ) (other : List ℕ) (f : AcceptedFiling) → filing_keyed key (filings_of name q.members) ≡ Some f → (agent_step q name (ask.Lodge key date other)).register ≡ q
own_there q name key date other f found = left_by_agent q name (ask.Lodge key date other) (ap (own_lodged_at (sight_of name q) key date other) found)

left_there : (q : Register) (asked : Asked) (name key : List ℕ) (date : ℤ) (other : List ℕ) (f : AcceptedFiling) → caller_of asked.token q ≡ Some (Agent name) → asked.request ≡ of.Agent (ask.Lodge key date other)
    → filing_keyed key (filings_of name q.members) ≡ Some f → after q (Ok asked) ≡ q
left_there q asked name key date other f caller request found =
    ap (λ c. (step q c asked.request).register) caller ∙ ap (λ x. (step q (Some (Agent name)) x).register) request ∙ own_there q name key date other f found

-- what is said to it is what `repeated` gives
said_there : (q : Register) (asked : Asked) (name key : List ℕ) (date : ℤ) (other : List ℕ) (f : AcceptedFiling) (wanted : DeskReply) → caller_of asked.token q ≡ Some (Agent name) → asked.request ≡ of.Agent (ask.Lodge key date other)
    → filing_keyed key (filings_of name q.members) ≡ Some f → told tell.Lodged of_lodging (repeated q.day date other f) ≡ exactly wanted → (said : Said) → IsSaid q (Ok asked) said → said ≡ answered wanted
said_there q asked name key date other f wanted caller request found is said h =
    let by : Answer = (step q (caller_of asked.token q) asked.request).answer in
    let answer : by ≡ exactly wanted =
    ap (λ c. (step q c asked.request).answer) caller ∙ ap (λ x. (step q (Some (Agent name)) x).answer) request
    ∙ ap (λ at. told tell.Lodged of_lodging (lodging_at (sight_of name q) key date other at)) found ∙ is in
    let reply : h.0 ≡ wanted = subst (λ a. IsTold a h.0) answer h.1 in
    h.2 ∙ ap answered reply

again_is : (day due : ℤ) (file : List ℕ) (f : AcceptedFiling) → f.due ≡ due → f.bytes ≡ file → repeated day due file f ≡ Ok (told_of false day f)
again_is day due file f date bytes = rw ((Decides-int_eq f.due due).1 date, is_same-of f.bytes file bytes) refl

reused_is : (day due date : ℤ) (file other : List ℕ) (f : AcceptedFiling) → f.due ≡ due → f.bytes ≡ file → (date ≢ due) ⊎ (other ≢ file) → repeated day date other f ≡ Err lodges.KeyReused
reused_is day due date file other f due_is file_is differs =
    cond-false (int_eq f.due date && is_same f.bytes other) (Ok (told_of false day f)) (Err lodges.KeyReused) (false_from_ne_true (int_eq f.due date && is_same f.bytes other) (λ both.
    let two = and_parts (int_eq f.due date) (is_same f.bytes other) both in
    elim differs [ inl n ↦ n (sym ((Decides-int_eq f.due date).0 two.0) ∙ due_is) | inr n ↦ n (sym (same_is f.bytes other two.1) ∙ file_is) ]))

abbrev told_again_reply : Register → AcceptedFiling → Lodged → Said
told_again_reply q f lodged = answered (tell.Lodged (told_again q.day f lodged))

same_body : (q : Register) (f : AcceptedFiling) (lodged : Lodged) (said : Said) → said ≡ told_again_reply q f lodged → told_again q.day f lodged ≡ record lodged { fresh = false } → reply_body said ≡ reply_body (answered (tell.Lodged lodged))
same_body q f lodged said is same = ap reply_body is ∙ ap (λ l. reply_body (answered (tell.Lodged l))) same

told_again_is : (r : Register) (asked again : Asked) (key : List ℕ) (due : ℤ) (file : List ℕ) (lodged : Lodged) (between : List Spelled) → IsLodged r asked key due file lodged → again.request ≡ asked.request
    → AreOneAgents r asked.token (register_left (after r (Ok asked)) between) again.token → IsToldAgain (register_left (after r (Ok asked)) between) again key lodged
told_again_is r asked again key due file lodged between h same one =
    let q : Register = register_left (after r (Ok asked)) between in
    let name = one.agent in
    let request : again.request ≡ of.Agent (ask.Lodge key due file) = same ∙ h.request in
    let first = filed r asked name key due file lodged one.before h in
    let now : Stands name lodged.number due key file q = stands-left name lodged.number due key file (after r (Ok asked)) between first.stands in
    let f : AcceptedFiling = now.filing in
    let is : told_of false q.day f ≡ told_again q.day f lodged =
    ap (λ n. record { number = n; due = f.due; state = (told_of false q.day f).state; fresh = false }) now.is.number_is
    ∙ ap (λ d. record { number = lodged.number; due = d; state = (told_of false q.day f).state; fresh = false }) (now.is.due_is ∙ sym first.due_is) in
    let says : (said : Said) → IsSaid q (Ok again) said → said ≡ told_again_reply q f lodged = λ said s.
    said_there q again name key due file f (tell.Lodged (told_again q.day f lodged)) one.now request now.found
    (ap (told tell.Lodged of_lodging) (again_is q.day due file f now.is.due_is now.is.file_is) ∙ ap (λ l. exactly (tell.Lodged l)) is) said s in
    record {
      agent = name;
      caller = one.now;
      filing = f;
      keyed = now.found;
      said = says;
      status = λ said s. ap status_of (says said s);
      body = λ said s state. same_body q f lodged said (says said s) (ap (λ t. record { number = lodged.number; due = lodged.due; state = t; fresh = false }) state);
      left = left_there q again name key due file f one.now request now.found;
    }

-- the same bytes ask the same
replied_again : (r : Register) (input : List ℕ) (asked : Asked) (again : Spelled) (key : List ℕ) (due : ℤ) (file : List ℕ) (lodged : Lodged) (between : List Spelled) (bytes : List ℕ) →
    Spells input (Ok asked) → Spells input again → IsLodged r asked key due file lodged → AreOneAgents r asked.token (register_left (after r (Ok asked)) between) asked.token
    → IsReplyTo (register_left (after r (Ok asked)) between) again bytes →
    IsRepliedAgain (register_left (after r (Ok asked)) between) again bytes lodged
replied_again r input asked again key due file lodged between bytes spells too h one reply =
    let q : Register = register_left (after r (Ok asked)) between in
    let same : again ≡ Ok asked = one_spelling input again (Ok asked) too spells in
    let now = told_again_is r asked asked key due file lodged between h refl one in
    let said : IsSaid q (Ok asked) reply.0 = subst (λ s. IsSaid q s reply.0) same reply.1 in
    record {
      filing = now.filing;
      reply = reply.2 ∙ ap bytes_of (now.said reply.0 said);
      status = subst (λ bs. HasStatus bs 200) (sym reply.2) (subst (HasStatus (bytes_of reply.0)) (now.status reply.0 said) (line_first reply.0));
      left = ap (after q) same ∙ now.left;
    }

reused_again : (r : Register) (asked another : Asked) (key : List ℕ) (due date : ℤ) (file other : List ℕ) (lodged : Lodged) (between : List Spelled) → IsLodged r asked key due file lodged
    → AreOneAgents r asked.token (register_left (after r (Ok asked)) between) another.token → another.request ≡ of.Agent (ask.Lodge key date other) → (date ≢ due) ⊎ (other ≢ file)
    → IsReused (register_left (after r (Ok asked)) between) another
reused_again r asked another key due date file other lodged between h one request differs =
    let q : Register = register_left (after r (Ok asked)) between in
    let name = one.agent in
    let first = filed r asked name key due file lodged one.before h in
    let now : Stands name lodged.number due key file q = stands-left name lodged.number due key file (after r (Ok asked)) between first.stands in
    let f : AcceptedFiling = now.filing in
    record {
      said = said_there q another name key date other f (tell.Refused KeyReused) one.now request now.found
          (ap (told tell.Lodged of_lodging) (reused_is q.day due date file other f now.is.due_is now.is.file_is differs));
      left = left_there q another name key date other f one.now request now.found;
    }

pub repeats : RepeatsActOnce
repeats = record { told = told_again_is; replied = replied_again; reused = reused_again; kept = kept_by; renewed = renewed_again }
