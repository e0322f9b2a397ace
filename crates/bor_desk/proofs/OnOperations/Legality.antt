-- Each operation leaves a legal register legal; an agent's touches its own filings alone.
use Rattle.std.proofs.Common.{append_assoc, length-append, map, Contains, ◌≡◌, ℕ, ℤ, ◌+◌, ◌<◌, List, [], ◌∷◌, ◌++◌, length, None, Ok, refl, ◌∙◌, sym, subst, arith, false}
use Rattle.bor_terms.specs.Texts.{is_same, is_below}
use Rattle.std.proofs.lemmas.List.{append-nil}
use Rattle.std.proofs.lemmas.Bool.{cond_both, or_parts}
use Rattle.std.proofs.lemmas.Grind.{common_steps}
use Rattle.bor_terms.proofs.Texts.{same_sym}
use Rattle.bor_records.specs.Admission.{Live}
use Rattle.bor_records.specs.Settling.{as_live}
use Rattle.bor_records.proofs.OnLinks.Found.{cases, here, none, there}
use Rattle.bods_read.specs.declared.statement.Statement.{Statement}
use Rattle.bods_read.specs.File.{reading}
use Rattle.bor_register.specs.declared.member.Member.{Member}
use Rattle.bor_register.specs.declared.filing.AcceptedFiling.{AcceptedFiling}
use Rattle.bor_register.specs.Register.{Register, is_enrolled, filings_of, filing_keyed, new_member, with_member, with_filings, is_agents_token, is_taken, empty_register}
use Rattle.bor_register.specs.Live.{live_of, accepted}
use Rattle.bor_register.proofs.Members.{other_filings}
use Rattle.bor_register.proofs.Names.{ordered-with_filings, ordered-with_member}
use Rattle.bor_register.specs.Limits.{filings_limit}
use Rattle.bor_desk.specs.Operations.Sight.{sight_of}
use Rattle.bor_desk.specs.Operations.Lodging.{settled_reading, own_lodged, lodge_step}
use Rattle.bor_desk.specs.Operations.Withdrawing.{own_withdrawn, withdraw_step}
use Rattle.bor_desk.specs.Operations.Registrar.{advance_step, enrol_step}
use Rattle.bor_desk.specs.Operations.Legality.{IsNumberedFrom, IsKeyedOnce, IsReadFromFile, AreRead, AreLegal, AllLegal, AreTokensDistinct, IsLegal}
use Rattle.bor_desk.specs.Operations.Laws.{agents_of, LeavesOthers, KeepsAgents, PublishedPrefix}
use Rattle.bor_desk.proofs.OnOperations.Changes.{by_advance, by_enrolment, by_lodging, by_withdrawal}
use Rattle.bor_desk.proofs.OnOperations.LeftOut.{front_by, published_read, withdrawn-legal}

-- ---- another agent's filings

agents-with_filings : (name : List ℕ) (fs : List AcceptedFiling) (ms : List Member) → agents_of (with_filings name fs ms) ≡ agents_of ms
agents-with_filings name fs [] = refl
agents-with_filings name fs (m ∷ ms) = grind (arith, agents-with_filings name fs ms)

pub leaves-with_filings : (r : Register) (name : List ℕ) (fs : List AcceptedFiling) → LeavesOthers name r (record r { members = with_filings name fs r.members })
leaves-with_filings r name fs = record {
  day = refl;
  registrar = refl;
  agents = agents-with_filings name fs r.members;
  filings = λ other h. other_filings name other fs r.members h;
}

pub lodging-leaves_others : (r : Register) (name key : List ℕ) (due : ℤ) (bytes : List ℕ) → LeavesOthers name r (lodge_step r name key due bytes).register
lodging-leaves_others r name key due bytes = leaves-with_filings r name (own_lodged (sight_of name r) key due bytes)

pub withdrawal-leaves_others : (r : Register) (name key : List ℕ) → LeavesOthers name r (withdraw_step r name key).register
withdrawal-leaves_others r name key = leaves-with_filings r name (own_withdrawn (sight_of name r) key)

-- ---- the agents that were there

kept-with_member : (new m : Member) (ms : List Member) → Contains ms m → Contains (with_member new ms) m
kept-with_member new m [] h = absurd (none m h)
kept-with_member new m (x ∷ xs) h = cond_both (is_below x.name new.name) (x ∷ with_member new xs) (new ∷ x ∷ xs) (λ ms. Contains ms m)
    (λ below. grind (arith, cases x xs m h, here x (with_member new xs), there x (with_member new xs) m, kept-with_member new m xs)) (λ above. there new (x ∷ xs) m h)

keeps_all : (r : Register) → KeepsAgents r r
keeps_all r = record { registrar = refl; agents = λ m h. h }

pub advance-keeps_agents : (r : Register) (day : ℤ) → KeepsAgents r (advance_step r day).register
advance-keeps_agents r day = by_advance r day (λ o. KeepsAgents r o.register) (keeps_all r) (λ later. record { registrar = refl; agents = λ m on. on })

pub enrolment-keeps_agents : (r : Register) (name token : List ℕ) → KeepsAgents r (enrol_step r name token).register
enrolment-keeps_agents r name token = by_enrolment r name token (λ o. KeepsAgents r o.register) (λ fault. keeps_all r)
    (λ fresh free. record { registrar = refl; agents = λ m on. kept-with_member (new_member name token) m r.members on })

-- ---- names and tokens

token-with_filings : (token name : List ℕ) (fs : List AcceptedFiling) (ms : List Member) → is_agents_token token (with_filings name fs ms) ≡ is_agents_token token ms
token-with_filings token name fs [] = refl
token-with_filings token name fs (m ∷ ms) = grind (arith, token-with_filings token name fs ms)

distinct-with_filings : (name : List ℕ) (fs : List AcceptedFiling) (ms : List Member) → AreTokensDistinct ms → AreTokensDistinct (with_filings name fs ms)
distinct-with_filings name fs [] h = tt
distinct-with_filings name fs (m ∷ ms) h =
    cond_both (is_same m.name name) _ _ AreTokensDistinct (λ own. h) (λ other. (token-with_filings m.token name fs ms ∙ h.0, distinct-with_filings name fs ms h.1))

-- ---- filings

all-with_filings : (name : List ℕ) (fs : List AcceptedFiling) (ms : List Member) → AreLegal fs → AllLegal ms → AllLegal (with_filings name fs ms)
all-with_filings name fs [] own h = tt
all-with_filings name fs (m ∷ ms) own h = cond_both (is_same m.name name) _ _ AllLegal (λ same. (own, h.1)) (λ other. (h.0, all-with_filings name fs ms own h.1))

-- one more filing, under a new key
numbered-push : (n : ℕ) (fs : List AcceptedFiling) (f : AcceptedFiling) → IsNumberedFrom n fs → f.number ≡ n + length fs → IsNumberedFrom n (fs ++ f ∷ [])
numbered-push n [] f h e = (grind arith, tt)
numbered-push n (g ∷ fs) f h e = (h.0, numbered-push (n + 1) fs f h.1 (grind (arith, common_steps)))

keyed-none-push : (key : List ℕ) (fs : List AcceptedFiling) (f : AcceptedFiling) → filing_keyed key fs ≡ None → is_same f.key key ≡ false → filing_keyed key (fs ++ f ∷ []) ≡ None
keyed-none-push key [] f h e = rw e refl
keyed-none-push key (g ∷ fs) f h e = grind (arith, keyed-none-push key fs f)

other_key : (g f : AcceptedFiling) (fs : List AcceptedFiling) → filing_keyed f.key (g ∷ fs) ≡ None → (is_same g.key f.key ≡ false) × (filing_keyed f.key fs ≡ None)
other_key g f fs h = grind arith

keyed-push : (fs : List AcceptedFiling) (f : AcceptedFiling) → IsKeyedOnce fs → filing_keyed f.key fs ≡ None → IsKeyedOnce (fs ++ f ∷ [])
keyed-push [] f h e = (refl, tt)
keyed-push (g ∷ fs) f h e = let other = other_key g f fs e in (keyed-none-push g.key fs f h.0 (same_sym f.key g.key ∙ other.0), keyed-push fs f h.1 other.1)

read-push : (live : List Live) (fs : List AcceptedFiling) (f : AcceptedFiling) → AreRead live fs → IsReadFromFile f.withdrawn (live ++ live_of fs) f → AreRead live (fs ++ f ∷ [])
read-push live [] f h e = (subst (λ ls. IsReadFromFile f.withdrawn ls f) (append-nil live) e, tt)
read-push live (g ∷ fs) f h e =
    (h.0, read-push (live ++ map (as_live g.due) g.statements) fs f h.1 (subst (λ ls. IsReadFromFile f.withdrawn ls f) (sym (append_assoc live (map (as_live g.due) g.statements) (live_of fs))) e))

-- ---- a register with an agent's filings changed

pub none_legal : AreLegal []
none_legal = record { numbered = tt; few = omega arith; keyed = tt; read = tt }

pub own_legal : (name : List ℕ) (ms : List Member) → AllLegal ms → AreLegal (filings_of name ms)
own_legal name [] h = none_legal
own_legal name (m ∷ ms) h = cond_both (is_same m.name name) _ _ AreLegal (λ own. h.0) (λ other. own_legal name ms h.1)

legal-with_filings : (r : Register) (name : List ℕ) (fs : List AcceptedFiling) → IsLegal r → AreLegal fs → IsLegal (record r { members = with_filings name fs r.members })
legal-with_filings r name fs legal next = record {
  names = ordered-with_filings name fs r.members legal.names;
  tokens = distinct-with_filings name fs r.members legal.tokens;
  registrar = token-with_filings r.registrar name fs r.members ∙ legal.registrar;
  own = all-with_filings name fs r.members next legal.own;
}

-- ---- a lodging

accepted-legal : (own : List AcceptedFiling) (key : List ℕ) (due : ℤ) (bytes : List ℕ) (ss : List Statement) → AreLegal own → length own < filings_limit → filing_keyed key own ≡ None →
    settled_reading (live_of own) due (reading bytes) ≡ Ok ss → AreLegal (own ++ accepted own key due bytes ss ∷ [])
accepted-legal own key due bytes ss legal room fresh h =
    let f = accepted own key due bytes ss in
    record {
      numbered = numbered-push 1 own f legal.numbered (omega arith);
      few = omega (arith, length-append own (f ∷ []));
      keyed = keyed-push own f legal.keyed fresh;
      read = read-push [] own f legal.read h;
    }

pub lodging-stays_legal : (r : Register) (name key : List ℕ) (due : ℤ) (bytes : List ℕ) → IsLegal r → IsLegal (lodge_step r name key due bytes).register
lodging-stays_legal r name key due bytes legal =
    let s = sight_of name r in
    let own = own_legal name r.members legal.own in
    legal-with_filings r name (own_lodged s key due bytes) legal (by_lodging s key due bytes AreLegal own (λ ss fresh room read. accepted-legal s.own key due bytes ss own room fresh read))

-- ---- a withdrawal

pub withdrawal-stays_legal : (r : Register) (name key : List ℕ) → IsLegal r → IsLegal (withdraw_step r name key).register
withdrawal-stays_legal r name key legal =
    let s = sight_of name r in
    let own = own_legal name r.members legal.own in
    legal-with_filings r name (own_withdrawn s key) legal (by_withdrawal s key AreLegal own (λ f found live draft alone. withdrawn-legal f.number s.own own alone))

-- ---- the registrar

pub advance-stays_legal : (r : Register) (day : ℤ) → IsLegal r → IsLegal (advance_step r day).register
advance-stays_legal r day legal =
    by_advance r day (λ o. IsLegal o.register) legal (λ later. record { names = legal.names; tokens = legal.tokens; registrar = legal.registrar; own = legal.own })

token-with_member : (token : List ℕ) (new : Member) (ms : List Member) → is_agents_token token ms ≡ false → is_same new.token token ≡ false → is_agents_token token (with_member new ms) ≡ false
token-with_member token new [] h other = rw other refl
token-with_member token new (m ∷ ms) h other = grind (arith, token-with_member token new ms)

distinct-with_member : (new : Member) (ms : List Member) → AreTokensDistinct ms → is_agents_token new.token ms ≡ false → AreTokensDistinct (with_member new ms)
distinct-with_member new [] h free = (refl, tt)
distinct-with_member new (m ∷ ms) h free =
    grind (arith, token-with_member m.token new ms h.0, same_sym new.token m.token, distinct-with_member new ms h.1)

all-with_member : (new : Member) (ms : List Member) → AreLegal new.filings → AllLegal ms → AllLegal (with_member new ms)
all-with_member new [] own h = (own, tt)
all-with_member new (m ∷ ms) own h = cond_both (is_below m.name new.name) _ _ AllLegal (λ below. (h.0, all-with_member new ms own h.1)) (λ above. (own, h))

enrolled-legal : (r : Register) (name token : List ℕ) → IsLegal r → is_enrolled name r.members ≡ false → is_taken token r ≡ false → IsLegal (record r { members = with_member (new_member name token) r.members })
enrolled-legal r name token legal fresh free =
    let both = or_parts (is_same r.registrar token) (is_agents_token token r.members) free in
    record {
      names = ordered-with_member (new_member name token) r.members fresh legal.names;
      tokens = distinct-with_member (new_member name token) r.members legal.tokens both.1;
      registrar = token-with_member r.registrar (new_member name token) r.members legal.registrar (same_sym token r.registrar ∙ both.0);
      own = all-with_member (new_member name token) r.members none_legal legal.own;
    }

pub enrolment-stays_legal : (r : Register) (name token : List ℕ) → IsLegal r → IsLegal (enrol_step r name token).register
enrolment-stays_legal r name token legal = by_enrolment r name token (λ o. IsLegal o.register) (λ fault. legal) (enrolled-legal r name token legal)

-- ---- a new register

pub empty-legal : (registrar : List ℕ) (day : ℤ) → IsLegal (empty_register registrar day)
empty-legal registrar day = record { names = tt; tokens = tt; registrar = refl; own = tt }

-- ---- what is published

pub published_is_front : PublishedPrefix
published_is_front = record {
  of_each_record = λ r name declaration rec legal. front_by r.day (filings_of name r.members) declaration rec (own_legal name r.members legal.own).read;
  by_themselves = λ r name legal. published_read r.day (filings_of name r.members) (own_legal name r.members legal.own).read;
}
