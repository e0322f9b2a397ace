-- How long is waited, from client to client, and the meaning of a server's floor, in time.
use Rattle.std.proofs.Common.{◌≡◌, ◌≤◌, ◌<◌, ◌+◌, ◌⊎◌, ℕ, List, [], ◌∷◌, ◌++◌, Option, Some, None, MatchOption, inl, inr, unwrap_or, append_assoc, append-nil, arith, drop, length, refl, sym, subst, ◌∙◌, ap, length-drop, All, ◌↔◌, ◌-◌, ◌*◌, ◌/◌, IsSome, IfSome, min, mul_comm, suc, zero}
use Rattle.std.proofs.lemmas.List.{drop-append-le, drop-drop}
use Rattle.std.proofs.lemmas.List.Elements.{All-append, All-cons, All-nil, All-weaker}
use Rattle.std.specs.Duration.{as_nanos, max_nanos}
use Rattle.std.specs.declared.time.Duration.{Duration}
use Rattle.bor_program.specs.declared.connections.limits.Limits.{Limits}
use Rattle.bor_program.specs.declared.connections.taking.Taking.{Taking}
use Rattle.bor_program.specs.declared.connections.server.Client.{Client}
use Rattle.bor_program.specs.declared.connections.server.Server.{Server}
use Rattle.std.proofs.lemmas.Bool.{cases_eq, cases_lt, false≢true}
use Rattle.bor_program.specs.declared.connections.phase.Phase.{Phase}
use Rattle.bor_program.specs.declared.connections.phase.Phase.TheVariants.{Reading, Writing, Draining}
use Rattle.bor_program.specs.Connections.Times.{IsTimeLeft, IsPatient, IsReplyLeft, left_of, IsSlowBehind}
use Rattle.bor_program.specs.Connections.Servers.{AreWaitedFor, IsAtOnce, IsNoLonger, IsWaitedFor, Waiting}
use Rattle.std.proofs.Math.Nat.{mul-add, mul-le-mul_left, mul-one, zero-div, zero-mul}
use Rattle.bor_program.specs.Connections.Limits.{IsBelowFloor}

same_wait : (old new : Option Duration) → new ≡ old → IsNoLonger old new
same_wait old new same = λ before is. (before, same ∙ is, omega arith)

shorter : (one two three : Option Duration) → IsNoLonger one two → IsNoLonger two three → IsNoLonger one three
shorter one two three h k = λ before is.
    let first = h before is in
    let then = k first.0 first.1 in
    (then.0, then.1, omega (arith, first.2, then.2))

waited_on : {S : Type 0} (limits : Limits) (now : Duration) (old new : Option Duration) (client : Client S) → IsNoLonger old new → IsWaitedFor limits now old client → IsWaitedFor limits now new client
waited_on limits now old new client less h =
    let then = less h.time h.is in
    record {
      left = h.left;
      lasts = h.lasts;
      time = then.0;
      is = then.1;
      within = omega (arith, then.2, h.within);
      ready = λ is. omega (arith, then.2, h.ready is);
    }

all_waited_on : {S : Type 0} (limits : Limits) (now : Duration) (old new : Option Duration) (clients : List (Client S)) → IsNoLonger old new → All (IsWaitedFor limits now old) clients → All (IsWaitedFor limits now new) clients
all_waited_on limits now old new clients less h =
    All-weaker (IsWaitedFor limits now old) (IsWaitedFor limits now new) (λ client. waited_on limits now old new client less) clients h

are_waited_on : {S : Type 0} (limits : Limits) (now old new : Option Duration) (one two : List (Client S)) → IsNoLonger old new → AreWaitedFor limits now old one → AreWaitedFor limits now new two → AreWaitedFor limits now new (one ++ two)
are_waited_on limits None old new one two less h k = rw (h, k) refl
are_waited_on limits (Some now) old new one two less h k =
    All-append (IsWaitedFor limits now new) one two (all_waited_on limits now old new one less h) k

-- a client is gone
pub waiting_none : {S : Type 0} (now : Option Duration) (others : List (Client S)) (old new : Server S) → new.limits ≡ old.limits → new.wait ≡ old.wait → new.queue.items ≡ others → Waiting now others old new
waiting_none {S = S} now others old new limits wait queue = record {
  limits = limits;
  wait = same_wait old.wait new.wait wait;
  patient = subst (IsPatient old.limits) (sym wait);
  clients = [];
  queue = queue ∙ sym (append-nil others);
  waited = none now;
}
  where
    none : (now : Option Duration) → AreWaitedFor {S = S} old.limits now new.wait []
    none None = refl
    none (Some at) = All-nil (IsWaitedFor old.limits at new.wait)

-- one more of these has had its turn
pub waiting_then : {S : Type 0} (now : Option Duration) (clients : List (Client S)) (k : ℕ) (begun old new : Server S) → k < length clients
    → Waiting now (drop k clients) begun old → Waiting now (drop 1 old.queue.items) old new → Waiting now (drop (k + 1) clients) begun new
waiting_then {S = S} now clients k begun old new lt h turn = record {
  limits = turn.limits ∙ h.limits;
  wait = shorter begun.wait old.wait new.wait h.wait turn.wait;
  patient = λ is. subst (λ l. IsPatient l old.wait → IsPatient l new.wait) h.limits turn.patient (h.patient is);
  clients = h.clients ++ turn.clients;
  queue =
      turn.queue ∙ ap (λ l. drop 1 l ++ turn.clients) h.queue ∙ ap (λ l. l ++ turn.clients) (front h.clients)
      ∙ append_assoc (drop (k + 1) clients) h.clients turn.clients;
  waited =
      are_waited_on begun.limits now old.wait new.wait h.clients turn.clients turn.wait h.waited
      (subst (λ limits. AreWaitedFor limits now new.wait turn.clients) h.limits turn.waited);
}
  where
    front : (rest : List (Client S)) → drop 1 (drop k clients ++ rest) ≡ drop (k + 1) clients ++ rest
    front rest = drop-append-le 1 (drop k clients) rest (omega (arith, length-drop k clients)) ∙ ap (λ l. l ++ rest) (drop-drop 1 k clients)

-- a wait that is none stays so
pub at_once : (old new : Option Duration) → IsNoLonger old new → IsAtOnce old → IsAtOnce new
at_once old new less h =
    let then = less h.0 h.1 in
    (then.0, then.1, omega (arith, then.2, h.2))

pub once_found : (found : Option Duration) (P : Type 0) → MatchOption found P (λ wait. (P → ⊥) × (as_nanos wait ≡ 0)) → (P → ⊥) → IsAtOnce found
once_found None P none some = absurd (some none)
once_found (Some wait) P found some = (wait, refl, found.1)

-- ---- the wait that one client leaves

pub least : (one wait result : Duration) → (as_nanos one ≤ as_nanos wait → result ≡ one) → (as_nanos wait < as_nanos one → result ≡ wait) → (as_nanos result ≤ as_nanos one) × (as_nanos result ≤ as_nanos wait)
least one wait result first other = elim (cases_lt (as_nanos wait) (as_nanos one)) [
  | inl lt ↦ let same = ap as_nanos (other lt) in (omega (arith, same, lt), omega (arith, same))
  | inr le ↦ let same = ap as_nanos (first le) in (omega (arith, same), omega (arith, same, le))
]

pub shorter_of : (old : Option Duration) (one wait result : Duration) → one ≡ unwrap_or old wait → (as_nanos one ≤ as_nanos wait → result ≡ one) → (as_nanos wait < as_nanos one → result ≡ wait)
    → IsNoLonger old (Some result) × (as_nanos result ≤ as_nanos wait)
shorter_of old one wait result is first other =
    let both = least one wait result first other in
    (λ before was. (result, refl, omega (arith, both.0, ap as_nanos (is ∙ ap (λ o. unwrap_or o wait) was))), both.1)

-- the time of its phase has begun
pub left_begun : {S : Type 0} (limits : Limits) (since begun : Option Duration) (phase : Phase S) (now left : Duration) → begun ≡ Some (unwrap_or since now) → IsTimeLeft limits since phase now left → IsTimeLeft limits begun phase now left
left_begun limits since begun (Reading r) now left is h = h ∙ sym (ap (λ o. left_of limits.request o now) is)
left_begun limits since begun (Writing w) now left is h = h
left_begun limits since begun (Draining d) now left is h = h ∙ sym (ap (λ o. left_of limits.rest o now) is)

-- a client is waited for no longer than the limits
left_within : {S : Type 0} (limits : Limits) (since : Option Duration) (phase : Phase S) (now left : Duration) → IsTimeLeft limits since phase now left → IsPatient limits (Some left)
left_within limits since (Reading r) now left h = inl (omega (arith, h))
left_within limits since (Writing w) now left h = inr (inl (reply_within w.taking h))
  where
    reply_within : (taking : Option Taking) → IsReplyLeft limits taking w.sent now left → as_nanos left ≤ as_nanos limits.reply
    reply_within None none = omega (arith, none)
    reply_within (Some taking) h = elim (cases_eq w.sent taking.taken) [
      | inl same ↦ (h.0 same).within
      | inr other ↦ omega (arith, h.1 other)
    ]
left_within limits since (Draining d) now left h = inr (inr (omega (arith, h)))

no_longer : (limits : Limits) (time left : Duration) → as_nanos time ≤ as_nanos left → IsPatient limits (Some left) → IsPatient limits (Some time)
no_longer limits time left le (inl is) = inl (omega (arith, le, is))
no_longer limits time left le (inr (inl is)) = inr (inl (omega (arith, le, is)))
no_longer limits time left le (inr (inr is)) = inr (inr (omega (arith, le, is)))

is_patient : {S : Type 0} (limits : Limits) (now : Duration) (wait : Option Duration) (client : Client S) → IsWaitedFor limits now wait client → IsPatient limits wait
is_patient limits now wait client h =
    subst (IsPatient limits) (sym h.is) (no_longer limits h.time h.left h.within (left_within limits client.timing.since client.phase now h.left h.lasts))

pub first_patient : (limits : Limits) (wait : Option Duration) (P : Type 0) → MatchOption wait P (λ time. (P → ⊥) × (as_nanos time ≡ 0)) → IsPatient limits wait
first_patient limits None P h = tt
first_patient limits (Some time) P h = inl (omega (arith, h.1))

pub waiting_one : {S : Type 0} (now : Duration) (client : Client S) (old new : Server S) → new.limits ≡ old.limits → IsNoLonger old.wait new.wait → IsWaitedFor old.limits now new.wait client
    → ((new.queue.items ≡ old.queue.items) ⊎ (new.queue.items ≡ old.queue.items ++ client ∷ [])) → Waiting (Some now) old.queue.items old new
waiting_one now client old new limits wait waited (inl gone) =
    record { limits = limits; wait = wait; patient = λ _. is_patient old.limits now new.wait client waited; clients = []; queue = gone ∙ sym (append-nil old.queue.items); waited = All-nil (IsWaitedFor old.limits now new.wait) }
waiting_one now client old new limits wait waited (inr there) = record {
  limits = limits;
  wait = wait;
  patient = λ _. is_patient old.limits now new.wait client waited;
  clients = client ∷ [];
  queue = there;
  waited = All-cons (IsWaitedFor old.limits now new.wait) client [] waited (All-nil (IsWaitedFor old.limits now new.wait));
}

abbrev nanos : ℕ → ℕ
nanos taken = taken * 1_000_000_000

-- how much of the floor fits into what was taken, behind the first time
abbrev spare_of : (floor behind taken most : ℕ) → ℕ
spare_of floor behind taken most = (taken - min (behind * floor) most) / floor

spare_fits : (floor behind taken most spare : ℕ) → 0 < floor → taken ≤ most → spare ≡ spare_of floor behind taken most → behind * floor ≤ taken → floor * (behind + spare) ≤ taken
spare_fits floor behind taken most spare some fits is within =
    omega (arith, ap (λ n. floor * n) is, mul-add floor behind spare, mul_comm floor behind)

spare_ends : (floor behind taken most spare : ℕ) → 0 < floor → taken ≤ most → spare ≡ spare_of floor behind taken most → taken < floor * (behind + spare + 1)
spare_ends floor behind taken most spare some fits is =
    omega (arith, ap (λ n. floor * n) is, mul-add floor (behind + spare) 1, mul-add floor behind spare, mul_comm floor behind, mul-one floor)

spare_none : (floor behind taken most spare : ℕ) → 0 < floor → taken ≤ most → spare ≡ spare_of floor behind taken most → taken < behind * floor → spare ≡ 0
spare_none floor behind taken most spare some fits is less =
    let none : taken - min (behind * floor) most ≡ 0 = omega arith in
    is ∙ ap (λ n. n / floor) none ∙ zero-div floor

some_behind : (floor behind taken : ℕ) → taken < behind * floor → 0 < behind
some_behind floor zero taken less = absurd (omega (arith, less, zero-mul floor))
some_behind floor (suc n) taken less = omega arith

pub floor_before : (floor first taken in_all most spare left more : ℕ) → 0 < floor → nanos taken ≤ most → spare ≡ spare_of floor (in_all - first) (nanos taken) most
    → left ≤ (first - in_all) + spare → more < left → IsBelowFloor floor first taken (in_all + more) → ⊥
floor_before floor first taken in_all most spare left more some fits is short lt below = elim (cases_lt (nanos taken) ((in_all - first) * floor)) [
  | inl less ↦ omega (arith, spare_none floor (in_all - first) (nanos taken) most spare some fits is less, some_behind floor (in_all - first) (nanos taken) less, short, lt)
  | inr within ↦
      let all = spare_fits floor (in_all - first) (nanos taken) most spare some fits is within in
      let near : in_all + more - first ≤ in_all - first + spare = omega (arith, short, lt) in
      omega (arith, all, mul-le-mul_left floor near, below)
]

pub floor_behind : (floor first taken in_all most spare left more : ℕ) → 0 < floor → nanos taken ≤ most → spare ≡ spare_of floor (in_all - first) (nanos taken) most
    → left ≡ min ((first - in_all) + spare) most → left < more → more ≤ most → IsBelowFloor floor first taken (in_all + more)
floor_behind floor first taken in_all most spare left more some fits is all lt within =
    let far : in_all - first + spare + 1 ≤ in_all + more - first = omega (arith, all, lt, within) in
    omega (arith, spare_ends floor (in_all - first) (nanos taken) most spare some fits is, mul-le-mul_left floor far)

pub no_floor : (floor first taken in_all : ℕ) → floor ≡ 0 → IsBelowFloor floor first taken in_all → ⊥
no_floor floor first taken in_all none below = omega (arith, below, ap (λ n. n * (in_all - first)) none, zero-mul (in_all - first))

-- the time by which a client is above the floor, where there is one
pub spare_is : (found : Option Duration) (spare most : Duration) (floor n : ℕ) → (IsSome found ↔ (0 < floor)) → IfSome found (λ d. as_nanos d ≡ n) → spare ≡ unwrap_or found most
    → (0 < floor → as_nanos spare ≡ n) × (floor ≡ 0 → as_nanos spare ≡ as_nanos most)
spare_is None spare most floor n both is same = (λ some. absurd (false≢true (both.1 some)), λ none. ap as_nanos same)
spare_is (Some d) spare most floor n both is same = (λ some. ap as_nanos same ∙ is, λ none. absurd (omega (arith, both.0 refl, none)))

-- ---- how long a reply may be waited for

below_on : (floor first taken less more : ℕ) → less ≤ more → IsBelowFloor floor first taken less → IsBelowFloor floor first taken more
below_on floor first taken less more le below =
    let near : less - first ≤ more - first = omega (arith, le) in
    omega (arith, below, mul-le-mul_left floor near)

pub slow_behind : (limits : Limits) (taking : Taking) (now left idle above : Duration) → as_nanos idle ≡ as_nanos limits.reply - (as_nanos now - as_nanos taking.idle_since)
    → ((more : ℕ) → more < as_nanos above → IsBelowFloor limits.floor (as_nanos limits.reply) taking.taken (as_nanos now - as_nanos taking.since + more) → ⊥)
    → ((more : ℕ) → as_nanos above < more → more ≤ max_nanos → IsBelowFloor limits.floor (as_nanos limits.reply) taking.taken (as_nanos now - as_nanos taking.since + more))
    → (as_nanos idle ≤ as_nanos above → left ≡ idle) → (as_nanos above < as_nanos idle → left ≡ above) → IsSlowBehind limits taking now left
slow_behind limits taking now left idle above is before behind first other = record {
  within = omega (arith, less.0, is);
  behind = λ since idle_since later past there. elim (cases_lt (as_nanos above) (as_nanos idle)) [
    | inl lt ↦
        let same = ap as_nanos (other lt) in
        let all : as_nanos now - as_nanos taking.since + (as_nanos later - as_nanos now) ≡ as_nanos later - as_nanos taking.since = omega (arith, since, past) in
        inr (subst (IsBelowFloor limits.floor (as_nanos limits.reply) taking.taken) all (behind (as_nanos later - as_nanos now) (omega (arith, same, past)) (omega (arith, there))))
    | inr le ↦ let same = ap as_nanos (first le) in inl (refl, omega (arith, same, is, idle_since, past))
  ];
  before = λ later from until slow. elim slow [
    | inl both ↦ idle_late (as_nanos limits.reply) (as_nanos taking.idle_since) (as_nanos now) (as_nanos later) (as_nanos left) (as_nanos idle) is less.0 from until both.1
    | inr below ↦
        before (as_nanos later - as_nanos now) (omega (arith, from, until, less.1))
        (below_on limits.floor (as_nanos limits.reply) taking.taken (as_nanos later - as_nanos taking.since) _ (omega (arith, from)) below)
  ];
}
  where
    less : (as_nanos left ≤ as_nanos idle) × (as_nanos left ≤ as_nanos above)
    less = least idle above left first other

    idle_late : (reply since now later left idle : ℕ) → idle ≡ reply - (now - since) → left ≤ idle → now ≤ later → later < now + left → reply ≤ later - since → ⊥
    idle_late reply since now later left idle is short from until late = omega arith
