-- A server of many connections: one answers, or some end.
use Rattle.bor_register.specs.declared.fault.StoreFault.{StoreFault}
use Rattle.std.proofs.Common.{◌≡◌, ◌+◌, ℕ, List, [], ◌∷◌, ◌++◌, length, Bool, true, false, inl, inr, refl, sym, ap, subst, ◌∙◌, arith, append_assoc, length-append, cond, if◌then◌else◌, ◌||◌, IsPermutation, ◌≤◌, ◌<◌, get_or, replicate, append-nil, suc, zero, remove}
use Rattle.std.specs.List.{All, list_any}
use Rattle.std.proofs.lemmas.List.{map-append, length-replicate}
use Rattle.std.proofs.lemmas.List.Folds.{list_any-append}
use Rattle.std.proofs.lemmas.List.Elements.{All-append, All-nil, All-push, All-weaker, All-cons, All-replicate}
use Rattle.std.proofs.lemmas.List.Sums.{sum_by-append, sum_by-cons}
use Rattle.std.proofs.lemmas.List.Sorted.{IsPermutation-append_left, IsPermutation-cons, IsPermutation-refl, IsPermutation-to_front, IsPermutation-trans, IsPermutation-append_comm, IsPermutation-append_right}
use Rattle.bor_records.specs.Promises.{Meaning, Promised}
use Rattle.bor_register.specs.Register.{Register}
use Rattle.bor_desk.specs.Operations.Legality.{IsLegal}
use Rattle.bor_wire.specs.Answering.{Responds}
use Rattle.bor_wire.specs.Sequences.{AreExchanged, Exchanged, IsNext, IsRun, keep_left}
use Rattle.bor_wire.specs.Turns.{AnswersClean, IsTurn}
use Rattle.bor_wire.proofs.SequenceLaws.{a_run}
use Rattle.bor_wire.proofs.TurnLaws.{exchanged_more, left_more, next, turn}
use Rattle.bor_program.specs.declared.log.Note.{Note}
use Rattle.bor_program.specs.Logging.{IsNoteOf, MayNote}
use Rattle.bor_program.specs.Connections.Serving.{GivenReply, Answered, AreNotes, Ended, IsServed, IsServedAs, IsServing, Tally, absent_in, answers_in, exchange_of, exchanges_of, has_failed, is_absent, told_in, told_on, Absent}
use Rattle.std.proofs.lemmas.Bool.{cases_lt}
use Rattle.bor_program.specs.declared.connections.server.Client.{Client}
use Rattle.bor_program.specs.declared.connections.server.Server.{Server}
use Rattle.bor_program.specs.Connections.Streams.{EndedOn, Wire}
use Rattle.bor_program.specs.Connections.Phases.{EndsAs, IsHeld, telling}
use Rattle.bor_program.specs.Connections.Servers.{AreHeld, Becomes, GoesOnAs, Lets, idle_times, pending_in, tally_in, telling_in, telling_to}
use Rattle.std.specs.Duration.{as_nanos}

-- ---- lists

pub told_in-append : (xs ys : List Ended) → told_in (xs ++ ys) ≡ told_in xs ++ told_in ys
told_in-append [] ys = refl
told_in-append (e ∷ xs) ys = ap (λ l. told_on e ++ l) (told_in-append xs ys) ∙ sym (append_assoc (told_on e) (told_in xs) (told_in ys))

pub absent_in-append : (xs ys : List Ended) → absent_in (xs ++ ys) ≡ absent_in xs + absent_in ys
absent_in-append xs ys = sum_by-append (λ e. cond (is_absent e) 1 0) xs ys

pub either : (now before : Bool) (m n : ℕ) → (if now then m else (if before then m else n)) ≡ (if (now || before) then m else n)
either true before m n = refl
either false before m n = refl

-- ---- notes of what was answered

-- a note is added where there is memory for it
pub may_add : (P : Note → Type 0) (old new : List Note) (added : Bool) (note : Note) → new ≡ (if added then old ++ note ∷ [] else old) → P note → MayNote P old new
may_add P old new true note is h = inr (note, is, h)
may_add P old new false note is h = inl is

noted_none : {K Left : Type 0} (meaning : Meaning K Register Left StoreFault) (keep : K) (answered : List (Answered K)) (one : Answered K) (notes : List Note)
    → AreNotes meaning keep answered notes → AreNotes meaning keep (answered ++ one ∷ []) notes
noted_none meaning keep [] one notes h = inl h
noted_none meaning keep (a ∷ rest) one notes (inl h) = inl (noted_none meaning a.keep rest one notes h)
noted_none meaning keep (a ∷ rest) one notes (inr h) = inr (h.0, h.1, h.2, h.3, noted_none meaning a.keep rest one h.1 h.4)

noted_one : {K Left : Type 0} (meaning : Meaning K Register Left StoreFault) (keep : K) (answered : List (Answered K)) (one : Answered K) (notes : List Note) (note : Note)
    → AreNotes meaning keep answered notes → IsNoteOf (Promised meaning (keep_left keep (exchanges_of answered)) one.keep) one.answer.request one.answer.reply note → AreNotes meaning keep (answered ++ one ∷ []) (notes ++ note ∷ [])
noted_one meaning keep [] one notes note h is = inr (note, [], ap (λ l. l ++ note ∷ []) h, is, refl)
noted_one meaning keep (a ∷ rest) one notes note (inl h) is = inl (noted_one meaning a.keep rest one notes note h is)
noted_one meaning keep (a ∷ rest) one notes note (inr h) is =
    inr (h.0, h.1 ++ note ∷ [], ap (λ l. l ++ note ∷ []) h.2, h.3, noted_one meaning a.keep rest one h.1 note h.4 is)

noted_more : {K Left : Type 0} (meaning : Meaning K Register Left StoreFault) (old keep : K) (answered : List (Answered K)) (one : Answered K) (noted before after : List Note)
    → keep_left old (exchanges_of answered) ≡ keep → AreNotes meaning old answered (noted ++ before) → MayNote (IsNoteOf (Promised meaning keep one.keep) one.answer.request one.answer.reply) before after
    → AreNotes meaning old (answered ++ one ∷ []) (noted ++ after)
noted_more meaning old keep answered one noted before after left h (inl same) =
    subst (λ l. AreNotes meaning old (answered ++ one ∷ []) (noted ++ l)) (sym same) (noted_none meaning old answered one (noted ++ before) h)
noted_more meaning old keep answered one noted before after left h (inr more) =
    let is = subst (λ k. IsNoteOf (Promised meaning k one.keep) one.answer.request one.answer.reply more.0) (sym left) more.2 in
    subst (AreNotes meaning old (answered ++ one ∷ [])) (append_assoc noted before (more.0 ∷ []) ∙ ap (λ l. noted ++ l) (sym more.1)) (noted_one meaning old answered one (noted ++ before) more.0 h is)

-- ---- the server

pub nothing_served : {K Left : Type 0} (meaning : Meaning K Register Left StoreFault) (Is : Ended → Type 0) (keep : K) (connections : ℕ)
    → IsServing meaning Is keep keep [] (record { connections = connections; pending = connections; absent = 0; status = 0; notes = [] })
nothing_served meaning Is keep connections = record {
  answered = [];
  ended = [];
  count = omega arith;
  each = tt;
  turns = All-nil IsTurn;
  answer_clean = All-nil (AnswersClean meaning);
  left = refl;
  told_once = IsPermutation-refl [];
  ended_so = All-nil Is;
  missing = refl;
  status = refl;
  noted = refl;
}

-- a request was answered
pub answers : {K Left : Type 0} (meaning : Meaning K Register Left StoreFault) (Is : Ended → Type 0) (old keep new : K) (telling : List GivenReply) (tally : Tally) (answer : GivenReply) (noted before after : List Note)
    → IsServing meaning Is old keep telling (record tally { notes = noted ++ before }) → MayNote (IsNoteOf (Promised meaning keep new) answer.request answer.reply) before after
    → Responds meaning keep new answer.request answer.reply
    → IsServing meaning Is old new (answer ∷ telling) (record tally { notes = noted ++ after })
answers {K} meaning Is old keep new telling tally answer noted before after h notes responds =
    let one : Answered K = record { answer = answer; keep = new } in
    let es : List (Exchanged K) = exchanges_of h.answered in
    let more : exchanges_of (h.answered ++ one ∷ []) ≡ es ++ exchange_of one ∷ [] = map-append exchange_of h.answered (one ∷ []) in
    let each = exchanged_more meaning old es (exchange_of one) h.each (subst (λ k. IsNext meaning k (exchange_of one)) (sym h.left) (next meaning keep new answer.request answer.reply responds)) in
    let front : answers_in (h.answered ++ one ∷ []) ≡ answers_in h.answered ++ answer ∷ [] = map-append (λ a. a.answer) h.answered (one ∷ []) in
    record {
      answered = h.answered ++ one ∷ [];
      ended = h.ended;
      count = h.count;
      each = subst (AreExchanged meaning old) (sym more) each;
      turns = subst (All IsTurn) (sym more) (All-push IsTurn es (exchange_of one) h.turns (turn meaning keep new answer.request answer.reply responds));
      answer_clean = subst (All (AnswersClean meaning)) (sym more) (All-push (AnswersClean meaning) es (exchange_of one) h.answer_clean responds.up);
      left = ap (keep_left old) more ∙ left_more old es (exchange_of one);
      told_once = subst (λ l. IsPermutation l (answer ∷ telling ++ told_in h.ended)) (sym front) (
          IsPermutation-trans (answers_in h.answered ++ answer ∷ []) (answer ∷ answers_in h.answered) (answer ∷ (telling ++ told_in h.ended))
          (IsPermutation-to_front (answers_in h.answered) answer)
          (IsPermutation-cons answer (answers_in h.answered) (telling ++ told_in h.ended) h.told_once)
          );
      ended_so = h.ended_so;
      missing = h.missing;
      status = h.status;
      noted = noted_more meaning old keep h.answered one noted before after h.left h.noted notes;
    }

-- some connections ended
pub ends : {K Left : Type 0} (meaning : Meaning K Register Left StoreFault) (Is : Ended → Type 0) (old keep : K) (telling rest : List GivenReply) (tally : Tally) (left more : ℕ) (ended : List Ended)
    → IsServing meaning Is old keep telling tally → All Is ended → length ended + left ≡ tally.pending → absent_in ended ≡ more → IsPermutation telling (rest ++ told_in ended)
    → IsServing meaning Is old keep rest (record { connections = tally.connections; pending = left; absent = more + tally.absent; status = if list_any has_failed ended then 3 else tally.status; notes = tally.notes })
ends meaning Is old keep telling rest tally left more ended h so count gone once = record {
  answered = h.answered;
  ended = ended ++ h.ended;
  count = omega (arith, h.count, count, length-append ended h.ended);
  each = h.each;
  turns = h.turns;
  answer_clean = h.answer_clean;
  left = h.left;
  told_once =
      subst (IsPermutation (answers_in h.answered)) (append_assoc rest (told_in ended) (told_in h.ended) ∙ ap (λ l. rest ++ l) (sym (told_in-append ended h.ended)))
      (IsPermutation-trans (answers_in h.answered) (telling ++ told_in h.ended) ((rest ++ told_in ended) ++ told_in h.ended) h.told_once
      (IsPermutation-append_left (told_in h.ended) telling (rest ++ told_in ended) once));
  ended_so = All-append Is ended h.ended so h.ended_so;
  missing = omega (arith, absent_in-append ended h.ended, gone, h.missing);
  status =
      ap (λ n. if list_any has_failed ended then 3 else n) h.status ∙ either (list_any has_failed ended) (list_any has_failed h.ended) 3 0
      ∙ ap (λ b. if b then 3 else 0) (sym (list_any-append has_failed ended h.ended));
  noted = h.noted;
}

-- ---- all connections

a_run_to : {K Left : Type 0} (meaning : Meaning K Register Left StoreFault) (old new : K) (es : List (Exchanged K)) → AreExchanged meaning old es → keep_left old es ≡ new
    → Promised meaning old new (λ r. IsLegal r → IsRun (meaning.shows new) r es)
a_run_to meaning old new es each left = subst (λ k. Promised meaning old k (λ r. IsLegal r → IsRun (meaning.shows k) r es)) left (a_run meaning old es each)

pub all_served : {K Left : Type 0} (meaning : Meaning K Register Left StoreFault) (Is : Ended → Type 0) (old new : K) (connections absent told : ℕ) (notes : List Note)
    → IsServing meaning Is old new [] (record { connections = connections; pending = 0; absent = absent; status = told; notes = notes })
    → (served : IsServedAs meaning Is old new connections told) × (served.absent ≡ absent) × (served.notes ≡ notes)
all_served meaning Is old new connections absent told notes h =
    (record { absent = absent; notes = notes; served = h; run = a_run_to meaning old new (exchanges_of h.answered) h.each h.left }, refl, refl)

pub served_by_any : {K Left : Type 0} (meaning : Meaning K Register Left StoreFault) (Is : Ended → Type 0) (old new : K) (connections told : ℕ)
    → IsServedAs meaning Is old new connections told → IsServed meaning old new connections told
served_by_any meaning Is old new connections told h = record {
  absent = h.absent;
  notes = h.notes;
  served = record {
    answered = h.served.answered;
    ended = h.served.ended;
    count = h.served.count;
    each = h.served.each;
    turns = h.served.turns;
    answer_clean = h.served.answer_clean;
    left = h.served.left;
    told_once = h.served.told_once;
    ended_so = All-weaker Is _ (λ e is. tt) h.served.ended h.served.ended_so;
    missing = h.served.missing;
    status = h.served.status;
    noted = h.served.noted;
  };
  run = h.run;
}

pub telling_to-append : {S : Type 0} (xs ys : List (Client S)) → telling_to (xs ++ ys) ≡ telling_to xs ++ telling_to ys
telling_to-append [] ys = refl
telling_to-append (c ∷ xs) ys = ap (λ l. telling c.phase ++ l) (telling_to-append xs ys) ∙ sym (append_assoc (telling c.phase) (telling_to xs) (telling_to ys))

pub held-append : {S : Type 0} (wire : Wire S) (xs ys : List (Client S)) → AreHeld wire xs → AreHeld wire ys → AreHeld wire (xs ++ ys)
held-append wire [] ys h k = k
held-append wire (c ∷ xs) ys h k = (h.0, held-append wire xs ys h.1 k)

-- ---- none ends

pub lets_none : {S : Type 0} (wire : Wire S) (telling : List GivenReply) (pending status : ℕ) (new : Server S) → AreHeld wire new.queue.items
    → pending_in new ≡ pending → IsPermutation telling (telling_in new) → new.status ≡ status → Lets wire telling pending 0 status new
lets_none wire telling pending status new held count once told = record {
  held = held;
  ended = [];
  ended_so = All-nil (EndedOn wire);
  missing = refl;
  count = omega (arith, count);
  told_once = subst (IsPermutation telling) (sym (append-nil (telling_in new))) once;
  told = told;
}

-- ---- one ends

status_one : (failed now : Bool) (before after : ℕ) → failed ≡ now → after ≡ (if failed then 3 else before) → after ≡ (if (now || false) then 3 else before)
status_one true true before after e h = h
status_one true false before after e h = cc
status_one false true before after e h = cc
status_one false false before after e h = h

lets_end : {S : Type 0} (wire : Wire S) (mine others : List GivenReply) (pending absent status : ℕ) (failed : Bool) (new : Server S) → AreHeld wire new.queue.items
    → (e : Ended) → EndedOn wire e → told_on e ≡ mine → failed ≡ has_failed e → absent_in (e ∷ []) ≡ absent → telling_in new ≡ others → pending_in new + 1 ≡ pending → new.status ≡ (if failed then 3 else status)
    → Lets wire (mine ++ others) pending absent status new
lets_end wire mine others pending absent status failed new held e so is fails gone same count told =
    let alone : told_in (e ∷ []) ≡ mine = append-nil (told_on e) ∙ is in
    let once : IsPermutation (mine ++ others) (telling_in new ++ told_in (e ∷ [])) = rw (alone, same) (IsPermutation-append_comm mine others) in
    record {
      held = held;
      ended = e ∷ [];
      ended_so = All-cons (EndedOn wire) e [] so (All-nil (EndedOn wire));
      missing = gone;
      count = omega (arith, count);
      told_once = once;
      told = status_one failed (has_failed e) status new.status fails told;
    }

-- a client came on it
pub lets_one : {S : Type 0} (wire : Wire S) (mine others : List GivenReply) (pending status : ℕ) (failed : Bool) (new : Server S) → AreHeld wire new.queue.items
    → EndsAs wire mine failed → telling_in new ≡ others → pending_in new + 1 ≡ pending → new.status ≡ (if failed then 3 else status)
    → Lets wire (mine ++ others) pending 0 status new
lets_one wire mine others pending status failed new held end same count told =
    lets_end wire mine others pending 0 status failed new held end.0 end.1 end.2 end.3 (rw end.4 refl) same count told

-- a client could not be let in
pub lets_absent : {S : Type 0} (wire : Wire S) (others : List GivenReply) (pending status : ℕ) (new : Server S) → AreHeld wire new.queue.items
    → telling_in new ≡ others → pending_in new + 1 ≡ pending → new.status ≡ 3 → Lets wire others pending 1 status new
lets_absent wire others pending status new held same count told =
    lets_end wire [] others pending 1 status true new held Absent tt refl refl refl same count told

-- ---- the others never come

absent_tell_nothing : (n : ℕ) → told_in (replicate n Absent) ≡ []
absent_tell_nothing zero = refl
absent_tell_nothing (suc n) = absent_tell_nothing n

absent_fail : (n before : ℕ) → 0 < n → 3 ≡ (if list_any has_failed (replicate n Absent) then 3 else before)
absent_fail zero before lt = absurd (omega (arith, lt))
absent_fail (suc n) before lt = refl

all_absent : (n : ℕ) → absent_in (replicate n Absent) ≡ n
all_absent zero = refl
all_absent (suc n) = omega (arith, sum_by-cons (λ e. cond (is_absent e) 1 0) Absent (replicate n Absent), all_absent n)

pub lets_all_absent : {S : Type 0} (wire : Wire S) (telling : List GivenReply) (left count status : ℕ) (new : Server S) → AreHeld wire new.queue.items
    → 0 < left → telling_in new ≡ telling → length new.queue.items ≡ count → new.left ≡ 0 → new.status ≡ 3 → Lets wire telling (count + left) left status new
lets_all_absent wire telling left count status new held some same here none told = record {
  held = held;
  ended = replicate left Absent;
  ended_so = All-replicate (EndedOn wire) left Absent tt;
  missing = all_absent left;
  count = omega (arith, length-replicate left Absent, here, none);
  told_once = rw (absent_tell_nothing left, append-nil, same) (IsPermutation-refl telling);
  told = told ∙ absent_fail left status some;
}

-- ---- one after the other

pub lets_same : {S : Type 0} (wire : Wire S) (server : Server S) → AreHeld wire server.queue.items
    → Lets wire (telling_in server) (pending_in server) 0 server.status server
lets_same wire server held = lets_none wire (telling_in server) (pending_in server) server.status server held refl (IsPermutation-refl (telling_in server)) refl

-- no client came or went
pub lets_kept : {S : Type 0} (wire : Wire S) (old new : Server S) → AreHeld wire old.queue.items → new.queue.items ≡ old.queue.items → new.left ≡ old.left → new.status ≡ old.status
    → Lets wire (telling_in old) (pending_in old) 0 old.status new
lets_kept wire old new held items left told =
    lets_none wire (telling_in old) (pending_in old) old.status new (subst (AreHeld wire) (sym items) held) (omega (arith, ap length items, left))
    (subst (IsPermutation (telling_in old)) (sym (ap telling_to items)) (IsPermutation-refl (telling_in old))) told

pub lets_from : {S : Type 0} (wire : Wire S) (telling other : List GivenReply) (pending count absent status : ℕ) (new : Server S) → telling ≡ other → pending ≡ count
    → Lets wire telling pending absent status new → Lets wire other count absent status new
lets_from wire telling other pending count absent status new same counts h =
    subst (λ n. Lets wire other n absent status new) counts (subst (λ l. Lets wire l pending absent status new) same h)

pub lets_as : {S : Type 0} (wire : Wire S) (telling : List GivenReply) (pending absent status : ℕ) (new other : Server S)
    → Lets wire telling pending absent status new → Becomes new other → Lets wire telling pending absent status other
lets_as wire telling pending absent status new other h same = record {
  held = subst (λ q. AreHeld wire q.items) (sym same.queue) h.held;
  ended = h.ended;
  ended_so = h.ended_so;
  missing = h.missing;
  count = rw (same.queue, same.left) h.count;
  told_once = rw same.queue h.told_once;
  told = same.status ∙ h.told;
}

-- with some more that were left out of the first
pub lets_then_more : {S : Type 0} (wire : Wire S) (telling : List GivenReply) (pending more one two status : ℕ) (mid new : Server S)
    → Lets wire telling pending one status mid → Lets wire (telling_in mid) (pending_in mid + more) two mid.status new → Lets wire telling (pending + more) (two + one) status new
lets_then_more wire telling pending more one two status mid new first second = record {
  held = second.held;
  ended = second.ended ++ first.ended;
  ended_so = All-append (EndedOn wire) second.ended first.ended second.ended_so first.ended_so;
  missing = omega (arith, absent_in-append second.ended first.ended, first.missing, second.missing);
  count = omega (arith, first.count, second.count, length-append second.ended first.ended);
  told_once =
      subst (IsPermutation telling) (append_assoc (telling_in new) (told_in second.ended) (told_in first.ended) ∙ ap (λ l. telling_in new ++ l) (sym (told_in-append second.ended first.ended)))
      (IsPermutation-trans telling (telling_in mid ++ told_in first.ended) ((telling_in new ++ told_in second.ended) ++ told_in first.ended) first.told_once
      (IsPermutation-append_left (told_in first.ended) (telling_in mid) (telling_in new ++ told_in second.ended) second.told_once));
  told =
      second.told ∙ ap (λ n. if list_any has_failed second.ended then 3 else n) first.told
      ∙ either (list_any has_failed second.ended) (list_any has_failed first.ended) 3 status
      ∙ ap (λ b. if b then 3 else status) (sym (list_any-append has_failed second.ended first.ended));
}

pub lets_then : {S : Type 0} (wire : Wire S) (telling : List GivenReply) (pending one two status : ℕ) (mid new : Server S)
    → Lets wire telling pending one status mid → Lets wire (telling_in mid) (pending_in mid) two mid.status new → Lets wire telling pending (two + one) status new
lets_then wire telling pending one two status mid new first second =
    let none : (n : ℕ) → n + 0 ≡ n = λ n. omega arith in
    subst (λ n. Lets wire telling n (two + one) status new) (none pending)
    (lets_then_more wire telling pending 0 one two status mid new first (subst (λ n. Lets wire (telling_in mid) n two mid.status new) (sym (none (pending_in mid))) second))

pub lets_of : {S : Type 0} (wire : Wire S) (telling other : List GivenReply) (pending absent status : ℕ) (new : Server S) → IsPermutation other telling
    → Lets wire telling pending absent status new → Lets wire other pending absent status new
lets_of wire telling other pending absent status new same h = record {
  held = h.held;
  ended = h.ended;
  ended_so = h.ended_so;
  missing = h.missing;
  count = h.count;
  told_once = IsPermutation-trans other telling (telling_in new ++ told_in h.ended) same h.told_once;
  told = h.told;
}

-- ---- the server

pub lets_go_on : {K S Left : Type 0} (meaning : Meaning K Register Left StoreFault) (wire : Wire S) (start keep : K) (telling : List GivenReply) (tally : Tally) (more : ℕ) (noted : List Note) (new : Server S)
    → IsServing meaning (EndedOn wire) start keep telling tally → Lets wire telling tally.pending more tally.status new → tally.notes ≡ noted ++ new.service.notes.items
    → GoesOnAs meaning wire start keep tally.connections (more + tally.absent) noted new
lets_go_on meaning wire start keep telling tally more noted new h lets notes =
    subst (λ l. IsServing meaning (EndedOn wire) start keep (telling_in new) (record (tally_in tally.connections (more + tally.absent) noted new) { notes = l })) notes
    (subst (λ n. IsServing meaning (EndedOn wire) start keep (telling_in new) (record { connections = tally.connections; pending = pending_in new; absent = more + tally.absent; status = n; notes = tally.notes })) (sym lets.told)
    (ends meaning (EndedOn wire) start keep telling (telling_in new) tally (pending_in new) more lets.ended h lets.ended_so lets.count lets.missing lets.told_once))

-- of those that ended a client came on each
pub lets_go_same : {K S Left : Type 0} (meaning : Meaning K Register Left StoreFault) (wire : Wire S) (start keep : K) (telling : List GivenReply) (tally : Tally) (noted : List Note) (new : Server S)
    → IsServing meaning (EndedOn wire) start keep telling tally → Lets wire telling tally.pending 0 tally.status new → tally.notes ≡ noted ++ new.service.notes.items
    → GoesOnAs meaning wire start keep tally.connections tally.absent noted new
lets_go_same meaning wire start keep telling tally noted new h lets notes =
    let same : 0 + tally.absent ≡ tally.absent = omega arith in
    subst (λ n. GoesOnAs meaning wire start keep tally.connections n noted new) same (lets_go_on meaning wire start keep telling tally 0 noted new h lets notes)

-- ---- a client goes to the end of the queue, or leaves it

pub stays : {S : Type 0} (wire : Wire S) (client : Client S) (old : List (Client S)) (left status : ℕ) (new : Server S) → new.queue.items ≡ old ++ client ∷ []
    → AreHeld wire old → IsHeld wire client.phase → new.left ≡ left → new.status ≡ status
    → Lets wire (telling client.phase ++ telling_to old) (length old + left + 1) 0 status new
stays wire client old left status new items held own same told =
    let both : AreHeld wire (old ++ client ∷ []) = held-append wire old (client ∷ []) held (own, tt) in
    let all : telling_in new ≡ telling_to old ++ telling client.phase = ap telling_to items ∙ telling_to-append old (client ∷ []) ∙ ap (λ l. telling_to old ++ l) (append-nil (telling client.phase)) in
    lets_none wire (telling client.phase ++ telling_to old) (length old + left + 1) status new (subst (AreHeld wire) (sym items) both)
    (omega (arith, ap length items, length-append old (client ∷ []), same))
    (subst (IsPermutation (telling client.phase ++ telling_to old)) (sym all) (IsPermutation-append_comm (telling client.phase) (telling_to old))) told

pub record IsTaken {S : Type 0} (wire : Wire S) (clients : List (Client S)) (client : Client S) (rest : List (Client S)) : Type 0 where
  pub own : IsHeld wire client.phase
  pub others : AreHeld wire rest
  pub once : IsPermutation (telling_to clients) (telling client.phase ++ telling_to rest)
  pub count : length clients ≡ length rest + 1

moved : (a b c : List GivenReply) → IsPermutation (a ++ (b ++ c)) (b ++ (a ++ c))
moved a b c =
    subst (IsPermutation (a ++ (b ++ c))) (append_assoc b a c)
    (subst (λ l. IsPermutation l ((b ++ a) ++ c)) (append_assoc a b c) (IsPermutation-append_left c (a ++ b) (b ++ a) (IsPermutation-append_comm a b)))

pub taken : {S : Type 0} (wire : Wire S) (clients : List (Client S)) (i : ℕ) (client : Client S) → i < length clients → client ≡ get_or clients i client
    → AreHeld wire clients → IsTaken wire clients client (remove clients i)
taken wire [] i client lt is held = absurd (omega (arith, lt))
taken wire (c ∷ rest) zero client lt is held = record {
  own = subst (λ x. IsHeld wire x.phase) (sym is) held.0;
  others = held.1;
  once = subst (λ x. IsPermutation (telling c.phase ++ telling_to rest) (telling x.phase ++ telling_to rest)) (sym is) (IsPermutation-refl (telling c.phase ++ telling_to rest));
  count = omega arith;
}
taken wire (c ∷ rest) (suc i) client lt is held =
    let t = taken wire rest i client (omega (arith, lt)) is held.1 in
    record {
      own = t.own;
      others = (held.0, t.others);
      once =
          IsPermutation-trans (telling c.phase ++ telling_to rest) (telling c.phase ++ (telling client.phase ++ telling_to (remove rest i))) (telling client.phase ++ (telling c.phase ++ telling_to (remove rest i)))
          (IsPermutation-append_right (telling c.phase) (telling_to rest) (telling client.phase ++ telling_to (remove rest i)) t.once)
          (moved (telling c.phase) (telling client.phase) (telling_to (remove rest i)));
      count = omega (arith, t.count);
    }

-- ---- from the first to the last

pub in_hand : {K S Left : Type 0} (meaning : Meaning K Register Left StoreFault) (wire : Wire S) (start keep : K) (connections absent : ℕ) (noted : List Note) (client : Client S) (rest : List (Client S)) (old : Server S)
    → old.queue.items ≡ client ∷ rest → GoesOnAs meaning wire start keep connections absent noted old
    → IsServing meaning (EndedOn wire) start keep (telling client.phase ++ telling_to rest) (record (tally_in connections absent noted old) { pending = length rest + old.left + 1 })
in_hand meaning wire start keep connections absent noted client rest old is h =
    let count : pending_in old ≡ length rest + old.left + 1 = omega (arith, ap length is) in
    subst (λ n. IsServing meaning (EndedOn wire) start keep (telling client.phase ++ telling_to rest) (record (tally_in connections absent noted old) { pending = n })) count
    (subst (λ l. IsServing meaning (EndedOn wire) start keep l (tally_in connections absent noted old)) (ap telling_to is) h)

-- some notes were told of those that were not
pub becomes_at : {K S Left : Type 0} (meaning : Meaning K Register Left StoreFault) (wire : Wire S) (start keep : K) (connections absent : ℕ) (noted told : List Note) (old new : Server S)
    → GoesOnAs meaning wire start keep connections absent noted old → Becomes old new → told ≡ old.service.notes.items → new.service.notes.items ≡ [] → GoesOnAs meaning wire start keep connections absent (noted ++ told) new
becomes_at meaning wire start keep connections absent noted told old new h same all none =
    let notes : noted ++ old.service.notes.items ≡ (noted ++ told) ++ new.service.notes.items = rw (all, none) (sym (append-nil (noted ++ old.service.notes.items))) in
    rw (same.queue, same.left, same.status) (subst (λ l. IsServing meaning (EndedOn wire) start keep (telling_in old) (record (tally_in connections absent noted old) { notes = l })) notes h)

pub begun : {K S Left : Type 0} (meaning : Meaning K Register Left StoreFault) (wire : Wire S) (keep : K) (connections : ℕ) (server : Server S)
    → server.queue.items ≡ [] → server.left ≡ connections → server.status ≡ 0 → server.service.notes.items ≡ [] → GoesOnAs meaning wire keep keep connections 0 [] server
begun meaning wire keep connections server none all told silent =
    let Is = EndedOn wire in
    let count : connections ≡ pending_in server = omega (arith, ap length none, all) in
    let nobody : [] ≡ telling_in server = sym (ap telling_to none) in
    subst (λ l. IsServing meaning Is keep keep (telling_in server) (record (tally_in connections 0 [] server) { notes = l })) (sym silent)
    (subst (λ n. IsServing meaning Is keep keep (telling_in server) (record (tally_in connections 0 [] server) { status = n; notes = [] })) (sym told)
    (subst (λ l. IsServing meaning Is keep keep l (record (tally_in connections 0 [] server) { status = 0; notes = [] })) nobody
    (subst (λ n. IsServing meaning Is keep keep [] (record { connections = connections; pending = n; absent = 0; status = 0; notes = [] })) count (nothing_served meaning Is keep connections))))

none_told : {S : Type 0} (clients : List (Client S)) (left : ℕ) → length clients + left ≡ 0 → telling_to clients ≡ []
none_told [] left e = refl
none_told (c ∷ rest) left e = absurd (omega (arith, e))

pub finished : {K S Left : Type 0} (meaning : Meaning K Register Left StoreFault) (wire : Wire S) (start keep : K) (connections absent : ℕ) (noted : List Note) (server : Server S)
    → GoesOnAs meaning wire start keep connections absent noted server → pending_in server ≡ 0
    → (served : IsServedAs meaning (EndedOn wire) start keep connections server.status) × (served.absent ≡ absent) × (served.notes ≡ noted ++ server.service.notes.items)
finished meaning wire start keep connections absent noted server h none =
    all_served meaning (EndedOn wire) start keep connections absent server.status (noted ++ server.service.notes.items)
    (subst (λ n. IsServing meaning (EndedOn wire) start keep [] (record (tally_in connections absent noted server) { pending = n })) none
    (subst (λ l. IsServing meaning (EndedOn wire) start keep l (tally_in connections absent noted server)) (none_told server.queue.items server.left none) h))

-- ---- which client gives way

pub idle_at : {S : Type 0} (clients : List (Client S)) (place : ℕ) (client : Client S) → place < length clients → client ≡ get_or clients place client
    → get_or (idle_times clients) place 0 ≡ as_nanos client.timing.idle_since
idle_at [] place client lt is = absurd (omega (arith, lt))
idle_at (c ∷ rest) zero client lt is = ap (λ x. as_nanos x.timing.idle_since) (sym is)
idle_at (c ∷ rest) (suc place) client lt is = idle_at rest place client (omega (arith, lt)) is

-- of the first clients one is idle for the longest, and the next is idle for longer still, or not
pub longer_idle : (times : List ℕ) (longest place other : ℕ) → ((k : ℕ) → k < place → get_or times longest 0 ≤ get_or times k 0)
    → get_or times place 0 ≤ get_or times longest 0 → other < place + 1 → get_or times place 0 ≤ get_or times other 0
longer_idle times longest place other before less lt = elim (cases_lt other place) [
  | inl earlier ↦ omega (arith, before other earlier, less)
  | inr le ↦ let same : other ≡ place = omega (arith, le, lt) in rw same (omega arith)
]

pub as_idle : (times : List ℕ) (longest place other : ℕ) → ((k : ℕ) → k < place → get_or times longest 0 ≤ get_or times k 0)
    → get_or times longest 0 ≤ get_or times place 0 → other < place + 1 → get_or times longest 0 ≤ get_or times other 0
as_idle times longest place other before less lt = elim (cases_lt other place) [
  | inl earlier ↦ before other earlier
  | inr le ↦ let same : other ≡ place = omega (arith, le, lt) in rw same less
]
