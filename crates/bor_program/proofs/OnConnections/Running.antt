-- A server that lets clients in and goes on, and when it may end.
use Rattle.bor_register.specs.declared.fault.StoreFault.{StoreFault}
use Rattle.bor_records.specs.Promises.{Meaning}
use Rattle.std.proofs.Common.{◌≡◌, ◌+◌, ◌<◌, inl, ℕ, List, [], ◌∷◌, ◌++◌, Bool, Option, true, append-nil, append_assoc, sym, refl, ap, subst, ◌∙◌, arith, ◌||◌}
use Rattle.std.specs.List.{All, list_any}
use Rattle.std.proofs.lemmas.List.Folds.{list_any-append}
use Rattle.std.proofs.lemmas.List.Elements.{All-append, All-cons, All-nil}
use Rattle.std.specs.declared.time.Duration.{Duration}
use Rattle.bor_program.specs.Connections.Times.{IsPatient}
use Rattle.bor_register.specs.Register.{Register}
use Rattle.bor_program.specs.declared.log.Note.{Note}
use Rattle.bor_program.specs.declared.connections.server.Server.{Server}
use Rattle.bor_program.specs.Connections.Serving.{IsServedOver}
use Rattle.bor_program.specs.Connections.Streams.{EndedOn, Wire}
use Rattle.bor_program.specs.Connections.Servers.{Advances, AreHeld, AreSeated, AsksWhoComes, Becomes, GoesOnAs, IsSameElse, Lets, LetsIn, Runs, Standing, pending_in, tally_in, telling_in}
use Rattle.bor_program.specs.Connections.Watching.{Act, AreDone, DoesUnwaiting, Listens, OnWait, WaitsOnce, faults_after, is_asking, notes_in, refused_in, waits_in}
use Rattle.bor_program.proofs.OnConnections.Servers.{becomes_at, begun, finished, lets_go_on, lets_same, lets_then}
use Rattle.bor_program.proofs.OnConnections.Watching.{does_none, does_then, done-append, faults-append, notes-append, over_kept, refused-append, unwaited, waits-append, waits_weaker}

-- ---- clients are let in

pub lets_in_same : {W S : Type 0} (does : W → Act → W → Type 0) (watch : W) (wire : Wire S) (server : Server S) → AreHeld wire server.queue.items
    → LetsIn wire (record { does = does; begun = watch; ended = watch }) server server
lets_in_same does watch wire server held = record { refused = 0; done = does_none does watch; lets = lets_same wire server held }

pub lets_in_then : {W S : Type 0} (does : W → Act → W → Type 0) (begun between left : W) (wire : Wire S) (old mid new : Server S)
    → LetsIn wire (record { does = does; begun = begun; ended = between }) old mid → LetsIn wire (record { does = does; begun = between; ended = left }) mid new
    → LetsIn wire (record { does = does; begun = begun; ended = left }) old new
lets_in_then does begun between left wire old mid new first second = record {
  refused = second.refused + first.refused;
  done = does_then does begun between left first.refused second.refused [] [] first.done second.done;
  lets = lets_then wire (telling_in old) (pending_in old) first.refused second.refused old.status mid new first.lets second.lets;
}

-- it was asked for a client before
pub asks_on : {W : Type 0} (does : W → Act → W → Type 0) (begun between left : W) (refused : ℕ) (notes : List Note) → AsksWhoComes (record { does = does; begun = begun; ended = between })
    → DoesUnwaiting does between left refused notes → AsksWhoComes (record { does = does; begun = begun; ended = left })
asks_on does begun between left refused notes h more = record {
  acts = h.acts ++ more.acts;
  done = done-append does begun between left h.acts more.acts h.done more.done;
  asks = list_any-append is_asking h.acts more.acts ∙ ap (λ b. b || list_any is_asking more.acts) h.asks;
}

-- ---- the server goes on

-- The server goes on: these calls were made of its watch, of which so many waits failed last, one
-- after the other, of so many in all.
pub record IsRunning {K W S Left : Type 0} (meaning : Meaning K Register Left StoreFault)
    (does : W → Act → W → Type 0) (wire : Wire S) (begun now : Standing K W S) (faults waits : ℕ) : Type 0 where
  pub held : AreHeld wire now.server.queue.items
  pub seated : AreSeated now.server.seats.taken now.server.queue.items
  pub acts : List Act
  pub done : AreDone does begun.watch acts now.watch
  pub advances : (start : K) (connections absent : ℕ) (noted : List Note)
      → GoesOnAs meaning wire start begun.keep connections absent noted begun.server
      → GoesOnAs meaning wire start now.keep connections (refused_in acts + absent)
      (noted ++ notes_in acts) now.server
  pub limits : now.server.limits ≡ begun.server.limits
  pub wait : IsPatient begun.server.limits now.server.wait
  pub patient : All (OnWait (IsPatient begun.server.limits)) acts
  pub failed : faults_after 0 acts ≡ faults
  pub waited : waits_in acts ≡ waits

All-one : (P : Option Duration → Type 0) (failed : Bool) → All (OnWait P) (Listens failed ∷ [])
All-one P failed = All-cons (OnWait P) (Listens failed) [] tt (All-nil (OnWait P))

-- it watches for clients that come in, or can't
begin_none : (absent : ℕ) → absent ≡ 0 + absent
begin_none absent = omega arith

pub starts : {K W S Left : Type 0} (meaning : Meaning K Register Left StoreFault) (does : W → Act → W → Type 0) (wire : Wire S) (keep : K) (begun watch : W) (server : Server S) (failed : Bool)
    → AreHeld wire server.queue.items → AreSeated server.seats.taken server.queue.items → IsPatient server.limits server.wait → does begun (Listens failed) watch
    → IsRunning meaning does wire (record { keep = keep; watch = begun; server = server }) (record { keep = keep; watch = watch; server = server }) 0 0
starts meaning does wire keep begun watch server failed held seated wait listens = record {
  limits = refl;
  wait = wait;
  patient = All-one (IsPatient server.limits) failed;
  held = held;
  seated = seated;
  acts = Listens failed ∷ [];
  done = (watch, listens, refl);
  advances = λ start connections absent noted before.
      subst (λ l. GoesOnAs meaning wire start keep connections (0 + absent) l server) (sym (append-nil noted)) (subst (λ n. GoesOnAs meaning wire start keep connections n noted server) (begin_none absent) before);
  failed = refl;
  waited = refl;
}

pub ran_deaf : {K W S Left : Type 0} (meaning : Meaning K Register Left StoreFault) (does : W → Act → W → Type 0) (wire : Wire S) (keep : K) (begun watch : W) (server : Server S) (failed : Bool)
    → AreHeld wire server.queue.items → does begun (Listens failed) watch → failed ≡ true
    → Runs meaning does wire (record { keep = keep; watch = begun; server = server }) (record { keep = keep; watch = watch; server = server })
ran_deaf meaning does wire keep begun watch server failed held listens is = record {
  patient = All-one (IsPatient server.limits) failed;
  held = held;
  acts = Listens failed ∷ [];
  done = (watch, listens, refl);
  advances = λ start connections absent noted before.
      subst (λ l. GoesOnAs meaning wire start keep connections (0 + absent) l server) (sym (append-nil noted)) (subst (λ n. GoesOnAs meaning wire start keep connections n noted server) (begin_none absent) before);
  over = λ some. inl (rw is refl);
}

-- the notes that were told in this turn
noted_all : (noted told : List Note) (first once others : List Act) → notes_in once ≡ told → notes_in others ≡ [] → noted ++ notes_in ((first ++ once) ++ others) ≡ (noted ++ notes_in first) ++ told
noted_all noted told first once others is none =
    let both : notes_in ((first ++ once) ++ others) ≡ notes_in first ++ told = notes-append (first ++ once) others ∙ ap (λ l. notes_in (first ++ once) ++ l) none ∙ append-nil (notes_in (first ++ once)) ∙ notes-append first once ∙ ap (λ l. notes_in first ++ l) is in
    ap (λ l. noted ++ l) both ∙ sym (append_assoc noted (notes_in first) told)

-- it waited, let clients in and served those that are there
pub runs_on : {K W S Left : Type 0} (meaning : Meaning K Register Left StoreFault) (does : W → Act → W → Type 0) (wire : Wire S) (first now : Standing K W S) (waited left : W) (awake filled new : Server S) (new_keep : K) (faults after waits : ℕ)
    → IsRunning meaning does wire first now faults waits → Becomes now.server awake → WaitsOnce does now.watch waited faults after now.server.service.notes.items now.server.wait → awake.service.notes.items ≡ []
    → LetsIn wire (record { does = does; begun = waited; ended = left }) awake filled → IsSameElse awake filled → new.limits ≡ filled.limits → IsPatient filled.limits new.wait
    → AreHeld wire new.queue.items → AreSeated new.seats.taken new.queue.items → Advances meaning wire now.keep new_keep filled new
    → IsRunning meaning does wire first (record { keep = new_keep; watch = left; server = new }) after (waits + 1)
runs_on meaning does wire first now waited left awake filled new new_keep faults after waits h same once told lets kept same_limits wait held seated advances =
    let d = lets.done in
    let here : AreDone does first.watch (h.acts ++ once.acts) waited = done-append does first.watch now.watch waited h.acts once.acts h.done once.done in
    let acts : List Act = (h.acts ++ once.acts) ++ d.acts in
    let P : Option Duration → Type 0 = IsPatient first.server.limits in
    let refused : (absent : ℕ) → lets.refused + (refused_in h.acts + absent) ≡ refused_in acts + absent =
    λ absent. omega (arith, refused-append h.acts once.acts, refused-append (h.acts ++ once.acts) d.acts, once.refusals, d.refusals) in
    record {
      held = held;
      seated = seated;
      limits = same_limits ∙ kept.limits ∙ same.limits ∙ h.limits;
      wait = subst (λ l. IsPatient l new.wait) (kept.limits ∙ same.limits ∙ h.limits) wait;
      patient =
          All-append (OnWait P) (h.acts ++ once.acts) d.acts
          (All-append (OnWait P) h.acts once.acts h.patient (waits_weaker (λ asked. asked ≡ now.server.wait) P (λ asked is. subst P (sym is) h.wait) once.acts once.within))
          (unwaited P d.acts d.unwaited);
      acts = acts;
      done = done-append does first.watch waited left (h.acts ++ once.acts) d.acts here d.done;
      advances = λ start connections absent noted before.
          let gone : ℕ = refused_in h.acts + absent in
          let before_it : List Note = noted ++ notes_in h.acts in
          let all : List Note = before_it ++ now.server.service.notes.items in
          let at = becomes_at meaning wire start now.keep connections gone before_it now.server.service.notes.items now.server awake (h.advances start connections absent noted before) same refl told in
          let in_all = lets_go_on meaning wire start now.keep (telling_in awake) (tally_in connections gone all awake) lets.refused all filled at lets.lets (ap (λ s. all ++ s.notes.items) (sym kept.service)) in
          subst (λ l. GoesOnAs meaning wire start new_keep connections (refused_in acts + absent) l new) (sym (noted_all noted now.server.service.notes.items h.acts once.acts d.acts once.noted d.noted))
          (subst (λ n. GoesOnAs meaning wire start new_keep connections n all new) (refused absent) (advances start connections (lets.refused + gone) all in_all));
      failed =
          faults-append 0 (h.acts ++ once.acts) d.acts ∙ d.faults (faults_after 0 (h.acts ++ once.acts)) ∙ faults-append 0 h.acts once.acts
          ∙ ap (λ n. faults_after n once.acts) h.failed ∙ once.faults;
      waited = omega (arith, waits-append h.acts once.acts, waits-append (h.acts ++ once.acts) d.acts, h.waited, once.waits, d.waits);
    }

-- ---- it ends

-- what was left to be told was told, and those that are there were given up, and those that have not come
pub served_over : {K W S Left : Type 0} (meaning : Meaning K Register Left StoreFault) (does : W → Act → W → Type 0) (wire : Wire S) (first now : Standing K W S) (left : W) (connections : ℕ) (told last : Server S)
    → GoesOnAs meaning wire first.keep first.keep connections 0 [] first.server → Runs meaning does wire first now
    → Becomes now.server told → DoesUnwaiting does now.watch left 0 now.server.service.notes.items → told.service.notes.items ≡ []
    → Lets wire (telling_in told) (pending_in told) told.left told.status last → last.service ≡ told.service → pending_in last ≡ 0
    → IsServedOver meaning (EndedOn wire) (record { does = does; begun = first.watch; ended = left }) first.server.limits first.keep now.keep connections last.status
served_over meaning does wire first now left connections told last at runs same tells silent lets kept none =
    let gone : ℕ = refused_in runs.acts + 0 in
    let noted : List Note = notes_in runs.acts ++ now.server.service.notes.items in
    let here = becomes_at meaning wire first.keep now.keep connections gone (notes_in runs.acts) now.server.service.notes.items now.server told (runs.advances first.keep connections 0 [] at) same refl silent in
    let end = lets_go_on meaning wire first.keep now.keep (telling_in told) (tally_in connections gone noted told) told.left noted last here lets (ap (λ s. noted ++ s.notes.items) (sym kept)) in
    let all = finished meaning wire first.keep now.keep connections (told.left + gone) noted last end none in
    let no_more : last.service.notes.items ≡ [] = ap (λ s. s.notes.items) kept ∙ silent in
    record {
      served = all.0;
      acts = runs.acts ++ tells.acts;
      done = done-append does first.watch now.watch left runs.acts tells.acts runs.done tells.done;
      excused = (
        told.left,
        omega (arith, all.1, refused-append runs.acts tells.acts, tells.refusals),
        λ some. over_kept runs.acts tells.acts tells.faults (runs.over (subst (λ n. 0 < n) same.left some)),
      );
      patient = All-append (OnWait (IsPatient first.server.limits)) runs.acts tells.acts runs.patient (unwaited (IsPatient first.server.limits) tells.acts tells.unwaited);
      noted =
          notes-append runs.acts tells.acts ∙ ap (λ l. notes_in runs.acts ++ l) tells.noted ∙ sym (append-nil noted) ∙ ap (λ l. noted ++ l) (sym no_more) ∙ sym all.2;
    }
