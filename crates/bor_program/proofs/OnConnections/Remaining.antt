-- Clients that are still there after a turn.
use Rattle.std.proofs.Common.{◌≡◌, ◌+◌, ◌-◌, ◌<◌, ◌∙◌, ℕ, List, [], ◌∷◌, ◌++◌, Bool, Option, Some, false, ap, append_assoc, arith, drop, get_or, length, refl, set, subst, suc, sym, take, zero, length-drop}
use Rattle.std.proofs.Math.Seq.{drop-append_seam}
use Rattle.std.proofs.lemmas.List.Elements.{All-more, All-weaker}
use Rattle.std.specs.declared.time.Duration.{Duration}
use Rattle.bor_program.specs.declared.connections.server.Client.{Client}
use Rattle.bor_program.specs.declared.connections.server.Server.{Server}
use Rattle.bor_program.specs.declared.connections.watch.Places.{Places}
use Rattle.bor_program.specs.Connections.Servers.{AllRemain, FirstRemains, IsSeatedAmong, IsStill, NamesNone, Waiting}
use Rattle.bor_program.specs.Connections.Times.{IsOverdue}

still_free : (ready : List Bool) (place other : ℕ) → get_or ready other false ≡ false → get_or (set ready place false) other false ≡ false
still_free [] place other is = is
still_free (x ∷ rest) zero zero is = refl
still_free (x ∷ rest) zero (suc other) is = is
still_free (x ∷ rest) (suc place) zero is = is
still_free (x ∷ rest) (suc place) (suc other) is = still_free rest place other is

-- a mark was taken away
pub names_none : (old new : Places) (place : ℕ) → new.ready ≡ set old.ready place false → NamesNone old new
names_none old new place is = λ other free. ap (λ l. get_or l other false) is ∙ still_free old.ready place other free

still_among : {S : Type 0} (client : Client S) (clients more : List (Client S)) → IsSeatedAmong client clients → IsSeatedAmong client (clients ++ more)
still_among client clients more h =
    (h.0, h.1 ++ more, h.2, ap (λ l. l ++ more) h.3 ∙ append_assoc h.0 (h.2 ∷ h.1) more, h.4, h.5)

-- the others are those behind the one that has had its turn, and those behind them those that had theirs before
pub remain_on : {S : Type 0} (now : Duration) (server old new : Server S) (k : ℕ) (rest done more : List (Client S)) (client : Client S) → k < length server.queue.items → client ≡ get_or server.queue.items k client
    → length rest ≡ length server.queue.items - (k + 1) → old.queue.items ≡ client ∷ (rest ++ done) → new.queue.items ≡ (rest ++ done) ++ more → old.limits ≡ server.limits → NamesNone server.places old.places
    → FirstRemains (Some now) old new
    → AllRemain now server (take k server.queue.items) (drop (length server.queue.items - k) old.queue.items)
    → AllRemain now server (take (k + 1) server.queue.items) (drop (length server.queue.items - (k + 1)) new.queue.items)
remain_on {S = S} now server old new k rest done more client lt is count was left limits named first h =
    let later : List (Client S) = drop (length server.queue.items - (k + 1)) new.queue.items in
    let P : Client S → Type 0 = λ c. IsStill server.places c → (IsOverdue server.limits c.timing.since c.phase now → ⊥) → IsSeatedAmong c later in
    let P0 : Client S → Type 0 = λ c. IsStill server.places c → (IsOverdue server.limits c.timing.since c.phase now → ⊥) → IsSeatedAmong c (drop (length server.queue.items - k) old.queue.items) in
    let one_more : length server.queue.items - k ≡ suc (length rest) = omega (arith, count, lt) in
    let before : drop (length server.queue.items - k) old.queue.items ≡ done =
    ap (λ l. drop (length server.queue.items - k) l) was ∙ ap (λ m. drop m (client ∷ (rest ++ done))) one_more ∙ drop-append_seam rest done in
    let behind : (l : List (Client S)) → new.queue.items ≡ (rest ++ done) ++ l → later ≡ done ++ l =
    λ l so. ap (λ m. drop m new.queue.items) (sym count) ∙ ap (λ q. drop (length rest) q) (so ∙ append_assoc rest done l) ∙ drop-append_seam rest (done ++ l) in
    let first_there : P client = λ still due.
    let kept = first now client (rest ++ done) refl was (still.0, named client.place still.1) (λ over. due (subst (λ l. IsOverdue l client.timing.since client.phase now) limits over)) in
    (done, [], kept.0, behind (kept.0 ∷ []) kept.1, kept.2, kept.3) in
    All-more P server.queue.items k client lt
    (All-weaker P0 P (λ c among still due. subst (IsSeatedAmong c) (sym (behind more left)) (still_among c done more (subst (IsSeatedAmong c) before (among still due)))) (take k server.queue.items) h)
    (subst P is first_there)

split_at : {X : Type 0} (xs : List X) (k : ℕ) → k < length xs → (x : X) × (x ≡ get_or xs k x) × (drop k xs ≡ x ∷ drop (k + 1) xs)
split_at [] k lt = absurd (omega (arith, lt))
split_at (x ∷ xs) zero lt = (x, refl, refl)
split_at (x ∷ xs) (suc k) lt =
    let h = split_at xs k (omega (arith, lt)) in
    let next : suc (k + 1) ≡ suc k + 1 = omega arith in
    (h.0, h.1, h.2 ∙ ap (λ m. h.0 ∷ drop m (x ∷ xs)) next)

-- one more of these has had its turn
pub remain_turn : {S : Type 0} (time : Option Duration) (now : Duration) (server begun old new : Server S) (k : ℕ) → k < length server.queue.items → time ≡ Some now → begun.limits ≡ server.limits
    → Waiting time (drop k server.queue.items) begun old → Waiting time (drop 1 old.queue.items) old new → NamesNone server.places old.places → FirstRemains time old new
    → AllRemain now server (take k server.queue.items) (drop (length server.queue.items - k) old.queue.items)
    → AllRemain now server (take (k + 1) server.queue.items) (drop (length server.queue.items - (k + 1)) new.queue.items)
remain_turn time now server begun old new k lt is same waits turn named first h =
    let items = server.queue.items in
    let at = split_at items k lt in
    let was : old.queue.items ≡ at.0 ∷ (drop (k + 1) items ++ waits.clients) = waits.queue ∙ ap (λ l. l ++ waits.clients) at.2 in
    remain_on now server old new k (drop (k + 1) items) waits.clients turn.clients at.0 lt at.1 (length-drop (k + 1) items) was (turn.queue ∙ ap (λ l. drop 1 l ++ turn.clients) was)
    (waits.limits ∙ same) named (subst (λ t. FirstRemains t old new) is first) h
