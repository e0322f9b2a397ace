-- Calls of a watch, one after the other.
use Rattle.std.proofs.Common.{◌≡◌, ◌+◌, inl, inr, ℕ, List, [], ◌∷◌, ◌++◌, Bool, true, false, append-nil, append_assoc, cond, map, Option, refl, ap, subst, sym, ◌∙◌, arith, ◌||◌}
use Rattle.std.specs.List.{All, list_any}
use Rattle.std.proofs.lemmas.List.Elements.{All-append, All-cons, All-nil, All-weaker}
use Rattle.std.proofs.lemmas.List.{map-append}
use Rattle.std.proofs.lemmas.List.Folds.{list_any-append}
use Rattle.std.proofs.lemmas.List.Sums.{sum_by-append}
use Rattle.std.specs.declared.time.Duration.{Duration}
use Rattle.bor_program.specs.declared.log.Note.{Note}
use Rattle.bor_program.specs.Connections.Watching.{Act, Accepts, AreDone, AreTold, Coming, DoesUnwaiting, IsOver, Notes, OnWait, Waits, Watches, WaitsOnce, faults_after, faults_with, is_deaf, is_refusal, is_wait, notes_in, notes_of, refused_in, waits_in}

pub refused-append : (xs ys : List Act) → refused_in (xs ++ ys) ≡ refused_in xs + refused_in ys
refused-append xs ys = sum_by-append (λ act. cond (is_refusal act) 1 0) xs ys

pub waits-append : (xs ys : List Act) → waits_in (xs ++ ys) ≡ waits_in xs + waits_in ys
waits-append xs ys = sum_by-append (λ act. cond (is_wait act) 1 0) xs ys

pub faults-append : (before : ℕ) (xs ys : List Act) → faults_after before (xs ++ ys) ≡ faults_after (faults_after before xs) ys
faults-append before [] ys = refl
faults-append before (x ∷ xs) ys = faults-append (faults_with before x) xs ys

pub done-append : {W : Type 0} (does : W → Act → W → Type 0) (old mid new : W) (xs ys : List Act) → AreDone does old xs mid → AreDone does mid ys new → AreDone does old (xs ++ ys) new
done-append does old mid new [] ys h k = subst (λ w. AreDone does w ys new) h k
done-append does old mid new (x ∷ xs) ys h k = (h.0, h.1, done-append does h.0 mid new xs ys h.2 k)

pub notes-append : (xs ys : List Act) → notes_in (xs ++ ys) ≡ notes_in xs ++ notes_in ys
notes-append [] ys = refl
notes-append (act ∷ xs) ys = ap (λ l. notes_of act ++ l) (notes-append xs ys) ∙ sym (append_assoc (notes_of act) (notes_in xs) (notes_in ys))

one_act : (P : Option Duration → Type 0) (act : Act) → OnWait P act → All (OnWait P) (act ∷ [])
one_act P act is = All-cons (OnWait P) act [] is (All-nil (OnWait P))

wait_weaker : (P Q : Option Duration → Type 0) → ((limit : Option Duration) → P limit → Q limit) → (act : Act) → OnWait P act → OnWait Q act
wait_weaker P Q so (Waits limit failed) is = so limit is
wait_weaker P Q so act is = tt

pub waits_weaker : (P Q : Option Duration → Type 0) → ((limit : Option Duration) → P limit → Q limit) → (acts : List Act) → All (OnWait P) acts → All (OnWait Q) acts
waits_weaker P Q so acts h = All-weaker (OnWait P) (OnWait Q) (wait_weaker P Q so) acts h

-- a call that doesn't wait, whatever is to hold of waits
pub unwaited : (P : Option Duration → Type 0) (acts : List Act) → All (OnWait (λ limit. ⊥)) acts → All (OnWait P) acts
unwaited P acts h = waits_weaker (λ limit. ⊥) P (λ limit none. absurd none) acts h

-- ---- without a wait

pub does_none : {W : Type 0} (does : W → Act → W → Type 0) (watch : W) → DoesUnwaiting does watch watch 0 []
does_none does watch = record { acts = []; done = refl; refusals = refl; waits = refl; faults = λ before. refl; unwaited = All-nil (OnWait (λ limit. ⊥)); noted = refl }

pub does_then : {W : Type 0} (does : W → Act → W → Type 0) (old mid new : W) (one two : ℕ) (first second : List Note) → DoesUnwaiting does old mid one first → DoesUnwaiting does mid new two second → DoesUnwaiting does old new (two + one) (first ++ second)
does_then does old mid new one two first second h k = record {
  acts = h.acts ++ k.acts;
  done = done-append does old mid new h.acts k.acts h.done k.done;
  refusals = omega (arith, refused-append h.acts k.acts, h.refusals, k.refusals);
  waits = omega (arith, waits-append h.acts k.acts, h.waits, k.waits);
  faults = λ before. faults-append before h.acts k.acts ∙ k.faults (faults_after before h.acts) ∙ h.faults before;
  unwaited = All-append (OnWait (λ limit. ⊥)) h.acts k.acts h.unwaited k.unwaited;
  noted = notes-append h.acts k.acts ∙ ap (λ l. l ++ notes_in k.acts) h.noted ∙ ap (λ l. first ++ l) k.noted;
}

pub does_notes : {W : Type 0} (does : W → Act → W → Type 0) (old new : W) (note : Note) → does old (Notes note) new → DoesUnwaiting does old new 0 (note ∷ [])
does_notes does old new note h = record { acts = Notes note ∷ []; done = (new, h, refl); refusals = refl; waits = refl; faults = λ before. refl; unwaited = one_act (λ limit. ⊥) (Notes note) tt; noted = refl }

-- notes are told without a wait, and none is of a client that could not be let in
pub does_tells : {W : Type 0} (does : W → Act → W → Type 0) (old new : W) (notes : List Note) → AreTold does old notes new → DoesUnwaiting does old new 0 notes
does_tells does old new [] h = subst (λ w. DoesUnwaiting does old w 0 []) (sym h) (does_none does old)
does_tells does old new (note ∷ notes) h =
    does_then does old h.0 new 0 0 (note ∷ []) notes (does_notes does old h.0 note h.1) (does_tells does h.0 new notes h.2)

-- one more is told
pub told_more : {W : Type 0} (does : W → Act → W → Type 0) (old mid new : W) (notes : List Note) (note : Note) → AreTold does old notes mid → does mid (Notes note) new
    → AreTold does old (notes ++ note ∷ []) new
told_more does old mid new notes note h k =
    subst (λ acts. AreDone does old acts new) (sym (map-append Notes notes (note ∷ [])))
    (done-append does old mid new (map Notes notes) (Notes note ∷ []) h (new, k, refl))

pub does_watches : {W : Type 0} (does : W → Act → W → Type 0) (old new : W) (failed : Bool) → does old (Watches failed) new → DoesUnwaiting does old new 0 []
does_watches does old new failed h = record { acts = Watches failed ∷ []; done = (new, h, refl); refusals = refl; waits = refl; faults = λ before. refl; unwaited = one_act (λ limit. ⊥) (Watches failed) tt; noted = refl }

pub does_accepts : {W : Type 0} (does : W → Act → W → Type 0) (old new : W) (came : Coming) → does old (Accepts came) new → DoesUnwaiting does old new (refused_in (Accepts came ∷ [])) []
does_accepts does old new came h = record { acts = Accepts came ∷ []; done = (new, h, refl); refusals = refl; waits = refl; faults = λ before. refl; unwaited = one_act (λ limit. ⊥) (Accepts came) tt; noted = refl }

-- ---- a wait

pub waits_once : {W : Type 0} (does : W → Act → W → Type 0) (old told new : W) (limit : Option Duration) (failed : Bool) (before now : ℕ) (notes : List Note) → DoesUnwaiting does old told 0 notes → does told (Waits limit failed) new → faults_with before (Waits limit failed) ≡ now
    → WaitsOnce does old new before now notes limit
waits_once does old told new limit failed before now notes h once is =
    let last : List Act = Waits limit failed ∷ [] in
    let none : refused_in last ≡ 0 = refl in
    let one : waits_in last ≡ 1 = refl in
    record {
      acts = h.acts ++ last;
      done = done-append does old told new h.acts last h.done (new, once, refl);
      refusals = omega (arith, refused-append h.acts last, h.refusals, none);
      waits = omega (arith, waits-append h.acts last, h.waits, one);
      faults = faults-append before h.acts last ∙ ap (λ n. faults_with n (Waits limit failed)) (h.faults before) ∙ is;
      within =
          All-append (OnWait (λ asked. asked ≡ limit)) h.acts last (unwaited (λ asked. asked ≡ limit) h.acts h.unwaited)
          (one_act (λ asked. asked ≡ limit) (Waits limit failed) refl);
      noted = notes-append h.acts last ∙ append-nil (notes_in h.acts) ∙ h.noted;
    }

-- ---- until a server may end

deaf_or : (a b : Bool) → a ≡ true → (a || b) ≡ true
deaf_or true b h = h
deaf_or false b h = cc

-- what is called behind that, without a wait, leaves it so
pub over_kept : (xs ys : List Act) → ((before : ℕ) → faults_after before ys ≡ before) → IsOver xs → IsOver (xs ++ ys)
over_kept xs ys same (inl deaf) = inl (list_any-append is_deaf xs ys ∙ deaf_or (list_any is_deaf xs) (list_any is_deaf ys) deaf)
over_kept xs ys same (inr (inl many)) = inr (inl (omega (arith, many, faults-append 0 xs ys, same (faults_after 0 xs))))
over_kept xs ys same (inr (inr long)) = inr (inr (omega (arith, long, waits-append xs ys)))
