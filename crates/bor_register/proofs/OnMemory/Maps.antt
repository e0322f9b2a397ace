-- The order and the maps of members that are looked at one after another.
use Rattle.std.proofs.Common.{◌≡◌, ◌+◌, ◌<◌, ◌++◌, ℕ, true, false, List, [], ◌∷◌, drop, take, length, get_or, sym, refl, ap, ◌∙◌, subst, ◌-◌, ◌≤◌, arith}
use Rattle.std.proofs.lemmas.List.{drop_more, length-take-le, take-append-drop, take_more}
use Rattle.bor_terms.specs.Texts.{is_below}
use Rattle.bor_terms.proofs.Texts.{below_differs, below_trans, same_refl}
use Rattle.bods_read.specs.declared.statement.Statement.{Statement}
use Rattle.bor_records.proofs.OnLinks.Found.{none}
use Rattle.bor_register.specs.Memory.Indexed.{IsGrown, IsIndex}
use Rattle.bor_register.specs.declared.filing.AcceptedFiling.{AcceptedFiling}
use Rattle.bor_register.specs.declared.member.Member.{Member}
use Rattle.bor_register.specs.Register.{AllAbove, IsOrdered, filings_of, is_enrolled, with_filings}
use Rattle.bor_register.proofs.Members.{filings_written, with_filings_same}
use Rattle.bor_register.specs.declared.memory.index.Index.{Index}
use Rattle.bor_register.proofs.OnMemory.Indexed.{index_more, index_same}
use Rattle.bor_register.proofs.OnMemory.Lists.{front_is}

-- ---- names that go up

pub ordered_one : (ms : List Member) → IsOrdered (take 1 ms)
ordered_one [] = tt
ordered_one (m ∷ ms) = (tt, tt)

above_next : (low : List ℕ) (xs : List Member) (l m : Member) → AllAbove low (xs ++ l ∷ []) → is_below l.name m.name ≡ true → AllAbove low ((xs ++ l ∷ []) ++ m ∷ [])
above_next low [] l m h lt = (h.0, (below_trans low l.name m.name h.0 lt, tt))
above_next low (x ∷ xs) l m h lt = (h.0, above_next low xs l m h.1 lt)

ordered_next : (xs : List Member) (l m : Member) → IsOrdered (xs ++ l ∷ []) → is_below l.name m.name ≡ true → IsOrdered ((xs ++ l ∷ []) ++ m ∷ [])
ordered_next [] l m h lt = ((lt, tt), (tt, tt))
ordered_next (x ∷ xs) l m h lt = (above_next x.name xs l m h.0 lt, ordered_next xs l m h.1 lt)

-- one more member stands in order where it is above the one before
pub ordered_more : (ms : List Member) (i : ℕ) (a b : Member) → 1 ≤ i → i < length ms → a ≡ get_or ms (i - 1) a → b ≡ get_or ms i b → is_below a.name b.name ≡ true → IsOrdered (take i ms) → IsOrdered (take (i + 1) ms)
ordered_more ms i a b one lt was is below h =
    let front : take i ms ≡ take (i - 1) ms ++ a ∷ [] = front_is ms i a (omega arith) (omega arith) ∙ ap (λ (m : Member). take (i - 1) ms ++ m ∷ []) (sym was) in
    let all : take (i + 1) ms ≡ (take (i - 1) ms ++ a ∷ []) ++ b ∷ [] =
    take_more ms i b lt ∙ ap (λ (m : Member). take i ms ++ m ∷ []) (sym is) ∙ ap (λ (l : List Member). l ++ b ∷ []) front in
    subst IsOrdered (sym all) (ordered_next (take (i - 1) ms) a b (subst IsOrdered front h) below)

above_at : (low : List ℕ) (xs : List Member) (m : Member) (ys : List Member) → AllAbove low (xs ++ m ∷ ys) → is_below low m.name ≡ true
above_at low [] m ys h = h.0
above_at low (x ∷ xs) m ys h = above_at low xs m ys h.1

absent_by : (xs : List Member) (m : Member) (ys : List Member) → IsOrdered (xs ++ m ∷ ys) → is_enrolled m.name xs ≡ false
absent_by [] m ys h = refl
absent_by (x ∷ xs) m ys h =
    grind (arith, below_differs x.name m.name (above_at x.name xs m ys h.0), absent_by xs m ys h.1)

-- no member before has the name
pub absent_before : (ms : List Member) (i : ℕ) (m : Member) → i < length ms → m ≡ get_or ms i m → IsOrdered ms → is_enrolled m.name (take i ms) ≡ false
absent_before ms i m lt is h =
    let split : ms ≡ take i ms ++ m ∷ drop (i + 1) ms =
    sym (take-append-drop i ms) ∙ ap (λ (l : List Member). take i ms ++ l) (drop_more ms i m lt ∙ ap (λ (n : Member). n ∷ drop (i + 1) ms) (sym is)) in
    absent_by (take i ms) m (drop (i + 1) ms) (subst IsOrdered split h)

-- ---- an agent's filings, one after another

written_twice : (agent : List ℕ) (fs gs : List AcceptedFiling) (ms : List Member) → with_filings agent gs (with_filings agent fs ms) ≡ with_filings agent gs ms
written_twice agent fs gs [] = refl
written_twice agent fs gs (m ∷ ms) = grind (arith, written_twice agent fs gs ms)

enrolled_written : (agent : List ℕ) (fs : List AcceptedFiling) (ms : List Member) → is_enrolled agent (with_filings agent fs ms) ≡ is_enrolled agent ms
enrolled_written agent fs [] = refl
enrolled_written agent fs (m ∷ ms) = grind (arith, enrolled_written agent fs ms)

pub index_none_filed : (agent : List ℕ) (ms : List Member) (x : Index) → filings_of agent ms ≡ [] → IsIndex ms x → IsIndex (with_filings agent [] ms) x
index_none_filed agent ms x none h =
    subst (λ (l : List Member). IsIndex l x) (sym (ap (λ (fs : List AcceptedFiling). with_filings agent fs ms) (sym none) ∙ with_filings_same agent ms)) h

index_filed : (agent : List ℕ) (fs : List AcceptedFiling) (f : AcceptedFiling) (ms : List Member) (old new : Index) → is_enrolled agent ms ≡ true → IsIndex (with_filings agent fs ms) old → IsGrown agent (length fs) 0 f.statements old new → IsIndex (with_filings agent (fs ++ f ∷ []) ms) new
index_filed agent fs f ms old new on h grown =
    let ns = with_filings agent fs ms in
    let own : filings_of agent ns ≡ fs = filings_written agent fs ms on in
    let it = index_more ns agent f old new (enrolled_written agent fs ms ∙ on) h (subst (λ (n : ℕ). IsGrown agent n 0 f.statements old new) (ap (λ (gs : List AcceptedFiling). length gs) (sym own)) grown) in
    rw (own, written_twice agent fs (fs ++ f ∷ []) ms) at it

pub index_filed_more : (agent : List ℕ) (fs : List AcceptedFiling) (i : ℕ) (f : AcceptedFiling) (statements : List Statement) (ms : List Member) (old new : Index) → i < length fs → f ≡ get_or fs i f → statements ≡ f.statements → is_enrolled agent ms ≡ true
    → IsIndex (with_filings agent (take i fs) ms) old → IsGrown agent i 0 statements old new → IsIndex (with_filings agent (take (i + 1) fs) ms) new
index_filed_more agent fs i f statements ms old new lt is same on h grown =
    let long : length (take i fs) ≡ i = length-take-le i fs (omega arith) in
    let more : take (i + 1) fs ≡ take i fs ++ f ∷ [] = take_more fs i f lt ∙ ap (λ (g : AcceptedFiling). take i fs ++ g ∷ []) (sym is) in
    subst (λ (gs : List AcceptedFiling). IsIndex (with_filings agent gs ms) new) (sym more)
    (index_filed agent (take i fs) f ms old new on h
    (subst (λ (n : ℕ). IsGrown agent n 0 f.statements old new) (sym long) (subst (λ (ss : List Statement). IsGrown agent i 0 ss old new) same grown)))

-- ---- a member more

enrolled_last : (xs : List Member) (m : Member) → is_enrolled m.name (xs ++ m ∷ []) ≡ true
enrolled_last [] m = grind (arith, same_refl m.name)
enrolled_last (x ∷ xs) m = grind (arith, enrolled_last xs m)

none_last : (xs : List Member) (m : Member) → is_enrolled m.name xs ≡ false → m.filings ≡ [] → filings_of m.name (xs ++ m ∷ []) ≡ []
none_last [] m fresh none = grind (arith, none)
none_last (x ∷ xs) m fresh none = grind (arith, none_last xs m)

same_last : (name : List ℕ) (xs : List Member) (m : Member) → m.filings ≡ [] → filings_of name (xs ++ m ∷ []) ≡ filings_of name xs
same_last name [] m none = grind (arith, none)
same_last name (x ∷ xs) m none = grind (arith, same_last name xs m)

written_last : (xs : List Member) (m n : Member) (fs : List AcceptedFiling) → n ≡ record m { filings = fs } → is_enrolled m.name xs ≡ false → with_filings m.name fs (xs ++ m ∷ []) ≡ xs ++ n ∷ []
written_last [] m n fs is fresh = grind (arith, is, same_refl m.name)
written_last (x ∷ xs) m n fs is fresh = grind (arith, written_last xs m n fs is)

index_joined : (xs : List Member) (m : Member) (old new : Index) → is_enrolled m.name xs ≡ false → IsIndex xs old
    → ((ms : List Member) → is_enrolled m.name ms ≡ true → filings_of m.name ms ≡ [] → IsIndex ms old → IsIndex (with_filings m.name m.filings ms) new) → IsIndex (xs ++ m ∷ []) new
index_joined xs m old new fresh h add =
    let bare : Member = record m { filings = [] } in
    let ms : List Member = xs ++ bare ∷ [] in
    subst (λ (l : List Member). IsIndex l new) (written_last xs bare m m.filings refl fresh)
    (add ms (enrolled_last xs bare) (none_last xs bare fresh refl) (index_same xs ms old (λ name. same_last name xs bare refl) h))

-- the maps of one more member
pub index_joined_more : (ms : List Member) (i : ℕ) (m : Member) (name : List ℕ) (filings : List AcceptedFiling) (old new : Index) → i < length ms → m ≡ get_or ms i m → name ≡ m.name → filings ≡ m.filings → IsOrdered ms → IsIndex (take i ms) old
    → ((ns : List Member) → is_enrolled name ns ≡ true → filings_of name ns ≡ [] → IsIndex ns old → IsIndex (with_filings name filings ns) new) → IsIndex (take (i + 1) ms) new
index_joined_more ms i m name filings old new lt is named same ordered h add =
    let more : take (i + 1) ms ≡ take i ms ++ m ∷ [] = take_more ms i m lt ∙ ap (λ (n : Member). take i ms ++ n ∷ []) (sym is) in
    subst (λ (l : List Member). IsIndex l new) (sym more)
    (index_joined (take i ms) m old new (absent_before ms i m lt is ordered) h
    (subst (λ (a : List ℕ). (ns : List Member) → is_enrolled a ns ≡ true → filings_of a ns ≡ [] → IsIndex ns old → IsIndex (with_filings a m.filings ns) new) named
    (subst (λ (fs : List AcceptedFiling). (ns : List Member) → is_enrolled name ns ≡ true → filings_of name ns ≡ [] → IsIndex ns old → IsIndex (with_filings name fs ns) new) same add)))
