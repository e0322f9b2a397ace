-- Filings are read as before where others are left out: one that no later one stands on, and all that aren't published by a day, since of each record what is published is the front of what is live.
use Rattle.std.proofs.Common.{◌≡◌, ℕ, ℤ, ◌+◌, List, [], ◌∷◌, ◌++◌, length, map, None, Result, Ok, Err, refl, ◌∙◌, sym, ap, arith, true, false, Bool, Option, Some, option_map, subst, append_assoc, cond}
use Rattle.std.specs.Prelude.{if◌then◌else◌, ◌||◌, ◌==◌, ◌&&◌, not, int_lt, int_le, filter}
use Rattle.std.specs.List.{list_any, last_or}
use Rattle.std.specs.Option.{option_or}
use Rattle.std.proofs.lemmas.Bool.{cond_both, or_parts, and_parts}
use Rattle.std.proofs.lemmas.List.{append-nil}
use Rattle.std.proofs.lemmas.List.Elements.{filter-append}
use Rattle.std.proofs.lemmas.Int.{ints}
use Rattle.bor_terms.proofs.Texts.{same_sym, same_is}
use Rattle.bods_read.specs.declared.statement.Statement.{Statement}
use Rattle.bods_read.specs.declared.statement.Status.{Status}
use Rattle.bods_read.specs.declared.fault.FileFault.{FileFault}
use Rattle.bods_read.specs.File.{reading}
use Rattle.bor_records.specs.Admission.{Live, is_of, last_of, admission, admitted, known_of, has_last}
use Rattle.bor_records.specs.Settling.{has_id, verdict, as_settled, as_live, ahead, settled_then, settled_from, settled}
use Rattle.bor_records.proofs.Settled.{last_of-append, has_id-append, verdict_is}
use Rattle.bor_register.specs.declared.filing.AcceptedFiling.{AcceptedFiling}
use Rattle.bor_register.specs.Register.{filing_keyed}
use Rattle.bor_register.specs.Withdrawal.{shares_record, has_successor, with_withdrawn}
use Rattle.bor_desk.specs.Operations.Lodging.{told_settled, settled_reading}
use Rattle.bor_desk.specs.Operations.Legality.{IsNumberedFrom, IsKeyedOnce, IsReadFromFile, AreRead, AreLegal}
use Rattle.bor_desk.proofs.OnOperations.Additions.{first_settled, told_is, verdict_gives}
use Rattle.bor_terms.specs.Texts.{is_same}
use Rattle.bor_records.specs.declared.admission.Last.{Last}
use Rattle.bor_register.specs.Publication.{is_published}
use Rattle.bor_register.specs.Live.{live_of}
use Rattle.bor_desk.specs.Operations.Laws.{live_series, IsPrefix}

-- ---- live statements without those of one filing

-- one of these statements is of the other's record
abbrev share_its : List Statement → Statement → Bool
share_its gone t = list_any (λ s. is_of s.declaration s.rec t) gone

-- one of these statements is of the record of one of the others
abbrev share : List Statement → List Statement → Bool
share gone ss = list_any (λ s. list_any (λ t. is_of s.declaration s.rec t) ss) gone

-- Facts that stay of the live statements where some are gone: a free identifier stays free, and the last of a record that none of those gone is of stays the last.
record IsWithout (gone : List Statement) (live kept : List Live) : Type 0 where
  free : (id : List ℕ) → has_id id live ≡ false → has_id id kept ≡ false
  last : (t : Statement) → share_its gone t ≡ false → last_of t.declaration t.rec live ≡ last_of t.declaration t.rec kept

-- two statements are of one record either way round
is_of-sym : (s t : Statement) → is_of s.declaration s.rec t ≡ is_of t.declaration t.rec s
is_of-sym s t = rw (same_sym t.declaration s.declaration, same_sym t.rec s.rec) refl

-- where no item passes one of two tests, none passes either of them
none_either : {X : Type 0} (p q : X → Bool) (xs : List X) → list_any (λ x. p x || q x) xs ≡ false → (list_any p xs ≡ false) × (list_any q xs ≡ false)
none_either p q [] h = (refl, refl)
none_either p q (x ∷ xs) h = grind (arith, none_either p q xs)

-- a record that none of these statements is of has no last one among them
none_of : (gone : List Statement) (due : ℤ) (t : Statement) → share_its gone t ≡ false → last_of t.declaration t.rec (map (as_live due) gone) ≡ None
none_of [] due t h = refl
none_of (s ∷ gone) due t h = grind (arith, is_of-sym s t, none_of gone due t)

-- a filing's statements are the last that are live
without_last : (live : List Live) (due : ℤ) (gone : List Statement) → IsWithout gone (live ++ map (as_live due) gone) (live ++ [])
without_last live due gone = record {
  free = λ id h. ap (has_id id) (append-nil live) ∙ (or_parts (has_id id live) (has_id id (map (as_live due) gone)) (sym (has_id-append id live (map (as_live due) gone)) ∙ h)).0;
  last = λ t h. last_of-append t.declaration t.rec live (map (as_live due) gone) ∙ ap (λ o. option_or o (last_of t.declaration t.rec live)) (none_of gone due t h) ∙ ap (last_of t.declaration t.rec) (sym (append-nil live));
}

-- more statements are live after them
without-more : (gone : List Statement) (live kept more : List Live) → IsWithout gone live kept → IsWithout gone (live ++ more) (kept ++ more)
without-more gone live kept more w = record {
  free = λ id h. grind (arith, has_id-append id live more, has_id-append id kept more, w.free id);
  last = λ t h. last_of-append t.declaration t.rec live more ∙ ap (option_or (last_of t.declaration t.rec more)) (w.last t h) ∙ sym (last_of-append t.declaration t.rec kept more);
}

-- ---- what is settled after them

verdict_kept : (live kept : List Live) (s : Statement) (due : ℤ) (status : Status) → has_id s.id kept ≡ false → admitted kept s due ≡ admitted live s due → verdict live s due ≡ Ok status → verdict kept s due ≡ Ok status
verdict_kept live kept s due status free same h = grind (arith, verdict_is live s due, verdict_is kept s due)

-- a statement that is of none of their records is settled as it was
verdict-without : (gone : List Statement) (live kept : List Live) (s : Statement) (due : ℤ) (status : Status) → IsWithout gone live kept → share_its gone s ≡ false → verdict live s due ≡ Ok status → verdict kept s due ≡ Ok status
verdict-without gone live kept s due status w other h =
    verdict_kept live kept s due status (w.free s.id (verdict_gives live s due status h).0) (ap (λ o. admission o s due) (sym (w.last s other))) h

-- statements that are of none of their records are settled as they were
settled_from-without : (gone : List Statement) (live kept : List Live) (place : ℕ) (due : ℤ) (ss out : List Statement) → IsWithout gone live kept → settled_from place live due ss ≡ Ok out → share gone out ≡ false →
    settled_from place kept due ss ≡ Ok out
settled_from-without gone live kept place due [] out w h others = h
settled_from-without gone live kept place due (s ∷ ss) out w h others =
    let f = first_settled place live due s ss out h in
    let t = as_settled f.status s in
    let both = none_either (λ s. is_of s.declaration s.rec t) (λ s. list_any (λ t. is_of s.declaration s.rec t) f.others) gone (ap (share gone) f.all ∙ others) in
    ap (λ v. settled_then place s v (λ settled. settled_from (place + 1) (kept ++ as_live due settled ∷ []) due ss)) (verdict-without gone live kept s due f.status w both.0 f.first)
    ∙ ap (ahead t) (settled_from-without gone (live ++ as_live due t ∷ []) (kept ++ as_live due t ∷ []) (place + 1) due ss f.others (without-more gone live kept (as_live due t ∷ []) w) f.later both.1) ∙ ap Ok f.all

settled_reading-without : (gone : List Statement) (live kept : List Live) (due : ℤ) (file : Result (List Statement) FileFault) (out : List Statement) → IsWithout gone live kept → settled_reading live due file ≡ Ok out →
    share gone out ≡ false → settled_reading kept due file ≡ Ok out
settled_reading-without gone live kept due (Err fault) out w h others = h
settled_reading-without gone live kept due (Ok ss) out w h others = ap told_settled (settled_from-without gone live kept 1 due ss out w (told_is (settled live due ss) out h) others)

-- later filings that have no record of the filing's are as their files are read
read-without : (f : AcceptedFiling) (live kept : List Live) (fs : List AcceptedFiling) → IsWithout f.statements live kept → AreRead live fs → list_any (shares_record f) fs ≡ false → AreRead kept fs
read-without f live kept [] w h alone = tt
read-without f live kept (g ∷ fs) w h alone = (by_withdrawn g.withdrawn h.0, read-without f _ _ fs (without-more f.statements live kept (map (as_live g.due) g.statements) w) h.1 both.1)
  where
    both : (shares_record f g ≡ false) × (list_any (shares_record f) fs ≡ false)
    both = or_parts (shares_record f g) (list_any (shares_record f) fs) alone

    by_withdrawn : (b : Bool) → IsReadFromFile b live g → IsReadFromFile b kept g
    by_withdrawn true r = r
    by_withdrawn false r = settled_reading-without f.statements live kept g.due (reading g.bytes) g.statements w r both.0

-- ---- an agent's filings once one is withdrawn

numbered-with_withdrawn : (number n : ℕ) (fs : List AcceptedFiling) → IsNumberedFrom n fs → IsNumberedFrom n (with_withdrawn number fs)
numbered-with_withdrawn number n [] h = tt
numbered-with_withdrawn number n (f ∷ fs) h = cond_both (f.number == number) _ _ (IsNumberedFrom n) (λ same. h) (λ other. (h.0, numbered-with_withdrawn number (n + 1) fs h.1))

length-with_withdrawn : (number : ℕ) (fs : List AcceptedFiling) → length (with_withdrawn number fs) ≡ length fs
length-with_withdrawn number [] = refl
length-with_withdrawn number (f ∷ fs) = grind (arith, length-with_withdrawn number fs)

filing_keyed-with_withdrawn : (key : List ℕ) (number : ℕ) (fs : List AcceptedFiling) → filing_keyed key fs ≡ None → filing_keyed key (with_withdrawn number fs) ≡ None
filing_keyed-with_withdrawn key number [] h = refl
filing_keyed-with_withdrawn key number (f ∷ fs) h = grind (arith, filing_keyed-with_withdrawn key number fs)

keyed-with_withdrawn : (number : ℕ) (fs : List AcceptedFiling) → IsKeyedOnce fs → IsKeyedOnce (with_withdrawn number fs)
keyed-with_withdrawn number [] h = tt
keyed-with_withdrawn number (f ∷ fs) h =
    cond_both (f.number == number) _ _ IsKeyedOnce (λ same. h) (λ other. (filing_keyed-with_withdrawn f.key number fs h.0, keyed-with_withdrawn number fs h.1))

read-with_withdrawn : (number : ℕ) (live : List Live) (fs : List AcceptedFiling) → AreRead live fs → has_successor number fs ≡ false → AreRead live (with_withdrawn number fs)
read-with_withdrawn number live [] h alone = tt
read-with_withdrawn number live (f ∷ fs) h alone = cond_both (f.number == number) _ _ (AreRead live)
    (λ same. (refl, read-without f _ _ fs (without_last live f.due f.statements) h.1 (rw same at alone)))
    (λ other. (h.0, read-with_withdrawn number (live ++ map (as_live f.due) f.statements) fs h.1 (rw other at alone)))

pub withdrawn-legal : (number : ℕ) (own : List AcceptedFiling) → AreLegal own → has_successor number own ≡ false → AreLegal (with_withdrawn number own)
withdrawn-legal number own legal alone = record {
  numbered = numbered-with_withdrawn number 1 own legal.numbered;
  few = rw (length-with_withdrawn number own) legal.few;
  keyed = keyed-with_withdrawn number own legal.keyed;
  read = read-with_withdrawn number [] own legal.read alone;
}

-- ---- due days of a record

-- the last of a record is due after the day
abbrev is_late : ℤ → Option Last → Bool
is_late day last = has_last (λ l. int_lt day l.due) last

due_after : (due day : ℤ) → int_le due day ≡ false → int_lt day due ≡ true
due_after due day h = grind (arith, ints)

-- what isn't due after a day isn't due after a later day
not_late : (last : Option Last) (due day : ℤ) → int_le due day ≡ true → is_late due last ≡ false → is_late day last ≡ false
not_late last due day h k = grind (arith, ints)

-- an admitted statement isn't due before the last of its record
due_in_order : (last : Option Last) (s : Statement) (due : ℤ) (status : Status) → admission last s due ≡ Ok status → is_late due last ≡ false
due_in_order last s due status h = grind arith

-- ---- the published ones of live statements

-- Facts that the published ones of live statements keep: a free identifier stays free; of each record they are the front, and all of it where its last is due by the day.
record IsFront (day : ℤ) (live kept : List Live) : Type 0 where
  free : (id : List ℕ) → has_id id live ≡ false → has_id id kept ≡ false
  whole : (declaration rec : List ℕ) → is_late day (last_of declaration rec live) ≡ false → live_series declaration rec live ≡ live_series declaration rec kept
  front : (declaration rec : List ℕ) → IsPrefix (live_series declaration rec kept) (live_series declaration rec live)

none_front : (day : ℤ) → IsFront day [] []
none_front day = record { free = λ id h. refl; whole = λ declaration rec h. refl; front = λ declaration rec. ([], refl) }

-- the last of a record, and all of it, once one more statement is live
last_push : (declaration rec : List ℕ) (live : List Live) (l : Live) (b : Bool) → is_of declaration rec l.statement ≡ b → last_of declaration rec (live ++ l ∷ []) ≡ if b then Some (known_of l) else last_of declaration rec live
last_push declaration rec live l b e = grind (arith, last_of-append declaration rec live (l ∷ []))

series_push : (declaration rec : List ℕ) (live : List Live) (l : Live) (b : Bool) → is_of declaration rec l.statement ≡ b → live_series declaration rec (live ++ l ∷ []) ≡ if b then live_series declaration rec live ++ l ∷ [] else live_series declaration rec live
series_push declaration rec live l b e = grind (arith, filter-append (λ l. is_of declaration rec l.statement) live (l ∷ []), append-nil (live_series declaration rec live))

-- a statement of a record has its declaration and its identifier
names_of : (declaration rec : List ℕ) (s : Statement) → is_of declaration rec s ≡ true → (s.declaration ≡ declaration) × (s.rec ≡ rec)
names_of declaration rec s h = let both = and_parts (is_same s.declaration declaration) (is_same s.rec rec) h in (same_is s.declaration declaration both.0, same_is s.rec rec both.1)

-- a draft's statement is live after them
draft_more : (day due : ℤ) (live kept : List Live) (s : Statement) → int_le due day ≡ false → IsFront day live kept → IsFront day (live ++ as_live due s ∷ []) kept
draft_more day due live kept s h w = record {
  free = λ id e. w.free id (or_parts (has_id id live) (has_id id (l ∷ [])) (sym (has_id-append id live (l ∷ [])) ∙ e)).0;
  whole = λ declaration rec early.
      let last = last_push declaration rec live l (is_of declaration rec s) refl in
      grind (arith, last, series_push declaration rec live l (is_of declaration rec s) refl, due_after due day h, w.whole declaration rec);
  front = λ declaration rec.
      let old = w.front declaration rec in
      let new = live_series declaration rec (l ∷ []) in
      (old.0 ++ new, filter-append _ live (l ∷ []) ∙ ap (λ ls. ls ++ new) old.1 ∙ append_assoc (live_series declaration rec kept) old.0 new);
}
  where
    l : Live
    l = as_live due s

-- all of a draft's statements are
draft_all : (day due : ℤ) (live kept : List Live) (ss : List Statement) → int_le due day ≡ false → IsFront day live kept → IsFront day (live ++ map (as_live due) ss) kept
draft_all day due live kept [] h w = rw append-nil w
draft_all day due live kept (s ∷ ss) h w = rw append_assoc at (draft_all day due (live ++ as_live due s ∷ []) kept ss h (draft_more day due live kept s h w))

-- a published statement is live after them: its record's last was due by the day
published_more : (day due : ℤ) (live kept : List Live) (s : Statement) → is_late day (last_of s.declaration s.rec live) ≡ false → IsFront day live kept →
    IsFront day (live ++ as_live due s ∷ []) (kept ++ as_live due s ∷ [])
published_more day due live kept s early w = record {
  free = λ id e. let both = or_parts (has_id id live) (has_id id (l ∷ [])) (sym (has_id-append id live (l ∷ [])) ∙ e) in has_id-append id kept (l ∷ []) ∙ rw (w.free id both.0, both.1) refl;
  whole = λ declaration rec in_time.
      let more = series_push declaration rec live l (is_of declaration rec s) refl in
      let last = last_push declaration rec live l (is_of declaration rec s) refl in
      grind (arith, last, more, series_push declaration rec kept l (is_of declaration rec s) refl, w.whole declaration rec, its_record declaration rec);
  front = λ declaration rec. front declaration rec (is_of declaration rec s) refl;
}
  where
    l : Live
    l = as_live due s

    its_record : (declaration rec : List ℕ) → is_of declaration rec s ≡ true → live_series declaration rec (live ++ l ∷ []) ≡ live_series declaration rec (kept ++ l ∷ [])
    its_record declaration rec e =
        let names = names_of declaration rec s e in
        let here = subst (λ d. is_late day (last_of d rec live) ≡ false) names.0 (subst (λ r. is_late day (last_of s.declaration r live) ≡ false) names.1 early) in
        series_push declaration rec live l true e ∙ ap (λ ls. ls ++ l ∷ []) (w.whole declaration rec here) ∙ sym (series_push declaration rec kept l true e)

    front : (declaration rec : List ℕ) (b : Bool) → is_of declaration rec s ≡ b → IsPrefix (live_series declaration rec (kept ++ l ∷ [])) (live_series declaration rec (live ++ l ∷ []))
    front declaration rec true e = ([], its_record declaration rec e ∙ sym (append-nil (live_series declaration rec (kept ++ l ∷ []))))
    front declaration rec false e =
        let old = w.front declaration rec in
        (old.0, series_push declaration rec live l false e ∙ old.1 ∙ ap (λ ls. ls ++ old.0) (sym (series_push declaration rec kept l false e)))

-- ---- published statements are settled by themselves

-- a statement settled with a published file: its record's last was due by the day, and it is settled so after the published ones alone
verdict_published : (day due : ℤ) (live kept : List Live) (s : Statement) (status : Status) → int_le due day ≡ true → IsFront day live kept → verdict live s due ≡ Ok status →
    (is_late day (last_of s.declaration s.rec live) ≡ false) × (verdict kept s due ≡ Ok status)
verdict_published day due live kept s status by_day w h =
    let last = last_of s.declaration s.rec live in
    let given = verdict_gives live s due status h in
    let early = not_late last due day by_day (due_in_order last s due status given.1) in (
      early,
      verdict_kept live kept s due status (w.free s.id given.0) (ap (λ ls. admission (option_map known_of (last_or None ls)) s due) (sym (w.whole s.declaration s.rec early))) h,
    )

-- a published file's statements are settled after the published ones alone as they were, and are live after them
settled_published : (day due : ℤ) (live kept : List Live) (place : ℕ) (ss out : List Statement) → int_le due day ≡ true → IsFront day live kept → settled_from place live due ss ≡ Ok out →
    (settled_from place kept due ss ≡ Ok out) × IsFront day (live ++ map (as_live due) out) (kept ++ map (as_live due) out)
settled_published day due live kept place [] out by_day w h =
    let none : [] ≡ out = cc in
    (h, subst (λ ts. IsFront day (live ++ map (as_live due) ts) (kept ++ map (as_live due) ts)) none (rw (append-nil live, append-nil kept) w))
settled_published day due live kept place (s ∷ ss) out by_day w h =
    let f = first_settled place live due s ss out h in
    let t = as_settled f.status s in
    let first = verdict_published day due live kept s f.status by_day w f.first in
    let more = settled_published day due (live ++ as_live due t ∷ []) (kept ++ as_live due t ∷ []) (place + 1) ss f.others by_day (published_more day due live kept t first.0 w) f.later in (
      ap (λ v. settled_then place s v (λ settled. settled_from (place + 1) (kept ++ as_live due settled ∷ []) due ss)) first.1 ∙ ap (ahead t) more.0 ∙ ap Ok f.all,
      subst (λ ts. IsFront day (live ++ map (as_live due) ts) (kept ++ map (as_live due) ts)) f.all (rw (append_assoc live (as_live due t ∷ []) _, append_assoc kept (as_live due t ∷ []) _) at more.1),
    )

-- and so for a file as it is read
reading_published : (day due : ℤ) (live kept : List Live) (file : Result (List Statement) FileFault) (out : List Statement) → int_le due day ≡ true → IsFront day live kept → settled_reading live due file ≡ Ok out →
    (settled_reading kept due file ≡ Ok out) × IsFront day (live ++ map (as_live due) out) (kept ++ map (as_live due) out)
reading_published day due live kept (Err fault) out by_day w h = absurd cc
reading_published day due live kept (Ok ss) out by_day w h =
    let both = settled_published day due live kept 1 ss out by_day w (told_is (settled live due ss) out h) in
    (ap told_settled both.0, both.1)

-- ---- an agent's published filings

-- the published ones of filings that are legal after live statements are legal after the published ones of those
published_from : (day : ℤ) (live kept : List Live) (fs : List AcceptedFiling) → IsFront day live kept → AreRead live fs →
    AreRead kept (filter (is_published day) fs) × IsFront day (live ++ live_of fs) (kept ++ live_of (filter (is_published day) fs))
published_from day live kept [] w h = (tt, rw (append-nil live, append-nil kept) w)
published_from day live kept (f ∷ fs) w h = by_tests f.withdrawn (int_le f.due day) refl refl h.0 (λ kept' w'. published_from day _ kept' fs w' h.1)
  where
    here : List Live
    here = map (as_live f.due) f.statements

    rest : List AcceptedFiling
    rest = filter (is_published day) fs

    Later : List Live → Type 0
    Later kept' = AreRead kept' rest × IsFront day ((live ++ here) ++ live_of fs) (kept' ++ live_of rest)

    left_out : IsFront day (live ++ here) kept → ((kept' : List Live) → IsFront day (live ++ here) kept' → Later kept') → AreRead kept rest × IsFront day (live ++ live_of (f ∷ fs)) (kept ++ live_of rest)
    left_out w' again = let later = again kept w' in (later.0, rw append_assoc at later.1)

    by_tests : (withdrawn by_day : Bool) → f.withdrawn ≡ withdrawn → int_le f.due day ≡ by_day → IsReadFromFile withdrawn live f → ((kept' : List Live) → IsFront day (live ++ here) kept' → Later kept') →
        let gs = cond (not withdrawn && by_day) (f ∷ rest) rest in AreRead kept gs × IsFront day (live ++ live_of (f ∷ fs)) (kept ++ live_of gs)
    by_tests true by_day e d read again = left_out (subst (λ ss. IsFront day (live ++ map (as_live f.due) ss) kept) (sym read) (rw append-nil w)) again
    by_tests false false e d read again = left_out (draft_all day f.due live kept f.statements d w) again
    by_tests false true e d read again =
        let both = reading_published day f.due live kept (reading f.bytes) f.statements d w read in
        let later = again (kept ++ here) both.1 in
        ((subst (λ b. IsReadFromFile b kept f) (sym e) both.0, later.0), rw (append_assoc live here (live_of fs), append_assoc kept here (live_of rest)) at later.1)

-- of filings that are read, those published by a day are read by themselves, and are the front of each record
pub published_read : (day : ℤ) (fs : List AcceptedFiling) → AreRead [] fs → AreRead [] (filter (is_published day) fs)
published_read day fs read = (published_from day [] [] fs (none_front day) read).0

pub front_by : (day : ℤ) (fs : List AcceptedFiling) (declaration rec : List ℕ) → AreRead [] fs → IsPrefix (live_series declaration rec (live_of (filter (is_published day) fs))) (live_series declaration rec (live_of fs))
front_by day fs declaration rec read = (published_from day [] [] fs (none_front day) read).1.front declaration rec
