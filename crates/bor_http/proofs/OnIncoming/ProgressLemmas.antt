-- How much of a request has come, from what was found at its front.
use Rattle.std.proofs.Common.{◌≡◌, ◌≤◌, ◌<◌, ◌+◌, ◌-◌, ◌↔◌, ℕ, List, [], ◌++◌, true, false, length, take, drop, min, Some, None, IfOk, Ok, Err, Result, refl, sym, ap, subst, ◌∙◌, arith, append-nil, append_assoc, length-append, nat_lt, inl, inr}
use Rattle.std.proofs.lemmas.Bool.{cases_lt, le-ltb, lt-ltb}
use Rattle.std.proofs.lemmas.Bool.Decides.{nat_tests}
use Rattle.std.proofs.lemmas.List.{take-append-drop, take-append-le, take_all, length-take-le, length-drop, drop-append-le}
use Rattle.bor_http.specs.declared.incoming.fault.Refusal.{Refusal}
use Rattle.bor_http.specs.declared.incoming.fault.Refusal.TheVariants.{HeadTooLarge, CutShort, BadHead}
use Rattle.bor_http.specs.declared.incoming.message.MessageHead.{MessageHead}
use Rattle.bor_http.specs.declared.incoming.message.HeadSpans.{HeadSpans}
use Rattle.bor_http.specs.declared.incoming.progress.Progress.{Progress}
use Rattle.bor_http.specs.declared.incoming.progress.Progress.TheVariants.{Searched, Refused, Headed}
use Rattle.bor_http.specs.Incoming.Head.{head_len, head_limit}
use Rattle.bor_http.specs.Incoming.Steps.{AreWithin, IsScanned, HasParts, body_len, parts_at}
use Rattle.bor_http.proofs.OnIncoming.Steps.{and_then, body_of, with_body}
use Rattle.bor_http.specs.Incoming.Refusals.{IsMessage}
use Rattle.bor_http.specs.Incoming.Message.{Message, Parts, request_limit}
use Rattle.bor_http.specs.Incoming.Progress.{IsHeadOf, IsProgress, HasSearched, IsWhole, begun_by, message_by, needs}
use Rattle.bor_http.proofs.OnIncoming.HeadLemmas.{head_len-le, scanned_before}
use Rattle.bor_http.proofs.OnIncoming.ReadingLemmas.{few_lines, has_few_lines, head-cut_short, head-found, head-too_large, many_lines}
use Rattle.bor_http.proofs.OnIncoming.MessageLemmas.{body_len-le, body_short, body_there, message, never_short}
use Rattle.bor_http.proofs.OnIncoming.ByTable.{head_refused}
use Rattle.bor_http.proofs.OnIncoming.Laws.{message_unique}

-- ---- where the search goes on

pub scanned_from : (bytes : List ℕ) (n : ℕ) → IsProgress bytes (Searched n) → IsScanned bytes (n - 2)
scanned_from bytes n h =
    let e = scanned_before (take n bytes) (drop n bytes) h.2 in
    rw (take-append-drop, length-take-le n bytes h.0) at e

pub cut_short : (bytes : List ℕ) → length bytes < head_limit → head_len bytes ≡ None → IsMessage bytes (Err CutShort)
cut_short bytes short none = head_refused bytes CutShort (head-cut_short head_limit bytes short none)

-- no bytes are no request
pub nothing_is_partial : IsWhole [] → ⊥
unfolding head_len
nothing_is_partial whole = whole (cut_short [] (omega arith) refl)

-- all of the bytes were searched
pub searched_cut : (bytes : List ℕ) (n : ℕ) → IsProgress bytes (Searched n) → n ≡ length bytes → IsMessage bytes (Err CutShort)
searched_cut bytes n h all =
    let same : take n bytes ≡ bytes = take_all n bytes (omega (arith, all)) in
    cut_short bytes (omega (arith, h.1, all)) (sym (ap head_len same) ∙ h.2)

-- ---- what is refused for what has come

pub too_large : (bytes : List ℕ) → length bytes ≡ head_limit → head_len bytes ≡ None → IsProgress bytes (Refused HeadTooLarge)
too_large bytes full none = (
  λ e. cc,
  λ more. head_refused (bytes ++ more) HeadTooLarge (head-too_large head_limit bytes more full none),
)

pub many_lines_come : (bytes : List ℕ) (n : ℕ) → length bytes ≤ head_limit → head_len bytes ≡ Some n → has_few_lines bytes n ≡ false → IsProgress bytes (Refused HeadTooLarge)
many_lines_come bytes n within head many = (
  λ e. cc,
  λ more. head_refused (bytes ++ more) HeadTooLarge (head-found head_limit bytes more n within head ∙ many_lines bytes n many),
)

-- the input is what its parts make of it, whatever comes
with_parts : (bytes more : List ℕ) (n : ℕ) (parts : Result Parts Refusal) → length bytes ≤ head_limit → head_len bytes ≡ Some n → has_few_lines bytes n ≡ true
    → HasParts (take n bytes) parts → IsMessage (bytes ++ more) (and_then (with_body (drop n bytes ++ more)) parts)
with_parts bytes more n parts within head few has =
    message (bytes ++ more) (take n bytes) (drop n bytes ++ more) n parts (head-found head_limit bytes more n within head ∙ few_lines bytes n few)
    (ap (λ b. b ++ more) (sym (take-append-drop n bytes)) ∙ append_assoc (take n bytes) (drop n bytes) more)
    (length-take-le n bytes (head_len-le bytes n head)) has

pub bad_head_comes : (bytes : List ℕ) (n : ℕ) (why : Refusal) → length bytes ≤ head_limit → head_len bytes ≡ Some n → has_few_lines bytes n ≡ true
    → HasParts (take n bytes) (Err why) → IsProgress bytes (Refused why)
bad_head_comes bytes n why within head few has = (
  λ e. let bad : why ≡ BadHead = has.0 in let wrong : BadHead ≡ CutShort = sym bad ∙ e in cc,
  λ more. with_parts bytes more n (Err why) within head few has,
)

pub bad_length_comes : (bytes : List ℕ) (n : ℕ) (parts : Parts) (why : Refusal) → length bytes ≤ head_limit → head_len bytes ≡ Some n → has_few_lines bytes n ≡ true
    → HasParts (take n bytes) (Ok parts) → body_len parts.fields ≡ Err why → IsProgress bytes (Refused why)
bad_length_comes bytes n parts why within head few has bad = (
  λ e. never_short parts.fields (bad ∙ ap Err e),
  λ more. subst (IsMessage (bytes ++ more)) (ap (and_then (body_of parts (drop n bytes ++ more))) bad) (with_parts bytes more n (Ok parts) within head few has),
)

-- ---- what has a body

-- the request that a head begins, as it is cut out of an input that begins with the head
begun_as : (input behind : List ℕ) (n len : ℕ) (spans : HeadSpans) → drop n input ≡ behind → length input ≡ n + length behind
    → begun_by (record { spans = spans; len = n; needed = n + len }) input ≡ body_of (parts_at (take n input) spans.method spans.target spans.fields.items) behind len
begun_as input behind n len spans is sizes = elim (cases_lt (length behind) len) [
  | inl lt ↦
      let short : nat_lt (length input) (n + len) ≡ true = grind (arith, nat_tests) in
      rw short (sym (body_short (parts_at (take n input) spans.method spans.target spans.fields.items) behind len lt))
  | inr le ↦
      let there : nat_lt (length input) (n + len) ≡ false = grind (arith, nat_tests) in
      let size : n + len - n ≡ len = omega arith in
      rw (there, body_there (parts_at (take n input) spans.method spans.target spans.fields.items) behind len le, size, is) refl
]

pub head_comes : (bytes : List ℕ) (n len : ℕ) (spans : HeadSpans) → length bytes ≤ head_limit → head_len bytes ≡ Some n → has_few_lines bytes n ≡ true
    → AreWithin (take n bytes) spans.method spans.target spans.fields.items → HasParts (take n bytes) (Ok (parts_at (take n bytes) spans.method spans.target spans.fields.items))
    → body_len (parts_at (take n bytes) spans.method spans.target spans.fields.items).fields ≡ Ok len → IsProgress bytes (Headed (record { spans = spans; len = n; needed = n + len }))
head_comes bytes n len spans within head few inside has is =
    let parts : Parts = parts_at (take n bytes) spans.method spans.target spans.fields.items in
    let front : n ≤ length bytes = head_len-le bytes n head in
    let says : (more : List ℕ) → IsMessage (bytes ++ more) (begun_by (record { spans = spans; len = n; needed = n + len }) (bytes ++ more)) = λ more.
    let behind = drop n bytes ++ more in
    let sizes : length (bytes ++ more) ≡ n + length behind = omega (arith, front, length-append bytes more, length-append (drop n bytes) more, length-drop n bytes) in
    let cut = begun_as (bytes ++ more) behind n len spans (drop-append-le n bytes more front) sizes in
    let it : IsMessage (bytes ++ more) (body_of parts behind len) =
    subst (IsMessage (bytes ++ more)) (ap (and_then (body_of parts behind)) is) (with_parts bytes more n (Ok parts) within head few has) in
    subst (IsMessage (bytes ++ more)) (sym (cut ∙ ap (λ (f : List ℕ). body_of (parts_at f spans.method spans.target spans.fields.items) behind len) (take-append-le n bytes more front))) it in
    record {
      within = inside;
      ends = front;
      behind = omega arith;
      fits = omega (arith, front, within, body_len-le parts.fields len is);
      says = says;
    }

-- ---- whether so many bytes are whole

pub says_so : (bytes : List ℕ) (head : MessageHead) → IsHeadOf bytes head → IsMessage bytes (begun_by head bytes)
says_so bytes head h = rw append-nil at (h.says [])

pub head_cut : (bytes : List ℕ) (head : MessageHead) → IsHeadOf bytes head → length bytes < head.needed → IsMessage bytes (Err CutShort)
head_cut bytes head h lt = rw (lt-ltb (length bytes) head.needed lt) at (says_so bytes head h)

pub head_whole : (bytes : List ℕ) (head : MessageHead) → IsHeadOf bytes head → head.needed ≤ length bytes → IsMessage bytes (Ok (message_by head bytes))
head_whole bytes head h le = rw (le-ltb (length bytes) head.needed le) at (says_so bytes head h)

pub refused_so : (bytes : List ℕ) (why : Refusal) → IsProgress bytes (Refused why) → IsMessage bytes (Err why)
refused_so bytes why h = rw append-nil at (h.1 [])

-- what is a message is not cut short
not_cut : (bytes : List ℕ) (m : Message) → IsMessage bytes (Ok m) → IsWhole bytes
not_cut bytes m is cut = let same = message_unique bytes (Ok m) (Err CutShort) is cut in cc

pub whole_once : (bytes : List ℕ) (progress : Progress) → IsProgress bytes progress → HasSearched (length bytes) progress → (needs progress ≤ length bytes) ↔ IsWhole bytes
whole_once bytes (Searched n) h all = (
  λ le. absurd (omega (arith, le, h.1, all)),
  λ whole. absurd (whole (searched_cut bytes n h all)),
)
whole_once bytes (Refused why) h all = (
  λ le cut. let same = message_unique bytes (Err why) (Err CutShort) (refused_so bytes why h) cut in h.0 cc,
  λ whole. omega arith,
)
whole_once bytes (Headed head) h all = (
  λ le. not_cut bytes _ (head_whole bytes head h le),
  λ whole. elim (cases_lt (length bytes) head.needed) [
    | inl lt ↦ absurd (whole (head_cut bytes head h lt))
    | inr le ↦ le
  ],
)

-- with the bytes that have come, no more are missing than a head and a body may have
pub needs_within : (bytes : List ℕ) (progress : Progress) → IsProgress bytes progress → needs progress ≤ request_limit
needs_within bytes (Searched n) known = omega arith
needs_within bytes (Refused why) known = omega arith
needs_within bytes (Headed head) known = known.fits

-- ---- what is known stays known

pub progress_kept : (bytes more : List ℕ) (progress : Progress) → IsProgress bytes progress → IsProgress (bytes ++ more) progress
progress_kept bytes more (Searched n) h = (omega (arith, h.0, length-append bytes more), h.1, rw (take-append-le n bytes more h.0) h.2)
progress_kept bytes more (Refused why) h = (h.0, λ later. rw append_assoc (h.1 (more ++ later)))
progress_kept bytes more (Headed head) h = record {
  within = rw (take-append-le head.len bytes more h.ends) h.within;
  ends = omega (arith, h.ends, length-append bytes more);
  behind = h.behind;
  fits = h.fits;
  says = λ later. rw append_assoc (h.says (more ++ later));
}

-- ---- the front that is looked through for a head

pub of_front : (bytes : List ℕ) (k : ℕ) (progress : Progress) → k ≡ min head_limit (length bytes) → IsProgress (take k bytes) progress → HasSearched (length (take k bytes)) progress
    → IsProgress bytes progress × HasSearched (length bytes) progress
of_front bytes k (Searched n) is h all =
    let long : length (take k bytes) ≡ k = length-take-le k bytes (omega (arith, is)) in
    let whole : k ≡ length bytes = omega (arith, is, h.1, all, long) in
    let same : take k bytes ≡ bytes = take_all k bytes (omega (arith, whole)) in
    let known : IsProgress bytes (Searched n) = subst (λ (b : List ℕ). IsProgress b (Searched n)) same h in
    (known, omega (arith, all, long, whole))
of_front bytes k (Refused why) is h all = (rw take-append-drop at (progress_kept (take k bytes) (drop k bytes) (Refused why) h), tt)
of_front bytes k (Headed head) is h all =
    (subst (λ (b : List ℕ). IsProgress b (Headed head)) (take-append-drop k bytes) (progress_kept (take k bytes) (drop k bytes) (Headed head) h), tt)

-- the same of what a search of the front gives
pub known_all : {E : Type 0} (bytes : List ℕ) (k : ℕ) (result : Result Progress E) → k ≡ min head_limit (length bytes)
    → IfOk result (IsProgress (take k bytes)) → IfOk result (HasSearched (length (take k bytes))) → IfOk result (IsProgress bytes)
known_all bytes k (Ok progress) is h all = (of_front bytes k progress is h all).0
known_all bytes k (Err e) is h all = tt

pub searched_of_all : {E : Type 0} (bytes : List ℕ) (k : ℕ) (result : Result Progress E) → k ≡ min head_limit (length bytes)
    → IfOk result (IsProgress (take k bytes)) → IfOk result (HasSearched (length (take k bytes))) → IfOk result (HasSearched (length bytes))
searched_of_all bytes k (Ok progress) is h all = (of_front bytes k progress is h all).1
searched_of_all bytes k (Err e) is h all = tt

pub whole_all : {E : Type 0} (bytes : List ℕ) (result : Result Progress E) → IfOk result (IsProgress bytes) → IfOk result (HasSearched (length bytes))
    → IfOk result (λ progress. (needs progress ≤ length bytes) ↔ IsWhole bytes)
whole_all bytes (Ok progress) h all = whole_once bytes progress h all
whole_all bytes (Err e) h all = tt
