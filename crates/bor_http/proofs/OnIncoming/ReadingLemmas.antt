-- Where the head of an input ends, from its front.
use Rattle.std.proofs.Common.{◌≡◌, ◌≤◌, length, take, ℕ, ◌+◌, ◌-◌, ◌<◌, List, ◌++◌, Some, None, Ok, Err, refl, ap, ◌∙◌, arith, Bool, false, true, nat_lt, not, append-nil, length-append}
use Rattle.std.proofs.lemmas.List.{take_all, take-append-le}
use Rattle.std.proofs.lemmas.Bool.{cond-false, cond-true, le-ltb, lt-ltb, not-false, not-true}
use Rattle.std.proofs.Math.Seq.{take-append-add}
use Rattle.bor_http.specs.declared.incoming.fault.Refusal.TheVariants.{HeadTooLarge, CutShort}
use Rattle.bor_http.specs.Incoming.Head.{head_len, line_feeds, line_limit}
use Rattle.bor_http.proofs.OnIncoming.Steps.{head_within, with_few_lines}
use Rattle.bor_http.proofs.OnIncoming.HeadLemmas.{head_len-append, head_len-le}

take_within : (limit : ℕ) (buffer rest : List ℕ) → length buffer ≤ limit
    → take limit (buffer ++ rest) ≡ buffer ++ take (limit - length buffer) rest
take_within limit buffer rest le =
    let e : limit ≡ length buffer + (limit - length buffer) = omega arith in
    ap (λ n. take n (buffer ++ rest)) e ∙ take-append-add buffer rest (limit - length buffer)

pub head-found : (limit : ℕ) (buffer rest : List ℕ) (n : ℕ) → length buffer ≤ limit → head_len buffer ≡ Some n
    → head_within limit (buffer ++ rest) ≡ with_few_lines buffer n
head-found limit buffer rest n le e =
    let found : head_len (take limit (buffer ++ rest)) ≡ Some n =
    ap head_len (take_within limit buffer rest le) ∙ head_len-append buffer (take (limit - length buffer) rest) n e in
    let inside : n ≤ length buffer = head_len-le buffer n e in
    rw found (rw take-append-le refl)

pub head-too_large : (limit : ℕ) (buffer rest : List ℕ) → length buffer ≡ limit → head_len buffer ≡ None
    → head_within limit (buffer ++ rest) ≡ Err HeadTooLarge
head-too_large limit buffer rest e none =
    let le : length buffer ≤ limit = omega arith in
    let zero_left : limit - length buffer ≡ 0 = omega arith in
    let front : take limit (buffer ++ rest) ≡ buffer =
    take_within limit buffer rest le ∙ ap (λ k. buffer ++ take k rest) zero_left ∙ append-nil buffer in
    rw (front, none, le-ltb (length (buffer ++ rest)) limit (omega (arith, length-append buffer rest))) refl

pub head-cut_short : (limit : ℕ) (buffer : List ℕ) → length buffer < limit → head_len buffer ≡ None
    → head_within limit buffer ≡ Err CutShort
head-cut_short limit buffer lt none =
    let front : take limit buffer ≡ buffer = take_all limit buffer (omega arith) in
    rw (front, none, lt-ltb (length buffer) limit lt) refl

abbrev pub has_few_lines : List ℕ → ℕ → Bool
has_few_lines buffer n = not (nat_lt line_limit (line_feeds (take n buffer)))

pub few_lines : (buffer : List ℕ) (n : ℕ) → has_few_lines buffer n ≡ true → with_few_lines buffer n ≡ Ok n
few_lines buffer n e = cond-false (nat_lt line_limit (line_feeds (take n buffer))) (Err HeadTooLarge) (Ok n) (not-true _ e)

pub many_lines : (buffer : List ℕ) (n : ℕ) → has_few_lines buffer n ≡ false → with_few_lines buffer n ≡ Err HeadTooLarge
many_lines buffer n e = cond-true (nat_lt line_limit (line_feeds (take n buffer))) (Err HeadTooLarge) (Ok n) (not-false _ e)
