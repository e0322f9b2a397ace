-- When bytes are one head of the grammar.
use Rattle.std.proofs.Common.{◌≡◌, ◌≤◌, ◌<◌, length, drop, ℕ, ◌+◌, List, [], ◌∷◌, ◌++◌, ap, ◌∙◌, arith, cond, ◌==◌, append-nil, length-drop}
use Rattle.std.specs.List.{flat_map}
use Rattle.std.proofs.lemmas.List.Sums.{sum_by-append}
use Rattle.httparse.specs.Grammar.{RequestHead, ReadsRequest, print_request, print_section, print_field, print_end, print_blank, print_version, LineEnd, crlf, lf, Field}
use Rattle.httparse.specs.Spans.{RequestOverflows}
use Rattle.httparse.proofs.GrammarLemmas.{request_unique}
use Rattle.bor_http.specs.Incoming.Head.{line_feeds}

lines-append : (xs ys : List ℕ) → line_feeds (xs ++ ys) ≡ line_feeds xs + line_feeds ys
lines-append xs ys = sum_by-append (λ b. cond (b == 10) 1 0) xs ys

end_lines : (e : LineEnd) → 1 ≤ line_feeds (print_end e)
end_lines crlf = omega arith
end_lines lf = omega arith

field_lines : (f : Field) → 1 ≤ line_feeds (print_field f)
field_lines f = omega (arith, end_lines f.end, lines-append (f.name ++ 58 ∷ f.raw) (print_end f.end))

fields_lines : (fs : List Field) → length fs ≤ line_feeds (flat_map print_field fs)
fields_lines [] = omega arith
fields_lines (f ∷ fs) = omega (arith, field_lines f, fields_lines fs, lines-append (print_field f) (flat_map print_field fs))

pub request_lines : (h : RequestHead) → length h.fields + 2 ≤ line_feeds (print_request h)
unfolding print_request
request_lines h =
    let front : List ℕ = print_blank h.blank ++ h.method ++ 32 ∷ h.target ++ 32 ∷ print_version h.minor in
    omega (
      arith,
      lines-append (front ++ print_end h.line_end) (print_section h.fields h.last),
      lines-append front (print_end h.line_end),
      lines-append (flat_map print_field h.fields) (print_end h.last),
      end_lines h.line_end,
      end_lines h.last,
      fields_lines h.fields,
    )

-- a head with few lines has few fields, so a parser with room for them doesn't overflow
pub no_overflow : (room : ℕ) (head : List ℕ) → line_feeds head ≤ room + 2 → RequestOverflows room head
    → (h : RequestHead) → ¬ (ReadsRequest head h [])
no_overflow room head few over h reads =
    let again : ReadsRequest (head ++ []) h [] = rw append-nil reads in
    let lines : line_feeds head ≡ line_feeds (print_request h) = ap line_feeds (reads.1 ∙ append-nil (print_request h)) in
    omega (arith, over [] h [] again, request_lines h, lines)

-- a head at the front with something behind it: the bytes are no head
pub not_whole : (head : List ℕ) (h : RequestHead) (len : ℕ) → ReadsRequest head h (drop len head)
    → len < length head → (k : RequestHead) → ¬ (ReadsRequest head k [])
not_whole head h len reads lt k whole =
    let same = request_unique head k h [] (drop len head) whole reads in
    omega (arith, ap length same.1, length-drop len head)
