-- How a reply is read: its head has one empty line, at its end.
use Rattle.std.proofs.Common.{◌≡◌, ℕ, zero, suc, ◌+◌, ◌/◌, ◌%◌, List, [], ◌∷◌, ◌++◌, length, Bool, true, false, cond, not, Option, Some, None, append_assoc, refl, sym, ap, ◌∙◌, arith}
use Rattle.std.specs.Prelude.{nat_eq, codes, decimal, ◌==◌, nat_lt}
use Rattle.std.specs.Fmt.{digits, digits_onto, digit_glyph}
use Rattle.std.proofs.lemmas.Bool.{and_parts, cond_both}
use Rattle.std.proofs.lemmas.Bool.Decides.{nat_tests}
use Rattle.std.proofs.lemmas.List.Folds.{list_all-append}
use Rattle.http.specs.StatusCode.{code_digits}
use Rattle.bor_http.specs.declared.incoming.fault.Path.{Path}
use Rattle.bor_http.specs.declared.incoming.fault.Path.TheVariants as paths
use Rattle.bor_http.specs.Routes.Routes.{allow}
use Rattle.bor_wire.specs.Rendering.Heads.{phrase, status_line, field_line, own_line, head_bytes}
use Rattle.bor_wire.specs.Rendering.Replies.{Said, status_of, path_replied, reply_body, bytes_of}
use Rattle.bor_wire.specs.Rendering.Laws.{behind, behind_head, before, LengthIsTold}
use Rattle.bor_wire.proofs.OnRendering.Phrases.{one_line, phrase_plain}

-- ---- bytes that are no carriage return

other : (b : ℕ) → not (b == 13) ≡ true → nat_eq 13 b ≡ false
other b h = grind (arith, nat_tests)

-- a mark that begins with a carriage return stands behind them
pass : (mark bytes rest : List ℕ) → one_line bytes ≡ true → behind (13 ∷ mark) (bytes ++ rest) ≡ behind (13 ∷ mark) rest
unfolding behind
pass mark [] rest h = refl
pass mark (b ∷ bytes) rest h =
    let two = and_parts (not (b == 13)) (one_line bytes) h in
    rw (other b two.0) (pass mark bytes rest two.1)

-- before the mark stand those bytes
stop : (bytes rest : List ℕ) → one_line bytes ≡ true → before (codes "\r\n") (bytes ++ (codes "\r\n" ++ rest)) ≡ bytes
unfolding before
stop [] rest h = refl
stop (b ∷ bytes) rest h =
    let two = and_parts (not (b == 13)) (one_line bytes) h in
    rw (other b two.0) (ap (λ t. b ∷ t) (stop bytes rest two.1))

-- ---- digits

glyph : (d : ℕ) → not (digit_glyph false d == 13) ≡ true
glyph d = cond_both (nat_lt d 10) (48 + d) (87 + d) (λ b. not (b == 13) ≡ true) (λ e. grind (arith, nat_tests)) (λ e. grind (arith, nat_tests))

onto : (k n : ℕ) (acc : List ℕ) → one_line acc ≡ true → one_line (digits_onto k 10 false n acc) ≡ true
onto zero n acc h = h
onto (suc k) n acc h =
    let here = digit_glyph false (n % 10) ∷ acc in
    let plain : one_line here ≡ true = rw (glyph (n % 10)) h in
    cond_both (n / 10 == 0) here (digits_onto k 10 false (n / 10) here) (λ bytes. one_line bytes ≡ true) (λ e. plain) (λ e. onto k (n / 10) here plain)

plain_decimal : (n : ℕ) → one_line (decimal n) ≡ true
unfolding digits
plain_decimal n = onto 64 n [] refl

-- ---- the status line

-- without its end
abbrev status_text : ℕ → List ℕ
status_text status = codes "HTTP/1.1 " ++ code_digits status ++ codes " " ++ phrase status

abbrev IsPlain : ℕ → Type 0
IsPlain status = one_line (status_text status) ≡ true

digits_plain : (status : ℕ) → one_line (code_digits status) ≡ true
digits_plain status =
    let hundreds : not (48 + status / 100 == 13) ≡ true = grind (arith, nat_tests) in
    let tens : not (48 + status / 10 % 10 == 13) ≡ true = grind (arith, nat_tests) in
    let ones : not (48 + status % 10 == 13) ≡ true = grind (arith, nat_tests) in
    rw (hundreds, tens, ones) refl

status_plain : (status : ℕ) → IsPlain status
status_plain status =
    rw (list_all-append, digits_plain status, phrase_plain status) refl

-- ---- the head

-- all behind the length
abbrev tail : ℕ → Option Path → List ℕ → List ℕ
tail status path body = codes "\r\n" ++ (own_line status path ++ (codes "Connection: close\r\n\r\n" ++ body))

-- all behind the status line's text
abbrev fields : ℕ → Option Path → ℕ → List ℕ → List ℕ
fields status path len body = codes "\r\nContent-Type: application/json\r\nContent-Length: " ++ (decimal len ++ tail status path body)

-- the head, joined from its end
joined : (text end type name digits last own close empty body : List ℕ) →
    (text ++ end) ++ type ++ (name ++ digits ++ last) ++ own ++ close ++ empty ++ body
    ≡ text ++ (end ++ (type ++ (name ++ (digits ++ (last ++ (own ++ (close ++ (empty ++ body))))))))
joined text end type name digits last own close empty body = simp append_assoc refl

head_joined : (status : ℕ) (path : Option Path) (len : ℕ) (body : List ℕ) → head_bytes status path len ++ body ≡ status_text status ++ fields status path len body
unfolding head_bytes status_line field_line
head_joined status path len body =
    joined (status_text status) (codes "\r\n") (codes "Content-Type: application/json\r\n") (codes "Content-Length: ") (decimal len) (codes "\r\n") (own_line status path)
    (codes "Connection: close\r\n") (codes "\r\n") body

-- ---- what stands behind the head

authenticate : (b : Bool) (body : List ℕ) →
    behind (codes "\r\n\r\n") (codes "\r\n" ++ (cond b (field_line (codes "WWW-Authenticate") (codes "Bearer")) [] ++ (codes "Connection: close\r\n\r\n" ++ body))) ≡ body
unfolding behind field_line
authenticate true body = refl
authenticate false body = refl

allowed : (path : Path) (body : List ℕ) →
    behind (codes "\r\n\r\n") (codes "\r\n" ++ (field_line (codes "Allow") (allow path) ++ (codes "Connection: close\r\n\r\n" ++ body))) ≡ body
unfolding behind field_line allow
allowed paths.Filing body = refl
allowed path body = refl

behind_tail : (status : ℕ) (path : Option Path) (body : List ℕ) → behind (codes "\r\n\r\n") (tail status path body) ≡ body
unfolding own_line
behind_tail status None body = authenticate (status == 401) body
behind_tail status (Some path) body = allowed path body

behind_fields : (status : ℕ) (path : Option Path) (len : ℕ) (body : List ℕ) → behind (codes "\r\n\r\n") (fields status path len body) ≡ behind (codes "\r\n\r\n") (decimal len ++ tail status path body)
unfolding behind
behind_fields status path len body = refl

told_fields : (status : ℕ) (path : Option Path) (len : ℕ) (body : List ℕ) → behind (codes "\r\nContent-Length: ") (fields status path len body) ≡ decimal len ++ tail status path body
unfolding behind
told_fields status path len body = refl

body_is : (said : Said) → behind (codes "\r\n\r\n") (bytes_of said) ≡ reply_body said
body_is said =
    let status = status_of said in
    let path = path_replied said in
    let body = reply_body said in
    ap (behind (codes "\r\n\r\n")) (head_joined status path (length body) body)
    ∙ pass (codes "\n\r\n") (status_text status) (fields status path (length body) body) (status_plain status)
    ∙ behind_fields status path (length body) body
    ∙ pass (codes "\n\r\n") (decimal (length body)) (tail status path body) (plain_decimal (length body))
    ∙ behind_tail status path body

told_is : (said : Said) → before (codes "\r\n") (behind (codes "\r\nContent-Length: ") (bytes_of said)) ≡ decimal (length (reply_body said))
told_is said =
    let status = status_of said in
    let path = path_replied said in
    let body = reply_body said in
    ap (λ bytes. before (codes "\r\n") (behind (codes "\r\nContent-Length: ") bytes)) (head_joined status path (length body) body)
    ∙ ap (before (codes "\r\n")) (pass (codes "\nContent-Length: ") (status_text status) (fields status path (length body) body) (status_plain status))
    ∙ ap (before (codes "\r\n")) (told_fields status path (length body) body)
    ∙ stop (decimal (length body)) (own_line status path ++ (codes "Connection: close\r\n\r\n" ++ body)) (plain_decimal (length body))

pub length_is_told : LengthIsTold
length_is_told = record { body = body_is; told = λ said. told_is said ∙ ap (λ bytes. decimal (length bytes)) (sym (body_is said)) }

-- what is said in the same bytes has the same body
pub same_body : (one other : Said) → bytes_of one ≡ bytes_of other → reply_body one ≡ reply_body other
same_body one other same = sym (body_is one) ∙ ap behind_head same ∙ body_is other
