-- Heads that are known byte for byte: by tests that compute, the input begins with one.
use Rattle.std.proofs.Common.{◌≡◌, ℕ, List, [], ◌∷◌, length, take, map, get_or, Bool, true, Some, sym, ap, ◌∙◌, append-nil}
use Rattle.std.specs.Prelude.{◌&&◌, nat_lt, nat_le, ⊤}
use Rattle.std.specs.List.{list_all}
use Rattle.std.specs.Str.{is_utf8, chars}
use lib.Utf8.{encode}
use Rattle.std.proofs.lemmas.Bool.{and_parts, leb-true, ltb-true}
use Rattle.std.proofs.lemmas.List.Sums.{AllPass-from_list_all}
use Rattle.std.proofs.lemmas.Str.{IsUtf8-from_is_utf8}
use Rattle.httparse.specs.Grammar.{crlf, Field, IsField, RequestHead, IsRequestHead, IsToken, is_token, is_token_byte, is_uri_byte, is_value_byte, print_request, trim_ows}
use Rattle.bor_http.specs.Incoming.Head.{head_len, head_end, line_feeds, line_limit}
use Rattle.bor_http.specs.Incoming.Message.{Parts, FieldText, BeginsWith, parts_of}

-- what is opened to compute the tests
unfoldable pub writer : ⊤
unfolding is_utf8 chars encode is_token_byte trim_ows print_request head_len
writer = tt

-- ---- each part is of its class

abbrev is_target : List ℕ → Bool
is_target target = nat_lt 0 (length target) && (list_all is_uri_byte target && is_utf8 target)

abbrev is_line : Field → Bool
is_line f = is_token f.name && list_all is_value_byte f.raw

abbrev pub is_head : RequestHead → Bool
is_head h = is_token h.method && (is_target h.target && (nat_le h.minor 1 && list_all is_line h.fields))

token : (bytes : List ℕ) → is_token bytes ≡ true → IsToken bytes
token bytes h =
    let both = and_parts (nat_lt 0 (length bytes)) (list_all is_token_byte bytes) h in
    (ltb-true 0 (length bytes) both.0, AllPass-from_list_all is_token_byte bytes both.1)

line_fits : (f : Field) → is_line f ≡ true → IsField f
line_fits f h =
    let both = and_parts (is_token f.name) (list_all is_value_byte f.raw) h in
    record { name = token f.name both.0; raw = AllPass-from_list_all is_value_byte f.raw both.1 }

pub head_fits : (h : RequestHead) → is_head h ≡ true → IsRequestHead h
head_fits h e =
    let one = and_parts (is_token h.method) (is_target h.target && (nat_le h.minor 1 && list_all is_line h.fields)) e in
    let two = and_parts (is_target h.target) (nat_le h.minor 1 && list_all is_line h.fields) one.1 in
    let three = and_parts (nat_le h.minor 1) (list_all is_line h.fields) two.1 in
    let some = and_parts (nat_lt 0 (length h.target)) (list_all is_uri_byte h.target && is_utf8 h.target) two.0 in
    let all = and_parts (list_all is_uri_byte h.target) (is_utf8 h.target) some.1 in
    record {
      method = token h.method one.0;
      target = (ltb-true 0 (length h.target) some.0, AllPass-from_list_all is_uri_byte h.target all.0);
      target_text = IsUtf8-from_is_utf8 h.target all.1;
      minor = leb-true h.minor 1 three.0;
      fields = λ k d lt. line_fits (get_or h.fields k d) (AllPass-from_list_all is_line h.fields three.1 k d lt);
    }

-- ---- the input

-- it is these bytes up to where its head ends, and they have few enough lines
pub begins_with : (input : List ℕ) (p : Parts) (h : RequestHead) → is_head h ≡ true → p ≡ parts_of h → head_end input ≡ Some (length (print_request h)) → take (length (print_request h)) input ≡ print_request h
    → nat_le (line_feeds (print_request h)) line_limit ≡ true → BeginsWith input p
begins_with input p h fits same ends front lines = record {
  end = length (print_request h);
  ends = ends;
  few_lines = leb-true (line_feeds (take (length (print_request h)) input)) line_limit (ap (λ bytes. nat_le (line_feeds bytes) line_limit) front ∙ lines);
  head = h;
  reads = (head_fits h fits, front ∙ sym (append-nil (print_request h)));
  parts_are = same;
}

-- the head of these parts as it is mostly written: a space before each value, and CRLF at the end of each line
abbrev line : FieldText → Field
line field = record { name = field.0; raw = 32 ∷ field.1; end = crlf }

abbrev pub written : Parts → RequestHead
written p = record { blank = []; method = p.method; target = p.target; minor = 1; line_end = crlf; fields = map line p.fields; last = crlf }
