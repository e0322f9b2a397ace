-- The texts of a JSON value are UTF-8 where its bytes are.
use Rattle.std.proofs.Common.{◌≡◌, ℕ, ◌+◌, ◌<◌, Bool, true, false, cond, ◌&&◌, ◌==◌, nat_lt, List, [], ◌∷◌, ◌++◌, length, get_or, Option, Some, None, Ordering, Less, Equal, Greater, refl, subst, arith, append_assoc, append-nil, length-append}
use Rattle.std.specs.Prelude.{IfSome, option_map, option_and_then}
use Rattle.std.specs.List.{AllByRecursion}
use Rattle.std.specs.Ordering.{match_ordering}
use Rattle.std.specs.Str.{IsUtf8}
use Rattle.std.specs.Char.{is_digit, digit_value, encode_utf8, IsScalar}
use Rattle.std.proofs.Math.Seq.{take-append_seam, drop-append-add, get_or-append_seam}
use Rattle.std.proofs.lemmas.Str.{IsUtf8-append, IsUtf8-take, IsUtf8-drop, IsUtf8-encode, encode_ascii, IsCharBoundary-before_ascii, IsCharBoundary-after_ascii}
use Rattle.std.proofs.lemmas.Bool.{cond_both, and_parts}
use Rattle.std.proofs.lemmas.Option.{cond_some}
use Rattle.std.proofs.lemmas.Bool.Decides.{nat_tests}
use Rattle.json.specs.Text.{code_unit, short_escape, is_high_surrogate, is_low_surrogate, surrogate_pair, Within, plain, after_backslash, after_u, after_high, prepend, content}
use Rattle.json.specs.Word.{head, number_before, word, after_number}
use Rattle.json.specs.Token as tokens
use Rattle.json.specs.Token.{Token, bad, boolean}
use Rattle.json.specs.Lex as lexer
use Rattle.json.specs.Lex.{Lexeme, token, comma, colon, Class, quote, backslash, operator, space, other, class, operator_lexeme, string_token, Mode, between, in_word, in_string, in_escape, lex_byte, lex}
use Rattle.json.specs.Lex.{Place, fresh, after_value, after_comma, after_key, may_begin, if_allowed, place_token, punctuate}
use Rattle.json.specs.Json as json
use Rattle.json.specs.Tree.{json_tokens, items_tokens, members_tokens}
use Rattle.json.proofs.Unique.Spelling.{value-json_tokens_back}
use Rattle.serde_json.specs.Data.{Data, number, string, array, object, Items, no_items, item, Members, no_members, member, put}
use Rattle.serde_json.specs.Read.{number_of, of_json, of_items, of_members, max_depth, read}

-- ---- a text between quotes

hex_small : (x : ℕ) → is_digit x 16 ≡ true → (x < 128) × (digit_value x < 16)
hex_small x e = grind (arith, nat_tests)

unit_small : (a b c d u : ℕ) → code_unit a b c d ≡ Some u → (d < 128) × (u < 65536)
unfolding code_unit
unit_small a b c d u e =
    let h = cond_some _ _ u e in
    let p = and_parts (is_digit a 16 && is_digit b 16 && is_digit c 16) (is_digit d 16) h.0 in
    let q = and_parts (is_digit a 16 && is_digit b 16) (is_digit c 16) p.0 in
    let r = and_parts (is_digit a 16) (is_digit b 16) q.0 in
    let last = hex_small d p.1 in
    (last.0, omega (arith, h.1, (hex_small a r.0).1, (hex_small b r.1).1, (hex_small c q.1).1, last.1))

short_small : (x c : ℕ) → short_escape x ≡ Some c → (x < 128) × (c < 128)
unfolding short_escape
short_small x c e = grind (arith, nat_tests)

-- a text may be cut around a byte of ASCII
around : (front xs : List ℕ) (x : ℕ) → x < 128 → IsUtf8 (front ++ x ∷ xs) → IsUtf8 front × IsUtf8 xs
around front xs x small u =
    let bs = front ++ x ∷ xs in
    let within : length front < length bs = omega (arith, length-append front (x ∷ xs)) in
    let byte : get_or bs (length front) 0 < 128 = omega (arith, get_or-append_seam front x xs 0) in (
      subst IsUtf8 (take-append_seam front (x ∷ xs)) (IsUtf8-take bs (length front) u (IsCharBoundary-before_ascii bs (length front) within byte)),
      subst IsUtf8 (drop-append-add front (x ∷ xs) 1) (IsUtf8-drop bs (length front + 1) u (IsCharBoundary-after_ascii bs (length front) u within byte)),
    )

pub mapped : {A B : Type 0} (P : A → Type 0) (Q : B → Type 0) (f : A → B) → ((a : A) → P a → Q (f a)) → (o : Option A) → IfSome o P → IfSome (option_map f o) Q
mapped P Q f g None h = tt
mapped P Q f g (Some a) h = g a h

pub then : {A B : Type 0} (Q : B → Type 0) (f : A → Option B) (o : Option A) → ((a : A) → o ≡ Some a → IfSome (f a) Q) → IfSome (option_and_then f o) Q
then Q f None h = tt
then Q f (Some a) h = h a refl

-- what is read, after what was read before it
abbrev Onto : List ℕ → Option (List ℕ) → Type 0
Onto front o = IfSome o (λ s. IsUtf8 (front ++ s))

abbrev Fits : Within → List ℕ → List ℕ → Type 0
Fits plain front xs = IsUtf8 (front ++ xs)
Fits (after_high h) front xs = IsUtf8 front × IsUtf8 xs × (is_high_surrogate h ≡ true)
Fits w front xs = IsUtf8 front × IsUtf8 xs

grown : (front more : List ℕ) (o : Option (List ℕ)) → Onto (front ++ more) o → Onto front (prepend more o)
grown front more o h = mapped (λ s. IsUtf8 ((front ++ more) ++ s)) (λ s. IsUtf8 (front ++ s)) _ (λ s. subst IsUtf8 (append_assoc front more s)) o h

char : (c : ℕ) (front xs : List ℕ) → IsScalar c → IsUtf8 front → IsUtf8 xs → ((more : List ℕ) → IsUtf8 (more ++ xs) → Onto more (content plain xs)) → Onto front (prepend (encode_utf8 c) (content plain xs))
char c front xs is f u go = grown front (encode_utf8 c) _ (go (front ++ encode_utf8 c) (IsUtf8-append _ xs (IsUtf8-append front _ f (IsUtf8-encode c is)) u))

text_on : (w : Within) (xs front : List ℕ) → Fits w front xs → Onto front (content w xs)
unfolding content
text_on plain (x ∷ xs) front h =
    cond_both (x == 34) _ _ (Onto front) (λ q. rw append-nil (around front xs x (grind (arith, nat_tests)) h).0)
    (λ q. cond_both (x == 92) _ _ (Onto front) (λ b. text_on after_backslash xs front (around front xs x (grind (arith, nat_tests)) h))
    (λ b. cond_both (nat_lt x 32) None _ (Onto front) (λ l. tt) (λ l. grown front (x ∷ []) _ (text_on plain xs (front ++ x ∷ []) (rw append_assoc h)))))
text_on after_backslash (x ∷ xs) front h =
    cond_both (x == 117) _ _ (Onto front) (λ e. text_on after_u xs front (h.0, (around [] xs x (grind (arith, nat_tests)) h.1).1))
    (λ e. then (λ s. IsUtf8 (front ++ s)) _ (short_escape x) (λ c f.
    let small = short_small x c f in
    subst (λ s. Onto front (prepend s (content plain xs))) (encode_ascii c small.1) (char c front xs (grind (arith, nat_tests)) h.0 (around [] xs x small.0 h.1).1 (text_on plain xs))))
text_on after_u (a ∷ b ∷ c ∷ d ∷ xs) front h =
    then (λ s. IsUtf8 (front ++ s)) _ (code_unit a b c d) (λ u e.
    let small = unit_small a b c d u e in
    let rest = (around (a ∷ b ∷ c ∷ []) xs d small.0 h.1).1 in
    cond_both (is_high_surrogate u) _ _ (Onto front) (λ p. text_on (after_high u) xs front (h.0, rest, p))
    (λ p. cond_both (is_low_surrogate u) None _ (Onto front) (λ q. tt) (λ q. char u front xs (grind (arith, nat_tests)) h.0 rest (text_on plain xs))))
text_on (after_high g) (s ∷ t ∷ a ∷ b ∷ c ∷ d ∷ xs) front h =
    cond_both ((s == 92) && (t == 117)) _ None (Onto front)
    (λ e. then (λ s. IsUtf8 (front ++ s)) _ (code_unit a b c d) (λ l f. cond_both (is_low_surrogate l) _ None (Onto front)
    (λ q. char (surrogate_pair g l) front xs (grind (arith, nat_tests)) h.0 (around (s ∷ t ∷ a ∷ b ∷ c ∷ []) xs d (unit_small a b c d l f).0 h.1).1 (text_on plain xs)) (λ q. tt))) (λ e. tt)
text_on w xs front h = tt

-- ---- tokens

abbrev IsText : Token → Type 0
IsText (tokens.string s) = IsUtf8 s
IsText t = Unit {0}

one_of : (b : Bool) (x y : Token) → IsText x → IsText y → IsText (cond b x y)
one_of b x y p q = cond_both b x y IsText (λ _. p) (λ _. q)

number_text : (t : List ℕ) (o : Option (List ℕ)) → IsText (number_before t o)
number_text t o = grind arith

word_text : (t : List ℕ) → IsText (word t)
unfolding word
word_text t =
    one_of (head t == 116) _ _ (one_of _ (boolean true) bad tt tt) (one_of (head t == 102) _ _ (one_of _ (boolean false) bad tt tt)
    (one_of (head t == 110) _ _ (one_of _ tokens.null bad tt tt) (number_text t (after_number t))))

abbrev Lexemes : List Lexeme → Type 0
Lexemes [] = Unit {0}
Lexemes (token t ∷ ls) = IsText t × Lexemes ls
Lexemes (l ∷ ls) = Lexemes ls

mark : (x : ℕ) (ls : List Lexeme) → Lexemes ls → Lexemes (operator_lexeme x ∷ ls)
mark x ls h = grind arith

quoted : (o : Option (List ℕ)) → IfSome o IsUtf8 → IsText (string_token o)
quoted o h = grind arith

byte : (m : Mode) (c : Class) (x : ℕ) (xs : List ℕ) (k : Mode → List Lexeme) → (c ≡ quote → IfSome (content plain xs) IsUtf8) → ((n : Mode) → Lexemes (k n)) → Lexemes (lex_byte m c x xs k)
byte m c x xs k t h = grind (arith, mark, word_text, quoted)

quote_small : (x : ℕ) → class x ≡ quote → x < 128
quote_small x e = grind (arith, nat_tests)

lexed : (xs front : List ℕ) (m : Mode) → IsUtf8 (front ++ xs) → Lexemes (lex m xs)
unfolding lex
lexed [] front m u = tt
lexed (x ∷ xs) front m u = byte m (class x) x xs _ (λ q. text_on plain xs [] (around front xs x (quote_small x q) u).1) (λ n. lexed xs (front ++ x ∷ []) n (rw append_assoc u))

abbrev AreTexts : List Token → Type 0
AreTexts ts = AllByRecursion IsText ts

allowed : (b : Bool) (t : Token) (k : Place → List Token) (next : Place) → IsText t → AreTexts (k next) → AreTexts (if_allowed b t k next)
allowed b t k next p q = grind arith

placed : (p : Place) (t : Token) (b : Bool) (k : Place → List Token) → IsText t → ((n : Place) → AreTexts (k n)) → AreTexts (place_token p t b k)
placed p t b k q h = grind (arith, allowed)

punctuated : (ls : List Lexeme) → Lexemes ls → (p : Place) → AreTexts (punctuate p ls)
unfolding punctuate
punctuated [] h fresh = tt
punctuated [] h after_value = tt
punctuated (token t ∷ ls) h p = placed p t _ _ h.0 (punctuated ls h.1)
punctuated (comma ∷ ls) h after_value = punctuated ls h after_comma
punctuated (colon ∷ ls) h after_key = punctuated ls h fresh
punctuated ls h p = (tt, tt)

-- ---- values

abbrev mutual
  pub HasTexts : Data → Type 0
  HasTexts (string s) = IsUtf8 s
  HasTexts (array ds) = ItemsHaveTexts ds
  HasTexts (object ms) = MembersHaveTexts ms
  HasTexts d = Unit {0}

  pub ItemsHaveTexts : Items → Type 0
  ItemsHaveTexts no_items = Unit {0}
  ItemsHaveTexts (item d ds) = HasTexts d × ItemsHaveTexts ds

  pub MembersHaveTexts : Members → Type 0
  MembersHaveTexts no_members = Unit {0}
  MembersHaveTexts (member k d ms) = HasTexts d × MembersHaveTexts ms

pub ordered : {A : Type 0} (P : A → Type 0) (o : Ordering) (a b c : A) → P a → P b → P c → P (match_ordering o a b c)
ordered P Less a b c p q r = p
ordered P Equal a b c p q r = q
ordered P Greater a b c p q r = r

put_texts : (k : List ℕ) (d : Data) (ms : Members) → HasTexts d → MembersHaveTexts ms → MembersHaveTexts (put k d ms)
put_texts k d no_members p h = (p, tt)
put_texts k d (member l e ms) p h = ordered MembersHaveTexts _ (member k d (member l e ms)) (member l d ms) (member l e (put k d ms)) (p, h) (p, h.1) (h.0, put_texts k d ms p h.1)

pub and_then : {A B : Type 0} (P : A → Type 0) (Q : B → Type 0) (f : A → Option B) → ((a : A) → P a → IfSome (f a) Q) → (o : Option A) → IfSome o P → IfSome (option_and_then f o) Q
and_then P Q f g o h = then Q f o (λ a e. g a (subst (λ o. IfSome o P) e h))

parts : (ts us : List Token) → AreTexts (ts ++ us) → AreTexts ts × AreTexts us
parts [] us h = (tt, h)
parts (t ∷ ts) us h = let p = parts ts us h.1 in ((h.0, p.0), p.1)

mutual
  in_json : (j : json.Json) → AreTexts (json_tokens j) → IfSome (of_json j) HasTexts
  in_json (json.string s) h = h.0
  in_json (json.number s) h = elim (number_of s) as (λ o. IfSome (option_map number o) HasTexts) [ None ↦ tt | Some n ↦ tt ]
  in_json (json.array js) h = mapped ItemsHaveTexts HasTexts array (λ ds x. x) _ (in_items js h.1)
  in_json (json.object ms) h = mapped MembersHaveTexts HasTexts object (λ ds x. x) _ (in_members ms no_members h.1 tt)
  in_json j h = tt

  in_items : (js : json.Items) → AreTexts (items_tokens js) → IfSome (of_items js) ItemsHaveTexts
  in_items json.no_items h = tt
  in_items (json.item j js) h =
      let p = parts (json_tokens j) (items_tokens js) h in
      and_then HasTexts ItemsHaveTexts _ (λ d x. mapped ItemsHaveTexts ItemsHaveTexts (item d) (λ ds y. (x, y)) _ (in_items js p.1)) _ (in_json j p.0)

  in_members : (ms : json.Members) (found : Members) → AreTexts (members_tokens ms) → MembersHaveTexts found → IfSome (of_members ms found) MembersHaveTexts
  in_members json.no_members found h f = f
  in_members (json.member k j ms) found h f =
      let p = parts (json_tokens j) (members_tokens ms) h.1 in
      and_then HasTexts MembersHaveTexts _ (λ d x. in_members ms (put k d found) p.1 (put_texts k d found x f)) _ (in_json j p.0)

whole : (o : Option (json.Json × List Token)) → ((j : json.Json) (r : List Token) → o ≡ Some (j, r) → AreTexts (json_tokens j)) → IfSome (option_and_then of_json (option_and_then (λ p. json.if_last p.0 p.1) o)) HasTexts
whole (Some (j, [])) h = in_json j (h j [] refl)
whole o h = tt

pub read_texts : (bytes : List ℕ) → IsUtf8 bytes → IfSome (read bytes) HasTexts
read_texts bytes u =
    let ts = lexer.tokens bytes in
    whole (json.value max_depth ts) (λ j r e. (parts (json_tokens j) r (subst AreTexts (value-json_tokens_back max_depth ts r j e) (punctuated _ (lexed bytes [] between u) fresh))).0)
