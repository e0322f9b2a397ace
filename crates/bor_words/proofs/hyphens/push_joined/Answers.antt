use Rattle.std.proofs.Common.{◌≡◌, ◌∙◌, ap, codes, false, map, string_bytes, sym, true, List, ℕ, [], ◌∷◌, bytes_eq}
use Rattle.std.proofs.lemmas.List.{map-append}
use Rattle.bor_words.specs.Joined.{is_value, takes_value}
use Rattle.bor_words.proofs.HyphenLemmas.{value_more, word_more}
use Rattle.bor_words.proofs.hyphens.push_joined.Goals as goal

pub loop-word-preserved-in-Some-value_behind : goal.loop-word-preserved-in-Some-value_behind
loop-word-preserved-in-Some-value_behind g c =
    let command : List ℕ = c.args.command.now in
    let word : List ℕ = c.as_str-word.result.now in
    let value : List ℕ = c.in-Some-value_behind.value.now in
    let left : c.loop-word.left.now ≡ c.in-Some.word.now ∷ c.in-Some.behind.now = c.in-Some.ensures.cases.0 in
    let dashes : bytes_eq word (codes "--") ≡ false = sym c.if-eq.ensures in
    let takes : takes_value command word ≡ true = c.in-Some-value_behind.ensures.0 in
    let is : is_value command value ≡ true = c.in-Some-value_behind.ensures.1 in
    let next : map g.S.AsStr.text c.in-Some.behind.now ≡ value ∷ map g.S.AsStr.text c.in-Some-value_behind.more.now = c.in-Some-value_behind.ensures.2 in
    value_more command _ word value _ _ _ (map g.S.AsStr.text c.in-Some-value_behind.more.now) (map string_bytes c.loop-word.all.items) (map string_bytes c.push.new.self.items) _
    (ap (map g.S.AsStr.text) left) c.as_str-word.ensures dashes takes is next c.in_ok-with_value-in-Some-value_behind.ensures
    (ap (map string_bytes) c.in_ok-push-in-Some-value_behind.ensures.items ∙ map-append string_bytes c.loop-word.all.items (c.in_ok-with_value-in-Some-value_behind.field-0 ∷ [])) c.loop-word.invariant

pub loop-word-preserved : goal.loop-word-preserved
loop-word-preserved g c =
    let word : List ℕ = c.as_str-word.result.now in
    let left : c.loop-word.left.now ≡ c.in-Some.word.now ∷ c.in-Some.behind.now = c.in-Some.ensures.cases.0 in
    let dashes : bytes_eq word (codes "--") ≡ false = sym c.if-eq.ensures in
    word_more c.args.command.now _ word _ _ (map g.S.AsStr.text c.in-Some.behind.now) (map string_bytes c.loop-word.all.items) _ _
    (ap (map g.S.AsStr.text) left) c.as_str-word.ensures dashes c.in-None.ensures c.in_ok-from_str-in-None.ensures.ok
    (ap (map string_bytes) c.in_ok-push-in-None.ensures.items ∙ map-append string_bytes c.loop-word.all.items (c.in_ok-from_str-in-None.field-0 ∷ [])) c.loop-word.invariant
