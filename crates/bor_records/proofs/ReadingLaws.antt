-- One read after another, and what is made of what was read.
use Rattle.std.proofs.Common.{◌≡◌, sym, subst, Result, Ok, Err, IfOk, MatchResult, arith}
use Rattle.std.specs.Prelude.{IsErrAnd}
use Rattle.std.proofs.lemmas.Result.{MatchResult-weaker, on_ok_weaker}
use Rattle.bor_records.specs.Reading.{ReadsSo, ReadsAsOne, Reading}

-- an error says nothing of it
not_answered : {X Y : Type 0} (P : Type 0) (Q : Y → Type 0) (result : Result X Y) → IsErrAnd result Q → IfOk result (λ x. P)
not_answered P Q result told = grind arith

answered : {X F : Type 0} (tell : F → Type 0) (result : Result X F) (P Q : X → Type 0) → ((x : X) → P x → Q x) → MatchResult result P tell → MatchResult result Q tell
answered tell result P Q so h = MatchResult-weaker result {P = P} {P' = Q} {Q = tell} {Q' = tell} h so (λ e told. told)

failed : {X F : Type 0} (tell Told : F → Type 0) (result : Result X F) (Q : X → Type 0) → IsErrAnd result Told → ((e : F) → Told e → tell e) → MatchResult result Q tell
failed tell Told result Q told so = grind arith

module _ {S V F : Type 0} {r : Reading S V F} where
  -- without a read
  pub unread : {X : Type 0} {s : S} {x : X} {P : V → X → Type 0} → ReadsAsOne r → ((v : V) → P v x) → ReadsSo r s s (Ok x) P
  unread {X} {s} on so = record { leads = on.none s; lasts = on.lasts_none s; answer = λ clean v shown. so v }

  -- another value is made of what was read
  pub read_so : {X Y : Type 0} {old new : S} {x : X} {y : Y} {P : V → X → Type 0} {Q : V → Y → Type 0} → ReadsSo r old new (Ok x) P → ((v : V) → P v x → Q v y) → ReadsSo r old new (Ok y) Q
  read_so was so = record { leads = was.leads; lasts = was.lasts; answer = λ clean v shown. so v (was.answer clean v shown) }

  -- an answer in other words
  pub read_as : {X : Type 0} {old new : S} {result : Result X F} {P Q : V → X → Type 0} → ReadsSo r old new result P → ((v : V) (x : X) → P v x → Q v x) → ReadsSo r old new result Q
  read_as {X} {old} {new} {result} {P} {Q} was so = record { leads = was.leads; lasts = was.lasts; answer = λ clean v shown. answered r.may_tell result (P v) (Q v) (so v) (was.answer clean v shown) }

  -- what was read first is so too
  pub read_next : {X Y : Type 0} {old mid new : S} {x : X} {result : Result Y F} {P : V → X → Type 0} {Q : V → Y → Type 0} → ReadsAsOne r → ReadsSo r old mid (Ok x) P → ReadsSo r mid new result Q → ReadsSo r old new result (λ v y. P v x × Q v y)
  read_next {X} {Y} {old} {mid} {new} {x} {result} {P} {Q} on first second = record {
    leads = on.more old mid new first.leads second.leads;
    lasts = on_ok_weaker result (on.lasts_more old mid new second.leads first.lasts) second.lasts;
    answer = λ clean v shown.
        let began = on.began mid new second.leads clean in
        let was = first.answer began v shown in
        answered r.may_tell result (Q v) (λ y. P v x × Q v y) (λ y is. (was, is)) (second.answer clean v (on.kept old mid v first.leads began shown));
  }

  -- the fault of a read is handed on
  pub read_fails : {X Y : Type 0} {P : V → X → Type 0} {Q : V → Y → Type 0} {old new : S} {error : F} {result : Result Y F} → IsErrAnd result (λ e. e ≡ error) → ReadsSo r old new (Err error) P → ReadsSo r old new result Q
  read_fails {X} {Y} {P} {Q} {old} {new} {error} {result} told was = record {
    leads = was.leads;
    lasts = not_answered _ _ result told;
    answer = λ clean v shown. failed r.may_tell (λ e. e ≡ error) result (Q v) told (λ e same. subst r.may_tell (sym same) (was.answer clean v shown));
  }

  -- a fault after a read that has an answer
  pub read_stops : {X Y : Type 0} {P : V → X → Type 0} {Q : V → Y → Type 0} {old new : S} {x : X} {Told : F → Type 0} {result : Result Y F} → ReadsSo r old new (Ok x) P → IsErrAnd result Told → ((e : F) → Told e → r.may_tell e) → ReadsSo r old new result Q
  read_stops {X} {Y} {P} {Q} {old} {new} {x} {Told} {result} was told so = record {
    leads = was.leads;
    lasts = not_answered _ _ result told;
    answer = λ clean v shown. failed r.may_tell Told result (Q v) told so;
  }
