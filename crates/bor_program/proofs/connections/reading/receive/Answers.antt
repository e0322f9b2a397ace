use Rattle.std.proofs.Common.{Vec, ◌≡◌, ℕ, ◌+◌, List, ◌++◌, arith, ap, ◌∙◌, sym, length, take, drop, length-append, length-take, length-drop, length-take-le, append_assoc, take_all, take_at}
use Rattle.std.proofs.Math.Seq.{take-append-add}
use Rattle.std.specs.Vec.{with_items}
use borrow.Rule.Slice.PartMut.{put_mid, post_of}
use Rattle.bor_program.proofs.connections.reading.receive.Goals as goal

-- a list that was made longer, and whose end a part was then written over, as far as it is kept
kept_behind : {Z : Type 0} (v : Vec ℕ Z) (xs old zeros part : List ℕ) (len room k n : ℕ) → length old ≡ len → xs ≡ take (len + room) old ++ zeros → v.len ≡ len + room → length part ≡ room
    → take (len + n) (with_items v (put_mid len k xs part)).items ≡ old ++ take n part
kept_behind v xs old zeros part len room k n e made long filled =
    let front : take len xs ≡ old = ap (take len) (made ∙ ap (λ l. l ++ zeros) (take_all (len + room) old (omega arith))) ∙ take_at old zeros len e in
    let rest = post_of len k xs in
    let more = drop (length (put_mid len k xs part)) v.items in
    let apart : (old ++ (part ++ rest)) ++ more ≡ (old ++ part) ++ (rest ++ more) = simp append_assoc in
    ap (take (len + n))
    (ap (λ l. take v.len ((l ++ (part ++ rest)) ++ more)) front ∙ ap (take v.len) apart ∙ take_at (old ++ part) (rest ++ more) v.len (omega (arith, length-append old part)))
    ∙ ap (λ l. take (l + n) (old ++ part)) (sym e) ∙ take-append-add old part n

pub returns-in-Ok : goal.returns-in-Ok
returns-in-Ok g c =
    let old = c.args.received.now.items in
    let grown = c.deref_mut.result.now in
    let part = c.read.new.buf in
    let room = c.args.room in
    let n = c.in-Ok.count in
    let fits = c.in-Ok.ensures.bound.0 in
    let end = c.in_ok-resize.ensures.len in
    let filled : length part ≡ room = omega (arith, c.read.auto.buf, length-take {A = ℕ}, length-drop {A = ℕ}, c.deref_mut.ensures.len, end) in
    record {
      bytes = take n part;
      consumed = c.in-Ok.ensures.bytes.0;
      appended = c.truncate.ensures.items ∙ kept_behind c.resize.new.self grown old _ part c.len-len.result room _ n (omega arith) (c.deref_mut.ensures.value ∙ c.in_ok-resize.ensures.items) end filled;
      count = length-take-le n part fits;
      within = omega arith;
      ended = λ none. c.in-Ok.ensures.bytes.1 none (omega arith);
    }
