-- An agent receives in a run the bytes that it would receive alone.
use Rattle.std.proofs.Common.{◌≡◌, ℕ, suc, List, [], ◌∷◌, length, Option, Some, None, Ok, Err, refl, sym, ap, subst, ◌∙◌, arith}
use Rattle.std.specs.List.{AllZip}
use Rattle.bor_register.specs.Register.{Register, filings_of}
use Rattle.bor_desk.specs.Operations.Legality.{IsLegal}
use Rattle.bor_desk.specs.declared.request.Request.{Request}
use Rattle.bor_desk.specs.Step.{Answer}
use Rattle.bor_desk.specs.Runs.{Asked, exchange, answers, agent_request, told_then, told_to, history, solo}
use Rattle.bor_desk.proofs.Isolation.{isolated}
use Rattle.bor_desk.proofs.Lengths.{told_to-length}
use Rattle.bor_desk.proofs.OneReply.{one_reply}
use Rattle.bor_wire.specs.Spelling.Spell.{Spelled}
use Rattle.bor_wire.specs.Rendering.Replies.{answered, bytes_of}
use Rattle.bor_wire.specs.Runs.{AreReplies}
use Rattle.bor_wire.specs.Histories.{AreBytesOf, EachIsReceived, IsAlone, SameHistorySameBytes, asked_in, replies_to_requests, received}
use Rattle.bor_wire.proofs.RunLaws.{zip_once}

one_bytes : (answer : Answer) (x y : List ℕ) → AreBytesOf answer x → AreBytesOf answer y → x ≡ y
one_bytes answer x y p q = p.2 ∙ ap (λ reply. bytes_of (answered reply)) (one_reply answer p.0 q.0 p.1 q.1) ∙ sym q.2

-- the replies to requests are the bytes of the answers to them
answers_told : (r : Register) (ss : List Spelled) (bs : List (List ℕ)) → AreReplies r ss bs → AllZip AreBytesOf (answers r (asked_in ss)) (replies_to_requests ss bs)
answers_told r [] [] h = tt
answers_told r (Err why ∷ ss) (b ∷ bs) h = answers_told r ss bs h.1
answers_told r (Ok asked ∷ ss) (b ∷ bs) h =
    ((h.0.1.0, h.0.1.1, h.0.2 ∙ ap bytes_of h.0.1.2), answers_told (exchange r asked).register ss bs h.1)
answers_told r ss bs h = absurd h

both_then : (asked : Option Request) (answer : Answer) (b : List ℕ) (told : List Answer) (bs : List (List ℕ)) → AreBytesOf answer b → AllZip AreBytesOf told bs
    → AllZip AreBytesOf (told_then asked answer told) (told_then asked b bs)
both_then None answer b told bs one rest = rest
both_then (Some request) answer b told bs one rest = (one, rest)

both_told : (name : List ℕ) (r : Register) (run : List Asked) (told : List Answer) (bs : List (List ℕ)) → AllZip AreBytesOf told bs
    → AllZip AreBytesOf (told_to name r run told) (told_to name r run bs)
both_told name r [] told bs h = tt
both_told name r (a ∷ run) [] [] h = tt
both_told name r (a ∷ run) (x ∷ told) (b ∷ bs) h =
    both_then (agent_request name r a) x b (told_to name (exchange r a).register run told) (told_to name (exchange r a).register run bs) h.0
    (both_told name (exchange r a).register run told bs h.1)
both_told name r run told bs h = absurd h

pub alone : (name : List ℕ) (r : Register) (ss : List Spelled) (bs : List (List ℕ)) → IsLegal r → AreReplies r ss bs → IsAlone name r ss bs
alone name r ss bs legal h =
    subst (λ told. AllZip AreBytesOf told (received name r ss bs)) (isolated.alone_each r (asked_in ss) name legal)
    (both_told name r (asked_in ss) (answers r (asked_in ss)) (replies_to_requests ss bs) (answers_told r ss bs h))

pub same_bytes : SameHistorySameBytes
same_bytes name r q inputs others replies told legal lawful one two own past =
    let alike = ap (λ fs. solo name fs (history name r (asked_in inputs))) own ∙ ap (solo name (filings_of name q.members)) past in
    zip_once AreBytesOf one_bytes (solo name (filings_of name q.members) (history name q (asked_in others))) (received name r inputs replies) (received name q others told)
    (subst (λ answers. AllZip AreBytesOf answers (received name r inputs replies)) alike (alone name r inputs replies legal one))
    (alone name q others told lawful two)

-- ---- how many replies an agent receives

told_in-length : (ss : List Spelled) (bs : List (List ℕ)) → length bs ≡ length ss → length (replies_to_requests ss bs) ≡ length (asked_in ss)
told_in-length [] bs same = refl
told_in-length (s ∷ ss) [] same = absurd (omega arith)
told_in-length (Err why ∷ ss) (b ∷ bs) same = told_in-length ss bs (omega arith)
told_in-length (Ok asked ∷ ss) (b ∷ bs) same = ap suc (told_in-length ss bs (omega arith))

pub each_is_received : EachIsReceived
each_is_received name r ss bs same = told_to-length name r (asked_in ss) (replies_to_requests ss bs) (told_in-length ss bs same)
