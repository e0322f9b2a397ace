-- Exchanges one after the other are a run.
use Rattle.bor_register.specs.declared.fault.StoreFault.{StoreFault}
use Rattle.bor_records.specs.Promises.{Meaning}
use Rattle.std.proofs.Common.{◌≡◌, ◌⊎◌, inl, inr, ℕ, List, [], ◌∷◌, true, false, refl, sym, subst}
use Rattle.std.proofs.lemmas.Bool.{cond-false, cond-true}
use Rattle.bor_register.specs.Register.{Register}
use Rattle.bor_desk.specs.Operations.Legality.{IsLegal}
use Rattle.bor_wire.specs.Spelling.Spell.{Spelled, Spells}
use Rattle.bor_wire.specs.Sent.{Sent, Full, Unavailable, bytes_sent}
use Rattle.bor_wire.specs.Inputs.{IsReplyTo, after}
use Rattle.bor_wire.specs.Runs.{AreReplies, register_left}
use Rattle.bor_wire.specs.Replays.{IsRunOver}
use Rattle.bor_wire.specs.Exchanges.{IsExchanged}
use Rattle.bor_wire.specs.Sequences.{Exchanged, AreExchanged, AreSpelledBy, ExchangesAreARun, answered, bytes_in, is_answered, keep_left}
use Rattle.bor_wire.proofs.HistoryLaws.{alone}
use Rattle.bor_wire.proofs.ReportLaws.{reports}
use Rattle.bor_wire.proofs.RefusalLaws.{refusals_leave}
use Rattle.bor_wire.proofs.RunLaws.{after_legal, left_legal}

-- ---- one exchange

-- its reply, and the register after it is shown
abbrev Replies : (Register → Type 0) → Register → List ℕ → List ℕ → Type 0
Replies shown r input bytes = (s : Spelled) × Spells input s × IsReplyTo r s bytes × shown (after r s)

by_reply : (reply : Sent) (shown : Register → Type 0) (r : Register) (input : List ℕ) → IsExchanged shown r input reply
    → ((is_answered reply ≡ true) × Replies shown r input (bytes_sent reply)) ⊎ ((is_answered reply ≡ false) × shown r)
by_reply (Full status bytes) shown r input h = inl (refl, (h.spelled, h.spells, (h.said, h.tells, h.bytes_are), h.left))
by_reply Unavailable shown r input h = inr (refl, h)

-- ---- the sequence

-- a run, but for what follows from its replies
record IsServed {K : Type 0} (shown : Register → Type 0) (r : Register) (exchanges : List (Exchanged K)) : Type 0 where
  spelled : List Spelled
  spells : AreSpelledBy (answered exchanges) spelled
  replies : AreReplies r spelled (bytes_in (answered exchanges))
  left : shown (register_left r spelled)

more : {K : Type 0} (shown : Register → Type 0) (r : Register) (e : Exchanged K) (rest : List (Exchanged K)) (s : Spelled) → is_answered e.reply ≡ true → Spells e.input s
    → IsReplyTo r s (bytes_sent e.reply) → IsServed shown (after r s) rest → IsServed shown r (e ∷ rest)
more shown r e rest s is spells reply h =
    let first : answered (e ∷ rest) ≡ e ∷ answered rest = cond-true (is_answered e.reply) (e ∷ answered rest) (answered rest) is in
    record {
      spelled = s ∷ h.spelled;
      spells = subst (λ es. AreSpelledBy es (s ∷ h.spelled)) (sym first) (spells, h.spells);
      replies = subst (λ es. AreReplies r (s ∷ h.spelled) (bytes_in es)) (sym first) (reply, h.replies);
      left = h.left;
    }

no_more : {K : Type 0} (shown : Register → Type 0) (r : Register) (e : Exchanged K) (rest : List (Exchanged K)) → is_answered e.reply ≡ false → IsServed shown r rest → IsServed shown r (e ∷ rest)
no_more shown r e rest is h =
    let none : answered (e ∷ rest) ≡ answered rest = cond-false (is_answered e.reply) (e ∷ answered rest) (answered rest) is in
    record {
      spelled = h.spelled;
      spells = subst (λ es. AreSpelledBy es h.spelled) (sym none) h.spells;
      replies = subst (λ es. AreReplies r h.spelled (bytes_in es)) (sym none) h.replies;
      left = h.left;
    }

-- a sequence that ends clean began clean
pub began : {K W : Type 0} (meaning : Meaning K Register W StoreFault) (keep : K) (es : List (Exchanged K)) → AreExchanged meaning keep es → meaning.is_clean (keep_left keep es) → meaning.is_clean keep
began meaning keep [] h clean = clean
began meaning keep (e ∷ rest) h clean = h.0.leaves.began (began meaning e.keep rest h.1 clean)

served : {K W : Type 0} (meaning : Meaning K Register W StoreFault) (keep : K) (es : List (Exchanged K)) → AreExchanged meaning keep es
    → (r : Register) → meaning.shows keep r → meaning.is_clean (keep_left keep es) → IsLegal r → IsServed (meaning.shows (keep_left keep es)) r es
served meaning keep [] h r is clean legal = record { spelled = []; spells = tt; replies = tt; left = is }
served meaning keep (e ∷ rest) h r is clean legal =
    elim (by_reply e.reply (meaning.shows e.keep) r e.input (h.0.exchanged r is (began meaning e.keep rest h.1 clean) legal)) [
      | inl y ↦ more (meaning.shows (keep_left e.keep rest)) r e rest y.1.0 y.0 y.1.1 y.1.2 (served meaning e.keep rest h.1 (after r y.1.0) y.1.3 clean (after_legal r y.1.0 legal))
      | inr n ↦ no_more (meaning.shows (keep_left e.keep rest)) r e rest n.0 (served meaning e.keep rest h.1 r n.1 clean legal)
    ]

-- the replies have what follows from them
pub run_over : (Shown : Register → Type 0) (r : Register) (spelled : List Spelled) (sent : List (List ℕ)) → IsLegal r → AreReplies r spelled sent → Shown (register_left r spelled)
    → IsRunOver Shown r spelled sent
run_over Shown r spelled sent legal replies left = record {
  replies = replies;
  left = left;
  legal = left_legal r spelled legal;
  alone = λ name. alone name r spelled sent legal replies;
  reports = reports r spelled sent replies;
  refused = refusals_leave r spelled sent replies;
}

pub a_run : {K W : Type 0} (meaning : Meaning K Register W StoreFault) → ExchangesAreARun meaning
a_run meaning keep es h = λ r is clean legal.
    let run = served meaning keep es h r is clean legal in
    record {
      spelled = run.spelled;
      spells = run.spells;
      over = run_over (meaning.shows (keep_left keep es)) r run.spelled (bytes_in (answered es)) legal run.replies run.left;
    }
