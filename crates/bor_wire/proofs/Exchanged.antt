-- The effects of an input, from the reply that went out, and of an exchange.
use Rattle.bor_register.specs.declared.fault.StoreFault.{StoreFault}
use Rattle.std.proofs.Common.{◌≤◌, ℕ, List, [], ◌∷◌, Option, Some, None, Ok, Err, inl, inr, subst, refl}
use Rattle.std.specs.Option.{IfSome}
use Rattle.bor_records.specs.Promises.{Leaves, Meaning}
use Rattle.bor_register.specs.Register.{Register}
use Rattle.bor_desk.specs.Runs.{Asked}
use Rattle.bor_http.specs.declared.incoming.fault.Refusal.{Refusal}
use Rattle.bor_http.specs.Incoming.Reading.{SaysAll}
use Rattle.bor_wire.specs.Spelling.Spell.{Spelled, Spells}
use Rattle.bor_wire.specs.declared.outcome.Outcome.{Outcome}
use Rattle.bor_wire.specs.declared.outcome.Outcome.TheVariants.{ReadFailed}
use Rattle.bor_wire.specs.Sent.{Sent, Full, Unavailable, IfFull, status_sent}
use Rattle.bor_wire.specs.Inputs.{after}
use Rattle.bor_wire.specs.Answering.{AnswersOne, GoesOutFor, Responds, RespondsIfRead}
use Rattle.bor_wire.specs.Exchanges.{GoesOut, IfAsked, IfRefusing, IsExchanged, IsRefusal, IsWritten, ShowsAfter}
use Rattle.bor_wire.proofs.OnSpelling.Messages.{one_spelling, says_spells}
use Rattle.bor_wire.proofs.HistoryLaws.{alone}
use Rattle.bor_wire.proofs.ReportLaws.{exact}
use Rattle.bor_wire.proofs.Responses.{if_full, same_leaves}

-- ---- the keep was asked nothing

pub unasked : {K W : Type 0} (meaning : Meaning K Register W StoreFault) (keep : K) (input : List ℕ) → Responds meaning keep keep input Unavailable
unasked meaning keep input = record {
  leaves = same_leaves meaning keep (ShowsAfter meaning.left_shows input);
  exchanged = λ r is clean ordered. is;
  refused_kept = λ r is clean least. is;
  up = λ asked asks. tt;
  refused = λ why is. tt;
  spells = tt;
  told = tt;
}

-- ---- what goes out for what an input spells goes out for the input

leaves_so : {K W : Type 0} (meaning : Meaning K Register W StoreFault) (old new : K) (input : List ℕ) (s : Spelled) → Spells input s
    → Leaves meaning old new (λ r left. meaning.left_shows left (after r s)) → Leaves meaning old new (ShowsAfter meaning.left_shows input)
leaves_so meaning old new input s spells h = record {
  began = h.began;
  sound = h.sound;
  stops = λ sound left may. elim (h.stops sound left may) [
    | inl was ↦ inl was
    | inr made ↦ inr (made.0, λ r is. (s, spells, made.1 r is))
  ];
}

effects : (out : Sent) (shown : Register → Type 0) (r : Register) (input : List ℕ) (s : Spelled) → Spells input s → GoesOut out shown r s → IsExchanged shown r input out
effects (Full status bytes) shown r input s spells sent = record {
  spelled = s;
  spells = spells;
  said = sent.0;
  tells = sent.1;
  status_is = sent.3;
  bytes_are = sent.2;
  left = sent.4;
  exact = exact r s sent.0 sent.1;
  alone = λ legal name. alone name r (s ∷ []) (bytes ∷ []) legal ((sent.0, sent.1, sent.2), tt);
}
effects Unavailable shown r input s spells is = is

refusing : (out : Sent) (P : Type 0) → IfRefusing out P → 400 ≤ status_sent out → P
refusing (Full status bytes) P h = h
refusing Unavailable P h = λ least. h

pub goes_out : {K W : Type 0} (meaning : Meaning K Register W StoreFault) (old new : K) (named : Option (List ℕ)) (out : Sent) (input : List ℕ) (s : Spelled) → Spells input s
    → GoesOutFor meaning old new named out s → Responds meaning old new input out
goes_out meaning old new named out input s spells h = record {
  leaves = leaves_so meaning old new input s spells h.leaves;
  exchanged = λ r is clean ordered. effects out (meaning.shows new) r input s spells (h.reply r is clean ordered);
  refused_kept = λ r is clean. refusing out (meaning.shows new r) (h.kept r is clean);
  up = λ asked asks. subst (λ t. IfAsked t (IfFull out (meaning.is_sound new → meaning.is_clean new))) (one_spelling input s (Ok asked) spells asks) h.up;
  refused = λ why is. h.refused why (one_spelling input s (Err why) spells is);
  spells = if_full out ((spelled : Spelled) × Spells input spelled) (s, spells);
  told = h.status;
}

-- ---- what is answered of the bytes that were read is so of the whole input

module _ (bytes input : List ℕ) (all : (s : Spelled) → Spells bytes s → Spells input s) where
  same_spelled : (s spelled : Spelled) → Spells bytes s → Spells input spelled → Spells bytes spelled
  same_spelled s spelled is spells = subst (Spells bytes) (one_spelling input s spelled (all s is) spells) is

  exchanged_of : (out : Sent) (shown : Register → Type 0) (r : Register) → IsExchanged shown r bytes out → IsExchanged shown r input out
  exchanged_of (Full status sent) shown r h = record {
    spelled = h.spelled;
    spells = all h.spelled h.spells;
    said = h.said;
    tells = h.tells;
    status_is = h.status_is;
    bytes_are = h.bytes_are;
    left = h.left;
    exact = h.exact;
    alone = h.alone;
  }
  exchanged_of Unavailable shown r h = h

  spells_of : (out : Sent) → IfFull out ((s : Spelled) × Spells bytes s) → IfFull out ((s : Spelled) × Spells input s)
  spells_of (Full status sent) s = (s.0, all s.0 s.1)
  spells_of Unavailable s = tt

  up_of : (out : Sent) (P : Type 0) (asked : Asked) → Spells input (Ok asked) → IfFull out ((s : Spelled) × Spells bytes s) → (Spells bytes (Ok asked) → IfFull out P) → IfFull out P
  up_of (Full status sent) P asked asks s up = up (same_spelled s.0 (Ok asked) s.1 asks)
  up_of Unavailable P asked asks s up = tt

  refused_of : (out : Sent) (why : Refusal) → Spells input (Err why) → IfFull out ((s : Spelled) × Spells bytes s) → (Spells bytes (Err why) → IsRefusal out why) → IsRefusal out why
  refused_of (Full status sent) why is s refused = refused (same_spelled s.0 (Err why) s.1 is)
  refused_of Unavailable why is s refused = tt

all_answered : {K W : Type 0} (meaning : Meaning K Register W StoreFault) (old new : K) (bytes input : List ℕ) (out : Sent) → SaysAll bytes input
    → Responds meaning old new bytes out → Responds meaning old new input out
all_answered meaning old new bytes input out says h =
    let all : (s : Spelled) → Spells bytes s → Spells input s = λ s spells. says_spells bytes input s says spells in
    record {
      leaves = record {
        began = h.leaves.began;
        sound = h.leaves.sound;
        stops = λ sound left may. elim (h.leaves.stops sound left may) [
          | inl was ↦ inl was
          | inr made ↦ inr (made.0, λ r is. let after = made.1 r is in (after.0, all after.0 after.1, after.2))
        ];
      };
      exchanged = λ r is clean ordered. exchanged_of bytes input all out (meaning.shows new) r (h.exchanged r is clean ordered);
      refused_kept = h.refused_kept;
      up = λ asked asks. up_of bytes input all out (meaning.is_sound new → meaning.is_clean new) asked asks h.spells (h.up asked);
      refused = λ why is. refused_of bytes input all out why is h.spells (h.refused why);
      spells = spells_of bytes input all out h.spells;
      told = h.told;
    }

-- ---- an exchange

pub read_answered : {K W : Type 0} (meaning : Meaning K Register W StoreFault) (old new : K) (known : Option (List ℕ)) (bytes : List ℕ) (out : Sent)
    → IfSome known (SaysAll bytes) → Responds meaning old new bytes out → RespondsIfRead meaning old new known (Some out)
read_answered meaning old new None bytes out says h = (bytes, tt, h)
read_answered meaning old new (Some input) bytes out says h = (input, refl, all_answered meaning old new bytes input out says h)

pub unread_answered : {K W : Type 0} (meaning : Meaning K Register W StoreFault) (keep : K) (known : Option (List ℕ)) → RespondsIfRead meaning keep keep known (Some Unavailable)
unread_answered meaning keep None = ([], tt, unasked meaning keep [])
unread_answered meaning keep (Some input) = (input, refl, unasked meaning keep input)

pub by_outcome : {K W : Type 0} (meaning : Meaning K Register W StoreFault) (old new : K) (o : Outcome) (known held holds : Option (List ℕ)) (out : Sent)
    → RespondsIfRead meaning old new known (Some out) → IsWritten o out held holds → AnswersOne meaning old new o known held holds
by_outcome meaning old new ReadFailed known held holds out h w = absurd w
by_outcome meaning old new outcome known held holds out h w = record { input = h.0; reply = out; all = h.1; responds = h.2; written = w }
