-- Exchanges over a keep, as those of a register that holds the keep.
use Rattle.std.proofs.Common.{◌≡◌, ◌∙◌, inl, inr, ℕ, List, [], ◌∷◌, map, refl, ap, subst}
use Rattle.std.specs.List.{All}
use Rattle.std.proofs.lemmas.List.Elements.{All-map, All-weaker}
use Rattle.bor_records.specs.Promises.{Meaning, Promised}
use Rattle.bor_register.specs.Register.{Register}
use Rattle.bor_register.specs.declared.fault.StoreFault.{StoreFault}
use Rattle.bor_desk.specs.Operations.Legality.{IsLegal}
use Rattle.bor_wire.specs.Sent.{Sent}
use Rattle.bor_wire.specs.Sequences.{AreExchanged, Exchanged, IsNext, IsRun, keep_left}
use Rattle.bor_wire.specs.Turns.{AnswersClean, InTurn, IsTurn}
use Rattle.bor_wire.proofs.SequenceLaws.{a_run}
use Rattle.bor_program.specs.Courses.{Course}
use Rattle.bor_program.specs.Connections.Serving.{Answered, AreNotes, Ended, GivenReply, IsServedAs, IsServedOver, IsServing, Tally, answers_in, exchanges_of}
use Rattle.bor_program.specs.Connections.Watching.{Act}
use Rattle.bor_program.specs.declared.connections.limits.Limits.{Limits}
use Rattle.bor_program.specs.declared.log.Note.{Note}

module _ {J K W : Type 0} (meaning : Meaning J Register W StoreFault) (holding : K → J) where
  -- the meaning of the keep that it holds
  abbrev pub inside : Meaning K Register W StoreFault
  inside = record {
    shows = λ k. meaning.shows (holding k);
    is_clean = λ k. meaning.is_clean (holding k);
    is_sound = λ k. meaning.is_sound (holding k);
    may_leave = λ k. meaning.may_leave (holding k);
    left_shows = meaning.left_shows;
    fault_count = λ k. meaning.fault_count (holding k);
    may_tell = meaning.may_tell;
  }

  -- ---- one exchange after the other

  -- an exchange, with the register that holds the keep
  abbrev held : Exchanged K → Exchanged J
  held e = record { input = e.input; reply = e.reply; keep = holding e.keep }

  next : (keep : K) (e : Exchanged K) → IsNext inside keep e → IsNext meaning (holding keep) (held e)
  next keep e h = record {
    leaves = record { began = h.leaves.began; sound = h.leaves.sound; stops = h.leaves.stops };
    exchanged = h.exchanged;
  }

  each : (keep : K) (es : List (Exchanged K)) → AreExchanged inside keep es → AreExchanged meaning (holding keep) (map held es)
  each keep [] h = tt
  each keep (e ∷ es) h = (next keep e h.0, each e.keep es h.1)

  left : (keep : K) (es : List (Exchanged K)) → keep_left (holding keep) (map held es) ≡ holding (keep_left keep es)
  left keep [] = refl
  left keep (e ∷ es) = left e.keep es

  inputs : (es : List (Exchanged K)) → map (λ e. e.input) (map held es) ≡ map (λ e. e.input) es
  inputs [] = refl
  inputs (e ∷ es) = ap (λ l. e.input ∷ l) (inputs es)

  replies : (es : List (Exchanged K)) → map (λ e. e.reply) (map held es) ≡ map (λ e. e.reply) es
  replies [] = refl
  replies (e ∷ es) = ap (λ l. e.reply ∷ l) (replies es)

  turn : (e : Exchanged K) → IsTurn e → IsTurn (held e)
  turn e h = record { told = h.told; spells = h.spells; refused = h.refused }

  pub in_turn : (old new : K) (asked : List (List ℕ)) (sent : List Sent) → InTurn inside old new asked sent → InTurn meaning (holding old) (holding new) asked sent
  in_turn old new asked sent h = record {
    exchanges = map held h.exchanges;
    inputs_are = inputs h.exchanges ∙ h.inputs_are;
    replies_are = replies h.exchanges ∙ h.replies_are;
    turns = All-map IsTurn held h.exchanges (All-weaker IsTurn _ turn h.exchanges h.turns);
    each = each old h.exchanges h.each;
    answer_clean = All-map (AnswersClean meaning) held h.exchanges h.answer_clean;
    left = left old h.exchanges ∙ ap holding h.left;
  }

  -- ---- many clients at once

  -- an answer, with the register that holds the keep
  abbrev answered_by : Answered K → Answered J
  answered_by a = record { answer = a.answer; keep = holding a.keep }

  exchanges : (given : List (Answered K)) → map held (exchanges_of given) ≡ exchanges_of (map answered_by given)
  exchanges [] = refl
  exchanges (a ∷ given) = ap (λ l. held (record { input = a.answer.request; reply = a.answer.reply; keep = a.keep }) ∷ l) (exchanges given)

  answers : (given : List (Answered K)) → answers_in (map answered_by given) ≡ answers_in given
  answers [] = refl
  answers (a ∷ given) = ap (λ l. a.answer ∷ l) (answers given)

  noted : (keep : K) (given : List (Answered K)) (notes : List Note) → AreNotes inside keep given notes → AreNotes meaning (holding keep) (map answered_by given) notes
  noted keep [] notes h = h
  noted keep (a ∷ given) notes (inl h) = inl (noted a.keep given notes h)
  noted keep (a ∷ given) notes (inr h) =
      inr (h.0, h.1, h.2, record { asked = h.3.asked; status = h.3.status; bytes = h.3.bytes; agent = h.3.agent }, noted a.keep given h.1 h.4)

  serving : (Is : Ended → Type 0) (old new : K) (telling : List GivenReply) (tally : Tally)
      → IsServing inside Is old new telling tally → IsServing meaning Is (holding old) (holding new) telling tally
  serving Is old new telling tally h =
      let are = exchanges h.answered in
      record {
        answered = map answered_by h.answered;
        ended = h.ended;
        count = h.count;
        each = subst (AreExchanged meaning (holding old)) are (each old (exchanges_of h.answered) h.each);
        turns = subst (λ es. All IsTurn es) are (All-map IsTurn held (exchanges_of h.answered) (All-weaker IsTurn _ turn (exchanges_of h.answered) h.turns));
        answer_clean = subst (λ es. All (AnswersClean meaning) es) are (All-map (AnswersClean meaning) held (exchanges_of h.answered) h.answer_clean);
        left = subst (λ es. keep_left (holding old) es ≡ holding new) are (left old (exchanges_of h.answered) ∙ ap holding h.left);
        told_once = rw (answers h.answered) h.told_once;
        ended_so = h.ended_so;
        missing = h.missing;
        status = h.status;
        noted = noted old h.answered tally.notes h.noted;
      }

  pub served : (Is : Ended → Type 0) (old new : K) (connections told : ℕ)
      → IsServedAs inside Is old new connections told → IsServedAs meaning Is (holding old) (holding new) connections told
  served Is old new connections told h =
      let all = serving Is old new [] _ h.served in
      record {
        absent = h.absent;
        notes = h.notes;
        served = all;
        run = subst (λ k. Promised meaning (holding old) k (λ r. IsLegal r → IsRun (meaning.shows k) r (exchanges_of all.answered))) all.left
            (a_run meaning (holding old) (exchanges_of all.answered) all.each);
      }

  pub served_over : {V : Type 0} (Is : Ended → Type 0) (calls : Course V Act) (limits : Limits) (old new : K) (connections told : ℕ)
      → IsServedOver inside Is calls limits old new connections told → IsServedOver meaning Is calls limits (holding old) (holding new) connections told
  unfolding served
  served_over Is calls limits old new connections told h = record {
    served = served Is old new connections told h.served;
    acts = h.acts;
    done = h.done;
    excused = h.excused;
    noted = h.noted;
    patient = h.patient;
  }
