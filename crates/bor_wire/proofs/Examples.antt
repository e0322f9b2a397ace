-- The definitions on worked lists.
use Rattle.std.proofs.Common.{◌≡◌, ℕ, List, [], ◌∷◌, Some, None, Ok, Err, refl, codes, take}
use Rattle.bor_records.specs.Promises.{Meaning}
use Rattle.bor_register.specs.declared.fault.StoreFault.{StoreFault}
use Rattle.bor_register.specs.Register.{Register}
use Rattle.bor_desk.specs.Runs.{Asked}
use Rattle.bor_desk.specs.declared.request.Request.TheVariants as of
use Rattle.bor_desk.specs.declared.request.AgentRequest.TheVariants.{Filings}
use Rattle.bor_http.specs.declared.incoming.fault.Refusal.TheVariants.{NoPath}
use Rattle.bor_wire.specs.Spelling.Spell.{Spelled, Spells}
use Rattle.bor_wire.specs.Rendering.Replies.{refused, bytes_of}
use Rattle.bor_wire.specs.declared.outcome.Outcome.TheVariants.{Replied, ReadFailed, WriteFailed}
use Rattle.bor_wire.specs.Sent.{Sent, Full, Unavailable}
use Rattle.bor_wire.specs.Runs.{AreReplies, register_left, served, full}
use Rattle.bor_wire.specs.Histories.{asked_in, replies_to_requests}
use Rattle.bor_wire.specs.Exchanges.{IsExchanged, IsWritten, read_faults, write_faults}
use Rattle.bor_wire.specs.Answering.{AnswersOne}

-- ---- which inputs are in a run

first : List ℕ
first = codes "1"

second : List ℕ
second = codes "2"

third : List ℕ
third = codes "3"

-- the second of three inputs is not answered
replies : List Sent
replies = Full 200 (codes "a") ∷ Unavailable ∷ Full 201 (codes "c") ∷ []

answered : served (first ∷ second ∷ third ∷ []) replies ≡ first ∷ third ∷ []
unfolding replies
answered = refl

their_replies : full replies ≡ codes "a" ∷ codes "c" ∷ []
unfolding replies
their_replies = refl

-- ---- what of a run is asked

asking : Asked
asking = record { token = codes "alder-token-000001"; request = of.Agent Filings }

inputs : List Spelled
inputs = Err NoPath ∷ Ok asking ∷ []

requests : asked_in inputs ≡ asking ∷ []
unfolding inputs
requests = refl

-- a refused input is no request, and its reply is to nobody
told : replies_to_requests inputs (codes "a" ∷ codes "b" ∷ []) ≡ codes "b" ∷ []
unfolding inputs
told = refl

-- ---- a refusal

-- whatever the register, bytes that spell no request have one reply, and leave the register
refusal : (r : Register) → AreReplies r (Err NoPath ∷ []) (bytes_of (refused NoPath) ∷ [])
refusal r = ((refused NoPath, refl, refl), tt)

left : (r : Register) → register_left r (Err NoPath ∷ Err NoPath ∷ []) ≡ r
left r = refl

-- ---- one input

-- Bytes that spell no path: the reply has status 404, what is shown is as before, and no agent receives anything.
no_path : (r : Register) (input : List ℕ) → Spells input (Err NoPath) → IsExchanged (λ q. q ≡ r) r input (Full 404 (bytes_of (refused NoPath)))
no_path r input spells = record {
  spelled = Err NoPath;
  spells = spells;
  said = refused NoPath;
  tells = refl;
  status_is = refl;
  bytes_are = refl;
  left = refl;
  exact = tt;
  alone = λ legal name. tt;
}

-- ---- one exchange

-- The writer failed after nine bytes of it.
cut_off : IsWritten (WriteFailed 404) (Full 404 (bytes_of (refused NoPath))) (Some []) (Some (take 9 (bytes_of (refused NoPath))))
cut_off = (refl, (9, refl))

-- The reader failed: nothing changed and nothing was written.
not_read : {K W : Type 0} (meaning : Meaning K Register W StoreFault) (keep : K) → AnswersOne meaning keep keep ReadFailed None (Some (codes "HTTP")) (Some (codes "HTTP"))
not_read meaning keep = (refl, refl)

-- ---- faults

reader_failed : read_faults ReadFailed 18446744073709551615 ≡ 0
reader_failed = refl

writer_failed : write_faults (WriteFailed 201) 4 ≡ 5
writer_failed = refl

nobody_failed : write_faults (Replied 201) (read_faults (Replied 201) 4) ≡ 4
nobody_failed = refl
