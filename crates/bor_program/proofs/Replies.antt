-- Bytes that are written part by part, and how replies end.
use Rattle.bor_register.specs.declared.fault.StoreFault.{StoreFault}
use Rattle.std.proofs.Common.{◌≡◌, ◌∙◌, ◌≤◌, ◌⊎◌, ℕ, List, [], ◌∷◌, ◌++◌, Option, Some, None, Result, Ok, Err, ap, arith, inl, inr, refl, sym, subst, true, false, Bool, max, ◌+◌, ◌/◌, ◌<◌, IfSome, length, option_map, take, append-nil, append_assoc, lit≤, Bor, is_err}
use Rattle.std.specs.Prelude.{◌≢◌, ⊤}
use Rattle.std.specs.Io.KnownBytes.{Appends, Keeps}
use Rattle.std.proofs.KnownBytes.{Appends-trans}
use Rattle.std.proofs.lemmas.Bool.{le-leb, lt-leb}
use Rattle.clap.specs.Words.{Text as Words}
use Rattle.bor_wire.specs.Sent.{Sent, Full, Unavailable, TellsStatus, status_sent}
use Rattle.bor_desk.specs.declared.text.Text.{Text}
use Rattle.bor_program.specs.declared.status.Status.{Status}
use Rattle.bor_program.specs.declared.status.Status.TheVariants.{Done, Failed}
use Rattle.bor_program.specs.Inputs.{AreReadOf}
use Rattle.bor_program.specs.Reporting.{EndsTelling}
use Rattle.bor_program.specs.Program.{exit_code, report_status}
use Rattle.bor_program.specs.Replying.{AreAnswers, AreRepliesLeaving, AreRepliesTo, IsSentOrCutOff, EndsFiles, EndsSending, is_refusal, replies_status, reply_status, sent}
use Rattle.bor_program.specs.Streams.{AppendsPart}
use Rattle.bor_records.specs.Promises.{Meaning, Promised}
use Rattle.bor_register.specs.Register.{Register}
use Rattle.bor_desk.specs.Operations.Legality.{IsLegal}
use Rattle.bor_wire.specs.Spelling.Spell.{Spelled}
use Rattle.bor_wire.specs.Refused.{IsFull}
use Rattle.bor_wire.specs.Rendering.Heads.{status_line}
use Rattle.bor_wire.specs.Replays.{IsReplayed}
use Rattle.bor_wire.specs.Runs.{AreSpelled, full, served}
use Rattle.std.proofs.lemmas.List.Elements.{All-nil}
use Rattle.bor_wire.specs.Turns.{AnswersClean, InTurn, IsTurn}
use Rattle.bor_wire.proofs.SequenceLaws.{run_over}
use Rattle.bor_program.proofs.Ends.{part_none}
use Rattle.bor_program.proofs.Unread.{none_read}
use Rattle.bor_program.proofs.KnownBytes.{IsWritten}

-- a part was written whole, and the rest is left
pub part_written : (before middle after : Option (List ℕ)) (bytes left part rest : List ℕ) → left ≡ part ++ rest → IsWritten before middle bytes left
    → Appends middle after part → IsWritten before after bytes rest
part_written before middle after bytes left part rest more h e =
    (h.0 ++ part, h.1 ∙ ap (λ l. h.0 ++ l) more ∙ sym (append_assoc h.0 part rest), Appends-trans before middle after h.0 part h.2 e)

-- a front of a part was written
pub part_begun : (before middle after : Option (List ℕ)) (bytes left part rest : List ℕ) → left ≡ part ++ rest → IsWritten before middle bytes left
    → AppendsPart middle after part → AppendsPart before after bytes
part_begun before middle after bytes left part rest more h e =
    let split : bytes ≡ (h.0 ++ e.0) ++ (e.1 ++ rest) =
    h.1 ∙ ap (λ l. h.0 ++ l) more ∙ ap (λ l. h.0 ++ (l ++ rest)) e.2 ∙ ap (λ l. h.0 ++ l) (append_assoc e.0 e.1 rest) ∙ sym (append_assoc h.0 e.0 (e.1 ++ rest)) in
    (h.0 ++ e.0, e.1 ++ rest, split, Appends-trans before middle after h.0 e.0 h.2 e.3)

pub part_of_all : (before after : Option (List ℕ)) (bytes : List ℕ) → Appends before after bytes → AppendsPart before after bytes
part_of_all before after bytes h = (bytes, [], sym (append-nil bytes), h)

pub read_whole : (known : Option (List ℕ)) (limit : ℕ) (items before : List ℕ) → before ≡ []
    → IfSome (option_map (take limit) known) (λ bytes. items ≡ before ++ bytes) → IfSome known (λ bytes. items ≡ take limit bytes)
read_whole None limit items before e h = tt
read_whole (Some bytes) limit items before e h = h ∙ ap (λ l. l ++ take limit bytes) e

-- ---- ends that are not told yet

pub sends_err : {F : Type 0} (P : List (List ℕ) → List Sent → Type 0) (inputs : List (List ℕ)) (before after : Option (List ℕ)) (end : Result Status F)
    → is_err end ≡ true → ((replies : List Sent) × P inputs replies × AppendsPart before after (sent replies)) ⊎ (P [] [] × Keeps before after)
    → EndsSending P inputs before after end
sends_err P inputs before after (Err failure) e h = h
sends_err P inputs before after (Ok status) e h = cc

pub tells_err : {F : Type 0} (P : Text → Type 0) (before after : Option (List ℕ)) (end : Result Status F) → is_err end ≡ true
    → ((text : Text) × P text × AppendsPart before after text.bytes) ⊎ Keeps before after → EndsTelling P before after end
tells_err P before after (Err failure) e h = h
tells_err P before after (Ok status) e h = cc

code_most : (status : Status) → exit_code status ≤ 3
code_most Done = lit≤ tt
code_most status = lit≤ tt

-- the end of an exchange and that of reading its files
pub worse_done : (status read : Status) (code : ℕ) → code ≡ max (exit_code status) (exit_code read) → code ≤ 1 → (read ≡ Done) ⊎ (read ≡ Failed) → read ≡ Done
worse_done status read code e low (inl h) = h
worse_done status read code e low (inr h) =
    let three : exit_code read ≡ 3 = ap exit_code h in
    absurd (omega (arith, e, low, three))

pub ends_read : (P : List (List ℕ) → List Sent → Type 0) (Reads : Bor Words → List ℕ → Type 0) (inputs : List (List ℕ)) (names : List (Bor Words)) (before after : Option (List ℕ)) (status read : Status) (code : ℕ)
    → code ≡ max (exit_code status) (exit_code read) → (read ≡ Done) ⊎ (read ≡ Failed) → AreReadOf Reads names inputs → (code ≤ 1 → length inputs ≡ length names)
    → ((replies : List Sent) × P inputs replies × Appends before after (sent replies) × (exit_code status ≡ replies_status replies)) → EndsFiles P Reads names before after code
ends_read P Reads inputs names before after status read code e (inl h) are counted s =
    let none : exit_code read ≡ 0 = ap exit_code h in
    let same : code ≡ exit_code status = omega (arith, e, none) in
    (inputs, are, counted, (s.0, s.1, inl (s.2, same ∙ s.3)))
ends_read P Reads inputs names before after status read code e (inr h) are counted s =
    let three : exit_code read ≡ 3 = ap exit_code h in
    let most : exit_code status ≤ 3 = code_most status in
    let same : code ≡ 3 = omega (arith, e, three, most) in
    (inputs, are, counted, (s.0, s.1, inr (part_of_all before after (sent s.0) s.2, same)))

pub ends_failed : (P : List (List ℕ) → List Sent → Type 0) (Reads : Bor Words → List ℕ → Type 0) (inputs : List (List ℕ)) (names : List (Bor Words)) (before after : Option (List ℕ)) (code : ℕ) → code ≡ 3
    → AreReadOf Reads names inputs → ((replies : List Sent) × P inputs replies × AppendsPart before after (sent replies)) ⊎ (P [] [] × Keeps before after) → EndsFiles P Reads names before after code
ends_failed P Reads inputs names before after code three are (inl h) = (inputs, are, (λ low. absurd (omega (arith, low, three))), (h.0, h.1, inr (h.2, three)))
ends_failed P Reads inputs names before after code three are (inr h) =
    ([], none_read Reads names, (λ low. absurd (omega (arith, low, three))), ([], h.0, inr (part_none before after [] h.1, three)))

-- what was sent, whichever replies they are
pub sent_some : (P : List (List ℕ) → List Sent → Type 0) (Reads : Bor Words → List ℕ → Type 0) (names : List (Bor Words)) (before after : Option (List ℕ)) (code : ℕ) → EndsFiles P Reads names before after code
    → (replies : List Sent) × IsSentOrCutOff replies before after code
sent_some P Reads names before after code h = (h.3.0, h.3.2)

-- the same of replies of a wider kind, and of names that are the same
pub sent_as : (P Q : List (List ℕ) → List Sent → Type 0) (Reads : Bor Words → List ℕ → Type 0) (names last : List (Bor Words)) (before after : Option (List ℕ)) (code : ℕ) → names ≡ last
    → ((inputs : List (List ℕ)) (replies : List Sent) → P inputs replies → Q inputs replies) → EndsFiles P Reads names before after code → EndsFiles Q Reads last before after code
sent_as P Q Reads names last before after code e wider h =
    (h.0, subst (λ (l : List (Bor Words)). AreReadOf Reads l h.0) e h.1, (λ low. h.2 low ∙ ap length e), (h.3.0, wider h.0 h.3.0 h.3.1, h.3.2))

-- ---- what is answered of a register

none_yet : {K Left : Type 0} (meaning : Meaning K Register Left StoreFault) (state : K) → AreAnswers meaning state state [] []
none_yet meaning state = record {
  began = λ clean. clean;
  answers = λ r shown clean legal. record { count = refl; spelled = []; spells = tt; run = run_over (meaning.shows state) r [] [] legal tt shown };
  in_turn = record { exchanges = []; inputs_are = refl; replies_are = refl; turns = All-nil IsTurn; each = tt; answer_clean = All-nil (AnswersClean meaning); left = refl };
}

-- nothing was answered, and the register is as it was
pub none_answered : {K Left : Type 0} (meaning : Meaning K Register Left StoreFault) (opened left : K) → left ≡ opened
    → AreAnswers meaning opened left [] []
none_answered meaning opened left same =
    subst (λ k. AreAnswers meaning opened k [] []) (sym same) (none_yet meaning opened)

-- what is said of all that the inputs spell is said of them
pub all_answered : {K Left : Type 0} (meaning : Meaning K Register Left StoreFault) (opened left : K) (inputs : List (List ℕ)) (replies : List Sent)
    → (meaning.is_clean left → meaning.is_clean opened) → length replies ≡ length inputs → ((spelled : List Spelled) × AreSpelled (served inputs replies) spelled)
    → Promised meaning opened left (λ r. IsLegal r → IsReplayed (meaning.shows left) r inputs replies)
    → InTurn meaning opened left inputs replies → AreAnswers meaning opened left inputs replies
all_answered meaning opened left inputs replies began count spelled run turns = record {
  began = began;
  answers = λ r shown clean legal. record { count = count; spelled = spelled.0; spells = spelled.1; run = run r shown clean legal spelled.0 spelled.1 };
  in_turn = turns;
}

-- they are the replies, whatever is left
pub whatever_left : (Shown : Register → Type 0) (r : Register) (inputs : List (List ℕ)) (replies : List Sent) → IsLegal r → AreRepliesLeaving Shown r inputs replies → AreRepliesTo r inputs replies
whatever_left Shown r inputs replies legal are = record {
  count = are.count;
  spelled = are.spelled;
  spells = are.spells;
  run = run_over (λ q. ⊤) r are.spelled (full replies) legal are.run.replies tt;
}

-- ---- exit statuses

-- the first of its three digits tells whether a status is 400 or more
pub is_told_refused : (bytes : List ℕ) (status : ℕ) → IsFull bytes status → 400 ≤ status → is_refusal bytes ≡ true
unfolding status_line
is_told_refused bytes status h le = ap is_refusal h.line.1 ∙ le-leb 52 (48 + status / 100) (omega (arith, le))

pub is_told_done : (bytes : List ℕ) (status : ℕ) → IsFull bytes status → status < 400 → is_refusal bytes ≡ false
unfolding status_line
is_told_done bytes status h less = ap is_refusal h.line.1 ∙ lt-leb 52 (48 + status / 100) (omega (arith, less))

pub ends_refused_by : (reply : Sent) → TellsStatus reply → status_sent reply ≢ 503 → 400 ≤ status_sent reply → reply_status reply ≡ 1
ends_refused_by (Full status bytes) told other least = rw (is_told_refused bytes status told least) refl
ends_refused_by Unavailable told other least = absurd (other refl)

pub ends_done_by : (reply : Sent) → TellsStatus reply → status_sent reply ≢ 503 → status_sent reply < 400 → reply_status reply ≡ 0
ends_done_by (Full status bytes) told other less = rw (is_told_done bytes status told less) refl
ends_done_by Unavailable told other less = absurd (other refl)

-- 0, 1 or 3
abbrev pub IsEnd : ℕ → Type 0
IsEnd n = (n ≡ 0) ⊎ ((n ≡ 1) ⊎ (n ≡ 3))

text_end : (refused : Bool) → IsEnd (report_status refused)
text_end true = inr (inl refl)
text_end false = inl refl

pub reply_end : (reply : Sent) → IsEnd (reply_status reply)
reply_end (Full status bytes) = text_end (is_refusal bytes)
reply_end Unavailable = inr (inr refl)

greater_end : (m n : ℕ) → IsEnd m → IsEnd n → IsEnd (max m n)
greater_end m n h k = grind arith

pub replies_end : (replies : List Sent) → IsEnd (replies_status replies)
replies_end [] = inl refl
replies_end (reply ∷ replies) = greater_end (reply_status reply) (replies_status replies) (reply_end reply) (replies_end replies)

pub no_usage : (n : ℕ) → IsEnd n → n ≡ 2 → ⊥
no_usage n h e = grind arith
