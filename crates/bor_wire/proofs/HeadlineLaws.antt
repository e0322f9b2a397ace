-- The two sentences follow from what is said of runs: a new register is legal, and its agents have no filings.
use Rattle.std.proofs.Common.{◌≡◌, ℕ, ℤ, List, [], ◌∷◌, Option, Some, Ok, Err, refl, sym, ap, ◌∙◌, arith}
use Rattle.std.specs.Prelude.{if◌then◌else◌}
use Rattle.bor_register.specs.declared.caller.Caller.{Caller}
use Rattle.bor_register.specs.declared.caller.Caller.TheVariants.{Agent}
use Rattle.bor_register.specs.Register.{Register, caller_of, empty_register}
use Rattle.bor_desk.specs.Operations.Solo.{published_beside}
use Rattle.bor_desk.specs.declared.request.Request.{Request}
use Rattle.bor_desk.specs.Laws.{is_agent}
use Rattle.bor_desk.specs.Runs.{request_by, occasion_then, told_then}
use Rattle.bor_desk.proofs.OnOperations.Legality.{empty-legal}
use Rattle.bor_wire.specs.Spelling.Spell.{Spelled}
use Rattle.bor_wire.specs.Inputs.{after}
use Rattle.bor_wire.specs.Runs.{AreReplies}
use Rattle.bor_wire.specs.Histories.{history_in, received}
use Rattle.bor_wire.specs.Sequences.{answered, bytes_in}
use Rattle.bor_wire.specs.Headline.{OwnExchange, own_exchanges, without_replies, replies_in, DraftsStayInvisible, ReportsNameTheJoined, ExchangesKeepDraftsInvisible}
use Rattle.bor_wire.proofs.HistoryLaws.{same_bytes}
use Rattle.bor_wire.proofs.ReportLaws.{reports}

-- ---- an agent's own exchanges are its history, with what it receives

-- one more, where it is the agent's own
abbrev with_one : List ℕ → Register → Option Caller → Request → List ℕ → List OwnExchange → List OwnExchange
with_one name r caller request reply rest =
    if is_agent name caller then record { day = r.day; others = published_beside name r.day r.members; request = request; reply = reply } ∷ rest else rest

occasions_by : (name : List ℕ) (r : Register) (caller : Option Caller) (request : Request) (reply : List ℕ) (rest : List OwnExchange)
    → without_replies (with_one name r caller request reply rest) ≡ occasion_then name r (request_by name caller request) (without_replies rest)
occasions_by name r (Some (Agent other)) request reply rest = grind arith
occasions_by name r caller request reply rest = refl

replies_by : (name : List ℕ) (r : Register) (caller : Option Caller) (request : Request) (reply : List ℕ) (rest : List OwnExchange)
    → replies_in (with_one name r caller request reply rest) ≡ told_then (request_by name caller request) reply (replies_in rest)
replies_by name r (Some (Agent other)) request reply rest = grind arith
replies_by name r caller request reply rest = refl

own_history : (name : List ℕ) (r : Register) (ss : List Spelled) (bs : List (List ℕ)) → AreReplies r ss bs → without_replies (own_exchanges name r ss bs) ≡ history_in name r ss
own_history name r [] [] h = refl
own_history name r (Err why ∷ ss) (b ∷ bs) h = own_history name r ss bs h.1
own_history name r (Ok asked ∷ ss) (b ∷ bs) h =
    let next : Register = after r (Ok asked) in
    let caller : Option Caller = caller_of asked.token r in
    occasions_by name r caller asked.request b (own_exchanges name next ss bs) ∙ ap (occasion_then name r (request_by name caller asked.request)) (own_history name next ss bs h.1)
own_history name r ss bs h = absurd h

own_received : (name : List ℕ) (r : Register) (ss : List Spelled) (bs : List (List ℕ)) → AreReplies r ss bs → replies_in (own_exchanges name r ss bs) ≡ received name r ss bs
own_received name r [] [] h = refl
own_received name r (Err why ∷ ss) (b ∷ bs) h = own_received name r ss bs h.1
own_received name r (Ok asked ∷ ss) (b ∷ bs) h =
    let next : Register = after r (Ok asked) in
    let caller : Option Caller = caller_of asked.token r in
    replies_by name r caller asked.request b (own_exchanges name next ss bs) ∙ ap (told_then (request_by name caller asked.request) b) (own_received name next ss bs h.1)
own_received name r ss bs h = absurd h

-- ---- the sentences

same_own : (name : List ℕ) (registrar another : List ℕ) (day date : ℤ) (ss worded : List Spelled) (bs told : List (List ℕ)) → AreReplies (empty_register registrar day) ss bs → AreReplies (empty_register another date) worded told
    → without_replies (own_exchanges name (empty_register registrar day) ss bs) ≡ without_replies (own_exchanges name (empty_register another date) worded told)
    → replies_in (own_exchanges name (empty_register registrar day) ss bs) ≡ replies_in (own_exchanges name (empty_register another date) worded told)
same_own name registrar another day date ss worded bs told one two same =
    let r : Register = empty_register registrar day in
    let q : Register = empty_register another date in
    own_received name r ss bs one
    ∙ same_bytes name r q ss worded bs told (empty-legal registrar day) (empty-legal another date) one two refl (sym (own_history name r ss bs one) ∙ same ∙ own_history name q worded told two)
    ∙ sym (own_received name q worded told two)

pub invisible : DraftsStayInvisible
invisible name registrar another day date inputs others spelled worded replies told one two same =
    same_own name registrar another day date spelled worded replies told one.replied two.replied same

pub invisible_in_exchanges : {K : Type 0} (shows : K → Register → Type 0) → ExchangesKeepDraftsInvisible shows
invisible_in_exchanges shows name registrar another day date keep next exchanges others run too same =
    same_own name registrar another day date run.spelled too.spelled (bytes_in (answered exchanges)) (bytes_in (answered others)) run.over.replies too.over.replies same

pub joined : ReportsNameTheJoined
joined registrar day inputs spelled replies h = reports (empty_register registrar day) spelled replies h.replied
