-- A run that goes on where another has ended is one run with it.
use Rattle.std.proofs.Common.{◌≡◌, ◌++◌, ℕ, List, [], ◌∷◌, Bool, true, false, Option, Some, None, Ok, Err, refl, sym, ap, subst, ◌∙◌}
use Rattle.std.specs.Prelude.{if◌then◌else◌}
use Rattle.std.specs.List.{AllZip}
use Rattle.std.proofs.lemmas.List.{map-append}
use Rattle.std.proofs.lemmas.List.Elements.{filter-append}
use Rattle.bor_terms.specs.Texts.{is_same}
use Rattle.bor_terms.proofs.Texts.{same_is}
use Rattle.bor_register.specs.declared.caller.Caller.{Caller}
use Rattle.bor_register.specs.declared.caller.Caller.TheVariants.{Registrar, Agent}
use Rattle.bor_register.specs.Register.{Register, caller_of, empty_register, filings_of}
use Rattle.bor_desk.specs.Operations.Legality.{IsLegal}
use Rattle.bor_desk.specs.Operations.Solo.{published_beside}
use Rattle.bor_desk.specs.declared.request.Request.{Request}
use Rattle.bor_desk.specs.Laws.{is_agent}
use Rattle.bor_desk.specs.Step.{step}
use Rattle.bor_desk.specs.Runs.{Occasion, occasion_then, request_by}
use Rattle.bor_desk.proofs.Isolation.{exchange_alone, own_filings}
use Rattle.bor_wire.specs.Spelling.Spell.{Spelled, Spells}
use Rattle.bor_wire.specs.Inputs.{after}
use Rattle.bor_wire.specs.Runs.{AreReplies, register_left}
use Rattle.bor_wire.specs.Histories.{history_in}
use Rattle.bor_wire.specs.Headline.{AreAnswered, OwnExchange, own_exchanges, own_then, without_replies, replies_in}
use Rattle.bor_wire.specs.Sent.{bytes_sent}
use Rattle.bor_wire.specs.Sequences.{AreSpelledBy, Exchanged, IsRun, answered, bytes_in, is_answered, keep_left}
use Rattle.bor_wire.specs.Restarts.{ExchangesCompose, FilingsFollowHistory, IsLife, LivesKeepDraftsInvisible, Part, RunsCompose, filings_alone, own_in_life}
use Rattle.bor_wire.proofs.HeadlineLaws.{invisible}
use Rattle.bor_wire.proofs.RunLaws.{after_legal}
use Rattle.bor_wire.proofs.SequenceLaws.{run_over}

-- ---- two runs

pub replies-append : (r : Register) (ss more : List Spelled) (bs told : List (List ℕ)) → AreReplies r ss bs → AreReplies (register_left r ss) more told → AreReplies r (ss ++ more) (bs ++ told)
replies-append r [] more [] told h rest = rest
replies-append r (s ∷ ss) more (b ∷ bs) told h rest = (h.0, replies-append (after r s) ss more bs told h.1 rest)
replies-append r ss more bs told h rest = absurd h

left-append : (r : Register) (ss more : List Spelled) → register_left r (ss ++ more) ≡ register_left (register_left r ss) more
left-append r [] more = refl
left-append r (s ∷ ss) more = left-append (after r s) ss more

occasion-append : (name : List ℕ) (r : Register) (request : Option Request) (xs ys : List Occasion) → occasion_then name r request (xs ++ ys) ≡ occasion_then name r request xs ++ ys
occasion-append name r None xs ys = refl
occasion-append name r (Some request) xs ys = refl

history-append : (name : List ℕ) (r : Register) (ss more : List Spelled) → history_in name r (ss ++ more) ≡ history_in name r ss ++ history_in name (register_left r ss) more
history-append name r [] more = refl
history-append name r (Err why ∷ ss) more = history-append name r ss more
history-append name r (Ok asked ∷ ss) more =
    let next : Register = after r (Ok asked) in
    let request : Option Request = request_by name (caller_of asked.token r) asked.request in
    ap (occasion_then name r request) (history-append name next ss more)
    ∙ occasion-append name r request (history_in name next ss) (history_in name (register_left next ss) more)

own-append-one : (b : Bool) (e : OwnExchange) (xs ys : List OwnExchange) → (if b then e ∷ (xs ++ ys) else xs ++ ys) ≡ (if b then e ∷ xs else xs) ++ ys
own-append-one true e xs ys = refl
own-append-one false e xs ys = refl

own-append : (name : List ℕ) (r : Register) (ss more : List Spelled) (bs told : List (List ℕ)) → AreReplies r ss bs
    → own_exchanges name r (ss ++ more) (bs ++ told) ≡ own_exchanges name r ss bs ++ own_exchanges name (register_left r ss) more told
own-append name r [] more [] told h = refl
own-append name r (Err why ∷ ss) more (b ∷ bs) told h = own-append name r ss more bs told h.1
own-append name r (Ok asked ∷ ss) more (b ∷ bs) told h =
    let next : Register = after r (Ok asked) in
    let one : OwnExchange = record { day = r.day; others = published_beside name r.day r.members; request = asked.request; reply = b } in
    ap (own_then name r (Ok asked) b) (own-append name next ss more bs told h.1)
    ∙ own-append-one (is_agent name (caller_of asked.token r)) one (own_exchanges name next ss bs) (own_exchanges name (register_left next ss) more told)
own-append name r ss more bs told h = absurd h

pub compose : RunsCompose
compose = record { replies = replies-append; left = left-append; history = history-append; own = own-append }

-- ---- exchanges one after the other

zip-append : {A B : Type 0} (R : A → B → Type 0) (xs : List A) (ys : List B) (others : List A) (more : List B) → AllZip R xs ys → AllZip R others more → AllZip R (xs ++ others) (ys ++ more)
zip-append R [] [] others more h rest = rest
zip-append R (x ∷ xs) (y ∷ ys) others more h rest = (h.0, zip-append R xs ys others more h.1 rest)
zip-append R xs ys others more h rest = absurd h

pub exchanges_compose : {K : Type 0} (shows : K → Register → Type 0) → ExchangesCompose shows
exchanges_compose {K} shows r keep next es others legal run more =
    let spelled : List Spelled = run.spelled ++ more.spelled in
    let told : answered (es ++ others) ≡ answered es ++ answered others = filter-append (λ (e : Exchanged K). is_answered e.reply) es others in
    let bytes : bytes_in (answered es ++ answered others) ≡ bytes_in (answered es) ++ bytes_in (answered others) = map-append (λ (e : Exchanged K). bytes_sent e.reply) (answered es) (answered others) in
    let replies : AreReplies r spelled (bytes_in (answered (es ++ others))) =
    subst (AreReplies r spelled) (sym (ap bytes_in told ∙ bytes))
    (replies-append r run.spelled more.spelled (bytes_in (answered es)) (bytes_in (answered others)) run.over.replies more.over.replies) in
    let left : register_left r spelled ≡ register_left (register_left r run.spelled) more.spelled = left-append r run.spelled more.spelled in
    let both : IsRun (shows (keep_left next others)) r (es ++ others) = record {
      spelled = spelled;
      spells = subst (λ (xs : List (Exchanged K)). AreSpelledBy xs spelled) (sym told) (zip-append (λ (e : Exchanged K) s. Spells e.input s) (answered es) run.spelled (answered others) more.spelled run.spells more.spells);
      over = run_over (shows (keep_left next others)) r spelled (bytes_in (answered (es ++ others))) legal replies (subst (shows (keep_left next others)) (sym left) more.over.left);
    } in
    (both, refl, ap bytes_in told ∙ bytes)

-- ---- an agent's filings

-- after the rest of a run they follow from those before it and the history in it
Follow : List ℕ → Register → List Spelled → Type 0
Follow name r ss = filings_of name (register_left r ss).members ≡ filings_alone name (filings_of name r.members) (history_in name r ss)

-- others leave them
by_others : (name : List ℕ) (r next : Register) (ss : List Spelled) → filings_of name next.members ≡ filings_of name r.members → Follow name next ss
    → filings_of name (register_left next ss).members ≡ filings_alone name (filings_of name r.members) (history_in name next ss)
unfolding Follow
by_others name r next ss same goes = goes ∙ ap (λ own. filings_alone name own (history_in name next ss)) same

-- one exchange of an agent, and the rest
ByAgent : Register → List ℕ → Request → List Spelled → List ℕ → Type 0
ByAgent r asking request ss name =
    Follow name (step r (Some (Agent asking)) request).register ss →
    filings_of name (register_left (step r (Some (Agent asking)) request).register ss).members
    ≡ filings_alone name (filings_of name r.members) (record { day = r.day; others = published_beside name r.day r.members; request = request } ∷ history_in name (step r (Some (Agent asking)) request).register ss)

by_itself : (r : Register) (token name : List ℕ) (request : Request) (ss : List Spelled) → IsLegal r → caller_of token r ≡ Some (Agent name) → ByAgent r name request ss name
unfolding Follow ByAgent
by_itself r token name request ss legal is goes =
    let next : Register = (step r (Some (Agent name)) request).register in
    goes ∙ ap (λ own. filings_alone name own (history_in name next ss)) (sym (exchange_alone r token name request legal is).filings)

by_agent : (r : Register) (token name asking : List ℕ) (request : Request) (ss : List Spelled) (b : Bool) → is_same asking name ≡ b → IsLegal r → caller_of token r ≡ Some (Agent asking)
    → Follow name (step r (Some (Agent asking)) request).register ss
    → filings_of name (register_left (step r (Some (Agent asking)) request).register ss).members
    ≡ filings_alone name (filings_of name r.members) (occasion_then name r (if b then Some request else None) (history_in name (step r (Some (Agent asking)) request).register ss))
unfolding ByAgent
by_agent r token name asking request ss true same legal is goes =
    subst (λ n. ByAgent r asking request ss n) (same_is asking name same) (by_itself r token asking request ss legal is) goes
by_agent r token name asking request ss false other legal is goes =
    by_others name r (step r (Some (Agent asking)) request).register ss (own_filings.by_others r (Some (Agent asking)) request name other) goes

by_caller : (r : Register) (token name : List ℕ) (request : Request) (ss : List Spelled) (caller : Option Caller) → caller_of token r ≡ caller → IsLegal r
    → Follow name (step r caller request).register ss
    → filings_of name (register_left (step r caller request).register ss).members
    ≡ filings_alone name (filings_of name r.members) (occasion_then name r (request_by name caller request) (history_in name (step r caller request).register ss))
by_caller r token name request ss None is legal goes = by_others name r r ss refl goes
by_caller r token name request ss (Some Registrar) is legal goes =
    by_others name r (step r (Some Registrar) request).register ss (own_filings.by_others r (Some Registrar) request name refl) goes
by_caller r token name request ss (Some (Agent asking)) is legal goes = by_agent r token name asking request ss (is_same asking name) refl legal is goes

follow : (name : List ℕ) (r : Register) (ss : List Spelled) → IsLegal r → Follow name r ss
unfolding Follow
follow name r [] legal = refl
follow name r (Err why ∷ ss) legal = follow name r ss legal
follow name r (Ok asked ∷ ss) legal =
    by_caller r asked.token name asked.request ss (caller_of asked.token r) refl legal (follow name (after r (Ok asked)) ss (after_legal r (Ok asked) legal))

pub filings_follow : FilingsFollowHistory
unfolding Follow
filings_follow name r ss legal = follow name r ss legal

-- ---- a register's life

-- its parts as one
record IsWhole (name : List ℕ) (r : Register) (life : List Part) : Type 0 where
  inputs : List (List ℕ)
  spelled : List Spelled
  replies : List (List ℕ)
  run : AreAnswered r inputs spelled replies
  own : own_exchanges name r spelled replies ≡ own_in_life name r life

whole : (name : List ℕ) (r : Register) (life : List Part) → IsLife r life → IsWhole name r life
whole name r [] h = record { inputs = []; spelled = []; replies = []; run = record { spells = tt; replied = tt }; own = refl }
whole name r (part ∷ rest) h =
    let more : IsWhole name (register_left r part.spelled) rest = whole name (register_left r part.spelled) rest h.1 in
    record {
      inputs = part.inputs ++ more.inputs;
      spelled = part.spelled ++ more.spelled;
      replies = part.replies ++ more.replies;
      run = record {
        spells = zip-append Spells part.inputs part.spelled more.inputs more.spelled h.0.spells more.run.spells;
        replied = replies-append r part.spelled more.spelled part.replies more.replies h.0.replied more.run.replied;
      };
      own = own-append name r part.spelled more.spelled part.replies more.replies h.0.replied
          ∙ ap (λ own. own_exchanges name r part.spelled part.replies ++ own) more.own;
    }

pub invisible_in_lives : LivesKeepDraftsInvisible
invisible_in_lives name registrar another day date life other lives too same =
    let r : Register = empty_register registrar day in
    let q : Register = empty_register another date in
    let one = whole name r life lives in
    let two = whole name q other too in
    ap replies_in (sym one.own)
    ∙ invisible name registrar another day date one.inputs two.inputs one.spelled two.spelled one.replies two.replies one.run two.run (ap without_replies one.own ∙ same ∙ ap without_replies (sym two.own))
    ∙ ap replies_in two.own
