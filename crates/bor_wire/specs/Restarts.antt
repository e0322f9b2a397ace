-- Runs that go on where others have ended, as after a restart of the program.
use Rattle.std.specs.Prelude.{◌≡◌, ◌++◌, ℕ, ℤ, List, [], ◌∷◌, Some}
use Rattle.bor_register.specs.declared.caller.Caller.TheVariants.{Agent}
use Rattle.bor_register.specs.declared.filing.AcceptedFiling.{AcceptedFiling}
use Rattle.bor_register.specs.Register.{Register, empty_register, filings_of}
use Rattle.bor_desk.specs.Operations.Legality.{IsLegal}
use Rattle.bor_desk.specs.Operations.Solo.{solo_register}
use Rattle.bor_desk.specs.Step.{step}
use Rattle.bor_desk.specs.Runs.{Occasion}
use Rattle.bor_wire.specs.Spelling.Spell.{Spelled}
use Rattle.bor_wire.specs.Runs.{AreReplies, register_left}
use Rattle.bor_wire.specs.Histories.{history_in}
use Rattle.bor_wire.specs.Headline.{AreAnswered, OwnExchange, own_exchanges, without_replies}
use Rattle.bor_wire.specs.Headline.{replies_in}
use Rattle.bor_wire.specs.Sequences.{Exchanged, IsRun, answered, bytes_in, keep_left}

-- ---- two runs, of which the second begins with the register that the first left

-- They are one run of both lists: their replies are its replies, it leaves the same register, and
-- of each agent it has the history and the exchanges of the first and then those of the second.
pub record RunsCompose : Type 0 where
  pub replies : (r : Register) (inputs others : List Spelled) (replies told : List (List ℕ))
      → AreReplies r inputs replies →
      AreReplies (register_left r inputs) others told
      → AreReplies r (inputs ++ others) (replies ++ told)
  pub left : (r : Register) (inputs others : List Spelled)
      → register_left r (inputs ++ others) ≡ register_left (register_left r inputs) others
  pub history : (name : List ℕ) (r : Register) (inputs others : List Spelled) →
      history_in name r (inputs ++ others)
      ≡ history_in name r inputs ++ history_in name (register_left r inputs) others
  pub own : (name : List ℕ) (r : Register) (inputs others : List Spelled)
      (replies told : List (List ℕ))
      → AreReplies r inputs replies →
      own_exchanges name r (inputs ++ others) (replies ++ told)
      ≡ own_exchanges name r inputs replies
      ++ own_exchanges name (register_left r inputs) others told

-- The same of exchanges one after the other, where a keep shows the register that another keep
-- showed at the end.
abbrev pub ExchangesCompose : {K : Type 0} → (K → Register → Type 0) → Type 0
ExchangesCompose {K} shows =
    (r : Register) (keep next : K) (exchanges others : List (Exchanged K)) → IsLegal r →
    (run : IsRun (shows (keep_left keep exchanges)) r exchanges)
    (more : IsRun (shows (keep_left next others)) (register_left r run.spelled) others) →
    (both : IsRun (shows (keep_left next others)) r (exchanges ++ others))
    × (both.spelled ≡ run.spelled ++ more.spelled)
    × (bytes_in (answered (exchanges ++ others))
    ≡ bytes_in (answered exchanges) ++ bytes_in (answered others))

-- ---- an agent's filings

-- those that it has after its own exchanges alone
abbrev pub filings_alone : List ℕ → List AcceptedFiling → List Occasion → List AcceptedFiling
filings_alone name own [] = own
filings_alone name own (e ∷ rest) =
    let o = step (solo_register name own e.day e.others) (Some (Agent name)) e.request in
    filings_alone name (filings_of name o.register.members) rest

-- After a run an agent has the filings that follow from those at the start and its history.
abbrev pub FilingsFollowHistory : Type 0
FilingsFollowHistory = (name : List ℕ) (r : Register) (inputs : List Spelled) → IsLegal r →
    filings_of name (register_left r inputs).members
    ≡ filings_alone name (filings_of name r.members) (history_in name r inputs)

-- ---- a register's life

-- A part of it, as between two starts of the program: requests, each as bytes, what they spell, and
-- the bytes of the replies.
pub record Part : Type 0 where
  pub inputs : List (List ℕ)
  pub spelled : List Spelled
  pub replies : List (List ℕ)

-- each part is answered from the register that the one before it left
abbrev pub IsLife : Register → List Part → Type 0
IsLife r [] = Unit {0}
IsLife r (part ∷ rest) =
    AreAnswered r part.inputs part.spelled part.replies × IsLife (register_left r part.spelled) rest

-- an agent's own exchanges in it, in order
abbrev pub own_in_life : List ℕ → Register → List Part → List OwnExchange
own_in_life name r [] = []
own_in_life name r (part ∷ rest) =
    own_exchanges name r part.spelled part.replies
    ++ own_in_life name (register_left r part.spelled) rest

-- The first sentence of whole lives of registers, however many starts each has: where an agent's
-- own requests are the same in both, on the same days and with the same published by the others at
-- each, it receives the same bytes.
abbrev pub LivesKeepDraftsInvisible : Type 0
LivesKeepDraftsInvisible =
    (name : List ℕ) (registrar another : List ℕ) (day date : ℤ) (life other : List Part) →
    let r = empty_register registrar day in let q = empty_register another date in
    IsLife r life → IsLife q other
    → without_replies (own_in_life name r life) ≡ without_replies (own_in_life name q other) →
    replies_in (own_in_life name r life) ≡ replies_in (own_in_life name q other)
