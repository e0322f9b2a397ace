-- The days that are gathered of a file, and line by line: those that the files of a register's live filings say.
use Rattle.std.proofs.Common.{◌≡◌, ◌↔◌, ◌+◌, ◌<◌, ℕ, Bool, true, false, List, [], ◌∷◌, ◌++◌, map, take, drop, length, get_or, slice_get, Some, Vec, Result, Ok, Err, append_assoc, append-nil, refl, sym, ap, ap₂, subst, ◌∙◌, Option, Global, None, option_map, OnOk, IfErr}
use Rattle.std.specs.List.{AllByRecursion}
use Rattle.std.proofs.lemmas.List.{take_more, drop_more, take-append-drop}
use Rattle.bods_read.specs.File.{reading}
use Rattle.bods_read.specs.declared.statement.Statement.{Statement}
use Rattle.bor_terms.specs.Texts.{is_same}
use Rattle.bor_terms.proofs.Texts.{same_refl, same_sym}
use Rattle.bor_register.specs.Register.{IsOrdered, filings_of}
use Rattle.bor_register.specs.declared.filing.AcceptedFiling.{AcceptedFiling}
use Rattle.bor_register.specs.declared.member.Member.{Member}
use Rattle.bor_store_sql.specs.Rows.Placed.{filing_lines, filing_row, placed_from}
use Rattle.bor_store_sql.specs.Rows.Stored.{AllNumbered}
use Rattle.bor_store_sql.specs.declared.rows.typed.FilingRow.{FilingRow}
use Rattle.bor_store_sql.specs.declared.rows.typed.PeriodRow.{PeriodRow}
use Rattle.bor_store_sql.specs.Selected.{numbered}
use Rattle.bor_store_sql.proofs.Members.{apart_names}
use Rattle.bor_store_reads.specs.declared.fault.ReadError.{ReadError}
use Rattle.bor_store_reads.proofs.FoundStatements.{IsNumbered, each_numbered}
use Rattle.bor_store.specs.Migrating.{FileSays, FilesSay, FilingSays, FoundSays, GathersAll, LineSays, LinesSay, OwnSay, UnlessWithdrawn, interest_days, filed_at, Gathers}
use Rattle.bor_register.specs.Publication.{filing_shown}
use Rattle.bor_register.specs.declared.filing.Filing.{Filing}
use Rattle.bor_store_sql.specs.Fitting.{Fit}
use Rattle.bor_store_reads.specs.Answering.{IsNoDamage}
use Rattle.bor_store_reads.specs.declared.fault.ReadError.TheVariants as errors

-- ---- one line after the other

module _ (ms : List Member) where
  lines_append : (xs ys : List FilingRow) (ps qs : List PeriodRow) → LinesSay ms xs ps → LinesSay ms ys qs → LinesSay ms (xs ++ ys) (ps ++ qs)
  lines_append [] ys ps qs h k = subst (λ l. LinesSay ms ys (l ++ qs)) (sym h) k
  lines_append (x ∷ xs) ys ps qs h k = (h.0, h.1 ++ qs, h.2, lines_append xs ys h.1 qs h.3 k, ap (λ l. l ++ qs) h.4 ∙ append_assoc h.0 h.1 qs)

  lines_split : (xs ys : List FilingRow) (days : List PeriodRow) → LinesSay ms (xs ++ ys) days → (ps : List PeriodRow) × (qs : List PeriodRow) × LinesSay ms xs ps × LinesSay ms ys qs × (days ≡ ps ++ qs)
  lines_split [] ys days h = ([], days, refl, h, refl)
  lines_split (x ∷ xs) ys days h =
      let rest = lines_split xs ys h.1 h.3 in
      (h.0 ++ rest.0, rest.1, (h.0, rest.0, h.2, rest.2, refl), rest.3, h.4 ∙ ap (λ l. h.0 ++ l) rest.4 ∙ sym (append_assoc h.0 rest.0 rest.1))

  pub line_gathered : (lines : List FilingRow) (i : ℕ) (x : FilingRow) (before after : List PeriodRow) → i < length lines → x ≡ get_or lines i x → LinesSay ms (take i lines) before
      → (days : List PeriodRow) × LineSays ms x days × (after ≡ before ++ days) → LinesSay ms (take (i + 1) lines) after
  line_gathered lines i x before after lt is so_far more =
      let one : LinesSay ms (x ∷ []) more.0 = (more.0, [], more.1, refl, sym (append-nil more.0)) in
      let on : take (i + 1) lines ≡ take i lines ++ x ∷ [] = take_more lines i x lt ∙ ap (λ y. take i lines ++ y ∷ []) (sym is) in
      subst (λ l. LinesSay ms l after) (sym on) (subst (LinesSay ms (take i lines ++ x ∷ [])) (sym more.2) (lines_append (take i lines) (x ∷ []) before more.0 so_far one))

  -- where a line says nothing, all of them together say nothing
  pub line_failed : (lines : List FilingRow) (i : ℕ) (x : FilingRow) → i < length lines → x ≡ get_or lines i x → ((days : List PeriodRow) → LineSays ms x days → ⊥) → (days : List PeriodRow) → LinesSay ms lines days → ⊥
  line_failed lines i x lt is none days h =
      let rest : drop i lines ≡ x ∷ drop (i + 1) lines = drop_more lines i x lt ∙ ap (λ y. y ∷ drop (i + 1) lines) (sym is) in
      let whole : lines ≡ take i lines ++ (x ∷ drop (i + 1) lines) = sym (take-append-drop i lines) ∙ ap (λ l. take i lines ++ l) rest in
      let parts = lines_split (take i lines) (x ∷ drop (i + 1) lines) days (subst (λ l. LinesSay ms l days) whole h) in
      none parts.3.0 parts.3.2

-- ---- the filing of a line

-- each agent's filings are found by its name
own_beside : (m : Member) (ms rest : List Member) → AllByRecursion (λ (o : Member). is_same o.name m.name ≡ false) rest → AllByRecursion (λ (o : Member). filings_of o.name ms ≡ o.filings) rest
    → AllByRecursion (λ (o : Member). filings_of o.name (m ∷ ms) ≡ o.filings) rest
own_beside m ms [] apart own = tt
own_beside m ms (o ∷ rest) apart own = (rw (same_sym m.name o.name ∙ apart.0) own.0, own_beside m ms rest apart.1 own.1)

all_own : (ms : List Member) → IsOrdered ms → AllByRecursion (λ (o : Member). filings_of o.name ms ≡ o.filings) ms
all_own [] up = tt
all_own (m ∷ ms) up = (rw (same_refl m.name) refl, own_beside m ms ms (apart_names m.name m.name ms (same_refl m.name) up.0) (all_own ms up.1))

module _ (whole : List Member) where
  module _ (agent : List ℕ) (own : List AcceptedFiling) (mine : filings_of agent whole ≡ own) where
    found_at : (n : ℕ) (f : AcceptedFiling) → IsNumbered own n f → filed_at agent f.number whole ≡ Some f
    found_at n f h = ap (λ fs. slice_get (numbered f.number fs) 0) mine ∙ ap (λ fs. slice_get fs 0) h.found

    own_say : (n : ℕ) (fs : List AcceptedFiling) → AllByRecursion (IsNumbered own n) fs → (days : List PeriodRow) → LinesSay whole (map (filing_row agent) fs) days ↔ OwnSay agent fs days
    own_say n [] alone days = (λ h. h, λ h. h)
    own_say n (f ∷ fs) alone days =
        let Says : Option AcceptedFiling → List PeriodRow → Type 0 = λ o ps. UnlessWithdrawn f.withdrawn (FoundSays agent f.number o) ps in
        let found = found_at n f alone.0 in (
          λ h. (h.0, h.1, subst (λ o. Says o h.0) found h.2, (own_say n fs alone.1 h.1).0 h.3, h.4),
          λ h. (h.0, h.1, subst (λ o. Says o h.0) (sym found) h.2, (own_say n fs alone.1 h.1).1 h.3, h.4),
        )

  all_say : (ms : List Member) → AllByRecursion (λ (m : Member). filings_of m.name whole ≡ m.filings) ms → AllNumbered ms → (days : List PeriodRow) → LinesSay whole (filing_lines ms) days ↔ FilesSay ms days
  all_say [] own numbers days = (λ h. h, λ h. h)
  all_say (m ∷ ms) own numbers days =
      let first : (ps : List PeriodRow) → LinesSay whole (map (filing_row m.name) m.filings) ps ↔ OwnSay m.name m.filings ps = own_say m.name m.filings own.0 1 m.filings (each_numbered 1 m.filings numbers.0) in
      let rest = all_say ms own.1 numbers.1 in (
        λ h.
            let parts = lines_split whole (map (filing_row m.name) m.filings) (filing_lines ms) days h in
            (parts.0, parts.1, (first parts.0).0 parts.2, (rest parts.1).0 parts.3, parts.4),
        λ h.
            subst (LinesSay whole (map (filing_row m.name) m.filings ++ filing_lines ms)) (sym h.4)
            (lines_append whole (map (filing_row m.name) m.filings) (filing_lines ms) h.0 h.1 ((first h.0).1 h.2) ((rest h.1).1 h.3)),
      )

-- the lines of a register say what the files of its live filings say
lines_say : (ms : List Member) → IsOrdered ms → AllNumbered ms → (days : List PeriodRow) → LinesSay ms (filing_lines ms) days ↔ FilesSay ms days
lines_say ms up numbers = all_say ms ms (all_own ms up) numbers

-- ---- they say one thing alone

pub read_once : {E : Type 0} (r : Result (List Statement) E) (a b : List Statement) → r ≡ Ok a → r ≡ Ok b → a ≡ b
read_once r a b h k = cc

file_once : (agent : List ℕ) (number : ℕ) (f : AcceptedFiling) (ps qs : List PeriodRow) → FileSays agent number f ps → FileSays agent number f qs → ps ≡ qs
file_once agent number f ps qs h k =
    h.are ∙ ap (λ ss. interest_days (placed_from agent number 1 ss)) (read_once (reading f.bytes) h.said k.said h.read k.read) ∙ sym k.are

filing_once : (agent : List ℕ) (f : AcceptedFiling) (ps qs : List PeriodRow) → FilingSays agent f ps → FilingSays agent f qs → ps ≡ qs
filing_once agent f ps qs = go f.withdrawn
  where
    go : (b : Bool) → UnlessWithdrawn b (FileSays agent f.number f) ps → UnlessWithdrawn b (FileSays agent f.number f) qs → ps ≡ qs
    go true h k = h ∙ sym k
    go false h k = file_once agent f.number f ps qs h k

own_once : (agent : List ℕ) (fs : List AcceptedFiling) (ps qs : List PeriodRow) → OwnSay agent fs ps → OwnSay agent fs qs → ps ≡ qs
own_once agent [] ps qs h k = h ∙ sym k
own_once agent (f ∷ fs) ps qs h k = h.4 ∙ ap₂ (λ x y. x ++ y) (filing_once agent f h.0 k.0 h.2 k.2) (own_once agent fs h.1 k.1 h.3 k.3) ∙ sym k.4

pub files_once : (ms : List Member) (ps qs : List PeriodRow) → FilesSay ms ps → FilesSay ms qs → ps ≡ qs
files_once [] ps qs h k = h ∙ sym k
files_once (m ∷ ms) ps qs h k = h.4 ∙ ap₂ (λ x y. x ++ y) (own_once m.name m.filings h.0 k.0 h.2 k.2) (files_once ms h.1 k.1 h.3 k.3) ∙ sym k.4

-- ---- all that the files say

pub gathered_all : (ms : List Member) → IsOrdered ms → AllNumbered ms → (result : Result (Vec PeriodRow Global) ReadError) → GathersAll (LinesSay ms (filing_lines ms)) result → GathersAll (FilesSay ms) result
gathered_all ms up numbers (Ok days) h = (lines_say ms up numbers days.items).0 h
gathered_all ms up numbers (Err error) h = λ damaged days says. h damaged days ((lines_say ms up numbers days).1 says)

-- ---- one file

module _ (agent : List ℕ) (number : ℕ) (f : AcceptedFiling) (bytes : List ℕ) (same : f.bytes ≡ bytes) (before after : List PeriodRow) where
  -- where what it is read to doesn't fit it says nothing either
  pub misfit : (X : Type 0) (said : List Statement) → reading bytes ≡ Ok said → (Fit agent number 1 said f.statements → ⊥) → Gathers {X = X} (FileSays agent number f) before after (Err errors.Damaged)
  misfit X said read none = λ damaged days says. none (subst (λ ss. Fit agent number 1 ss f.statements) (read_once (reading f.bytes) says.said said says.read (ap reading same ∙ read)) says.fit)

  -- the days of what it is read to are added
  pub file_added : {X : Type 0} (said : List Statement) (result : Result X ReadError) → reading bytes ≡ Ok said → Fit agent number 1 said f.statements → OnOk result (after ≡ before ++ interest_days (placed_from agent number 1 said)) → IfErr result IsNoDamage
      → Gathers (FileSays agent number f) before after result
  file_added said (Ok x) read fit added failed = (interest_days (placed_from agent number 1 said), record { said = said; read = ap reading same ∙ read; fit = fit; are = refl }, added)
  file_added said (Err error) read fit added failed = λ damaged days says. failed damaged

-- ---- one line

module _ (ms : List Member) (l : FilingRow) where
  module _ {X : Type 0} (before after : List PeriodRow) (result : Result X ReadError) (live : l.withdrawn ≡ false) where
    of_found : Gathers (FoundSays l.agent l.number (filed_at l.agent l.number ms)) before after result → Gathers (LineSays ms l) before after result
    of_found h = subst (λ b. Gathers (UnlessWithdrawn b (FoundSays l.agent l.number (filed_at l.agent l.number ms))) before after result) (sym live) h

    pub live_gathered : (file : Filing) → Some file ≡ option_map filing_shown (filed_at l.agent l.number ms)
        → ((f : AcceptedFiling) → filed_at l.agent l.number ms ≡ Some f → f.bytes ≡ file.bytes → Gathers (FileSays l.agent l.number f) before after result) → Gathers (LineSays ms l) before after result
    live_gathered file found h = of_found (go (filed_at l.agent l.number ms) refl found)
      where
        go : (o : Option AcceptedFiling) → filed_at l.agent l.number ms ≡ o → Some file ≡ option_map filing_shown o → Gathers (FoundSays l.agent l.number o) before after result
        go None at e = absurd cc
        go (Some f) at e = let is : file ≡ filing_shown f = cc in h f at (sym (ap (λ (x : Filing). x.bytes) is))
