-- An agent's filings, as they are found by key and by number.
use Rattle.std.proofs.Common.{◌≡◌, ℕ, ℤ, List, [], ◌∷◌, map, length, Bool, true, false, cond, Option, Some, None, option_map, Vec, Result, OnOk, IsOk, Global, refl, sym, ap, ◌∙◌, slice_get, All, if◌then◌else◌, unwrap_or, ◌==◌}
use Rattle.std.proofs.lemmas.Option.{slice_get-map}
use Rattle.std.proofs.lemmas.Simd.{map-map}
use Rattle.std.proofs.lemmas.List.Elements.{All-filter, All-map, All-weaker}
use Rattle.sqlite.specs.Order.{Row}
use Rattle.sqlite.specs.State.{State}
use Rattle.sqlite.specs.declared.error.Error.{Error}
use Rattle.bor_terms.specs.Texts.{is_same, is_agent_name}
use Rattle.bor_register.specs.declared.filing.AcceptedFiling.{AcceptedFiling}
use Rattle.bor_register.specs.Register.{Register, filings_of, filing_keyed}
use Rattle.bor_register.specs.Forms.{IsFormedFiling}
use Rattle.bor_register.specs.Publication.{line_of, filing_shown, has_bytes}
use Rattle.bor_register.specs.declared.filing.Filing.{Filing}
use Rattle.bor_register.proofs.Forms.{formed-filings_of}
use Rattle.bor_store_sql.specs.declared.rows.typed.FilingRow.{FilingRow}
use Rattle.bor_store_sql.specs.Found.{FindsRows}
use Rattle.bor_store_sql.specs.Shown.{ShowsIn}
use Rattle.bor_store_sql.specs.Rows.Encoding.{line_columns, shown_columns, truth}
use Rattle.bor_store_sql.specs.Rows.Placed.{filing_lines, filing_row}
use Rattle.bor_store_sql.specs.Rows.RowForms.{IsFormedFilingRow, IsFormedShown}
use Rattle.bor_store_sql.specs.Rows.Stored.{AreNumbered, IsStored}
use Rattle.bor_store_sql.proofs.OnRows.ByKey.{bytes_are, count_is}
use Rattle.bor_store_sql.proofs.OnRows.Formed.{filings_formed, lines_formed}
use Rattle.bor_store_sql.specs.Selected.{keyed, last, numbered}
use Rattle.bor_store_sql.specs.Rows.Seen.{line_shown}
use Rattle.bor_store_reads.specs.Answering.{ReadsAs}
use Rattle.bor_store_reads.specs.declared.fault.ReadError.{ReadError}
use Rattle.bor_store_reads.proofs.Found.{TellsAll, TellsFirst, TellsFlag, all_told, first_told, told_flag}
use Rattle.bor_store_reads.proofs.Lists.{all_taken}
use Rattle.bor_store_reads.proofs.Reading.{read_as}
pub use Rattle.bor_store_sql.proofs.StoredMembers.{numbered_of as own_numbered}

-- the first filing under a key
pub keyed_first : {Y : Type 0} (make : AcceptedFiling → Y) (key : List ℕ) (fs : List AcceptedFiling) → slice_get (map make (keyed key fs)) 0 ≡ option_map make (filing_keyed key fs)
keyed_first make key [] = refl
keyed_first make key (f ∷ fs) = elim (is_same f.key key) as (λ b. slice_get (map make (cond b (f ∷ keyed key fs) (keyed key fs))) 0 ≡ option_map make (if b then Some f else filing_keyed key fs)) [
  | true ↦ refl
  | false ↦ keyed_first make key fs
]

-- the line of a filing that was found
pub line_found : (agent : List ℕ) (day : ℤ) (row : FilingRow) (o : Option AcceptedFiling) → Some row ≡ option_map (filing_row agent) o → Some (line_shown day row) ≡ option_map (line_of day) o
line_found agent day row None e = cc
line_found agent day row (Some f) e = ap (option_map (line_shown day)) e

pub lines_found : (agent : List ℕ) (day : ℤ) (rows : List FilingRow) (fs : List AcceptedFiling) → rows ≡ map (filing_row agent) fs → map (line_shown day) rows ≡ map (line_of day) fs
lines_found agent day rows fs e = ap (map (line_shown day)) e ∙ map-map (line_shown day) (filing_row agent) fs

-- ---- the last one

last_row : (agent : List ℕ) (fs : List AcceptedFiling) → option_map (λ (f : FilingRow). f.number) (slice_get (map (filing_row agent) fs) 0) ≡ option_map (λ (f : AcceptedFiling). f.number) (slice_get fs 0)
last_row agent [] = refl
last_row agent (f ∷ fs) = refl

-- the last filing's number is how many there are
pub counted : (agent : List ℕ) (fs : List AcceptedFiling) → AreNumbered 1 fs → unwrap_or (option_map (λ (f : FilingRow). f.number) (slice_get (map (filing_row agent) (last fs)) 0)) 0 ≡ length fs
counted agent fs numbered = ap (λ o. unwrap_or o 0) (last_row agent (last fs)) ∙ count_is fs numbered

-- ---- forms

pub shown_formed : (fs : List AcceptedFiling) → All IsFormedFiling fs → All IsFormedShown (map filing_shown fs)
shown_formed fs h = All-map IsFormedShown filing_shown fs (All-weaker IsFormedFiling (λ f. IsFormedShown (filing_shown f)) (λ f is. record { number = is.number; due = is.due }) fs h)

-- the rows of some of an agent's filings
own_rows_formed : (agent : List ℕ) → is_agent_name agent ≡ true → (pick : List AcceptedFiling → List AcceptedFiling) → ((fs : List AcceptedFiling) → All IsFormedFiling fs → All IsFormedFiling (pick fs))
    → (r : Register) → IsStored r → All IsFormedFilingRow (map (filing_row agent) (pick (filings_of agent r.members)))
own_rows_formed agent is pick kept r stored = filings_formed agent is (pick (filings_of agent r.members)) (kept (filings_of agent r.members) (formed-filings_of agent r.members stored.formed.members))

-- ---- rows

abbrev filing_rows : List ℕ → List AcceptedFiling → List Row
filing_rows agent fs = map (λ f. line_columns (filing_row agent f)) fs

pub all_filings_told : {old new : State} {found : Result (Vec Row Global) Error} {result : Result (Vec FilingRow Global) ReadError} → FindsRows ShowsIn old new found (λ r. map line_columns (filing_lines r.members)) → TellsAll line_columns IsFormedFilingRow found result → OnOk result (IsOk found)
    → ReadsAs old new result (λ r rows. rows.items ≡ filing_lines r.members)
all_filings_told finds values is_ok = all_told finds line_columns IsFormedFilingRow (λ r. refl) (λ r stored. lines_formed r.members stored.formed.members) values is_ok

-- they are asked for by a name that is the agent's
module _ {old new : State} {found : Result (Vec Row Global) Error} {name agent : List ℕ} (named : name ≡ agent) (form : is_agent_name agent ≡ true) where
  pub filings_told : {result : Result (Vec FilingRow Global) ReadError} → FindsRows ShowsIn old new found (λ r. filing_rows name (filings_of name r.members)) → TellsAll line_columns IsFormedFilingRow found result → OnOk result (IsOk found)
      → ReadsAs old new result (λ r rows. rows.items ≡ map (filing_row agent) (filings_of agent r.members))
  filings_told finds values is_ok =
      all_told finds line_columns IsFormedFilingRow (λ r. rw named (sym (map-map line_columns (filing_row agent) (filings_of agent r.members)))) (own_rows_formed agent form (λ fs. fs) (λ fs h. h)) values is_ok

  -- the row of the first of some of them
  pub filing_told : {result : Result (Option FilingRow) ReadError} {picked : Register → List AcceptedFiling} (pick : List AcceptedFiling → List AcceptedFiling) → ((fs : List AcceptedFiling) → All IsFormedFiling fs → All IsFormedFiling (pick fs))
      → FindsRows ShowsIn old new found (λ r. filing_rows name (picked r)) → ((r : Register) → picked r ≡ pick (filings_of agent r.members)) → TellsFirst line_columns IsFormedFilingRow found result → OnOk result (IsOk found)
      → ReadsAs old new result (λ r row. row ≡ slice_get (map (filing_row agent) (pick (filings_of agent r.members))) 0)
  filing_told pick kept finds same value is_ok =
      first_told finds line_columns IsFormedFilingRow (λ r. map (filing_row agent) (pick (filings_of agent r.members)))
      (λ r. rw named (ap (filing_rows agent) (same r) ∙ sym (map-map line_columns (filing_row agent) (pick (filings_of agent r.members))))) (own_rows_formed agent form pick kept) value is_ok

  pub keyed_told : {result : Result (Option FilingRow) ReadError} {k key : List ℕ} → k ≡ key → FindsRows ShowsIn old new found (λ r. filing_rows name (keyed k (filings_of name r.members))) → TellsFirst line_columns IsFormedFilingRow found result → OnOk result (IsOk found)
      → ReadsAs old new result (λ r row. row ≡ option_map (filing_row agent) (filing_keyed key (filings_of agent r.members)))
  keyed_told {key = key} is finds value is_ok = read_as
      (filing_told (keyed key) (All-filter (λ (f : AcceptedFiling). is_same f.key key) IsFormedFiling) finds (λ r. rw (named, is) refl) value is_ok)
      (λ r row stored same. same ∙ keyed_first (filing_row agent) key (filings_of agent r.members))

  pub numbered_told : {result : Result (Option FilingRow) ReadError} (number : ℕ) → FindsRows ShowsIn old new found (λ r. filing_rows name (numbered number (filings_of name r.members))) → TellsFirst line_columns IsFormedFilingRow found result → OnOk result (IsOk found)
      → ReadsAs old new result (λ r row. row ≡ option_map (filing_row agent) (slice_get (numbered number (filings_of agent r.members)) 0))
  numbered_told number finds value is_ok = read_as
      (filing_told (numbered number) (All-filter (λ (f : AcceptedFiling). f.number == number) IsFormedFiling) finds (λ r. rw named refl) value is_ok)
      (λ r row stored same. same ∙ slice_get-map (filing_row agent) (numbered number (filings_of agent r.members)) 0)

  pub count_told : {result : Result (Option FilingRow) ReadError} → FindsRows ShowsIn old new found (λ r. filing_rows name (last (filings_of name r.members))) → TellsFirst line_columns IsFormedFilingRow found result → OnOk result (IsOk found)
      → ReadsAs old new result (λ r row. unwrap_or (option_map (λ (f : FilingRow). f.number) row) 0 ≡ length (filings_of agent r.members))
  count_told finds value is_ok = read_as (filing_told last (all_taken IsFormedFiling) finds (λ r. rw named refl) value is_ok)
      (λ r row stored same. ap (λ o. unwrap_or (option_map (λ (f : FilingRow). f.number) o) 0) same ∙ counted agent (filings_of agent r.members) (own_numbered agent r.members stored.numbered))

module _ {old new : State} {found : Result (Vec Row Global) Error} {name agent k key : List ℕ} (named : name ≡ agent) (is : k ≡ key) where
  pub shown_told : {result : Result (Option Filing) ReadError} → FindsRows ShowsIn old new found (λ r. map (λ f. shown_columns (filing_shown f)) (keyed k (filings_of name r.members))) → TellsFirst shown_columns IsFormedShown found result → OnOk result (IsOk found)
      → ReadsAs old new result (λ r filing. filing ≡ option_map filing_shown (filing_keyed key (filings_of agent r.members)))
  shown_told finds value is_ok = read_as
      (first_told finds shown_columns IsFormedShown (λ r. map filing_shown (keyed key (filings_of agent r.members))) (λ r. rw (named, is) (sym (map-map shown_columns filing_shown (keyed key (filings_of agent r.members)))))
      (λ r stored. shown_formed (keyed key (filings_of agent r.members)) (All-filter (λ (f : AcceptedFiling). is_same f.key key) IsFormedFiling (filings_of agent r.members) (formed-filings_of agent r.members stored.formed.members))) value is_ok)
      (λ r filing stored same. same ∙ keyed_first filing_shown key (filings_of agent r.members))

  pub file_told : {result : Result Bool ReadError} (bytes : List ℕ) → FindsRows ShowsIn old new found (λ r. map (λ f. truth (is_same f.bytes bytes) ∷ []) (keyed k (filings_of name r.members))) → TellsFlag found result → OnOk result (IsOk found)
      → ReadsAs old new result (λ r has. has ≡ has_bytes bytes (filing_keyed key (filings_of agent r.members)))
  file_told bytes finds flag is_ok =
      let same : AcceptedFiling → Bool = λ f. is_same f.bytes bytes in
      told_flag finds (λ r. map same (keyed key (filings_of agent r.members))) (λ r. rw (named, is) (sym (map-map (λ (b : Bool). truth b ∷ []) same (keyed key (filings_of agent r.members)))))
      (λ r. ap (λ o. unwrap_or o false) (keyed_first same key (filings_of agent r.members)) ∙ bytes_are bytes (filing_keyed key (filings_of agent r.members))) flag is_ok
