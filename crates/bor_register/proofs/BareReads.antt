-- All reads of a register, but of the files themselves, are the same of one without files.
use Rattle.std.proofs.Common.{◌≡◌, ℕ, ℤ, Bool, List, [], ◌∷◌, map, length, Option, Some, option_map, refl, ap, ◌∙◌, arith}
use Rattle.std.proofs.lemmas.List.{length-map}
use Rattle.std.specs.Prelude.{if◌then◌else◌, ◌||◌}
use Rattle.bor_terms.specs.Texts.{is_same}
use Rattle.bor_records.specs.Admission.{last_of}
use Rattle.bor_records.specs.Settling.{has_id}
use Rattle.bor_records.specs.declared.links.node.Node.{Node}
use Rattle.bor_records.specs.Links.Rows.{shown_of}
use Rattle.bor_records.specs.Links.Series.{open_at}
use Rattle.bor_register.specs.Live.{live_of}
use Rattle.bor_register.specs.Publication.{agent_line, line_of, published, published_count}
use Rattle.bor_register.specs.Register.{Register, agent_with, caller_of, filing_keyed, filings_of, is_enrolled}
use Rattle.bor_register.specs.Rows.{rows_of, visible}
use Rattle.bor_register.specs.Seen.{seen_at}
use Rattle.bor_register.specs.Withdrawal.{has_successor}
use Rattle.bor_register.specs.declared.caller.Caller.TheVariants.{Registrar, Agent}
use Rattle.bor_register.specs.declared.filing.AcceptedFiling.{AcceptedFiling}
use Rattle.bor_register.specs.declared.member.Member.{Member}
use Rattle.bor_register.specs.Bare.{bare_register, without_file, without_files}
use Rattle.bor_register.proofs.WithoutFiles.{filings_of-bare, has_successor-bare, live_of-bare, map_bare, published-bare, rows_of-bare, visible-bare}

pub enrolled-bare : (name : List ℕ) (ms : List Member) → is_enrolled name (without_files ms) ≡ is_enrolled name ms
enrolled-bare name [] = refl
enrolled-bare name (m ∷ ms) = ap (λ (b : Bool). is_same m.name name || b) (enrolled-bare name ms)

agent_with-bare : (token : List ℕ) (ms : List Member) → agent_with token (without_files ms) ≡ agent_with token ms
agent_with-bare token [] = refl
agent_with-bare token (m ∷ ms) = ap (λ (o : Option (List ℕ)). if is_same m.token token then Some m.name else o) (agent_with-bare token ms)

pub caller-bare : (token : List ℕ) (r : Register) → caller_of token (bare_register r) ≡ caller_of token r
caller-bare token r = ap (λ (o : Option (List ℕ)). if is_same r.registrar token then Some Registrar else option_map Agent o) (agent_with-bare token r.members)

pub keyed-bare : (key : List ℕ) (fs : List AcceptedFiling) → filing_keyed key (map without_file fs) ≡ option_map without_file (filing_keyed key fs)
keyed-bare key [] = refl
keyed-bare key (f ∷ fs) = grind (arith, keyed-bare key fs)

pub line_is : (agent key : List ℕ) (day : ℤ) (ms : List Member) → option_map (line_of day) (filing_keyed key (filings_of agent (without_files ms))) ≡ option_map (line_of day) (filing_keyed key (filings_of agent ms))
line_is agent key day ms = grind (arith, filings_of-bare agent ms, keyed-bare key (filings_of agent ms))

pub count_is : (agent : List ℕ) (ms : List Member) → length (filings_of agent (without_files ms)) ≡ length (filings_of agent ms)
count_is agent ms = ap (λ (fs : List AcceptedFiling). length fs) (filings_of-bare agent ms) ∙ length-map (filings_of agent ms) without_file

pub lines_are : (agent : List ℕ) (day : ℤ) (ms : List Member) → map (line_of day) (filings_of agent (without_files ms)) ≡ map (line_of day) (filings_of agent ms)
lines_are agent day ms = ap (map (line_of day)) (filings_of-bare agent ms) ∙ map_bare (line_of day) (λ f. refl) (filings_of agent ms)

pub live_is : (agent : List ℕ) (ms : List Member) → live_of (filings_of agent (without_files ms)) ≡ live_of (filings_of agent ms)
live_is agent ms = ap live_of (filings_of-bare agent ms) ∙ live_of-bare (filings_of agent ms)

pub last_is : (agent declaration rec : List ℕ) (ms : List Member) → last_of declaration rec (live_of (filings_of agent (without_files ms))) ≡ last_of declaration rec (live_of (filings_of agent ms))
last_is agent declaration rec ms = ap (last_of declaration rec) (live_is agent ms)

pub id_is : (agent id : List ℕ) (ms : List Member) → has_id id (live_of (filings_of agent (without_files ms))) ≡ has_id id (live_of (filings_of agent ms))
id_is agent id ms = ap (has_id id) (live_is agent ms)

pub successor_is : (agent : List ℕ) (number : ℕ) (ms : List Member) → has_successor number (filings_of agent (without_files ms)) ≡ has_successor number (filings_of agent ms)
successor_is agent number ms = ap (has_successor number) (filings_of-bare agent ms) ∙ has_successor-bare number (filings_of agent ms)

pub rows_are : (viewer : List ℕ) (day : ℤ) (agent declaration : List ℕ) (ms : List Member) → rows_of viewer day agent declaration (filings_of agent (without_files ms)) ≡ rows_of viewer day agent declaration (filings_of agent ms)
rows_are viewer day agent declaration ms = ap (rows_of viewer day agent declaration) (filings_of-bare agent ms) ∙ rows_of-bare viewer day agent declaration (filings_of agent ms)

pub visible_are : (viewer : List ℕ) (r : Register) → visible viewer r.day (without_files r.members) ≡ visible viewer r.day r.members
visible_are viewer r = visible-bare viewer r.day r.members

pub open_row_is : (viewer : List ℕ) (day : ℤ) (n : Node) (r : Register) → open_at day n (visible viewer r.day (without_files r.members)) ≡ open_at day n (visible viewer r.day r.members)
open_row_is viewer day n r = ap (open_at day n) (visible_are viewer r)

pub seen_is : (viewer : List ℕ) (day : ℤ) (r : Register) → seen_at viewer day (bare_register r) ≡ seen_at viewer day r
seen_is viewer day r = ap (shown_of day) (visible_are viewer r)

pub published_are : (r : Register) → published r.day (without_files r.members) ≡ published r.day r.members
published_are r = published-bare r.day r.members

published_count-bare : (day : ℤ) (fs : List AcceptedFiling) → published_count day (map without_file fs) ≡ published_count day fs
published_count-bare day [] = refl
published_count-bare day (f ∷ fs) = grind (arith, published_count-bare day fs)

pub agents_are : (day : ℤ) (ms : List Member) → map (agent_line day) (without_files ms) ≡ map (agent_line day) ms
agents_are day [] = refl
agents_are day (m ∷ ms) = grind (arith, published_count-bare day m.filings, agents_are day ms)
