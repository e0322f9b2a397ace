-- A change of a register without files makes the changed register without files.
use Rattle.std.proofs.Common.{◌≡◌, ℕ, ℤ, ◌<◌, Bool, List, [], ◌∷◌, ◌++◌, map, option_map, refl, ap, ◌∙◌, subst, sym, arith}
use Rattle.std.specs.Prelude.{◌||◌}
use Rattle.std.proofs.lemmas.List.{map-append, length-map}
use Rattle.bor_terms.specs.Texts.{is_same}
use Rattle.bods_read.specs.declared.statement.Statement.{Statement}
use Rattle.bor_records.specs.Admission.{Live}
use Rattle.bor_register.specs.Limits.{filings_limit}
use Rattle.bor_register.specs.Live.{AreNew, accepted}
use Rattle.bor_register.specs.Register.{Register, filing_keyed, filings_of, is_agents_token, new_member, with_filings, with_member, with_token}
use Rattle.bor_register.specs.Withdrawal.{with_withdrawn}
use Rattle.bor_register.specs.declared.filing.AcceptedFiling.{AcceptedFiling}
use Rattle.bor_register.specs.declared.member.Member.{Member}
use Rattle.bor_register.specs.Bare.{bare_register, member_without_files, without_file, without_files}
use Rattle.bor_register.proofs.WithoutFiles.{filings_of-bare}
use Rattle.bor_register.specs.Additions.{MayEnrol, MayFile, with_agent, with_filing, with_renewal}
use Rattle.bor_register.proofs.BareReads.{count_is, enrolled-bare, keyed-bare, live_is}

with_filings-bare : (name : List ℕ) (fs : List AcceptedFiling) (ms : List Member) → with_filings name (map without_file fs) (without_files ms) ≡ without_files (with_filings name fs ms)
with_filings-bare name fs [] = refl
with_filings-bare name fs (m ∷ ms) = grind (arith, with_filings-bare name fs ms)

pub filed-bare : (agent key : List ℕ) (due : ℤ) (bytes : List ℕ) (statements : List Statement) (r : Register) → with_filing agent key due [] statements (bare_register r) ≡ bare_register (with_filing agent key due bytes statements r)
filed-bare agent key due bytes statements r =
    let own = filings_of agent r.members in
    let f = accepted own key due bytes statements in
    let members : (with_filing agent key due [] statements (bare_register r)).members ≡ (bare_register (with_filing agent key due bytes statements r)).members =
    rw (filings_of-bare agent r.members, length-map own without_file, ← map-append without_file own (f ∷ [])) (with_filings-bare agent (own ++ f ∷ []) r.members) in
    λ i. record (bare_register r) { members = members i }

with_withdrawn-bare : (number : ℕ) (fs : List AcceptedFiling) → with_withdrawn number (map without_file fs) ≡ map without_file (with_withdrawn number fs)
with_withdrawn-bare number [] = refl
with_withdrawn-bare number (f ∷ fs) = grind (arith, with_withdrawn-bare number fs)

pub withdrawn-bare : (agent : List ℕ) (number : ℕ) (ms : List Member) → with_filings agent (with_withdrawn number (filings_of agent (without_files ms))) (without_files ms) ≡ without_files (with_filings agent (with_withdrawn number (filings_of agent ms)) ms)
withdrawn-bare agent number ms =
    rw (filings_of-bare agent ms, with_withdrawn-bare number (filings_of agent ms)) (with_filings-bare agent (with_withdrawn number (filings_of agent ms)) ms)

with_member-bare : (new : Member) (ms : List Member) → with_member (member_without_files new) (without_files ms) ≡ without_files (with_member new ms)
with_member-bare new [] = refl
with_member-bare new (m ∷ ms) = grind (arith, with_member-bare new ms)

pub enrolled_with-bare : (agent token : List ℕ) (r : Register) → with_agent agent token (bare_register r) ≡ bare_register (with_agent agent token r)
enrolled_with-bare agent token r = ap (λ (ms : List Member). let q : Register = record r { members = ms } in q) (with_member-bare (new_member agent token) r.members)

with_token-bare : (agent token : List ℕ) (ms : List Member) → with_token agent token (without_files ms) ≡ without_files (with_token agent token ms)
with_token-bare agent token [] = refl
with_token-bare agent token (m ∷ ms) = grind (arith, with_token-bare agent token ms)

pub renewed-bare : (agent token : List ℕ) (r : Register) → with_renewal agent token (bare_register r) ≡ bare_register (with_renewal agent token r)
renewed-bare agent token r = ap (λ (ms : List Member). let q : Register = record r { members = ms } in q) (with_token-bare agent token r.members)

-- what fits a register fits it without files
pub may_file-bare : (agent : List ℕ) (count : ℕ) (key : List ℕ) (statements : List Statement) (r : Register) → MayFile agent count key statements r → MayFile agent count key statements (bare_register r)
may_file-bare agent count key statements r fits = record {
  enrolled = enrolled-bare agent r.members ∙ fits.enrolled;
  counted = fits.counted ∙ sym (count_is agent r.members);
  room = subst (λ (n : ℕ). n < filings_limit) (sym (count_is agent r.members)) fits.room;
  fresh = ap (filing_keyed key) (filings_of-bare agent r.members) ∙ keyed-bare key (filings_of agent r.members) ∙ ap (option_map without_file) fits.fresh;
  statements_are = subst (λ (live : List Live). AreNew live statements) (sym (live_is agent r.members)) fits.statements_are;
}

agents_token-bare : (token : List ℕ) (ms : List Member) → is_agents_token token (without_files ms) ≡ is_agents_token token ms
agents_token-bare token [] = refl
agents_token-bare token (m ∷ ms) = ap (λ (b : Bool). is_same m.token token || b) (agents_token-bare token ms)

pub may_enrol-bare : (agent token : List ℕ) (r : Register) → MayEnrol agent token r → MayEnrol agent token (bare_register r)
may_enrol-bare agent token r fits = record {
  new_name = enrolled-bare agent r.members ∙ fits.new_name;
  new_token = ap (λ (b : Bool). is_same r.registrar token || b) (agents_token-bare token r.members) ∙ fits.new_token;
}
