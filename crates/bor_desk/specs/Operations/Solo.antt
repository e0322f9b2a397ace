-- The register that an agent would have if it were alone with what the others have published.
use Rattle.std.specs.Prelude.{ℕ, ◌+◌, ℤ, List, [], ◌∷◌, ◌++◌, length, filter, not, false}
use Rattle.std.specs.Prelude.{if◌then◌else◌}
use Rattle.std.specs.Fmt.{decimal}
use Rattle.bor_terms.specs.Texts.{is_same}
use Rattle.bor_register.specs.declared.member.Member.{Member}
use Rattle.bor_register.specs.declared.filing.AcceptedFiling.{AcceptedFiling}
use Rattle.bor_register.specs.declared.filing.Outward.{Outward}
use Rattle.bor_register.specs.Register.{Register, is_enrolled, filings_of, with_filings}
use Rattle.bor_register.specs.Register.{with_member}
use Rattle.bor_register.specs.Publication.{published}

-- the outward forms that are published, without the agent's own
abbrev pub published_beside : List ℕ → ℤ → List Member → List Outward
published_beside name day ms =
    filter (λ (o : Outward). not (is_same o.agent name)) (published day ms)

-- a live filing of that outward form, with this number, keyed by it and with no bytes
abbrev pub filing_from : ℕ → Outward → AcceptedFiling
filing_from number o =
    record {
      number = number;
      key = decimal number;
      due = o.due;
      withdrawn = false;
      bytes = [];
      statements = o.statements;
    }

-- an agent with these filings; its token is empty, and no answer to an agent reads one
abbrev pub member_with : List ℕ → List AcceptedFiling → Member
member_with name filings = record { name = name; token = []; filings = filings }

-- one more of its agent's filings, with the next number; an agent's first one brings the agent
abbrev pub with_outward : Outward → List Member → List Member
with_outward o ms =
    if is_enrolled o.agent ms
    then with_filings o.agent
    (filings_of o.agent ms ++ filing_from (length (filings_of o.agent ms) + 1) o ∷ []) ms
    else with_member (member_with o.agent (filing_from 1 o ∷ [])) ms

-- the members once each of these outward forms stands among them, one after the other
abbrev pub with_outwards : List Outward → List Member → List Member
with_outwards [] ms = ms
with_outwards (o ∷ os) ms = with_outwards os (with_outward o ms)

-- The register of this day with the agent, its own filings, and one live filing for each outward
-- form, numbered 1, 2, .. for each agent. It isn't legal: all tokens are empty, and others' filings
-- have no bytes.
abbrev pub solo_register : List ℕ → List AcceptedFiling → ℤ → List Outward → Register
solo_register name own day others =
    record {
      day = day;
      registrar = [];
      members = with_member (member_with name own)
          (with_outwards others []);
    }

-- the solo register of an agent of a register: its own filings, and what the others have published
abbrev pub alone : List ℕ → Register → Register
alone name r =
    solo_register name (filings_of name r.members) r.day (published_beside name r.day r.members)
