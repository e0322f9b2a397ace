-- The nodes and links of a register that a viewer sees, on a day.
use Rattle.std.specs.Prelude.{◌≡◌, ℕ, ℤ, List}
use Rattle.bor_records.specs.declared.links.node.Node.{Node}
use Rattle.bor_records.specs.Links.Series.{series}
use Rattle.bor_records.specs.Links.Shown.{Shown}
use Rattle.bor_records.specs.Links.Rows.{shown_of}
use Rattle.bor_register.specs.declared.member.Member.{Member}
use Rattle.bor_register.specs.Register.{Register, IsOrdered, filings_of}
use Rattle.bor_register.specs.Rows.{visible_in, visible}

-- The nodes and links, on a day, of the rows that the viewer sees on the register's day.
abbrev pub seen_at : List ℕ → ℤ → Register → Shown
seen_at viewer day r = shown_of day (visible viewer r.day r.members)

-- The rows of a series that a viewer sees are those of its agent's filings.
abbrev pub SeriesIsOfOneAgent : Type 0
SeriesIsOfOneAgent =
    (viewer : List ℕ) (day : ℤ) (n : Node) (ms : List Member) → IsOrdered ms
    → series n (visible viewer day ms)
    ≡ series n (visible_in viewer day n.agent (filings_of n.agent ms))
