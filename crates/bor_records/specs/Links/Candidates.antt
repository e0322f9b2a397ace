-- What the rows of candidates name and state of links, and which candidates have a sign.
use Rattle.std.specs.Prelude.{◌≡◌, ℕ, ℤ, List, Contains, Bool, false, ◌&&◌, Option, Some}
use Rattle.std.specs.Prelude.{None, option_and_then}
use Rattle.bor_terms.specs.Texts.{is_same}
use Rattle.bods_read.specs.declared.details.Details.{Details}
use Rattle.bods_read.specs.declared.details.Details.TheVariants as details
use Rattle.bods_read.specs.declared.statement.Statement.{Statement}
use Rattle.bor_records.specs.declared.row.Row.{Row}
use Rattle.bor_records.specs.declared.links.node.Node.{Node}
use Rattle.bor_records.specs.declared.links.node.Link.{Link}
use Rattle.bor_records.specs.Links.Series.{open_at, series_of}
use Rattle.bor_records.specs.Links.Shown.{Shown}
use Rattle.bor_records.specs.declared.links.sign.Sign.{Sign}
use Rattle.bor_records.specs.Links.Answers.{only_into}
use Rattle.bor_records.specs.Links.Rows.{link_stated, named_by}
use Rattle.bor_records.specs.Links.Signs.{signs_in}

-- a relationship whose subject has the identifier
abbrev pub names : List ℕ → Details → Bool
names rec (details.Entity kind name identifiers) = false
names rec (details.Person kind name) = false
names rec (details.Relationship None party interests) = false
names rec (details.Relationship (Some subject) party interests) = is_same subject rec

-- such a relationship beside a node: of its agent and declaration
abbrev pub is_into : Node → List ℕ → Statement → Bool
is_into n agent s =
    is_same agent n.agent && (is_same s.declaration n.declaration && names n.rec s.details)

-- a record of the row's own declaration
abbrev pub beside : Row → List ℕ → Node
beside r rec = named_by (series_of r) rec

-- the link into the node that the open statement of a record states, whatever its ends are
abbrev pub stated_at : ℤ → List Row → Node → Node → Option Link
stated_at day rows n k =
    only_into n (option_and_then (λ r. link_stated day k r.statement.details) (open_at day k rows))

-- the candidate, where it is an open entity that has the sign
abbrev pub IsFound : Shown → Sign → Node → Node → Type 0
IsFound s k candidate n = (n ≡ candidate) × Contains (signs_in s n) k

-- one of the candidates that are
abbrev pub IsFoundIn : Shown → Sign → List Node → Node → Type 0
IsFoundIn s k candidates n = Contains candidates n × Contains (signs_in s n) k
