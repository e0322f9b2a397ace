-- A register without the days of its interests, as tables of version 1 tell it.
use Rattle.std.specs.Prelude.{map, None}
use Rattle.bods_read.specs.declared.details.Details.{Details}
use Rattle.bods_read.specs.declared.details.Details.TheVariants as details
use Rattle.bods_read.specs.declared.interest.Interest.{Interest}
use Rattle.bods_read.specs.declared.statement.Statement.{Statement}
use Rattle.bor_register.specs.Register.{Register}
use Rattle.bor_register.specs.declared.filing.AcceptedFiling.{AcceptedFiling}
use Rattle.bor_register.specs.declared.member.Member.{Member}

-- the interest with neither a first nor a last day
abbrev pub undated : Interest → Interest
undated i = record i { starts = None; ends = None }

abbrev pub undated_details : Details → Details
undated_details (details.Entity kind name identifiers) = details.Entity kind name identifiers
undated_details (details.Person kind name) = details.Person kind name
undated_details (details.Relationship subject party interests) =
    details.Relationship subject party (map undated interests)

abbrev pub undated_statement : Statement → Statement
undated_statement s = record s { details = undated_details s.details }

-- the filing keeps its file, byte for byte
abbrev pub undated_filing : AcceptedFiling → AcceptedFiling
undated_filing f = record f { statements = map undated_statement f.statements }

abbrev pub undated_member : Member → Member
undated_member m = record m { filings = map undated_filing m.filings }

-- the register in which no interest has a day, and all else is as it was
abbrev pub without_days : Register → Register
without_days r = record r { members = map undated_member r.members }
