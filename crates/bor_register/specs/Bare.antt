-- A register without the files of its filings: all but the bytes that were lodged.
use Rattle.std.specs.Prelude.{List, [], map}
use Rattle.bor_register.specs.Register.{Register}
use Rattle.bor_register.specs.declared.filing.AcceptedFiling.{AcceptedFiling}
use Rattle.bor_register.specs.declared.member.Member.{Member}

-- a filing without its file
abbrev pub without_file : AcceptedFiling → AcceptedFiling
without_file f = record f { bytes = [] }

-- an agent, each of its filings without its file
abbrev pub member_without_files : Member → Member
member_without_files m = record m { filings = map without_file m.filings }

abbrev pub without_files : List Member → List Member
without_files ms = map member_without_files ms

abbrev pub bare_register : Register → Register
bare_register r = record r { members = without_files r.members }
