-- The parts of a fault that are printed: its name, the place of its statement, and the member that
-- it is about.
use Rattle.std.specs.Prelude.{ℕ, List, Option, Some, None, codes}
use Rattle.bods_read.specs.declared.fault.Field.{Field}
use Rattle.bods_read.specs.declared.fault.Fault.{Fault}
use Rattle.bods_read.specs.declared.fault.Fault.TheVariants.{Missing, Bad, Fraction, ShareRange}
use Rattle.bods_read.specs.declared.fault.Fault.TheVariants.{EmptyShare, TooLong}
use Rattle.bods_read.specs.declared.fault.FileFault.{FileFault}
use Rattle.bods_read.specs.declared.fault.FileFault.TheVariants.{NotJson, NotAList, NoStatements}
use Rattle.bods_read.specs.declared.fault.FileFault.TheVariants.{TooMany, At}

-- the name of what is wrong with a statement
unfoldable pub fault_word : Fault → List ℕ
fault_word (Missing field) = codes "Missing"
fault_word (Bad field) = codes "Bad"
fault_word Fraction = codes "Fraction"
fault_word ShareRange = codes "ShareRange"
fault_word EmptyShare = codes "EmptyShare"
fault_word (TooLong field) = codes "TooLong"

-- the member that it is about
abbrev pub fault_field : Fault → Option Field
fault_field (Missing field) = Some field
fault_field (Bad field) = Some field
fault_field Fraction = None
fault_field ShareRange = None
fault_field EmptyShare = None
fault_field (TooLong field) = Some field

-- the name of what is wrong with a file: of a faulty statement, what is wrong with that
unfoldable pub file_fault_word : FileFault → List ℕ
file_fault_word NotJson = codes "NotJson"
file_fault_word NotAList = codes "NotAList"
file_fault_word NoStatements = codes "NoStatements"
file_fault_word TooMany = codes "TooMany"
file_fault_word (At place fault) = fault_word fault

-- the place of the faulty statement, from 1
abbrev pub file_fault_place : FileFault → Option ℕ
file_fault_place NotJson = None
file_fault_place NotAList = None
file_fault_place NoStatements = None
file_fault_place TooMany = None
file_fault_place (At place fault) = Some place

-- the member that it is about
abbrev pub file_fault_field : FileFault → Option Field
file_fault_field NotJson = None
file_fault_field NotAList = None
file_fault_field NoStatements = None
file_fault_field TooMany = None
file_fault_field (At place fault) = fault_field fault
