use Rattle.std.proofs.Common.{◌≡◌, List, [], take, true}
use Rattle.bor_register.specs.Register.{filings_of, is_enrolled, with_filings}
use Rattle.bor_register.specs.declared.member.Member.{Member}
use Rattle.bor_register.specs.Memory.Indexed.{IsIndex}
use Rattle.bor_register.proofs.memory.list_keep.index_with.Given as goal

-- the maps with the filings so far
abbrev pub invariant-loop-i : goal.invariant-loop-i
invariant-loop-i l = (ms : List Member) → is_enrolled l.agent ms ≡ true → filings_of l.agent ms ≡ [] → IsIndex ms l.fn.old → IsIndex (with_filings l.agent (take l.i l.filings) ms) l.index
