use Rattle.serde_json.specs.View.{view}
use Rattle.serde_json.specs.Errors.{IsMemory}
use Rattle.bods_read.specs.File.{reading}
use Rattle.bods_read.proofs.Bytes.{value_of-read, value_of-unread, unread-no_value}
use Rattle.bods_read.proofs.file.read_file.Goals as goal

pub returns-in-Ok-clause-read : goal.returns-in-Ok-clause-read
unfolding reading
returns-in-Ok-clause-read c = rw (value_of-read c.args.bytes.now (view c.in-Ok.value) c.in-Ok.ensures.ok) c.of_value.ensures.read

pub returns-in-Err-clause-read : goal.returns-in-Err-clause-read
returns-in-Err-clause-read c =
    unread-no_value c.args.bytes.now (IsMemory c.in-Err.error) c.fault_of.result c.fault_of.ensures
    (λ no. value_of-unread c.args.bytes.now (c.in-Err.ensures.err no))
