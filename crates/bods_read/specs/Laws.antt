-- What is read of any bytes.
use Rattle.std.specs.Prelude.{ℕ, List, All, IfOk}
use Rattle.bods_read.specs.File.{reading}
use Rattle.bods_read.specs.Forms.{IsFormedStatement}

-- Each statement that bytes are read to has its form.
abbrev pub ReadingGivesForms : Type 0
ReadingGivesForms = (bytes : List ℕ) → IfOk (reading bytes) (All IsFormedStatement)
