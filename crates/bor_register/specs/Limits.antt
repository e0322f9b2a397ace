-- How much an agent may lodge (this register's own rule).
use Rattle.std.specs.Prelude.{ℕ}

-- the filings that an agent may have for good, withdrawn ones included
abbrev pub filings_limit : ℕ
filings_limit = 999
