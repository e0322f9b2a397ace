-- The head of a reply (RFC 9112): the status line, the fields, and an empty line.
use Rattle.std.specs.Prelude.{ℕ, List, [], ◌++◌, Option, Some, None, unwrap_or, if◌then◌else◌, ◌==◌}
use Rattle.std.specs.Prelude.{codes, decimal}
use Rattle.http.specs.StatusCode.{code_digits, reason_phrase}
use Rattle.bor_http.specs.declared.incoming.fault.Path.{Path}
use Rattle.bor_http.specs.Routes.Routes.{allow}

-- the phrase of a status
unfoldable pub phrase : ℕ → List ℕ
phrase status = unwrap_or (reason_phrase status) []

abbrev pub line_end : List ℕ
line_end = codes "\r\n"

unfoldable pub status_line : ℕ → List ℕ
status_line status =
    codes "HTTP/1.1 " ++ code_digits status ++ codes " " ++ phrase status ++ line_end

-- the line of a field
unfoldable pub field_line : List ℕ → List ℕ → List ℕ
field_line name value = name ++ codes ": " ++ value ++ line_end

-- the line that some replies have: the methods of a path where the method was wrong, and of the
-- others those of status 401 how to authenticate
unfoldable pub own_line : ℕ → Option Path → List ℕ
own_line status (Some path) = field_line (codes "Allow") (allow path)
own_line status None =
    if status == 401 then field_line (codes "WWW-Authenticate") (codes "Bearer") else []

-- all that stands before a body of so many bytes
unfoldable pub head_bytes : ℕ → Option Path → ℕ → List ℕ
head_bytes status wrong_method len =
    status_line status
    ++ field_line (codes "Content-Type") (codes "application/json")
    ++ field_line (codes "Content-Length") (decimal len)
    ++ own_line status wrong_method
    ++ field_line (codes "Connection") (codes "close")
    ++ line_end
