-- Laws of replies.
use Rattle.std.specs.Prelude.{◌≡◌, ℕ, nat_eq, List, [], ◌∷◌, length, drop, if◌then◌else◌, codes}
use Rattle.std.specs.Prelude.{decimal}
use Rattle.std.specs.List.{starts_with}
use Rattle.bor_register.specs.declared.fault.StoreFault.{StoreFault}
use Rattle.bor_desk.specs.declared.reply.DeskReply.TheVariants as tell
use Rattle.bor_wire.specs.Rendering.Replies.{Said, answered, status_of, reply_body, bytes_of}

-- These bytes are the reply to each fault of a store, which has status 503.
pub record IsUnavailable (bytes : List ℕ) : Type 0 where
  pub reply : (fault : StoreFault) → bytes ≡ bytes_of (answered (tell.Failed fault))
  pub status : (fault : StoreFault) → status_of (answered (tell.Failed fault)) ≡ 503

-- ---- how a reply is read

-- of some bytes, what stands behind the first place where a mark stands
unfoldable pub behind : List ℕ → List ℕ → List ℕ
behind mark [] = []
behind mark (b ∷ bytes) =
    if starts_with nat_eq (b ∷ bytes) mark then drop (length mark) (b ∷ bytes)
    else behind mark bytes

-- of some bytes, what stands before it
unfoldable pub before : List ℕ → List ℕ → List ℕ
before mark [] = []
before mark (b ∷ bytes) = if starts_with nat_eq (b ∷ bytes) mark then [] else b ∷ before mark bytes

-- the bytes behind the first empty line
abbrev pub behind_head : List ℕ → List ℕ
behind_head bytes = behind (codes "\r\n\r\n") bytes

-- the text in the line of the length
abbrev pub told_length : List ℕ → List ℕ
told_length bytes = before (codes "\r\n") (behind (codes "\r\nContent-Length: ") bytes)

-- Of each reply the body stands behind the first empty line, and the line of the length has their
-- number in decimal.
pub record LengthIsTold : Type 0 where
  pub body : (said : Said) → behind_head (bytes_of said) ≡ reply_body said
  pub told : (said : Said)
      → told_length (bytes_of said) ≡ decimal (length (behind_head (bytes_of said)))
