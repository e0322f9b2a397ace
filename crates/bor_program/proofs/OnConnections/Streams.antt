-- The facts that are known of a client's stream, read after read and write after write.
use Rattle.std.proofs.Common.{◌≡◌, ◌≤◌, arith, ℕ, List, [], ◌++◌, Option, length, length-append}
use Rattle.std.specs.Io.KnownBytes.{Consumes}
use Rattle.std.proofs.KnownBytes.{Appends-nil, Consumes-nil, Consumes-trans}
use Rattle.bor_http.specs.Incoming.Message.{request_limit}
use Rattle.bor_http.proofs.OnIncoming.ProgressLemmas.{nothing_is_partial}
use Rattle.bor_wire.specs.Sent.{bytes_sent}
use Rattle.bor_program.specs.Connections.Serving.{GivenReply}
use Rattle.bor_program.specs.Connections.Streams.{Came, Drops, IsDraining, IsReady, IsReplySent, IsUnanswered, IsWriting, Wire}

pub came_new : {S : Type 0} (remaining : S → Option (List ℕ)) (stream : S) → Came remaining stream []
came_new remaining stream = (stream, Consumes-nil (remaining stream))

-- of this client nothing was read
pub unanswered_new : {S : Type 0} (remaining : S → Option (List ℕ)) (stream : S) → IsUnanswered remaining []
unanswered_new remaining stream = record { stream = stream; came = came_new remaining stream; partial = nothing_is_partial; fits = omega arith }

pub came_more : {S : Type 0} (remaining : S → Option (List ℕ)) (old new : S) (bytes more : List ℕ) → Came remaining old bytes → Consumes (remaining old) (remaining new) more → Came remaining new (bytes ++ more)
came_more remaining old new bytes more h taken = (h.0, Consumes-trans (remaining h.0) (remaining old) (remaining new) bytes more h.1 taken)

-- ---- a reply

-- nothing of it was written yet
pub begins_writing : {S : Type 0} (wire : Wire S) (stream : S) (answer : GivenReply) → Came wire.remaining stream answer.request → length answer.request ≤ request_limit → IsReady wire.remaining stream answer
    → IsWriting wire stream answer 0
begins_writing wire stream answer came fits ready =
    record { read = stream; came = came; fits = fits; ready = ready; within = omega arith; written = Appends-nil (wire.contents stream) }

-- ---- behind a reply

pub drains_more : {S : Type 0} (wire : Wire S) (old new : S) (answer : GivenReply) (before after : ℕ) → IsDraining wire old answer before
    → Drops (wire.remaining old) (wire.remaining new) before after → IsDraining wire new answer after
drains_more wire old new answer before after h more =
    let first = h.dropped in
    record {
      written = h.written;
      told = h.told;
      dropped = (first.0 ++ more.0, Consumes-trans (wire.remaining h.written) (wire.remaining old) (wire.remaining new) first.0 more.0 first.1 more.1, omega (arith, first.2, more.2, length-append first.0 more.0));
    }

-- the same reply, of a client that is told anew
pub drains_on : {S : Type 0} {wire : Wire S} {old new : S} {answer same : GivenReply} {before after : ℕ} → same ≡ answer → IsDraining wire old answer before
    → Drops (wire.remaining old) (wire.remaining new) before after → IsDraining wire new same after
drains_on {wire = wire} {old} {new} {answer} {before = before} {after} e h more = rw e (drains_more wire old new answer before after h more)

-- ---- as the stream is let go

pub told_writing : {S : Type 0} (wire : Wire S) (stream : S) (answer : GivenReply) (sent : ℕ) → IsWriting wire stream answer sent → IsReplySent wire answer sent
told_writing wire stream answer sent h =
    record { written = stream; told = h; let_go = stream; dropped = []; behind = Consumes-nil (wire.remaining stream); bound = omega arith }

pub told_draining : {S : Type 0} (wire : Wire S) (stream : S) (answer : GivenReply) (left : ℕ) → IsDraining wire stream answer left
    → IsReplySent wire answer (length (bytes_sent answer.reply))
told_draining wire stream answer left h =
    let drops = h.dropped in
    record { written = h.written; told = h.told; let_go = stream; dropped = drops.0; behind = drops.1; bound = omega (arith, drops.2) }
