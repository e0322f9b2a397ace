use Rattle.std.proofs.Common.{◌≡◌, map, drop}
use Rattle.std.specs.Option.{option_map}
use Rattle.httparse.specs.Spans.{header_bytes}
use Rattle.bor_http.specs.Incoming.Steps.{body_len}
use Rattle.bor_http.proofs.OnIncoming.OnePass.{len_after}
use Rattle.bor_http.proofs.incoming.head.body_length.Given as goal

abbrev pub invariant-loop-field : goal.invariant-loop-field
invariant-loop-field l =
    len_after (option_map (λ value. value.now) l.found) (map (header_bytes l.head) (drop l.field-index l.fields)) ≡ body_len (map (header_bytes l.head) l.fields)
