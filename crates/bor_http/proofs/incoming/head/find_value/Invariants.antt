use Rattle.std.proofs.Common.{◌≡◌, map, drop}
use Rattle.httparse.specs.Spans.{header_bytes}
use Rattle.bor_http.specs.Incoming.Message.{first_value}
use Rattle.bor_http.proofs.incoming.head.find_value.Given as goal

abbrev pub invariant-loop-field : goal.invariant-loop-field
invariant-loop-field l =
    first_value l.name (map (header_bytes l.head) (drop l.field-index l.fields)) ≡ first_value l.name (map (header_bytes l.head) l.fields)
