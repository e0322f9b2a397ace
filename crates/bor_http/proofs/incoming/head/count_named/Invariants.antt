use Rattle.std.proofs.Common.{◌≡◌, ◌≤◌, ◌+◌, map, drop}
use Rattle.httparse.specs.Spans.{header_bytes}
use Rattle.bor_http.specs.Incoming.Message.{how_many}
use Rattle.bor_http.proofs.incoming.head.count_named.Given as goal

abbrev pub invariant-loop-field : goal.invariant-loop-field
invariant-loop-field l = record {
  counted : l.count + how_many l.name (map (header_bytes l.head) (drop l.field-index l.fields)) ≡ how_many l.name (map (header_bytes l.head) l.fields);
  bound : l.count ≤ l.field-index;
}
