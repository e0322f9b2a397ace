use Rattle.std.proofs.Common.{◌≡◌, ◌≤◌, drop, min}
use Rattle.std.specs.List.{list_all}
use Rattle.std.specs.Char.{is_ascii_digit}
use Rattle.std.specs.Str.Parse.{digits_value_after, digits_value}
use Rattle.bor_http.proofs.incoming.head.decimal.Given as goal

abbrev pub invariant-loop-b : goal.invariant-loop-b
invariant-loop-b l = record {
  digits : list_all is_ascii_digit (drop l.b-index l.bytes) ≡ list_all is_ascii_digit l.bytes;
  value : min (digits_value_after 10 l.value (drop l.b-index l.bytes)) 1048577 ≡ min (digits_value 10 l.bytes) 1048577;
  bound : l.value ≤ 1048577;
}
