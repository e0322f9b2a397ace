use Rattle.std.proofs.Common.{◌≡◌, ◌+◌, map, drop, Some, false, sym, ap, ◌∙◌, arith}
use Rattle.std.specs.Option.{is_some, option_map}
use Rattle.httparse.specs.Spans.{header_bytes}
use Rattle.bor_http.proofs.OnIncoming.OnePass.{len_after, is_some-mapped, taken_at, passed_at}
use Rattle.bor_http.proofs.incoming.head.body_length.Goals as goal
use Rattle.bor_http.proofs.incoming.head.body_length.Goals.{then-has_name-2+else-is_some, else-has_name-2}

pub loop-field-preserved : goal.loop-field-preserved
loop-field-preserved c =
    elim c.if-has_name-2.branch [
      | then-has_name-2+else-is_some w ↦
          let none : is_some (option_map (λ value. value.now) c.loop-field.found) ≡ false = is_some-mapped _ c.loop-field.found ∙ sym w.is_some.ensures ∙ w.if-is_some.false in
          ap (λ found. len_after (option_map (λ value. value.now) found) (map (header_bytes c.args.head.now) (drop (c.loop-field.field-index + 1) c.args.fields.now))) w.found-is
          ∙ ap (λ value. len_after (Some value) (map (header_bytes c.args.head.now) (drop (c.loop-field.field-index + 1) c.args.fields.now))) w.of.ensures
          ∙ taken_at (header_bytes c.args.head.now) c.args.fields.now c.loop-field.field-index _ _ (omega arith) none
          (sym c.has_name.ensures ∙ c.if-has_name.false) (sym c.has_name-in-loop-field.ensures ∙ w.if-has_name-2.true)
          ∙ c.loop-field.invariant
      | else-has_name-2 w ↦
          ap (λ found. len_after (option_map (λ value. value.now) found) (map (header_bytes c.args.head.now) (drop (c.loop-field.field-index + 1) c.args.fields.now))) w.found-is
          ∙ passed_at (header_bytes c.args.head.now) c.args.fields.now c.loop-field.field-index _ _ (omega arith)
          (sym c.has_name.ensures ∙ c.if-has_name.false) (sym c.has_name-in-loop-field.ensures ∙ w.if-has_name-2.false)
          ∙ c.loop-field.invariant
    ]
