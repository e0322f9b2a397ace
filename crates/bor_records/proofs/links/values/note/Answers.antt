use Rattle.std.proofs.Common.{◌≡◌, ◌∙◌, ◌∷◌, [], List, Contains, inl, inr, length, arith, subst, sym}
use Rattle.std.proofs.lemmas.List.Elements.{Contains-append_left, Contains-push}
use Rattle.bor_records.specs.Links.Values.{under}
use Rattle.bor_records.proofs.OnLinks.Values.{only_put, put_there, stays_put}
use Rattle.bor_records.proofs.links.values.note.Goals as goal

pub loop-key-init : goal.loop-key-init
loop-key-init g c = record {
  left = λ k h. h;
  stays = λ exact k m h. h;
  there = λ exact k h. inl h;
  only = λ exact k m h. inl h;
}

pub loop-key-preserved : goal.loop-key-preserved
loop-key-preserved g c =
    let all = λ (k : g.row.K.Denot) (h : Contains c.loop-key.keys.items k). c.loop-key.invariant.left k h in
    record {
      left = λ k h. all k (subst (λ (ks : List g.row.K.Denot). Contains ks k) (sym {A = List g.row.K.Denot} c.in-Some.ensures.items) (Contains-append_left c.pop.new.self.items (c.in-Some.key ∷ []) k h));
      stays = λ exact k m h.
          stays_put g.K.Ord.cmp exact c.in-Some.key c.in_ok-copy.field-0 (under g.K.Ord.cmp c.loop-key.map) (under g.K.Ord.cmp c.put.new.map) c.in_ok-put.ensures.each k m (c.loop-key.invariant.stays exact k m h);
      there = λ exact k h.
          put_there g.K.Ord.cmp exact c.pop.new.self.items c.loop-key.keys.items c.in-Some.key c.in_ok-copy.field-0 c.args.node.now (under g.K.Ord.cmp c.loop-key.map) (under g.K.Ord.cmp c.put.new.map) c.in-Some.ensures.items c.in_ok-copy.ensures
          c.in_ok-put.ensures.at c.in_ok-put.ensures.each k (c.loop-key.invariant.there exact k h);
      only = λ exact k m h. elim (only_put g.K.Ord.cmp exact c.in-Some.key c.in_ok-copy.field-0 (under g.K.Ord.cmp c.loop-key.map) (under g.K.Ord.cmp c.put.new.map) c.in_ok-put.ensures.each k m h) [
        | inl was ↦ c.loop-key.invariant.only exact k m was
        | inr new ↦ inr (
          all k (subst (λ (q : g.row.K.Denot). Contains c.loop-key.keys.items q) new.0 (subst (λ (ks : List g.row.K.Denot). Contains ks c.in-Some.key) (sym {A = List g.row.K.Denot} c.in-Some.ensures.items) (Contains-push c.pop.new.self.items c.in-Some.key))),
          new.1 ∙ c.in_ok-copy.ensures,
        )
      ];
    }

pub returns : goal.returns
returns g c exact =
    let empty : length c.loop-key.keys.items ≡ 0 = omega (arith, c.in_default.ensures.cases.0) in
    record {
      stays = c.loop-key.invariant.stays exact;
      there = λ k h. elim (c.loop-key.invariant.there exact k h) [
        | inl left ↦ absurd (omega (arith, left.1, empty))
        | inr is ↦ is
      ];
      only = c.loop-key.invariant.only exact;
    }
