use Rattle.std.proofs.Common.{◌≡◌, ◌∙◌, Some, Ok, Err, ap, inl, inr, refl, sym, subst, false, true}
use Rattle.std.specs.Fn.{FnOnceReturnsAtMut}
use Rattle.bor_desk.specs.Mirror.Reading.{HasAnswered, IsReadOfEither, of_mirror, of_store}
use Rattle.bor_desk.proofs.OnMirror.Mirroring.{answer_of, register_in}
use Rattle.bor_desk.proofs.mirror.mirrored_keep.MirroredKeep.read.Given.{Over}
use Rattle.bor_desk.proofs.mirror.mirrored_keep.MirroredKeep.read.Goals as goal
use Rattle.bor_desk.proofs.mirror.mirrored_keep.MirroredKeep.read.Goals.{in-Some+in_default-by_mirror, in_default, then-self, else-self}

module _ (g : Over) (c : goal.Joined-drop g) where
  -- the mirror leaves the store and its being up alone
  store : c.match-self.self-inside.store ≡ c.self.inside.store
  store = elim c.match-self.branch [
    | in-Some+in_default-by_mirror w ↦ (λ i. (w.self-inside-is i).store)
    | in_default w ↦ (λ i. (w.self-inside-is i).store)
  ]

  up : c.match-self.self-inside.is_up ≡ c.self.inside.is_up
  up = elim c.match-self.branch [
    | in-Some+in_default-by_mirror w ↦ (λ i. (w.self-inside-is i).is_up)
    | in_default w ↦ (λ i. (w.self-inside-is i).is_up)
  ]

  asked : FnOnceReturnsAtMut g.S.FnOnce c.args.by_store c.self.inside.store c.by_store-told.result c.by_store-told.new.arg2
  asked = record { shown = _; shows = store; left = _; met = c.by_store-told.ensures; leaves = refl }

pub invariant_of-self-2 : goal.invariant_of-self-2
invariant_of-self-2 g c = λ is_up. (elim c.if-self.branch [
  | then-self w ↦
      (let told = answer_of c.by_store-told.result (sym w.is_ok-self-inside.ensures.value ∙ sym w.self-is ∙ is_up) in
      let lasts = c.requires.lasts _ _ told.0 (subst (λ r. FnOnceReturnsAtMut g.S.FnOnce c.args.by_store c.self.inside.store r c.by_store-told.new.arg2) told.1 (asked g c)) in
      let law = g.met.K.MirrorStore.open_is_clean in
      (law c.by_store-told.new.arg2).1 (λ sound. lasts.clean sound ((law c.self.inside.store).0 (c.self.invariant (sym (up g c) ∙ w.if-self.true)) (lasts.sound sound))))
  | else-self w ↦ (let wrong : true ≡ false = sym is_up ∙ w.self-is ∙ w.if-self.false in absurd cc)
])

pub returns : goal.returns
returns g c =
    subst (λ k. IsReadOfEither (λ old x new. FnOnceReturnsAtMut g.M.FnOnce c.args.by_mirror old x new) (λ old x new. FnOnceReturnsAtMut g.S.FnOnce c.args.by_store old x new) k (c.by_store-told.new.arg2, register_in c.match-self.self-inside.mirror, c.match-self.self-inside.notice) c.by_store-told.result) c.self.view_is
    (elim c.match-self.branch [
      | in-Some+in_default-by_mirror w ↦
          (let said : FnOnceReturnsAtMut g.M.FnOnce c.args.by_mirror w.in-Some.mirror (Err w.in_default-by_mirror.field-0) w.by_mirror.new.arg2 = record { shown = _; shows = refl; left = _; met = w.in_default-by_mirror.ensures; leaves = refl } in
          let held : HasAnswered (λ old x new. FnOnceReturnsAtMut g.M.FnOnce c.args.by_mirror old x new) (register_in c.self.inside.mirror) (register_in c.match-self.self-inside.mirror) (Err w.in_default-by_mirror.field-0) =
          record { was = _; is = _; asked = said; held = ap register_in w.in-Some.is; holds = ap register_in (λ i. (w.self-inside-is i).mirror) } in
          of_store (asked g c) (inr (w.in_default-by_mirror.field-0, held)))
      | in_default w ↦ of_store (asked g c) (inl (ap register_in (λ i. (w.self-inside-is i).mirror)))
    ])

pub returns-in-Ok : goal.returns-in-Ok
returns-in-Ok g c =
    let said : FnOnceReturnsAtMut g.M.FnOnce c.args.by_mirror c.in-Some.mirror (Ok c.in-Ok.answer) c.by_mirror.new.arg2 = record { shown = _; shows = refl; left = _; met = c.in-Ok.ensures; leaves = refl } in
    subst (λ k. IsReadOfEither (λ old x new. FnOnceReturnsAtMut g.M.FnOnce c.args.by_mirror old x new) (λ old x new. FnOnceReturnsAtMut g.S.FnOnce c.args.by_store old x new) k (c.self.inside.store, Some c.by_mirror.new.arg2.register, c.self.inside.notice) (Ok c.in-Ok.answer)) c.self.view_is
    (of_mirror c.in-Ok.answer refl refl (record { was = _; is = _; asked = said; held = ap register_in c.in-Some.is; holds = refl }))
