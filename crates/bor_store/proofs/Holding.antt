-- The registers that a connection shows of the files that it was opened on, and that closing it leaves in them.
use Rattle.std.proofs.Common.{◌≡◌, refl, subst, sym, ap, ◌∙◌}
use Rattle.std.proofs.Math.Logic.{∥∥₁_elim}
use Rattle.sqlite.specs.State.{IsLive, Opens, State}
use Rattle.sqlite.specs.Files.{AreFoundIn}
use Rattle.sqlite.specs.Start.{FindsIn}
use Rattle.sqlite.specs.Closing.{HoldsAlone}
use Rattle.sqlite_catalog.specs.Listing.{Lists}
use Rattle.sqlite_catalog.proofs.ReadLemmas.{lists_once}
use Rattle.sqlite_trees.specs.Props.{Trees-set}
use Rattle.sqlite_wal.specs.Recovery.{Image}
use Rattle.bor_register.specs.Register.{Register}
use Rattle.bor_store_sql.specs.Rows.Encoding.{contents}
use Rattle.bor_store_sql.specs.Shown.{Has, ShowsIn}
use Rattle.bor_store_sql.specs.Texts.Tables.{keep_schema}
use Rattle.bor_store_sql.proofs.Ending.{stands_in}
use Rattle.bor_store.specs.Opening.{HoldsRegister, IsConnected}

-- a connection that found the files shows what they hold: a list of objects tells one schema
pub connected : (image : Image) (s : State) → Opens s → IsLive s → FindsIn image s → IsConnected image s
connected image s opens live found = record {
  opens = opens;
  found = found;
  shows = λ r held.
      let trees : s.committed.trees ≡ held.trees = ∥∥₁_elim held.holds (Trees-set _ _) (found.holds _) in
      let sound = (live opens.is_open).1 in
      let schema : s.committed.schema ≡ keep_schema = lists_once _ _ _ sound.lists (subst (λ t. Lists (t _) keep_schema) (sym trees) held.stands.has.sound.lists) in
      let same : s.committed ≡ record { schema = keep_schema; trees = held.trees } = (λ i. record { schema = schema i; trees = trees i }) in
      record { has = subst (Has (contents r)) (sym same) held.stands.has; stored = held.stands.stored };
}

-- files that hold the last commit hold the register that it shows
pub left_in : (image : Image) (s : State) → HoldsAlone image s.committed.trees → (r : Register) → ShowsIn r s → HoldsRegister image r
left_in image s alone r shows = record {
  trees = s.committed.trees;
  holds = alone.both;
  stands = stands_in r s.committed s.committed.trees refl (shows.has, shows.stored);
}

-- what was found is what the last commit left
pub finds_still : (image : Image) (old new : State) → new.committed ≡ old.committed → FindsIn image old → FindsIn image new
finds_still image old new same found =
    let trees : new.committed.trees ≡ old.committed.trees = ap (λ db. db.trees) same in
    record { holds = λ db held. trees ∙ found.holds db held; reads = subst (AreFoundIn image) (sym trees) found.reads }
