-- One read after another.
use Rattle.bor_records.specs.Promises.{Kept, Meaning, StaysClean}

pub kept_then : {S V W F : Type 0} (meaning : Meaning S V W F) (a b c : S) →
    Kept meaning a b → Kept meaning b c → Kept meaning a c
kept_then meaning a b c p q = record {
  began = λ clean. p.began (q.began clean);
  same = λ clean v. (λ is. (q.same clean v).0 ((p.same (q.began clean) v).0 is), λ is. (p.same (q.began clean) v).1 ((q.same clean v).1 is));
  sound = λ sound. p.sound (q.sound sound);
  stops = λ sound left may. p.stops (q.sound sound) left (q.stops sound left may);
}

-- what is asked of no call
pub same_lasts : {S V W F : Type 0} (meaning : Meaning S V W F) (a : S) → StaysClean meaning a a
same_lasts meaning a = record { sound = λ sound. sound; clean = λ sound clean. clean }

-- one answer after the other
pub lasts_then : {S V W F : Type 0} (meaning : Meaning S V W F) (a b c : S) → StaysClean meaning a b → StaysClean meaning b c → StaysClean meaning a c
lasts_then meaning a b c first second = record {
  sound = λ sound. first.sound (second.sound sound);
  clean = λ sound clean. second.clean sound (first.clean (second.sound sound) clean);
}
