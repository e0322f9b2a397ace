-- The items of an array beside the `Vec` that holds them.
use Rattle.std.proofs.Common.{◌≡◌, List, [], ◌∷◌, Option, Some, None, map, option_map, refl, sym, ap, ◌∙◌, Vec, Global, Bor}
use Rattle.serde_json.specs.Data.{Data}
use Rattle.serde_json.specs.Find.{as_array}
use Rattle.serde_json.specs.View.{view, items_view, items_of}
use Rattle.serde_json.specs.declared.value.Value.{Value}
use Rattle.bods_read.specs.Member.{listed, items_in}

listed-items_of : (ds : List Data) → listed (items_of ds) ≡ ds
listed-items_of [] = refl
listed-items_of (d ∷ ds) = ap (λ (r : List Data). d ∷ r) (listed-items_of ds)

pub items_are : (r : Option (Bor (Vec Value Global))) (d : Data) → option_map (λ v. items_view v.now.items) r ≡ as_array d → option_map (λ v. map view v.now.items) r ≡ items_in d
unfolding items_in
items_are None d e = ap (option_map listed) e
items_are (Some v) d e = sym (ap Some (listed-items_of (map view v.now.items))) ∙ ap (option_map listed) e
