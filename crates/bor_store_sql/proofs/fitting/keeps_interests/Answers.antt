use Rattle.std.proofs.Common.{◌≡◌, ℕ, List, map, refl}
use Rattle.bods_read.specs.declared.interest.Interest.{Interest}
use Rattle.bor_store_sql.specs.Rows.Encoding.{interest_columns}
use Rattle.bor_store_sql.specs.Rows.Placed.{interests_from}
use Rattle.bor_store_sql.specs.declared.rows.places.At.{At}
use Rattle.bor_store_sql.specs.Fitting.{Pairwise}
use Rattle.bor_store_sql.specs.Selected.{interests_at}
use Rattle.bor_store_sql.proofs.Fits.{all_made, made_from, told_of_rows}
use Rattle.bor_store_sql.proofs.fitting.keeps_interests.Goals as goal

pub returns : goal.returns
returns g c =
    let at : At = c.args.at.now in
    let made = λ (n : ℕ) (x : Interest). interest_columns (record { at = at; item = n; interest = x }) in
    let from = λ (n : ℕ) (xs : List Interest). map interest_columns (interests_from at n xs) in
    told_of_rows (Pairwise (λ n x row. row ≡ made n x) 1 c.args.interests.now) _ _ c.in_ok-rows.rows _ c.as_slice.result.now c.are_items.result c.in_ok-rows.ensures c.as_slice.ensures.value c.are_items.ensures
    (λ r. (λ h. made_from made from (λ n. refl) (λ n x xs. refl) 1 c.args.interests.now (map interest_columns (interests_at at r.members)) h, λ e. all_made made from (λ n. refl) (λ n x xs. refl) 1 c.args.interests.now (map interest_columns (interests_at at r.members)) e))
