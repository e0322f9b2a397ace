-- The text of a day is the spelling of its year, month and day, and names it.
use Rattle.std.proofs.Common.{◌≡◌, ℕ, suc, ◌+◌, ◌-◌, ◌*◌, ◌/◌, ◌%◌, ◌<◌, ◌≤◌, Bool, true, false, Some, length, pos, ◌+ℤ◌, sym, ap, ◌∙◌, arith, inl, inr}
use Rattle.std.specs.Prelude.{nat_le, count_by, unsigned_abs}
use Rattle.std.specs.List.{range_with_len}
use Rattle.std.proofs.lemmas.Int.{ints}
use Rattle.std.proofs.lemmas.Bool.Decides.{nat_tests}
use Rattle.std.proofs.lemmas.Bool.{cases_lt, lt-ltb, le-ltb, le-leb, lt-leb}
use Rattle.std.proofs.lemmas.List.Sums.{length-filter}
use Rattle.std.proofs.lemmas.List.FromFn.{length-range_with_len}
use Rattle.jiff_core.specs.Calendar.{days_from_civil, days_in_month, days_in_year, days_of_months, day_count, IsCivilDate}
use Rattle.jiff_core.proofs.MarchLemmas.{day_count-early}
use Rattle.jiff_core.proofs.CalendarLemmas.{day_count-epoch, day_count-day_of_year, day_count-next_year, day_of_year_before, day_of_year_bound, days_of_months_mono}
use Rattle.bor_terms.proofs.AnyPoint.{below_bound}
use Rattle.bor_terms.specs.Day.{digit, ◌>>=◌, day_of, has_marks, digits_day, pair_at, number_of, civil_text, year_start, year_at, month_at, text_in_month, text_in_year, text_at, day_text}

-- where the first k of n numbers pass and none after them, k pass
count_first : (p : ℕ → Bool) (a n k : ℕ) → k ≤ n → ((j : ℕ) → a ≤ j → j < a + k → p j ≡ true) → ((j : ℕ) → a + k ≤ j → p j ≡ false) → count_by p (range_with_len a n) ≡ k
count_first p a n k le within past =
    sym (length-filter p (range_with_len a n))
    ∙ ap length (below_bound p a n (a + k) (omega arith)
    (λ j from. elim (cases_lt j (a + k)) [ inl below ↦ within j from below ∙ sym (lt-ltb j (a + k) below) | inr over ↦ past j over ∙ sym (le-ltb j (a + k) over) ]))
    ∙ length-range_with_len a (a + k - a) ∙ omega arith

-- ---- years

-- the day count of 1 January, in closed form
start_count : (y : ℕ) → day_count (pos y) 1 1 ≡ year_start y + 3_652_425
start_count y =
    let e : pos y +ℤ pos 10000 ≡ pos (suc (y + 9999)) = omega (arith, ints) in
    omega (arith, day_count-early (pos y) (y + 9999) 1 1 e (omega arith) (omega arith) (omega arith))

year_start-next : (y : ℕ) → year_start (y + 1) ≡ year_start y + days_in_year (pos y)
year_start-next y =
    let next = day_count-next_year (pos y) (pos (y + 1)) (omega (arith, ints)) (omega (arith, ints)) in
    omega (arith, next, start_count y, start_count (y + 1))

year_start-mono : (a b : ℕ) → a ≤ b → year_start a ≤ year_start b
year_start-mono a b h = omega arith

-- a day of a year is in that year
year_at-is : (y days : ℕ) → y ≤ 9999 → days < days_in_year (pos y) → days_in_year (pos y) ≤ 366 → year_at (year_start y + days) ≡ y
unfolding year_at
year_at-is y days le lt most =
    let all = year_start y + days in
    let low : all / 366 ≤ y = omega arith in
    let high : y ≤ all / 366 + 28 = omega arith in
    let k = y - all / 366 in
    let counted = count_first (λ j. nat_le (year_start (all / 366 + j)) all) 1 28 k (omega arith)
    (λ j from to. le-leb _ _ (let m = year_start-mono (all / 366 + j) y (omega arith) in omega arith))
    (λ j from. lt-leb _ _ (let m = year_start-mono (y + 1) (all / 366 + j) (omega arith) in omega (arith, year_start-next y))) in
    rw counted (omega arith)

-- ---- months

month_at-is : (y m d : ℕ) → 1 ≤ m → m ≤ 12 → 1 ≤ d → d ≤ days_in_month (pos y) m → month_at y (days_of_months (pos y) (m - 1) + (d - 1)) ≡ m
unfolding month_at
month_at-is y m d first last low high =
    let all = days_of_months (pos y) (m - 1) + (d - 1) in
    let counted = count_first (λ j. nat_le (days_of_months (pos y) j) all) 1 11 (m - 1) (omega arith)
    (λ j from to. le-leb _ _ (let at = days_of_months_mono (pos y) j (m - 1) (omega arith) in omega arith))
    (λ j from. lt-leb _ _ (let at = day_of_year_before (pos y) m d j first high (omega arith) in omega arith)) in
    rw counted (omega arith)

-- ---- days

days_since : (y m d : ℕ) → 1 ≤ d → unsigned_abs (days_from_civil (pos y) m d +ℤ pos 719_528) ≡ year_start y + (days_of_months (pos y) (m - 1) + (d - 1))
unfolding days_from_civil
days_since y m d low =
    let count : day_count (pos y) m d ≡ year_start y + 3_652_424 + days_of_months (pos y) (m - 1) + d = omega (arith, start_count y, day_count-day_of_year (pos y) m d low) in
    let epoch = day_count-epoch in
    omega (arith, ints)

text_in_year-is : (y m d : ℕ) → 1 ≤ m → m ≤ 12 → 1 ≤ d → d ≤ days_in_month (pos y) m → text_in_year y (days_of_months (pos y) (m - 1) + (d - 1)) ≡ civil_text y m d
text_in_year-is y m d first last low high =
    let before = days_of_months (pos y) (m - 1) in
    let back : before + (d - 1) - before + 1 ≡ d = omega arith in
    ap (λ k. text_in_month y k (before + (d - 1) - days_of_months (pos y) (k - 1))) (month_at-is y m d first last low high)
    ∙ ap (λ n. civil_text y m n) back

pub day_text-civil : (y m d : ℕ) → y ≤ 9999 → IsCivilDate (pos y) m d → day_text (days_from_civil (pos y) m d) ≡ civil_text y m d
unfolding day_text
day_text-civil y m d le civil =
    let rest = days_of_months (pos y) (m - 1) + (d - 1) in
    let lt : rest < days_in_year (pos y) = omega (arith, day_of_year_bound (pos y) m d civil, civil.2.0) in
    let most : days_in_year (pos y) ≤ 366 = grind arith in
    let back : year_start y + rest - year_start y ≡ rest = omega arith in
    ap text_at (days_since y m d civil.2.0)
    ∙ ap (λ k. text_in_year k (year_start y + rest - year_start k)) (year_at-is y rest le lt most)
    ∙ ap (λ n. text_in_year y n) back
    ∙ text_in_year-is y m d civil.1.0 civil.1.1 civil.2.0 civil.2.1

-- ---- the text of a day is read again

digit_back : (n : ℕ) → n < 10 → digit (48 + n) ≡ Some n
digit_back n lt = grind (arith, nat_tests)

pub pair_back : (n : ℕ) → n < 100 → (digit (48 + n / 10) >>= λ t. digit (48 + n % 10) >>= λ o. Some (10 * t + o)) ≡ Some n
pair_back n lt = grind (arith, digit_back (n / 10), digit_back (n % 10))

-- the text of a date names its day
pub civil_text-named : (y m d : ℕ) → y < 10000 → m < 100 → d < 100 → day_of (civil_text y m d) ≡ number_of y m d
unfolding day_of has_marks digits_day pair_at
civil_text-named y m d ly lm ld =
    let century : y / 100 < 100 = omega arith in
    let rest : y % 100 < 100 = omega arith in
    let e : 100 * (y / 100) + y % 100 ≡ y = omega arith in
    rw (pair_back (y / 100) century, pair_back (y % 100) rest, pair_back m lm, pair_back d ld) (ap (λ n. number_of n m d) e)
