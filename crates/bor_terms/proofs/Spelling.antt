-- A day has one spelling of ten bytes.
use Rattle.std.proofs.Common.{◌≡◌, ℕ, ◌+◌, ◌*◌, ◌/◌, ◌%◌, ◌<◌, ◌≤◌, true, ◌&&◌, List, [], ◌∷◌, length, Some, None, ℤ, pos, refl, sym, ◌∙◌, subst, arith}
use Rattle.std.specs.Prelude.{IfSome, unwrap_or, nat_le, slice_index, IsAscii}
use Rattle.std.proofs.lemmas.Int.{ints}
use Rattle.std.proofs.lemmas.List.Elements.{All-from_recursion}
use Rattle.std.proofs.lemmas.List.FromFn.{fill_by_all}
use Rattle.std.proofs.lemmas.Option.{none-some}
use Rattle.std.proofs.lemmas.Str.Ascii.{IsAscii-from_all}
use Rattle.std.proofs.lemmas.Bool.{cond_both}
use Rattle.std.proofs.lemmas.Bool.Decides.{nat_tests}
use Rattle.jiff_core.specs.declared.civil.date.Date.{Date}
use Rattle.jiff_core.specs.Calendar.{days_in_month, days_from_civil}
use Rattle.jiff_core.proofs.DateLemmas.{epoch_day_injective}
use Rattle.bor_terms.specs.Day.{digit, pair_at, is_civil, number_of, has_marks, digits_day, day_of, civil_text, IsDay, IsSpelling}
use Rattle.bor_terms.proofs.Years.{IsDay-from_year}

-- ---- digits

digit_from : (b n : ℕ) → digit b ≡ Some n → (b ≡ 48 + n) × (n < 10)
digit_from b n e = grind (arith, nat_tests)

-- the two digits at a place spell a number
record IsPair (bytes : List ℕ) (i n : ℕ) : Type 0 where
  tens : slice_index bytes i ≡ 48 + n / 10
  ones : slice_index bytes (i + 1) ≡ 48 + n % 10
  small : n < 100

pair_from : (bytes : List ℕ) (i n : ℕ) → pair_at bytes i ≡ Some n → IsPair bytes i n
unfolding pair_at
pair_from bytes i n e = grind (arith, digit_from (slice_index bytes i), digit_from (slice_index bytes (i + 1)))

-- ---- one day number, one date

record IsWithinMonth (y m d last : ℕ) : Type 0 where
  year : y ≤ 9999
  month_from : 1 ≤ m
  month_to : m ≤ 12
  day_from : 1 ≤ d
  day_to : d ≤ last

within : (y m d last : ℕ) → (nat_le y 9999 && (nat_le 1 m && nat_le m 12) && (nat_le 1 d && nat_le d last)) ≡ true → IsWithinMonth y m d last
within y m d last h = grind (arith, nat_tests)

date_of : (y m d : ℕ) → IsWithinMonth y m d (days_in_month (pos y) m) → Date
date_of y m d h = record {
  year = pos y;
  month = m;
  day = d;
  year_in = (omega (arith, ints, h.year), omega (arith, ints, h.year));
  month_in = (h.month_from, h.month_to);
  day_in = (h.day_from, h.day_to);
}

one_date : (y m d y₂ m₂ d₂ : ℕ) → IsWithinMonth y m d (days_in_month (pos y) m) → IsWithinMonth y₂ m₂ d₂ (days_in_month (pos y₂) m₂) → days_from_civil (pos y) m d ≡ days_from_civil (pos y₂) m₂ d₂ → (y ≡ y₂) × (m ≡ m₂) × (d ≡ d₂)
unfolding date_of
one_date y m d y₂ m₂ d₂ h h₂ e =
    let same = epoch_day_injective (date_of y m d h) (date_of y₂ m₂ d₂ h₂) e in
    let year : y ≡ y₂ = omega (arith, ints, same.0) in
    (year, same.1, same.2)

number_of_injective : (y m d y₂ m₂ d₂ : ℕ) (z : ℤ) → number_of y m d ≡ Some z → number_of y₂ m₂ d₂ ≡ Some z → (y ≡ y₂) × (m ≡ m₂) × (d ≡ d₂)
unfolding number_of
number_of_injective y m d y₂ m₂ d₂ z e e₂ =
    one_date y m d y₂ m₂ d₂ (within y m d (days_in_month (pos y) m) (grind (arith, e))) (within y₂ m₂ d₂ (days_in_month (pos y₂) m₂) (grind (arith, e₂))) (grind (arith, e, e₂))

-- a day that the calendar has is one of the years from 0 to 9999
pub number_of-IsDay : (y m d : ℕ) → IfSome (number_of y m d) IsDay
unfolding number_of date_of
number_of-IsDay y m d =
    cond_both (is_civil y m d) (Some (days_from_civil (pos y) m d)) None (λ o. IfSome o IsDay)
    (λ e. IsDay-from_year (date_of y m d (within y m d (days_in_month (pos y) m) e)) (omega (arith, ints))) (λ e. tt)

-- ---- the bytes of a spelling

-- they are the text of a date whose number is the day's
record IsSpelled (bytes : List ℕ) (z : ℤ) : Type 0 where
  year : ℕ
  month : ℕ
  day : ℕ
  small : (year < 10000) × (month < 100) × (day < 100)
  text : bytes ≡ civil_text year month day
  number : number_of year month day ≡ Some z

text_of : (bytes : List ℕ) (c y m d : ℕ) → length bytes ≡ 10 → (slice_index bytes 4 ≡ 45) × (slice_index bytes 7 ≡ 45) → IsPair bytes 0 c → IsPair bytes 2 y → IsPair bytes 5 m → IsPair bytes 8 d → bytes ≡ civil_text (100 * c + y) m d
text_of bytes c y m d long hyphens first second month day =
    let century : (100 * c + y) / 100 ≡ c = omega (arith, second.small) in
    let year : (100 * c + y) % 100 ≡ y = omega (arith, second.small) in
    fill_by_all (slice_index bytes) bytes 10 0 long (λ k lt. refl)
    ∙ (λ i. first.tens i ∷ first.ones i ∷ second.tens i ∷ second.ones i ∷ hyphens.0 i ∷ month.tens i ∷ month.ones i ∷ hyphens.1 i ∷ day.tens i ∷ day.ones i ∷ [])
    ∙ rw (century, year) refl

spelled_digits : (bytes : List ℕ) (z : ℤ) → length bytes ≡ 10 → (slice_index bytes 4 ≡ 45) × (slice_index bytes 7 ≡ 45) → digits_day bytes ≡ Some z → IsSpelled bytes z
unfolding digits_day
spelled_digits bytes z long hyphens e =
    let c = unwrap_or (pair_at bytes 0) 0 in
    let y = unwrap_or (pair_at bytes 2) 0 in
    let m = unwrap_or (pair_at bytes 5) 0 in
    let d = unwrap_or (pair_at bytes 8) 0 in
    let read : (pair_at bytes 0 ≡ Some c) × (pair_at bytes 2 ≡ Some y) × (pair_at bytes 5 ≡ Some m) × (pair_at bytes 8 ≡ Some d) × (number_of (100 * c + y) m d ≡ Some z) = grind arith in
    let first = pair_from bytes 0 c read.0 in
    let second = pair_from bytes 2 y read.1 in
    let month = pair_from bytes 5 m read.2 in
    let day = pair_from bytes 8 d read.3 in
    record {
      year = 100 * c + y;
      month = m;
      day = d;
      small = (omega (arith, first.small, second.small), month.small, day.small);
      text = text_of bytes c y m d long hyphens first second month day;
      number = read.4;
    }

hyphens : (bytes : List ℕ) → has_marks bytes ≡ true → (slice_index bytes 4 ≡ 45) × (slice_index bytes 7 ≡ 45)
unfolding has_marks
hyphens bytes h = grind (arith, nat_tests)

spelled : (bytes : List ℕ) (z : ℤ) → IsSpelling z bytes → IsSpelled bytes z
unfolding day_of
spelled bytes z s =
    cond_both (has_marks bytes) (digits_day bytes) None (λ o. o ≡ Some z → IsSpelled bytes z) (λ marks e. spelled_digits bytes z s.0 (hyphens bytes marks) e) (λ no e. absurd (none-some z e)) s.1

-- two spellings of one day are the same bytes
pub one_spelling : (a b : List ℕ) (z : ℤ) → IsSpelling z a → IsSpelling z b → a ≡ b
one_spelling a b z sa sb =
    let p = spelled a z sa in
    let q = spelled b z sb in
    let same = number_of_injective p.year p.month p.day q.year q.month q.day z p.number q.number in
    p.text ∙ (λ i. civil_text (same.0 i) (same.1 i) (same.2 i)) ∙ sym q.text

text_ascii : (y m d : ℕ) → (y < 10000) × (m < 100) × (d < 100) → IsAscii (civil_text y m d)
text_ascii y m d small = IsAscii-from_all (civil_text y m d) (All-from_recursion (λ b. b < 128) (civil_text y m d) (omega arith))

pub spelling_ascii : (bytes : List ℕ) (z : ℤ) → IsSpelling z bytes → IsAscii bytes
spelling_ascii bytes z s = let p = spelled bytes z s in subst IsAscii (sym p.text) (text_ascii p.year p.month p.day p.small)
