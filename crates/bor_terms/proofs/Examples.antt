-- The definitions, tried: each equation here computes from the definitions alone.
use Rattle.std.proofs.Common.{◌≡◌, ℕ, true, false, List, [], ◌∷◌, ◌++◌, Option, Some, None, pos, neg_ℤ, refl, map, replicate}
use Rattle.std.specs.Prelude.{codes, nat_lt, is_some, ⊤}
use Rattle.std.specs.List.{list_all, list_any, filter, range_with_len}
use Rattle.std.specs.Str.{is_utf8, chars}
use lib.Utf8.{encode}
use Rattle.jiff_core.specs.Calendar.{days_from_civil, day_count, days_of_years, days_of_months}
use Rattle.bor_terms.specs.Points.{Bound, at_least, above, at_most, below, points, has_points}
use Rattle.bor_terms.specs.Shown.{shown}
use Rattle.bor_terms.specs.Span.{Range, range}
use Rattle.bor_terms.specs.Day.{day_of, has_marks, digits_day, pair_at, number_of, day_text, year_at, month_at}
use Rattle.bor_terms.specs.Period.{end_of, is_month, month_end, month_start, start_of, year_end, year_of, year_start}
use Rattle.bor_terms.specs.Texts.{is_agent_name, is_lodge_key, is_ident, is_token, is_below}

-- ---- points

-- exactly 60
exact : points (at_least 60 ∷ at_most 60 ∷ []) ≡ 120 ∷ []
unfolding points
exact = refl

-- above 50 and below 51
half_between : points (above 50 ∷ below 51 ∷ []) ≡ 101 ∷ []
unfolding points
half_between = refl

-- open ends at 0 and at 100
open_ends : map points ((above 0 ∷ below 1 ∷ []) ∷ (above 99 ∷ below 100 ∷ []) ∷ []) ≡ (1 ∷ []) ∷ (199 ∷ []) ∷ []
unfolding points
open_ends = refl

-- at least 50 and below 50; above 100; below 0
no_points : map has_points ((at_least 50 ∷ below 50 ∷ []) ∷ (above 100 ∷ []) ∷ (below 0 ∷ []) ∷ []) ≡ false ∷ false ∷ false ∷ []
unfolding points
no_points = refl

-- a share from 50 is no majority; one above 50 is, and one from 51
majority : map (λ bounds. list_all (λ h. nat_lt 100 h) (points bounds)) ((at_least 50 ∷ []) ∷ (above 50 ∷ []) ∷ (at_least 51 ∷ []) ∷ []) ≡ false ∷ true ∷ true ∷ []
unfolding points
majority = refl

-- a share of 0 is no holding; one below 1 is, and one up to 1
holding : map (λ bounds. list_any (λ h. nat_lt 0 h) (points bounds)) ((at_most 0 ∷ []) ∷ (below 1 ∷ []) ∷ (at_most 1 ∷ []) ∷ []) ≡ false ∷ true ∷ true ∷ []
unfolding points
holding = refl

-- ---- the ends that are shown of a share; true is open

abbrev AreShown : List (List Bound × Option Range) → Type 0
AreShown cases = map (λ c. shown (points c.0)) cases ≡ map (λ c. c.1) cases

shown_ends : AreShown (
    -- {"minimum":50,"exclusiveMinimum":50}
    (at_least 50 ∷ above 50 ∷ [], Some (range 50 true 100 false))
    -- {"minimum":60,"exclusiveMinimum":50}
    ∷ (at_least 60 ∷ above 50 ∷ [], Some (range 60 false 100 false))
    -- {"exclusiveMinimum":0,"exclusiveMaximum":100}
    ∷ (above 0 ∷ below 100 ∷ [], Some (range 0 true 100 true))
    -- {"minimum":40,"exclusiveMinimum":50,"maximum":51,"exclusiveMaximum":true}
    ∷ (at_least 40 ∷ above 50 ∷ below 51 ∷ [], Some (range 50 true 51 true))
    -- {"maximum":20,"exclusiveMaximum":20}
    ∷ (at_most 20 ∷ below 20 ∷ [], Some (range 0 false 20 true))
    -- {"exclusiveMinimum":true} and {}
    ∷ ([], Some (range 0 false 100 false))
    -- {"exact":10}
    ∷ (at_least 10 ∷ at_most 10 ∷ [], Some (range 10 false 10 false))
    -- {"exclusiveMaximum":0}
    ∷ (below 0 ∷ [], None)
    -- {"exclusiveMinimum":100}
    ∷ (above 100 ∷ [], None)
    -- {"minimum":50,"exclusiveMinimum":true,"maximum":50}
    ∷ (above 50 ∷ at_most 50 ∷ [], None)
    ∷ [])
unfolding shown points
shown_ends = refl

-- ---- days

-- what is opened to compute the day that a text names
unfoldable pub calendar : ⊤
unfolding day_of has_marks digits_day pair_at number_of days_from_civil day_count days_of_years days_of_months
calendar = tt

-- the last two are the ends of the calendar here
named_days : map day_of (
    codes "2024-01-10" ∷ codes "2024-01-10T09:00:00Z" ∷ codes "2024-01-10T" ∷ codes "2024-02-01"
    ∷ codes "2024-02-29" ∷ codes "1970-01-01" ∷ codes "1969-12-31" ∷ codes "0000-01-01" ∷ codes "9999-12-31" ∷ [])
    ≡ Some (pos 19_732) ∷ Some (pos 19_732) ∷ Some (pos 19_732) ∷ Some (pos 19_754)
    ∷ Some (pos 19_782) ∷ Some (pos 0) ∷ Some (neg_ℤ (pos 1)) ∷ Some (neg_ℤ (pos 719_528)) ∷ Some (pos 2_932_896) ∷ []
unfolding calendar
named_days = refl

unnamed_days : list_any (λ text. is_some (day_of text)) (
    codes "" ∷ codes "2024-01-1" ∷ codes "2024-1-10" ∷ codes "2024-01-10x" ∷ codes "2024-01-10 " ∷ codes "2024-01-10t09:00" ∷ codes "2024/01/10" ∷ codes "2024-01/10" ∷ codes "2024/01-10"
    ∷ codes "2023-02-29" ∷ codes "1900-02-29" ∷ codes "2024-04-31" ∷ codes "2024-00-10" ∷ codes "2024-13-10"
    ∷ codes "2024-01-00" ∷ codes "+024-01-10" ∷ []) ≡ false
unfolding day_of has_marks digits_day pair_at number_of
unnamed_days = refl

-- the first and the last day of the calendar here, of a month, of a leap year's February and of the day numbers
day_texts : map day_text (
    neg_ℤ (pos 719_528) ∷ pos 2_932_896 ∷ pos 19_732 ∷ pos 19_753 ∷ pos 19_754 ∷ pos 19_782 ∷ pos 19_783 ∷ pos 0 ∷ neg_ℤ (pos 1) ∷ [])
    ≡ codes "0000-01-01" ∷ codes "9999-12-31" ∷ codes "2024-01-10" ∷ codes "2024-01-31" ∷ codes "2024-02-01"
    ∷ codes "2024-02-29" ∷ codes "2024-03-01" ∷ codes "1970-01-01" ∷ codes "1969-12-31" ∷ []
unfolding day_text year_at month_at days_of_months
day_texts = refl

-- ---- texts

-- the bytes that each may have, of all 256: a hyphen, digits and small letters
name_bytes : filter (λ b. is_agent_name (b ∷ [])) (range_with_len 0 256) ≡ 45 ∷ range_with_len 48 10 ++ range_with_len 97 26
unfolding is_agent_name
name_bytes = refl

-- a hyphen, a point, digits, capitals, an underscore, small letters
key_bytes : filter (λ b. is_lodge_key (b ∷ [])) (range_with_len 0 256) ≡ 45 ∷ 46 ∷ range_with_len 48 10 ++ range_with_len 65 26 ++ 95 ∷ range_with_len 97 26
unfolding is_lodge_key
key_bytes = refl

-- from 0x20 to 0x7E alone, and after a first byte of UTF-8 what may follow it
ident_bytes : filter (λ b. is_ident (b ∷ [])) (range_with_len 0 256) ≡ range_with_len 32 95
unfolding is_ident is_utf8 chars encode
ident_bytes = refl

ident_second_bytes : filter (λ b. is_ident (195 ∷ b ∷ [])) (range_with_len 0 256) ≡ range_with_len 128 64
unfolding is_ident is_utf8 chars encode
ident_second_bytes = refl

-- from 0x21 to 0x7E
token_bytes : filter (λ b. is_token (replicate 16 b)) (range_with_len 0 256) ≡ range_with_len 33 94
unfolding is_token
token_bytes = refl

agent_names : list_all is_agent_name (codes "a" ∷ codes "acme-2" ∷ replicate 32 122 ∷ []) ≡ true
unfolding is_agent_name
agent_names = refl

no_agent_names : list_any is_agent_name (codes "" ∷ replicate 33 122 ∷ codes "Acme" ∷ codes "a_b" ∷ codes "a b" ∷ []) ≡ false
unfolding is_agent_name
no_agent_names = refl

lodge_keys : list_all is_lodge_key (codes "A" ∷ codes "v1.0_final-Z" ∷ replicate 64 122 ∷ []) ≡ true
unfolding is_lodge_key
lodge_keys = refl

no_lodge_keys : list_any is_lodge_key (codes "" ∷ replicate 65 122 ∷ codes "a/b" ∷ codes "a b" ∷ []) ≡ false
unfolding is_lodge_key
no_lodge_keys = refl

-- the second is an e with an acute accent, in UTF-8
idents : list_all is_ident (codes "GB-COH 1" ∷ (195 ∷ 169 ∷ []) ∷ replicate 255 97 ∷ []) ≡ true
unfolding is_ident is_utf8 chars encode
idents = refl

-- the last two have a control character
no_idents : list_any is_ident (codes "" ∷ replicate 256 97 ∷ (97 ∷ 31 ∷ []) ∷ (97 ∷ 127 ∷ []) ∷ []) ≡ false
unfolding is_ident is_utf8 chars encode
no_idents = refl

tokens : list_all is_token (codes "registrar-token-1" ∷ replicate 16 33 ∷ replicate 64 126 ∷ []) ≡ true
unfolding is_token
tokens = refl

no_tokens : list_any is_token (replicate 15 33 ∷ replicate 65 126 ∷ replicate 16 32 ∷ replicate 16 127 ∷ []) ≡ false
unfolding is_token
no_tokens = refl

lesser : list_all (λ (p : List ℕ × List ℕ). is_below p.0 p.1) ((codes "", codes "a") ∷ (codes "a", codes "a-") ∷ (codes "a-", codes "a0") ∷ (codes "Z", codes "a") ∷ []) ≡ true
lesser = refl

not_below : list_any (λ (p : List ℕ × List ℕ). is_below p.0 p.1) ((codes "a", codes "a") ∷ (codes "b", codes "aa") ∷ (codes "a", codes "Z") ∷ []) ≡ false
not_below = refl

-- a day on which nothing was filed yet
pub first_day : day_of (codes "2000-01-01") ≡ Some (pos 10957)
unfolding calendar
first_day = refl

-- ---- the first and the last day of what is named

starts : map start_of (codes "2024-02-01" ∷ codes "2024-02" ∷ codes "2024" ∷ codes "2024-02-30" ∷ codes "2024-13" ∷ codes "2024-2" ∷ codes "2024-02-" ∷ []) ≡ Some (pos 19754) ∷ Some (pos 19754) ∷ Some (pos 19723) ∷ None ∷ None ∷ None ∷ None ∷ []
unfolding start_of is_month month_start year_start year_of day_of has_marks digits_day pair_at number_of days_from_civil day_count days_of_years days_of_months
starts = refl

ends : map end_of (codes "2024-02-01T09:00:00Z" ∷ codes "2024-02" ∷ codes "2023-02" ∷ codes "2024" ∷ codes "2024-02-30" ∷ codes "20240" ∷ []) ≡ Some (pos 19754) ∷ Some (pos 19782) ∷ Some (pos 19416) ∷ Some (pos 20088) ∷ None ∷ None ∷ []
unfolding end_of is_month month_end year_end year_of day_of has_marks digits_day pair_at number_of days_from_civil day_count days_of_years days_of_months
ends = refl
