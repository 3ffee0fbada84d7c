-- The days of a row that are members of a set, as texts, from the first day of the row on.
use Rattle.std.proofs.Common.{◌≡◌, zero, suc, ◌+◌, ◌-◌, ◌*◌, ◌<◌, ◌≤◌, ℕ, Bool, true, false, cond, min, filter, codes, if◌then◌else◌, List, [], ◌∷◌, ◌++◌, length, get_or, take, refl, append_assoc, length-append, take_all, arith}
use Rattle.std.proofs.lemmas.List.{take_at}
use Rattle.chrono_units.specs.declared.weekday.Weekday.{Weekday}
use Rattle.chrono_units.specs.declared.weekday.Weekday.TheVariants.{Mon, Tue, Wed, Thu, Fri, Sat, Sun}
use Rattle.chrono_units.specs.Weekday.{next_weekday}
use Rattle.chrono_units.specs.WeekdaySet.{DaySet, contains, days_in_row}
use Rattle.chrono_units.specs.WeekdayText.{weekday_text, days_text}
use Rattle.caltool_form.specs.Private.{listed_days_text}
use Rattle.caltool_form.specs.SpacedDays.{spaced_days_text}

-- the members among the days of a row
abbrev pub members : DaySet → ℕ → Weekday → List Weekday
members s left d = filter (contains s) (days_in_row left d)

listed-if : (member : Bool) (d : Weekday) (ds : List Weekday)
    → listed_days_text (cond member (d ∷ ds) ds) ≡ (if member then weekday_text d ++ codes ", " else []) ++ listed_days_text ds
listed-if true d ds = simp append_assoc refl
listed-if false d ds = refl

spaced-if : (member : Bool) (d : Weekday) (ds : List Weekday)
    → spaced_days_text (cond member (d ∷ ds) ds) ≡ (if member then codes " " ++ weekday_text d else []) ++ spaced_days_text ds
spaced-if true d ds = simp append_assoc refl
spaced-if false d ds = refl

-- the text of the first day of a row, and that of the others
pub listed-first : (s : DaySet) (left : ℕ) (d : Weekday) → 0 < left
    → listed_days_text (members s left d)
    ≡ (if contains s d then weekday_text d ++ codes ", " else []) ++ listed_days_text (members s (left - 1) (next_weekday d))
listed-first s zero d h = absurd (omega (arith, h))
listed-first s (suc n) d h =
    let less : suc n - 1 ≡ n = omega arith in
    rw less (listed-if (contains s d) d (members s n (next_weekday d)))

pub spaced-first : (s : DaySet) (left : ℕ) (d : Weekday) → 0 < left
    → spaced_days_text (members s left d)
    ≡ (if contains s d then codes " " ++ weekday_text d else []) ++ spaced_days_text (members s (left - 1) (next_weekday d))
spaced-first s zero d h = absurd (omega (arith, h))
spaced-first s (suc n) d h =
    let less : suc n - 1 ≡ n = omega arith in
    rw less (spaced-if (contains s d) d (members s n (next_weekday d)))

-- days before commas are days between commas, and a comma
listed-is : (d : Weekday) (ds : List Weekday) → listed_days_text (d ∷ ds) ≡ days_text (d ∷ ds) ++ codes ", "
listed-is d [] = simp append_assoc refl
listed-is d (e ∷ es) = rw (listed-is e es) (simp append_assoc refl)

-- without the last comma these are the days of a set
pub unlisted : (front : List ℕ) (days : List Weekday)
    → take (length (front ++ listed_days_text days) - 2 * min (length days) 1) (front ++ listed_days_text days) ≡ front ++ days_text days
unlisted front [] = take_all _ _ (omega arith)
unlisted front (d ∷ ds) =
    let same : front ++ listed_days_text (d ∷ ds) ≡ (front ++ days_text (d ∷ ds)) ++ codes ", " = rw (listed-is d ds) (simp append_assoc refl) in
    rw same (take_at (front ++ days_text (d ∷ ds)) (codes ", ") _ (omega (arith, length-append {A = ℕ})))

-- the last comma and its space are there, if a day is
pub comma-there : (days : List Weekday) → 2 * min (length days) 1 ≤ length (listed_days_text days)
comma-there [] = omega arith
comma-there (d ∷ ds) = omega (arith, length-append {A = ℕ})

pub shorter : (days : List Weekday) → length (listed_days_text days) ≤ 35 → length (listed_days_text days) ≤ 33 + 2 * min (length days) 1
shorter [] h = omega arith
shorter (d ∷ ds) h = omega (arith, h)

-- a text that is put, or not
pub put-le : (wanted : Bool) (old text : List ℕ) → length (old ++ (if wanted then text else [])) ≤ length old + length text
put-le true old text = omega (arith, length-append {A = ℕ})
put-le false old text = omega (arith, length-append {A = ℕ})

-- the name of a day behind a space, before a comma and a space
pub unspaced : (d : Weekday) → let name = codes " " ++ weekday_text d in get_or name 1 0 ∷ get_or name 2 0 ∷ get_or name 3 0 ∷ 44 ∷ 32 ∷ [] ≡ weekday_text d ++ codes ", "
unspaced Mon = refl
unspaced Tue = refl
unspaced Wed = refl
unspaced Thu = refl
unspaced Fri = refl
unspaced Sat = refl
unspaced Sun = refl
