-- The texts of weekdays and months.
use Rattle.std.proofs.Common.{◌⊎◌, inl, inr, ℕ, List, take, refl, sym, ap, ◌∙◌}
use Rattle.std.proofs.lemmas.List.{take-map}
use Rattle.std.specs.Char.{to_ascii_lowercase}
use Rattle.chrono_datetime.specs.WeekdayText.{weekday_text}
use Rattle.chrono_datetime.specs.declared.Weekday.{Weekday}
use Rattle.chrono_datetime.specs.declared.Weekday.TheVariants.{Mon, Tue, Wed, Thu, Fri, Sat, Sun}
use Rattle.chrono_datetime.specs.Names.{IsNameText, IsWeekdayText, SameLetters}

-- the first three letters of texts with the same letters
cut_same : (text name : List ℕ) → SameLetters text name → SameLetters (take 3 name) (take 3 text)
cut_same text name same = sym (take-map to_ascii_lowercase 3 name) ∙ ap (take 3) (sym same) ∙ take-map to_ascii_lowercase 3 text

-- of two texts of one name one is the other, or its first three letters
pub IsNameText-same : (text other name : List ℕ) → IsNameText text name → IsNameText other name → IsNameText text other ⊎ IsNameText other text
IsNameText-same text other name (inl is) (inl also) = inl (inl (is ∙ sym also))
IsNameText-same text other name (inl is) (inr also) = inr (inr (also ∙ cut_same text name is))
IsNameText-same text other name (inr is) (inl also) = inl (inr (is ∙ cut_same other name also))
IsNameText-same text other name (inr is) (inr also) = inl (inl (is ∙ sym also))

-- what is printed of a day are the first three letters of its name
pub IsWeekdayText-printed : (d : Weekday) → IsWeekdayText (weekday_text d) d
IsWeekdayText-printed Mon = inr refl
IsWeekdayText-printed Tue = inr refl
IsWeekdayText-printed Wed = inr refl
IsWeekdayText-printed Thu = inr refl
IsWeekdayText-printed Fri = inr refl
IsWeekdayText-printed Sat = inr refl
IsWeekdayText-printed Sun = inr refl
