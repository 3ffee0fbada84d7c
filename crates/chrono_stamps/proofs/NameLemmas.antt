-- Three bytes that name a weekday or a month are the first three letters of its name.
use Rattle.std.proofs.Common.{◌≡◌, inl, inr, Bool, true, false, if◌then◌else◌, ℕ, ◌≤◌, List, length, take, map, Option, None, Some, refl, sym, ap, subst, ◌∙◌, arith, take_all}
use Rattle.std.proofs.lemmas.List.{length-map}
use Rattle.std.proofs.lemmas.Bool.{false≢true}
use Rattle.std.specs.Cmp.Lexicographic.{bytes_decides}
use Rattle.std.specs.Char.{to_ascii_lowercase}
use Rattle.chrono_datetime.specs.Month.{month_name}
use Rattle.chrono_datetime.specs.Names.{IsMonthText, IsNameText, IsWeekdayText, SameLetters, begins, month_of_letters, weekday_name, weekday_of_letters}
use Rattle.chrono_datetime.specs.declared.Month.{Month}
use Rattle.chrono_datetime.specs.declared.Month.TheVariants.{January, February, March, April, May, June, July, August, September, October, November, December}
use Rattle.chrono_datetime.specs.declared.Weekday.{Weekday}
use Rattle.chrono_datetime.specs.declared.Weekday.TheVariants.{Mon, Tue, Wed, Thu, Fri, Sat, Sun}

-- no more than three letters that name something are the first letters of the name
first_letters : (text name : List ℕ) → length text ≤ 3 → IsNameText text name → begins 3 text name ≡ true
first_letters text name few (inr is) = (bytes_decides (map to_ascii_lowercase text) (map to_ascii_lowercase (take 3 name))).1 is
first_letters text name few (inl is) =
    let size : length name ≤ 3 = omega (arith, few, ap length is, length-map text to_ascii_lowercase, length-map name to_ascii_lowercase) in
    (bytes_decides (map to_ascii_lowercase text) (map to_ascii_lowercase (take 3 name))).1 (subst (λ (l : List ℕ). SameLetters text l) (sym (take_all 3 name size)) is)

-- where none of these tests finds a name, none holds
weekdays_none : (b0 b1 b2 b3 b4 b5 b6 : Bool) → ◌≡◌ {A = Option Weekday} (if b0 then Some Mon else if b1 then Some Tue else if b2 then Some Wed else if b3 then Some Thu else if b4 then Some Fri else if b5 then Some Sat else if b6 then Some Sun else None) None → (b0 ≡ false) × (b1 ≡ false) × (b2 ≡ false) × (b3 ≡ false) × (b4 ≡ false) × (b5 ≡ false) × (b6 ≡ false)
weekdays_none true b1 b2 b3 b4 b5 b6 e = absurd cc
weekdays_none false true b2 b3 b4 b5 b6 e = absurd cc
weekdays_none false false true b3 b4 b5 b6 e = absurd cc
weekdays_none false false false true b4 b5 b6 e = absurd cc
weekdays_none false false false false true b5 b6 e = absurd cc
weekdays_none false false false false false true b6 e = absurd cc
weekdays_none false false false false false false true e = absurd cc
weekdays_none false false false false false false false e = (refl, refl, refl, refl, refl, refl, refl)

months_none : (b0 b1 b2 b3 b4 b5 b6 b7 b8 b9 b10 b11 : Bool) → ◌≡◌ {A = Option Month} (if b0 then Some January else if b1 then Some February else if b2 then Some March else if b3 then Some April else if b4 then Some May else if b5 then Some June else if b6 then Some July else if b7 then Some August else if b8 then Some September else if b9 then Some October else if b10 then Some November else if b11 then Some December else None) None → (b0 ≡ false) × (b1 ≡ false) × (b2 ≡ false) × (b3 ≡ false) × (b4 ≡ false) × (b5 ≡ false) × (b6 ≡ false) × (b7 ≡ false) × (b8 ≡ false) × (b9 ≡ false) × (b10 ≡ false) × (b11 ≡ false)
months_none true b1 b2 b3 b4 b5 b6 b7 b8 b9 b10 b11 e = absurd cc
months_none false true b2 b3 b4 b5 b6 b7 b8 b9 b10 b11 e = absurd cc
months_none false false true b3 b4 b5 b6 b7 b8 b9 b10 b11 e = absurd cc
months_none false false false true b4 b5 b6 b7 b8 b9 b10 b11 e = absurd cc
months_none false false false false true b5 b6 b7 b8 b9 b10 b11 e = absurd cc
months_none false false false false false true b6 b7 b8 b9 b10 b11 e = absurd cc
months_none false false false false false false true b7 b8 b9 b10 b11 e = absurd cc
months_none false false false false false false false true b8 b9 b10 b11 e = absurd cc
months_none false false false false false false false false true b9 b10 b11 e = absurd cc
months_none false false false false false false false false false true b10 b11 e = absurd cc
months_none false false false false false false false false false false true b11 e = absurd cc
months_none false false false false false false false false false false false true e = absurd cc
months_none false false false false false false false false false false false false e = (refl, refl, refl, refl, refl, refl, refl, refl, refl, refl, refl, refl)

pub no_weekday : (text : List ℕ) (d : Weekday) → length text ≤ 3 → IsWeekdayText text d → weekday_of_letters 3 text ≡ None → ⊥
unfolding weekday_of_letters
no_weekday text Mon few is e = let none = weekdays_none (begins 3 text (weekday_name Mon)) (begins 3 text (weekday_name Tue)) (begins 3 text (weekday_name Wed)) (begins 3 text (weekday_name Thu)) (begins 3 text (weekday_name Fri)) (begins 3 text (weekday_name Sat)) (begins 3 text (weekday_name Sun)) e in false≢true (sym none.0 ∙ first_letters text (weekday_name Mon) few is)
no_weekday text Tue few is e = let none = weekdays_none (begins 3 text (weekday_name Mon)) (begins 3 text (weekday_name Tue)) (begins 3 text (weekday_name Wed)) (begins 3 text (weekday_name Thu)) (begins 3 text (weekday_name Fri)) (begins 3 text (weekday_name Sat)) (begins 3 text (weekday_name Sun)) e in false≢true (sym none.1 ∙ first_letters text (weekday_name Tue) few is)
no_weekday text Wed few is e = let none = weekdays_none (begins 3 text (weekday_name Mon)) (begins 3 text (weekday_name Tue)) (begins 3 text (weekday_name Wed)) (begins 3 text (weekday_name Thu)) (begins 3 text (weekday_name Fri)) (begins 3 text (weekday_name Sat)) (begins 3 text (weekday_name Sun)) e in false≢true (sym none.2 ∙ first_letters text (weekday_name Wed) few is)
no_weekday text Thu few is e = let none = weekdays_none (begins 3 text (weekday_name Mon)) (begins 3 text (weekday_name Tue)) (begins 3 text (weekday_name Wed)) (begins 3 text (weekday_name Thu)) (begins 3 text (weekday_name Fri)) (begins 3 text (weekday_name Sat)) (begins 3 text (weekday_name Sun)) e in false≢true (sym none.3 ∙ first_letters text (weekday_name Thu) few is)
no_weekday text Fri few is e = let none = weekdays_none (begins 3 text (weekday_name Mon)) (begins 3 text (weekday_name Tue)) (begins 3 text (weekday_name Wed)) (begins 3 text (weekday_name Thu)) (begins 3 text (weekday_name Fri)) (begins 3 text (weekday_name Sat)) (begins 3 text (weekday_name Sun)) e in false≢true (sym none.4 ∙ first_letters text (weekday_name Fri) few is)
no_weekday text Sat few is e = let none = weekdays_none (begins 3 text (weekday_name Mon)) (begins 3 text (weekday_name Tue)) (begins 3 text (weekday_name Wed)) (begins 3 text (weekday_name Thu)) (begins 3 text (weekday_name Fri)) (begins 3 text (weekday_name Sat)) (begins 3 text (weekday_name Sun)) e in false≢true (sym none.5 ∙ first_letters text (weekday_name Sat) few is)
no_weekday text Sun few is e = let none = weekdays_none (begins 3 text (weekday_name Mon)) (begins 3 text (weekday_name Tue)) (begins 3 text (weekday_name Wed)) (begins 3 text (weekday_name Thu)) (begins 3 text (weekday_name Fri)) (begins 3 text (weekday_name Sat)) (begins 3 text (weekday_name Sun)) e in false≢true (sym none.6 ∙ first_letters text (weekday_name Sun) few is)

pub no_month : (text : List ℕ) (d : Month) → length text ≤ 3 → IsMonthText text d → month_of_letters text ≡ None → ⊥
unfolding month_of_letters
no_month text January few is e = let none = months_none (begins 3 text (month_name January)) (begins 3 text (month_name February)) (begins 3 text (month_name March)) (begins 3 text (month_name April)) (begins 3 text (month_name May)) (begins 3 text (month_name June)) (begins 3 text (month_name July)) (begins 3 text (month_name August)) (begins 3 text (month_name September)) (begins 3 text (month_name October)) (begins 3 text (month_name November)) (begins 3 text (month_name December)) e in false≢true (sym none.0 ∙ first_letters text (month_name January) few is)
no_month text February few is e = let none = months_none (begins 3 text (month_name January)) (begins 3 text (month_name February)) (begins 3 text (month_name March)) (begins 3 text (month_name April)) (begins 3 text (month_name May)) (begins 3 text (month_name June)) (begins 3 text (month_name July)) (begins 3 text (month_name August)) (begins 3 text (month_name September)) (begins 3 text (month_name October)) (begins 3 text (month_name November)) (begins 3 text (month_name December)) e in false≢true (sym none.1 ∙ first_letters text (month_name February) few is)
no_month text March few is e = let none = months_none (begins 3 text (month_name January)) (begins 3 text (month_name February)) (begins 3 text (month_name March)) (begins 3 text (month_name April)) (begins 3 text (month_name May)) (begins 3 text (month_name June)) (begins 3 text (month_name July)) (begins 3 text (month_name August)) (begins 3 text (month_name September)) (begins 3 text (month_name October)) (begins 3 text (month_name November)) (begins 3 text (month_name December)) e in false≢true (sym none.2 ∙ first_letters text (month_name March) few is)
no_month text April few is e = let none = months_none (begins 3 text (month_name January)) (begins 3 text (month_name February)) (begins 3 text (month_name March)) (begins 3 text (month_name April)) (begins 3 text (month_name May)) (begins 3 text (month_name June)) (begins 3 text (month_name July)) (begins 3 text (month_name August)) (begins 3 text (month_name September)) (begins 3 text (month_name October)) (begins 3 text (month_name November)) (begins 3 text (month_name December)) e in false≢true (sym none.3 ∙ first_letters text (month_name April) few is)
no_month text May few is e = let none = months_none (begins 3 text (month_name January)) (begins 3 text (month_name February)) (begins 3 text (month_name March)) (begins 3 text (month_name April)) (begins 3 text (month_name May)) (begins 3 text (month_name June)) (begins 3 text (month_name July)) (begins 3 text (month_name August)) (begins 3 text (month_name September)) (begins 3 text (month_name October)) (begins 3 text (month_name November)) (begins 3 text (month_name December)) e in false≢true (sym none.4 ∙ first_letters text (month_name May) few is)
no_month text June few is e = let none = months_none (begins 3 text (month_name January)) (begins 3 text (month_name February)) (begins 3 text (month_name March)) (begins 3 text (month_name April)) (begins 3 text (month_name May)) (begins 3 text (month_name June)) (begins 3 text (month_name July)) (begins 3 text (month_name August)) (begins 3 text (month_name September)) (begins 3 text (month_name October)) (begins 3 text (month_name November)) (begins 3 text (month_name December)) e in false≢true (sym none.5 ∙ first_letters text (month_name June) few is)
no_month text July few is e = let none = months_none (begins 3 text (month_name January)) (begins 3 text (month_name February)) (begins 3 text (month_name March)) (begins 3 text (month_name April)) (begins 3 text (month_name May)) (begins 3 text (month_name June)) (begins 3 text (month_name July)) (begins 3 text (month_name August)) (begins 3 text (month_name September)) (begins 3 text (month_name October)) (begins 3 text (month_name November)) (begins 3 text (month_name December)) e in false≢true (sym none.6 ∙ first_letters text (month_name July) few is)
no_month text August few is e = let none = months_none (begins 3 text (month_name January)) (begins 3 text (month_name February)) (begins 3 text (month_name March)) (begins 3 text (month_name April)) (begins 3 text (month_name May)) (begins 3 text (month_name June)) (begins 3 text (month_name July)) (begins 3 text (month_name August)) (begins 3 text (month_name September)) (begins 3 text (month_name October)) (begins 3 text (month_name November)) (begins 3 text (month_name December)) e in false≢true (sym none.7 ∙ first_letters text (month_name August) few is)
no_month text September few is e = let none = months_none (begins 3 text (month_name January)) (begins 3 text (month_name February)) (begins 3 text (month_name March)) (begins 3 text (month_name April)) (begins 3 text (month_name May)) (begins 3 text (month_name June)) (begins 3 text (month_name July)) (begins 3 text (month_name August)) (begins 3 text (month_name September)) (begins 3 text (month_name October)) (begins 3 text (month_name November)) (begins 3 text (month_name December)) e in false≢true (sym none.8 ∙ first_letters text (month_name September) few is)
no_month text October few is e = let none = months_none (begins 3 text (month_name January)) (begins 3 text (month_name February)) (begins 3 text (month_name March)) (begins 3 text (month_name April)) (begins 3 text (month_name May)) (begins 3 text (month_name June)) (begins 3 text (month_name July)) (begins 3 text (month_name August)) (begins 3 text (month_name September)) (begins 3 text (month_name October)) (begins 3 text (month_name November)) (begins 3 text (month_name December)) e in false≢true (sym none.9 ∙ first_letters text (month_name October) few is)
no_month text November few is e = let none = months_none (begins 3 text (month_name January)) (begins 3 text (month_name February)) (begins 3 text (month_name March)) (begins 3 text (month_name April)) (begins 3 text (month_name May)) (begins 3 text (month_name June)) (begins 3 text (month_name July)) (begins 3 text (month_name August)) (begins 3 text (month_name September)) (begins 3 text (month_name October)) (begins 3 text (month_name November)) (begins 3 text (month_name December)) e in false≢true (sym none.10 ∙ first_letters text (month_name November) few is)
no_month text December few is e = let none = months_none (begins 3 text (month_name January)) (begins 3 text (month_name February)) (begins 3 text (month_name March)) (begins 3 text (month_name April)) (begins 3 text (month_name May)) (begins 3 text (month_name June)) (begins 3 text (month_name July)) (begins 3 text (month_name August)) (begins 3 text (month_name September)) (begins 3 text (month_name October)) (begins 3 text (month_name November)) (begins 3 text (month_name December)) e in false≢true (sym none.11 ∙ first_letters text (month_name December) few is)
