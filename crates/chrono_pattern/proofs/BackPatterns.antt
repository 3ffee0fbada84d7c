-- A separable pattern reads back what it writes.
use Rattle.std.proofs.Common.{◌≡◌, ℕ, ◌==◌, Bool, true, false, ◌&&◌, if◌then◌else◌, List, [], ◌∷◌, ◌++◌, Option, Some, None, Result, Ok, ℤ, ◌-ℤ◌, refl, ap, sym, subst, ◌∙◌, arith}
use Rattle.std.proofs.lemmas.Bool.{and_parts, false≢true}
use Rattle.std.proofs.lemmas.Bool.Decides.{nat_tests}
use Rattle.chrono_datetime.specs.Moment.{Moment}
use Rattle.chrono_datetime.specs.Time.{IsTime, TimeOfDay}
use Rattle.chrono_instant.specs.Instants.{epoch_second}
use Rattle.chrono_instant.specs.Offsets.{IsOffset}
use Rattle.chrono_pattern.specs.ItemReads.{item_read}
use Rattle.chrono_pattern.specs.Kept.{LosesNothing, given_from, given_parts, keeps_from, keeps_item, keeps_subsecond, with_few, with_given}
use Rattle.chrono_pattern.specs.NamedParts.{with_named}
use Rattle.chrono_pattern.specs.OffsetReads.{at_rest}
use Rattle.chrono_pattern.specs.Parts.{no_parts}
use Rattle.chrono_pattern.specs.Patterns.{text_at_offset, text_from, text_of_item}
use Rattle.chrono_pattern.specs.PatternSteps.{pattern_step}
use Rattle.chrono_pattern.specs.Progress.{Progress, class_len, is_pattern_blank}
use Rattle.chrono_pattern.specs.ReadBack.{parts_of}
use Rattle.chrono_pattern.specs.Reads.{end_read, read_from, text_read}
use Rattle.chrono_pattern.specs.Separable.{bar_behind, bar_of_subsecond, shows_ends, is_separable_from, takes_item, takes_subsecond, takes_digit}
use Rattle.chrono_pattern.specs.SubsecondReads.{subsecond_read}
use Rattle.chrono_pattern.specs.Subseconds.{subsecond_of}
use Rattle.chrono_pattern.specs.declared.item.Bar.{Bar}
use Rattle.chrono_pattern.specs.declared.item.Bar.TheVariants.{Free, NoDigit, NoFraction, NoPoint, NoMinutes}
use Rattle.chrono_pattern.specs.declared.item.Item.{Item}
use Rattle.chrono_pattern.specs.declared.item.Item.TheVariants.{Empty, Byte, Number, Word, Group, Subsecond, Zoned}
use Rattle.chrono_pattern.specs.declared.item.State.{State}
use Rattle.chrono_pattern.specs.declared.item.State.TheVariants.{Outside}
use Rattle.chrono_pattern.specs.declared.item.ZonedField.TheVariants.{Offset, ZoneName, Stamp, Iso8601}
use Rattle.chrono_pattern.specs.declared.parsed.Parsed.{Parsed}
use Rattle.chrono_pattern.specs.declared.parsed.Part.TheVariants.{NanosecondOfSecond}
use Rattle.chrono_pattern.specs.declared.stop.Stop.{Stop}
use Rattle.chrono_pattern.proofs.BackDigits.{Ends, skip}
use Rattle.chrono_pattern.proofs.BackItems.{byte_back, group_back, number_back}
use Rattle.chrono_pattern.proofs.BackNumbers.{nothing_stays}
use Rattle.chrono_pattern.proofs.BackOffsets.{offset_back, offset_opens, stamp_back}
use Rattle.chrono_pattern.proofs.BackParts.{put_offset, stamp_put}
use Rattle.chrono_pattern.proofs.BackStamps.{iso_back}
use Rattle.chrono_pattern.proofs.BackStarts.{item_starts, some_count}
use Rattle.chrono_pattern.proofs.BackSubseconds.{asked_back, few_back, fixed_text_back, fraction_of}
use Rattle.chrono_pattern.proofs.BackWords.{opens_skips, word_back, word_opens}
use Rattle.chrono_pattern.proofs.PatternLemmas.{text_from-more, text_from-nothing}
use Rattle.chrono_pattern.proofs.ReadLemmas.{behind_item, read_from-more, read_from-nothing}
use Rattle.chrono_pattern.proofs.SeparableLemmas.{separable-more, separable-none}

-- ---- the definitions, byte by byte

pub keeps-more : (wide : Bool) (s : State) (c : ℕ) (bytes : List ℕ) (m : Moment) (x : ℤ) (next : State × Item) → pattern_step s c ≡ Some next
    → keeps_from wide s (c ∷ bytes) m x ≡ (keeps_item wide next.1 m x && keeps_from wide next.0 bytes m x)
unfolding keeps_from
keeps-more wide s c bytes m x next e =
    ap (λ (o : Option (State × Item)). elim o as (λ _. Bool) [ None ↦ false | Some n ↦ keeps_item wide n.1 m x && keeps_from wide n.0 bytes m x ]) e

pub given-more : (s : State) (c : ℕ) (bytes : List ℕ) (t : TimeOfDay) (q : Parsed) (next : State × Item) → pattern_step s c ≡ Some next
    → given_from s (c ∷ bytes) t q ≡ given_from next.0 bytes t (with_given next.1 t q)
unfolding given_from
given-more s c bytes t q next e =
    ap (λ (o : Option (State × Item)). elim o as (λ _. Parsed) [ None ↦ q | Some n ↦ given_from n.0 bytes t (with_given n.1 t q) ]) e

pub given-none : (s : State) (c : ℕ) (bytes : List ℕ) (t : TimeOfDay) (q : Parsed) → pattern_step s c ≡ None → given_from s (c ∷ bytes) t q ≡ q
unfolding given_from
given-none s c bytes t q e =
    ap (λ (o : Option (State × Item)). elim o as (λ _. Parsed) [ None ↦ q | Some n ↦ given_from n.0 bytes t (with_given n.1 t q) ]) e

pub given-nothing : (s : State) (t : TimeOfDay) (q : Parsed) → given_from s [] t q ≡ q
unfolding given_from
given-nothing s t q = refl

-- ---- an item

-- whether blanks in front of what is behind the item are read with it
abbrev reads_blanks : Bool → Item → TimeOfDay → Bool
reads_blanks b Empty t = b
reads_blanks b (Byte c) t = is_pattern_blank c
reads_blanks b (Subsecond point count) t = if count == 0 then (if fraction_of t == 0 then b else false) else false
reads_blanks b _ t = false

abbrev ItemBack : Bool → Item → List ℕ → Parsed → Moment → ℤ → Type 0
ItemBack b item rest q m x =
    item_read item (at_rest (skip b (text_of_item item m x ++ rest)) (parts_of q m x))
    ≡ Ok (at_rest (skip (reads_blanks b item m.time) rest) (parts_of (with_given item m.time q) m x))

point_item : (bar : Bar) (b : Bool) (count : ℕ) (rest : List ℕ) (q : Parsed) (m : Moment) (x : ℤ) → keeps_subsecond count m.time ≡ true
    → Ends (bar_of_subsecond true count) rest → ItemBack b (Subsecond true count) rest q m x
point_item bar b count rest q m x keeps ends = by_test (count == 0) refl ends
  where
    by_test : (z : Bool) → (count == 0) ≡ z → Ends (if z then NoFraction else NoDigit) rest
        → subsecond_read true count (at_rest (skip b (subsecond_of true count m.time ++ rest)) (parts_of q m x))
        ≡ Ok (at_rest (skip (if z then (if fraction_of m.time == 0 then b else false) else false) rest) (parts_of (if z then with_few m.time q else with_named NanosecondOfSecond q) m x))
    by_test true e h =
        let none : count ≡ 0 = grind (arith, nat_tests) in
        ap (λ (k : ℕ). subsecond_read true k (at_rest (skip b (subsecond_of true k m.time ++ rest)) (parts_of q m x))) none ∙ few_back b rest q m x h
    by_test false e h = asked_back b count rest q m x (some_count count e) keeps h

fixed_item : (bar : Bar) (b : Bool) (count : ℕ) (rest : List ℕ) (q : Parsed) (m : Moment) (x : ℤ) → takes_subsecond bar false count ≡ true
    → keeps_subsecond count m.time ≡ true → ItemBack b (Subsecond false count) rest q m x
fixed_item bar b count rest q m x takes keeps = by_test (count == 0) refl takes
  where
    by_test : (z : Bool) → (count == 0) ≡ z → (if z then false else takes_digit bar) ≡ true
        → subsecond_read false count (at_rest (skip b (subsecond_of false count m.time ++ rest)) (parts_of q m x))
        ≡ Ok (at_rest (skip (if z then (if fraction_of m.time == 0 then b else false) else false) rest) (parts_of (if z then with_few m.time q else with_named NanosecondOfSecond q) m x))
    by_test true e h = absurd (false≢true h)
    by_test false e h = fixed_text_back b count rest q m x (some_count count e) keeps

item_back : (wide : Bool) (bar : Bar) (item : Item) (b : Bool) (rest : List ℕ) (q : Parsed) (m : Moment) (x : ℤ) → IsTime m.time → IsOffset x
    → takes_item wide bar item ≡ true → keeps_item wide item m x ≡ true → Ends (bar_behind wide bar item) rest → ItemBack b item rest q m x
item_back wide bar Empty b rest q m x time near takes keeps ends = refl
item_back wide bar (Byte c) b rest q m x time near takes keeps ends = byte_back c b rest (parts_of q m x)
item_back wide bar (Number field padding) b rest q m x time near takes keeps ends = number_back wide field padding b rest q m x time keeps ends
item_back wide bar (Word word) b rest q m x time near takes keeps ends =
    ap (λ (l : List ℕ). item_read (Word word) (at_rest l (parts_of q m x))) (opens_skips b (text_of_item (Word word) m x ++ rest) (word_opens word rest m))
    ∙ word_back word rest q m x time
item_back wide bar (Group g) b rest q m x time near takes keeps ends = group_back wide g b rest q m x time keeps ends
item_back wide bar (Subsecond true count) b rest q m x time near takes keeps ends = point_item bar b count rest q m x keeps ends
item_back wide bar (Subsecond false count) b rest q m x time near takes keeps ends = fixed_item bar b count rest q m x takes keeps
item_back wide bar (Zoned (Offset form)) b rest q m x time near takes keeps ends =
    ap (λ (l : List ℕ). item_read (Zoned (Offset form)) (at_rest l (parts_of q m x))) (opens_skips b (text_of_item (Zoned (Offset form)) m x ++ rest) (offset_opens form x rest))
    ∙ offset_back form x rest _ _ keeps near ends (put_offset q m x near)
item_back wide bar (Zoned ZoneName) b rest q m x time near takes keeps ends = absurd (false≢true takes)
item_back wide bar (Zoned Stamp) b rest q m x time near takes keeps ends = stamp_back (epoch_second m -ℤ x) b rest _ _ keeps ends (stamp_put q m x keeps)
item_back wide bar (Zoned Iso8601) b rest q m x time near takes keeps ends = iso_back b rest q m x time near keeps

-- ---- what is behind an item

abbrev Starts : Bool → List ℕ → Moment → ℤ → Type 0
Starts wide bytes m x = (s : State) (bar : Bar) → is_separable_from wide s bar bytes ≡ true → keeps_from wide s bytes m x ≡ true → Ends bar (text_from s bytes m x)

nothing_ends : (bar : Bar) → Ends bar []
unfolding class_len
nothing_ends Free = refl
nothing_ends NoDigit = refl
nothing_ends NoFraction = (refl, refl)
nothing_ends NoPoint = refl
nothing_ends NoMinutes = refl

step_starts : (wide : Bool) (c : ℕ) (bytes : List ℕ) (m : Moment) (x : ℤ) → IsTime m.time → Starts wide bytes m x → (s : State) (bar : Bar) (o : Option (State × Item))
    → pattern_step s c ≡ o → is_separable_from wide s bar (c ∷ bytes) ≡ true → keeps_from wide s (c ∷ bytes) m x ≡ true → Ends bar (text_from s (c ∷ bytes) m x)
step_starts wide c bytes m x time rest s bar None e h keeps = absurd (false≢true (sym (separable-none wide s bar c bytes e) ∙ h))
step_starts wide c bytes m x time rest s bar (Some next) e h keeps =
    let both = and_parts (takes_item wide bar next.1) (is_separable_from wide next.0 (bar_behind wide bar next.1) bytes) (sym (separable-more wide s bar c bytes next e) ∙ h) in
    let kept = and_parts (keeps_item wide next.1 m x) (keeps_from wide next.0 bytes m x) (sym (keeps-more wide s c bytes m x next e) ∙ keeps) in
    subst (λ (l : List ℕ). Ends bar l) (sym (text_from-more s c bytes m x next e))
    (item_starts wide bar next.1 m x (text_from next.0 bytes m x) time both.0 kept.0 (rest next.0 (bar_behind wide bar next.1) both.1 kept.1))

starts : (wide : Bool) (bytes : List ℕ) (m : Moment) (x : ℤ) → IsTime m.time → Starts wide bytes m x
starts wide [] m x time s bar h keeps = subst (λ (l : List ℕ). Ends bar l) (sym (text_from-nothing s m x)) (nothing_ends bar)
starts wide (c ∷ bytes) m x time s bar h keeps = step_starts wide c bytes m x time (starts wide bytes m x time) s bar (pattern_step s c) refl h keeps

-- ---- all items

abbrev Back : Bool → List ℕ → Moment → ℤ → Type 0
Back wide bytes m x = (s : State) (bar : Bar) (b : Bool) (q : Parsed) → is_separable_from wide s bar bytes ≡ true → keeps_from wide s bytes m x ≡ true
    → read_from s bytes (at_rest (skip b (text_from s bytes m x)) (parts_of q m x)) ≡ Ok (at_rest [] (parts_of (given_from s bytes m.time q) m x))

step_back : (wide : Bool) (c : ℕ) (bytes : List ℕ) (m : Moment) (x : ℤ) → IsTime m.time → IsOffset x → Back wide bytes m x → (s : State) (bar : Bar) (b : Bool) (q : Parsed)
    → (o : Option (State × Item)) → pattern_step s c ≡ o → is_separable_from wide s bar (c ∷ bytes) ≡ true → keeps_from wide s (c ∷ bytes) m x ≡ true
    → read_from s (c ∷ bytes) (at_rest (skip b (text_from s (c ∷ bytes) m x)) (parts_of q m x)) ≡ Ok (at_rest [] (parts_of (given_from s (c ∷ bytes) m.time q) m x))
step_back wide c bytes m x time near rest s bar b q None e h keeps = absurd (false≢true (sym (separable-none wide s bar c bytes e) ∙ h))
step_back wide c bytes m x time near rest s bar b q (Some next) e h keeps =
    let both = and_parts (takes_item wide bar next.1) (is_separable_from wide next.0 (bar_behind wide bar next.1) bytes) (sym (separable-more wide s bar c bytes next e) ∙ h) in
    let kept = and_parts (keeps_item wide next.1 m x) (keeps_from wide next.0 bytes m x) (sym (keeps-more wide s c bytes m x next e) ∙ keeps) in
    let behind = text_from next.0 bytes m x in
    let ends = starts wide bytes m x time next.0 (bar_behind wide bar next.1) both.1 kept.1 in
    ap (λ (l : List ℕ). read_from s (c ∷ bytes) (at_rest (skip b l) (parts_of q m x))) (text_from-more s c bytes m x next e)
    ∙ read_from-more s c bytes (at_rest (skip b (text_of_item next.1 m x ++ behind)) (parts_of q m x)) next e
    ∙ ap (λ (o : Result Progress Stop). behind_item o next.0 bytes) (item_back wide bar next.1 b behind q m x time near both.0 kept.0 ends)
    ∙ rest next.0 (bar_behind wide bar next.1) (reads_blanks b next.1 m.time) (with_given next.1 m.time q) both.1 kept.1
    ∙ ap (λ (p : Parsed). Ok (at_rest [] (parts_of p m x))) (sym (given-more s c bytes m.time q next e))

nothing_skipped : (b : Bool) → skip b [] ≡ []
nothing_skipped true = nothing_stays
nothing_skipped false = refl

back : (wide : Bool) (bytes : List ℕ) (m : Moment) (x : ℤ) → IsTime m.time → IsOffset x → Back wide bytes m x
back wide [] m x time near s bar b q h keeps =
    ap (λ (l : List ℕ). read_from s [] (at_rest (skip b l) (parts_of q m x))) (text_from-nothing s m x)
    ∙ ap (λ (l : List ℕ). read_from s [] (at_rest l (parts_of q m x))) (nothing_skipped b)
    ∙ read_from-nothing s (at_rest [] (parts_of q m x))
    ∙ ap (λ (p : Parsed). Ok (at_rest [] (parts_of p m x))) (sym (given-nothing s m.time q))
back wide (c ∷ bytes) m x time near s bar b q h keeps =
    step_back wide c bytes m x time near (back wide bytes m x time near) s bar b q (pattern_step s c) refl h keeps

pub parts_back : (wide : Bool) (bytes : List ℕ) (m : Moment) (x : ℤ) → shows_ends wide bytes ≡ true → LosesNothing wide bytes m x
    → text_read bytes (text_at_offset bytes m x) ≡ Ok (parts_of (given_parts bytes m.time) m x)
parts_back wide bytes m x separable kept =
    ap (λ (o : Result Progress Stop). end_read o) (back wide bytes m x kept.time kept.offset Outside Free false no_parts separable kept.items)
