-- A pattern reads exactly the texts that are pieces in a row, one for each of its items.
use Rattle.std.proofs.Common.{◌≡◌, ℕ, ◌==◌, ◌||◌, ◌⊎◌, inl, inr, Bool, true, false, if◌then◌else◌, List, [], ◌∷◌, ◌++◌, length, Option, Some, None, Result, Ok, Err, refl, ap, sym, subst, ◌∙◌}
use Rattle.chrono_text.proofs.AnswerLemmas.{same_Ok}
use Rattle.chrono_pattern.specs.ItemReads.{behind_read, between_behind, between_read, clock_year_read, day_read, group_read, half_clock_read, iso_offset_read, iso_read, item_read, short_date_read, three_read, two_read, word_behind_read, zoned_read}
use Rattle.chrono_pattern.specs.NumberReads.{number_read}
use Rattle.chrono_pattern.specs.OffsetReads.{at_rest}
use Rattle.chrono_pattern.specs.Parts.{no_parts}
use Rattle.chrono_pattern.specs.PatternItems.{item_before, items_from, pattern_items}
use Rattle.chrono_pattern.specs.PatternSteps.{pattern_step}
use Rattle.chrono_pattern.specs.Progress.{Progress, literal_read, stopped, then_read}
use Rattle.chrono_pattern.specs.Reads.{end_read, front_read, read_from, text_read}
use Rattle.chrono_pattern.specs.SubsecondReads.{subsecond_read}
use Rattle.chrono_pattern.specs.TextPieces.{Both, InRow, IsByte, Reads, ReadsBetween, ReadsFront, ReadsGroup, ReadsIso, ReadsItem, ReadsSigned, ReadsSimple, ReadsSubsecond, ReadsUtc, ReadsZoned, clock_items, group_items, usual}
use Rattle.chrono_pattern.specs.WordReads.{word_read}
use Rattle.chrono_pattern.specs.declared.error.ReadFault.TheVariants.{Invalid, TooLong}
use Rattle.chrono_pattern.specs.declared.item.GroupField.{GroupField}
use Rattle.chrono_pattern.specs.declared.item.GroupField.TheVariants.{YearMonthDay, MonthDayYear, HourMinute, HourMinuteSecond, HalfClock, DayMonthYear, DateAndTime}
use Rattle.chrono_pattern.specs.declared.item.Item.{Item}
use Rattle.chrono_pattern.specs.declared.item.Item.TheVariants.{Empty, Byte, Number, Word, Group, Subsecond, Zoned}
use Rattle.chrono_pattern.specs.declared.item.NumberField.{NumberField}
use Rattle.chrono_pattern.specs.declared.item.NumberField.TheVariants.{Year, YearOfCentury, Month, Day, SpacedDay, Hour, HalfHour, Minute, Second}
use Rattle.chrono_pattern.specs.declared.item.OffsetForm.TheVariants.{Colon}
use Rattle.chrono_pattern.specs.declared.item.State.{State}
use Rattle.chrono_pattern.specs.declared.item.State.TheVariants.{Outside}
use Rattle.chrono_pattern.specs.declared.item.WordField.{WordField}
use Rattle.chrono_pattern.specs.declared.item.WordField.TheVariants.{MonthLetters, WeekdayLetters, Half}
use Rattle.chrono_pattern.specs.declared.item.ZonedField.{ZonedField}
use Rattle.chrono_pattern.specs.declared.item.ZonedField.TheVariants.{Offset, ZoneName, Stamp, Iso8601}
use Rattle.chrono_pattern.specs.declared.parsed.Parsed.{Parsed}
use Rattle.chrono_pattern.specs.declared.stop.Stop.{Stop}
use Rattle.chrono_pattern.proofs.OffsetExact.{no_answer, no_bytes, same_byte}
use Rattle.chrono_pattern.proofs.OffsetPieces.{iso_offset_exact, name_exact, offset_exact, stamp_exact}
use Rattle.chrono_pattern.proofs.PieceExact.{Exact, literal_exact, number_exact, subsecond_exact, word_exact}
use Rattle.chrono_pattern.proofs.ReadLemmas.{behind_item, read_from-more, read_from-none, read_from-nothing}

-- ---- one piece behind another

abbrev Piece : Type 1
Piece = Progress → Progress → Type 0

abbrev Reader : Type 0
Reader = Progress → Result Progress Stop

both_is : (g : Reader) (R S : Piece) → Exact g S → (r q : Progress) → (o : Result Progress Stop) → ((mid : Progress) → o ≡ Ok mid → R r mid)
    → then_read o g ≡ Ok q → Both R S r q
both_is g R S second r q (Err e) first h = no_answer _ _ h
both_is g R S second r q (Ok mid) first h = record { between = mid; first = first mid refl; second = (second mid q).0 h }

both_exact : (f g : Reader) (R S : Piece) → Exact f R → Exact g S → Exact (λ r. then_read (f r) g) (Both R S)
both_exact f g R S first second r q = (
  both_is g R S second r q (f r) (λ mid. (first r mid).0),
  λ (is : Both R S r q). ap (λ (o : Result Progress Stop). then_read o g) ((first r is.between).1 is.first) ∙ (second is.between q).1 is.second,
)

-- ---- rows

abbrev Row : List Item → Piece
Row items = InRow ReadsSimple items

joined : (a b : List Item) (r mid q : Progress) → Row a r mid → Row b mid q → Row (a ++ b) r q
joined [] b r mid q first second = subst (λ (s : Progress). Row b s q) first second
joined (item ∷ a) b r mid q first second = record { between = first.between; first = first.first; second = joined a b first.between mid q first.second second }

parted : (a b : List Item) (r q : Progress) → Row (a ++ b) r q → Both (Row a) (Row b) r q
parted [] b r q row = record { between = r; first = refl; second = row }
parted (item ∷ a) b r q row =
    let behind = parted a b row.between q row.second in
    record { between = behind.between; first = record { between = row.between; first = row.first; second = behind.first }; second = behind.second }

one : (f : Reader) (item : Item) → Exact f (ReadsSimple item) → Exact f (Row (item ∷ []))
one f item exact r q = (
  λ h. record { between = q; first = (exact r q).0 h; second = refl },
  λ (row : Row (item ∷ []) r q). (exact r q).1 (subst (λ (s : Progress). ReadsSimple item r s) (sym row.second) row.first),
)

join : (f g : Reader) (a b : List Item) → Exact f (Row a) → Exact g (Row b) → Exact (λ r. then_read (f r) g) (Row (a ++ b))
join f g a b first second r q =
    let both = both_exact f g (Row a) (Row b) first second r q in (
      λ h. let is = both.0 h in joined a b r is.between q is.first is.second,
      λ (row : Row (a ++ b) r q). both.1 (parted a b r q row),
    )

-- ---- groups

number_row : (field : NumberField) → Exact (number_read field) (Row (usual field ∷ []))
number_row field = one (number_read field) (usual field) (number_exact field)

word_row : (word : WordField) → Exact (word_read word) (Row (Word word ∷ []))
word_row word = one (word_read word) (Word word) (word_exact word)

byte_row : (c : ℕ) → Exact (literal_read c) (Row (Byte c ∷ []))
byte_row c = one (literal_read c) (Byte c) (literal_exact c)

behind_row : (c : ℕ) (field : NumberField) → Exact (behind_read c field) (Row (Byte c ∷ usual field ∷ []))
behind_row c field = join (literal_read c) (number_read field) (Byte c ∷ []) (usual field ∷ []) (byte_row c) (number_row field)

word_behind_row : (c : ℕ) (word : WordField) → Exact (word_behind_read c word) (Row (Byte c ∷ Word word ∷ []))
word_behind_row c word = join (literal_read c) (word_read word) (Byte c ∷ []) (Word word ∷ []) (byte_row c) (word_row word)

two_row : (first : NumberField) (c : ℕ) (second : NumberField) → Exact (two_read first c second) (Row (usual first ∷ Byte c ∷ usual second ∷ []))
two_row first c second = join (number_read first) (behind_read c second) (usual first ∷ []) (Byte c ∷ usual second ∷ []) (number_row first) (behind_row c second)

three_row : (first : NumberField) (c : ℕ) (second third : NumberField)
    → Exact (three_read first c second third) (Row (usual first ∷ Byte c ∷ usual second ∷ Byte c ∷ usual third ∷ []))
three_row first c second third =
    join (two_read first c second) (behind_read c third) (usual first ∷ Byte c ∷ usual second ∷ []) (Byte c ∷ usual third ∷ []) (two_row first c second) (behind_row c third)

half_clock_row : Exact half_clock_read (Row (group_items HalfClock))
half_clock_row =
    join (three_read HalfHour 58 Minute Second) (word_behind_read 32 Half) (clock_items HalfHour) (Byte 32 ∷ Word Half ∷ []) (three_row HalfHour 58 Minute Second)
    (word_behind_row 32 Half)

short_date_row : Exact short_date_read (Row (group_items DayMonthYear))
short_date_row =
    join (λ r. then_read (number_read SpacedDay r) (word_behind_read 45 MonthLetters)) (behind_read 45 Year)
    (usual SpacedDay ∷ Byte 45 ∷ Word MonthLetters ∷ []) (Byte 45 ∷ usual Year ∷ [])
    (join (number_read SpacedDay) (word_behind_read 45 MonthLetters) (usual SpacedDay ∷ []) (Byte 45 ∷ Word MonthLetters ∷ []) (number_row SpacedDay)
    (word_behind_row 45 MonthLetters))
    (behind_row 45 Year)

abbrev day_items : List Item
day_items = Word WeekdayLetters ∷ Byte 32 ∷ Word MonthLetters ∷ Byte 32 ∷ usual SpacedDay ∷ []

day_row : Exact day_read (Row day_items)
day_row =
    join (λ r. then_read (word_read WeekdayLetters r) (word_behind_read 32 MonthLetters)) (behind_read 32 SpacedDay)
    (Word WeekdayLetters ∷ Byte 32 ∷ Word MonthLetters ∷ []) (Byte 32 ∷ usual SpacedDay ∷ [])
    (join (word_read WeekdayLetters) (word_behind_read 32 MonthLetters) (Word WeekdayLetters ∷ []) (Byte 32 ∷ Word MonthLetters ∷ []) (word_row WeekdayLetters)
    (word_behind_row 32 MonthLetters))
    (behind_row 32 SpacedDay)

abbrev hour_minute : Reader
hour_minute r = then_read (behind_read 32 Hour r) (behind_read 58 Minute)

abbrev clock : Reader
clock r = then_read (hour_minute r) (behind_read 58 Second)

clock_year_row : Exact clock_year_read (Row (Byte 32 ∷ (clock_items Hour ++ Byte 32 ∷ usual Year ∷ [])))
clock_year_row =
    join clock (behind_read 32 Year) (Byte 32 ∷ clock_items Hour) (Byte 32 ∷ usual Year ∷ [])
    (join hour_minute (behind_read 58 Second) (Byte 32 ∷ usual Hour ∷ Byte 58 ∷ usual Minute ∷ []) (Byte 58 ∷ usual Second ∷ [])
    (join (behind_read 32 Hour) (behind_read 58 Minute) (Byte 32 ∷ usual Hour ∷ []) (Byte 58 ∷ usual Minute ∷ []) (behind_row 32 Hour) (behind_row 58 Minute))
    (behind_row 58 Second))
    (behind_row 32 Year)

group_exact : (group : GroupField) → Exact (group_read group) (ReadsGroup group)
unfolding group_read
group_exact YearMonthDay = three_row Year 45 Month Day
group_exact MonthDayYear = three_row Month 47 Day YearOfCentury
group_exact HourMinute = two_row Hour 58 Minute
group_exact HourMinuteSecond = three_row Hour 58 Minute Second
group_exact HalfClock = half_clock_row
group_exact DayMonthYear = short_date_row
group_exact DateAndTime = join day_read clock_year_read day_items (Byte 32 ∷ (clock_items Hour ++ Byte 32 ∷ usual Year ∷ [])) day_row clock_year_row

-- ---- RFC 3339

byte_here : (k c : ℕ) (text : List ℕ) (p : Parsed) (q : Progress) → (c == k) ≡ true → ◌≡◌ {A = Result Progress Stop} (Ok (at_rest text p)) (Ok q) → IsByte k (at_rest (c ∷ text) p) q
byte_here k c text p q e h =
    let same = same_Ok _ _ h in
    record { written = ap (λ (j : ℕ). j ∷ text) (same_byte c k e) ∙ ap (λ (s : Progress). k ∷ s.rest) same; same = sym (ap (λ (s : Progress). s.parsed) same) }

between_by : (c : ℕ) (text : List ℕ) (p : Parsed) (q : Progress) → (a b d : Bool) → (c == 84) ≡ a → (c == 116) ≡ b → (c == 32) ≡ d
    → (if a || b || d then Ok (at_rest text p) else Err (stopped Invalid (c ∷ text))) ≡ Ok q → ReadsBetween (at_rest (c ∷ text) p) q
between_by c text p q true b d x y z h = inl (byte_here 84 c text p q x h)
between_by c text p q false true d x y z h = inr (inl (byte_here 116 c text p q y h))
between_by c text p q false false true x y z h = inr (inr (byte_here 32 c text p q z h))
between_by c text p q false false false x y z h = no_answer _ _ h

between_is : (text : List ℕ) (p : Parsed) (q : Progress) → between_behind text p ≡ Ok q → ReadsBetween (at_rest text p) q
between_is [] p q h = no_answer _ _ h
between_is (c ∷ text) p q h = between_by c text p q (c == 84) (c == 116) (c == 32) refl refl refl h

between_back : (r q : Progress) → ReadsBetween r q → between_read r ≡ Ok q
between_back r q (inl is) = ap (λ (l : List ℕ). between_behind l r.parsed) is.written ∙ ap (λ (p : Parsed). Ok (at_rest q.rest p)) (sym is.same)
between_back r q (inr (inl is)) = ap (λ (l : List ℕ). between_behind l r.parsed) is.written ∙ ap (λ (p : Parsed). Ok (at_rest q.rest p)) (sym is.same)
between_back r q (inr (inr is)) = ap (λ (l : List ℕ). between_behind l r.parsed) is.written ∙ ap (λ (p : Parsed). Ok (at_rest q.rest p)) (sym is.same)

between_exact : Exact between_read ReadsBetween
between_exact r q = (between_is r.rest r.parsed q, between_back r q)

abbrev date_between : Reader
date_between r = then_read (group_read YearMonthDay r) between_read

abbrev date_time : Reader
date_time r = then_read (date_between r) (group_read HourMinuteSecond)

abbrev date_fraction : Reader
date_fraction r = then_read (date_time r) (subsecond_read true 0)

abbrev NamedOffset : Piece
NamedOffset r q = ReadsUtc true r q ⊎ ReadsSigned Colon r q

abbrev IsoRow : Piece
IsoRow = Both (Both (Both (Both (ReadsGroup YearMonthDay) ReadsBetween) (ReadsGroup HourMinuteSecond)) (ReadsSubsecond true 0)) NamedOffset

iso_row : Exact (λ r. then_read (date_fraction r) iso_offset_read) IsoRow
iso_row =
    both_exact date_fraction iso_offset_read (Both (Both (Both (ReadsGroup YearMonthDay) ReadsBetween) (ReadsGroup HourMinuteSecond)) (ReadsSubsecond true 0)) NamedOffset
    (both_exact date_time (subsecond_read true 0) (Both (Both (ReadsGroup YearMonthDay) ReadsBetween) (ReadsGroup HourMinuteSecond)) (ReadsSubsecond true 0)
    (both_exact date_between (group_read HourMinuteSecond) (Both (ReadsGroup YearMonthDay) ReadsBetween) (ReadsGroup HourMinuteSecond)
    (both_exact (group_read YearMonthDay) between_read (ReadsGroup YearMonthDay) ReadsBetween (group_exact YearMonthDay) between_exact)
    (group_exact HourMinuteSecond))
    (subsecond_exact true 0))
    iso_offset_exact

iso_of_row : (r q : Progress) → IsoRow r q → ReadsIso r q
iso_of_row r q row =
    let fraction = row.first in
    let time = fraction.first in
    let date = time.first in
    record {
      behind_date = date.between;
      before_time = time.between;
      behind_time = fraction.between;
      before_offset = row.between;
      date = date.first;
      between = date.second;
      time = time.second;
      fraction = fraction.second;
      offset = row.second;
    }

row_of_iso : (r q : Progress) → ReadsIso r q → IsoRow r q
row_of_iso r q is = record {
  between = is.before_offset;
  first = record {
    between = is.behind_time;
    first = record {
      between = is.before_time;
      first = record { between = is.behind_date; first = is.date; second = is.between };
      second = is.time;
    };
    second = is.fraction;
  };
  second = is.offset;
}

iso_exact : Exact iso_read ReadsIso
unfolding iso_read
iso_exact r q = (λ h. iso_of_row r q ((iso_row r q).0 h), λ (is : ReadsIso r q). (iso_row r q).1 (row_of_iso r q is))

-- ---- items

zoned_exact : (field : ZonedField) → Exact (zoned_read field) (ReadsZoned field)
zoned_exact (Offset form) = offset_exact form
zoned_exact ZoneName = name_exact
zoned_exact Stamp = stamp_exact
zoned_exact Iso8601 = iso_exact

item_exact : (item : Item) → Exact (item_read item) (ReadsItem item)
item_exact Empty r q = (λ h. sym (same_Ok _ _ h), λ is. ap (λ (s : Progress). Ok s) (sym is))
item_exact (Byte c) r q = literal_exact c r q
item_exact (Number field padding) r q = number_exact field r q
item_exact (Word word) r q = word_exact word r q
item_exact (Group group) r q = group_exact group r q
item_exact (Subsecond point count) r q = subsecond_exact point count r q
item_exact (Zoned field) r q = zoned_exact field r q

-- ---- patterns

abbrev Items : List Item → Piece
Items items = InRow ReadsItem items

pub items_from-more : (s : State) (c : ℕ) (bytes : List ℕ) (next : State × Item) → pattern_step s c ≡ Some next
    → items_from s (c ∷ bytes) ≡ item_before next.1 (items_from next.0 bytes)
unfolding items_from
items_from-more s c bytes next e =
    ap (λ (o : Option (State × Item)). elim o as (λ _. List Item) [ None ↦ [] | Some n ↦ item_before n.1 (items_from n.0 bytes) ]) e

pub items_from-none : (s : State) (c : ℕ) (bytes : List ℕ) → pattern_step s c ≡ None → items_from s (c ∷ bytes) ≡ []
unfolding items_from
items_from-none s c bytes e = ap (λ (o : Option (State × Item)). elim o as (λ _. List Item) [ None ↦ [] | Some n ↦ item_before n.1 (items_from n.0 bytes) ]) e

pub items_from-nothing : (s : State) → items_from s [] ≡ []
unfolding items_from
items_from-nothing s = refl

before_row : (item : Item) (items : List Item) (r q : Progress) → Both (ReadsItem item) (Items items) r q → Items (item_before item items) r q
before_row Empty items r q row = subst (λ (s : Progress). Items items s q) row.first row.second
before_row (Byte c) items r q row = row
before_row (Number field padding) items r q row = row
before_row (Word word) items r q row = row
before_row (Group group) items r q row = row
before_row (Subsecond point count) items r q row = row
before_row (Zoned field) items r q row = row

row_before : (item : Item) (items : List Item) (r q : Progress) → Items (item_before item items) r q → Both (ReadsItem item) (Items items) r q
row_before Empty items r q row = record { between = r; first = refl; second = row }
row_before (Byte c) items r q row = row
row_before (Number field padding) items r q row = row
row_before (Word word) items r q row = row
row_before (Group group) items r q row = row
row_before (Subsecond point count) items r q row = row
row_before (Zoned field) items r q row = row

abbrev FromExact : List ℕ → Type 0
FromExact bytes = (s : State) → Exact (read_from s bytes) (Items (items_from s bytes))

nothing_exact : (r q : Progress) (o : Result Progress Stop) (items : List Item) → o ≡ Ok r → items ≡ [] → (o ≡ Ok q → Items items r q) × (Items items r q → o ≡ Ok q)
nothing_exact r q o items is none = (
  λ h. subst (λ (l : List Item). Items l r q) (sym none) (sym (same_Ok _ _ (sym is ∙ h))),
  λ row. let same : q ≡ r = subst (λ (l : List Item). Items l r q) none row in is ∙ ap (λ (t : Progress). Ok t) (sym same),
)

behind_same : (o : Result Progress Stop) (s : State) (bytes : List ℕ) → behind_item o s bytes ≡ then_read o (read_from s bytes)
behind_same (Ok q) s bytes = refl
behind_same (Err e) s bytes = refl

step_exact : (c : ℕ) (bytes : List ℕ) → FromExact bytes → (s : State) (r q : Progress) → (o : Option (State × Item)) → pattern_step s c ≡ o
    → (read_from s (c ∷ bytes) r ≡ Ok q → Items (items_from s (c ∷ bytes)) r q) × (Items (items_from s (c ∷ bytes)) r q → read_from s (c ∷ bytes) r ≡ Ok q)
step_exact c bytes rest s r q None e = nothing_exact r q (read_from s (c ∷ bytes) r) (items_from s (c ∷ bytes)) (read_from-none s c bytes r e) (items_from-none s c bytes e)
step_exact c bytes rest s r q (Some next) e =
    let both = both_exact (item_read next.1) (read_from next.0 bytes) (ReadsItem next.1) (Items (items_from next.0 bytes)) (item_exact next.1) (rest next.0) r q in
    let more = read_from-more s c bytes r next e ∙ behind_same (item_read next.1 r) next.0 bytes in
    let items = items_from-more s c bytes next e in (
      λ h. subst (λ (l : List Item). Items l r q) (sym items) (before_row next.1 (items_from next.0 bytes) r q (both.0 (sym more ∙ h))),
      λ row. more ∙ both.1 (row_before next.1 (items_from next.0 bytes) r q (subst (λ (l : List Item). Items l r q) items row)),
    )

from_exact : (bytes : List ℕ) → FromExact bytes
from_exact [] s r q = nothing_exact r q (read_from s [] r) (items_from s []) (read_from-nothing s r) (items_from-nothing s)
from_exact (c ∷ bytes) s r q = step_exact c bytes (from_exact bytes) s r q (pattern_step s c) refl

-- ---- fronts and whole texts

-- a pattern reads the front of a text exactly if this is pieces in a row
pub front_exact : (bytes text : List ℕ) (parts : Parsed) (rest : List ℕ)
    → (front_read bytes text ≡ Ok (at_rest rest parts) → ReadsFront (pattern_items bytes) text parts rest)
    × (ReadsFront (pattern_items bytes) text parts rest → front_read bytes text ≡ Ok (at_rest rest parts))
front_exact bytes text parts rest = from_exact bytes Outside (at_rest text no_parts) (at_rest rest parts)

end_by : (bytes text : List ℕ) (parts : Parsed) (q : Progress) → front_read bytes text ≡ Ok q → (b : Bool) → (length q.rest == 0) ≡ b
    → (if b then Ok q.parsed else Err (stopped TooLong q.rest)) ≡ Ok parts → Reads (pattern_items bytes) text parts
end_by bytes text parts q is false e h = no_answer _ _ h
end_by bytes text parts q is true e h =
    let row = (from_exact bytes Outside (at_rest text no_parts) q).0 is in
    let end : q ≡ at_rest [] parts = ap (λ (l : List ℕ). at_rest l q.parsed) (no_bytes q.rest e) ∙ ap (λ (p : Parsed). at_rest [] p) (same_Ok _ _ h) in
    subst (λ (t : Progress). Items (pattern_items bytes) (at_rest text no_parts) t) end row

whole_by : (bytes text : List ℕ) (parts : Parsed) → (o : Result Progress Stop) → front_read bytes text ≡ o → end_read o ≡ Ok parts → Reads (pattern_items bytes) text parts
whole_by bytes text parts (Err e) is h = no_answer _ _ h
whole_by bytes text parts (Ok q) is h = end_by bytes text parts q is (length q.rest == 0) refl h

-- a pattern reads a text exactly if the text is pieces in a row
pub text_exact : (bytes text : List ℕ) (parts : Parsed) → (text_read bytes text ≡ Ok parts → Reads (pattern_items bytes) text parts)
    × (Reads (pattern_items bytes) text parts → text_read bytes text ≡ Ok parts)
text_exact bytes text parts = (
  λ h. whole_by bytes text parts (front_read bytes text) refl h,
  λ row. ap (λ (o : Result Progress Stop). end_read o) ((from_exact bytes Outside (at_rest text no_parts) (at_rest [] parts)).1 row),
)
