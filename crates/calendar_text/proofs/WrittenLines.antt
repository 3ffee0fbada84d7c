-- Lines that are written, as they are read.
use Rattle.std.proofs.Common.{◌≡◌, ℕ, ◌+◌, ◌-◌, ◌/◌, ◌%◌, ◌<◌, ◌≤◌, ◌==◌, Bool, true, false, inl, inr, List, [], ◌∷◌, ◌++◌, length, take, drop, map, Option, Some, None, ℤ, refl, sym, ap, ap₂, ◌∙◌, arith, append_assoc, append-nil, eq-eqb, ne_eqb}
use Rattle.std.specs.Prelude.{◌⊎◌, ⊤, IfSome, not, ◌&&◌, codes, cond}
use Rattle.std.specs.List.{before_first, list_all, position_or_len, prefix_len}
use Rattle.std.proofs.Math.Seq.{take-length}
use Rattle.std.proofs.Math.Bool.{and-false}
use Rattle.std.proofs.lemmas.Bool.{and_from, and_parts, eqb-true, false≢true, not-true}
use Rattle.chrono_text.specs.Lists.{is_blank, pieces}
use Rattle.calendar_text.specs.Folds.{may_fold_behind, may_stand_behind}
use Rattle.chrono_text.specs.Text.{two_digits}
use Rattle.chrono_text.proofs.ListLemmas.{lacks, none_is, split_at}
use Rattle.chrono_text.proofs.PieceLemmas.{after_sep, before_sep}
use Rattle.chrono_datetime.specs.Days.{day_of, month_of, year_of}
use Rattle.chrono_datetime.specs.Time.{TimeOfDay, hour_of, minute_of, second_of}
use Rattle.chrono_datetime.specs.Moment.{Moment}
use Rattle.chrono_rules.specs.WrittenRules.{basic_date_text}
use Rattle.chrono_rules.proofs.DayTexts.{name_small, year_digits}
use Rattle.calendar_text.specs.CalendarTimes.{CanBeReadBack, HasFourDigits, IsWritableMoment, basic_clock_text, basic_moment_text, calendar_time_text}
use Rattle.calendar_text.specs.Lines.{has_class, head_of, is_of_class, line_value, property_key}
use Rattle.calendar_text.specs.CalendarTexts.{CalendarParts}
use Rattle.calendar_text.specs.WrittenCalendars.{AreWritable, calendar_lines, parameter_text, rule_line, time_line, times_text, zone_in_line}
use Rattle.calendar_text.specs.declared.byte_class.ByteClass.{ByteClass}
use Rattle.calendar_text.specs.declared.byte_class.ByteClass.TheVariants.{Safe, Rule as OfRule}
use Rattle.calendar_text.specs.declared.property.Property.{Property}
use Rattle.calendar_text.specs.declared.property.Property.TheVariants.{Start, Rule, Dates, Exceptions}
use Rattle.calendar_text.specs.declared.calendar_time.CalendarTime.{CalendarTime}
use Rattle.calendar_text.specs.declared.calendar_time.CalendarTime.TheVariants.{Date, Local, Utc}

-- ---- texts that lack a byte

pub lacks_both : (s : ℕ) (a b : List ℕ) → lacks s a ≡ true → lacks s b ≡ true → lacks s (a ++ b) ≡ true
lacks_both s [] b h k = k
lacks_both s (x ∷ xs) b h k =
    let parts = and_parts (not (x == s)) (lacks s xs) h in
    and_from (not (x == s)) (lacks s (xs ++ b)) parts.0 (lacks_both s xs b parts.1 k)

-- ---- digits and bytes of a class

digit_lacks : (s n : ℕ) (rest : List ℕ) → (s < 48) ⊎ (58 ≤ s) → n < 10 → lacks s rest ≡ true → lacks s ((48 + n) ∷ rest) ≡ true
digit_lacks s n rest (inl low) small h = and_from (not ((48 + n) == s)) (lacks s rest) (ap not (ne_eqb (48 + n) s (λ e. absurd (omega (arith, e, low))))) h
digit_lacks s n rest (inr high) small h = and_from (not ((48 + n) == s)) (lacks s rest) (ap not (ne_eqb (48 + n) s (λ e. absurd (omega (arith, e, high, small))))) h

pub two_lack : (s n : ℕ) → (s < 48) ⊎ (58 ≤ s) → n < 100 → lacks s (two_digits n) ≡ true
two_lack s n out small = digit_lacks s (n / 10) ((48 + n % 10) ∷ []) out (omega (arith, small)) (digit_lacks s (n % 10) [] out (omega arith) refl)

date_lacks : (s : ℕ) (d : ℤ) → (s < 48) ⊎ (58 ≤ s) → HasFourDigits d → lacks s (basic_date_text d) ≡ true
date_lacks s d out (low, high) =
    let year = year_digits (year_of d) low high in
    let size = name_small d in
    let k = year.0 in
    let few = year.2 in
    ap (λ text. lacks s ((text ++ two_digits (month_of d)) ++ two_digits (day_of d))) year.3
    ∙ lacks_both s ((two_digits (k / 100) ++ two_digits (k % 100)) ++ two_digits (month_of d)) (two_digits (day_of d))
    (lacks_both s (two_digits (k / 100) ++ two_digits (k % 100)) (two_digits (month_of d))
    (lacks_both s (two_digits (k / 100)) (two_digits (k % 100)) (two_lack s (k / 100) out (omega (arith, few))) (two_lack s (k % 100) out (omega arith)))
    (two_lack s (month_of d) out size.0))
    (two_lack s (day_of d) out size.1)

clock_lacks : (s : ℕ) (t : TimeOfDay) → (s < 48) ⊎ (58 ≤ s) → t.second < 86_400 → lacks s (basic_clock_text t) ≡ true
clock_lacks s t out small =
    lacks_both s (two_digits (hour_of t) ++ two_digits (minute_of t)) (two_digits (second_of t))
    (lacks_both s (two_digits (hour_of t)) (two_digits (minute_of t)) (two_lack s (hour_of t) out (omega (arith, small))) (two_lack s (minute_of t) out (omega arith)))
    (two_lack s (second_of t) out (omega arith))

moment_lacks : (s : ℕ) (m : Moment) → (s < 48) ⊎ (58 ≤ s) → (s == 84) ≡ false → IsWritableMoment m → lacks s (basic_moment_text m) ≡ true
moment_lacks s m out other is =
    lacks_both s (basic_date_text m.date) (84 ∷ basic_clock_text m.time) (date_lacks s m.date out is.date)
    (and_from (not (84 == s)) (lacks s (basic_clock_text m.time)) (ap not (flip s 84 other)) (clock_lacks s m.time out is.second))
  where
    flip : (a b : ℕ) → (a == b) ≡ false → (b == a) ≡ false
    flip a b e = ne_eqb b a (λ same. absurd (false≢true (sym e ∙ eq-eqb a b (sym same))))

-- a time lacks a byte that is neither a digit nor one of its letters
pub time_lacks : (s : ℕ) (t : CalendarTime) → (s < 48) ⊎ (58 ≤ s) → (s == 84) ≡ false → (90 == s) ≡ false → CanBeReadBack t → lacks s (calendar_time_text t) ≡ true
unfolding calendar_time_text CanBeReadBack
time_lacks s (Date d) out t z is = date_lacks s d out is
time_lacks s (Local m) out t z is = moment_lacks s m out t is
time_lacks s (Utc m) out t z is =
    lacks_both s (basic_moment_text m) (90 ∷ []) (moment_lacks s m out t is) (and_from (not (90 == s)) true (ap not z) refl)

-- a text of a class lacks a byte that is not of the class
class_first : (class : ByteClass) (s b : ℕ) (bs : List ℕ) → has_class class s ≡ false → (prefix_len (has_class class) bs ≡ length bs → lacks s bs ≡ true)
    → (t : Bool) → has_class class b ≡ t → cond t (1 + prefix_len (has_class class) bs) 0 ≡ 1 + length bs → lacks s (b ∷ bs) ≡ true
class_first class s b bs out rest false is all = absurd (omega (arith, all))
class_first class s b bs out rest true is all =
    and_from (not (b == s)) (lacks s bs) (ap not (ne_eqb b s (λ e. absurd (false≢true (sym out ∙ ap (has_class class) (sym e) ∙ is))))) (rest (omega (arith, all)))

class_lacks_all : (class : ByteClass) (s : ℕ) (text : List ℕ) → has_class class s ≡ false → prefix_len (has_class class) text ≡ length text → lacks s text ≡ true
class_lacks_all class s [] out all = refl
class_lacks_all class s (b ∷ bs) out all =
    class_first class s b bs out (class_lacks_all class s bs out) (has_class class b) refl (all ∙ omega arith)

pub class_lacks : (class : ByteClass) (s : ℕ) (text : List ℕ) → has_class class s ≡ false → is_of_class class text ≡ true → lacks s text ≡ true
class_lacks class s text out is =
    let parts = and_parts (not (length text == 0)) (prefix_len (has_class class) text == length text) is in
    class_lacks_all class s text out (eqb-true _ _ parts.1)

-- ---- lines, each with a line feed behind it

abbrev pub terminated : List (List ℕ) → List ℕ
terminated [] = []
terminated (l ∷ ls) = l ++ 10 ∷ terminated ls

terminated_both : (a b : List (List ℕ)) → terminated (a ++ b) ≡ terminated a ++ terminated b
terminated_both [] b = refl
terminated_both (l ∷ ls) b = ap (λ r. l ++ 10 ∷ r) (terminated_both ls b) ∙ sym (append_assoc l (10 ∷ terminated ls) (terminated b))

pub pieces_terminated : (ls : List (List ℕ)) → list_all (lacks 10) ls ≡ true → pieces 10 (terminated ls) ≡ ls ++ [] ∷ []
pieces_terminated [] h = refl
pieces_terminated (l ∷ ls) h =
    let parts = and_parts (lacks 10 l) (list_all (lacks 10) ls) h in
    split_at (λ b. b == 10) l 10 (terminated ls) (none_is 10 l parts.0) refl ∙ ap (λ ps. l ∷ ps) (pieces_terminated ls parts.1)

-- ---- what is written, as lines

-- what stands between the name of a property and the colon
abbrev pub suffix_of : Option (List ℕ) → CalendarTime → List ℕ
suffix_of zone (Date d) = codes ";VALUE=DATE"
suffix_of None (Local m) = []
suffix_of (Some name) (Local m) = codes ";TZID=" ++ name
suffix_of zone (Utc m) = []

abbrev pub head_text : Property → Option (List ℕ) → CalendarTime → List ℕ
head_text p zone t = property_key p ++ suffix_of zone t

abbrev pub body : Property → Option (List ℕ) → CalendarTime → List ℕ
body p zone t = head_text p zone t ++ 58 ∷ calendar_time_text t

line_is : (p : Property) (zone : Option (List ℕ)) (t : CalendarTime) → time_line p zone t ≡ body p zone t ++ 10 ∷ []
unfolding time_line parameter_text zone_in_line
line_is p None (Date d) = sym (append_assoc (property_key p ++ codes ";VALUE=DATE") (58 ∷ calendar_time_text (Date d)) (10 ∷ []))
line_is p (Some name) (Date d) = sym (append_assoc (property_key p ++ codes ";VALUE=DATE") (58 ∷ calendar_time_text (Date d)) (10 ∷ []))
line_is p None (Local m) = sym (append_assoc (property_key p ++ []) (58 ∷ calendar_time_text (Local m)) (10 ∷ []))
line_is p (Some name) (Local m) =
    let key = property_key p in
    let rest = (58 ∷ calendar_time_text (Local m)) ++ 10 ∷ [] in
    sym (append_assoc (key ++ (codes ";TZID=" ++ name)) (58 ∷ calendar_time_text (Local m)) (10 ∷ [])
    ∙ ap (λ a. a ++ rest) (sym (append_assoc key (codes ";TZID=") name)) ∙ append_assoc (key ++ codes ";TZID=") name rest)
line_is p None (Utc m) = sym (append_assoc (property_key p ++ []) (58 ∷ calendar_time_text (Utc m)) (10 ∷ []))
line_is p (Some name) (Utc m) = sym (append_assoc (property_key p ++ []) (58 ∷ calendar_time_text (Utc m)) (10 ∷ []))

times_are : (p : Property) (zone : Option (List ℕ)) (ts : List CalendarTime) → times_text p zone ts ≡ terminated (map (body p zone) ts)
times_are p zone [] = refl
times_are p zone (t ∷ ts) =
    ap (λ l. l ++ times_text p zone ts) (line_is p zone t) ∙ append_assoc (body p zone t) (10 ∷ []) (times_text p zone ts)
    ∙ ap (λ r. body p zone t ++ 10 ∷ r) (times_are p zone ts)

abbrev pub rule_bodies : Option (List ℕ) → List (List ℕ)
rule_bodies None = []
rule_bodies (Some rule) = (codes "RRULE:" ++ rule) ∷ []

rule_is : (rule : Option (List ℕ)) → rule_line rule ≡ terminated (rule_bodies rule)
unfolding rule_line
rule_is None = refl
rule_is (Some rule) = refl

abbrev pub lists_of : CalendarParts → List (List ℕ)
lists_of c = map (body Dates c.zone) c.dates ++ map (body Exceptions c.zone) c.exceptions

abbrev pub bodies : CalendarParts → List (List ℕ)
bodies c = body Start c.zone c.start ∷ (rule_bodies c.rule ++ lists_of c)

pub lines_are : (c : CalendarParts) → calendar_lines c ≡ terminated (bodies c)
unfolding calendar_lines
lines_are c =
    let start = body Start c.zone c.start in
    let rule = terminated (rule_bodies c.rule) in
    let dates = map (body Dates c.zone) c.dates in
    let exceptions = map (body Exceptions c.zone) c.exceptions in
    ap₂ ◌++◌ (ap₂ ◌++◌ (line_is Start c.zone c.start) (rule_is c.rule)) (ap₂ ◌++◌ (times_are Dates c.zone c.dates) (times_are Exceptions c.zone c.exceptions))
    ∙ append_assoc (start ++ 10 ∷ []) rule (terminated dates ++ terminated exceptions)
    ∙ append_assoc start (10 ∷ []) (rule ++ (terminated dates ++ terminated exceptions))
    ∙ ap (λ r. start ++ 10 ∷ r) (sym (terminated_both (rule_bodies c.rule) (dates ++ exceptions) ∙ ap (λ x. rule ++ x) (terminated_both dates exceptions)))

-- ---- a line with a time

abbrev pub ZoneFits : Option (List ℕ) → Type 0
ZoneFits zone = IfSome zone (λ name. is_of_class Safe name ≡ true)

suffix_lacks : (s : ℕ) (zone : Option (List ℕ)) (t : CalendarTime) → has_class Safe s ≡ false → lacks s (codes ";VALUE=DATE") ≡ true → lacks s (codes ";TZID=") ≡ true → ZoneFits zone → lacks s (suffix_of zone t) ≡ true
suffix_lacks s zone (Date d) out value mark fits = value
suffix_lacks s None (Local m) out value mark fits = refl
suffix_lacks s (Some name) (Local m) out value mark fits = lacks_both s (codes ";TZID=") name mark (class_lacks Safe s name out fits)
suffix_lacks s zone (Utc m) out value mark fits = refl

key_lacks_colon : (p : Property) → lacks 58 (property_key p) ≡ true
unfolding property_key
key_lacks_colon Start = refl
key_lacks_colon Rule = refl
key_lacks_colon Dates = refl
key_lacks_colon Exceptions = refl

key_lacks_feed : (p : Property) → lacks 10 (property_key p) ≡ true
unfolding property_key
key_lacks_feed Start = refl
key_lacks_feed Rule = refl
key_lacks_feed Dates = refl
key_lacks_feed Exceptions = refl

pub key_lacks_mark : (p : Property) → lacks 59 (property_key p) ≡ true
unfolding property_key
key_lacks_mark Start = refl
key_lacks_mark Rule = refl
key_lacks_mark Dates = refl
key_lacks_mark Exceptions = refl

pub head_lacks : (p : Property) (zone : Option (List ℕ)) (t : CalendarTime) → ZoneFits zone → lacks 58 (head_text p zone t) ≡ true
unfolding has_class
head_lacks p zone t fits = lacks_both 58 (property_key p) (suffix_of zone t) (key_lacks_colon p) (suffix_lacks 58 zone t refl refl refl fits)

pub body_lacks : (p : Property) (zone : Option (List ℕ)) (t : CalendarTime) → ZoneFits zone → CanBeReadBack t → lacks 10 (body p zone t) ≡ true
unfolding has_class
body_lacks p zone t fits is =
    lacks_both 10 (head_text p zone t) (58 ∷ calendar_time_text t)
    (lacks_both 10 (property_key p) (suffix_of zone t) (key_lacks_feed p) (suffix_lacks 10 zone t refl refl refl fits))
    (time_lacks 10 t (inl (omega arith)) refl refl is)

pub head_is : (p : Property) (zone : Option (List ℕ)) (t : CalendarTime) → ZoneFits zone → head_of (body p zone t) ≡ head_text p zone t
head_is p zone t fits = before_sep 58 (head_text p zone t) (calendar_time_text t) (head_lacks p zone t fits)

pub value_is : (p : Property) (zone : Option (List ℕ)) (t : CalendarTime) → ZoneFits zone → line_value (body p zone t) ≡ calendar_time_text t
value_is p zone t fits = after_sep 58 (head_text p zone t) (calendar_time_text t) (head_lacks p zone t fits)

-- a head whose parameters stand behind a semicolon, or that has none
none_before : (s : ℕ) (a : List ℕ) → lacks s a ≡ true → position_or_len (λ x. x == s) a ≡ length a
none_before s [] h = refl
none_before s (x ∷ xs) h =
    let parts = and_parts (not (x == s)) (lacks s xs) h in
    ap (λ (t : Bool). cond t (1 + prefix_len (λ x. not (x == s)) xs) 0) parts.0 ∙ ap (λ n. 1 + n) (none_before s xs parts.1) ∙ omega arith

whole_name : (key : List ℕ) → lacks 59 key ≡ true → before_first (λ x. x == 59) (key ++ []) ≡ key
whole_name key lack = ap (before_first (λ x. x == 59)) (append-nil key) ∙ ap (λ n. take n key) (none_before 59 key lack) ∙ take-length key

pub name_is : (p : Property) (zone : Option (List ℕ)) (t : CalendarTime) → before_first (λ x. x == 59) (head_text p zone t) ≡ property_key p
name_is p zone (Date d) = before_sep 59 (property_key p) (codes "VALUE=DATE") (key_lacks_mark p)
name_is p None (Local m) = whole_name (property_key p) (key_lacks_mark p)
name_is p (Some name) (Local m) = before_sep 59 (property_key p) (codes "TZID=" ++ name) (key_lacks_mark p)
name_is p zone (Utc m) = whole_name (property_key p) (key_lacks_mark p)

-- ---- a text that may be folded

key_lacks_return : (p : Property) → lacks 13 (property_key p) ≡ true
unfolding property_key
key_lacks_return Start = refl
key_lacks_return Rule = refl
key_lacks_return Dates = refl
key_lacks_return Exceptions = refl

body_lacks_return : (p : Property) (zone : Option (List ℕ)) (t : CalendarTime) → ZoneFits zone → CanBeReadBack t → lacks 13 (body p zone t) ≡ true
unfolding has_class
body_lacks_return p zone t fits is =
    lacks_both 13 (head_text p zone t) (58 ∷ calendar_time_text t)
    (lacks_both 13 (property_key p) (suffix_of zone t) (key_lacks_return p) (suffix_lacks 13 zone t refl refl refl fits))
    (time_lacks 13 t (inl (omega arith)) refl refl is)

-- within a line
goes_on : (before : ℕ) (l rest : List ℕ) → (before == 10) ≡ false → lacks 13 l ≡ true → lacks 10 l ≡ true → may_fold_behind 10 rest ≡ true → may_fold_behind before (l ++ 10 ∷ rest) ≡ true
goes_on before [] rest other return feed ok = ok
goes_on before (b ∷ bs) rest other return feed ok =
    let returns = and_parts (not (b == 13)) (lacks 13 bs) return in
    let feeds = and_parts (not (b == 10)) (lacks 10 bs) feed in
    and_from (may_stand_behind before b) (may_fold_behind b (bs ++ 10 ∷ rest))
    (and_from (not (b == 13)) (not (is_blank b && (before == 10))) returns.0 (ap (λ (t : Bool). not (is_blank b && t)) other ∙ ap not (and-false (is_blank b))))
    (goes_on b bs rest (not-true (b == 10) feeds.0) returns.1 feeds.1 ok)

-- a line may stand in front of others
abbrev pub MayStand : List ℕ → Type 0
MayStand l = (rest : List ℕ) → may_fold_behind 10 rest ≡ true → may_fold_behind 10 (l ++ 10 ∷ rest) ≡ true

line_stands : (b : ℕ) (bs : List ℕ) → may_stand_behind 10 b ≡ true → lacks 13 (b ∷ bs) ≡ true → lacks 10 (b ∷ bs) ≡ true → MayStand (b ∷ bs)
line_stands b bs first return feed rest ok =
    let returns = and_parts (not (b == 13)) (lacks 13 bs) return in
    let feeds = and_parts (not (b == 10)) (lacks 10 bs) feed in
    and_from (may_stand_behind 10 b) (may_fold_behind b (bs ++ 10 ∷ rest)) first (goes_on b bs rest (not-true (b == 10) feeds.0) returns.1 feeds.1 ok)

body_stands : (p : Property) (zone : Option (List ℕ)) (t : CalendarTime) → lacks 13 (body p zone t) ≡ true → lacks 10 (body p zone t) ≡ true → MayStand (body p zone t)
unfolding property_key
body_stands Start zone t return feed = line_stands 68 (drop 1 (body Start zone t)) refl return feed
body_stands Rule zone t return feed = line_stands 82 (drop 1 (body Rule zone t)) refl return feed
body_stands Dates zone t return feed = line_stands 82 (drop 1 (body Dates zone t)) refl return feed
body_stands Exceptions zone t return feed = line_stands 69 (drop 1 (body Exceptions zone t)) refl return feed

-- lines that lack line breaks, and may stand in front of others
pub record IsLine (l : List ℕ) : Type 0 where
  pub feed : lacks 10 l ≡ true
  pub stands : MayStand l

abbrev pub AreLines : List (List ℕ) → Type 0
AreLines [] = ⊤
AreLines (l ∷ ls) = IsLine l × AreLines ls

pub lines_both : (a b : List (List ℕ)) → AreLines a → AreLines b → AreLines (a ++ b)
lines_both [] b h k = k
lines_both (l ∷ ls) b h k = (h.0, lines_both ls b h.1 k)

pub lines_lack : (ls : List (List ℕ)) → AreLines ls → list_all (lacks 10) ls ≡ true
lines_lack [] h = refl
lines_lack (l ∷ ls) h = and_from (lacks 10 l) (list_all (lacks 10) ls) h.0.feed (lines_lack ls h.1)

pub lines_fold : (ls : List (List ℕ)) → AreLines ls → may_fold_behind 10 (terminated ls) ≡ true
lines_fold [] h = refl
lines_fold (l ∷ ls) h = h.0.stands (terminated ls) (lines_fold ls h.1)

pub body_line : (p : Property) (zone : Option (List ℕ)) (t : CalendarTime) → ZoneFits zone → CanBeReadBack t → IsLine (body p zone t)
body_line p zone t fits is =
    let feed = body_lacks p zone t fits is in
    record { feed = feed; stands = body_stands p zone t (body_lacks_return p zone t fits is) feed }

pub times_lines : (p : Property) (zone : Option (List ℕ)) (start : CalendarTime) (ts : List CalendarTime) → ZoneFits zone → AreWritable start ts → AreLines (map (body p zone) ts)
times_lines p zone start [] fits is = tt
times_lines p zone start (t ∷ ts) fits is = (body_line p zone t fits is.0, times_lines p zone start ts fits is.2)

rule_line_is : (rule : List ℕ) → is_of_class OfRule rule ≡ true → IsLine (codes "RRULE:" ++ rule)
unfolding has_class
rule_line_is rule fits =
    let feed = lacks_both 10 (codes "RRULE:") rule refl (class_lacks OfRule 10 rule refl fits) in
    let return = lacks_both 13 (codes "RRULE:") rule refl (class_lacks OfRule 13 rule refl fits) in
    record { feed = feed; stands = line_stands 82 (codes "RULE:" ++ rule) refl return feed }

pub rule_lines : (rule : Option (List ℕ)) → IfSome rule (λ r. is_of_class OfRule r ≡ true) → AreLines (rule_bodies rule)
rule_lines None fits = tt
rule_lines (Some rule) fits = (rule_line_is rule fits, tt)
