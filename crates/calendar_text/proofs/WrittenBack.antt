-- What is written of a calendar is read as the same parts.
use Rattle.std.proofs.Common.{◌≡◌, ℕ, ◌+◌, ◌==◌, Bool, true, false, inl, List, [], ◌∷◌, ◌++◌, length, map, Option, Some, None, Result, Ok, Err, refl, sym, ap, ap₂, ◌∙◌, arith, append_assoc, append-nil, eq-eqb, ne_eqb}
use Rattle.std.specs.Prelude.{⊤, IfSome, codes, if◌then◌else◌, find}
use Rattle.std.specs.List.{after_first, before_first, filter_map, prefix_len}
use Rattle.std.specs.Option.{option_and_then, option_map}
use Rattle.std.specs.Str.{str_eq_ignore_ascii_case}
use Rattle.std.proofs.lemmas.Bool.{and_from, false≢true}
use Rattle.std.proofs.lemmas.List.{length-append}
use Rattle.std.proofs.Math.Path.{subst}
use Rattle.chrono_text.specs.Lists.{pieces, stands_in}
use Rattle.chrono_text.proofs.ListLemmas.{lacks, pieces_end}
use Rattle.chrono_text.proofs.PieceLemmas.{after_sep, before_sep, sep_stands}
use Rattle.calendar_text.specs.CalendarTexts.{CalendarParts, HasParts, IsCalendarText, content_lines, first_line, line_times, lines_read, listed_times, start_read, started, times_of}
use Rattle.calendar_text.specs.CalendarTimes.{CanBeReadBack, calendar_time_text, time_of}
use Rattle.calendar_text.specs.Lines.{checked_time, has_class, head_of, is_line_of, is_local, is_name, is_of_class, kinds_of, line_value, no_parameters, nothing_seen, parameters_read, property_key, property_name, property_of, same_zone, time_fault, time_read, unless_fault, with_line, with_list, with_parameter, with_property, with_rule, with_start, with_time, with_type, with_zone, zone_of, zone_of_parameters, zones_agree}
use Rattle.calendar_text.specs.Reads.{and_then_read, behind, calendar_error_at, placed_through}
use Rattle.calendar_text.specs.WrittenCalendars.{AreWritable, AreWritableParts, calendar_lines, goes_with}
use Rattle.calendar_text.specs.declared.byte_class.ByteClass.TheVariants.{Safe, Rule as OfRule}
use Rattle.calendar_text.specs.declared.calendar_error.CalendarTextError.{CalendarTextError}
use Rattle.calendar_text.specs.declared.calendar_error.CalendarTextFault.TheVariants.{NoColon, NotARule, NotAZoneName, OtherZone}
use Rattle.calendar_text.specs.declared.calendar_time.CalendarTime.{CalendarTime}
use Rattle.calendar_text.specs.declared.calendar_time.CalendarTime.TheVariants.{Date, Local, Utc}
use Rattle.calendar_text.specs.declared.content_line.Seen.{Seen}
use Rattle.calendar_text.specs.declared.parameters.Parameters.{Parameters}
use Rattle.calendar_text.specs.declared.property.Property.{Property}
use Rattle.calendar_text.specs.declared.property.Property.TheVariants.{Start, Rule, Dates, Exceptions}
use Rattle.calendar_text.specs.Folds.{folded, may_fold, may_fold_behind, unfolded}
use Rattle.calendar_text.proofs.FoldBack.{folded_back}
use Rattle.calendar_text.proofs.TimesBack.{time_back}
use Rattle.calendar_text.proofs.WrittenLines.{AreLines, ZoneFits, body_line, lines_both, lines_fold, lines_lack, rule_lines, times_lines, bodies, body, class_lacks, head_is, head_lacks, head_text, key_lacks_mark, lacks_both, lines_are, lists_of, name_is, pieces_terminated, rule_bodies, time_lacks, value_is}

-- ---- parameters

abbrev params_of : Option (List ℕ) → CalendarTime → Parameters
params_of zone (Date d) = record { has_zone = false; has_type = true; is_date = true }
params_of None (Local m) = no_parameters
params_of (Some name) (Local m) = record { has_zone = true; has_type = false; is_date = false }
params_of zone (Utc m) = no_parameters

params_behind : (key x : List ℕ) (q : Parameters) → lacks 59 key ≡ true → lacks 59 x ≡ true → with_parameter no_parameters x ≡ Ok q → parameters_read (key ++ 59 ∷ x) ≡ Ok q
unfolding parameters_read placed_through
params_behind key x q a b is =
    let head = key ++ 59 ∷ x in
    let front = length (before_first (λ x. x == 59) head) + 1 in
    ap (λ (t : Bool). if t then behind front (placed_through with_parameter no_parameters 0 (pieces 59 (after_first (λ x. x == 59) head))) else Ok no_parameters) (sep_stands 59 key x a)
    ∙ ap (λ v. behind front (placed_through with_parameter no_parameters 0 (pieces 59 v))) (after_sep 59 key x a)
    ∙ ap (λ ps. behind front (placed_through with_parameter no_parameters 0 ps)) (pieces_end 59 x b)
    ∙ ap (λ r. behind front (and_then_read (behind 0 r) (λ t. Ok t))) is

zone_behind : (key x : List ℕ) → lacks 59 key ≡ true → lacks 59 x ≡ true → zone_of (key ++ 59 ∷ x) ≡ zone_of_parameters (x ∷ [])
unfolding zone_of
zone_behind key x a b =
    let head = key ++ 59 ∷ x in
    ap (λ (t : Bool). if t then zone_of_parameters (pieces 59 (after_first (λ x. x == 59) head)) else None) (sep_stands 59 key x a)
    ∙ ap (λ v. zone_of_parameters (pieces 59 v)) (after_sep 59 key x a) ∙ ap zone_of_parameters (pieces_end 59 x b)

plain_head : (p : Property) → parameters_read (property_key p ++ []) ≡ Ok no_parameters
unfolding parameters_read property_key
plain_head Start = refl
plain_head Rule = refl
plain_head Dates = refl
plain_head Exceptions = refl

plain_zone : (p : Property) → zone_of (property_key p ++ []) ≡ None
unfolding zone_of property_key
plain_zone Start = refl
plain_zone Rule = refl
plain_zone Dates = refl
plain_zone Exceptions = refl

zone_read : (name : List ℕ) → is_of_class Safe name ≡ true → with_parameter no_parameters (codes "TZID=" ++ name) ≡ Ok (record { has_zone = true; has_type = false; is_date = false })
unfolding with_parameter with_zone
zone_read name fits =
    let zoned : Parameters = record { has_zone = true; has_type = false; is_date = false } in
    ap (λ (t : Bool). if t then Ok zoned else Err (calendar_error_at (5 + prefix_len (has_class Safe) name) NotAZoneName)) fits

date_read : with_parameter no_parameters (codes "VALUE=DATE") ≡ Ok (record { has_zone = false; has_type = true; is_date = true })
unfolding with_parameter with_type
date_read = refl

zone_lacks : (name : List ℕ) → is_of_class Safe name ≡ true → lacks 59 (codes "TZID=" ++ name) ≡ true
unfolding has_class
zone_lacks name fits = lacks_both 59 (codes "TZID=") name refl (class_lacks Safe 59 name refl fits)

params_are : (p : Property) (zone : Option (List ℕ)) (t : CalendarTime) → ZoneFits zone → parameters_read (head_text p zone t) ≡ Ok (params_of zone t)
params_are p zone (Date d) fits = params_behind (property_key p) (codes "VALUE=DATE") _ (key_lacks_mark p) refl date_read
params_are p None (Local m) fits = plain_head p
params_are p (Some name) (Local m) fits = params_behind (property_key p) (codes "TZID=" ++ name) _ (key_lacks_mark p) (zone_lacks name fits) (zone_read name fits)
params_are p zone (Utc m) fits = plain_head p

abbrev zone_used : Option (List ℕ) → CalendarTime → Option (List ℕ)
zone_used zone (Date d) = None
zone_used zone (Local m) = zone
zone_used zone (Utc m) = None

zone_is : (p : Property) (zone : Option (List ℕ)) (t : CalendarTime) → ZoneFits zone → zone_of (head_text p zone t) ≡ zone_used zone t
zone_is p zone (Date d) fits = zone_behind (property_key p) (codes "VALUE=DATE") (key_lacks_mark p) refl
zone_is p None (Local m) fits = plain_zone p
zone_is p (Some name) (Local m) fits = zone_behind (property_key p) (codes "TZID=" ++ name) (key_lacks_mark p) (zone_lacks name fits)
zone_is p zone (Utc m) fits = plain_zone p

-- ---- times

abbrev IsInZone : Bool → CalendarTime → Type 0
IsInZone same (Date d) = ⊤
IsInZone same (Local m) = same ≡ true
IsInZone same (Utc m) = ⊤

time_ok : (zone : Option (List ℕ)) (t : CalendarTime) (same : Bool) → CanBeReadBack t → IsInZone same t → time_read (kinds_of (params_of zone t) same) (calendar_time_text t) ≡ Ok t
unfolding time_read time_fault
time_ok zone (Date d) same is h = ap (checked_time (kinds_of (params_of zone (Date d)) same)) (time_back (Date d) is)
time_ok None (Local m) same is h =
    ap (checked_time (kinds_of no_parameters same)) (time_back (Local m) is) ∙ ap (λ (b : Bool). unless_fault (Local m) (if b then None else Some OtherZone)) h
time_ok (Some name) (Local m) same is h =
    ap (checked_time (kinds_of (params_of (Some name) (Local m)) same)) (time_back (Local m) is) ∙ ap (λ (b : Bool). unless_fault (Local m) (if b then None else Some OtherZone)) h
time_ok zone (Utc m) same is h = ap (checked_time (kinds_of no_parameters same)) (time_back (Utc m) is)

in_own_zone : (t : CalendarTime) → IsInZone true t
in_own_zone (Date d) = tt
in_own_zone (Local m) = refl
in_own_zone (Utc m) = tt

-- ---- a line

property_is : (p : Property) → property_of (property_key p) ≡ Some p
unfolding property_of property_key
property_is Start = refl
property_is Rule = refl
property_is Dates = refl
property_is Exceptions = refl

not_empty : (a : List ℕ) (b : ℕ) (rest : List ℕ) → (length (a ++ b ∷ rest) == 0) ≡ false
not_empty a b rest = ne_eqb (length (a ++ b ∷ rest)) 0 (λ e. absurd (omega (arith, e, length-append a (b ∷ rest))))

line_step : (start : List ℕ) (s : Seen) (p : Property) (zone : Option (List ℕ)) (t : CalendarTime) → ZoneFits zone
    → with_line start s (body p zone t) ≡ with_property start s (head_text p zone t) (calendar_time_text t) (Some p)
unfolding with_line
line_step start s p zone t fits =
    let line = body p zone t in
    let head = head_text p zone t in
    let text = calendar_time_text t in
    let none : Result Seen CalendarTextError = Err (calendar_error_at (length line) NoColon) in
    let read = with_property start s (head_of line) (line_value line) (property_of (property_name line)) in
    ap (λ (b : Bool). if b then Ok s else if stands_in 58 line then read else none) (not_empty head 58 text)
    ∙ ap (λ (b : Bool). if b then read else none) (sep_stands 58 head text (head_lacks p zone t fits))
    ∙ ap (λ h. with_property start s h (line_value line) (property_of (before_first (λ x. x == 59) h))) (head_is p zone t fits)
    ∙ ap (λ v. with_property start s head v (property_of (before_first (λ x. x == 59) head))) (value_is p zone t fits)
    ∙ ap (λ n. with_property start s head text (property_of n)) (name_is p zone t) ∙ ap (with_property start s head text) (property_is p)

pub is_line : (q p : Property) (zone : Option (List ℕ)) (t : CalendarTime) → ZoneFits zone → is_line_of q (body p zone t) ≡ is_name q (property_key p)
is_line q p zone t fits =
    ap (λ h. is_name q (before_first (λ x. x == 59) h)) (head_is p zone t fits) ∙ ap (is_name q) (name_is p zone t)

abbrev seen_start : CalendarTime → Seen
seen_start t = record { start = Some t; has_rule = false }

start_ok : (start : List ℕ) (zone : Option (List ℕ)) (t : CalendarTime) → ZoneFits zone → CanBeReadBack t → with_line start nothing_seen (body Start zone t) ≡ Ok (seen_start t)
unfolding with_property with_start
start_ok start zone t fits is =
    let head = head_text Start zone t in
    let text = calendar_time_text t in
    line_step start nothing_seen Start zone t fits
    ∙ ap (λ r. and_then_read r (λ q. and_then_read (behind (length head + 1) (time_read (kinds_of q true) text)) (λ u. Ok (seen_start u)))) (params_are Start zone t fits)
    ∙ ap (λ r. and_then_read (behind (length head + 1) r) (λ u. Ok (seen_start u))) (time_ok zone t true is (in_own_zone t))

alike_self : (text : List ℕ) → str_eq_ignore_ascii_case text text ≡ true
alike_self [] = refl
alike_self (x ∷ xs) = and_from _ _ (eq-eqb _ _ refl) (alike_self xs)

same_self : (zone : Option (List ℕ)) → same_zone zone zone ≡ true
same_self None = refl
same_self (Some name) = alike_self name

same_used : (zone : Option (List ℕ)) (t : CalendarTime) → is_local (Some t) ≡ true → same_zone zone (zone_used zone t) ≡ true
same_used zone (Date d) is = absurd (false≢true is)
same_used zone (Local m) is = same_self zone
same_used zone (Utc m) is = absurd (false≢true is)

agrees : (p : Property) (zone : Option (List ℕ)) (start t : CalendarTime) → ZoneFits zone → CanBeReadBack start → goes_with start t ≡ true
    → IsInZone (zones_agree (body Start zone start) (head_text p zone t)) t
unfolding zones_agree
agrees p zone start (Date d) fits is goes = tt
agrees p zone start (Local m) fits is goes =
    let line = body Start zone start in
    and_from (is_local (time_of (line_value line))) (same_zone (zone_of (head_text p zone (Local m))) (zone_of (head_of line)))
    (ap (λ v. is_local (time_of v)) (value_is Start zone start fits) ∙ ap is_local (time_back start is) ∙ goes)
    (ap₂ same_zone (zone_is p zone (Local m) fits) (ap zone_of (head_is Start zone start fits) ∙ zone_is Start zone start fits) ∙ same_used zone start goes)
agrees p zone start (Utc m) fits is goes = tt

list_read : (p : Property) (s : Seen) (zone : Option (List ℕ)) (start t : CalendarTime) → ZoneFits zone → CanBeReadBack start → CanBeReadBack t → goes_with start t ≡ true
    → with_list (body Start zone start) s (head_text p zone t) (calendar_time_text t) ≡ Ok s
unfolding with_list with_time placed_through
list_read p s zone start t fits is back goes =
    let line = body Start zone start in
    let head = head_text p zone t in
    let text = calendar_time_text t in
    let same = zones_agree line head in
    let front = length head + 1 in
    ap (λ r. and_then_read r (λ q. and_then_read (behind front (placed_through (with_time (kinds_of q same)) false 0 (pieces 44 text))) (λ b. Ok s))) (params_are p zone t fits)
    ∙ ap (λ ps. and_then_read (behind front (placed_through (with_time (kinds_of (params_of zone t) same)) false 0 ps)) (λ b. Ok s)) (pieces_end 44 text (time_lacks 44 t (inl (omega arith)) refl refl back))
    ∙ ap (λ r. and_then_read (behind front (and_then_read (behind 0 (and_then_read r (λ u. Ok true))) (λ b. Ok b))) (λ b. Ok s)) (time_ok zone t same back (agrees p zone start t fits is goes))

-- a property of a list
abbrev IsList : Property → Type 0
IsList Start = ⊥
IsList Rule = ⊥
IsList Dates = ⊤
IsList Exceptions = ⊤

list_ok : (p : Property) (s : Seen) (zone : Option (List ℕ)) (start t : CalendarTime) → IsList p → ZoneFits zone → CanBeReadBack start → CanBeReadBack t → goes_with start t ≡ true
    → with_line (body Start zone start) s (body p zone t) ≡ Ok s
unfolding with_property
list_ok Start s zone start t list fits is back goes = absurd list
list_ok Rule s zone start t list fits is back goes = absurd list
list_ok Dates s zone start t list fits is back goes = line_step (body Start zone start) s Dates zone t fits ∙ list_read Dates s zone start t fits is back goes
list_ok Exceptions s zone start t list fits is back goes = line_step (body Start zone start) s Exceptions zone t fits ∙ list_read Exceptions s zone start t fits is back goes

-- the lines of a list change nothing
steady : (p : Property) (s : Seen) (zone : Option (List ℕ)) (start : CalendarTime) (ts : List CalendarTime) (rest : List (List ℕ)) → IsList p → ZoneFits zone → CanBeReadBack start → AreWritable start ts
    → ((place : ℕ) → placed_through (with_line (body Start zone start)) s place rest ≡ Ok s) → (place : ℕ) → placed_through (with_line (body Start zone start)) s place (map (body p zone) ts ++ rest) ≡ Ok s
unfolding placed_through
steady p s zone start [] rest list fits is fit ok place = ok place
steady p s zone start (t ∷ ts) rest list fits is fit ok place =
    let line = body Start zone start in
    ap (λ r. and_then_read (behind place r) (λ u. placed_through (with_line line) u (place + length (body p zone t) + 1) (map (body p zone) ts ++ rest))) (list_ok p s zone start t list fits is fit.0 fit.1)
    ∙ steady p s zone start ts rest list fits is fit.2 ok (place + length (body p zone t) + 1)

last_line : (line : List ℕ) (s : Seen) (place : ℕ) → placed_through (with_line line) s place ([] ∷ []) ≡ Ok s
unfolding placed_through with_line
last_line line s place = refl

rule_ok : (line rule : List ℕ) (t : CalendarTime) → is_of_class OfRule rule ≡ true → with_line line (seen_start t) (codes "RRULE:" ++ rule) ≡ Ok (record { start = Some t; has_rule = true })
unfolding with_line with_property with_rule property_of property_key
rule_ok line rule t fits =
    let text = codes "RRULE" ++ 58 ∷ rule in
    let s = seen_start t in
    let with : Seen = record { start = Some t; has_rule = true } in
    let none : Result Seen CalendarTextError = Err (calendar_error_at (length text) NoColon) in
    let read = with_property line s (head_of text) (line_value text) (property_of (property_name text)) in
    ap (λ (b : Bool). if b then Ok s else if stands_in 58 text then read else none) (not_empty (codes "RRULE") 58 rule)
    ∙ ap (λ (b : Bool). if b then read else none) (sep_stands 58 (codes "RRULE") rule refl)
    ∙ ap (λ h. with_property line s h (line_value text) (property_of (before_first (λ x. x == 59) h))) (before_sep 58 (codes "RRULE") rule refl)
    ∙ ap (λ v. with_rule s (codes "RRULE") v) (after_sep 58 (codes "RRULE") rule refl)
    ∙ ap (λ (b : Bool). if b then Ok with else Err (calendar_error_at (length (codes "RRULE") + 1 + prefix_len (has_class OfRule) rule) NotARule)) fits

lists_ok : (c : CalendarParts) (s : Seen) → ZoneFits c.zone → AreWritableParts c → (place : ℕ) → placed_through (with_line (body Start c.zone c.start)) s place (lists_of c ++ [] ∷ []) ≡ Ok s
lists_ok c s fits is place =
    let line = body Start c.zone c.start in
    let dates = map (body Dates c.zone) c.dates in
    let exceptions = map (body Exceptions c.zone) c.exceptions in
    ap (placed_through (with_line line) s place) (append_assoc dates exceptions ([] ∷ []))
    ∙ steady Dates s c.zone c.start c.dates (exceptions ++ [] ∷ []) tt fits is.start is.dates
    (steady Exceptions s c.zone c.start c.exceptions ([] ∷ []) tt fits is.start is.exceptions (last_line line s)) place

-- the state behind the rule
abbrev seen_rule : CalendarTime → Option (List ℕ) → Seen
seen_rule t None = seen_start t
seen_rule t (Some rule) = record { start = Some t; has_rule = true }

rules_ok : (c : CalendarParts) (rule : Option (List ℕ)) → ZoneFits c.zone → AreWritableParts c → IfSome rule (λ r. is_of_class OfRule r ≡ true) → (place : ℕ)
    → placed_through (with_line (body Start c.zone c.start)) (seen_start c.start) place ((rule_bodies rule ++ lists_of c) ++ [] ∷ []) ≡ Ok (seen_rule c.start rule)
unfolding placed_through
rules_ok c None fits is fit place = lists_ok c (seen_start c.start) fits is place
rules_ok c (Some rule) fits is fit place =
    let line = body Start c.zone c.start in
    let text = codes "RRULE:" ++ rule in
    ap (λ r. and_then_read (behind place r) (λ u. placed_through (with_line line) u (place + length text + 1) (lists_of c ++ [] ∷ []))) (rule_ok line rule c.start fit)
    ∙ lists_ok c (record { start = Some c.start; has_rule = true }) fits is (place + length text + 1)

pub all_ok : (c : CalendarParts) → ZoneFits c.zone → AreWritableParts c
    → placed_through (with_line (body Start c.zone c.start)) nothing_seen 0 (bodies c ++ [] ∷ []) ≡ Ok (seen_rule c.start c.rule)
unfolding placed_through
all_ok c fits is =
    let line = body Start c.zone c.start in
    ap (λ r. and_then_read (behind 0 r) (λ u. placed_through (with_line line) u (0 + length line + 1) ((rule_bodies c.rule ++ lists_of c) ++ [] ∷ []))) (start_ok line c.zone c.start fits is.start)
    ∙ rules_ok c c.rule fits is is.rule (0 + length line + 1)

-- ---- the whole

zone_fits : (c : CalendarParts) (zone : Option (List ℕ)) → IfSome zone (λ name. (is_of_class Safe name ≡ true) × (is_local (Some c.start) ≡ true)) → ZoneFits zone
zone_fits c None is = tt
zone_fits c (Some name) is = is.0

all_lines : (c : CalendarParts) → ZoneFits c.zone → AreWritableParts c → AreLines (bodies c)
all_lines c fits is =
    let dates = map (body Dates c.zone) c.dates in
    let exceptions = map (body Exceptions c.zone) c.exceptions in (
      body_line Start c.zone c.start fits is.start,
      lines_both (rule_bodies c.rule) (dates ++ exceptions) (rule_lines c.rule is.rule)
          (lines_both dates exceptions (times_lines Dates c.zone c.start c.dates fits is.dates) (times_lines Exceptions c.zone c.start c.exceptions fits is.exceptions)),
    )

-- the lines
lines_back : (c : CalendarParts) → AreLines (bodies c) → content_lines (calendar_lines c) ≡ bodies c ++ [] ∷ []
lines_back c lines = ap (pieces 10) (lines_are c) ∙ pieces_terminated (bodies c) (lines_lack (bodies c) lines)

unfolded_back : (c : CalendarParts) → AreLines (bodies c) → unfolded (folded (calendar_lines c)) ≡ calendar_lines c
unfolding may_fold
unfolded_back c lines = folded_back (calendar_lines c) (ap (may_fold_behind 10) (lines_are c) ∙ lines_fold (bodies c) lines)

-- the first of some lines that is of a property
found : (q : Property) (l : List ℕ) (ls : List (List ℕ)) (t : Bool) → is_line_of q l ≡ t → find (is_line_of q) (l ∷ ls) ≡ (if t then Some l else find (is_line_of q) ls)
found q l ls t e = ap (λ (t : Bool). if t then Some l else find (is_line_of q) ls) e

none_found : (q p : Property) (zone : Option (List ℕ)) (ts : List CalendarTime) (rest : List (List ℕ)) → ZoneFits zone → is_name q (property_key p) ≡ false
    → find (is_line_of q) (map (body p zone) ts ++ rest) ≡ find (is_line_of q) rest
none_found q p zone [] rest fits other = refl
none_found q p zone (t ∷ ts) rest fits other =
    found q (body p zone t) (map (body p zone) ts ++ rest) false (is_line q p zone t fits ∙ other) ∙ none_found q p zone ts rest fits other

rule_is_line : (q : Property) (rule : List ℕ) → is_line_of q (codes "RRULE:" ++ rule) ≡ is_name q (codes "RRULE")
rule_is_line q rule = ap (λ h. is_name q (before_first (λ x. x == 59) h)) (before_sep 58 (codes "RRULE") rule refl)

rule_found : (c : CalendarParts) (rule : Option (List ℕ)) → ZoneFits c.zone → option_map line_value (find (is_line_of Rule) ((rule_bodies rule ++ lists_of c) ++ [] ∷ [])) ≡ rule
unfolding property_key
rule_found c None fits =
    let dates = map (body Dates c.zone) c.dates in
    let exceptions = map (body Exceptions c.zone) c.exceptions in
    ap (λ ls. option_map line_value (find (is_line_of Rule) ls)) (append_assoc dates exceptions ([] ∷ []))
    ∙ ap (option_map line_value) (none_found Rule Dates c.zone c.dates (exceptions ++ [] ∷ []) fits refl ∙ none_found Rule Exceptions c.zone c.exceptions ([] ∷ []) fits refl)
rule_found c (Some rule) fits =
    ap (option_map line_value) (found Rule (codes "RRULE:" ++ rule) (lists_of c ++ [] ∷ []) true (rule_is_line Rule rule))
    ∙ ap Some (after_sep 58 (codes "RRULE") rule refl)

-- the times of a list
line_none : (q p : Property) (zone : Option (List ℕ)) (t : CalendarTime) → ZoneFits zone → is_name q (property_key p) ≡ false → line_times q (body p zone t) ≡ []
line_none q p zone t fits other = ap (λ (b : Bool). if b then listed_times (line_value (body p zone t)) else []) (is_line q p zone t fits ∙ other)

line_one : (q p : Property) (zone : Option (List ℕ)) (t : CalendarTime) → ZoneFits zone → CanBeReadBack t → is_name q (property_key p) ≡ true → line_times q (body p zone t) ≡ t ∷ []
line_one q p zone t fits is same =
    let text = calendar_time_text t in
    ap (λ (b : Bool). if b then listed_times (line_value (body p zone t)) else []) (is_line q p zone t fits ∙ same)
    ∙ ap listed_times (value_is p zone t fits) ∙ ap (filter_map time_of) (pieces_end 44 text (time_lacks 44 t (inl (omega arith)) refl refl is))
    ∙ ap (λ o. filter_map (λ (x : Option CalendarTime). x) (o ∷ [])) (time_back t is)

times_none : (q p : Property) (zone : Option (List ℕ)) (ts : List CalendarTime) (rest : List (List ℕ)) → ZoneFits zone → is_name q (property_key p) ≡ false
    → times_of q (map (body p zone) ts ++ rest) ≡ times_of q rest
times_none q p zone [] rest fits other = refl
times_none q p zone (t ∷ ts) rest fits other =
    ap (λ l. l ++ times_of q (map (body p zone) ts ++ rest)) (line_none q p zone t fits other) ∙ times_none q p zone ts rest fits other

times_all : (q p : Property) (zone : Option (List ℕ)) (start : CalendarTime) (ts : List CalendarTime) (rest : List (List ℕ)) → ZoneFits zone → AreWritable start ts → is_name q (property_key p) ≡ true
    → times_of q (map (body p zone) ts ++ rest) ≡ ts ++ times_of q rest
times_all q p zone start [] rest fits is same = refl
times_all q p zone start (t ∷ ts) rest fits is same =
    ap (λ l. l ++ times_of q (map (body p zone) ts ++ rest)) (line_one q p zone t fits is.0 same) ∙ ap (λ l. t ∷ l) (times_all q p zone start ts rest fits is.2 same)

rule_times : (q : Property) (rule : Option (List ℕ)) (rest : List (List ℕ)) → is_name q (codes "RRULE") ≡ false → times_of q (rule_bodies rule ++ rest) ≡ times_of q rest
rule_times q None rest other = refl
rule_times q (Some rule) rest other =
    let line = codes "RRULE:" ++ rule in
    ap (λ (b : Bool). (if b then listed_times (line_value line) else []) ++ times_of q rest) (rule_is_line q rule ∙ other)

dates_back : (c : CalendarParts) → ZoneFits c.zone → AreWritableParts c → times_of Dates (bodies c ++ [] ∷ []) ≡ c.dates
unfolding property_key
dates_back c fits is =
    let dates = map (body Dates c.zone) c.dates in
    let exceptions = map (body Exceptions c.zone) c.exceptions in
    ap (λ l. l ++ times_of Dates ((rule_bodies c.rule ++ lists_of c) ++ [] ∷ [])) (line_none Dates Start c.zone c.start fits refl)
    ∙ ap (times_of Dates) (append_assoc (rule_bodies c.rule) (lists_of c) ([] ∷ [])) ∙ rule_times Dates c.rule (lists_of c ++ [] ∷ []) refl
    ∙ ap (times_of Dates) (append_assoc dates exceptions ([] ∷ []))
    ∙ times_all Dates Dates c.zone c.start c.dates (exceptions ++ [] ∷ []) fits is.dates refl
    ∙ ap (λ l. c.dates ++ l) (times_none Dates Exceptions c.zone c.exceptions ([] ∷ []) fits refl) ∙ append-nil c.dates

exceptions_back : (c : CalendarParts) → ZoneFits c.zone → AreWritableParts c → times_of Exceptions (bodies c ++ [] ∷ []) ≡ c.exceptions
unfolding property_key
exceptions_back c fits is =
    let dates = map (body Dates c.zone) c.dates in
    let exceptions = map (body Exceptions c.zone) c.exceptions in
    ap (λ l. l ++ times_of Exceptions ((rule_bodies c.rule ++ lists_of c) ++ [] ∷ [])) (line_none Exceptions Start c.zone c.start fits refl)
    ∙ ap (times_of Exceptions) (append_assoc (rule_bodies c.rule) (lists_of c) ([] ∷ [])) ∙ rule_times Exceptions c.rule (lists_of c ++ [] ∷ []) refl
    ∙ ap (times_of Exceptions) (append_assoc dates exceptions ([] ∷ []))
    ∙ times_none Exceptions Dates c.zone c.dates (exceptions ++ [] ∷ []) fits refl
    ∙ times_all Exceptions Exceptions c.zone c.start c.exceptions ([] ∷ []) fits is.exceptions refl ∙ append-nil c.exceptions

-- the start and its zone
start_of_seen : (t : CalendarTime) (rule : Option (List ℕ)) → (seen_rule t rule).start ≡ Some t
start_of_seen t None = refl
start_of_seen t (Some rule) = refl

used_is : (t : CalendarTime) (zone : Option (List ℕ)) → IfSome zone (λ name. (is_of_class Safe name ≡ true) × (is_local (Some t) ≡ true)) → zone_used zone t ≡ zone
used_is (Date d) None is = refl
used_is (Local m) None is = refl
used_is (Utc m) None is = refl
used_is (Date d) (Some name) is = absurd (false≢true is.1)
used_is (Local m) (Some name) is = refl
used_is (Utc m) (Some name) is = absurd (false≢true is.1)

parts_back : (c : CalendarParts) → AreWritableParts c → HasParts (calendar_lines c) c
unfolding start_read property_key
parts_back c is =
    let fits = zone_fits c c.zone is.zone in
    let text = calendar_lines c in
    let start = body Start c.zone c.start in
    let behind_start = (rule_bodies c.rule ++ lists_of c) ++ [] ∷ [] in
    let lines = lines_back c (all_lines c fits is) in
    let first : first_line Start text ≡ Some start = ap (find (is_line_of Start)) lines ∙ found Start start behind_start true (is_line Start Start c.zone c.start fits) in
    record {
      start = ap (lines_read text) first
          ∙ ap (λ ls. and_then_read (placed_through (with_line start) nothing_seen 0 ls) (λ s. started (length text) s.start)) lines
          ∙ ap (λ r. and_then_read r (λ s. started (length text) s.start)) (all_ok c fits is)
          ∙ ap (started (length text)) (start_of_seen c.start c.rule);
      zone = ap (option_and_then (λ line. zone_of (head_of line))) first ∙ ap zone_of (head_is Start c.zone c.start fits) ∙ zone_is Start c.zone c.start fits ∙ used_is c.start c.zone is.zone;
      rule = ap (λ ls. option_map line_value (find (is_line_of Rule) ls)) lines
          ∙ ap (option_map line_value) (found Rule start behind_start false (is_line Rule Start c.zone c.start fits)) ∙ rule_found c c.rule fits;
      dates = ap (times_of Dates) lines ∙ dates_back c fits is;
      exceptions = ap (times_of Exceptions) lines ∙ exceptions_back c fits is;
    }

pub written_back : (c : CalendarParts) → AreWritableParts c → IsCalendarText (folded (calendar_lines c)) c
written_back c is = subst (λ text. HasParts text c) (sym (unfolded_back c (all_lines c (zone_fits c c.zone is.zone) is))) (parts_back c is)
