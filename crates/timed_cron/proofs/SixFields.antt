-- A text of six words, of which the first has the seconds.
use Rattle.std.proofs.Common.{◌≡◌, ◌≢◌, ℕ, ◌≤◌, Bool, true, false, List, [], ◌∷◌, length, get_or, take, drop, refl, ap, sym, ◌∙◌, arith, Option, Some, None, Result, Ok, Err, IfOk, IfErr, IsErr, ◌↔◌}
use Rattle.std.proofs.lemmas.Bool.{false≢true}
use Rattle.std.proofs.lemmas.List.{length-map}
use Rattle.chrono_text.proofs.AnswerLemmas.{no_one, the_one}
use Rattle.chrono_sets.specs.FiniteSets.{FiniteSet, has}
use Rattle.chrono_sets.proofs.Members.{same_set}
use Rattle.chrono_cron.specs.FieldTexts.{field_lists}
use Rattle.chrono_cron.specs.PlacedWords.{first_word, placed_words}
use Rattle.chrono_cron.specs.ScheduleErrors.{error_of, field_fault, first_wrong, front_fault, front_or, schedule_error, schedule_error_at, told_or, unless_read, wrong_field}
use Rattle.chrono_cron.specs.ScheduleTexts.{AreListed, IsScheduleText, days_list, fields_of, spelled_out, text_words, weekdays_list}
use Rattle.chrono_cron.specs.declared.field_sets.FieldSets.{FieldSets}
use Rattle.chrono_cron.specs.declared.text.number_names.Names.TheVariants.{Months, Numbers}
use Rattle.chrono_cron.specs.declared.text.schedule_error.ScheduleFault.{ScheduleFault}
use Rattle.chrono_cron.specs.declared.text.schedule_error.ScheduleField.{ScheduleField}
use Rattle.chrono_cron.specs.declared.text.schedule_error.ScheduleField.TheVariants.{Minute, Hour, Day, Month, Weekday}
use Rattle.chrono_cron.proofs.TextWords.{piece_of, words_of}
use Rattle.timed_cron.specs.Private.{HasFourWords, IsUnreadFirst, IsWordAt, bytes_of}
use Rattle.timed_cron.specs.TimedErrors.{error_with_seconds, four_fault}
use Rattle.timed_cron.specs.TimedTexts.{IsAtSecondZero, IsNicknameText, IsSixFieldText}
use Rattle.timed_cron.specs.DialectTexts.{timed_error_in}
use Rattle.timed_cron.specs.declared.timed_error.TimedError.{TimedError}
use Rattle.timed_cron.specs.declared.timed_error.TimedError.TheVariants.{Fields as InFields}
use Rattle.timed_cron.specs.declared.timed_schedule.TimedSchedule.{TimedSchedule}
use Rattle.timed_cron.proofs.TextWords.{cut_at, in_front, word_at}

-- a text with the same words is one of the same schedule
respelled : (f g : List ℕ) (s : FieldSets) → text_words f ≡ text_words g → IsScheduleText f s → IsScheduleText g s
unfolding fields_of
respelled f g s e is =
    record {
      minute = is.minute;
      hour = is.hour;
      day = is.day;
      month = is.month;
      weekday = is.weekday;
      written = ap spelled_out (sym e) ∙ is.written;
      minutes = is.minutes;
      hours = is.hours;
      days = is.days;
      months = is.months;
      weekdays = is.weekdays;
      month_days = is.month_days;
      either = is.either;
      follows_clock = is.follows_clock;
    }

-- ---- a first word that is no field of minutes

pub unread_none : (text : List ℕ) (s : FieldSets) → IsUnreadFirst text → IsScheduleText text s → ⊥
unfolding fields_of
unread_none text s r is =
    let words = words_of 0 text (r.a ∷ r.b ∷ r.c ∷ r.d ∷ r.e ∷ []) r.words in
    let minute : is.minute ≡ r.a.1 = ap (λ l. get_or l 0 []) (sym is.written ∙ ap spelled_out words) in
    no_one (field_lists Numbers 0 59 is.minute 0) (has s.minutes 0) (sym (ap (λ t. field_lists Numbers 0 59 t 0) minute ∙ r.unread 0)) (is.minutes 0)

abbrev first_wrong_behind : {text : List ℕ} → IsUnreadFirst text → Option ScheduleField
first_wrong_behind r =
    unless_read (field_lists Numbers 0 23 r.b.1 0) Hour
    (unless_read (days_list r.c.1 0) Day
    (unless_read (field_lists Months 1 12 r.d.1 0) Month
    (unless_read (weekdays_list r.e.1 0) Weekday None)))

pub unread_error : (text : List ℕ) → IsUnreadFirst text → schedule_error text ≡ schedule_error_at (Some Minute) (field_fault Minute (first_word (placed_words 0 text)))
unfolding schedule_error wrong_field
unread_error text r =
    let words = words_of 0 text (r.a ∷ r.b ∷ r.c ∷ r.d ∷ r.e ∷ []) r.words in
    let later = λ (o : Option Bool). error_of (length text) (placed_words 0 text) (unless_read o Minute (first_wrong_behind r)) in
    ap (λ l. error_of (length text) (placed_words 0 text) (first_wrong l)) words ∙ ap later (r.unread 0)

-- ---- six words

abbrev pub second_word : List ℕ → ℕ → ℕ → ℕ × List ℕ
second_word text place end = (place, bytes_of text place end)

pub six_words : (text : List ℕ) (p e q f m : ℕ) → IsWordAt text 0 p e → IsWordAt text e q f → (four : HasFourWords text f m)
    → placed_words 0 text ≡ second_word text p e ∷ second_word text q f ∷ four.c ∷ four.d ∷ four.e ∷ four.f ∷ []
six_words text p e q f m first second four =
    in_front (second_word text p e) (word_at text 0 p e first) (in_front (second_word text q f) (word_at text e q f second) four.all)

pub five_in_front : (text : List ℕ) (p e q f m : ℕ) → IsWordAt text 0 p e → IsWordAt text e q f → (four : HasFourWords text f m)
    → placed_words 0 (take m text) ≡ second_word text p e ∷ second_word text q f ∷ four.c ∷ four.d ∷ four.e ∷ []
five_in_front text p e q f m first second four =
    let order = four.order in
    let within = four.within in
    let before : e ≤ m = omega (arith, second.order, second.some, order) in
    in_front (second_word text p e) (cut_at text 0 p e m before within first) (in_front (second_word text q f) (cut_at text e q f m order within second) four.front)

pub unread_first : (text : List ℕ) (p e q f m : ℕ) → IsWordAt text 0 p e → IsWordAt text e q f → (four : HasFourWords text f m)
    → ((k : ℕ) → None ≡ field_lists Numbers 0 59 (bytes_of text p e) k) → IsUnreadFirst (take m text)
unread_first text p e q f m first second four none =
    record {
      a = second_word text p e;
      b = second_word text q f;
      c = four.c;
      d = four.d;
      e = four.e;
      words = five_in_front text p e q f m first second four;
      unread = λ k. sym (none k);
    }

-- the words of the text are the first and those of the rest, which are five
pub rest_words : (text : List ℕ) (p e q f m : ℕ) → IsWordAt text 0 p e → IsWordAt text e q f → HasFourWords text f m
    → (text_words text ≡ bytes_of text p e ∷ text_words (drop e text)) × (length (text_words (drop e text)) ≡ 5)
rest_words text p e q f m first second four =
    let words = words_of 0 text _ (six_words text p e q f m first second four) in
    let rest = words_of e (drop e text) _ (in_front (second_word text q f) (word_at text e q f second) four.all) in
    (words ∙ ap (λ l. bytes_of text p e ∷ l) (sym rest), ap length rest)

-- what another reading of the text has
pub record IsSameReading (word rest : List ℕ) (s : TimedSchedule) : Type 0 where
  pub seconds : AreListed s.seconds (field_lists Numbers 0 59 word)
  pub schedule : IsScheduleText rest s.schedule.sets
  pub years : s.years ≡ None

pub same_reading : (text word rest : List ℕ) (s : TimedSchedule) → text_words text ≡ word ∷ text_words rest → IsSixFieldText text s → IsSameReading word rest s
same_reading text word rest s e is =
    let both : is.second ∷ text_words is.fields ≡ word ∷ text_words rest = sym is.written ∙ e in
    let second : is.second ≡ word = ap (λ l. get_or l 0 []) both in
    let fields : text_words is.fields ≡ text_words rest = ap (drop 1) both in
    record {
      seconds = λ k. ap (λ t. field_lists Numbers 0 59 t k) (sym second) ∙ is.seconds k;
      schedule = respelled is.fields rest s.schedule.sets fields is.schedule;
      years = is.years;
    }

pub same_seconds : (word : List ℕ) (set other : FiniteSet) → ((k : ℕ) → Some (has set k) ≡ field_lists Numbers 0 59 word k) → AreListed other (field_lists Numbers 0 59 word) → set ≡ other
same_seconds word set other read listed = same_set set other (λ k. the_one (field_lists Numbers 0 59 word k) (has set k) (has other k) (read k) (listed k))

pub no_seconds : (word : List ℕ) (other : FiniteSet) → ((k : ℕ) → None ≡ field_lists Numbers 0 59 word k) → AreListed other (field_lists Numbers 0 59 word) → ⊥
no_seconds word other none listed = no_one (field_lists Numbers 0 59 word 0) (has other 0) (none 0) (listed 0)

-- ---- other numbers of words

pub not_six_words : (text : List ℕ) (s : TimedSchedule) → (length (text_words text) ≡ 6 → ⊥) → IsSixFieldText text s → ⊥
not_six_words text s other is = other (ap length is.written ∙ omega (arith, is.five))

pub zero_words : (text : List ℕ) (s : FieldSets) → text_words text ≡ [] → IsScheduleText text s → ⊥
unfolding fields_of
zero_words text s e is = absurd (omega (arith, ap length (sym is.written ∙ ap spelled_out e)))

pub error_of_number : (text : List ℕ) (a b : ℕ × List ℕ) (others : List (ℕ × List ℕ)) → ((c d e f : ℕ × List ℕ) → others ≢ c ∷ d ∷ e ∷ f ∷ [])
    → error_with_seconds text (a ∷ b ∷ others) ≡ InFields (schedule_error_at None (front_or (a ∷ b ∷ others) (four_fault (length text) others)))
error_of_number text a b [] other = refl
error_of_number text a b (c ∷ []) other = refl
error_of_number text a b (c ∷ d ∷ []) other = refl
error_of_number text a b (c ∷ d ∷ e ∷ []) other = refl
error_of_number text a b (c ∷ d ∷ e ∷ f ∷ []) other = absurd (other c d e f refl)
error_of_number text a b (c ∷ d ∷ e ∷ f ∷ g ∷ more) other = refl

-- ---- a word, or none

words_count : (text : List ℕ) → length (text_words text) ≡ length (placed_words 0 text)
words_count text = ap length (words_of 0 text (placed_words 0 text) refl) ∙ length-map (placed_words 0 text) piece_of

one_word : (text : List ℕ) (s : FieldSets) (words : List (ℕ × List ℕ)) → placed_words 0 text ≡ words → length words ≤ 1 → IsScheduleText text s → length (text_words text) ≡ 1
one_word text s [] e few is = absurd (zero_words text s (words_of 0 text [] e) is)
one_word text s (word ∷ []) e few is = ap length (words_of 0 text (word ∷ []) e)
one_word text s (word ∷ next ∷ more) e few is = absurd (omega (arith, few))

pub nickname_is : (text : List ℕ) (s : TimedSchedule) → length (placed_words 0 text) ≤ 1 → IsAtSecondZero text s → IsNicknameText text s
nickname_is text s few is = record { one = one_word text s.schedule.sets (placed_words 0 text) refl few is.schedule; zero = is }

pub few_words : (text : List ℕ) (s : TimedSchedule) → length (placed_words 0 text) ≤ 1 → IsSixFieldText text s → ⊥
few_words text s few is = not_six_words text s (λ six. absurd (omega (arith, six, few, words_count text))) is

pub short_error : (text : List ℕ) (words : List (ℕ × List ℕ)) → length words ≤ 1 → error_with_seconds text words ≡ InFields (schedule_error text)
short_error text [] few = refl
short_error text (word ∷ []) few = refl
short_error text (word ∷ next ∷ more) few = absurd (omega (arith, few))

-- ---- more words than one, which are not six

pub more_than_one : (text : List ℕ) (s : TimedSchedule) (a b : ℕ × List ℕ) (others : List (ℕ × List ℕ)) → placed_words 0 text ≡ a ∷ b ∷ others → IsNicknameText text s → ⊥
more_than_one text s a b others e is = absurd (omega (arith, is.one, words_count text, ap length e))

four_by_length : (others : List (ℕ × List ℕ)) → ((c d e f : ℕ × List ℕ) → others ≢ c ∷ d ∷ e ∷ f ∷ []) → length others ≡ 4 → ⊥
four_by_length [] other four = absurd (omega (arith, four))
four_by_length (c ∷ []) other four = absurd (omega (arith, four))
four_by_length (c ∷ d ∷ []) other four = absurd (omega (arith, four))
four_by_length (c ∷ d ∷ e ∷ []) other four = absurd (omega (arith, four))
four_by_length (c ∷ d ∷ e ∷ f ∷ []) other four = other c d e f refl
four_by_length (c ∷ d ∷ e ∷ f ∷ g ∷ more) other four = absurd (omega (arith, four))

pub other_number : (text : List ℕ) (s : TimedSchedule) (a b : ℕ × List ℕ) (others : List (ℕ × List ℕ)) → placed_words 0 text ≡ a ∷ b ∷ others
    → ((c d e f : ℕ × List ℕ) → others ≢ c ∷ d ∷ e ∷ f ∷ []) → IsSixFieldText text s → ⊥
other_number text s a b others e other is = not_six_words text s (λ six. four_by_length others other (omega (arith, six, words_count text, ap length e))) is

pub told_in_front : (a b : ℕ × List ℕ) (others : List (ℕ × List ℕ)) (count : ℕ × ScheduleFault) → told_or a.0 (front_fault a.1) count ≡ front_or (a ∷ b ∷ others) count
unfolding front_or
told_in_front a b others count = refl

-- ---- what is known of either result

pub for_ok : {A E : Type 0} (P Q : A → Type 0) (r : Result A E) → ((a : A) → P a → Q a) → IfOk r P → IfOk r Q
for_ok P Q (Ok a) f h = f a h
for_ok P Q (Err e) f h = h

pub for_err : {A E : Type 0} (P Q : E → Type 0) (r : Result A E) → ((e : E) → P e → Q e) → IfErr r P → IfErr r Q
for_err P Q (Ok a) f h = h
for_err P Q (Err e) f h = f e h

pub is_ok_of : {A E : Type 0} (P : A → Type 0) (r : Result A E) (s : A) → IfOk r (λ t. (u : A) → P u → t ≡ u) → IfErr r (λ _. (u : A) → P u → ⊥) → P s → r ≡ Ok s
is_ok_of P (Ok a) s only none is = ap Ok (only s is)
is_ok_of P (Err e) s only none is = absurd (none s is)

pub err_iff : {A E : Type 0} (P : A → Type 0) (r : Result A E) → IfOk r P → IfErr r (λ _. (u : A) → P u → ⊥) → IsErr r ↔ ((u : A) → P u → ⊥)
err_iff P (Ok a) is none = (λ err. absurd (false≢true err), λ none. absurd (none a is))
err_iff P (Err e) is none = (λ err. none, λ none. refl)

-- ---- what is read as a definition says

abbrev is_error : {A E : Type 0} → Result A E → Bool
is_error (Ok a) = false
is_error (Err e) = true

pub ok_of : {A E : Type 0} (q : Result A E) → IfOk q (λ a. q ≡ Ok a)
ok_of (Ok a) = refl
ok_of (Err e) = tt

pub err_of : {A E : Type 0} (q : Result A E) → IsErr q ↔ ((a : A) → q ≡ Ok a → ⊥)
err_of (Ok a) = (λ err. absurd (false≢true err), λ none. absurd (none a refl))
err_of (Err e) = (λ err a same. absurd (false≢true (sym (ap is_error same))), λ none. refl)

pub error_told : (q : Result TimedSchedule TimedError) → IfErr q (λ e. e ≡ timed_error_in q)
error_told (Ok s) = tt
error_told (Err e) = refl
