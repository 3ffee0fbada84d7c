use Rattle.std.proofs.Common.{◌≡◌, List, ℕ, ap, drop, subst, sym, take, ◌∙◌}
use Rattle.std.specs.List.{prefix_len}
use Rattle.chrono_text.specs.Lists.{is_of_word}
use Rattle.chrono_stamps.specs.MailWords.{IsColonWord, IsOptional, IsSpacedWord, behind_gap}
use Rattle.chrono_stamps.proofs.MailWordLemmas.{colon_found, comma_found}
use Rattle.chrono_stamps.proofs.mail_words.mail_words.Goals as goal

pub returns-clause-every : goal.returns-clause-every
returns-clause-every c = λ weekday day month year hour minute second zone end is.
    let w = comma_found c.args.text.now weekday is.after_weekday day is.after_day month is.after_month c.comma_word.result.0.now c.comma_word.result.1.now
    c.comma_word.ensures.every c.comma_word.ensures.read c.comma_word.ensures.nothing is.weekday_is is.day_is is.month_is in
    let front : c.skip_gap.result.now ≡ behind_gap is.after_weekday = c.skip_gap.ensures ∙ ap (λ (l : List ℕ). behind_gap l) w.1 in
    let d : c.split_word.result.0.now ≡ day = c.split_word.ensures.word ∙ ap (λ (l : List ℕ). take (prefix_len is_of_word l) l) front ∙ is.day_is.front in
    let after : c.split_word.result.1.now ≡ is.after_day = c.split_word.ensures.rest ∙ ap (λ (l : List ℕ). drop (prefix_len is_of_word l) l) front ∙ is.day_is.behind in
    let m = c.spaced_word.ensures.every month is.after_month (subst (λ (l : List ℕ). IsSpacedWord l month is.after_month) (sym after) is.month_is) in
    let y = c.spaced_word-2.ensures.every year is.after_year (subst (λ (l : List ℕ). IsSpacedWord l year is.after_year) (sym m.1) is.year_is) in
    let h = c.spaced_word-3.ensures.every hour is.after_hour (subst (λ (l : List ℕ). IsSpacedWord l hour is.after_hour) (sym y.1) is.hour_is) in
    let i = c.colon_word.ensures.every minute is.after_minute (subst (λ (l : List ℕ). IsColonWord l minute is.after_minute) (sym h.1) is.minute_is) in
    let s = colon_found c.colon_word.result.1.now second is.after_second zone end c.colon_word-2.result.0.now c.colon_word-2.result.1.now
    c.colon_word-2.ensures.every c.colon_word-2.ensures.read c.colon_word-2.ensures.nothing (subst (λ (l : List ℕ). IsOptional IsColonWord l second is.after_second) (sym i.1) is.second_is) is.zone_is in
    let z = c.spaced_word-4.ensures.every zone end (subst (λ (l : List ℕ). IsSpacedWord l zone end) (sym s.1) is.zone_is) in
    (w.0, d, m.0, y.0, h.0, i.0, s.0, z.0, z.1)
