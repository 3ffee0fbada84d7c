-- Public holidays: the rules of holidays that laws and notices name, one by one.
use Rattle.std.specs.Prelude.{List, [], ◌∷◌, ℤ, pos, neg_ℤ}
use Rattle.chrono_datetime.specs.declared.Month.TheVariants.{April, August, December, February, January, July, June, May, November, October, September}
use Rattle.chrono_datetime.specs.declared.Weekday.TheVariants.{Mon, Thu}
use Rattle.chrono_business.specs.declared.holiday_rule.HolidayDay.TheVariants.{Fixed, NthWeekday, LastWeekday, EasterPlus, VernalEquinox, AutumnalEquinox}
use Rattle.chrono_business.specs.declared.holiday_rule.Moved.TheVariants.{Stays, SundayToMonday, ToMonday, ToNearer, TwoDaysOn, SundayPlus}
use Rattle.chrono_business.specs.declared.holiday_rule.HolidayRule.{HolidayRule}
use Rattle.chrono_business.specs.HolidayRules.{rule_of}

-- the last year of a rule that still holds, which is the calendar's
abbrev still : ℤ
still = pos 262_142

-- the federal holidays of the United States from 1971 on: New Year's Day, the birthdays of King and of Washington,
-- Memorial Day, Juneteenth, Independence Day and Labor Day. Then Columbus Day, Veterans Day on a Monday and again on its
-- day, Thanksgiving and Christmas Day
unfoldable pub us_federal_rules : List HolidayRule
us_federal_rules =
    rule_of (Fixed January 1) ToNearer (pos 1_971) still
    ∷ rule_of (NthWeekday 3 Mon January) Stays (pos 1_986) still
    ∷ rule_of (NthWeekday 3 Mon February) Stays (pos 1_971) still
    ∷ rule_of (LastWeekday Mon May) Stays (pos 1_971) still
    ∷ rule_of (Fixed June 19) ToNearer (pos 2_021) still
    ∷ rule_of (Fixed July 4) ToNearer (pos 1_971) still
    ∷ rule_of (NthWeekday 1 Mon September) Stays (pos 1_971) still
    ∷ rule_of (NthWeekday 2 Mon October) Stays (pos 1_971) still
    ∷ rule_of (NthWeekday 4 Mon October) Stays (pos 1_971) (pos 1_977)
    ∷ rule_of (Fixed November 11) ToNearer (pos 1_978) still
    ∷ rule_of (NthWeekday 4 Thu November) Stays (pos 1_971) still
    ∷ rule_of (Fixed December 25) ToNearer (pos 1_971) still
    ∷ []

-- the closing days of TARGET from 1999 on: New Year's Day and Christmas Day, Good Friday and Easter Monday, 1 May and
-- 26 December, and 31 December of two years
unfoldable pub target_rules : List HolidayRule
target_rules =
    rule_of (Fixed January 1) Stays (pos 1_999) still
    ∷ rule_of (Fixed December 25) Stays (pos 1_999) still
    ∷ rule_of (EasterPlus (neg_ℤ (pos 2))) Stays (pos 2_000) still
    ∷ rule_of (EasterPlus (pos 1)) Stays (pos 2_000) still
    ∷ rule_of (Fixed May 1) Stays (pos 2_000) still
    ∷ rule_of (Fixed December 26) Stays (pos 2_000) still
    ∷ rule_of (Fixed December 31) Stays (pos 1_999) (pos 1_999)
    ∷ rule_of (Fixed December 31) Stays (pos 2_001) (pos 2_001)
    ∷ []

-- the bank holidays of England and Wales from 1978 on, with Good Friday and Christmas Day, and days of single years
unfoldable pub england_and_wales_rules : List HolidayRule
england_and_wales_rules =
    rule_of (Fixed January 1) ToMonday (pos 1_978) still
    ∷ rule_of (EasterPlus (neg_ℤ (pos 2))) Stays (pos 1_978) still
    ∷ rule_of (EasterPlus (pos 1)) Stays (pos 1_978) still
    ∷ rule_of (NthWeekday 1 Mon May) Stays (pos 1_978) (pos 1_994)
    ∷ rule_of (Fixed May 8) Stays (pos 1_995) (pos 1_995)
    ∷ rule_of (NthWeekday 1 Mon May) Stays (pos 1_996) (pos 2_019)
    ∷ rule_of (Fixed May 8) Stays (pos 2_020) (pos 2_020)
    ∷ rule_of (NthWeekday 1 Mon May) Stays (pos 2_021) still
    ∷ rule_of (LastWeekday Mon May) Stays (pos 1_978) (pos 2_001)
    ∷ rule_of (Fixed June 3) Stays (pos 2_002) (pos 2_002)
    ∷ rule_of (Fixed June 4) Stays (pos 2_002) (pos 2_002)
    ∷ rule_of (LastWeekday Mon May) Stays (pos 2_003) (pos 2_011)
    ∷ rule_of (Fixed June 4) Stays (pos 2_012) (pos 2_012)
    ∷ rule_of (Fixed June 5) Stays (pos 2_012) (pos 2_012)
    ∷ rule_of (LastWeekday Mon May) Stays (pos 2_013) (pos 2_021)
    ∷ rule_of (Fixed June 2) Stays (pos 2_022) (pos 2_022)
    ∷ rule_of (Fixed June 3) Stays (pos 2_022) (pos 2_022)
    ∷ rule_of (LastWeekday Mon May) Stays (pos 2_023) still
    ∷ rule_of (LastWeekday Mon August) Stays (pos 1_978) still
    ∷ rule_of (Fixed December 25) TwoDaysOn (pos 1_978) still
    ∷ rule_of (Fixed December 26) TwoDaysOn (pos 1_978) still
    ∷ rule_of (Fixed July 29) Stays (pos 1_981) (pos 1_981)
    ∷ rule_of (Fixed December 31) Stays (pos 1_999) (pos 1_999)
    ∷ rule_of (Fixed April 29) Stays (pos 2_011) (pos 2_011)
    ∷ rule_of (Fixed September 19) Stays (pos 2_022) (pos 2_022)
    ∷ rule_of (Fixed May 8) Stays (pos 2_023) (pos 2_023)
    ∷ []

-- the days on which the Fedwire services are closed, from 1971 on: the federal holidays, moved off a Sunday alone
unfoldable pub fedwire_rules : List HolidayRule
fedwire_rules =
    rule_of (Fixed January 1) SundayToMonday (pos 1_971) still
    ∷ rule_of (NthWeekday 3 Mon January) Stays (pos 1_986) still
    ∷ rule_of (NthWeekday 3 Mon February) Stays (pos 1_971) still
    ∷ rule_of (LastWeekday Mon May) Stays (pos 1_971) still
    ∷ rule_of (Fixed June 19) SundayToMonday (pos 2_022) still
    ∷ rule_of (Fixed July 4) SundayToMonday (pos 1_971) still
    ∷ rule_of (NthWeekday 1 Mon September) Stays (pos 1_971) still
    ∷ rule_of (NthWeekday 2 Mon October) Stays (pos 1_971) still
    ∷ rule_of (NthWeekday 4 Mon October) Stays (pos 1_971) (pos 1_977)
    ∷ rule_of (Fixed November 11) SundayToMonday (pos 1_978) still
    ∷ rule_of (NthWeekday 4 Thu November) Stays (pos 1_971) still
    ∷ rule_of (Fixed December 25) SundayToMonday (pos 1_971) still
    ∷ []

-- the days on which the New York Stock Exchange is closed, from 1998 on: New Year's Day, King's birthday, Washington's
-- Birthday, Good Friday, Memorial Day, Juneteenth, Independence Day, Labor Day, Thanksgiving and Christmas. Then days of
-- single years
unfoldable pub nyse_rules : List HolidayRule
nyse_rules =
    rule_of (Fixed January 1) SundayToMonday (pos 1_998) still
    ∷ rule_of (NthWeekday 3 Mon January) Stays (pos 1_998) still
    ∷ rule_of (NthWeekday 3 Mon February) Stays (pos 1_998) still
    ∷ rule_of (EasterPlus (neg_ℤ (pos 2))) Stays (pos 1_998) still
    ∷ rule_of (LastWeekday Mon May) Stays (pos 1_998) still
    ∷ rule_of (Fixed June 19) ToNearer (pos 2_022) still
    ∷ rule_of (Fixed July 4) ToNearer (pos 1_998) still
    ∷ rule_of (NthWeekday 1 Mon September) Stays (pos 1_998) still
    ∷ rule_of (NthWeekday 4 Thu November) Stays (pos 1_998) still
    ∷ rule_of (Fixed December 25) ToNearer (pos 1_998) still
    ∷ rule_of (Fixed September 11) Stays (pos 2_001) (pos 2_001)
    ∷ rule_of (Fixed September 12) Stays (pos 2_001) (pos 2_001)
    ∷ rule_of (Fixed September 13) Stays (pos 2_001) (pos 2_001)
    ∷ rule_of (Fixed September 14) Stays (pos 2_001) (pos 2_001)
    ∷ rule_of (Fixed June 11) Stays (pos 2_004) (pos 2_004)
    ∷ rule_of (Fixed January 2) Stays (pos 2_007) (pos 2_007)
    ∷ rule_of (Fixed October 29) Stays (pos 2_012) (pos 2_012)
    ∷ rule_of (Fixed October 30) Stays (pos 2_012) (pos 2_012)
    ∷ rule_of (Fixed December 5) Stays (pos 2_018) (pos 2_018)
    ∷ rule_of (Fixed January 9) Stays (pos 2_025) (pos 2_025)
    ∷ []

-- the holidays that all Länder of Germany have, from 1995 on: New Year's Day, Good Friday, Easter Monday, 1 May,
-- Ascension Day, Whit Monday, German Unity Day and two days of Christmas, and 31 October of one year
unfoldable pub germany_rules : List HolidayRule
germany_rules =
    rule_of (Fixed January 1) Stays (pos 1_995) still
    ∷ rule_of (EasterPlus (neg_ℤ (pos 2))) Stays (pos 1_995) still
    ∷ rule_of (EasterPlus (pos 1)) Stays (pos 1_995) still
    ∷ rule_of (Fixed May 1) Stays (pos 1_995) still
    ∷ rule_of (EasterPlus (pos 39)) Stays (pos 1_995) still
    ∷ rule_of (EasterPlus (pos 50)) Stays (pos 1_995) still
    ∷ rule_of (Fixed October 3) Stays (pos 1_995) still
    ∷ rule_of (Fixed December 25) Stays (pos 1_995) still
    ∷ rule_of (Fixed December 26) Stays (pos 1_995) still
    ∷ rule_of (Fixed October 31) Stays (pos 2_017) (pos 2_017)
    ∷ []

-- the legal holidays of France from 1982 on: New Year's Day, Easter Monday, 1 and 8 May, Ascension Day, Whit Monday,
-- 14 July, Assumption Day, All Saints' Day, 11 November and Christmas Day
unfoldable pub france_rules : List HolidayRule
france_rules =
    rule_of (Fixed January 1) Stays (pos 1_982) still
    ∷ rule_of (EasterPlus (pos 1)) Stays (pos 1_982) still
    ∷ rule_of (Fixed May 1) Stays (pos 1_982) still
    ∷ rule_of (Fixed May 8) Stays (pos 1_982) still
    ∷ rule_of (EasterPlus (pos 39)) Stays (pos 1_982) still
    ∷ rule_of (EasterPlus (pos 50)) Stays (pos 1_982) still
    ∷ rule_of (Fixed July 14) Stays (pos 1_982) still
    ∷ rule_of (Fixed August 15) Stays (pos 1_982) still
    ∷ rule_of (Fixed November 1) Stays (pos 1_982) still
    ∷ rule_of (Fixed November 11) Stays (pos 1_982) still
    ∷ rule_of (Fixed December 25) Stays (pos 1_982) still
    ∷ []

-- the days on which banks in Japan are closed, from 2007 on: the national holidays in their order of the year, with New
-- Year's Day and the two days after it, and 31 December. Then days of 2019, and the Tuesdays between two holidays of
-- September. A holiday on a Sunday goes to the next day that is none
unfoldable pub japan_rules : List HolidayRule
japan_rules =
    rule_of (Fixed January 1) SundayToMonday (pos 2_007) still
    ∷ rule_of (Fixed January 2) Stays (pos 2_007) still
    ∷ rule_of (Fixed January 3) Stays (pos 2_007) still
    ∷ rule_of (NthWeekday 2 Mon January) Stays (pos 2_007) still
    ∷ rule_of (Fixed February 11) SundayToMonday (pos 2_007) still
    ∷ rule_of (Fixed February 23) SundayToMonday (pos 2_020) still
    ∷ rule_of VernalEquinox SundayToMonday (pos 2_007) (pos 2_099)
    ∷ rule_of (Fixed April 29) SundayToMonday (pos 2_007) still
    ∷ rule_of (Fixed May 3) (SundayPlus 3) (pos 2_007) still
    ∷ rule_of (Fixed May 4) (SundayPlus 2) (pos 2_007) still
    ∷ rule_of (Fixed May 5) SundayToMonday (pos 2_007) still
    ∷ rule_of (NthWeekday 3 Mon July) Stays (pos 2_007) (pos 2_019)
    ∷ rule_of (Fixed July 23) Stays (pos 2_020) (pos 2_020)
    ∷ rule_of (Fixed July 22) Stays (pos 2_021) (pos 2_021)
    ∷ rule_of (NthWeekday 3 Mon July) Stays (pos 2_022) still
    ∷ rule_of (Fixed August 11) SundayToMonday (pos 2_016) (pos 2_019)
    ∷ rule_of (Fixed August 10) Stays (pos 2_020) (pos 2_020)
    ∷ rule_of (Fixed August 8) SundayToMonday (pos 2_021) (pos 2_021)
    ∷ rule_of (Fixed August 11) SundayToMonday (pos 2_022) still
    ∷ rule_of (NthWeekday 3 Mon September) Stays (pos 2_007) still
    ∷ rule_of AutumnalEquinox SundayToMonday (pos 2_007) (pos 2_099)
    ∷ rule_of (NthWeekday 2 Mon October) Stays (pos 2_007) (pos 2_019)
    ∷ rule_of (Fixed July 24) Stays (pos 2_020) (pos 2_020)
    ∷ rule_of (Fixed July 23) Stays (pos 2_021) (pos 2_021)
    ∷ rule_of (NthWeekday 2 Mon October) Stays (pos 2_022) still
    ∷ rule_of (Fixed November 3) SundayToMonday (pos 2_007) still
    ∷ rule_of (Fixed November 23) SundayToMonday (pos 2_007) still
    ∷ rule_of (Fixed December 23) SundayToMonday (pos 2_007) (pos 2_018)
    ∷ rule_of (Fixed December 31) Stays (pos 2_007) still
    ∷ rule_of (Fixed April 30) Stays (pos 2_019) (pos 2_019)
    ∷ rule_of (Fixed May 1) Stays (pos 2_019) (pos 2_019)
    ∷ rule_of (Fixed May 2) Stays (pos 2_019) (pos 2_019)
    ∷ rule_of (Fixed October 22) Stays (pos 2_019) (pos 2_019)
    ∷ rule_of (Fixed September 22) Stays (pos 2_009) (pos 2_009)
    ∷ rule_of (Fixed September 22) Stays (pos 2_015) (pos 2_015)
    ∷ rule_of (Fixed September 22) Stays (pos 2_026) (pos 2_026)
    ∷ rule_of (Fixed September 21) Stays (pos 2_032) (pos 2_032)
    ∷ rule_of (Fixed September 22) Stays (pos 2_037) (pos 2_037)
    ∷ rule_of (Fixed September 22) Stays (pos 2_043) (pos 2_043)
    ∷ rule_of (Fixed September 21) Stays (pos 2_049) (pos 2_049)
    ∷ rule_of (Fixed September 22) Stays (pos 2_054) (pos 2_054)
    ∷ rule_of (Fixed September 21) Stays (pos 2_060) (pos 2_060)
    ∷ rule_of (Fixed September 22) Stays (pos 2_071) (pos 2_071)
    ∷ rule_of (Fixed September 21) Stays (pos 2_077) (pos 2_077)
    ∷ rule_of (Fixed September 21) Stays (pos 2_088) (pos 2_088)
    ∷ rule_of (Fixed September 21) Stays (pos 2_094) (pos 2_094)
    ∷ rule_of (Fixed September 22) Stays (pos 2_099) (pos 2_099)
    ∷ []
