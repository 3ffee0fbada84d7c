-- The error of a text says that fields are missing exactly where the pattern names no such value, but for a fraction with no second.
use Rattle.std.proofs.Common.{◌≡◌, ℕ, Bool, true, false, List, Result, Ok, Err, refl, ap, sym, ◌∙◌}
use Rattle.std.proofs.lemmas.Bool.{true≢false}
use Rattle.std.specs.Prelude.{MatchResult, length}
use Rattle.chrono_pattern.specs.DateParts.{names_date}
use Rattle.chrono_pattern.specs.NamedParts.{named_parts, sure_parts}
use Rattle.chrono_pattern.specs.Parses.{IsParseError}
use Rattle.chrono_pattern.specs.Parts.{fault_of_parts}
use Rattle.chrono_pattern.specs.Reads.{read_error, text_read}
use Rattle.chrono_pattern.specs.TimeParts.{names_second, names_time}
use Rattle.chrono_pattern.specs.ZonedParts.{names_moment, names_zoned}
use Rattle.chrono_pattern.specs.declared.error.PatternReadError.{PatternReadError}
use Rattle.chrono_pattern.specs.declared.error.ReadFault.{ReadFault}
use Rattle.chrono_pattern.specs.declared.error.ReadFault.TheVariants.{Impossible, NotEnough}
use Rattle.chrono_pattern.specs.declared.parsed.Parsed.{Parsed}
use Rattle.chrono_pattern.specs.declared.stop.Stop.{Stop}
use Rattle.chrono_pattern.proofs.NamedLemmas.{each_text_date, each_text_moment, each_text_time, each_text_zoned}
use Rattle.chrono_pattern.proofs.ShapeLemmas.{Like, enough, read_like}
use Rattle.chrono_pattern.proofs.StopLemmas.{is_of_text, text_stop}

-- what each text gives tells as much as the pattern
abbrev IsTold : (Parsed → Bool) → List ℕ → List ℕ → Type 0
IsTold names bytes text = (parts : Parsed) → text_read bytes text ≡ Ok parts → names parts ≡ names (sure_parts bytes)

by_read : (names : Parsed → Bool) (bytes text : List ℕ) (e : PatternReadError) → IsTold names bytes text → names (sure_parts bytes) ≡ true
    → e.cause ≡ NotEnough → (o : Result Parsed Stop) → text_read bytes text ≡ o
    → MatchResult o (λ parts. (e.byte ≡ length text) × (e.cause ≡ fault_of_parts (names parts))) (λ stop. e ≡ read_error text stop) → ⊥
by_read names bytes text e told named missing (Ok parts) is it =
    let impossible : e.cause ≡ Impossible = it.1 ∙ ap fault_of_parts (told parts is ∙ named) in
    true≢false (ap (λ (k : ReadFault). is_of_text k) (sym impossible ∙ missing))
by_read names bytes text e told named missing (Err stop) is it =
    text_stop bytes text stop is (sym (ap (λ (x : PatternReadError). x.cause) it) ∙ missing)

by_names : (names : Parsed → Bool) (bytes text : List ℕ) (e : PatternReadError) → IsTold names bytes text → IsParseError names bytes text e
    → e.cause ≡ NotEnough → (b : Bool) → names (sure_parts bytes) ≡ b → names (sure_parts bytes) ≡ false
by_names names bytes text e told is missing false h = h
by_names names bytes text e told is missing true h =
    absurd (by_read names bytes text e told h missing (text_read bytes text) refl (is.named h))

exactly : (names : Parsed → Bool) (bytes text : List ℕ) (e : PatternReadError) → IsTold names bytes text → IsParseError names bytes text e
    → (e.cause ≡ NotEnough → names (sure_parts bytes) ≡ false) × (names (sure_parts bytes) ≡ false → e.cause ≡ NotEnough)
exactly names bytes text e told is = (
  λ missing. by_names names bytes text e told is missing (names (sure_parts bytes)) refl,
  λ none. ap (λ (x : PatternReadError). x.cause) (is.unnamed none),
)

second_given : (p q : Parsed) → Like p q → names_second q ≡ true → names_second p ≡ true
second_given p q e named = enough p.second p.nanosecond q.second q.nanosecond (ap (λ (t : Parsed). t.second) e.same) e.fraction named

text_second : (bytes text : List ℕ) (p : Parsed) → names_second (named_parts bytes) ≡ true → text_read bytes text ≡ Ok p → names_second p ≡ true
text_second bytes text p named is = second_given p (named_parts bytes) (read_like bytes text p is) named

pub date_exactly : (bytes text : List ℕ) (e : PatternReadError) → IsParseError names_date bytes text e
    → (e.cause ≡ NotEnough → names_date (sure_parts bytes) ≡ false) × (names_date (sure_parts bytes) ≡ false → e.cause ≡ NotEnough)
date_exactly bytes text e is = exactly names_date bytes text e (λ p read. each_text_date bytes text p read) is

pub time_exactly : (bytes text : List ℕ) (e : PatternReadError) → names_second (named_parts bytes) ≡ true → IsParseError names_time bytes text e
    → (e.cause ≡ NotEnough → names_time (sure_parts bytes) ≡ false) × (names_time (sure_parts bytes) ≡ false → e.cause ≡ NotEnough)
time_exactly bytes text e second is = exactly names_time bytes text e (λ p read. each_text_time bytes text p read (text_second bytes text p second read)) is

pub moment_exactly : (bytes text : List ℕ) (e : PatternReadError) → names_second (named_parts bytes) ≡ true → IsParseError names_moment bytes text e
    → (e.cause ≡ NotEnough → names_moment (sure_parts bytes) ≡ false) × (names_moment (sure_parts bytes) ≡ false → e.cause ≡ NotEnough)
moment_exactly bytes text e second is = exactly names_moment bytes text e (λ p read. each_text_moment bytes text p read (text_second bytes text p second read)) is

pub zoned_exactly : (bytes text : List ℕ) (e : PatternReadError) → names_second (named_parts bytes) ≡ true → IsParseError names_zoned bytes text e
    → (e.cause ≡ NotEnough → names_zoned (sure_parts bytes) ≡ false) × (names_zoned (sure_parts bytes) ≡ false → e.cause ≡ NotEnough)
zoned_exactly bytes text e second is = exactly names_zoned bytes text e (λ p read. each_text_zoned bytes text p read (text_second bytes text p second read)) is
