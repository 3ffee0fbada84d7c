-- Pieces of a text that are read one after another.
use Rattle.std.proofs.Common.{◌≡◌, ◌∙◌, ℕ, ◌+◌, ◌-◌, ◌≤◌, List, [], ◌∷◌, length, suc, Bool, true, false, if◌then◌else◌, Ok, Err, refl, ap, arith}
use Rattle.chrono_cron.specs.declared.text.schedule_error.ScheduleFault.{ScheduleFault}
use Rattle.chrono_sets.specs.FiniteSets.{FiniteSet, with_number}
use Rattle.timed_cron.specs.DialectFields.{fault_behind, read_then, items_read, span_lists, span_read, with_listed}
use Rattle.timed_cron.specs.declared.field_form.FieldForm.{FieldForm}
use Rattle.timed_cron.specs.declared.field_form.Span.{Span}

pub stops : {S : Type 0} (with : S → FieldForm → Span → S) (form : FieldForm) (set : S) (place : ℕ) (item : List ℕ) (items : List (List ℕ)) (e : ℕ × ScheduleFault)
    → span_read form item ≡ Err e → items_read with form set place (item ∷ items) ≡ Err (place + e.0, e.1)
unfolding items_read
stops with form set place item items e is =
    ap (λ r. read_then (fault_behind place r) (λ span. items_read with form (with set form span) (place + (length item + 1)) items)) is

pub goes_on : {S : Type 0} (with : S → FieldForm → Span → S) (form : FieldForm) (set : S) (place : ℕ) (item : List ℕ) (items : List (List ℕ)) (span : Span)
    → span_read form item ≡ Ok span → items_read with form set place (item ∷ items) ≡ items_read with form (with set form span) (place + (length item + 1)) items
unfolding items_read
goes_on with form set place item items span is =
    ap (λ r. read_then (fault_behind place r) (λ span. items_read with form (with set form span) (place + (length item + 1)) items)) is

pub ends : {S : Type 0} (with : S → FieldForm → Span → S) (form : FieldForm) (set : S) (place : ℕ) → items_read with form set place [] ≡ Ok set
unfolding items_read
ends with form set place = refl

-- ---- the numbers of a span, one after another

pub chosen : (b : Bool) (a c : FiniteSet) → b ≡ true → (if b then a else c) ≡ a
chosen b a c e = ap (λ (t : Bool). if t then a else c) e

pub left_out : (b : Bool) (a c : FiniteSet) → b ≡ false → (if b then a else c) ≡ c
left_out b a c e = ap (λ (t : Bool). if t then a else c) e

pub listed_step : (form : FieldForm) (s : Span) (set next : FiniteSet) (n : ℕ) → n ≤ form.high → (if span_lists form s n then with_number set (n - form.base) else set) ≡ next
    → with_listed form s set n (form.high + 1 - n) ≡ with_listed form s next (n + 1) (form.high + 1 - (n + 1))
listed_step form s set next n small e =
    let count : form.high + 1 - n ≡ suc (form.high + 1 - (n + 1)) = omega (arith, small) in
    ap (with_listed form s set n) count ∙ ap (λ t. with_listed form s t (n + 1) (form.high + 1 - (n + 1))) e
