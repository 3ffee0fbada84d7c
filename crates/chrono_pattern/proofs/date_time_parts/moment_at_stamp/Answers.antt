use Rattle.std.proofs.Common.{ℕ, ◌+◌, ap, sym, ◌∙◌, arith, to_z, of_z, w64}
use Rattle.chrono_calendar.proofs.Signed.{casts, signed}
use Rattle.chrono_datetime.specs.Duration.{nanos_per_second}
use Rattle.chrono_pattern.proofs.ZonedPartLemmas.{found_at, leap_above, leap_fraction, leap_named, plain_below, plain_fraction, plain_named, shown_at}
use Rattle.chrono_pattern.proofs.date_time_parts.moment_at_stamp.Goals as goal

pub returns-then-names_leap-clause-every : goal.returns-then-names_leap-clause-every
returns-then-names_leap-clause-every c = λ m shown fits stamp.
    let sixty = sym c.names_leap.ensures ∙ c.if-names_leap.true in
    let local = to_z w64 (of_z w64 c.local_second-local.result) in
    c.leap_second_at.ensures.every m shown
    (leap_fraction c.args.parts m.time shown.1 sixty fits ∙ ap (λ (n : ℕ). nanos_per_second + n) (sym c.size_or_zero-nanos.ensures))
    (leap_named c.args.stamp c.args.offset m local (leap_above c.args.parts m.time sixty fits) stamp
    (omega (arith, signed, casts, c.local_second-local.ensures, c.ranges.stamp.sfits, c.if-stamp.false, c.if-stamp-gt-MOST_SECONDS.false)))

pub returns-else-names_leap-clause-every : goal.returns-else-names_leap-clause-every
returns-else-names_leap-clause-every c = λ m shown fits stamp.
    let other = sym c.names_leap.ensures ∙ c.if-names_leap.false in
    let below = plain_below c.args.parts m.time shown.1 other fits in
    let local = to_z w64 (of_z w64 c.local_second-local.result) in
    found_at c.from_timestamp.result local c.size_or_zero-nanos.result m c.from_timestamp.ensures.value c.from_timestamp.ensures.exists
    (record { date = shown.0; time = shown.1.time }) shown.1
    (omega (arith, signed, casts, plain_named c.args.stamp c.args.offset m below stamp, c.local_second-local.ensures, c.ranges.stamp.sfits, c.if-stamp.false, c.if-stamp-gt-MOST_SECONDS.false))
    (plain_fraction c.args.parts m.time shown.1 other fits ∙ sym c.size_or_zero-nanos.ensures)

pub returns-else-names_leap-clause-clock : goal.returns-else-names_leap-clause-clock
returns-else-names_leap-clause-clock c = shown_at c.from_timestamp.result _ _ c.from_timestamp.ensures.value c.from_timestamp.ensures.exists
