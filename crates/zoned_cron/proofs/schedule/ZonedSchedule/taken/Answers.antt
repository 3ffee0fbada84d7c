use Rattle.std.proofs.Common.{◌≡◌, ◌-ℤ◌, of_z, to_z, w64, arith}
use Rattle.std.proofs.lemmas.Int.{ints, to_z-of_z}
use Rattle.chrono_instant.specs.Instants.{epoch_second}
use Rattle.chrono_instant.proofs.InstantLemmas.{IsEpochSecond-moment}
use Rattle.zoned_cron.proofs.Instants.{AllDated-mapped, AreTwo-mapped, taken_behind, taken_behind_short, taken_both, taken_earlier, taken_late, taken_later, taken_single}
use Rattle.zoned_cron.proofs.schedule.ZonedSchedule.taken.Goals as goal

pub returns-in-FirstAfter-clause-all : goal.returns-in-FirstAfter-clause-all
returns-in-FirstAfter-clause-all g c =
    let ahead = g.Z.TimeZone.ahead c.args.self.now.zone in
    let second : to_z w64 (of_z w64 c.timestamp-second.result) ≡ c.timestamp-second.result = to_z-of_z w64 c.timestamp-second.result (record { sfits = c.timestamp-second.type_inv }) in
    taken_behind c.args.self.now.policy ahead (epoch_second c.args.local) c.end_of_gap.result c.end_of_gap.ensures (omega (arith, ints, second, c.timestamp-second.ensures.value)) c.in-None.ensures c.in-FirstAfter.is

pub returns-in-Single-clause-all : goal.returns-in-Single-clause-all
returns-in-Single-clause-all g c =
    let ahead = g.Z.TimeZone.ahead c.args.self.now.zone in
    let l = epoch_second c.args.local in
    let r = c.before-in-Single.result in
    let second : to_z w64 (of_z w64 c.timestamp-second.result) ≡ c.timestamp-second.result = to_z-of_z w64 c.timestamp-second.result (record { sfits = c.timestamp-second.type_inv }) in
    let fits : to_z w64 (of_z w64 r) ≡ r = to_z-of_z w64 r (record { sfits = c.before-in-Single.type_inv }) in
    taken_single c.args.self.now.policy ahead l c.in-Single.offset (to_z w64 (of_z w64 r)) (IsEpochSecond-moment c.args.local c.date_times_exist.ensures) c.before-in-Single.ensures.near c.in-Single.ensures
    (omega (arith, ints, second, fits, c.before-in-Single.ensures.value, c.timestamp-second.ensures.value))

pub returns-in-Earlier-clause-all : goal.returns-in-Earlier-clause-all
returns-in-Earlier-clause-all g c =
    let ahead = g.Z.TimeZone.ahead c.args.self.now.zone in
    let l = epoch_second c.args.local in
    let x = to_z w64 (of_z w64 c.before-earlier.result) in
    let y = to_z w64 (of_z w64 c.before-later.result) in
    let date = IsEpochSecond-moment c.args.local c.date_times_exist.ensures in
    let second : to_z w64 (of_z w64 c.timestamp-second.result) ≡ c.timestamp-second.result = to_z-of_z w64 c.timestamp-second.result (record { sfits = c.timestamp-second.type_inv }) in
    let fits_x : x ≡ c.before-earlier.result = to_z-of_z w64 c.before-earlier.result (record { sfits = c.before-earlier.type_inv }) in
    let fits_y : y ≡ c.before-later.result = to_z-of_z w64 c.before-later.result (record { sfits = c.before-later.type_inv }) in
    let at_x : x ≡ (l -ℤ c.in-Ambiguous.first) = omega (arith, ints, second, fits_x, c.before-earlier.ensures.value, c.timestamp-second.ensures.value) in
    let at_y : y ≡ (l -ℤ c.in-Ambiguous.last) = omega (arith, ints, second, fits_y, c.before-later.ensures.value, c.timestamp-second.ensures.value) in
    let dates = AllDated-mapped ahead l c.in-Ambiguous.first c.in-Ambiguous.last date c.before-earlier.ensures.near c.before-later.ensures.near c.in-Ambiguous.ensures in
    let two = AreTwo-mapped ahead l c.in-Ambiguous.first c.in-Ambiguous.last x y c.in-Ambiguous.ensures at_x at_y in
    taken_earlier c.args.self.now.policy ahead l x y dates two c.in-Earlier.is

pub returns-in-Later-clause-all : goal.returns-in-Later-clause-all
returns-in-Later-clause-all g c =
    let ahead = g.Z.TimeZone.ahead c.args.self.now.zone in
    let l = epoch_second c.args.local in
    let x = to_z w64 (of_z w64 c.before-earlier.result) in
    let y = to_z w64 (of_z w64 c.before-later.result) in
    let date = IsEpochSecond-moment c.args.local c.date_times_exist.ensures in
    let second : to_z w64 (of_z w64 c.timestamp-second.result) ≡ c.timestamp-second.result = to_z-of_z w64 c.timestamp-second.result (record { sfits = c.timestamp-second.type_inv }) in
    let fits_x : x ≡ c.before-earlier.result = to_z-of_z w64 c.before-earlier.result (record { sfits = c.before-earlier.type_inv }) in
    let fits_y : y ≡ c.before-later.result = to_z-of_z w64 c.before-later.result (record { sfits = c.before-later.type_inv }) in
    let at_x : x ≡ (l -ℤ c.in-Ambiguous.first) = omega (arith, ints, second, fits_x, c.before-earlier.ensures.value, c.timestamp-second.ensures.value) in
    let at_y : y ≡ (l -ℤ c.in-Ambiguous.last) = omega (arith, ints, second, fits_y, c.before-later.ensures.value, c.timestamp-second.ensures.value) in
    let dates = AllDated-mapped ahead l c.in-Ambiguous.first c.in-Ambiguous.last date c.before-earlier.ensures.near c.before-later.ensures.near c.in-Ambiguous.ensures in
    let two = AreTwo-mapped ahead l c.in-Ambiguous.first c.in-Ambiguous.last x y c.in-Ambiguous.ensures at_x at_y in
    taken_later c.args.self.now.policy ahead l x y dates two c.in-Later.is

pub returns-in-Both-clause-all : goal.returns-in-Both-clause-all
returns-in-Both-clause-all g c =
    let ahead = g.Z.TimeZone.ahead c.args.self.now.zone in
    let l = epoch_second c.args.local in
    let x = to_z w64 (of_z w64 c.before-earlier.result) in
    let y = to_z w64 (of_z w64 c.before-later.result) in
    let date = IsEpochSecond-moment c.args.local c.date_times_exist.ensures in
    let second : to_z w64 (of_z w64 c.timestamp-second.result) ≡ c.timestamp-second.result = to_z-of_z w64 c.timestamp-second.result (record { sfits = c.timestamp-second.type_inv }) in
    let fits_x : x ≡ c.before-earlier.result = to_z-of_z w64 c.before-earlier.result (record { sfits = c.before-earlier.type_inv }) in
    let fits_y : y ≡ c.before-later.result = to_z-of_z w64 c.before-later.result (record { sfits = c.before-later.type_inv }) in
    let at_x : x ≡ (l -ℤ c.in-Ambiguous.first) = omega (arith, ints, second, fits_x, c.before-earlier.ensures.value, c.timestamp-second.ensures.value) in
    let at_y : y ≡ (l -ℤ c.in-Ambiguous.last) = omega (arith, ints, second, fits_y, c.before-later.ensures.value, c.timestamp-second.ensures.value) in
    let dates = AllDated-mapped ahead l c.in-Ambiguous.first c.in-Ambiguous.last date c.before-earlier.ensures.near c.before-later.ensures.near c.in-Ambiguous.ensures in
    let two = AreTwo-mapped ahead l c.in-Ambiguous.first c.in-Ambiguous.last x y c.in-Ambiguous.ensures at_x at_y in
    taken_both c.args.self.now.policy ahead l x y dates two c.in-Both.is

pub returns-in-FirstAfterShort-clause-all : goal.returns-in-FirstAfterShort-clause-all
returns-in-FirstAfterShort-clause-all g c =
    let ahead = g.Z.TimeZone.ahead c.args.self.now.zone in
    let second : to_z w64 (of_z w64 c.timestamp-second.result) ≡ c.timestamp-second.result = to_z-of_z w64 c.timestamp-second.result (record { sfits = c.timestamp-second.type_inv }) in
    taken_behind_short c.args.self.now.policy ahead (epoch_second c.args.local) c.end_of_short_gap.result c.end_of_short_gap.ensures (omega (arith, ints, second, c.timestamp-second.ensures.value)) c.in-None.ensures c.in-FirstAfterShort.is

pub returns-in-EarlierOfShort-clause-all : goal.returns-in-EarlierOfShort-clause-all
returns-in-EarlierOfShort-clause-all g c =
    let ahead = g.Z.TimeZone.ahead c.args.self.now.zone in
    let l = epoch_second c.args.local in
    let x = to_z w64 (of_z w64 c.before-earlier.result) in
    let y = to_z w64 (of_z w64 c.before-later.result) in
    let date = IsEpochSecond-moment c.args.local c.date_times_exist.ensures in
    let second : to_z w64 (of_z w64 c.timestamp-second.result) ≡ c.timestamp-second.result = to_z-of_z w64 c.timestamp-second.result (record { sfits = c.timestamp-second.type_inv }) in
    let fits_x : x ≡ c.before-earlier.result = to_z-of_z w64 c.before-earlier.result (record { sfits = c.before-earlier.type_inv }) in
    let fits_y : y ≡ c.before-later.result = to_z-of_z w64 c.before-later.result (record { sfits = c.before-later.type_inv }) in
    let at_x : x ≡ (l -ℤ c.in-Ambiguous.first) = omega (arith, ints, second, fits_x, c.before-earlier.ensures.value, c.timestamp-second.ensures.value) in
    let at_y : y ≡ (l -ℤ c.in-Ambiguous.last) = omega (arith, ints, second, fits_y, c.before-later.ensures.value, c.timestamp-second.ensures.value) in
    let dates = AllDated-mapped ahead l c.in-Ambiguous.first c.in-Ambiguous.last date c.before-earlier.ensures.near c.before-later.ensures.near c.in-Ambiguous.ensures in
    let two = AreTwo-mapped ahead l c.in-Ambiguous.first c.in-Ambiguous.last x y c.in-Ambiguous.ensures at_x at_y in
    taken_late c.args.self.now.policy ahead l x y c.first_or_late.result dates two c.in-EarlierOfShort.is c.first_or_late.ensures
