use Rattle.std.proofs.Common.{of_z, to_z, w64, subst}
use Rattle.std.proofs.lemmas.Int.{to_z-of_z}
use Rattle.zoned_rules.specs.ZonedSets.{IsInZonedSet}
use Rattle.zoned_rules.proofs.PublicCalls.{back_there}
use Rattle.zoned_rules.proofs.SecondsAgain.{no_later_second, same_second, second_before}
use Rattle.zoned_rules.proofs.zoned_recurrence.ZonedRecurrence.has_second.Goals as goal

pub returns-in-Some-clause-yes : goal.returns-in-Some-clause-yes
returns-in-Some-clause-yes g c = λ h.
    let ahead = g.Z.TimeZone.ahead c.args.self.now.rule.zone in
    let second = c.args.second in
    let found = c.in-Some.found in
    let ok = c.in-Some.ensures.member in
    let is = same_second second (to_z w64 (of_z w64 second)) found (to_z w64 (of_z w64 found)) c.requires (to_z-of_z w64 second c.ranges.second) (back_there ahead found ok.1.included.has_dates) ok.0 h in
    subst (IsInZonedSet c.args.self.now.rule.local ahead c.args.self.now.rule.bound c.args.self.now.dates.now c.args.self.now.exceptions.now) is ok.1

pub returns-in-Some-clause-no : goal.returns-in-Some-clause-no
returns-in-Some-clause-no g c = λ h f.
    let ahead = g.Z.TimeZone.ahead c.args.self.now.rule.zone in
    let second = c.args.second in
    let found = c.in-Some.found in
    let here = to_z-of_z w64 second c.ranges.second in
    let high = c.in-Some.ensures.least second (second_before second (to_z w64 (of_z w64 second)) c.requires here) f in
    no_later_second second (to_z w64 (of_z w64 second)) found (to_z w64 (of_z w64 found)) here (back_there ahead found c.in-Some.ensures.member.1.included.has_dates) high h

pub returns-in-None-clause-no : goal.returns-in-None-clause-no
returns-in-None-clause-no g c = λ h f.
    let second = c.args.second in
    absurd (c.in-None.ensures.least second (second_before second (to_z w64 (of_z w64 second)) c.requires (to_z-of_z w64 second c.ranges.second)) f)
