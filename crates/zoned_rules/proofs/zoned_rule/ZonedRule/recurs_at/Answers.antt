use Rattle.std.proofs.Common.{ℤ, of_z, to_z, w64, subst}
use Rattle.std.proofs.lemmas.Int.{to_z-of_z}
use Rattle.zoned_rules.specs.Recurs.{RecursWithin}
use Rattle.zoned_rules.proofs.PublicCalls.{back_there}
use Rattle.zoned_rules.proofs.SecondsAgain.{no_later_second, same_second, second_before}
use Rattle.zoned_rules.proofs.zoned_rule.ZonedRule.recurs_at.Goals as goal

pub returns-in-Some-clause-yes : goal.returns-in-Some-clause-yes
returns-in-Some-clause-yes g c = λ h.
    let ahead = g.Z.TimeZone.ahead c.args.self.now.zone in
    let second = c.args.second in
    let found = c.in-Some.found in
    let ok = c.in-Some.ensures.recurs in
    let is = same_second second (to_z w64 (of_z w64 second)) found (to_z w64 (of_z w64 found)) c.requires (to_z-of_z w64 second c.ranges.second) (back_there ahead found ok.1.recurs.recurs.dates) ok.0 h in
    subst (λ (x : ℤ). RecursWithin c.args.self.now.local ahead c.args.self.now.bound x) is ok.1

pub returns-in-Some-clause-no : goal.returns-in-Some-clause-no
returns-in-Some-clause-no g c = λ h f.
    let ahead = g.Z.TimeZone.ahead c.args.self.now.zone in
    let second = c.args.second in
    let found = c.in-Some.found in
    let here = to_z-of_z w64 second c.ranges.second in
    let high = c.in-Some.ensures.least second (second_before second (to_z w64 (of_z w64 second)) c.requires here) f in
    no_later_second second (to_z w64 (of_z w64 second)) found (to_z w64 (of_z w64 found)) here (back_there ahead found c.in-Some.ensures.recurs.1.recurs.recurs.dates) high h

pub returns-in-None-clause-no : goal.returns-in-None-clause-no
returns-in-None-clause-no g c = λ h f.
    let second = c.args.second in
    absurd (c.in-None.ensures.least second (second_before second (to_z w64 (of_z w64 second)) c.requires (to_z-of_z w64 second c.ranges.second)) f)
