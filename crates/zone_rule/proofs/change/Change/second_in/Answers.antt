use Rattle.std.proofs.Common.{ap, arith, ◌∙◌, ◌≡◌, ◌<◌, ℤ, pos, negsuc, SFits, ◌+ℤ◌, ◌-ℤ◌, ◌*ℤ◌, to_z, of_z, w32, w64, unsigned_abs}
use Rattle.std.proofs.lemmas.Int.{to_z-of_z}
use Rattle.zone_rule.specs.Changes.{YearlyChange, day_in_year}
use Rattle.zone_rule.specs.declared.rule_day.RuleDay.{RuleDay}
use Rattle.zone_rule.proofs.change.Change.second_in.Goals as goal

fits32 : (y : ℤ) → unsigned_abs y < 604_800 → SFits w32 y
fits32 (pos n) h = record { sfits = omega (arith, h) }
fits32 (negsuc n) h = record { sfits = omega (arith, h) }

pub returns-clause-value : goal.returns-clause-value
returns-clause-value c =
    let year : to_z w32 (of_z w32 c.args.year) ≡ c.args.year = to_z-of_z w32 c.args.year c.ranges.year in
    let day : c.self.inside.day ≡ c.args.self.now.day = ap (λ (x : YearlyChange). x.day) c.self.view_is in
    let second : c.self.inside.second ≡ c.args.self.now.second = ap (λ (x : YearlyChange). x.second) c.self.view_is in
    let number : to_z w32 (of_z w32 c.number_in.result) ≡ day_in_year c.args.year c.args.self.now.day =
    to_z-of_z w32 c.number_in.result (record { sfits = c.number_in.type_inv }) ∙ c.number_in.ensures.value ∙ ap (λ (y : ℤ). day_in_year y c.self.inside.day) year ∙ ap (λ (d : RuleDay). day_in_year c.args.year d) day in
    let shown : to_z w32 (of_z w32 c.self.inside.second) ≡ c.args.self.now.second = to_z-of_z w32 c.self.inside.second (fits32 c.self.inside.second c.self.invariant.change.second) ∙ second in
    let offset : to_z w32 (of_z w32 c.local_minus_utc.result) ≡ c.args.offset = to_z-of_z w32 c.local_minus_utc.result (record { sfits = c.local_minus_utc.type_inv }) ∙ c.local_minus_utc.ensures.value in
    to_z-of_z w64 c.second_of.result (record { sfits = c.second_of.type_inv })
    ∙ c.second_of.ensures.value
    ∙ ap (λ (n : ℤ). (n -ℤ pos 719_163) *ℤ pos 86_400 +ℤ to_z w32 (of_z w32 c.self.inside.second) -ℤ to_z w32 (of_z w32 c.local_minus_utc.result)) number
    ∙ ap (λ (s : ℤ). (day_in_year c.args.year c.args.self.now.day -ℤ pos 719_163) *ℤ pos 86_400 +ℤ s -ℤ to_z w32 (of_z w32 c.local_minus_utc.result)) shown
    ∙ ap (λ (o : ℤ). (day_in_year c.args.year c.args.self.now.day -ℤ pos 719_163) *ℤ pos 86_400 +ℤ c.args.self.now.second -ℤ o) offset
