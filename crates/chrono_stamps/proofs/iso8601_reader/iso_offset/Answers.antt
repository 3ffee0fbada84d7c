use Rattle.std.proofs.Common.{◌≢◌, List, ℕ, length, subst, sym, arith}
use Rattle.chrono_stamps.specs.Iso8601.{IsSignedOffset}
use Rattle.chrono_stamps.proofs.IsoOffsetLemmas.{not_zulu, one_is_zulu, shown_alone, shown_hour, signed_is, zulu_found, zulu_is}
use Rattle.chrono_stamps.proofs.iso8601_reader.iso_offset.Goals as goal

pub returns-then-text-eq1-clause-read : goal.returns-then-text-eq1-clause-read
returns-then-text-eq1-clause-read c = zulu_is c.args.text.now c.zulu.result (omega arith) c.zulu.ensures.some

pub returns-then-text-eq1-clause-every : goal.returns-then-text-eq1-clause-every
returns-then-text-eq1-clause-every c = λ x is.
    let zulu = one_is_zulu c.args.text.now x (omega arith) is in
    zulu_found _ x c.zulu.result c.zulu.ensures.some c.zulu.ensures.none zulu.0 zulu.1

pub returns-then-text-eq3-clause-read : goal.returns-then-text-eq3-clause-read
returns-then-text-eq3-clause-read c =
    signed_is c.args.text.now _ c.signed_offset.result (sym (shown_hour c.args.text.now (omega arith))) c.signed_offset.ensures.read

pub returns-then-text-eq3-clause-every : goal.returns-then-text-eq3-clause-every
returns-then-text-eq3-clause-every c = λ x is.
    let other : length c.args.text.now ≢ 1 = λ e. omega (arith, e) in
    c.signed_offset.ensures.every x (subst (λ (l : List ℕ). IsSignedOffset l x) (shown_hour c.args.text.now (omega arith)) (not_zulu c.args.text.now x other is))

pub returns-clause-read : goal.returns-clause-read
returns-clause-read c =
    let other : length c.args.text.now ≢ 3 = λ e. omega (arith, e) in
    signed_is c.args.text.now c.args.text.now c.signed_offset-2.result (sym (shown_alone c.args.text.now other)) c.signed_offset-2.ensures.read

pub returns-clause-every : goal.returns-clause-every
returns-clause-every c = λ x is.
    let not_one : length c.args.text.now ≢ 1 = λ e. omega (arith, e) in
    let other : length c.args.text.now ≢ 3 = λ e. omega (arith, e) in
    c.signed_offset-2.ensures.every x (subst (λ (l : List ℕ). IsSignedOffset l x) (shown_alone c.args.text.now other) (not_zulu c.args.text.now x not_one is))
