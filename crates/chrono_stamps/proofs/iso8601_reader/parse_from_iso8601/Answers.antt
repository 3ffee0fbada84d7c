use Rattle.std.proofs.Common.{◌≡◌, ◌∙◌, List, ℕ, IfOk, subst, sym}
use Rattle.chrono_instant.specs.Offsets.{moment_ahead}
use Rattle.chrono_stamps.specs.Iso8601.{IsExtendedText}
use Rattle.chrono_stamps.specs.IsoErrors.{IsExtendedError}
use Rattle.chrono_stamps.specs.IsoForms.{extended_form}
use Rattle.chrono_stamps.proofs.IsoFormLemmas.{error_as_it_is, error_put_back, form_as_it_is, form_put_in}
use Rattle.chrono_stamps.proofs.iso8601_reader.parse_from_iso8601.Goals as goal

pub returns-then-not-is_basic-clause-read : goal.returns-then-not-is_basic-clause-read
returns-then-not-is_basic-clause-read c =
    let same = form_as_it_is c.args.text.now (sym c.is_basic.ensures ∙ c.if-not-is_basic.true) in
    subst (λ (l : List ℕ). IfOk c.extended_stamp.result (λ it. IsExtendedText l (moment_ahead it.utc it.zone) it.zone)) (sym same) c.extended_stamp.ensures.read

pub returns-then-not-is_basic-clause-every : goal.returns-then-not-is_basic-clause-every
returns-then-not-is_basic-clause-every c = λ m x is.
    let same = form_as_it_is c.args.text.now (sym c.is_basic.ensures ∙ c.if-not-is_basic.true) in
    c.extended_stamp.ensures.every m x (subst (λ (l : List ℕ). IsExtendedText l m x) same is)

pub returns-then-not-is_basic-clause-error : goal.returns-then-not-is_basic-clause-error
returns-then-not-is_basic-clause-error c =
    error_as_it_is c.args.text.now _ (sym c.is_basic.ensures ∙ c.if-not-is_basic.true) c.extended_stamp.ensures.error

pub returns-in-Ok-clause-read : goal.returns-in-Ok-clause-read
returns-in-Ok-clause-read c =
    let form : c.as_bytes.result.now ≡ extended_form c.args.text.now = c.as_bytes.ensures.value ∙ c.with_separators-extended.ensures ∙ sym (form_put_in c.args.text.now (sym c.is_basic.ensures ∙ c.if-not-is_basic.false)) in
    subst (λ (l : List ℕ). IsExtendedText l (moment_ahead c.in-Ok.stamp.utc c.in-Ok.stamp.zone) c.in-Ok.stamp.zone) form c.in-Ok.ensures.read

pub returns-in-Ok-clause-every : goal.returns-in-Ok-clause-every
returns-in-Ok-clause-every c = λ m x is.
    let form : c.as_bytes.result.now ≡ extended_form c.args.text.now = c.as_bytes.ensures.value ∙ c.with_separators-extended.ensures ∙ sym (form_put_in c.args.text.now (sym c.is_basic.ensures ∙ c.if-not-is_basic.false)) in
    c.in-Ok.ensures.every m x (subst (λ (l : List ℕ). IsExtendedText l m x) (sym form) is)

pub returns-in-Err-clause-every : goal.returns-in-Err-clause-every
returns-in-Err-clause-every c = λ m x is.
    let form : c.as_bytes.result.now ≡ extended_form c.args.text.now = c.as_bytes.ensures.value ∙ c.with_separators-extended.ensures ∙ sym (form_put_in c.args.text.now (sym c.is_basic.ensures ∙ c.if-not-is_basic.false)) in
    c.in-Err.ensures.every m x (subst (λ (l : List ℕ). IsExtendedText l m x) (sym form) is)

pub returns-in-Err-clause-error : goal.returns-in-Err-clause-error
returns-in-Err-clause-error c =
    let basic = sym c.is_basic.ensures ∙ c.if-not-is_basic.false in
    let form : c.as_bytes.result.now ≡ extended_form c.args.text.now = c.as_bytes.ensures.value ∙ c.with_separators-extended.ensures ∙ sym (form_put_in c.args.text.now basic) in
    error_put_back c.args.text.now c.in-Err.error _ basic (subst (λ (l : List ℕ). IsExtendedError l c.in-Err.error) form c.in-Err.ensures.error) c.basic_byte.ensures
