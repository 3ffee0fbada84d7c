-- The form of a text of ISO 8601, and where an error of it is.
use Rattle.std.proofs.Common.{◌≡◌, ◌∙◌, true, false, if◌then◌else◌, ℕ, List, Result, Ok, Err, IfErr, sym, ap, subst}
use Rattle.chrono_reading.specs.DateErrors.{error_at}
use Rattle.chrono_reading.specs.declared.error.ReadError.{ReadError}
use Rattle.chrono_stamps.specs.IsoErrors.{IsExtendedError}
use Rattle.chrono_stamps.specs.IsoForms.{IsIso8601Error, basic_byte, error_back, extended_form, is_basic, with_separators}

pub form_as_it_is : (text : List ℕ) → is_basic text ≡ false → extended_form text ≡ text
form_as_it_is text e = ap (λ b. if b then with_separators text else text) e

pub form_put_in : (text : List ℕ) → is_basic text ≡ true → extended_form text ≡ with_separators text
form_put_in text e = ap (λ b. if b then with_separators text else text) e

same_error : (text : List ℕ) (e : ReadError) → is_basic text ≡ false → e ≡ error_back text e
same_error text e is = sym (ap (λ b. if b then error_at e.cause (basic_byte text e.byte) else e) is)

pub error_as_it_is : {A : Type 0} (text : List ℕ) (r : Result A ReadError) → is_basic text ≡ false → IfErr r (λ e. IsExtendedError text e) → IfErr r (λ e. IsIso8601Error text e)
error_as_it_is text (Ok x) is error = tt
error_as_it_is text (Err e) is error = (e, subst (λ (l : List ℕ). IsExtendedError l e) (sym (form_as_it_is text is)) error, same_error text e is)

pub error_put_back : (text : List ℕ) (f : ReadError) (byte : ℕ) → is_basic text ≡ true → IsExtendedError (extended_form text) f → byte ≡ basic_byte text f.byte → IsIso8601Error text (error_at f.cause byte)
error_put_back text f byte is error place =
    (f, error, ap (λ n. error_at f.cause n) place ∙ sym (ap (λ b. if b then error_at f.cause (basic_byte text f.byte) else f) is))
