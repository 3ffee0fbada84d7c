use Rattle.std.proofs.Common.{◌≡◌, ◌↔◌, ◌+◌, ◌∙◌, ap, subst, true, false, Ok, Err, IsErr, List, ℕ}
use Rattle.std.specs.Prelude.{Result}
use Rattle.chrono_rules.specs.RuleErrors.{are_named, in_text, unfit_error, unnamed_error, unread_error}
use Rattle.chrono_rules.specs.RuleTexts.{IsRuleText, Says, body_start, fits}
use Rattle.chrono_rules.specs.declared.rule.Rule.{Rule}
use Rattle.chrono_rules.specs.declared.text.rule_error.RuleError.{RuleError}
use Rattle.chrono_rules.proofs.text.rule_reader.read_rule.Goals as goal

-- what is read of the parts, as it is answered of the text
abbrev of_text : List ℕ → Result Rule RuleError → Result Rule RuleError
of_text text (Ok r) = Ok r
of_text text (Err e) = Err (in_text text e)

-- what is said of the parts of a text and of an answer
abbrev IsEach : Result Rule RuleError → List ℕ → Type 0
IsEach result body = (r : Rule) → IsRuleText body r → result ≡ Ok r

abbrev IsFound : Result Rule RuleError → List ℕ → Type 0
IsFound result body = IsErr result ↔ ((r : Rule) → ¬ IsRuleText body r)

abbrev IsUnknown : List ℕ → Result Rule RuleError → List ℕ → Type 0
IsUnknown text result body = are_named body ≡ false → result ≡ Err (in_text text (unnamed_error body))

abbrev IsUnread : List ℕ → Result Rule RuleError → List ℕ → Type 0
IsUnread text result body = are_named body ≡ true → ((r : Rule) → ¬ Says body r) → result ≡ Err (in_text text (unread_error body))

abbrev IsUnfit : List ℕ → Result Rule RuleError → List ℕ → Type 0
IsUnfit text result body = (r : Rule) → are_named body ≡ true → Says body r → fits r ≡ false → result ≡ Err (in_text text (unfit_error body r))

-- the error of a text, found from that of its parts
shifted : (text : List ℕ) (e moved : RuleError) (start : ℕ) → start ≡ body_start text → moved ≡ record { part = e.part; byte = start + e.byte; fault = e.fault } → Err moved ≡ of_text text (Err e)
shifted text e moved start at is = ap Err (is ∙ ap (λ (n : ℕ). record { part = e.part; byte = n + e.byte; fault = e.fault }) at)

-- ---- a rule

pub returns-in-Ok-clause-read : goal.returns-in-Ok-clause-read
returns-in-Ok-clause-read c = subst (λ (t : List ℕ). IsRuleText t c.in-Ok.rule) c.rule_body.ensures.body c.in-Ok.ensures.read

pub returns-in-Ok-clause-every : goal.returns-in-Ok-clause-every
returns-in-Ok-clause-every c = subst (IsEach (Ok c.in-Ok.rule)) c.rule_body.ensures.body c.in-Ok.ensures.every

pub returns-in-Ok-clause-found : goal.returns-in-Ok-clause-found
returns-in-Ok-clause-found c = subst (IsFound (Ok c.in-Ok.rule)) c.rule_body.ensures.body c.in-Ok.ensures.found

pub returns-in-Ok-clause-unknown : goal.returns-in-Ok-clause-unknown
returns-in-Ok-clause-unknown c =
    let text = c.args.text.now in
    subst (IsUnknown text (Ok c.in-Ok.rule)) c.rule_body.ensures.body (λ none. ap (of_text text) (c.in-Ok.ensures.unknown none))

pub returns-in-Ok-clause-unread : goal.returns-in-Ok-clause-unread
returns-in-Ok-clause-unread c =
    let text = c.args.text.now in
    subst (IsUnread text (Ok c.in-Ok.rule)) c.rule_body.ensures.body (λ named none. ap (of_text text) (c.in-Ok.ensures.unread named none))

pub returns-in-Ok-clause-unfit : goal.returns-in-Ok-clause-unfit
returns-in-Ok-clause-unfit c =
    let text = c.args.text.now in
    subst (IsUnfit text (Ok c.in-Ok.rule)) c.rule_body.ensures.body (λ r named says unfit. ap (of_text text) (c.in-Ok.ensures.unfit r named says unfit))

-- ---- none

pub returns-in-Err-clause-every : goal.returns-in-Err-clause-every
returns-in-Err-clause-every c =
    let text = c.args.text.now in
    let same = shifted text c.in-Err.error c.behind.result c.body_start.result c.body_start.ensures c.behind.ensures in
    subst (IsEach (Err c.behind.result)) c.rule_body.ensures.body (λ r is. same ∙ ap (of_text text) (c.in-Err.ensures.every r is))

pub returns-in-Err-clause-found : goal.returns-in-Err-clause-found
returns-in-Err-clause-found c = subst (IsFound (Err c.behind.result)) c.rule_body.ensures.body c.in-Err.ensures.found

pub returns-in-Err-clause-unknown : goal.returns-in-Err-clause-unknown
returns-in-Err-clause-unknown c =
    let text = c.args.text.now in
    let same = shifted text c.in-Err.error c.behind.result c.body_start.result c.body_start.ensures c.behind.ensures in
    subst (IsUnknown text (Err c.behind.result)) c.rule_body.ensures.body (λ none. same ∙ ap (of_text text) (c.in-Err.ensures.unknown none))

pub returns-in-Err-clause-unread : goal.returns-in-Err-clause-unread
returns-in-Err-clause-unread c =
    let text = c.args.text.now in
    let same = shifted text c.in-Err.error c.behind.result c.body_start.result c.body_start.ensures c.behind.ensures in
    subst (IsUnread text (Err c.behind.result)) c.rule_body.ensures.body (λ named none. same ∙ ap (of_text text) (c.in-Err.ensures.unread named none))

pub returns-in-Err-clause-unfit : goal.returns-in-Err-clause-unfit
returns-in-Err-clause-unfit c =
    let text = c.args.text.now in
    let same = shifted text c.in-Err.error c.behind.result c.body_start.result c.body_start.ensures c.behind.ensures in
    subst (IsUnfit text (Err c.behind.result)) c.rule_body.ensures.body (λ r named says unfit. same ∙ ap (of_text text) (c.in-Err.ensures.unfit r named says unfit))
