use Rattle.std.proofs.Common.{[], ◌∷◌, ◌++◌, subst}
use Rattle.std.specs.Str.{IsAscii}
use Rattle.std.proofs.lemmas.Str.{IsAscii-append}
use Rattle.std.proofs.lemmas.Str.Ascii.{IsAscii-nil, IsAscii-cons}
use Rattle.chrono_clock.specs.TimeText.{time_text}
use Rattle.chrono_naive.specs.DateText.{date_text}
use Rattle.chrono_datetime.proofs.naive_date_time.NaiveDateTime.put_into.Goals as goal

pub returns-clause-ascii : goal.returns-clause-ascii
returns-clause-ascii g c = λ small.
    let m = c.args.self.now in
    let between = c.args.separator ∷ [] in
    let date = subst (λ d. IsAscii (date_text d)) c.date.ensures c.put_into.ensures.ascii in
    let time = subst (λ t. IsAscii (time_text t)) c.time.ensures c.put_into-2.ensures.ascii in
    IsAscii-append (date_text m.date ++ between) (time_text m.time)
    (IsAscii-append (date_text m.date) between date (IsAscii-cons c.args.separator [] small IsAscii-nil)) time
