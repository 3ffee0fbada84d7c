use Rattle.std.proofs.Common.{length, arith, ap, sym}
use Rattle.timed_cron.specs.TimedErrors.{four_fault}
use Rattle.timed_cron.proofs.TextWords.{four_at, front, no_four, none_at, word_at}
use Rattle.timed_cron.proofs.words.four_words.Goals as goal

pub returns-in_default-clause-fault : goal.returns-in_default-clause-fault
returns-in_default-clause-fault c =
    sym (ap (four_fault (length c.args.text.now)) (none_at c.args.text.now c.args.from c.requires c.in_default.ensures.none))

pub returns-in_default-clause-others : goal.returns-in_default-clause-others
returns-in_default-clause-others c =
    no_four _ _ (none_at c.args.text.now c.args.from c.requires c.in_default.ensures.none) (λ four. absurd (omega (arith, four)))

pub returns-in_default-next_word-clause-fault : goal.returns-in_default-next_word-clause-fault
returns-in_default-next_word-clause-fault c =
    let text = c.args.text.now in
    let a = c.in-Some.ensures.some in
    sym (ap (four_fault (length text)) (front text c.args.from _ _ _ a (none_at text c.in-Some.first.end a.within c.in_default-next_word.ensures.none)))

pub returns-in_default-next_word-clause-others : goal.returns-in_default-next_word-clause-others
returns-in_default-next_word-clause-others c =
    let text = c.args.text.now in
    let a = c.in-Some.ensures.some in
    no_four _ _ (front text c.args.from _ _ _ a (none_at text c.in-Some.first.end a.within c.in_default-next_word.ensures.none)) (λ four. absurd (omega (arith, four)))

pub returns-in_default-next_word-2-clause-fault : goal.returns-in_default-next_word-2-clause-fault
returns-in_default-next_word-2-clause-fault c =
    let text = c.args.text.now in
    let a = c.in-Some.ensures.some in
    let b = c.in-Some-next_word.ensures.some in
    sym (ap (four_fault (length text)) (front text c.args.from _ _ _ a (front text c.in-Some.first.end _ _ _ b
    (none_at text c.in-Some-next_word.second.end b.within c.in_default-next_word-2.ensures.none))))

pub returns-in_default-next_word-2-clause-others : goal.returns-in_default-next_word-2-clause-others
returns-in_default-next_word-2-clause-others c =
    let text = c.args.text.now in
    let a = c.in-Some.ensures.some in
    let b = c.in-Some-next_word.ensures.some in
    no_four _ _ (front text c.args.from _ _ _ a (front text c.in-Some.first.end _ _ _ b
    (none_at text c.in-Some-next_word.second.end b.within c.in_default-next_word-2.ensures.none))) (λ four. absurd (omega (arith, four)))

pub returns-in_default-next_word-3-clause-fault : goal.returns-in_default-next_word-3-clause-fault
returns-in_default-next_word-3-clause-fault c =
    let text = c.args.text.now in
    let a = c.in-Some.ensures.some in
    let b = c.in-Some-next_word.ensures.some in
    let d = c.in-Some-next_word-2.ensures.some in
    sym (ap (four_fault (length text)) (front text c.args.from _ _ _ a (front text c.in-Some.first.end _ _ _ b (front text c.in-Some-next_word.second.end _ _ _ d
    (none_at text c.in-Some-next_word-2.third.end d.within c.in_default-next_word-3.ensures.none)))))

pub returns-in_default-next_word-3-clause-others : goal.returns-in_default-next_word-3-clause-others
returns-in_default-next_word-3-clause-others c =
    let text = c.args.text.now in
    let a = c.in-Some.ensures.some in
    let b = c.in-Some-next_word.ensures.some in
    let d = c.in-Some-next_word-2.ensures.some in
    no_four _ _ (front text c.args.from _ _ _ a (front text c.in-Some.first.end _ _ _ b (front text c.in-Some-next_word.second.end _ _ _ d
    (none_at text c.in-Some-next_word-2.third.end d.within c.in_default-next_word-3.ensures.none)))) (λ four. absurd (omega (arith, four)))

pub returns-in-Some-next_word-4-clause-fault : goal.returns-in-Some-next_word-4-clause-fault
returns-in-Some-next_word-4-clause-fault c =
    let text = c.args.text.now in
    let first = c.in-Some.first.end in
    let second = c.in-Some-next_word.second.end in
    let third = c.in-Some-next_word-2.third.end in
    let fourth = c.in-Some-next_word-3.fourth.end in
    sym (ap (four_fault (length text)) (front text c.args.from _ _ _ c.in-Some.ensures.some (front text first _ _ _ c.in-Some-next_word.ensures.some
    (front text second _ _ _ c.in-Some-next_word-2.ensures.some (front text third _ _ _ c.in-Some-next_word-3.ensures.some
    (word_at text fourth _ _ c.in-Some-next_word-4.ensures.some))))))

pub returns-in-Some-next_word-4-clause-others : goal.returns-in-Some-next_word-4-clause-others
returns-in-Some-next_word-4-clause-others c =
    let text = c.args.text.now in
    let first = c.in-Some.first.end in
    let second = c.in-Some-next_word.second.end in
    let third = c.in-Some-next_word-2.third.end in
    let fourth = c.in-Some-next_word-3.fourth.end in
    no_four _ _ (front text c.args.from _ _ _ c.in-Some.ensures.some (front text first _ _ _ c.in-Some-next_word.ensures.some
    (front text second _ _ _ c.in-Some-next_word-2.ensures.some (front text third _ _ _ c.in-Some-next_word-3.ensures.some
    (word_at text fourth _ _ c.in-Some-next_word-4.ensures.some))))) (λ four. absurd (omega (arith, four)))

pub returns-clause-four : goal.returns-clause-four
returns-clause-four c =
    let fourth = c.in-Some-next_word-3.ensures.some in
    four_at c.args.text.now c.args.from _ _ _ _ c.in-Some.first.end c.in-Some-next_word.second.end c.in-Some-next_word-2.third.end c.in-Some-next_word-3.fourth.end
    c.in-Some.ensures.some c.in-Some-next_word.ensures.some c.in-Some-next_word-2.ensures.some fourth fourth.within c.in_default-next_word-4.ensures.none
