use Rattle.std.proofs.Common.{◌≡◌, ◌<◌, ◌∷◌, ℤ, length, take, drop, sym, ap, ◌∙◌, arith, to_z-of_z, SFits, w64, rules, length-drop, length-set}
use Rattle.std.specs.Option.{option_map}
use Rattle.std.proofs.lemmas.List.{take_more_set}
use Rattle.caltool_command.specs.Words.{words}
use Rattle.caltool_command.specs.Grammar.{numbers_of}
use Rattle.caltool_command.specs.Private.{numbers_behind}
use Rattle.caltool_command.proofs.Reading.{before-more}
use Rattle.caltool_command.proofs.numbers.read_digits.Goals as goal

pub loop-rest-preserved : goal.loop-rest-preserved
loop-rest-preserved c =
    let l = c.loop-rest in
    let read = c.in-Some.ensures in
    let fits : SFits w64 c.in-Some.number = search rules in
    let some : 0 < length l.rest = grind arith in
    let inside : l.len < length l.items = omega arith in
    let next : numbers_of (words (drop 1 l.rest)) ≡ option_map (λ numbers. c.in-Some.number ∷ numbers) (numbers_behind c.in-Some.behind) =
    ap (λ text. numbers_of (words text)) (sym c.skip.ensures) ∙ read.some in
    record {
      so_far =
          rw (to_z-of_z fits, take_more_set l.items l.len c.in-Some.number inside)
          (before-more c.args.text l.rest c.in-Some.behind (take l.len l.items) c.in-Some.number l.invariant.so_far some l.invariant.ends next);
      ends = read.space;
      sized = omega (arith, l.invariant.sized, length-set {A = ℤ});
      room = omega (arith, read.shorter, some, ap length c.skip.ensures, length-drop 1 l.rest);
    }
