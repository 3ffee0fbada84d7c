use Rattle.std.proofs.Common.{rules}
use Rattle.caltool_form.proofs.Years.{shortened}
use Rattle.caltool_form.proofs.texts.push_front.Goals as goal

pub returns : goal.returns
returns g c = rw (c.shorten.ensures, c.push_text_if.ensures) (shortened c.args.out.now c.args.bytes c.args.len (search rules) c.requires.few)
