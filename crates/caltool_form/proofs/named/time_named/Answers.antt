use Rattle.caltool_form.proofs.Tests.{time_named-SomeIff}
use Rattle.caltool_form.proofs.named.time_named.Goals as goal

pub returns : goal.returns
returns c = time_named-SomeIff c.from_hms_nano_opt.result c.args.time c.from_hms_nano_opt.ensures
