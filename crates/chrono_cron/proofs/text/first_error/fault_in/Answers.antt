use Rattle.std.proofs.Common.{◌∙◌, sym}
use Rattle.chrono_cron.proofs.FieldFaults.{fault_listed, fault_named}
use Rattle.chrono_cron.proofs.text.first_error.fault_in.Goals as goal

pub returns-in-Some-clause-value : goal.returns-in-Some-clause-value
returns-in-Some-clause-value c = fault_named c.args.field c.args.place c.args.item.now (c.in-Some.before, c.in-Some.fault) (sym c.named_fault.ensures.value ∙ c.in-Some.is)

pub returns-in-None-clause-value : goal.returns-in-None-clause-value
returns-in-None-clause-value c =
    fault_listed c.args.field c.args.place c.args.item.now c.listed_fault-before.result (sym c.named_fault.ensures.value ∙ c.in-None.is) c.listed_fault-before.ensures.value
