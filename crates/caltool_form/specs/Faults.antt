-- What a program tells of a fault.
use Rattle.std.specs.Prelude.{ℕ, List, codes}
use Rattle.caltool_form.specs.declared.fault.RunFault.{RunFault}
use Rattle.caltool_form.specs.declared.fault.RunFault.TheVariants.{Read, Write}

-- the text on standard error, without its newline
abbrev pub fault_text : RunFault → List ℕ
fault_text Read = codes "read fault"
fault_text Write = codes "write fault"

-- the exit status
abbrev pub status_of : RunFault → ℕ
status_of Read = 1
status_of Write = 2
