-- What is wrong with rows and a rule, in one line.
use Rattle.std.specs.Prelude.{ℕ, List, ◌++◌, codes}
use Rattle.std.specs.Fmt.{decimal}
use Rattle.zone.specs.declared.fault.ZoneFault.{ZoneFault}
use Rattle.zone.specs.declared.fault.ZoneFault.TheVariants.{Unordered, NotJoined}

-- the sentence of a fault
unfoldable pub zone_fault_text : ZoneFault → List ℕ
zone_fault_text (Unordered place) = codes "row " ++ (decimal place ++ codes " does not follow the one before it")
zone_fault_text NotJoined = codes "the rule does not go on from the last row"
