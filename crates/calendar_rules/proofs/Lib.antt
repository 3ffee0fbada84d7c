mod ClockParts
mod TimedReads
mod InstantLists
mod RuleFits
mod SingleInstances
