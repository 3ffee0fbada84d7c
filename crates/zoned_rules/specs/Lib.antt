pub mod LocalTimes
pub mod LocalInstants
pub mod Recurs
pub mod ZonedSets
pub mod ZonedInstanceLists
pub mod ZonedMemberLists
pub mod Private
