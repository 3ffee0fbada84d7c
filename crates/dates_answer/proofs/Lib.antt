mod Ground
mod FarMoves
mod Distances
mod PartLemmas
mod CellLemmas
mod KnownParts
