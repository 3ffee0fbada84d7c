pub mod PackedName
