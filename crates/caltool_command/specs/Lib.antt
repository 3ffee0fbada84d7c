pub use Rattle.chrono_text.specs.Numbers
pub mod Words
pub mod Types
pub mod Grammar
pub mod Commands
pub mod Private
