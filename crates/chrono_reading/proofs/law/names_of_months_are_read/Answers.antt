use Rattle.std.proofs.Common.{inl, refl}
use Rattle.chrono_reading.proofs.law.names_of_months_are_read.Goals as goal

pub returns : goal.returns
returns c = λ m. inl refl
