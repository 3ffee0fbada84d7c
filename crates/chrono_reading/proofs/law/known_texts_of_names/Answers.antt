use Rattle.std.proofs.Common.{inl, inr, refl}
use Rattle.chrono_reading.proofs.NearMisses.{four_letters, two_letters}
use Rattle.chrono_reading.proofs.law.known_texts_of_names.Goals as goal

pub returns-clause-four_letters : goal.returns-clause-four_letters
returns-clause-four_letters c = four_letters

pub returns-clause-two_letters : goal.returns-clause-two_letters
returns-clause-two_letters c = two_letters

pub returns-clause-any_case : goal.returns-clause-any_case
returns-clause-any_case c = inr refl

pub returns-clause-whole : goal.returns-clause-whole
returns-clause-whole c = inl refl

pub returns-clause-month : goal.returns-clause-month
returns-clause-month c = inr refl

pub returns-clause-whole_month : goal.returns-clause-whole_month
returns-clause-whole_month c = inl refl
