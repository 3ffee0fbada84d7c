-- Numbers by steps.
use Rattle.std.specs.Prelude.{◌≡◌, ℕ, ◌-◌, ◌%◌, ◌==◌, nat_le, Bool, true, false, ◌&&◌, refl}

-- k is one of the numbers from `first` to `last` that lie a whole number of steps behind `first`
abbrev pub is_by_steps : ℕ → ℕ → ℕ → ℕ → Bool
is_by_steps first last step k = nat_le first k && (nat_le k last && ((k - first) % step == 0))

-- known values: 9-14/2 lists 13 and not 14, and of */20 the steps count from 0; 5-59/20 lists 25, and not 20
is_by_steps-thirteen : is_by_steps 9 14 2 13 ≡ true
is_by_steps-thirteen = refl

is_by_steps-fourteen : is_by_steps 9 14 2 14 ≡ false
is_by_steps-fourteen = refl

is_by_steps-forty : is_by_steps 0 59 20 40 ≡ true
is_by_steps-forty = refl

is_by_steps-twenty_five : is_by_steps 5 59 20 25 ≡ true
is_by_steps-twenty_five = refl

is_by_steps-twenty : is_by_steps 5 59 20 20 ≡ false
is_by_steps-twenty = refl

-- both ends are listed, and none past them
is_by_steps-last : is_by_steps 9 17 1 17 ≡ true
is_by_steps-last = refl

is_by_steps-past : is_by_steps 9 17 1 18 ≡ false
is_by_steps-past = refl

is_by_steps-before : is_by_steps 9 17 1 8 ≡ false
is_by_steps-before = refl
