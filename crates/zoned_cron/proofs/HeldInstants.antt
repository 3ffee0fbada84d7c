-- An instant that a stretch of the clock surrounds.
use Rattle.std.proofs.Common.{◌≡◌, ℤ, pos, ◌+ℤ◌, ◌-ℤ◌, ◌≤ℤ◌, ◌<ℤ◌, arith, ap, subst, sym, ◌∙◌}
use Rattle.std.proofs.lemmas.Int.{ints}
use Rattle.chrono_zoned.specs.Zones.{HoldsUntil, IsOnly, Shows}
use Rattle.chrono_zoned.proofs.SecondSums.{near}
use Rattle.chrono_instant.specs.Offsets.{IsOffset}
use Rattle.zoned_cron.specs.Private.{BeginsBefore, EndsBehind, IsHeld, IsSettled, Outlasts, Precedes}
use Rattle.zoned_cron.specs.declared.search.held.Held.{Held}
use Rattle.zoned_cron.proofs.Stretches.{near_shows, settled_within}

earlier_by : (a b : ℤ) → (a +ℤ pos 172_800) ≤ℤ b → a ≤ℤ b
earlier_by a b h = omega (arith, ints, h)

later_by : (a b : ℤ) → (a +ℤ pos 172_800) ≤ℤ b → a <ℤ b
later_by a b h = omega (arith, ints, h)

-- there the clock shows a local second by the offset of the stretch
pub shows_there : (ahead : ℤ → ℤ) (h : Held) (l c : ℤ) → IsHeld ahead h → c ≡ (l -ℤ h.offset) → Precedes h c → Outlasts h c → Shows ahead l c
shows_there ahead h l c held is begun high =
    near_shows ahead h.from h.until l c held.holds (is ∙ ap (λ (x : ℤ). l -ℤ x) held.offset) (earlier_by h.from c begun) (later_by c h.until high)

-- and no change is near
pub settled_there : (ahead : ℤ → ℤ) (h : Held) (c : ℤ) → IsHeld ahead h → Precedes h c → Outlasts h c → IsSettled ahead c
settled_there ahead h c held begun high = settled_within ahead h.from h.until c held.holds held.near begun high

-- by the offset of the stretch the clock shows a local second, all of whose instants lie in it, at one of them
within_stretch : (from until l o : ℤ) → IsOffset o → (from +ℤ pos 86_400) ≤ℤ l → (l +ℤ pos 86_400) ≤ℤ until → (from ≤ℤ (l -ℤ o)) × ((l -ℤ o) <ℤ until)
within_stretch from until l o small begun high = let close = near o small in (omega (arith, ints, close, begun), omega (arith, ints, close, high))

held_offset : (ahead : ℤ → ℤ) (h : Held) → IsHeld ahead h → IsOffset h.offset
held_offset ahead h held = subst (λ (x : ℤ). IsOffset x) (sym held.offset) (held.near h.from)

pub shows_between : (ahead : ℤ → ℤ) (h : Held) (l : ℤ) → IsHeld ahead h → BeginsBefore h l → EndsBehind h l → Shows ahead l (l -ℤ h.offset)
shows_between ahead h l held begun high =
    let within = within_stretch h.from h.until l h.offset (held_offset ahead h held) begun high in
    near_shows ahead h.from h.until l (l -ℤ h.offset) held.holds (ap (λ (x : ℤ). l -ℤ x) held.offset) within.0 within.1

-- and at no other instant
pub only_between : (ahead : ℤ → ℤ) (h : Held) (l : ℤ) → IsHeld ahead h → BeginsBefore h l → EndsBehind h l → IsOnly (Shows ahead l) (l -ℤ h.offset)
only_between ahead h l held begun high = λ v. (
  λ there.
      let close = near (ahead v) (held.near v) in
      let is : ahead v ≡ ahead h.from = held.holds v (omega (arith, ints, close, there, begun)) (omega (arith, ints, close, there, high)) in
      omega (arith, ints, there, is, held.offset),
  λ e. subst (λ (x : ℤ). Shows ahead l x) (sym e) (shows_between ahead h l held begun high),
)

-- a later local time lies behind the beginning of a stretch that begins two days before the start
pub begins_sooner : (ahead : ℤ → ℤ) (h : Held) (start l : ℤ) → IsHeld ahead h → Precedes h start → start <ℤ (l -ℤ h.offset) → BeginsBefore h l
begins_sooner ahead h start l held begun later = let close = near h.offset (held_offset ahead h held) in omega (arith, ints, close, begun, later)

-- the start lies in the stretch, if its instant does
pub holds_from_start : (ahead : ℤ → ℤ) (h : Held) (start l : ℤ) → IsHeld ahead h → Precedes h start → start <ℤ (l -ℤ h.offset) → EndsBehind h l → (ahead start ≡ h.offset) × ((l -ℤ h.offset) <ℤ h.until) × HoldsUntil ahead start h.until
holds_from_start ahead h start l held begun later high =
    let close = near h.offset (held_offset ahead h held) in
    let end : (l -ℤ h.offset) <ℤ h.until = omega (arith, ints, close, high) in
    let here : ahead start ≡ ahead h.from = held.holds start (omega (arith, ints, begun)) (omega (arith, ints, later, end)) in
    (here ∙ sym held.offset, end, λ v from to. held.holds v (omega (arith, ints, begun, from)) to ∙ sym here)
