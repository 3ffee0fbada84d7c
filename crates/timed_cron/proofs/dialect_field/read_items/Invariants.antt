-- The set so far, with the items of the rest behind it, is what all items make; and the rest begins at the place.
use Rattle.std.proofs.Common.{◌≡◌, ◌+◌, length}
use Rattle.std.specs.Str.{byte}
use Rattle.chrono_text.specs.Lists.{pieces}
use Rattle.timed_cron.specs.DialectFields.{items_read}
use Rattle.timed_cron.proofs.dialect_field.read_items.Given as goal

abbrev pub invariant-loop-span : goal.invariant-loop-span
invariant-loop-span g l = record {
  same : items_read g.S.SpanSet.with l.fn.form l.initial.set 0 (pieces (byte ",") l.initial.rest) ≡ items_read g.S.SpanSet.with l.fn.form l.set l.place (pieces (byte ",") l.rest);
  whole : l.place + length l.rest ≡ length l.initial.rest;
}

abbrev pub decreases-loop-span : goal.decreases-loop-span
decreases-loop-span g l = length l.rest
