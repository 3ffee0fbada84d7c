use Rattle.std.specs.Prelude.{None}
use Rattle.zone_database.proofs.owned_zone.OwnedZone.from_tzif_rows.Goals as goal

pub returns-in-Some-clause-error : goal.returns-in-Some-clause-error
returns-in-Some-clause-error g c = record {
  zone = record { first = c.in_ok-first.first; rows = c.in_ok-first.rows.items; rule = None };
  held = rw c.as_slice.ensures.value at c.in_ok-first.ensures.read;
  faulty = rw c.as_slice-2.ensures.value at c.in-Some.ensures.fault;
}
