use Rattle.std.proofs.Common.{[], ◌∷◌, ◌++◌, inr, refl}
use Rattle.zone_file.specs.KnownFiles.{known_header, known_kinds, known_names, known_rest, known_times, known_footer}
use Rattle.zone_file.proofs.law.known_files.Goals as goal

pub returns-clause-file : goal.returns-clause-file
returns-clause-file c = record {
  header = known_header 0 0 0 0 1 4;
  first_times = [];
  first_places = [];
  first_kinds = known_kinds;
  first_names = known_names;
  rest = known_rest;
  first = record {
    body = known_kinds ++ (known_names ++ known_rest);
    written = refl;
    header_long = refl;
    begins = refl;
    data_is = record { trailer = []; written = refl; times_long = refl; places_long = refl; kinds_long = refl; names_long = refl; trailer_long = refl };
  };
  version_is = refl;
  parts = inr (
    refl,
    record {
      behind = 10 ∷ (known_footer ++ 10 ∷ []);
      block = record {
        header = known_header 0 0 0 1 1 4;
        block = record {
          body = known_times ++ (0 ∷ (known_kinds ++ (known_names ++ (10 ∷ (known_footer ++ 10 ∷ [])))));
          written = refl;
          header_long = refl;
          begins = refl;
          data_is = record { trailer = []; written = refl; times_long = refl; places_long = refl; kinds_long = refl; names_long = refl; trailer_long = refl };
        };
        version_is = refl;
        counts = refl;
        no_leaps = refl;
      };
      ends = refl;
    },
  );
}
