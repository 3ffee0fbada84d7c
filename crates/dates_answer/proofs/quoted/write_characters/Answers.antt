use Rattle.dates_answer.proofs.Ground.{◌≡◌, ◌++◌, [], append_assoc, append-nil, refl, sym, ap, ◌∙◌, rules}
use Rattle.std.proofs.Output.{has_written_append, has_written_of_eq}
use Rattle.std.proofs.lemmas.Str.{IsUtf8-past_char, chars_past_char}
use Rattle.std.proofs.StrCases.{chars_of_empty}
use Rattle.std.specs.List.{flat_map}
use Rattle.std.specs.Str.Iter.{chars_rest}
use Rattle.dates_answer.specs.Quoted.{json_char, json_chars}
use Rattle.dates_answer.proofs.quoted.write_characters.Goals as goal

pub loop-character-init : goal.loop-character-init
loop-character-init g c =
    let whole : chars_rest c.into_iter-character-iterator.result ≡ c.args.text.now = search rules in
    (rw whole c.utf8.text, λ plain. ([], search rules, rw whole refl))

pub loop-character-preserved : goal.loop-character-preserved
loop-character-preserved g c =
    let held = c.loop-character.invariant in
    let parts = c.in-Some.ensures.steps.0 in
    let character = c.in-Some.character in (
      IsUtf8-past_char _ _ character held.0 parts,
      λ plain.
          let so_far = held.1 plain in (
            so_far.0 ++ json_char character,
            has_written_append _ _ _ _ _ _ so_far.1 (search rules),
            append_assoc so_far.0 _ _ ∙ ap (λ x. so_far.0 ++ flat_map json_char x) (sym (chars_past_char _ _ character held.0 parts)) ∙ so_far.2,
          ),
    )

pub returns : goal.returns
unfolding json_chars
returns g c = record {
  writes = λ plain ok.
      let so_far = c.loop-character.invariant.1 plain in
      has_written_of_eq _ _ _ _ _ (sym (append-nil _) ∙ rw (chars_of_empty _ c.in-None.ensures.steps.0.0) at so_far.2) so_far.1;
}
