-- Arguments, read one after another.
use Rattle.std.proofs.Common.{◌≡◌, ◌≤◌, ◌-◌, List, [], ◌∷◌, length, take, drop, get_or, map, Ok, Err, refl, sym, ap, ◌∙◌, arith}
use Rattle.std.proofs.lemmas.List.{take_all}
use Rattle.command_words.specs.declared.table.Opt.{Opt}
use Rattle.command_words.specs.declared.words.Word.{Word}
use Rattle.command_words.specs.declared.words.Why.{Why}
use Rattle.command_words.specs.Arguments.{Got, Mode, Seen, Step, and_then, finished, read, seen, step}

-- no word, which stands for one past the end
abbrev pub no_word : Word
no_word = record { place = 0; text = record { ref_ptr = (0, 0); now = [] } }

abbrev pub first : List Word → Seen
first words = seen (get_or words 0 no_word)

abbrev pub behind : List Word → List Word
behind words = take (length words - 1) (drop 1 words)

ahead : (words : List Word) → 1 ≤ length words → map seen words ≡ first words ∷ map seen (behind words)
ahead [] some = absurd (omega arith)
ahead (w ∷ words) some = ap (λ (rest : List Word). seen w ∷ map seen rest) (sym (take_all _ words (omega arith)))

read_ahead : (table : List Opt) (g : Got) (m : Mode) (words : List Word) (s : Step) → 1 ≤ length words → step table g m (first words) ≡ s
    → read table g m (map seen words) ≡ and_then s (λ h k. read table h k (map seen (behind words)))
unfolding read
read_ahead table g m words s some is = ap (read table g m) (ahead words some) ∙ ap (λ x. and_then x (λ h k. read table h k (map seen (behind words)))) is

pub read_wrong : (table : List Opt) (g : Got) (m : Mode) (words : List Word) (w : Seen) (cause : Why) → 1 ≤ length words
    → step table g m (first words) ≡ Err (w, cause) → read table g m (map seen words) ≡ Err (w, cause)
read_wrong table g m words w cause some is = read_ahead table g m words (Err (w, cause)) some is

pub read_more : (table : List Opt) (g h : Got) (m k : Mode) (words : List Word) → 1 ≤ length words
    → step table g m (first words) ≡ Ok (h, k) → read table g m (map seen words) ≡ read table h k (map seen (behind words))
read_more table g h m k words some is = read_ahead table g m words (Ok (h, k)) some is

pub read_end : (table : List Opt) (g : Got) (m : Mode) (words : List Word) → length words ≡ 0 → read table g m (map seen words) ≡ finished g m
unfolding read
read_end table g m [] none = refl
read_end table g m (w ∷ words) none = absurd (omega (arith, none))
