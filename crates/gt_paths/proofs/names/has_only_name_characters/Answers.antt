use Rattle.std.proofs.Common.{◌≡◌, ℕ, List, [], ◌∷◌, ap, subst, ◌∙◌, refl, rules, IsUtf8}
use Rattle.std.specs.Prelude.{encode_utf8_all}
use Rattle.std.specs.Str.{chars}
use Rattle.std.specs.List.{list_all}
use Rattle.std.proofs.lemmas.Str.{chars-nil, chars_past_char, IsUtf8-past_char}
use Rattle.std.proofs.lemmas.Iterator.{YieldsList-from_chars}
use Rattle.std.proofs.lemmas.Iterator.Search.{all_from_yields_List}
use Rattle.gt_types.specs.Names.{is_name_character}
use Rattle.gt_paths.proofs.names.has_only_name_characters.Goals as goal

-- the characters of a text that is made of characters
chars-encode : (cs : List ℕ) → IsUtf8 (encode_utf8_all cs) → chars (encode_utf8_all cs) ≡ cs
chars-encode [] u = chars-nil
chars-encode (c ∷ cs) u =
    chars_past_char (encode_utf8_all (c ∷ cs)) (encode_utf8_all cs) c u refl
    ∙ ap (λ t. c ∷ t) (chars-encode cs (IsUtf8-past_char (encode_utf8_all (c ∷ cs)) (encode_utf8_all cs) c u refl))

pub returns : goal.returns
returns c =
    let same = c.as_str.ensures.text in
    let utf8 = subst IsUtf8 same c.as_str.utf8 in
    record {
      characters =
          all_from_yields_List is_name_character _ _ c.all.result c.all.ensures.ran
          (YieldsList-from_chars (encode_utf8_all c.args.word.now) utf8 (c.chars.ensures.rest ∙ same)) (λ x b q k. search rules)
          ∙ ap (list_all is_name_character) (chars-encode c.args.word.now utf8);
    }
