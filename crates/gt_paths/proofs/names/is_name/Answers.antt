use Rattle.std.proofs.Common.{◌≡◌, ℕ, Bool, true, false, List, [], ◌∷◌, rules, length, arith}
use Rattle.std.specs.Prelude.{◌==◌}
use Rattle.std.specs.Bool.{Decides}
use Rattle.std.specs.List.{list_all}
use Rattle.gt_types.specs.Names.{IsName, is_name_character}
use Rattle.gt_paths.proofs.names.is_name.Goals as goal

no_name : (w : List ℕ) (e : Bool) → e ≡ (length w == 0) → e ≡ true → Decides false (IsName w)
no_name [] e is empty = search rules
no_name (c ∷ cs) e is empty = grind arith

some_name : (w : List ℕ) (e a : Bool) → e ≡ (length w == 0) → e ≡ false → a ≡ list_all is_name_character w → Decides a (IsName w)
some_name [] e a is some all = absurd (cc)
some_name (c ∷ cs) e a is some all = grind arith

pub returns-then-is_empty : goal.returns-then-is_empty
returns-then-is_empty c = record { decides = no_name c.args.word.now c.is_empty.result c.is_empty.ensures.empty c.if-is_empty.true }

pub returns : goal.returns
returns c = record { decides = some_name c.args.word.now c.is_empty.result _ c.is_empty.ensures.empty c.if-is_empty.false c.has_only_name_characters.ensures.characters }
