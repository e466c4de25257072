use Rattle.std.proofs.Common.{◌≡◌, ◌≤◌, drop, None}
use Rattle.std.specs.Option.{option_map}
use Rattle.gt_search.specs.Lexemes.{name_of}
use Rattle.gt_parse.specs.Unmarked.{last_name}
use Rattle.gt_parse.proofs.typedefs.last_name.Given as goal

abbrev pub invariant-loop-token : goal.invariant-loop-token
invariant-loop-token l = record {
  few : l.depth ≤ l.token-index;
  so_far : last_name l.depth (option_map (λ s. name_of s.now) l.last) (drop l.token-index l.tokens) ≡ last_name 0 None l.tokens;
}
