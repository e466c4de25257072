use Rattle.std.proofs.Common.{ℕ, ◌-◌, List, [], ◌∷◌, Option, length, take, subst, ◌∙◌, arith}
use Rattle.std.proofs.lemmas.List.{length-take-le}
use Rattle.gt_paths.specs.OuterPaths.{AreReached}
use Rattle.gt_paths.proofs.Reaching.{kept_copy, name_more, never_more, no_names, prefixes_more, with_last}
use Rattle.gt_paths.proofs.frontiers.+reached_by.Goals as goal

-- no name
pub returns-in_default-clause-reached : goal.returns-in_default-clause-reached
returns-in_default-clause-reached t c =
    no_names c.args.program.now c.args.starts.now c.of.result c.args.prefix.now c.in_default.len_below (c.of.ensures.items ∙ c.in_ok-to_vec.ensures.items_if_clones_equal (λ x y e. e))

-- what is kept already
pub returns-in-Some-clause-reached : goal.returns-in-Some-clause-reached
returns-in-Some-clause-reached t c =
    kept_copy c.args.program.now c.args.starts.now c.args.prefixes.now c.in_ok-key.key c.args.prefix.now c.in-Some.reached.now c.copy_of.result c.requires.prefixes c.in-Some.ensures.value
    c.in_ok-key.ensures.same c.copy_of.ensures.same

pub reached_by-requires : goal.reached_by-requires
reached_by-requires t c = (
  omega (arith, c.in-len1-up.len_at_least, length-take-le (length c.args.prefix.now - 1) c.args.prefix.now (omega arith)),
  (c.requires.index, (c.requires.distinct, c.requires.prefixes)),
)

-- the names before the last reach nothing from one
pub returns-in-None-clause-reached : goal.returns-in-None-clause-reached
returns-in-None-clause-reached t c =
    let prefix = c.args.prefix.now in
    never_more c.args.program.now c.args.starts.now (take (length prefix - 1) prefix) prefix c.name-item.result (with_last prefix c.name-item.result c.in-len1-up.len_at_least c.name-item.is)
    (subst (λ (o : Option (List ℕ)). AreReached c.args.program.now c.args.starts.now (take (length prefix - 1) prefix) o) c.in-None.is c.in_ok-reached_by.ensures.reached)

-- one more name
pub returns-in_ok-insert-in-Some-2-clause-reached : goal.returns-in_ok-insert-in-Some-2-clause-reached
returns-in_ok-insert-in-Some-2-clause-reached t c =
    let prefix = c.args.prefix.now in
    name_more c.args.program.now c.args.starts.now (take (length prefix - 1) prefix) prefix c.name-item.result c.in-Some-2.from c.in_ok-reached-in-Some-2.reached
    (with_last prefix c.name-item.result c.in-len1-up.len_at_least c.name-item.is)
    (subst (λ (o : Option (List ℕ)). AreReached c.args.program.now c.args.starts.now (take (length prefix - 1) prefix) o) c.in-Some-2.is c.in_ok-reached_by.ensures.reached)
    (subst (λ (ids : List ℕ). AreReached c.args.program.now ids (c.name-item.result ∷ []) c.in_ok-reached-in-Some-2.reached) c.as_slice.ensures.items c.in_ok-reached-in-Some-2.ensures.reached)

-- and it is kept
pub returns-in_ok-insert-in-Some-2-clause-prefixes : goal.returns-in_ok-insert-in-Some-2-clause-prefixes
returns-in_ok-insert-in-Some-2-clause-prefixes t c =
    let prefix = c.args.prefix.now in
    prefixes_more c.args.program.now c.args.starts.now c.reached_by.new.prefixes c.insert.new.self c.in_ok-key.key prefix c.in_ok-kept-in-Some-2.kept c.in_ok-reached-in-Some-2.reached
    c.in_ok-insert-in-Some-2.ensures.updates.0 c.in_ok-key.ensures.same c.in_ok-kept-in-Some-2.ensures.same c.in_ok-reached_by.ensures.prefixes
    (name_more c.args.program.now c.args.starts.now (take (length prefix - 1) prefix) prefix c.name-item.result c.in-Some-2.from c.in_ok-reached-in-Some-2.reached
    (with_last prefix c.name-item.result c.in-len1-up.len_at_least c.name-item.is)
    (subst (λ (o : Option (List ℕ)). AreReached c.args.program.now c.args.starts.now (take (length prefix - 1) prefix) o) c.in-Some-2.is c.in_ok-reached_by.ensures.reached)
    (subst (λ (ids : List ℕ). AreReached c.args.program.now ids (c.name-item.result ∷ []) c.in_ok-reached-in-Some-2.reached) c.as_slice.ensures.items c.in_ok-reached-in-Some-2.ensures.reached))
