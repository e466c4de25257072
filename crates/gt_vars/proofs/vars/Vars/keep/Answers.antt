use Rattle.std.proofs.Common.{rules, ◌≤◌, subst}
use Rattle.std.specs.Ordering.{nat_cmp}
use Rattle.std.specs.Option.{is_some}
use Rattle.gt_objects.specs.InBytes.{known_in}
use Rattle.std.proofs.lemmas.Map.Keys.{IsDistinct-from_sorted}
use Rattle.std.proofs.lemmas.Map.Made.{filter_same_pairs}
use Rattle.std.specs.Cmp.Lexicographic.{slice_cmp}
use Rattle.std.specs.Map.{keys_of}
use Rattle.gt_next.specs.States.{count_of_variables}
use Rattle.gt_vars.specs.Held.{variables_of}
use Rattle.gt_vars.proofs.EntriesCount.{count_le-filter}
use Rattle.gt_vars.proofs.VarsEntries.{KeepsThose-filter}
use Rattle.gt_vars.proofs.vars.Vars.keep.Goals as goal

pub returns-clause-kept : goal.returns-clause-kept
returns-clause-kept c =
    KeepsThose-filter c.self.inside.addresses.entries c.retain.new.self.entries (λ id. is_some (known_in c.args.objects.now id))
    (IsDistinct-from_sorted (slice_cmp nat_cmp) (keys_of c.self.inside.addresses.entries) c.retain.ensures.was_ordered)
    (filter_same_pairs _ (λ e. is_some (known_in c.args.objects.now e.1)) _ (λ k v b w f t. search rules) c.self.inside.addresses.entries c.retain.new.self.entries c.retain.ensures.filtered)
    c.args.self.now c.self.view_is

pub returns-clause-few : goal.returns-clause-few
returns-clause-few c =
    let few : count_of_variables (variables_of c.retain.new.self.entries) ≤ count_of_variables (variables_of c.self.inside.addresses.entries) =
    count_le-filter c.self.inside.addresses.entries c.retain.new.self.entries (λ e. is_some (known_in c.args.objects.now e.1))
    (IsDistinct-from_sorted (slice_cmp nat_cmp) (keys_of c.self.inside.addresses.entries) c.retain.ensures.was_ordered)
    (filter_same_pairs _ (λ e. is_some (known_in c.args.objects.now e.1)) _ (λ k v b w f t. search rules) c.self.inside.addresses.entries c.retain.new.self.entries c.retain.ensures.filtered) in
    subst (λ v. count_of_variables (variables_of c.retain.new.self.entries) ≤ count_of_variables v) c.self.view_is few
