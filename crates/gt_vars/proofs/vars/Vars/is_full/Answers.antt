use Rattle.std.proofs.Common.{◌≡◌, ℕ, Option, Some, None, Bor, refl, ap, sym, ◌∙◌}
use Rattle.std.specs.Option.{is_some, option_copied}
use Rattle.std.specs.Ordering.{nat_cmp}
use Rattle.std.specs.Cmp.Lexicographic.{slice_cmp}
use Rattle.std.specs.Map.{keys_of}
use Rattle.std.proofs.lemmas.Bool.{lt-leb}
use Rattle.std.proofs.lemmas.Map.Keys.{IsDistinct-from_sorted}
use Rattle.gt_next.specs.States.{meaning}
use Rattle.gt_next.specs.declared.TheConstants.{MAX_VARIABLES}
use Rattle.gt_vars.proofs.VarsCounts.{full_of_entries, room_of_entries}
use Rattle.gt_vars.proofs.VarsEntries.{meaning-variables_of}
use Rattle.gt_vars.proofs.vars.Vars.is_full.Goals as goal

-- a number that was lent is there as it is
lent : (r : Option (Bor ℕ)) → is_some (option_copied r) ≡ is_some r
lent None = refl
lent (Some b) = refl

pub returns-then-len-ge-MAX_VARIABLES : goal.returns-then-len-ge-MAX_VARIABLES
returns-then-len-ge-MAX_VARIABLES c =
    let means : option_copied c.get.result ≡ meaning c.args.self.now c.args.name.now =
    c.get.ensures.value ∙ sym (meaning-variables_of c.self.inside.addresses.entries c.args.name.now) ∙ ap (λ v. meaning v c.args.name.now) c.self.view_is in
    record {
      full =
          full_of_entries c.self.inside.addresses.entries c.args.self.now c.args.name.now c.len.result c.is_none.result
          (IsDistinct-from_sorted (slice_cmp nat_cmp) (keys_of c.self.inside.addresses.entries) c.len.ensures.ordered) c.self.view_is c.len.ensures.len
          c.if-len-ge-MAX_VARIABLES.true (ap is_some (sym means) ∙ lent c.get.result ∙ c.is_none.ensures);
    }

pub returns-else-len-ge-MAX_VARIABLES : goal.returns-else-len-ge-MAX_VARIABLES
returns-else-len-ge-MAX_VARIABLES c =
    record {
      full =
          room_of_entries c.self.inside.addresses.entries c.args.self.now c.args.name.now c.len.result _
          (IsDistinct-from_sorted (slice_cmp nat_cmp) (keys_of c.self.inside.addresses.entries) c.len.ensures.ordered) c.self.view_is c.len.ensures.len
          c.if-len-ge-MAX_VARIABLES.false (lt-leb MAX_VARIABLES c.len.result c.if-len-ge-MAX_VARIABLES.false);
    }
