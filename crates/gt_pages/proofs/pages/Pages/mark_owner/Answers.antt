use Rattle.std.proofs.Common.{◌≡◌, ℕ, true, Some, None, subst, ◌∙◌}
use Rattle.std.specs.Prelude.{is_none}
use Rattle.gt_pages.specs.Slots.{mark_at, new_mark, owner_of, with_mark_at}
use Rattle.gt_pages.specs.Contents.{with_slots}
use Rattle.gt_pages.specs.Parts.{contents_of, parts_of}
use Rattle.gt_pages.proofs.pages.Pages.mark_owner.Goals as goal

pub returns : goal.returns
returns c = record {
  none = subst (λ v. owner_of v.slots c.args.addr ≡ None → c.mark_owner.result ≡ None) c.self.view_is c.mark_owner.ensures.none;
  fresh = subst (λ v. (start size : ℕ) → owner_of v.slots c.args.addr ≡ Some (start, size) → c.mark_owner.result ≡ Some (is_none (mark_at v.slots start)))
      c.self.view_is c.mark_owner.ensures.fresh;
  marked = subst (λ v. (start size : ℕ) → owner_of v.slots c.args.addr ≡ Some (start, size) → c.mark_owner.result ≡ Some true
      → contents_of (parts_of c.mark_owner.new.self) ≡ with_slots v (with_mark_at v.slots start (Some (new_mark c.args.walk c.args.count))))
      c.self.view_is c.mark_owner.ensures.marked;
  unchanged = λ apart. c.mark_owner.ensures.unchanged apart ∙ c.self.view_is;
}
