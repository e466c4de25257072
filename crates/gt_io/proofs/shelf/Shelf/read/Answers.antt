use Rattle.std.proofs.Common.{◌≡◌, ◌<◌, length, Option, List, ℕ, IsSomeAnd, arith, sym, ap, subst, ◌∙◌, Some}
use Rattle.std.specs.Option.{option_copied}
use Rattle.gt_io.specs.Held.{contents}
use Rattle.gt_io.proofs.HeldEntries.{contents-held_of}
use Rattle.gt_io.proofs.shelf.Shelf.read.Goals as goal

pub returns-in_default : goal.returns-in_default
returns-in_default c = record {
  answer =
      ap (λ m. contents m c.args.name.now) (sym c.self.view_is) ∙ contents-held_of c.self.inside.files.entries c.args.name.now
      ∙ sym c.get.ensures.value ∙ ap option_copied c.in_default.is;
}

pub returns-then-len-limit : goal.returns-then-len-limit
returns-then-len-limit c = record {
  answer =
      let found : contents c.args.self.now c.args.name.now ≡ Some c.in-Some.bytes.now =
      ap (λ m. contents m c.args.name.now) (sym c.self.view_is) ∙ contents-held_of c.self.inside.files.entries c.args.name.now
      ∙ sym c.get.ensures.value ∙ ap option_copied c.in-Some.is in
      let P : Option (List ℕ) → Type 0 = λ o. IsSomeAnd o (λ bytes. c.args.limit < length bytes) in
      subst P (sym found) (omega arith);
}

pub returns : goal.returns
returns c = record {
  answer = (
    let same : c.in_ok-copy.field-0 ≡ c.in-Some.bytes.now = c.in_ok-copy.ensures.same in
        rw same (omega arith),
    ap (λ m. contents m c.args.name.now) (sym c.self.view_is) ∙ contents-held_of c.self.inside.files.entries c.args.name.now
        ∙ sym c.get.ensures.value ∙ ap option_copied c.in-Some.is ∙ ap (λ b. Some b) (sym c.in_ok-copy.ensures.same),
  );
}
