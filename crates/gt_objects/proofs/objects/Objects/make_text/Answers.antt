use Rattle.std.proofs.Common.{◌≡◌, ◌+◌, ◌<◌, ℕ, suc, length, replicate, Some, Err, Result, ap, sym, subst, ◌∙◌, inl, inr, arith}
use Rattle.std.proofs.lemmas.Bool.{cases_lt}
use Rattle.std.proofs.lemmas.List.Elements.{All-from_get_or}
use Rattle.gt_objects.specs.declared.making.Made.{Made}
use Rattle.gt_objects.specs.declared.making.MakeFail.{MakeFail}
use Rattle.gt_objects.specs.declared.making.MakeFail.TheVariants.{Full}
use Rattle.gt_objects.specs.Making.{TakesBlock}
use Rattle.gt_value.specs.declared.names.BlockKind.TheVariants as told
use Rattle.gt_pages.specs.Ledger.{rounded}
use Rattle.gt_objects.proofs.Before.{heap_as_before}
use Rattle.gt_objects.proofs.Characters.{text_inside, text_made, text_sized, text_too_large}
use Rattle.gt_objects.proofs.Listed.{none_rounded, rounded_listed}
use Rattle.gt_objects.proofs.Taking.{ends_above, starts_below}
use Rattle.gt_objects.proofs.objects.Objects.make_text.Goals as goal

far : (n : ℕ) → (n + 1 < 4294967296 → ⊥) → 1048576 < suc n
far n over = elim (cases_lt 1048576 (suc n)) as (λ _. 1048576 < suc n) [
  | inl large ↦ large
  | inr small ↦ absurd (over (omega (arith, small)))
]

same_need : (size need : ℕ) → ◌≡◌ {A = Result Made MakeFail} (Err (Full size)) (Err (Full need)) → size ≡ need
same_need size need e = cc

-- the count is as many bytes as the text has, and one
count_is : (n count : ℕ) → count ≡ n + 1 → count ≡ suc n
count_is n count e = omega (arith, e)

pub returns-in_default-clause-too_large : goal.returns-in_default-clause-too_large
returns-in_default-clause-too_large c e = λ program layouts. text_too_large program layouts c.args.text.now (none_rounded (suc (length c.args.text.now)) (far (length c.args.text.now) c.in_default.ensures))

pub returns-in_default-rounded_size-clause-too_large : goal.returns-in_default-rounded_size-clause-too_large
returns-in_default-rounded_size-clause-too_large c e = λ program layouts.
    text_too_large program layouts c.args.text.now (ap rounded (sym (count_is (length c.args.text.now) c.in-Ok.count c.in-Ok.ensures.1)) ∙ sym c.in_default-rounded_size.ensures.least)

pub take_block-requires-clause-listed : goal.take_block-requires-clause-listed
take_block-requires-clause-listed c = (rounded_listed c.in-Ok.count c.in-Some.size (sym c.in-Some.ensures.least)).0

pub copy_in-requires : goal.copy_in-requires
copy_in-requires c =
    let ready = c.requires.ready in
    let listed = rounded_listed c.in-Ok.count c.in-Some.size (sym c.in-Some.ensures.least) in
    text_inside c.args.self.now c.take_block.new.self _ c.in-Ok-take_block.addr c.in-Some.size c.in-Ok-take_block.ensures.taken listed.0 c.args.text.now (omega (arith, c.in-Ok.ensures.1, listed.1))
    (starts_below ready.0 ready.1 c.args.self.now ready.2 ready.3) (ends_above ready.0 ready.1 c.args.self.now ready.2 ready.3)

pub returns-in-Ok-take_block-clause-made : goal.returns-in-Ok-take_block-clause-made
returns-in-Ok-take_block-clause-made c = λ program layouts heap settled laid within is.
    let count = count_is (length c.args.text.now) c.in-Ok.count c.in-Ok.ensures.1 in
    text_made program layouts within c.args.self.now c.take_block.new.self heap is c.args.text.now (All-from_get_or (λ byte. byte < 256) c.args.text.now 0 (λ i low. (c.type_inv.text i).fits))
    c.in-Ok-take_block.addr c.in-Some.size (ap rounded (sym count) ∙ sym c.in-Some.ensures.least)
    (subst (λ n. TakesBlock c.args.self.now (record { kind = told.Chars; count = n; capacity = 0 }) c.in-Ok-take_block.addr c.in-Some.size (replicate c.in-Some.size 0) c.take_block.new.self) count
    c.in-Ok-take_block.ensures.taken) c.copy_in.new.self c.copy_in.ensures.bytes

pub returns-in-Err-Full-clause-size : goal.returns-in-Err-Full-clause-size
returns-in-Err-Full-clause-size c = λ need e program layouts.
    text_sized program layouts c.args.text.now need
    (ap rounded (sym (count_is (length c.args.text.now) c.in-Ok.count c.in-Ok.ensures.1)) ∙ sym c.in-Some.ensures.least ∙ ap (λ n. Some n) (same_need c.in-Some.size need e))

pub returns-in-Err-Full-clause-unchanged : goal.returns-in-Err-Full-clause-unchanged
returns-in-Err-Full-clause-unchanged c = λ program layouts heap is. heap_as_before program layouts c.args.self.now c.take_block.new.self c.in-Err-Full.ensures.unchanged heap is

pub returns-in-Err-Memory-clause-unchanged : goal.returns-in-Err-Memory-clause-unchanged
returns-in-Err-Memory-clause-unchanged c = λ program layouts heap is. heap_as_before program layouts c.args.self.now c.take_block.new.self c.in-Err-Memory.ensures.unchanged heap is
