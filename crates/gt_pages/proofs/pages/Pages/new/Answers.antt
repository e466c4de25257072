use Rattle.std.proofs.Common.{ap, ◌∙◌, arith}
use Rattle.gt_pages.specs.Contents.{empty_contents}
use Rattle.gt_pages.specs.Parts.{parts_of}
use Rattle.gt_pages.proofs.NewLemmas.{contents_new, kept_new}
use Rattle.gt_pages.proofs.pages.Pages.new.Goals as goal

pub invariant_of-result : goal.invariant_of-result
invariant_of-result c = kept_new (parts_of c.in_ok-new.field-0) c.in_ok-new.ensures.fresh (omega (arith, c.requires.at_least, c.in_ok-new.ensures.pages)) (omega (arith, c.requires.at_most, c.in_ok-new.ensures.pages))

pub returns : goal.returns
returns c = record { empty = contents_new (parts_of c.in_ok-new.field-0) c.in_ok-new.ensures.fresh ∙ ap empty_contents c.in_ok-new.ensures.pages }
