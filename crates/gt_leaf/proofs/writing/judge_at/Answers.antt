use Rattle.std.proofs.Common.{IsTrue}
use Rattle.gt_leaf.proofs.writing.judge_at.Goals as goal

pub returns-then-not-fits_at-clause-misfit : goal.returns-then-not-fits_at-clause-misfit
returns-then-not-fits_at-clause-misfit g c = λ e program around p said part.
    let alone_is : IsTrue c.is_alone.result = let h = c.if-not-is_alone.false in cc in
    record {
      alone = (c.is_alone.ensures program around p said part).0 alone_is;
      misfit = λ fits.
          let yes_is = (c.fits_at.ensures program p part).1 fits in
          let no_is = c.if-not-fits_at.true in
          cc;
    }

pub returns-clause-fit : goal.returns-clause-fit
returns-clause-fit g c = λ other e program around p said part.
    let alone_is : IsTrue c.is_alone.result = let h = c.if-not-is_alone.false in cc in
    let fits_is : IsTrue c.fits_at.result = let h = c.if-not-fits_at.false in cc in
    record { alone = (c.is_alone.ensures program around p said part).0 alone_is; fits = (c.fits_at.ensures program p part).0 fits_is }

pub returns-then-not-is_alone-clause-not_alone : goal.returns-then-not-is_alone-clause-not_alone
returns-then-not-is_alone-clause-not_alone g c = λ e program around p said part alone.
    let yes_is = (c.is_alone.ensures program around p said part).1 alone in
    let no_is = c.if-not-is_alone.true in
    cc
