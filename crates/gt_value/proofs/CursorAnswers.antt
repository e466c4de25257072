-- What a cursor answers, of the value in which it stands.
use Rattle.std.proofs.Common.{ℕ, List, [], ◌∷◌, ◌++◌, sym, subst, ◌∙◌, Option, Some, None}
use Rattle.std.specs.Prelude.{MatchOption}
use Rattle.gt_types.specs.Settled.{Settled}
use Rattle.gt_tree.specs.Trees.{Tree}
use Rattle.gt_value.specs.declared.cursors.Cursor.{Cursor}
use Rattle.gt_value.specs.declared.sources.Source.{Source}
use Rattle.gt_value.specs.Places.{Part, PartLies}
use Rattle.gt_value.specs.Finding.{StandsIn}
use Rattle.gt_value.specs.Reading.{Stands}
use Rattle.gt_value.specs.Cursors.{Frame, IsRead, IsAtPart, LiesAt, IsAt, IsSomewhere, IsNoPart, IsStep, IsNoStep, StepAnswers}
use Rattle.gt_value.proofs.CursorPaths.{part-after, lies-on, lies-after}

-- what stands at a cursor
pub stands-here : (c : Cursor) → IsSomewhere c → (value : Tree) × Stands c.source c.site.around c.ty.now c.at value
stands-here c s = (s.is.p.tree, s.is.stands.0)

-- a part lies in the same way by what is read
lies-read : (at : Frame) (source : Source) (c : Cursor) (p q : Part) (path : List ℕ) → IsRead at source → IsAtPart c p
    → PartLies source.program.now source.layouts.now.structures p.scope c.site.holder c.site.around.whole c.at c.ty.now p.tree path q → LiesAt at p path q
lies-read at source c p q path read is lies =
    subst (λ x. PartLies x at.layouts.structures p.scope p.holder p.active p.bit p.type p.tree path q) read.program
    (subst (λ x. PartLies source.program.now x.structures p.scope p.holder p.active p.bit p.type p.tree path q) read.layouts
    (subst (λ x. PartLies source.program.now source.layouts.now.structures p.scope x p.active p.bit p.type p.tree path q) is.holder_is
    (subst (λ x. PartLies source.program.now source.layouts.now.structures p.scope c.site.holder x p.bit p.type p.tree path q) is.active_is
    (subst (λ x. PartLies source.program.now source.layouts.now.structures p.scope c.site.holder c.site.around.whole x p.type p.tree path q) is.bit_is
    (subst (λ x. PartLies source.program.now source.layouts.now.structures p.scope c.site.holder c.site.around.whole c.at x p.tree path q) is.type_is lies)))))

read-lies : (at : Frame) (source : Source) (c : Cursor) (p q : Part) (path : List ℕ) → IsRead at source → IsAtPart c p → LiesAt at p path q
    → PartLies source.program.now source.layouts.now.structures p.scope c.site.holder c.site.around.whole c.at c.ty.now p.tree path q
read-lies at source c p q path read is lies =
    subst (λ x. PartLies source.program.now source.layouts.now.structures p.scope c.site.holder c.site.around.whole c.at x p.tree path q) (sym is.type_is)
    (subst (λ x. PartLies source.program.now source.layouts.now.structures p.scope c.site.holder c.site.around.whole x p.type p.tree path q) (sym is.bit_is)
    (subst (λ x. PartLies source.program.now source.layouts.now.structures p.scope c.site.holder x p.bit p.type p.tree path q) (sym is.active_is)
    (subst (λ x. PartLies source.program.now source.layouts.now.structures p.scope x p.active p.bit p.type p.tree path q) (sym is.holder_is)
    (subst (λ x. PartLies source.program.now x.structures p.scope p.holder p.active p.bit p.type p.tree path q) (sym read.layouts)
    (subst (λ x. PartLies x at.layouts.structures p.scope p.holder p.active p.bit p.type p.tree path q) (sym read.program) lies)))))

module _ (at : Frame) (c : Cursor) (value : Part) (path : List ℕ) (here : IsAt at c value path) (place : ℕ) where
  step-on : (next : Cursor) → IsStep c.source c.site here.p.scope c.ty.now c.at here.p.tree place next → IsAt at next value (path ++ place ∷ [])
  step-on next s = record {
    p = s.p;
    lies = lies-on here.lies (place ∷ []) s.p (lies-read at c.source c here.p s.p (place ∷ []) here.read here.is s.lies);
    there = part-after value.tree path (place ∷ []) here.p.tree here.there ∙ s.there;
    is = s.is;
    read = subst (λ x. IsRead at x) (sym s.source_is) here.read;
    stands = subst (λ x. StandsIn x next.site.around s.p.scope next.ty.now next.at s.p.tree) (sym s.source_is) s.stands;
  }

  no-step-on : Settled at.program → IsNoStep c.source c.site here.p.scope c.ty.now c.at here.p.tree place → IsNoPart at value path place
  no-step-on settled none rest = record {
    lies = λ q lies. none.lies rest q (read-lies at c.source c here.p q (place ∷ rest) here.read here.is (lies-after settled here.lies (place ∷ rest) q lies));
    leaf = λ leads. none.leaf rest (leads.0, sym (part-after value.tree path (place ∷ rest) here.p.tree here.there) ∙ leads.1, leads.2);
  }

-- what a step answers of what stands there, it answers of the whole value
abbrev pub StepsOn : Cursor → ℕ → Option Cursor → Type 0
StepsOn c place result =
    MatchOption result ((at : Frame) (value : Part) (path : List ℕ) → IsAt at c value path → IsNoPart at value path place)
    (λ next. (at : Frame) (value : Part) (path : List ℕ) → IsAt at c value path → IsAt at next value (path ++ place ∷ []))

settled-here : (at : Frame) (c : Cursor) (value : Part) (path : List ℕ) → IsAt at c value path → Settled at.program
settled-here at c value path here = subst Settled here.read.program here.stands.0.context.settled

pub steps-on : (c : Cursor) (place : ℕ) (result : Option Cursor) → StepAnswers c.source c.site c.ty.now c.at place result → StepsOn c place result
steps-on c place None h = λ at value path here. no-step-on at c value path here place (settled-here at c value path here) (h here.p.scope here.p.tree here.stands)
steps-on c place (Some next) h = λ at value path here. step-on at c value path here place next (h here.p.scope here.p.tree here.stands)
