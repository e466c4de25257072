use Rattle.gt_leaf.proofs.writing.write_static_leaf.Goals as goal

pub store_leaf-requires-clause-from_start : goal.store_leaf-requires-clause-from_start
store_leaf-requires-clause-from_start g c = let s = c.requires.stands in (c.judge_static_leaf.ensures.in_place c.in-InPlace.place c.in-InPlace.is s.0 s.1).at.is.from_start

pub store_leaf-requires-clause-bits : goal.store_leaf-requires-clause-bits
store_leaf-requires-clause-bits g c = let s = c.requires.stands in (c.judge_static_leaf.ensures.in_place c.in-InPlace.place c.in-InPlace.is s.0 s.1).at.is.bits

pub store_leaf-requires-clause-may : goal.store_leaf-requires-clause-may
store_leaf-requires-clause-may g c = let s = c.requires.stands in (c.judge_static_leaf.ensures.in_place c.in-InPlace.place c.in-InPlace.is s.0 s.1).holds

pub returns-in-InPlace-clause-written : goal.returns-in-InPlace-clause-written
returns-in-InPlace-clause-written g c = λ e values s.
    (c.judge_static_leaf.ensures.in_place c.in-InPlace.place c.in-InPlace.is values s).writes c.store_leaf.new.space c.store_leaf.ensures.written

pub returns-in-NotInPlace-clause-in_place : goal.returns-in-NotInPlace-clause-in_place
returns-in-NotInPlace-clause-in_place g c = λ e. c.judge_static_leaf.ensures.not_in_place c.in-NotInPlace.is

pub returns-in-Misfit-clause-misfit : goal.returns-in-Misfit-clause-misfit
returns-in-Misfit-clause-misfit g c = λ e. c.judge_static_leaf.ensures.misfit c.in-Misfit.is
